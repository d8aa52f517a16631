-- The number for a message to be added, by what the datagram so far is. Assumes nothing.
use Prim.Native.Nat.{ℕ, zero, suc, ◌+◌, ◌<◌, ◌≤◌}
use native.Mathlib.Omega.{arith}
use mathlib.Core.Path.{◌≡◌, refl, sym, ap, ◌∙◌}
use mathlib.Core.List.{List, [], ◌∷◌, ◌++◌, append-nil}
use mathlib.Core.Bool.{Bool, true, false, not}
use lib.ListN.{length, length-append}
use lib.Seq.{drop-append_seam}
use lib.Dec.{eqb}
use borrow.Author.Tests.{eq-eqb}
use Rattle.base.specs.Pick.{pick, earlier}
use Rattle.wire.specs.Bytes.{be32}
use Rattle.wire.specs.Limits.{min_size, max_size}
use Rattle.wire.specs.Read.{cursor, step_of}
use Rattle.wire.specs.Layout.{Checked, checked_of, number_of, seen, is_end_only, handshake_fault, or_fault, handshake_layout, layout_step, layout_from, layout_of}
use Rattle.wire.specs.declared.message.Options.{Options}
use Rattle.wire.specs.declared.message.Options.TheVariants.{Fixed, EndOnly, Other}
use Rattle.wire.specs.declared.message.Message.{Message}
use Rattle.wire.specs.declared.message.Message.TheVariants.{Handshake, Data, Ack, Have, Integrity, Request, Cancel, Choke, Unchoke, Empty}
use Rattle.wire.specs.declared.message.Step.{Step}
use Rattle.wire.specs.declared.message.Step.TheVariants.{Read}
use Rattle.wire.specs.Layout.{Layout}
use Rattle.wire.specs.Layout.{Fault, HandshakeAlone, Messages}
use Rattle.wire.proofs.LocalLaws.{be32-local}
use Rattle.wire.proofs.ViewLaws.{refusing}
use Rattle.wire.proofs.ExtendLaws.{layout-suc, over, Extended, lengthened}
use Rattle.writer.specs.Message.{bytes_of, writable}
use Rattle.writer.specs.Lists.{HasWidths}
use Rattle.writer.specs.Steps.{size_of, fault_behind, allowed}
use Rattle.writer.proofs.SizeLaws.{bytes-length}
use Rattle.writer.proofs.BackLaws.{moved, moved_options, Behind, message-back}
use Rattle.format.specs.declared.Format.{Format}
use Rattle.wire.specs.Place.{named_size, timed_size}

-- ---- one step behind messages without HANDSHAKE or DATA
number_of_fault : (n : ℕ) (l : Layout) → number_of l ≡ 0 → number_of (or_fault n l) ≡ n
number_of_fault zero l e = e
number_of_fault (suc n) l e = refl

same_end : (at : ℕ) (o : Options) → is_end_only (moved_options at o) ≡ is_end_only o
same_end at (Fixed r) = refl
same_end at EndOnly = refl
same_end at Other = refl

module _ (F : Format) (s gs : List ℕ) (at next : ℕ) (to : ℕ) (dest : be32 s 0 ≡ to) (end : next ≡ length s) (rest : List ℕ → ℕ → Checked)
    (passes : (es : List ℕ) → number_of (rest es next).layout ≡ 0) where
  -- its number
  abbrev number_at : Step → ℕ
  number_at st = number_of (layout_step s gs at st rest).layout

  -- refused, or its number is 0
  tested : (x : Bool) (m : Message) → number_at (Read m (cursor next)) ≡ 0 → number_at (refusing (not x) (Read m (cursor next))) ≡ pick x 0 2
  tested true m e = e
  tested false m e = refl

  noded : (x : Bool) (f l h : ℕ) → number_at (refusing (not x) (Read (Integrity f l h) (cursor next))) ≡ earlier (pick (seen (f + l) gs) 2 0) (pick x 0 2)
  noded true f l h = by (seen (f + l) gs)
    where
      by : (y : Bool) → number_of (pick y (checked_of (Fault 2) gs) (rest (gs ++ ((f + l) ∷ h ∷ [])) next)).layout ≡ earlier (pick y 2 0) 0
      by true = refl
      by false = passes (gs ++ ((f + l) ∷ h ∷ []))
  noded false f l h = by (seen (f + l) gs)
    where
      by : (y : Bool) → 2 ≡ earlier (pick y 2 0) 2
      by true = refl
      by false = refl

  opening : (a : ℕ) (o : Options) → number_at (Read (Handshake a (moved_options (at + 5) o)) (cursor next)) ≡ pick (eqb at min_size) (handshake_fault to a o) 3
  unfolding handshake_layout handshake_fault
  opening a o =
      number_of_fault (pick (eqb at min_size) (pick (eqb next (length s)) (handshake_fault (be32 s 0) a (moved_options (at + 5) o)) 3) 3) (HandshakeAlone a (moved_options (at + 5) o)) refl
      ∙ rw (eq-eqb next (length s) end, dest, same_end (at + 5) o)

  pub step-number : (m : Message) → number_at (refusing (not (allowed F m)) (Read (moved F at m) (cursor next))) ≡ fault_behind F gs to at m
  step-number (Handshake a o) = opening a o
  step-number (Data f l x b n) = tested (allowed F (Data f l x b n)) (Data f l x (at + timed_size F) n) refl
  step-number (Ack f l d) = tested (allowed F (Ack f l d)) (Ack f l d) (passes gs)
  step-number (Have f l) = tested (allowed F (Have f l)) (Have f l) (passes gs)
  step-number (Integrity f l h) = noded (allowed F (Integrity f l h)) f l (at + named_size F)
  step-number (Request f l) = tested (allowed F (Request f l)) (Request f l) (passes gs)
  step-number (Cancel f l) = tested (allowed F (Cancel f l)) (Cancel f l) (passes gs)
  step-number Choke = passes gs
  step-number Unchoke = passes gs
  step-number (Empty k) = passes gs

pub nothing_behind : (m : Message) → Behind m []
nothing_behind (Handshake a o) = tt
nothing_behind (Data f l x b n) = refl
nothing_behind (Ack f l d) = tt
nothing_behind (Have f l) = tt
nothing_behind (Integrity f l h) = tt
nothing_behind (Request f l) = tt
nothing_behind (Cancel f l) = tt
nothing_behind Choke = tt
nothing_behind Unchoke = tt
nothing_behind (Empty k) = tt

-- ---- a message m with its bytes in a source, behind the datagram so far p
module _ (F : Format) (p source : List ℕ) (m : Message) (can : writable F (length source) m ≡ true) (low : min_size ≤ length p) (room : length p + size_of F m ≤ max_size) where
  size : length (p ++ bytes_of F source m) ≡ length p + size_of F m
  size = length-append p (bytes_of F source m) ∙ ap (λ (k : ℕ). length p + k) (bytes-length F source m can)

  -- the layout of both, by that of the first
  pub joined : Extended F p (bytes_of F source m) (layout_of F p).layout (layout_of F p).entries (layout_of F (p ++ bytes_of F source m))
  joined = lengthened F p (bytes_of F source m) low (omega (arith, size))

  -- behind messages without HANDSHAKE or DATA, with entries gs
  module _ (fits : HasWidths m) (gs : List ℕ) (c : Checked) (on : (k : ℕ) → length (bytes_of F source m) < k → c ≡ layout_from F k (p ++ bytes_of F source m) gs (length p)) where
    -- what is behind it is the end
    abbrev rest : List ℕ → ℕ → Checked
    rest es next = layout_from F (suc (length (bytes_of F source m))) (p ++ bytes_of F source m) es next

    pub rest_is : (es : List ℕ) → rest es (length p + size_of F m) ≡ checked_of (Messages (length es)) es
    rest_is es = over F (suc (length (bytes_of F source m))) (p ++ bytes_of F source m) es (length p + size_of F m) (omega (arith, size))

    pub behind-step : c ≡ layout_step (p ++ bytes_of F source m) gs (length p) (refusing (not (allowed F m)) (Read (moved F (length p) m) (cursor (length p + size_of F m)))) rest
    behind-step =
        let b = bytes_of F source m in
        let at = length p in
        on (suc (suc (length b))) (omega arith) ∙ layout-suc F (suc (length b)) (p ++ b) gs at
        ∙ ap (λ (x : Step). layout_step (p ++ b) gs at x rest)
        (ap (step_of F at) (drop-append_seam p b ∙ sym (append-nil b)) ∙ message-back F source at m fits can [] (nothing_behind m))

    pub behind-number : number_of c.layout ≡ fault_behind F gs (be32 p 0) (length p) m
    behind-number =
        let b = bytes_of F source m in
        ap (λ (x : Checked). number_of x.layout) behind-step
        ∙ step-number F (p ++ b) gs (length p) (length p + size_of F m) (be32 p 0) (be32-local p b 0 low) (sym size) rest (λ es. ap (λ (x : Checked). number_of x.layout) (rest_is es)) m
