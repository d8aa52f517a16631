-- The effects of messages on a channel, one after the other. Assumes nothing.
use Prim.Native.Nat.{ℕ, zero, suc, ◌+◌, ◌-◌, ◌≤◌, ◌<◌}
use native.Mathlib.Omega.{arith}
use mathlib.Core.Path.{◌≡◌, refl, sym, ap, ◌∙◌}
use mathlib.Core.Logic.{◌⊎◌, inl, inr}
use mathlib.Core.List.{List}
use mathlib.Core.Bool.{Bool, true, false}
use lib.ListN.{length, get_or, take, drop, length-drop}
use lib.Seq.{take_all}
use lib.Dec.{eqb}
use borrow.Author.Tests.{lt-ltb, le-ltb, eq-eqb, ne_eqb}
use Rattle.base.specs.Pick.{pick}
use Rattle.std.proofs.Common.{Some, None}
use Rattle.bits.proofs.Promise.{set_range, clear_range}
use Rattle.format.specs.declared.Format.{Format}
use Rattle.wire.proofs.Promise.{be64, named_size, first_of, last_of, is_empty, named, step_at, range_of, plain_size, plain_message, plain-read}
use Rattle.wire.specs.declared.range.Range.{Range}
use Rattle.wire.specs.declared.message.Cursor.{Cursor}
use Rattle.wire.specs.declared.message.Message.{Message}
use Rattle.wire.specs.declared.message.Message.TheVariants.{Handshake, Data, Ack, Have, Integrity, Request, Cancel, Choke, Unchoke, Empty}
use Rattle.wire.specs.declared.message.Step.{Step}
use Rattle.wire.specs.declared.message.Step.TheVariants.{Read, End, Refused}
use Rattle.writer.proofs.Promise.{on_step, read_from}
use Rattle.effects.specs.Effects.{Peer, peer_of, have, inside, effect, effects}
use Rattle.effects.specs.Steps.{Turned, turn_of, turned}
use Rattle.effects.proofs.SurveyLaws.{read_more}

-- The part of a slice from an index on, as the code has it.
pub part : (n : ℕ) (t : List ℕ) → take (length t - n) (drop n t) ≡ drop n t
part n t = take_all (length t - n) (drop n t) (omega (arith, length-drop n t))

-- ---- a plain message, by its type

two_or_three : (k : ℕ) → 2 ≤ k → k ≤ 3 → (k ≡ 2) ⊎ (k ≡ 3)
two_or_three zero l h = absurd (omega arith)
two_or_three (suc zero) l h = absurd (omega arith)
two_or_three (suc (suc zero)) l h = inl refl
two_or_three (suc (suc (suc zero))) l h = inr refl
two_or_three (suc (suc (suc (suc k)))) l h = absurd (omega arith)

module _ (F : Format) (N b : ℕ) (has wants : List ℕ) (k : Bool) (t : List ℕ) where
  -- CHOKE and UNCHOKE set and clear the mark.
  pub mark-does : 9 < get_or t 0 0 → peer_of has wants (eqb (get_or t 0 0) 10) ≡ effect N b (plain_message F t) (peer_of has wants k)
  unfolding plain_message effect
  mark-does h = simp (lt-ltb 9 (get_or t 0 0) h) (by (eqb (get_or t 0 0) 10))
    where
      by : (x : Bool) → peer_of has wants x ≡ effect N b (pick x Choke Unchoke) (peer_of has wants k)
      by true = refl
      by false = refl

  module _ (low : get_or t 0 0 ≤ 9) {e : Bool} (ee : e ≡ is_empty F t) where
    -- A message over no chunk does nothing.
    pub empty-does : e ≡ true → peer_of has wants k ≡ effect N b (plain_message F t) (peer_of has wants k)
    unfolding plain_message effect
    empty-does p = simp (le-ltb 9 (get_or t 0 0) low, ← ee, p)

    module _ (p : e ≡ false) (r : Range) (re : r ≡ range_of F t) {from upto : ℕ} (fe : from ≡ b + r.first) {u : ℕ} (ue : u ≡ inside N r.last) (oe : upto ≡ b + u) where
      -- where the chunks begin and end
      from_is : from ≡ b + first_of F t
      from_is = fe ∙ ap (λ (x : Range). b + x.first) re

      upto_is : upto ≡ b + inside N (last_of F t)
      upto_is = oe ∙ ap (λ (x : ℕ). b + x) ue ∙ ap (λ (x : Range). b + inside N x.last) re

      -- the message by its type
      named-is : (get_or t 0 0 ≡ 2 → ⊥) → plain_message F t ≡ named (get_or t 0 0) (first_of F t) (last_of F t)
      unfolding plain_message
      named-is q = simp (le-ltb 9 (get_or t 0 0) low, ← ee, p, ne_eqb (get_or t 0 0) 2 q)

      ack-is : get_or t 0 0 ≡ 2 → plain_message F t ≡ Ack (first_of F t) (last_of F t) (be64 t (named_size F))
      unfolding plain_message
      ack-is q = simp (le-ltb 9 (get_or t 0 0) low, ← ee, p, eq-eqb (get_or t 0 0) 2 q)

      -- HAVE and ACK have one effect.
      pub have-does : 2 ≤ get_or t 0 0 → get_or t 0 0 ≤ 3 → {q : Peer} → q ≡ have from upto (peer_of has wants k)
          → q ≡ effect N b (plain_message F t) (peer_of has wants k)
      unfolding effect
      have-does l h d = d ∙ rw (from_is, upto_is) (by (two_or_three (get_or t 0 0) l h))
        where
          by : (get_or t 0 0 ≡ 2) ⊎ (get_or t 0 0 ≡ 3) → have (b + first_of F t) (b + inside N (last_of F t)) (peer_of has wants k) ≡ effect N b (plain_message F t) (peer_of has wants k)
          by (inl q) = rw (ack-is q)
          by (inr q) = rw (named-is (λ z. omega (arith, q, z)), q)

      -- REQUEST sets wants.
      pub request-does : get_or t 0 0 ≡ 8 → {w : List ℕ} → w ≡ set_range wants from upto → peer_of has w k ≡ effect N b (plain_message F t) (peer_of has wants k)
      unfolding effect
      request-does q d = rw (d, from_is, upto_is, named-is (λ z. omega (arith, q, z)), q)

      -- CANCEL, and any other type, clears wants.
      pub cancel-does : (get_or t 0 0 ≡ 2 → ⊥) → (get_or t 0 0 ≡ 3 → ⊥) → (get_or t 0 0 ≡ 8 → ⊥) → {w : List ℕ} → w ≡ clear_range wants from upto
          → peer_of has w k ≡ effect N b (plain_message F t) (peer_of has wants k)
      unfolding effect
      cancel-does p q r d = rw (d, from_is, upto_is, named-is p, ne_eqb (get_or t 0 0) 3 q, ne_eqb (get_or t 0 0) 8 r)

-- A step that is no plain message has no effect.
other_does : (F : Format) (N b : ℕ) (m : Peer) (i : Message) (next : Cursor) → plain_size F (Read i next) ≡ 0 → m ≡ effect N b i m
unfolding effect
other_does F N b m (Handshake a o) next h = refl
other_does F N b m (Data f l x p n) next h = refl
other_does F N b m (Ack f l d) next h = absurd (omega (arith, h))
other_does F N b m (Have f l) next h = absurd (omega (arith, h))
other_does F N b m (Integrity f l d) next h = refl
other_does F N b m (Request f l) next h = absurd (omega (arith, h))
other_does F N b m (Cancel f l) next h = absurd (omega (arith, h))
other_does F N b m Choke next h = absurd (omega (arith, h))
other_does F N b m Unchoke next h = absurd (omega (arith, h))
other_does F N b m (Empty k) next h = absurd (omega (arith, h))

-- ---- one turn

module _ (N b : ℕ) (m : Peer) where
  -- A turn at a message has its effect and goes on behind it.
  pub turn-read : {st : Step} {i : Message} {next : Cursor} {x : Peer} → st ≡ Read i next → x ≡ effect N b i m → turn_of x (Some next.at) ≡ turned N b m st
  unfolding turned
  turn-read e d = rw (e, d)

  -- A turn at a plain message.
  pub turn-plain : (F : Format) (s : List ℕ) (at : ℕ) {n : ℕ} → n ≡ plain_size F (step_at F s at) → (n ≡ 0 → ⊥) → {x : Peer} → x ≡ effect N b (plain_message F (take (length s - at) (drop at s))) m
      → turn_of x (Some (at + n)) ≡ turned N b m (step_at F s at)
  turn-plain F s at e h d = turn-read (plain-read F s at e h) (rw part at d)

  -- At another one.
  pub turn-other : (F : Format) {st : Step} {i : Message} {next : Cursor} {n : ℕ} → n ≡ plain_size F st → n ≡ 0 → st ≡ Read i next → turn_of m (Some next.at) ≡ turned N b m st
  turn-other F {st} {i} {next} e h g = turn-read g (other_does F N b m i next (ap (plain_size F) (sym g) ∙ sym e ∙ h))

  -- At the end or a refusal nothing follows.
  pub turn_over : {st : Step} → (st ≡ End) ⊎ (st ≡ Refused) → turn_of m None ≡ turned N b m st
  unfolding turned
  turn_over (inl e) = rw e
  turn_over (inr e) = rw e

-- ---- all of them

-- What a turn at a step leaves to do, with n messages behind it at most, is what the step and they do.
module _ (F : Format) (N b : ℕ) (s : List ℕ) (n : ℕ) (m : Peer) where
  step-on : (st : Step) {x : Peer} {at : ℕ} → turn_of x (Some at) ≡ turned N b m st → effects N b (read_from F n s at) x ≡ effects N b (on_step s st (λ q. read_from F n s q)) m
  unfolding effects turned
  step-on (Read i next) {x} {at} e =
      let p : x ≡ effect N b i m = ap (λ (t : Turned). t.peer) e in
      let h : Some at ≡ Some next.at = ap (λ (t : Turned). t.next) e in
      let q : at ≡ next.at = cc in
      rw (p, q)
  step-on End {x} {at} e = let h : Some at ≡ None = ap (λ (t : Turned). t.next) e in cc
  step-on Refused {x} {at} e = let h : Some at ≡ None = ap (λ (t : Turned). t.next) e in cc

  step-over : (st : Step) {x : Peer} → turn_of x None ≡ turned N b m st → x ≡ effects N b (on_step s st (λ q. read_from F n s q)) m
  unfolding effects turned
  step-over (Read i next) e = let h : None ≡ Some next.at = ap (λ (t : Turned). t.next) e in cc
  step-over End e = ap (λ (t : Turned). t.peer) e
  step-over Refused e = ap (λ (t : Turned). t.peer) e

-- The effects left after a turn are those before it,
pub turn-effects : (F : Format) (N b : ℕ) (s : List ℕ) (at left : ℕ) (m : Peer) {x : Peer} {next : ℕ} → 0 < left → turn_of x (Some next) ≡ turned N b m (step_at F s at)
    → effects N b (read_from F (left - 1) s next) x ≡ effects N b (read_from F left s at) m
turn-effects F N b s at left m h e = rw (read_more F s at left h refl) (step-on F N b s (left - 1) m (step_at F s at) e)

-- and none where nothing follows.
pub over_effects : (F : Format) (N b : ℕ) (s : List ℕ) (at left : ℕ) (m : Peer) {x : Peer} → 0 < left → turn_of x None ≡ turned N b m (step_at F s at)
    → x ≡ effects N b (read_from F left s at) m
over_effects F N b s at left m h e = rw (read_more F s at left h refl) (step-over F N b s (left - 1) m (step_at F s at) e)

-- No messages have no effect.
pub effects-none : (F : Format) (N b : ℕ) (s : List ℕ) (at left : ℕ) (m : Peer) → left ≡ 0 → effects N b (read_from F left s at) m ≡ m
unfolding effects read_from
effects-none F N b s at left m e = rw e
