-- The biggest complete interval around a chunk: the run for both methods, and of the nodes above the chunk the largest
-- within it. Assumes nothing.
use Prim.Native.Nat.{ℕ, zero, suc, ◌+◌, ◌-◌, ◌*◌, ◌/◌, ◌^◌, ◌≤◌, ◌<◌}
use native.Mathlib.Omega.{arith}
use native.Mathlib.Decide.{dec_lt, ℕ_discrete}
use mathlib.Core.Path.{◌≡◌, refl, sym, ◌∙◌}
use mathlib.Core.Bool.{Bool, true, false, true≢false}
use mathlib.Core.List.{List}
use borrow.Author.Tests.{le-leb, leb-true}
use lib.Dec.{leb}
use lib.Pow.{pow_pos}
use Rattle.base.specs.Pick.{pick}
use Rattle.bits.proofs.Promise.{bit_at, held_below, held-below_le, held-below-set, held-below_stop}
use Rattle.bits.proofs.Promise.{held_from, held-from_le, held-from-set, held-from_stop}
use Rattle.format.specs.declared.Addressing.{Addressing}
use Rattle.format.specs.declared.Addressing.TheVariants.{Bins, Ranges}
use Rattle.format.specs.declared.Format.{Format}
use Rattle.tree.proofs.Promise.{bin, first, last, first_chunk, first_plus_last}
use Rattle.tree.proofs.Promise.{above, levels, node-above, above_nested, height_bound}
use Rattle.wire.proofs.Promise.{empty_bin}
use Rattle.writer.proofs.Promise.{nameable, ranges_name, bins_name, node-nameable}
use Rattle.wire.specs.declared.range.Range.{Range}
use Rattle.held.specs.Interval.{Biggest, run_around, is_within, height_within, node_chunks, complete_by, complete_interval}

-- ---- the run

-- The chunks of an interval are held.
abbrev Held : List ℕ → Range → Type 0
Held map i = (x : ℕ) → i.first ≤ x → x ≤ i.last → bit_at map x ≡ true

-- It covers the chunk.
pub run-covers : (map : List ℕ) (N c : ℕ) → ((run_around map N c).first ≤ c) × (c ≤ (run_around map N c).last)
unfolding run_around
run-covers map N c = (omega arith, omega arith)

module _ (map : List ℕ) (N c : ℕ) (h : c < N) where
  -- It lies inside the pack.
  run_inside : (run_around map N c).last < N
  unfolding run_around
  run_inside = omega (arith, held-from_le map (N - suc c) (suc c))

  -- Where c is held, all of it is.
  run-held : bit_at map c ≡ true → Held map (run_around map N c)
  unfolding run_around
  run-held e x f l = go (dec_lt x c) (ℕ_discrete x c)
    where
      go : Dec (x < c) → Dec (x ≡ c) → bit_at map x ≡ true
      go (yes b) d = held-below-set map c x b (omega (arith, held-below_le map c))
      go (no b) (yes q) = rw q e
      go (no b) (no q) = held-from-set map (N - suc c) (suc c) x (omega arith) (omega arith)

  -- Any other that is held around c lies within it.
  run-most : (j : Range) → (j.first ≤ c) × (c ≤ j.last) → j.last < N → Held map j
      → ((run_around map N c).first ≤ j.first) × (j.last ≤ (run_around map N c).last)
  unfolding run_around
  run-most j k l held =
      (below (dec_lt j.first (c - held_below map c)), behind (dec_lt (c + held_from map (N - suc c) (suc c)) j.last))
    where
      below : Dec (j.first < c - held_below map c) → c - held_below map c ≤ j.first
      below (yes b) =
          let x = c - held_below map c - 1 in
          absurd (true≢false (sym (held x (omega arith) (omega arith)) ∙ held-below_stop map c x (omega arith)))
      below (no b) = omega arith

      behind : Dec (c + held_from map (N - suc c) (suc c) < j.last) → j.last ≤ c + held_from map (N - suc c) (suc c)
      behind (yes b) =
          let x = suc c + held_from map (N - suc c) (suc c) in
          let e = held-from_stop map (N - suc c) (suc c) (omega arith) in
          absurd (true≢false (sym (held x (omega arith) (omega arith)) ∙ e))
      behind (no b) = omega arith

-- ---- the largest node within it

-- The node of height h above chunk c lies within an interval; so says the test.
abbrev pub Within : (h c : ℕ) → Range → Type 0
Within h c i = (i.first ≤ above h c) × (above h c + 2 ^ h ≤ i.last + 1)

pub within-says : (h c : ℕ) (i : Range) → is_within h c i ≡ true → Within h c i
within-says h c i = go (leb i.first (above h c)) refl
  where
    go : (b : Bool) → leb i.first (above h c) ≡ b → pick b (leb (above h c + 2 ^ h - 1) i.last) false ≡ true
        → Within h c i
    go true e w = (leb-true _ _ e, omega (arith, leb-true (above h c + 2 ^ h - 1) i.last w, pow_pos h))
    go false e w = absurd (true≢false (sym w))

pub within_if : (h c : ℕ) (i : Range) → Within h c i → is_within h c i ≡ true
within_if h c i w = rw (le-leb _ _ w.0, le-leb (above h c + 2 ^ h - 1) i.last (omega (arith, w.1, pow_pos h)))

-- The height found is one of those looked at.
pub height_le : (c : ℕ) (i : Range) (d : ℕ) → height_within d c i ≤ d
unfolding height_within
height_le c i zero = omega arith
height_le c i (suc d) = go (is_within (suc d) c i) (height_le c i d)
  where
    go : (b : Bool) → height_within d c i ≤ d → pick b (suc d) (height_within d c i) ≤ suc d
    go true h = omega arith
    go false h = omega arith

module _ (c : ℕ) (i : Range) (k : (i.first ≤ c) × (c ≤ i.last)) where
  -- The node found lies within: the leaf does.
  pub height-in : (d : ℕ) → Within (height_within d c i) c i
  unfolding height_within
  height-in zero = omega arith
  height-in (suc d) = go (is_within (suc d) c i) refl (height-in d)
    where
      go : (b : Bool) → is_within (suc d) c i ≡ b → Within (height_within d c i) c i
          → Within (pick b (suc d) (height_within d c i)) c i
      go true e ih = within-says (suc d) c i e
      go false e ih = ih

  -- No higher one does.
  pub height-most : (d h : ℕ) → h ≤ d → Within h c i → h ≤ height_within d c i
  unfolding height_within
  height-most zero h l w = l
  height-most (suc d) h l w = go (ℕ_discrete h (suc d)) (is_within (suc d) c i) refl (λ m. height-most d h m w)
    where
      go : Dec (h ≡ suc d) → (b : Bool) → is_within (suc d) c i ≡ b → (h ≤ d → h ≤ height_within d c i)
          → h ≤ pick b (suc d) (height_within d c i)
      go q true e ih = l
      go (yes q) false e ih = absurd (true≢false (sym (rw q at (within_if h c i w)) ∙ e))
      go (no q) false e ih = ih (omega arith)

-- ---- both methods

module _ (F : Format) (map : List ℕ) (N c : ℕ) (h : c < N) (e : bit_at map c ≡ true) where
  ranges-biggest : F.addressing ≡ Ranges → Biggest F map N c (run_around map N c)
  ranges-biggest q =
      record {
        complete = record {
          named = ranges_name F _ _ q;
          covers = run-covers map N c;
          inside = run_inside map N c h;
          held = run-held map N c h e;
        };
        none_bigger = λ j k. run-most map N c h j k.covers k.inside k.held;
      }

  -- The node found is below the empty bin, so that a bin names it.
  node-named : (n : ℕ) → above n c + 2 ^ n ≤ N → 2 * N ≤ empty_bin
      → nameable F (above n c) (above n c + 2 ^ n - 1) ≡ true
  node-named n l few =
      let b = bin n (above n c) in
      let f : first b ≡ above n c = first_chunk n (c / 2 ^ n) in
      let g : last b ≡ above n c + 2 ^ n - 1 = omega (arith, f, first_plus_last b, pow_pos n) in
      rw (f, g) at (node-nameable F b (omega (arith, pow_pos n)))

  bins-biggest : F.addressing ≡ Bins → 2 * N ≤ empty_bin
      → Biggest F map N c (node_chunks (height_within (levels N) c (run_around map N c)) c)
  bins-biggest q few =
      let run = run_around map N c in
      let r = run_inside map N c h in
      let n = height_within (levels N) c run in
      let p = height-in c run (run-covers map N c) (levels N) in
      let a = above_nested 0 n c (omega arith) in
      record {
        complete = record {
          named = node-named n (omega (arith, p, r)) few;
          covers = (omega (arith, a), omega (arith, a));
          inside = omega (arith, p, r);
          held = λ x f l. run-held map N c h e x (omega (arith, f, p)) (omega (arith, l, p, pow_pos n));
        };
        none_bigger = λ j k.
            let t = bins_name F j.first j.last q k.named in
            let m = node-above (j.first + j.last) c (omega (arith, t, k.covers)) (omega (arith, t, k.covers)) in
            let o = run-most map N c h j k.covers k.inside k.held in
            let b = height_bound N m.0 (omega (arith, m, t, k.inside)) in
            let w : Within m.0 c run = (omega (arith, m, t, o), omega (arith, m, t, o)) in
            let l = height-most c run (run-covers map N c) (levels N) m.0 b w in
            let s = above_nested m.0 n c l in
            (omega (arith, m, t, s), omega (arith, m, t, s, pow_pos n));
      }

  pub interval-biggest : 2 * N ≤ empty_bin → Biggest F map N c (complete_interval F map N c)
  unfolding complete_interval
  interval-biggest few = by F.addressing refl
    where
      by : (a : Addressing) → F.addressing ≡ a → Biggest F map N c (complete_by a map N c)
      by Bins q = bins-biggest q few
      by Ranges q = ranges-biggest q
