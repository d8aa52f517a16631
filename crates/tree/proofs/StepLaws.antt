-- What a turn of the code's loops gives: one node put or none, and what is left to list. Assumes nothing.
use Rattle.std.proofs.Common.{◌≡◌, ℕ, zero, suc, ◌+◌, ◌-◌, ◌*◌, ◌^◌, ◌<◌, ◌≤◌, Bool, true, false, not, ltb, leb, List, [], ◌∷◌, ◌++◌, map, length, set, sym, refl, ap, ◌∙◌, add-one, arith, length-append, le-ltb, lt-ltb, leb-false, leb-true, Option, Some, None}
use Rattle.std.proofs.lemmas.Bool.{lt-leb}
use Rattle.std.specs.Bool.{then_some}
use Rattle.std.specs.Option.{option_to_list}
use mathlib.Core.List.{map-append}
use lib.ListN.{length-map}
use lib.Seq.{sets}
use Rattle.base.specs.Pick.{pick}
use Rattle.tree.specs.Node.{Node, num, above}
use Rattle.tree.specs.State.{is_peak}
use Rattle.tree.specs.Steps.{peak_bit, peak_at, sibling_at, peak_turn, sibling_turn, listed}
use Rattle.tree.proofs.Below.{peaks_below, sent_below}
use Rattle.tree.proofs.NodeLaws.{parent_above, above_in}

-- ---- the test for a peak

not_leb : (a b : ℕ) → not (leb a b) ≡ ltb b a
not_leb a b = go (leb a b) refl
  where
    go : (t : Bool) → leb a b ≡ t → not t ≡ ltb b a
    go true e = sym (le-ltb b a (leb-true a b e))
    go false e = sym (lt-ltb b a (leb-false a b e))

pub peak-unless : (N c h : ℕ) {t u : Bool} → t ≡ leb (above h c + 2 ^ h) N → t ≡ true → u ≡ leb (above (h + 1) c + 2 ^ (h + 1)) N → not u ≡ is_peak N h (above h c)
peak-unless N c h e f g =
    rw (sym e ∙ f, parent_above h c)
    (ap not (rw add-one at g) ∙ not_leb (above (suc h) c + 2 ^ suc h) N)

-- ---- one node put, or none

pub option-short : (o : Option ℕ) → length (option_to_list o) ≤ 1
option-short (Some b) = omega arith
option-short None = omega arith

turned : (t : Bool) (n : Node) → option_to_list (then_some t (num n)) ≡ map num (pick t (n ∷ []) [])
turned true n = refl
turned false n = refl

module _ (t : Bool) (n : Node) (k : ℕ) (room : List ℕ) {o : Option ℕ} (e : o ≡ then_some t (num n)) where
  one-put : {k' : ℕ} {room' : List ℕ} → (k' ≡ k + length (option_to_list o)) × (room' ≡ sets room k (option_to_list o))
      → (k' ≡ k + length (pick t (n ∷ []) [])) × (room' ≡ listed room k (pick t (n ∷ []) []))
  one-put p =
      let ns = pick t (n ∷ []) [] in
      let f : option_to_list o ≡ map num ns = ap option_to_list e ∙ turned t n in
      (p.0 ∙ ap (λ (x : List ℕ). k + length x) f ∙ ap (λ (x : ℕ). k + x) (length-map ns num), p.1 ∙ ap (sets room k) f)

-- ---- what is left to list

sets_append : (l : List ℕ) (k : ℕ) (x y : List ℕ) → sets l k (x ++ y) ≡ sets (sets l k x) (k + length x) y
sets_append l k [] y = ap (λ (i : ℕ). sets l i y) (omega arith)
sets_append l k (a ∷ x) y = sets_append (set l k a) (suc k) x y ∙ ap (λ (i : ℕ). sets (sets (set l k a) (suc k) x) i y) (omega arith)

listed-append : (room : List ℕ) (k : ℕ) (x y : List Node) → listed room k (x ++ y) ≡ listed (listed room k x) (k + length x) y
listed-append room k x y =
    ap (sets room k) (map-append num x y)
    ∙ sets_append room k (map num x) (map num y)
    ∙ ap (λ (i : ℕ). sets (listed room k x) (k + i) (map num y)) (length-map x num)

-- the rest, listed from place k on, gives the room with all of them
pub record Left (room₀ : List ℕ) (all : List Node) (room : List ℕ) (k : ℕ) (rest : List Node) : Type 0 where
  pub rooms : listed room k rest ≡ listed room₀ 0 all
  pub count : k + length rest ≡ length all

left-begin : (room : List ℕ) (all rest : List Node) → rest ≡ all → Left room all room 0 rest
left-begin room all rest e = record { rooms = ap (listed room 0) e; count = omega (arith, ap length e) }

module _ (room₀ : List ℕ) (all : List Node) (room : List ℕ) (k : ℕ) where
  left-turn : (x rest : List Node) (k' : ℕ) (room' : List ℕ) → Left room₀ all room k (x ++ rest)
      → (k' ≡ k + length x) × (room' ≡ listed room k x) → Left room₀ all room' k' rest
  left-turn x rest k' room' l p = record {
    rooms = rw (p.1, p.0) (sym (listed-append room k x rest) ∙ l.rooms);
    count = omega (arith, l.count, length-append x rest, p.0);
  }

  left_end : Left room₀ all room k [] → (k ≡ length all) × (room ≡ listed room₀ 0 all)
  left_end l = (omega (arith, l.count), l.rooms)

-- ---- height by height

turn-short : (t : Bool) (n : Node) (ns : List Node) → length (pick t (n ∷ []) [] ++ ns) ≤ length ns + 1
turn-short true n ns = omega arith
turn-short false n ns = omega arith

pub peaks-short : (N h : ℕ) → length (peaks_below N h) ≤ h
unfolding peaks_below
peaks-short N zero = omega arith
peaks-short N (suc h) = omega (arith, turn-short (peak_bit N h) (peak_at N h) (peaks_below N h), peaks-short N h)

pub sent-short : (N c h : ℕ) → length (sent_below N c h) ≤ 2 * h
unfolding sent_below
sent-short N c zero = omega arith
sent-short N c (suc h) =
    omega (arith, turn-short (leb (above (suc h) c + 2 ^ suc h) N) (sibling_at c h) (peak_turn N h ++ sent_below N c h), turn-short (peak_bit N h) (peak_at N h) (sent_below N c h), sent-short N c h)

-- ---- the loops over the heights: the beginning, a turn, the end

pub peaks-none : (N : ℕ) → peaks_below N 0 ≡ []
unfolding peaks_below
peaks-none N = refl

peaks-at : (N h : ℕ) → 0 < h → peaks_below N h ≡ peak_turn N (h - 1) ++ peaks_below N (h - 1)
unfolding peaks_below
peaks-at N zero l = absurd (omega arith)
peaks-at N (suc h) l = let e : suc h - 1 ≡ h = omega arith in rw e

pub sent-none : (N c : ℕ) → sent_below N c 0 ≡ []
unfolding sent_below
sent-none N c = refl

pub sent-at : (N c h : ℕ) → 0 < h → sent_below N c h ≡ sibling_turn N c (h - 1) ++ (peak_turn N (h - 1) ++ sent_below N c (h - 1))
unfolding sent_below
sent-at N c zero l = absurd (omega arith)
sent-at N c (suc h) l = let e : suc h - 1 ≡ h = omega arith in rw e

-- f h is what the heights below h add
module _ (f : ℕ → List Node) (top : ℕ) (room₀ : List ℕ) where
  abbrev pub LeftBelow : List ℕ → ℕ → ℕ → Type 0
  LeftBelow room k h = Left room₀ (f (suc top)) room k (f h)

  pub loop-begin : (t : ℕ) → t ≡ top → LeftBelow room₀ 0 (t + 1)
  loop-begin t e = left-begin room₀ (f (suc top)) (f (t + 1)) (ap f (add-one t ∙ ap suc e))

  module _ (room : List ℕ) (k h : ℕ) where
    pub loop-few : LeftBelow room k h → k ≤ length (f (suc top))
    loop-few e = omega (arith, e.count)

    pub loop-end : (ns : List Node) → f 0 ≡ [] → ns ≡ f (suc top) → h ≡ 0 → LeftBelow room k h → (k ≡ length ns) × (room ≡ listed room₀ 0 ns)
    loop-end ns b e z g = rw e (left_end room₀ (f (suc top)) room k (rw (z, b) at g))

-- the peak of the height below h
pub peaks-turn : (N top : ℕ) (room₀ room : List ℕ) (k h : ℕ) → 0 < h → LeftBelow (peaks_below N) top room₀ room k h → {o : Option ℕ} {k' : ℕ} {room' : List ℕ}
    → o ≡ then_some (peak_bit N (h - 1)) (num (peak_at N (h - 1)))
    → (k' ≡ k + length (option_to_list o)) × (room' ≡ sets room k (option_to_list o))
    → LeftBelow (peaks_below N) top room₀ room' k' (h - 1)
peaks-turn N top room₀ room k h l e {o} {k'} {room'} eo p =
    left-turn room₀ _ room k (peak_turn N (h - 1)) (peaks_below N (h - 1)) k' room' (rw (peaks-at N h l) at e) (one-put _ _ k room eo p)

-- the sibling and then the peak of the height below h
module _ (N c top : ℕ) (room₀ room : List ℕ) (k h : ℕ) (l : 0 < h) (e : LeftBelow (sent_below N c) top room₀ room k h) where
  module _ {o o' : Option ℕ} {k' k'' : ℕ} {room' room'' : List ℕ} where
    pub sent-turn : o ≡ then_some (leb (above (suc (h - 1)) c + 2 ^ suc (h - 1)) N) (num (sibling_at c (h - 1)))
        → o' ≡ then_some (peak_bit N (h - 1)) (num (peak_at N (h - 1)))
        → (k' ≡ k + length (option_to_list o)) × (room' ≡ sets room k (option_to_list o))
        → (k'' ≡ k' + length (option_to_list o')) × (room'' ≡ sets room' k' (option_to_list o'))
        → LeftBelow (sent_below N c) top room₀ room'' k'' (h - 1)
    sent-turn eo eo' p q =
        left-turn room₀ _ room' k' (peak_turn N (h - 1)) (sent_below N c (h - 1)) k'' room''
        (left-turn room₀ _ room k (sibling_turn N c (h - 1)) (peak_turn N (h - 1) ++ sent_below N c (h - 1)) k' room' (rw (sent-at N c h l) at e) (one-put _ _ k room eo p))
        (one-put _ _ k' room' eo' q)

-- ---- chunk N lies past the pack, so no sibling goes out with it

pub sent-past : (N h : ℕ) → sent_below N N h ≡ peaks_below N h
unfolding sent_below peaks_below
sent-past N zero = refl
sent-past N (suc h) =
    let f : leb (above (suc h) N + 2 ^ suc h) N ≡ false = lt-leb (above (suc h) N + 2 ^ suc h) N (omega (arith, above_in (suc h) N)) in
    rw (f, sent-past N h)
