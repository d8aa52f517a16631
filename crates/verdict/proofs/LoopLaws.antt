-- The loops of a verdict, turn by turn. Assumes nothing.
use mathlib.Core.Path.{◌≡◌, refl, sym, ap, ◌∙◌}
use mathlib.Core.Bool.{Bool, true, false, not, true≢false}
use mathlib.Core.List.{List, [], ◌∷◌, ◌++◌}
use mathlib.Core.Option.{some}
use Prim.Native.Nat.{ℕ, zero, suc, ◌+◌, ◌-◌, ◌^◌, ◌≤◌, ◌<◌}
use native.Mathlib.Numerals.{add-one}
use native.Mathlib.Omega.{arith}
use native.Mathlib.Decide.{le_ind}
use lib.Dec.{ltb}
use Rattle.base.specs.Pick.{pick}
use Rattle.std.specs.Prelude.{Option, Some, None}
use Rattle.std.specs.Bool.{then_some}
use Rattle.tree.specs.Node.{Node, num, above}
use Rattle.tree.specs.Pack.{levels, least_from}
use Rattle.tree.specs.Peaks.{peaks, siblings, sort}
use Rattle.tree.specs.Tree.{given}
use Rattle.tree.specs.Verdicts.{every, first_of}
use Rattle.tree.specs.Steps.{peak_bit, peak_at, sibling_at}
use Rattle.tree.proofs.Below.{peaks_below, needed_below}
use Rattle.tree.proofs.PackLaws.{high_bound}
use Rattle.tree.proofs.PeakLaws.{peaks_bits}
use Rattle.tree.proofs.SentLaws.{inside-below, needed_is}
use Rattle.verdict.specs.Steps.{named_node}
use Rattle.tree.proofs.TreeLaws.{given-whole}

-- ---- a test of every peak, height by height

module _ (f : Node → Bool) (N : ℕ) where
  abbrev low : ℕ → Bool
  low h = every f (peaks_below N h)

  low_turn : (h : ℕ) → low (suc h) ≡ pick (peak_bit N h) (pick (f (peak_at N h)) (low h) false) (low h)
  unfolding every peaks_below
  low_turn h = go (peak_bit N h)
    where
      go : (t : Bool) → every f (pick t (peak_at N h ∷ []) [] ++ peaks_below N h) ≡ pick t (pick (f (peak_at N h)) (low h) false) (low h)
      go true = refl
      go false = refl

  low-false : (h : ℕ) → low h ≡ false → low (suc h) ≡ false
  low-false h e = low_turn h ∙ rw e (go (peak_bit N h) (f (peak_at N h)))
    where
      go : (t u : Bool) → pick t (pick u false false) false ≡ false
      go true true = refl
      go true false = refl
      go false u = refl

  pub every-none : true ≡ low 0
  unfolding every peaks_below
  every-none = refl

  pub every-next : (h : ℕ) {x : Bool} → x ≡ pick (peak_bit N h) (not (f (peak_at N h))) false → x ≡ false → true ≡ low h → true ≡ low (h + 1)
  every-next h e g q = rw (add-one h) (sym (low_turn h ∙ rw (← q) (go (peak_bit N h) (f (peak_at N h)) (sym e ∙ g))))
    where
      go : (t u : Bool) → pick t (not u) false ≡ false → pick t (pick u true false) true ≡ true
      go true true z = refl
      go true false z = absurd (true≢false z)
      go false u z = refl

  pub every-not : (h : ℕ) {x : Bool} → x ≡ pick (peak_bit N h) (not (f (peak_at N h))) false → x ≡ true → h ≤ levels N → false ≡ every f (peaks N)
  every-not h e g l =
      sym (ap (every f) (peaks_bits N)
      ∙ le_ind (λ (k : ℕ). low k ≡ false) (low_turn h ∙ go (peak_bit N h) (f (peak_at N h)) (sym e ∙ g)) (λ k u q. low-false k q) (suc (levels N)) (omega arith))
    where
      go : (t u : Bool) → pick t (not u) false ≡ true → pick t (pick u (low h) false) (low h) ≡ false
      go true true z = absurd (true≢false (sym z))
      go true false z = refl
      go false u z = absurd (true≢false (sym z))

  pub every-end : (h : ℕ) → h ≡ suc (levels N) → true ≡ low h → true ≡ every f (peaks N)
  every-end h e q = q ∙ ap low e ∙ ap (every f) (sym (peaks_bits N))

-- ---- the first that is missing, height by height from the top

some-then : (t : Bool) (n : ℕ) {b : ℕ} → then_some t n ≡ Some b → (t ≡ true) × (n ≡ b)
some-then true n e = (refl, cc)
some-then false n e = absurd (let w : ◌≡◌ {A = ℕ} 0 1 = cc in omega arith)

pub none-then : (t : Bool) (n : ℕ) → then_some t n ≡ None → t ≡ false
none-then true n e = absurd (let w : ◌≡◌ {A = ℕ} 0 1 = cc in omega arith)
none-then false n e = refl

module _ (f : Node → Bool) (opened : Bool) (N c t : ℕ) where
  abbrev left : ℕ → List Node
  left h = needed_below opened N c t h

  pub missing-begin : (h : ℕ) → h ≡ levels N + 1 → above t c + 2 ^ t ≤ N
      → first_of f (sort (pick opened [] (peaks N) ++ siblings c t)) ≡ first_of f (left h)
  missing-begin h q w =
      ap (first_of f) (needed_is opened N c t (inside-below N c t w) (omega (arith, high_bound N t (omega arith))))
      ∙ ap (λ (x : ℕ). first_of f (left x)) (sym (q ∙ add-one (levels N)))

  pub missing-end : (h : ℕ) → h ≤ 0 → None ≡ named_node (first_of f (left h))
  unfolding needed_below first_of
  missing-end zero l = refl
  missing-end (suc h) l = absurd (omega arith)

  -- one turn: the sibling, then the peak
  abbrev sib : ℕ → Bool
  sib h = pick (ltb h t) (f (sibling_at c h)) false

  abbrev top-peak : ℕ → Bool
  top-peak h = pick opened false (pick (peak_bit N h) (f (peak_at N h)) false)

  turn : (h : ℕ) → first_of f (left (suc h)) ≡ pick (sib h) (some (sibling_at c h)) (pick (top-peak h) (some (peak_at N h)) (first_of f (left h)))
  unfolding needed_below first_of
  turn h = go (ltb h t) opened (peak_bit N h) (left h)
    where
      go : (p o q : Bool) (rest : List Node)
          → first_of f (pick p (sibling_at c h ∷ []) [] ++ (pick o [] (pick q (peak_at N h ∷ []) []) ++ rest))
          ≡ pick (pick p (f (sibling_at c h)) false) (some (sibling_at c h))
          (pick (pick o false (pick q (f (peak_at N h)) false)) (some (peak_at N h)) (first_of f rest))
      go true true q rest = refl
      go true false true rest = refl
      go true false false rest = refl
      go false true q rest = refl
      go false false true rest = refl
      go false false false rest = refl

  module _ (h : ℕ) (l : 0 < h) where
    here : first_of f (left h)
        ≡ pick (sib (h - 1)) (some (sibling_at c (h - 1))) (pick (top-peak (h - 1)) (some (peak_at N (h - 1))) (first_of f (left (h - 1))))
    here = ap (λ (x : ℕ). first_of f (left x)) (let e : h ≡ suc (h - 1) = omega arith in e) ∙ turn (h - 1)

    module _ {x : Option ℕ} (xe : x ≡ then_some (sib (h - 1)) (num (sibling_at c (h - 1)))) where
      pub missing-sibling : {b : ℕ} → x ≡ Some b → Some b ≡ named_node (first_of f (left h))
      missing-sibling e = let p = some-then (sib (h - 1)) _ (sym xe ∙ e) in rw (here, p.0) (ap Some (sym p.1))

      module _ (xn : x ≡ None) {y : Option ℕ} (ye : y ≡ then_some (top-peak (h - 1)) (num (peak_at N (h - 1)))) where
        pub missing-peak : {b : ℕ} → y ≡ Some b → Some b ≡ named_node (first_of f (left h))
        missing-peak e =
            let p = some-then (top-peak (h - 1)) _ (sym ye ∙ e) in
            rw (here, none-then (sib (h - 1)) _ (sym xe ∙ xn), p.0) (ap Some (sym p.1))

        pub missing-none : y ≡ None → first_of f (left h) ≡ first_of f (left (h - 1))
        missing-none e = here ∙ rw (none-then (sib (h - 1)) _ (sym xe ∙ xn), none-then (top-peak (h - 1)) _ (sym ye ∙ e))

-- ---- the least height that passes

pub reach_here : (f : ℕ → Bool) (n h : ℕ) → 0 < n → f h ≡ true → least_from f n h ≡ h
unfolding least_from
reach_here f zero h l e = absurd (omega arith)
reach_here f (suc n) h l e = rw e

pub reach-next : (f : ℕ → Bool) (n h : ℕ) → 0 < n → f h ≡ false → least_from f n h ≡ least_from f (n - 1) (h + 1)
unfolding least_from
reach-next f zero h l e = absurd (omega arith)
reach-next f (suc n) h l e = let q : suc n - 1 ≡ n = omega arith in rw (e, q, add-one h)

pub reach_end : (f : ℕ → Bool) (n h : ℕ) → n ≤ 0 → least_from f n h ≡ h
unfolding least_from
reach_end f zero h l = refl
reach_end f (suc n) h l = absurd (omega arith)

-- ---- the one peak of a power of two

pub given-one : (H : List ℕ → List ℕ) (Z : List ℕ) (N : ℕ) (held : ℕ → ℕ → List ℕ) (t : ℕ) → N ≡ 2 ^ t → given H Z N held t 0 ≡ held t 0
given-one H Z N held t e = given-whole H Z N held t 0 (omega arith)
