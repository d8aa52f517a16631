-- The first node of a sorted list that passes a test: it is one of the list, and none that goes out before it passes.
-- Assumes nothing.
use Rattle.std.proofs.Common.{◌≡◌, ℕ, ◌<◌, ◌≤◌, Bool, true, false, ◌⊎◌, List, [], ◌∷◌, sym, refl, ◌∙◌, ap₂, inl, inr, arith, le-ltb, lt-ltb, eq-eqb, ne_eqb, le-leb}
use mathlib.Core.Option.{Option, none, some}
use native.Mathlib.Decide.{ℕ_discrete}
use borrow.Author.Tests.{lt-leb}
use Rattle.base.specs.Pick.{pick}
use Rattle.tree.specs.Node.{Node}
use Rattle.tree.specs.Peaks.{before, insert, sort}
use Rattle.tree.specs.Verdicts.{Each, first_of}
use Rattle.tree.specs.Named.{In, Precedes}
use Rattle.tree.proofs.NodeLaws.{split}
use Rattle.tree.proofs.EachLaws.{each_in, each_of, each_map, insert-each, sort-each, each-sort}

-- ---- the order of two nodes

-- A node that doesn't stand behind another goes out before it, or is of the same place.
abbrev Ahead : Node → Node → Type 0
Ahead m n = (n.high < m.high) ⊎ ((m.high ≡ n.high) × (m.from ≤ n.from))

before_cases : (m n : Node) → ((before m n ≡ true) × Ahead m n) ⊎ ((before m n ≡ false) × Precedes n m)
before_cases m n = go (ℕ_discrete m.high n.high)
  where
    level : m.high ≡ n.high → (n.from < m.from) ⊎ (m.from ≤ n.from)
        → ((before m n ≡ true) × Ahead m n) ⊎ ((before m n ≡ false) × Precedes n m)
    level e (inl l) = inr (rw (eq-eqb m.high n.high e) (lt-leb m.from n.from l), inr (e, l))
    level e (inr l) = inl (rw (eq-eqb m.high n.high e) (le-leb m.from n.from l), inr (e, l))

    apart : (m.high ≡ n.high → ⊥) → (n.high ≤ m.high) ⊎ (m.high < n.high)
        → ((before m n ≡ true) × Ahead m n) ⊎ ((before m n ≡ false) × Precedes n m)
    apart d (inl l) =
        let u : n.high < m.high = omega arith in
        inl (rw (ne_eqb m.high n.high d) (lt-ltb n.high m.high u), inl u)
    apart d (inr l) = inr (rw (ne_eqb m.high n.high d) (le-ltb n.high m.high (omega arith)), inl l)

    go : Dec (m.high ≡ n.high) → ((before m n ≡ true) × Ahead m n) ⊎ ((before m n ≡ false) × Precedes n m)
    go (yes e) = level e (flip (split m.from n.from))
      where
        flip : (m.from ≤ n.from) ⊎ (n.from < m.from) → (n.from < m.from) ⊎ (m.from ≤ n.from)
        flip (inl l) = inr l
        flip (inr l) = inl l
    go (no d) = apart d (split n.high m.high)

ahead_on : (k m n : Node) → Ahead k m → Ahead m n → Ahead k n
ahead_on k m n (inl a) (inl b) = inl (omega arith)
ahead_on k m n (inl a) (inr b) = inl (omega (arith, b.0))
ahead_on k m n (inr a) (inl b) = inl (omega (arith, a.0))
ahead_on k m n (inr a) (inr b) = inr (a.0 ∙ b.0, omega (arith, a.1, b.1))

precedes_ahead : (m n : Node) → Precedes m n → Ahead m n
precedes_ahead m n (inl l) = inl l
precedes_ahead m n (inr l) = inr (sym l.0, omega (arith, l.1))

-- not both ways
ahead_not : (m n : Node) → Ahead m n → Precedes n m → ⊥
ahead_not m n (inl a) (inl b) = omega arith
ahead_not m n (inl a) (inr b) = omega (arith, b.0)
ahead_not m n (inr a) (inl b) = omega (arith, a.0)
ahead_not m n (inr a) (inr b) = omega (arith, a.1, b.1)

-- ---- sorting

abbrev Ordered : List Node → Type 0
Ordered [] = Unit {0}
Ordered (n ∷ ns) = Each (Ahead n) ns × Ordered ns

insert_ordered : (m : Node) (ns : List Node) → Ordered ns → Ordered (insert m ns)
unfolding insert
insert_ordered m [] o = (tt, tt)
insert_ordered m (n ∷ ns) o = go (before_cases m n) (insert_ordered m ns o.1)
  where
    go : ((before m n ≡ true) × Ahead m n) ⊎ ((before m n ≡ false) × Precedes n m) → Ordered (insert m ns)
        → Ordered (pick (before m n) (m ∷ n ∷ ns) (n ∷ insert m ns))
    go (inl p) ih =
        rw p.0 ((p.1, each_map (Ahead n) (Ahead m) (λ k a. ahead_on m n k p.1 a) ns o.0), o)
    go (inr p) ih = rw p.0 (insert-each (Ahead n) m ns (precedes_ahead n m p.1) o.0, ih)

sort_ordered : (ns : List Node) → Ordered (sort ns)
unfolding sort
sort_ordered [] = tt
sort_ordered (n ∷ ns) = insert_ordered n (sort ns) (sort_ordered ns)

pub in_sort : (ns : List Node) (k : Node) → In k (sort ns) → In k ns
in_sort ns k i = each_in (λ n. In n ns) (sort ns) (sort-each (λ n. In n ns) ns (each_of (λ n. In n ns) ns (λ n j. j))) k i

sort_in : (ns : List Node) (k : Node) → In k ns → In k (sort ns)
sort_in ns k i =
    each_in (λ n. In n (sort ns)) ns
    (each-sort (λ n. In n (sort ns)) ns (each_of (λ n. In n (sort ns)) (sort ns) (λ n j. j))) k i

-- ---- the first that passes

-- By two tests that say the same of each node.
pub first-same : (f g : Node → Bool) (ns : List Node) → Each (λ n. f n ≡ g n) ns → first_of f ns ≡ first_of g ns
unfolding first_of
first-same f g [] e = refl
first-same f g (n ∷ ns) e = ap₂ (λ (b : Bool) (o : Option Node). pick b (some n) o) e.0 (first-same f g ns e.1)

module _ (f : Node → Bool) where
  pub first-none : (ns : List Node) → Each (λ n. f n ≡ false) ns → first_of f ns ≡ none
  unfolding first_of
  first-none [] e = refl
  first-none (n ∷ ns) e = rw e.0 (first-none ns e.1)

  pub none_first : (ns : List Node) → first_of f ns ≡ none → Each (λ n. f n ≡ false) ns
  unfolding first_of
  none_first [] e = tt
  none_first (n ∷ ns) e = go (f n) refl e (none_first ns)
    where
      go : (b : Bool) → f n ≡ b → pick b (some n) (first_of f ns) ≡ none → (first_of f ns ≡ none → Each (λ k. f k ≡ false) ns)
          → (f n ≡ false) × Each (λ k. f k ≡ false) ns
      go true q e ih = absurd (let w : ◌≡◌ {A = ℕ} 0 1 = cc in omega arith)
      go false q e ih = (q, ih e)

  first_is : (ns : List Node) (n : Node) → first_of f ns ≡ some n → In n ns × (f n ≡ true)
  unfolding first_of
  first_is [] n e = absurd (let w : ◌≡◌ {A = ℕ} 0 1 = cc in omega arith)
  first_is (m ∷ ms) n e = go (f m) refl e (first_is ms n)
    where
      go : (b : Bool) → f m ≡ b → pick b (some m) (first_of f ms) ≡ some n → (first_of f ms ≡ some n → In n ms × (f n ≡ true))
          → In n (m ∷ ms) × (f n ≡ true)
      go true q e ih = let z : n ≡ m = cc in (inl z, rw z q)
      go false q e ih = let r = ih e in (inr r.0, r.1)

  first-before : (ns : List Node) (n : Node) → Ordered ns → first_of f ns ≡ some n → (k : Node) → In k ns → Precedes k n
      → f k ≡ false
  unfolding first_of
  first-before [] n o e k i l = absurd i
  first-before (m ∷ ms) n o e k i l = go (f m) refl e i (first-before ms n o.1)
    where
      go : (b : Bool) → f m ≡ b → pick b (some m) (first_of f ms) ≡ some n → In k (m ∷ ms)
          → (first_of f ms ≡ some n → (j : Node) → In j ms → Precedes j n → f j ≡ false) → f k ≡ false
      go true q e (inl z) ih =
          let y : n ≡ m = cc in
          absurd (ahead_not n k (inr (rw (y, z) refl, rw (y, z) (omega arith))) l)
      go true q e (inr j) ih =
          let y : n ≡ m = cc in
          absurd (ahead_not n k (rw y (each_in (Ahead m) ms o.0 k j)) l)
      go false q e (inl z) ih = rw z q
      go false q e (inr j) ih = ih e k j l

  -- In any list, sorted.
  module _ (ns : List Node) (n : Node) (e : first_of f (sort ns) ≡ some n) where
    pub first-in : In n ns
    first-in = in_sort ns n (first_is (sort ns) n e).0

    pub first_passes : f n ≡ true
    first_passes = (first_is (sort ns) n e).1

    pub first-least : (k : Node) → In k ns → Precedes k n → f k ≡ false
    first-least k i l = first-before (sort ns) n (sort_ordered ns) e k (sort_in ns k i) l
