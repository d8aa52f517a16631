-- Tests passed by every node of a list, and what holds of each. Assumes nothing.
use Rattle.std.proofs.Common.{◌≡◌, ℕ, zero, suc, ◌<◌, ◌≤◌, Bool, true, false, ◌⊎◌, List, [], ◌∷◌, ◌++◌, refl, inl, inr, arith}
use Rattle.base.specs.Pick.{pick}
use Rattle.base.proofs.PickLaws.{both_true}
use Rattle.tree.specs.Node.{Node}
use Rattle.tree.specs.Peaks.{siblings, before, insert, sort}
use Rattle.tree.specs.Verdicts.{every, Each}
use Rattle.tree.specs.Named.{In}
use Rattle.tree.specs.Steps.{sibling_at}
use Rattle.tree.proofs.NodeLaws.{split}

-- ---- every and each

pub every_each : (f : Node → Bool) (ns : List Node) → every f ns ≡ true → Each (λ n. f n ≡ true) ns
unfolding every
every_each f [] e = tt
every_each f (n ∷ ns) e = let p = both_true (f n) (every f ns) e in (p.0, every_each f ns p.1)

pub each_map : (P Q : Node → Type 0) → ((n : Node) → P n → Q n) → (ns : List Node) → Each P ns → Each Q ns
each_map P Q f [] e = tt
each_map P Q f (n ∷ ns) e = (f n e.0, each_map P Q f ns e.1)

-- ---- each of two lists, of a sorted one, and of the siblings

module _ (P : Node → Type 0) where
  pub each_in : (ns : List Node) → Each P ns → (k : Node) → In k ns → P k
  each_in [] p k i = absurd i
  each_in (n ∷ ns) p k (inl e) = rw e p.0
  each_in (n ∷ ns) p k (inr i) = each_in ns p.1 k i

  pub each_of : (ns : List Node) → ((k : Node) → In k ns → P k) → Each P ns
  each_of [] f = tt
  each_of (n ∷ ns) f = (f n (inl refl), each_of ns (λ k i. f k (inr i)))

  pub each_append : (ms ns : List Node) → Each P ms → Each P ns → Each P (ms ++ ns)
  each_append [] ns p q = q
  each_append (m ∷ ms) ns p q = (p.0, each_append ms ns p.1 q)

  pub each-split : (ms ns : List Node) → Each P (ms ++ ns) → Each P ms × Each P ns
  each-split [] ns p = (tt, p)
  each-split (m ∷ ms) ns p = let q = each-split ms ns p.1 in ((p.0, q.0), q.1)

  each-insert : (m : Node) (ns : List Node) → Each P (insert m ns) → P m × Each P ns
  unfolding insert
  each-insert m [] p = p
  each-insert m (n ∷ ns) p = go (before m n) p (each-insert m ns)
    where
      go : (b : Bool) → Each P (pick b (m ∷ n ∷ ns) (n ∷ insert m ns)) → (Each P (insert m ns) → P m × Each P ns) → P m × Each P (n ∷ ns)
      go true p ih = p
      go false p ih = let q = ih p.1 in (q.0, (p.0, q.1))

  pub insert-each : (m : Node) (ns : List Node) → P m → Each P ns → Each P (insert m ns)
  unfolding insert
  insert-each m [] p q = (p, tt)
  insert-each m (n ∷ ns) p q = go (before m n) (insert-each m ns p q.1)
    where
      go : (b : Bool) → Each P (insert m ns) → Each P (pick b (m ∷ n ∷ ns) (n ∷ insert m ns))
      go true ih = (p, q)
      go false ih = (q.0, ih)

  pub sort-each : (ns : List Node) → Each P ns → Each P (sort ns)
  unfolding sort
  sort-each [] p = tt
  sort-each (n ∷ ns) p = insert-each n (sort ns) p.0 (sort-each ns p.1)

  pub each-sort : (ns : List Node) → Each P (sort ns) → Each P ns
  unfolding sort
  each-sort [] p = tt
  each-sort (n ∷ ns) p = let q = each-insert n (sort ns) p in (q.0, each-sort ns q.1)

  pub siblings-at : (c t : ℕ) → Each P (siblings c t) → (h : ℕ) → h < t → P (sibling_at c h)
  unfolding siblings
  siblings-at c zero p h l = absurd (omega arith)
  siblings-at c (suc t) p h l = go (split t h) (siblings-at c t p.1 h)
    where
      go : (t ≤ h) ⊎ (h < t) → (h < t → P (sibling_at c h)) → P (sibling_at c h)
      go (inl u) ih = let e : h ≡ t = omega arith in rw e p.0
      go (inr u) ih = ih u

  pub siblings-each : (c t : ℕ) → ((h : ℕ) → h < t → P (sibling_at c h)) → Each P (siblings c t)
  unfolding siblings
  siblings-each c zero p = tt
  siblings-each c (suc t) p = (p t (omega arith), siblings-each c t (λ h l. p h (omega arith)))
