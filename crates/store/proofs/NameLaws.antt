-- The node that taking a chunk names: with 9 and 10 and with no other number, what it is, and how large. Assumes nothing.
use mathlib.Core.Path.{◌≡◌, refl, sym, ap, ◌∙◌}
use mathlib.Core.Logic.{◌≢◌, inl, inr}
use mathlib.Core.Bool.{true, false, true≢false}
use mathlib.Core.List.{List, [], ◌∷◌}
use mathlib.Core.Option.{Option, none, some}
use Prim.Native.Nat.{ℕ, zero, suc, ◌*◌, ◌≤◌, ◌<◌}
use native.Mathlib.Omega.{arith}
use borrow.Author.Tests.{ne_eqb}
use lib.ListN.{length}
use Rattle.hash.proofs.Promise.{sha256}
use Rattle.base.specs.Among.{among, OneOf}
use Rattle.base.specs.Out.{Out, out_of, is_named, no_node, unless_at, unless}
use Rattle.base.proofs.AmongLaws.{all_among, earlier-one, one_of_more, not_one}
use Rattle.base.specs.Out.{Named}
use Rattle.std.specs.Prelude.{Some}
use Rattle.tree.specs.Node.{Node, num}
use Rattle.tree.specs.Pack.{max_length, leaf_places}
use Rattle.tree.specs.Verdicts.{is_there, needed, first_missing, number, named, verdict}
use Rattle.tree.specs.Verdicts.{Verdict}
use Rattle.std.specs.Prelude.{Ok, Err}
use Rattle.tree.specs.declared.verdict.Fault.TheVariants.{Missing, WrongPeaks, WrongClimb}
use Rattle.tree.proofs.PackLaws.{places_small}
use Rattle.tree.proofs.NamedLaws.{missing-named, peaks-named, climb-named, named-inside, none-missing}
use Rattle.tree.proofs.EachLaws.{each_in}
use Rattle.verdict.specs.Room.{filler}
use Rattle.verdict.specs.Integrity.{Integrity, hash_for, came_from}
use Rattle.verdict.specs.Rooms.{Rooms, count_of, state_of}
use Rattle.store.specs.Answers.{earlier, length_answer, order_answer, chunk_answer}
use Rattle.store.specs.Calls.{rooms_answer, take_spec}
use Rattle.store.specs.Named.{AllCame, NamesMissing, NamesMissed}
use Rattle.store.proofs.AnswerLaws.{both_zero, length_facts, chunk_facts}
use Rattle.store.proofs.NumberLaws.{order-one, chunk-one}

-- ---- two numbers in turn, of which the second may name a node

module _ {W : Type 0} (m n : ℕ) (x : Named) (w v : W) where
  abbrev out : Out W
  out = unless m w (unless_at n x w (out_of 0 0 v))

  node-second : {b : ℕ} → out.node ≡ Some b → (m ≡ 0) × (x ≡ Some b)
  node-second = go m n
    where
      go : (m n : ℕ) {b : ℕ} → (unless m w (unless_at n x w (out_of 0 0 v))).node ≡ Some b → (m ≡ 0) × (x ≡ Some b)
      go zero zero e = absurd (let z : ◌≡◌ {A = ℕ} 0 1 = cc in omega arith)
      go zero (suc n) e = (refl, e)
      go (suc m) n e = absurd (let z : ◌≡◌ {A = ℕ} 0 1 = cc in omega arith)

  answer-second : (k : ℕ) → m ≢ k → k ≢ 0 → out.answer ≡ k → (m ≡ 0) × (n ≡ k) × (out.node ≡ x)
  answer-second k = go m n
    where
      go : (m n : ℕ) → m ≢ k → k ≢ 0 → (unless m w (unless_at n x w (out_of 0 0 v))).answer ≡ k
          → (m ≡ 0) × (n ≡ k) × ((unless m w (unless_at n x w (out_of 0 0 v))).node ≡ x)
      go zero zero d z e = absurd (z (sym e))
      go zero (suc n) d z e = (refl, e, refl)
      go (suc m) n d z e = absurd (d e)

  named-second : is_named x ≡ among (9 ∷ 10 ∷ []) n → among (9 ∷ 10 ∷ []) m ≡ false
      → is_named out.node ≡ among (9 ∷ 10 ∷ []) out.answer
  unfolding among
  named-second = go m n
    where
      go : (m n : ℕ) → is_named x ≡ among (9 ∷ 10 ∷ []) n → among (9 ∷ 10 ∷ []) m ≡ false
          → is_named (unless m w (unless_at n x w (out_of 0 0 v))).node ≡ among (9 ∷ 10 ∷ []) (unless m w (unless_at n x w (out_of 0 0 v))).answer
      go zero zero e f = refl
      go zero (suc n) e f = e
      go (suc m) n e f = sym f

-- ---- taking a chunk

module _ (w : Rooms) (r : List ℕ) (L c : ℕ) (d : List ℕ) (o : Integrity) where
  abbrev N : ℕ
  N = count_of L

  abbrev told : Verdict
  told = verdict sha256 filler N r (state_of L w) c d (came_from o)

  -- The number before the verdict is neither 9 nor 10; with 0 the chunk is one of the pack.
  abbrev answer-before : ℕ
  answer-before = earlier (rooms_answer L w) (chunk_answer L c (length d))

  abbrev numbers-before : List ℕ
  numbers-before = 0 ∷ 7 ∷ 8 ∷ 11 ∷ 12 ∷ []

  before-one : OneOf numbers-before answer-before
  unfolding all_among among
  before-one =
      earlier-one numbers-before (rooms_answer L w) (chunk_answer L c (length d))
      (one_of_more (0 ∷ 11 ∷ 12 ∷ []) numbers-before (rooms_answer L w) refl (order-one L _ _ _ _))
      (one_of_more (0 ∷ 7 ∷ 8 ∷ []) numbers-before (chunk_answer L c (length d)) refl (chunk-one L c (length d)))

  before-not : (k : ℕ) → among numbers-before k ≡ false → answer-before ≢ k
  before-not k e = not_one numbers-before answer-before k e before-one

  before-zero : answer-before ≡ 0 → (L ≤ max_length) × (c < N)
  unfolding order_answer
  before-zero e =
      let p = both_zero (rooms_answer L w) (chunk_answer L c (length d)) e in
      ((length_facts L (both_zero (length_answer L) _ p.0).0).1, (chunk_facts L c (length d) p.1).0)

  -- A node is named with 9 and 10, and with no other number.
  named-told : (v : Verdict) → is_named (named v) ≡ among (9 ∷ 10 ∷ []) (number v)
  unfolding among
  named-told (Ok t) = refl
  named-told (Err (Missing b)) = refl
  named-told (Err (WrongPeaks b)) = refl
  named-told (Err (WrongClimb b)) = refl

  pub take-named : is_named (take_spec w r L c d o).node ≡ among (9 ∷ 10 ∷ []) (take_spec w r L c d o).answer
  unfolding take_spec among
  take-named =
      named-second answer-before (number told) (named told) w _ (named-told told)
      (rw (ne_eqb answer-before 9 (before-not 9 refl), ne_eqb answer-before 10 (before-not 10 refl)))

  -- It is one of the tree, and has a number below that which stands for none.
  pub take-inside : (b : ℕ) → (take_spec w r L c d o).node ≡ Some b → suc b < 2 * leaf_places N
  unfolding take_spec
  take-inside b e =
      let p = node-second answer-before (number told) (named told) w _ e in
      named-inside sha256 filler N r (state_of L w) c (before-zero p.0).1 d (came_from o) b p.1

  pub take-small : (b : ℕ) → (take_spec w r L c d o).node ≡ Some b → b < no_node
  unfolding take_spec
  take-small b e =
      let p = node-second answer-before (number told) (named told) w _ e in
      let l = (before-zero p.0).0 in
      let few = places_small 9 N (leaf_places N) refl (omega arith) in
      omega (arith, take-inside b e, few)

  -- 9
  nine-told : (v : Verdict) → told ≡ v → number v ≡ 9 → (b : ℕ) × (named v ≡ Some b) × NamesMissing L w c o b
  unfolding NamesMissing
  nine-told (Ok t) e z = absurd (omega arith)
  nine-told (Err (Missing b)) e z = (b, refl, missing-named sha256 filler N r (state_of L w) c d (came_from o) b e)
  nine-told (Err (WrongPeaks b)) e z = absurd (omega arith)
  nine-told (Err (WrongClimb b)) e z = absurd (omega arith)

  pub take-missing : (take_spec w r L c d o).answer ≡ 9
      → (b : ℕ) × ((take_spec w r L c d o).node ≡ Some b) × NamesMissing L w c o b
  unfolding take_spec among
  take-missing e =
      let p = answer-second answer-before (number told) (named told) w _ 9 (before-not 9 refl) (λ z. omega arith) e in
      let q = nine-told told refl p.1 in
      (q.0, p.2 ∙ q.1, q.2)

  -- 10
  ten-told : c < N → (v : Verdict) → told ≡ v → number v ≡ 10 → (b : ℕ) × (named v ≡ Some b) × NamesMissed L r w c d o b
  unfolding NamesMissed AllCame
  ten-told l (Ok t) e z = absurd (omega arith)
  ten-told l (Err (Missing b)) e z = absurd (omega arith)
  ten-told l (Err (WrongPeaks b)) e z =
      let k = peaks-named sha256 filler N r (state_of L w) c d (came_from o) b e in
      (b, refl, (k.1, inl (k.0, k.2)))
  ten-told l (Err (WrongClimb b)) e z =
      let k = climb-named sha256 filler N r (state_of L w) c d (came_from o) b l e in
      (b, refl, (k.2, inr (k.0, k.1, k.3)))

  pub take-missed : (take_spec w r L c d o).answer ≡ 10
      → (b : ℕ) × ((take_spec w r L c d o).node ≡ Some b) × NamesMissed L r w c d o b
  unfolding take_spec among
  take-missed e =
      let p = answer-second answer-before (number told) (named told) w _ 10 (before-not 10 refl) (λ z. omega arith) e in
      let q = ten-told (before-zero p.0).1 told refl p.1 in
      (q.0, p.2 ∙ q.1, q.2)

  -- Once 12, 11, 7 and 8 are ruled out, 9 is given exactly where a needed hash did not come.
  nine : answer-before ≡ 0 → (f : Option Node) → first_missing N (state_of L w) c (came_from o) ≡ f → f ≢ none
      → (take_spec w r L c d o).answer ≡ 9
  unfolding take_spec verdict
  nine z none e m = absurd (m refl)
  nine z (some n) e m = rw (z, e)

  pub missing-nine : answer-before ≡ 0 → (AllCame L w c o → ⊥) → (take_spec w r L c d o).answer ≡ 9
  unfolding AllCame
  missing-nine z h =
      nine z (first_missing N (state_of L w) c (came_from o)) refl (λ e. h (none-missing N (state_of L w) c (came_from o) e))

  pub came-not-nine : AllCame L w c o → (take_spec w r L c d o).answer ≢ 9
  unfolding AllCame NamesMissing
  came-not-nine a e =
      let m = (take-missing e).2 in
      let t = each_in (λ n. is_there (hash_for o (num n)) ≡ true) (needed N (state_of L w) c) a m.0 m.2.needs in
      true≢false (sym t ∙ ap is_there m.2.absent)
