-- What the verdict names: of the needed nodes the first that is missing, the trusted node that the climb misses, or the
-- root; in any case a node of the tree. Assumes nothing.
use Rattle.std.proofs.Common.{◌≡◌, ℕ, zero, suc, ◌+◌, ◌*◌, ◌^◌, ◌<◌, ◌≤◌, Bool, true, false, not, ◌⊎◌, List, [], ◌∷◌, ◌++◌, sym, refl, ap, ◌∙◌, inl, inr, true≢false, arith, pow_pos, le-leb}
use mathlib.Core.Option.{Option, none, some}
use borrow.Author.Tests.{not-false}
use Rattle.base.specs.Same.{same}
use Rattle.base.proofs.SameLaws.{same_is, same_refl}
use Rattle.base.specs.Pick.{pick}
use Rattle.std.specs.Prelude.{Some}
use Rattle.tree.specs.Node.{Node, node, num, above}
use Rattle.tree.specs.Pack.{levels, leaf_places, root_node}
use Rattle.tree.specs.Peaks.{peaks, siblings, sort}
use Rattle.tree.specs.Tree.{combined}
use Rattle.tree.specs.State.{State}
use Rattle.tree.specs.Steps.{peak_bit, peak_at}
use Rattle.tree.specs.Verdicts.{Came, is_there, is_missing, got, Each, peaks_trusted, counted_hash, reached, needed}
use Rattle.tree.specs.Verdicts.{first_missing, rooted, met, verdict, number, named, refusal_of}
use Rattle.tree.specs.Named.{FirstMissing, MissesRoot, MissesNode}
use Rattle.tree.specs.Verdicts.{Verdict}
use Rattle.std.specs.Prelude.{Ok, Err}
use Rattle.tree.specs.declared.verdict.Fault.{Fault}
use Rattle.tree.specs.declared.verdict.Fault.TheVariants.{Missing, WrongPeaks, WrongClimb}
use Rattle.base.specs.Refusal as refusal
use Rattle.tree.proofs.Below.{peaks_below}
use Rattle.tree.proofs.EachLaws.{each_map, each_append, each_in, each-sort, sort-each, siblings-each}
use Rattle.tree.proofs.FirstLaws.{first-none, none_first, first-in, first_passes, first-least}
use Rattle.tree.proofs.PackLaws.{levels-holds}
use Rattle.tree.proofs.PeakLaws.{peaks_bits}
use Rattle.tree.proofs.SentLaws.{inside-below}
use Rattle.tree.proofs.SentNumberLaws.{sibling-inside, peak-inside}
use Rattle.tree.proofs.TakeLaws.{verdict-means, reached_least, reached_inside}

-- ---- none is named exactly where all came

module _ (N : ℕ) (s : State) (c : ℕ) (m : Came) where
  abbrev There : Node → Type 0
  There n = is_there (m n.high n.from) ≡ true

  pub all-came : Each There (needed N s c) → first_missing N s c m ≡ none
  unfolding first_missing
  all-came e =
      first-none (is_missing m) (sort (needed N s c))
      (each_map There (λ n. is_missing m n ≡ false) (λ n. ap not) (sort (needed N s c)) (sort-each There (needed N s c) e))

  pub none-missing : first_missing N s c m ≡ none → Each There (needed N s c)
  unfolding first_missing
  none-missing e =
      each-sort There (needed N s c)
      (each_map (λ n. is_missing m n ≡ false) There (λ n. not-false (is_there (m n.high n.from))) (sort (needed N s c))
      (none_first (is_missing m) (sort (needed N s c)) e))

  pub first-missing : (n : Node) → first_missing N s c m ≡ some n → FirstMissing N s c m n
  unfolding first_missing
  first-missing n e = record {
    needs = first-in (is_missing m) (needed N s c) n e;
    absent = absent (m n.high n.from) (first_passes (is_missing m) (needed N s c) n e);
    came-before = λ k i l. not-false (is_there (m k.high k.from)) (first-least (is_missing m) (needed N s c) n e k i l);
  }
    where
      absent : (o : Option (List ℕ)) → not (is_there o) ≡ true → o ≡ none
      absent none e = refl
      absent (some v) e = absurd (true≢false (sym e))

-- ---- by the verdict

module _ (H : List ℕ → List ℕ) (Z : List ℕ) (N : ℕ) (r : List ℕ) (s : State) (c : ℕ) (d : List ℕ) (m : Came) (b : ℕ) where
  pub missing-named : verdict H Z N r s c d m ≡ Err (Missing b) → (n : Node) × (b ≡ num n) × FirstMissing N s c m n
  missing-named e =
      let k = verdict-means H Z N r s c d m (Err (Missing b)) e in
      (k.0, k.1, first-missing N s c m k.0 k.2)

  pub peaks-named : verdict H Z N r s c d m ≡ Err (WrongPeaks b)
      → (b ≡ root_node N) × Each (There N s c m) (needed N s c) × MissesRoot H Z N r s m
  unfolding rooted
  peaks-named e =
      let k = verdict-means H Z N r s c d m (Err (WrongPeaks b)) e in
      (k.0, none-missing N s c m k.1, go (peaks_trusted N s) refl k.2)
    where
      go : (t : Bool) → peaks_trusted N s ≡ t → pick t true (same (combined H Z N (got Z m)) r) ≡ false → MissesRoot H Z N r s m
      go true p q = absurd (true≢false q)
      go false p q = record {
        untrusted = p;
        differs = λ z. true≢false (sym (same_refl r) ∙ ap (λ (x : List ℕ). same x r) (sym z) ∙ q);
      }

  right : (t : Bool) → peaks_trusted N s ≡ t → pick t true (same (combined H Z N (got Z m)) r) ≡ true
      → (peaks_trusted N s ≡ true) ⊎ (combined H Z N (got Z m) ≡ r)
  right true p q = inl p
  right false p q = inr (same_is (combined H Z N (got Z m)) r q)

  pub climb-named : c < N → verdict H Z N r s c d m ≡ Err (WrongClimb b)
      → (n : Node) × (b ≡ num n) × Each (There N s c m) (needed N s c) × MissesNode H Z N r s c d m n
  unfolding met rooted
  climb-named l e =
      let k = verdict-means H Z N r s c d m (Err (WrongClimb b)) e in
      let t = reached N s c in
      let R = reached_least N s c l in
      let v = counted_hash N s (got Z m) t (above t c) in
      let M : MissesNode H Z N r s c d m (node t (above t c)) = record {
        peaks-right = right (peaks_trusted N s) refl k.2;
        is-above = refl;
        trusted = R.passes;
        first = λ h u. R.before h (omega arith) u;
        differs = λ z. true≢false (sym (same_refl v) ∙ ap (λ (x : List ℕ). same x v) (sym z) ∙ k.3);
      } in
      (node t (above t c), k.0, none-missing N s c m k.1, M)

-- ---- a node of the tree

-- The node lies within 0..N-1.
abbrev Inner : ℕ → Node → Type 0
Inner N n = n.from + 2 ^ n.high ≤ N

peaks_inner : (N h : ℕ) → Each (Inner N) (peaks_below N h)
unfolding peaks_below
peaks_inner N zero = tt
peaks_inner N (suc h) = go (peak_bit N h) refl (peaks_inner N h)
  where
    go : (b : Bool) → peak_bit N h ≡ b → Each (Inner N) (peaks_below N h)
        → Each (Inner N) (pick b (peak_at N h ∷ []) [] ++ peaks_below N h)
    go true e ih = (peak-inside N h e, ih)
    go false e ih = ih

needed_inner : (N : ℕ) (s : State) (c : ℕ) → c < N → Each (Inner N) (needed N s c)
unfolding needed
needed_inner N s c l =
    let t = reached N s c in
    each_append (Inner N) (pick (peaks_trusted N s) [] (peaks N)) (siblings c t) (go (peaks_trusted N s))
    (siblings-each (Inner N) c t
    (λ h u. sibling-inside N c h (le-leb (above (suc h) c + 2 ^ suc h) N (inside-below N c t (reached_inside N s c l) h u))))
  where
    go : (b : Bool) → Each (Inner N) (pick b [] (peaks N))
    go true = tt
    go false = rw (peaks_bits N) (peaks_inner N (suc (levels N)))

inner_number : (N : ℕ) (n : Node) → Inner N n → suc (num n) < 2 * leaf_places N
inner_number N n i = omega (arith, levels-holds N, pow_pos n.high)

module _ (H : List ℕ → List ℕ) (Z : List ℕ) (N : ℕ) (r : List ℕ) (s : State) (c : ℕ) (l : c < N) (d : List ℕ) (m : Came) where
  -- A node that is named is one of the tree over N chunks.
  pub named-inside : (b : ℕ) → named (verdict H Z N r s c d m) ≡ Some b → suc b < 2 * leaf_places N
  named-inside b e = go (verdict H Z N r s c d m) refl e
    where
      says : (x : ℕ) → Some x ≡ Some b → suc x < 2 * leaf_places N → suc b < 2 * leaf_places N
      says x e u = let z : x ≡ b = cc in rw (← z) u

      go : (v : Verdict) → verdict H Z N r s c d m ≡ v → named v ≡ Some b → suc b < 2 * leaf_places N
      go (Ok t) p e = absurd (let w : ◌≡◌ {A = ℕ} 0 1 = cc in omega arith)
      go (Err (Missing x)) p e =
          let k = missing-named H Z N r s c d m x p in
          says x e (rw k.1 (inner_number N k.0 (each_in (Inner N) (needed N s c) (needed_inner N s c l) k.0 k.2.needs)))
      go (Err (WrongPeaks x)) p e =
          says x e (rw (peaks-named H Z N r s c d m x p).0 (omega (arith, pow_pos (levels N))))
      go (Err (WrongClimb x)) p e =
          let k = verdict-means H Z N r s c d m (Err (WrongClimb x)) p in
          let t = reached N s c in
          says x e (rw k.0 (inner_number N (node t (above t c)) (reached_inside N s c l)))

-- ---- the refusal that a chunk gets has the verdict's number and node

pub refusal-number : (f : Fault) → number (Err f) ≡ refusal.number (refusal_of f)
refusal-number (Missing b) = refl
refusal-number (WrongPeaks b) = refl
refusal-number (WrongClimb b) = refl

pub refusal-node : (f : Fault) → named (Err f) ≡ refusal.node (refusal_of f)
refusal-node (Missing b) = refl
refusal-node (WrongPeaks b) = refl
refusal-node (WrongClimb b) = refl
