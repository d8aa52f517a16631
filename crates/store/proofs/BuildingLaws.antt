-- The loops of building a store: level by level, each node once. Assumes nothing.
use mathlib.Core.Path.{◌≡◌, refl, sym, ap, ap₂, ◌∙◌}
use mathlib.Core.Logic.{◌⊎◌, inl, inr, ◌≢◌}
use mathlib.Core.Bool.{Bool, true, false}
use mathlib.Core.List.{List, ◌++◌, map}
use Prim.Native.Nat.{ℕ, zero, suc, ◌+◌, ◌-◌, ◌*◌, ◌/◌, ◌^◌, ◌≤◌, ◌<◌}
use native.Mathlib.Nat.{pow-suc, mul-le-mul_right, le-div_iff_mul-le}
use native.Mathlib.Omega.{arith}
use native.Mathlib.Decide.{ℕ_discrete}
use borrow.Author.Tests.{leb-true}
use lib.Dec.{leb, ltb}
use lib.Pow.{pow_pos}
use lib.ListN.{length}
use Rattle.hash.proofs.Promise.{sha256}
use Rattle.bits.proofs.Promise.{set_bit, set_range}
use Rattle.base.specs.Pick.{pick}
use Rattle.tree.specs.Bin.{bin}
use Rattle.tree.specs.Node.{above}
use Rattle.tree.specs.Pack.{chunks, levels, leaf_places, root_node}
use Rattle.tree.specs.Tree.{tree, root, given, combined}
use Rattle.verdict.specs.Room.{filler, Digest, hash_in, put_hash}
use Rattle.verdict.specs.Rooms.{rooms_of, count_of, chunk_in}
use Rattle.store.specs.Steps.{Filled, put_level, put_levels}
use Rattle.store.specs.Storing.{Put, mark, copied}
use Rattle.store.specs.Building.{clear_row, tree_of, root_of, build_rooms}
use Rattle.verdict.proofs.RoomLaws.{digest_filler, digest_hash, length-put_hash, hash-same, hash-other}
use Rattle.store.proofs.WrittenLaws.{bin_eq}
use Rattle.store.proofs.PutLaws.{built-each}
use Rattle.tree.proofs.NodeLaws.{split, above_in, above_unique, aligned_left, aligned_right}
use Rattle.tree.proofs.PackLaws.{high_bound}
use Rattle.base.proofs.PickLaws.{both_true}
use Rattle.tree.proofs.SoundLaws.{combined-peaks}
use Rattle.tree.proofs.TreeLaws.{tree-leaf, tree-step, combined-root}

-- the k-th node of height h
pub multiple : (h k : ℕ) → above h (k * 2 ^ h) ≡ k * 2 ^ h
multiple h k = above_unique h k (k * 2 ^ h) (omega arith) (omega (arith, pow_pos h))

pub kth_inside : (N h k : ℕ) → k < N / 2 ^ h → k * 2 ^ h + 2 ^ h ≤ N
kth_inside N h k l = omega (arith, mul-le-mul_right (2 ^ h) l, above_in h N)

pub tree_digest : (s : List ℕ) (h a : ℕ) → Digest (tree_of s h a)
unfolding tree_of tree
tree_digest s zero a = go (leb (count_of (length s)) a)
  where
    go : (t : Bool) → Digest (pick t filler (sha256 (chunk_in (length s) s a)))
    go true = digest_filler
    go false = digest_hash (chunk_in (length s) s a)
tree_digest s (suc h) a = go (leb (count_of (length s)) a)
  where
    go : (t : Bool) → Digest (pick t filler (sha256 (tree sha256 filler (count_of (length s)) (chunk_in (length s) s) h a ++ tree sha256 filler (count_of (length s)) (chunk_in (length s) s) h (a + 2 ^ h))))
    go true = digest_filler
    go false = digest_hash _

pub tree_chunk : (s : List ℕ) (k : ℕ) → k < count_of (length s) → sha256 (chunk_in (length s) s k) ≡ tree_of s 0 (k * 2 ^ 0)
unfolding tree_of
tree_chunk s k l = let e : k ≡ k * 2 ^ 0 = omega arith in sym (tree-leaf sha256 filler (count_of (length s)) (chunk_in (length s) s) k l) ∙ ap (tree sha256 filler (count_of (length s)) (chunk_in (length s) s) 0) e

pub tree_join : (s : List ℕ) (h a : ℕ) → a < count_of (length s) → sha256 (tree_of s h a ++ tree_of s h (a + 2 ^ h)) ≡ tree_of s (suc h) a
unfolding tree_of
tree_join s h a l = sym (tree-step sha256 filler (count_of (length s)) (chunk_in (length s) s) h a l)

-- ---- lengths

module _ (put : Put) (got : ℕ → ℕ → List ℕ) where
  module _ (len : (l : List ℕ) (b : ℕ) (v : List ℕ) → length (put l b v) ≡ length l) where
    pub length-level : (h k : ℕ) (l : List ℕ) → length (put_level put got h k l) ≡ length l
    unfolding put_level
    length-level h zero l = refl
    length-level h (suc k) l = len (put_level put got h k l) (bin h (k * 2 ^ h)) (got h (k * 2 ^ h)) ∙ length-level h k l

    pub length-levels : (N k : ℕ) (l : List ℕ) → length (put_levels put got N k l) ≡ length l
    unfolding put_levels
    length-levels N zero l = refl
    length-levels N (suc h) l = length-level h (N / 2 ^ h) (put_levels put got N h l) ∙ length-levels N h l

-- ---- what a room shows afterwards

module _ (A : Type 0) (put : Put) (look : List ℕ → ℕ → A) (shows : List ℕ → A) (Room : List ℕ → Type 0) (N : ℕ)
    (at_same : (l : List ℕ) (h a : ℕ) (v : List ℕ) → Room l → a + 2 ^ h ≤ N → Digest v → look (put l (bin h a) v) (bin h a) ≡ shows v)
    (at_other : (l : List ℕ) (b b' : ℕ) (v : List ℕ) → b' ≢ b → look (put l b v) b' ≡ look l b')
    (keeps : (l : List ℕ) (b : ℕ) (v : List ℕ) → Room l → Room (put l b v))
    (got : ℕ → ℕ → List ℕ) (got-digest : (h a : ℕ) → Digest (got h a)) where
  pub room-level : (h k : ℕ) (l : List ℕ) → Room l → Room (put_level put got h k l)
  unfolding put_level
  room-level h zero l R = R
  room-level h (suc k) l R = keeps _ _ _ (room-level h k l R)

  room-levels : (k : ℕ) (l : List ℕ) → Room l → Room (put_levels put got N k l)
  unfolding put_levels
  room-levels zero l R = R
  room-levels (suc h) l R = room-level h (N / 2 ^ h) _ (room-levels h l R)

  -- nodes of other heights
  pub level-other : (h k : ℕ) (l : List ℕ) (j a : ℕ) → j ≢ h → above j a ≡ a → look (put_level put got h k l) (bin j a) ≡ look l (bin j a)
  unfolding put_level
  level-other h zero l j a d e = refl
  level-other h (suc k) l j a d e =
      at_other (put_level put got h k l) (bin h (k * 2 ^ h)) (bin j a) (got h (k * 2 ^ h)) (λ z. d (bin_eq j a h (k * 2 ^ h) e (multiple h k) z).0)
      ∙ level-other h k l j a d e

  -- the i-th node of the level's k
  level-same : (h k : ℕ) (l : List ℕ) → Room l → k ≤ N / 2 ^ h → (i : ℕ) → i < k → look (put_level put got h k l) (bin h (i * 2 ^ h)) ≡ shows (got h (i * 2 ^ h))
  unfolding put_level
  level-same h zero l R u i l' = absurd (omega arith)
  level-same h (suc k) l R u i l' = go (ℕ_discrete (i * 2 ^ h) (k * 2 ^ h)) (level-same h k l R (omega arith) i)
    where
      P : List ℕ
      P = put_level put got h k l

      go : Dec (i * 2 ^ h ≡ k * 2 ^ h) → (i < k → look P (bin h (i * 2 ^ h)) ≡ shows (got h (i * 2 ^ h)))
          → look (put P (bin h (k * 2 ^ h)) (got h (k * 2 ^ h))) (bin h (i * 2 ^ h)) ≡ shows (got h (i * 2 ^ h))
      go (yes q) ih = rw q (at_same P h (k * 2 ^ h) (got h (k * 2 ^ h)) (room-level h k l R) (kth_inside N h k u) (got-digest h (k * 2 ^ h)))
      go (no q) ih =
          at_other P (bin h (k * 2 ^ h)) (bin h (i * 2 ^ h)) (got h (k * 2 ^ h)) (λ z. q (bin_eq h (i * 2 ^ h) h (k * 2 ^ h) (multiple h i) (multiple h k) z).1)
          ∙ ih (below (split k i))
        where
          below : (k ≤ i) ⊎ (i < k) → i < k
          below (inl x) = let z : i ≡ k = omega arith in absurd (q (ap (λ (y : ℕ). y * 2 ^ h) z))
          below (inr x) = x

  pub levels-same : (k : ℕ) (l : List ℕ) → Room l → (h a : ℕ) → h < k → above h a ≡ a → a + 2 ^ h ≤ N → look (put_levels put got N k l) (bin h a) ≡ shows (got h a)
  unfolding put_levels
  levels-same zero l R h a u e i = absurd (omega arith)
  levels-same (suc k) l R h a u e i = go (ℕ_discrete h k) (levels-same k l R h a)
    where
      P : List ℕ
      P = put_levels put got N k l

      own : above k a ≡ a → a + 2 ^ k ≤ N → look (put_level put got k (N / 2 ^ k) P) (bin k a) ≡ shows (got k a)
      own al inside =
          let x : a / 2 ^ k < N / 2 ^ k = (le-div_iff_mul-le (pow_pos k)).1 (omega arith) in
          rw al at (level-same k (N / 2 ^ k) P (room-levels k l R) (omega arith) (a / 2 ^ k) x)

      go : Dec (h ≡ k) → (h < k → above h a ≡ a → a + 2 ^ h ≤ N → look P (bin h a) ≡ shows (got h a)) → look (put_level put got k (N / 2 ^ k) P) (bin h a) ≡ shows (got h a)
      go (yes q) ih = rw q (own (rw q at e) (rw q at i))
      go (no q) ih = level-other k (N / 2 ^ k) P h a q e ∙ ih (omega arith) e i

-- the hash room
pub filled-fits : (N h a : ℕ) (l : List ℕ) → 16 * N ≤ length l + 8 → a + 2 ^ h ≤ N → bin h a < length l / 8
filled-fits N h a l r i = omega (arith, pow_pos h)

pub filled-level : (s : List ℕ) (N h k : ℕ) (l : List ℕ) → Filled l (tree_of s) N h → Filled (put_level put_hash (tree_of s) h k l) (tree_of s) N h
unfolding Filled
filled-level s N h k l F j a u e i =
    level-other (List ℕ) put_hash hash_in (λ v. v) (λ x. 16 * N ≤ length x + 8) N (λ x p q v r t g. hash-same x (bin p q) v (filled-fits N p q x r t) g) hash-other
    (λ x b v r. rw (length-put_hash x b v) r) (tree_of s) (tree_digest s) h k l j a (λ z. omega arith) e
    ∙ F j a u e i

pub filled-levels : (s : List ℕ) (N k : ℕ) (l : List ℕ) → 16 * N ≤ length l + 8 → Filled (put_levels put_hash (tree_of s) N k l) (tree_of s) N k
unfolding Filled
filled-levels s N k l R h a u e i =
    levels-same (List ℕ) put_hash hash_in (λ v. v) (λ x. 16 * N ≤ length x + 8) N (λ x p q v r t g. hash-same x (bin p q) v (filled-fits N p q x r t) g) hash-other
    (λ x b v r. rw (length-put_hash x b v) r) (tree_of s) (tree_digest s) k l R h a u e i

-- the children of the k-th node of height h are the 2k-th and the next of the height below
pub kids_in : (N h k : ℕ) → h ≢ 0 → k * 2 ^ h + 2 ^ h ≤ N → (2 * k * 2 ^ (h - 1) + 2 ^ (h - 1) ≤ N) × ((2 * k + 1) * 2 ^ (h - 1) + 2 ^ (h - 1) ≤ N)
kids_in N zero k z i = absurd (z refl)
kids_in N (suc h) k z i =
    let e : suc h - 1 ≡ h = omega arith in
    let p : k * 2 ^ suc h ≡ 2 * (k * 2 ^ h) = rw pow-suc (omega arith) in
    let q : 2 * k * 2 ^ h ≡ 2 * (k * 2 ^ h) = omega arith in
    let r : (2 * k + 1) * 2 ^ h ≡ 2 * (k * 2 ^ h) + 2 ^ h = omega arith in
    rw e (omega (arith, p, q, r), omega (arith, p, q, r))

pub kids_hash : (s : List ℕ) (N h k : ℕ) (l : List ℕ) → h ≢ 0 → N ≡ count_of (length s) → Filled l (tree_of s) N h → k * 2 ^ h + 2 ^ h ≤ N
    → sha256 (hash_in l (bin (h - 1) (2 * k * 2 ^ (h - 1))) ++ hash_in l (bin (h - 1) ((2 * k + 1) * 2 ^ (h - 1)))) ≡ tree_of s h (k * 2 ^ h)
unfolding Filled
kids_hash s N zero k l z n F i = absurd (z refl)
kids_hash s N (suc h) k l z n F i =
    let e : suc h - 1 ≡ h = omega arith in
    let p : 2 * k * 2 ^ h ≡ k * 2 ^ suc h = rw pow-suc (omega arith) in
    let q : (2 * k + 1) * 2 ^ h ≡ k * 2 ^ suc h + 2 ^ h = rw pow-suc (omega arith) in
    let al = multiple (suc h) k in
    rw (e, p, q)
    (ap₂ (λ (x y : List ℕ). sha256 (x ++ y)) (F h (k * 2 ^ suc h) (omega arith) (aligned_left h (k * 2 ^ suc h) al) (omega (arith, pow_pos h)))
    (F h (k * 2 ^ suc h + 2 ^ h) (omega arith) (aligned_right h (k * 2 ^ suc h) al) (omega arith))
    ∙ tree_join s h (k * 2 ^ suc h) (omega (arith, pow_pos h)))

-- and a node of height 0 is a chunk
pub leaf_in : (N h k : ℕ) → h ≡ 0 → k < N / 2 ^ h → k < N
leaf_in N h k z l = let i = kth_inside N h k l in omega (arith, i, pow_pos h, times-one h k z)
  where
    times-one : (h k : ℕ) → h ≡ 0 → k * 2 ^ h ≡ k
    times-one h k z = rw z (omega arith)

pub leaf-hash : (s : List ℕ) (N h k : ℕ) → h ≡ 0 → N ≡ count_of (length s) → k < N / 2 ^ h → sha256 (chunk_in (length s) s k) ≡ tree_of s h (k * 2 ^ h)
leaf-hash s N h k z n l = tree_chunk s k (omega (arith, leaf_in N h k z l)) ∙ ap (λ (x : ℕ). tree_of s x (k * 2 ^ x)) (sym z)

combined_is : (N : ℕ) (held : ℕ → ℕ → List ℕ) → given sha256 filler N held (levels N) 0 ≡ combined sha256 filler N held
unfolding combined
combined_is N held = refl

-- the hash that a room holds for a node, by its height and first chunk
abbrev held_by : List ℕ → ℕ → ℕ → List ℕ
held_by hashes h a = hash_in hashes (bin h a)

-- the root that a filled room gives
pub root-filled : (s l : List ℕ) (N : ℕ) → N ≡ count_of (length s) → Filled l (tree_of s) N (suc (levels N)) → given sha256 filler N (held_by l) (levels N) 0 ≡ root_of s
unfolding Filled tree_of root_of
root-filled s l N e F =
    fold_up (combined-peaks sha256 filler N (held_by l) (tree sha256 filler (count_of (length s)) (chunk_in (length s) s))
    (λ h b g p.
    let i = leb-true (b + 2 ^ h) N (both_true (leb (b + 2 ^ h) N) (ltb N (above (suc h) b + 2 ^ suc h)) p).0 in
    let u = high_bound N h (omega arith) in
    F h b (omega arith) g i))
  where
    fold_up : combined sha256 filler N (held_by l) ≡ combined sha256 filler N (tree sha256 filler (count_of (length s)) (chunk_in (length s) s)) → given sha256 filler N (held_by l) (levels N) 0 ≡ root sha256 filler (count_of (length s)) (chunk_in (length s) s)
    fold_up q = combined_is N (held_by l) ∙ q ∙ ap (λ (x : ℕ). combined sha256 filler x (tree sha256 filler (count_of (length s)) (chunk_in (length s) s))) e ∙ combined-root sha256 filler (count_of (length s)) (chunk_in (length s) s)

rooms_eq : {c c' m m' h h' t t' : List ℕ} → c ≡ c' → m ≡ m' → h ≡ h' → t ≡ t' → rooms_of c m h t ≡ rooms_of c' m' h' t'
rooms_eq e f g i = cc

pub built_is : (chunks map hashes trusted s : List ℕ) (N top : ℕ) {c' m' h1 h2 t1 t2 t3 v : List ℕ} → N ≡ count_of (length s) → top ≡ levels N → 16 * N ≤ length hashes + 8
    → c' ≡ copied chunks 0 s
    → (m' ≡ set_range (clear_row map N) 0 N) × (t1 ≡ clear_row trusted (2 * leaf_places N))
    → (h1 ≡ put_levels put_hash (tree_of s) N (suc (levels N)) hashes) × (t2 ≡ put_levels mark (tree_of s) N (suc (levels N)) t1)
    → v ≡ given sha256 filler N (held_by h1) top 0
    → (h2 ≡ put_hash h1 (root_node N) v) × (t3 ≡ mark t2 (root_node N) v)
    → (v ≡ root_of s) × (rooms_of c' m' h2 t3 ≡ build_rooms (rooms_of chunks map hashes trusted) (count_of (length s)) s)
unfolding build_rooms
built_is chunks map hashes trusted s N top {h1 = h1} {v = v} n l r ce me he ve te =
    let b : root_node N ≡ root_node (count_of (length s)) = ap root_node n in
    let H : h1 ≡ put_levels put_hash (tree_of s) (count_of (length s)) (suc (levels (count_of (length s)))) hashes = he.0 ∙ ap (λ (x : ℕ). put_levels put_hash (tree_of s) x (suc (levels x)) hashes) n in
    let F : Filled h1 (tree_of s) N (suc (levels N)) = rw he.0 (filled-levels s N (suc (levels N)) hashes r) in
    let R : v ≡ root_of s = ve ∙ ap (λ (x : ℕ). given sha256 filler N (held_by h1) x 0) l ∙ root-filled s h1 N n F in (
      R,
      rooms_eq ce
          (me.0 ∙ ap (λ (x : ℕ). set_range (clear_row map x) 0 x) n)
          (te.0 ∙ put3 H b R ∙ sym (built-each put_hash s hashes))
          (te.1 ∙ ap₂ set_bit (he.1 ∙ marks (me.1 ∙ ap (λ (x : ℕ). clear_row trusted (2 * leaf_places x)) n) n (ap levels n)) b
          ∙ sym (built-each mark s (clear_row trusted (2 * leaf_places (count_of (length s)))))),
    )
  where
    put3 : {l l' v v' : List ℕ} {b b' : ℕ} → l ≡ l' → b ≡ b' → v ≡ v' → put_hash l b v ≡ put_hash l' b' v'
    put3 x y z = cc

    marks : {l l' : List ℕ} {x x' y y' : ℕ} → l ≡ l' → x ≡ x' → y ≡ y' → put_levels mark (tree_of s) x (suc y) l ≡ put_levels mark (tree_of s) x' (suc y') l'
    marks e f g = cc
