-- The loops of storing a chunk, turn by turn. Assumes nothing.
use mathlib.Core.Path.{◌≡◌, refl, sym, ap₂, ◌∙◌}
use mathlib.Core.Bool.{Bool, true, false}
use mathlib.Core.List.{List, map}
use Prim.Native.Nat.{ℕ, zero, suc, ◌*◌, ◌/◌, ◌%◌, ◌^◌, ◌≤◌, ◌<◌}
use native.Mathlib.Omega.{arith}
use borrow.Author.Tests.{eqb-true}
use lib.Dec.{eqb}
use lib.Pow.{pow_pos}
use lib.ListN.{length}
use Rattle.hash.proofs.Promise.{sha256}
use Rattle.bits.proofs.Promise.{bit_at, set_bit, length-set_bit}
use Rattle.base.specs.Pick.{pick}
use Rattle.tree.specs.Bin.{bin}
use Rattle.tree.specs.Node.{sibling_from, above}
use Rattle.tree.specs.Pack.{chunk_size, chunks, levels}
use Rattle.tree.specs.Peaks.{peaks}
use Rattle.tree.specs.Steps.{peak_bit}
use Rattle.tree.specs.Verdicts.{got, every, peaks_trusted}
use Rattle.verdict.specs.Room.{hash_in, put_hash}
use Rattle.verdict.specs.Integrity.{Integrity}
use Rattle.verdict.specs.Rooms.{Rooms, rooms_of}
use Rattle.verdict.specs.Steps.{trusted_in, got_by}
use Rattle.store.specs.Steps.{Climbed, put_if, put_peaks, put_path}
use Rattle.store.specs.Nodes.{Puts}
use Rattle.store.specs.declared.nodes.Nodes.{Nodes}
use Rattle.store.specs.Storing.{Put, mark, put_all, copied, stored, store_spec}
use Rattle.store.proofs.PutLaws.{all-is}
use Rattle.tree.proofs.NodeLaws.{above_in, above-right, above-inside}

-- lengths
module _ (put : Put) (len : (l : List ℕ) (b : ℕ) (v : List ℕ) → length (put l b v) ≡ length l) where
  len-if : (t : Bool) (l : List ℕ) (b : ℕ) (v : List ℕ) → length (put_if put t l b v) ≡ length l
  len-if true l b v = len l b v
  len-if false l b v = refl

  pub length-peaks : (got : ℕ → ℕ → List ℕ) (N k : ℕ) (l : List ℕ) → length (put_peaks put got N k l) ≡ length l
  unfolding put_peaks
  length-peaks got N zero l = refl
  length-peaks got N (suc h) l =
      len-if (eqb (N / 2 ^ h % 2) 1) (put_peaks put got N h l) (bin h (above (suc h) N)) (got h (above (suc h) N)) ∙ length-peaks got N h l

  pub length-path : (own : ℕ → List ℕ) (got : ℕ → ℕ → List ℕ) (c t : ℕ) (l : List ℕ) → length (put_path put own got c t l) ≡ length l
  unfolding put_path
  length-path own got c zero l = refl
  length-path own got c (suc h) l =
      len (put (put_path put own got c h l) (bin h (above h c)) (own h)) (bin h (sibling_from h c)) (got h (sibling_from h c))
      ∙ len (put_path put own got c h l) (bin h (above h c)) (own h) ∙ length-path own got c h l

  pub length-open : (t : Bool) (got : ℕ → ℕ → List ℕ) (N k : ℕ) (l : List ℕ) → length (pick t l (put_peaks put got N k l)) ≡ length l
  length-open true got N k l = refl
  length-open false got N k l = length-peaks got N k l

pub length-mark : (l : List ℕ) (b : ℕ) (v : List ℕ) → length (mark l b v) ≡ length l
length-mark l b v = length-set_bit l b

-- the path's nodes within a tree of k levels
pub own_inside : (k h c : ℕ) → h ≤ k → c < 2 ^ k → bin h (above h c) < 2 ^ suc k
own_inside k h c l u = omega (arith, above-inside k h c l u, pow_pos h)

-- a peak's, too
pub peak-within : (k h N : ℕ) → N ≤ 2 ^ k → N / 2 ^ h % 2 ≡ 1 → bin h (above (suc h) N) < 2 ^ suc k
peak-within k h N u b = omega (arith, above-right h N b, above_in h N, pow_pos h)

-- what is written, from hashes that agree on it
module _ (put : Put) (x y : ℕ → ℕ → List ℕ) where
  pub peaks-alike : (N k : ℕ) (l : List ℕ) → ((h : ℕ) → N / 2 ^ h % 2 ≡ 1 → x h (above (suc h) N) ≡ y h (above (suc h) N))
      → put_peaks put x N k l ≡ put_peaks put y N k l
  unfolding put_peaks
  peaks-alike N zero l e = refl
  peaks-alike N (suc h) l e = go (peak_bit N h) refl (peaks-alike N h l e)
    where
      go : (b : Bool) → peak_bit N h ≡ b → put_peaks put x N h l ≡ put_peaks put y N h l
          → put_if put b (put_peaks put x N h l) (bin h (above (suc h) N)) (x h (above (suc h) N))
          ≡ put_if put b (put_peaks put y N h l) (bin h (above (suc h) N)) (y h (above (suc h) N))
      go true q ih = ap₂ (λ (m v : List ℕ). put m (bin h (above (suc h) N)) v) ih (e h (eqb-true (N / 2 ^ h % 2) 1 q))
      go false q ih = ih

  pub path-alike : (u v : ℕ → List ℕ) (c t : ℕ) {l m : List ℕ} → l ≡ m → ((h : ℕ) → h < t → u h ≡ v h)
      → ((h : ℕ) → h < t → x h (sibling_from h c) ≡ y h (sibling_from h c))
      → put_path put u x c t l ≡ put_path put v y c t m
  unfolding put_path
  path-alike u v c zero e p q = e
  path-alike u v c (suc h) e p q =
      both _ _ _ _ _ _ _ _ (path-alike u v c h e (λ k i. p k (omega arith)) (λ k i. q k (omega arith))) (p h (omega arith)) (q h (omega arith))
    where
      both : (a b : ℕ) (l₁ l₂ u₁ u₂ v₁ v₂ : List ℕ) → l₁ ≡ l₂ → u₁ ≡ u₂ → v₁ ≡ v₂ → put (put l₁ a u₁) b v₁ ≡ put (put l₂ a u₂) b v₂
      both a b l₁ l₂ u₁ u₂ v₁ v₂ e f g = cc

-- four rooms equal, the rooms equal
rooms_eq : {c c' m m' h h' t t' : List ℕ} → c ≡ c' → m ≡ m' → h ≡ h' → t ≡ t' → rooms_of c m h t ≡ rooms_of c' m' h' t'
rooms_eq e f g i = cc

-- what the code puts into the two rooms
abbrev pub hung : Bool → ℕ → ℕ → ℕ → List ℕ → Integrity → Put → List ℕ → List ℕ
hung opened N c t scratch o put l = put_path put (hash_in scratch) (got_by o) c t (pick opened l (put_peaks put (got_by o) N (suc (levels N)) l))

pub stored_is : (chunks map : List ℕ) (r s : Nodes) (N c t : ℕ) (d : List ℕ) (o : Integrity) {chunks' map' : List ℕ} (scratch : List ℕ) {opened : Bool}
    → chunks' ≡ copied chunks (chunk_size * c) d → map' ≡ set_bit map c → opened ≡ every (trusted_in r.trusted.now) (peaks N)
    → Climbed scratch (got_by o) (sha256 d) c t → Puts (hung opened N c t scratch o) r s
    → rooms_of chunks' map' s.hashes.now s.trusted.now ≡ stored (rooms_of chunks map r.hashes.now r.trusted.now) N c t d o
unfolding stored Climbed peaks_trusted
stored_is chunks map r s N c t d o scratch {opened} e f b K p =
    rooms_eq e f (p.hashes ∙ climbed put_hash r.hashes.now) (p.trusted ∙ climbed mark r.trusted.now)
  where
    climbed : (put : Put) (l : List ℕ) → hung opened N c t scratch o put l ≡ put_all put (every (trusted_in r.trusted.now) (peaks N)) N c t d (got_by o) l
    climbed put l =
        path-alike put (got_by o) (got_by o) (hash_in scratch) _ c t (rw b refl) K (λ h u. refl)
        ∙ sym (all-is put (every (trusted_in r.trusted.now) (peaks N)) N c t d (got_by o) l)

module _ (w : Rooms) (N c t : ℕ) (d : List ℕ) (o : Integrity) where
  pub store-new : {x : Rooms} {q : Bool} → q ≡ bit_at w.map c → q ≡ false → x ≡ stored w N c t d o → x ≡ store_spec w N c t d o
  unfolding store_spec
  store-new e f g = rw (← e, f) g

  pub store-held : {q : Bool} → q ≡ bit_at w.map c → q ≡ true → w ≡ store_spec w N c t d o
  unfolding store_spec
  store-held e f = rw (← e, f)
