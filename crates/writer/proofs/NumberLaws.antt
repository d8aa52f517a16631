-- Numbers written as bytes and read again, and the other way round. Assumes nothing.
use Prim.Native.Nat.{ℕ, suc, ◌+◌, ◌*◌, ◌/◌, ◌%◌, ◌<◌, ◌≤◌, ◌^◌}
use native.Mathlib.Omega.{arith}
use native.Mathlib.Nat.{div-add-mod'}
use mathlib.Core.Path.{◌≡◌, sym, ap, ap₂, ◌∙◌}
use mathlib.Core.List.{List, [], ◌∷◌, ◌++◌, append_assoc}
use lib.ListN.{length, get_or, drop}
use lib.Seq.{drop-cons, get_or-append-add}
use Rattle.wire.specs.Bytes.{be16, be32, be64}
use Rattle.writer.specs.Bytes.{bytes32, bytes64}
use Rattle.writer.specs.Lists.{AreBytes}

digits : (x q₁ q₂ q₃ r₀ r₁ r₂ : ℕ) → q₁ * 256 + r₀ ≡ x → q₂ * 256 + r₁ ≡ q₁ → q₃ * 256 + r₂ ≡ q₂ → (q₃ * 256 + r₂) * 65536 + (r₁ * 256 + r₀) ≡ x
digits x q₁ q₂ q₃ r₀ r₁ r₂ a b c = omega arith

-- the four bytes of a number, put together again
pub joined32 : (x : ℕ) → x < 4294967296 → (x / 16777216 % 256 * 256 + x / 65536 % 256) * 65536 + (x / 256 % 256 * 256 + x % 256) ≡ x
joined32 x h =
    let a : x / 256 / 256 ≡ x / 65536 = omega arith in
    let b : x / 65536 / 256 ≡ x / 16777216 = omega arith in
    let t : x / 16777216 % 256 ≡ x / 16777216 = omega arith in
    rw t
    (digits x (x / 256) (x / 65536) (x / 16777216) (x % 256) (x / 256 % 256) (x / 65536 % 256) (div-add-mod' x 256)
    (rw a at (div-add-mod' (x / 256) 256)) (rw b at (div-add-mod' (x / 65536) 256)))

-- a number behind bytes a
module _ (a r : List ℕ) where
  byte-behind : (i j : ℕ) → j ≡ length a + i → get_or (a ++ r) j 0 ≡ get_or r i 0
  byte-behind i j e = rw e (get_or-append-add a r i 0)

  be16-behind : (i j : ℕ) → j ≡ length a + i → be16 (a ++ r) j ≡ be16 r i
  be16-behind i j e = ap₂ (λ (x y : ℕ). x * 256 + y) (byte-behind i j e) (byte-behind (i + 1) (j + 1) (omega (arith, e)))

  be32-behind : (i j : ℕ) → j ≡ length a + i → be32 (a ++ r) j ≡ be32 r i
  be32-behind i j e = ap₂ (λ (x y : ℕ). x * 65536 + y) (be16-behind i j e) (be16-behind (i + 2) (j + 2) (omega (arith, e)))

  pub be64-behind : (i j : ℕ) → j ≡ length a + i → be64 (a ++ r) j ≡ be64 r i
  be64-behind i j e = ap₂ (λ (x y : ℕ). x * 4294967296 + y) (be32-behind i j e) (be32-behind (i + 4) (j + 4) (omega (arith, e)))

-- a number of eight bytes, in front
pub time_is : (x : ℕ) (q : List ℕ) → x < 2 ^ 64 → be64 (bytes64 x ++ q) 0 ≡ x
unfolding bytes32 bytes64
time_is x q h =
    ap₂ (λ (a b : ℕ). a * 4294967296 + b) (joined32 (x / 4294967296) (omega arith)) (joined32 (x % 4294967296) (omega arith)) ∙ div-add-mod' x 4294967296

-- a first and a last chunk behind the type
module _ (k f l : ℕ) (r : List ℕ) where
  pub range-first : f < 2 ^ 32 → be32 (k ∷ (bytes32 f ++ bytes32 l) ++ r) 1 ≡ f
  unfolding bytes32
  range-first h = joined32 f h

  pub range_last : l < 2 ^ 32 → be32 (k ∷ (bytes32 f ++ bytes32 l) ++ r) 5 ≡ l
  unfolding bytes32
  range_last h = joined32 l h

-- a source channel behind the type
pub source_is : (k x : ℕ) (r : List ℕ) → x < 2 ^ 32 → be32 (k ∷ bytes32 x ++ r) 1 ≡ x
unfolding bytes32
source_is k x r h = joined32 x h

-- ---- the other way round: the bytes of a number that was read

split32 : (a b c d : ℕ) → a < 256 → b < 256 → c < 256 → d < 256 → bytes32 ((a * 256 + b) * 65536 + (c * 256 + d)) ≡ a ∷ b ∷ c ∷ d ∷ []
unfolding bytes32
split32 a b c d ha hb hc hd =
    let x = (a * 256 + b) * 65536 + (c * 256 + d) in
    let p : x / 16777216 % 256 ≡ a = omega arith in
    let q : x / 65536 % 256 ≡ b = omega arith in
    let m : x / 256 % 256 ≡ c = omega arith in
    let n : x % 256 ≡ d = omega arith in
    rw (p, q, m, n)

module _ (t : List ℕ) (small : AreBytes t) where
  pub be32-fits : (k : ℕ) → be32 t k < 2 ^ 32
  be32-fits k = omega (arith, small k, small (k + 1), small (k + 2), small (k + 2 + 1))

  pub be64-fits : (k : ℕ) → be64 t k < 2 ^ 64
  be64-fits k = omega (arith, be32-fits k, be32-fits (k + 4))

  -- a byte in front of the rest
  pub peel : (k : ℕ) → k < length t → get_or t k 0 ∷ drop (suc k) t ≡ drop k t
  peel k h = sym (drop-cons t k 0 h)

  pub split-word : (k : ℕ) → k + 4 ≤ length t → bytes32 (be32 t k) ++ drop (k + 4) t ≡ drop k t
  split-word k h =
      rw (split32 (get_or t k 0) (get_or t (k + 1) 0) (get_or t (k + 2) 0) (get_or t (k + 2 + 1) 0) (small k) (small (k + 1)) (small (k + 2)) (small (k + 2 + 1)))
      (cells k h)
    where
      cells : (k : ℕ) → k + 4 ≤ length t → get_or t k 0 ∷ get_or t (k + 1) 0 ∷ get_or t (k + 2) 0 ∷ get_or t (k + 2 + 1) 0 ∷ drop (k + 4) t ≡ drop k t
      cells k h =
          let e₁ : suc k ≡ k + 1 = omega arith in
          let e₂ : suc (k + 1) ≡ k + 2 = omega arith in
          let e₃ : suc (k + 2) ≡ k + 2 + 1 = omega arith in
          let e₄ : suc (k + 2 + 1) ≡ k + 4 = omega arith in
          ap (λ (r : List ℕ). get_or t k 0 ∷ get_or t (k + 1) 0 ∷ get_or t (k + 2) 0 ∷ r) (rw e₄ at (peel (k + 2 + 1) (omega arith)))
          ∙ ap (λ (r : List ℕ). get_or t k 0 ∷ get_or t (k + 1) 0 ∷ r) (rw e₃ at (peel (k + 2) (omega arith)))
          ∙ ap (λ (r : List ℕ). get_or t k 0 ∷ r) (rw e₂ at (peel (k + 1) (omega arith)))
          ∙ (rw e₁ at (peel k (omega arith)))

  pub split-long : (k : ℕ) → k + 8 ≤ length t → bytes64 (be64 t k) ++ drop (k + 8) t ≡ drop k t
  unfolding bytes64
  split-long k h =
      let hi : be64 t k / 4294967296 ≡ be32 t k = omega (arith, be32-fits (k + 4)) in
      let lo : be64 t k % 4294967296 ≡ be32 t (k + 4) = omega (arith, be32-fits (k + 4)) in
      let e : k + 4 + 4 ≡ k + 8 = omega arith in
      rw (hi, lo) (append_assoc (bytes32 (be32 t k)) (bytes32 (be32 t (k + 4))) (drop (k + 8) t)
      ∙ ap (λ (r : List ℕ). bytes32 (be32 t k) ++ r) (rw e at (split-word (k + 4) (omega arith)))
      ∙ split-word k (omega arith))
