-- What is written behind a message changes nothing of how it is read, unless it is DATA. Assumes nothing.
use Prim.Native.Nat.{ℕ, suc, ◌+◌, ◌*◌, ◌<◌, ◌≤◌}
use native.Mathlib.Omega.{arith}
use mathlib.Core.Path.{◌≡◌, refl, ap, ap₂, ◌∙◌}
use mathlib.Core.List.{List, ◌++◌}
use mathlib.Core.Bool.{true, false}
use lib.Dec.{ltb, eqb}
use lib.ListN.{length, get_or, length-append, get_or-append}
use borrow.Author.Tests.{le-ltb}
use Rattle.base.specs.Pick.{pick}
use Rattle.format.specs.declared.Addressing.{Addressing}
use Rattle.format.specs.declared.Addressing.TheVariants.{Bins, Ranges}
use Rattle.format.specs.declared.Format.{Format}
use Rattle.wire.specs.Bytes.{be16, be32, be64}
use Rattle.wire.specs.Place.{place_by, place_size, named_size, timed_size, integrity_size, empty_bin, everything_bin}
use Rattle.wire.specs.Place.{first_by, first_of, last_by, last_of, empty_by, is_empty, special_by, is_special}
use Rattle.wire.specs.Read.{cursor, names_node, named, step_of}
use Rattle.wire.specs.declared.message.Message.TheVariants.{Handshake, Data, Ack, Have, Integrity, Request, Cancel, Choke, Unchoke, Empty}
use Rattle.wire.specs.declared.message.Step.{Step}
use Rattle.wire.specs.declared.message.Step.TheVariants.{Read, End, Refused}
use Rattle.wire.proofs.ViewLaws.{refusing, ack-is, have-is, integrity-is, request-is, cancel-is, choke-is, unchoke-is, empty-is, View}
use Rattle.wire.proofs.ViewLaws.{the_end, refused, a_handshake, a_data, an_ack, a_have, an_integrity, a_request, a_cancel, a_choke, an_unchoke, an_empty}

-- ---- numbers that stand in the front part
module _ (t b : List ℕ) where
  pub byte-local : (k : ℕ) → k < length t → get_or (t ++ b) k 0 ≡ get_or t k 0
  byte-local k h = get_or-append t b 0 k h

  pub be16-local : (k : ℕ) → k + 2 ≤ length t → be16 (t ++ b) k ≡ be16 t k
  be16-local k h = ap₂ (λ (x y : ℕ). x * 256 + y) (byte-local k (omega arith)) (byte-local (k + 1) (omega arith))

  pub be32-local : (k : ℕ) → k + 4 ≤ length t → be32 (t ++ b) k ≡ be32 t k
  be32-local k h = ap₂ (λ (x y : ℕ). x * 65536 + y) (be16-local k (omega arith)) (be16-local (k + 2) (omega arith))

  pub be64-local : (k : ℕ) → k + 8 ≤ length t → be64 (t ++ b) k ≡ be64 t k
  be64-local k h = ap₂ (λ (x y : ℕ). x * 4294967296 + y) (be32-local k (omega arith)) (be32-local (k + 4) (omega arith))

  length-local : (n : ℕ) → n ≤ length t → n ≤ length (t ++ b)
  length-local n h = omega (arith, length-append t b)

  type-local : {k : ℕ} → get_or t 0 0 ≡ k → 1 ≤ length t → get_or (t ++ b) 0 0 ≡ k
  type-local e h = byte-local 0 (omega arith) ∙ e

-- how a message names chunks
module _ (F : Format) (t b : List ℕ) (h : named_size F ≤ length t) where
  pub first-local : first_of F (t ++ b) ≡ first_of F t
  unfolding first_of place_size
  first-local = by F.addressing h
    where
      by : (a : Addressing) → suc (place_by a) ≤ length t → first_by a (t ++ b) ≡ first_by a t
      by Bins g = rw (be32-local t b 1 g)
      by Ranges g = be32-local t b 1 (omega arith)

  pub last-local : last_of F (t ++ b) ≡ last_of F t
  unfolding last_of place_size
  last-local = by F.addressing h
    where
      by : (a : Addressing) → suc (place_by a) ≤ length t → last_by a (t ++ b) ≡ last_by a t
      by Bins g = rw (be32-local t b 1 g)
      by Ranges g = be32-local t b 5 g

  pub empty-local : is_empty F (t ++ b) ≡ is_empty F t
  unfolding is_empty place_size
  empty-local = by F.addressing h
    where
      by : (a : Addressing) → suc (place_by a) ≤ length t → empty_by a (t ++ b) ≡ empty_by a t
      by Bins g = ap (λ (x : ℕ). eqb x empty_bin) (be32-local t b 1 g)
      by Ranges g = refl

  pub special-local : is_special F (t ++ b) ≡ is_special F t
  unfolding is_special place_size
  special-local = by F.addressing h
    where
      by : (a : Addressing) → suc (place_by a) ≤ length t → special_by a (t ++ b) ≡ special_by a t
      by Bins g = ap (λ (x : ℕ). pick (eqb x empty_bin) true (eqb x everything_bin)) (be32-local t b 1 g)
      by Ranges g = refl

  pub node-local : names_node F (t ++ b) ≡ names_node F t
  unfolding names_node
  node-local = rw (special-local, first-local, last-local)

-- HAVE, REQUEST and CANCEL
ranged_local : (F : Format) (at : ℕ) (t b : List ℕ) (k : ℕ)
    → ((u : List ℕ) → get_or u 0 0 ≡ k → named_size F ≤ length u → is_empty F u ≡ false
    → step_of F at u ≡ refusing (ltb (last_of F u) (first_of F u)) (Read (named k (first_of F u) (last_of F u)) (cursor (at + named_size F))))
    → get_or t 0 0 ≡ k → named_size F ≤ length t → (is_empty F t ≡ false) × (first_of F t ≤ last_of F t)
    → step_of F at (t ++ b) ≡ Read (named k (first_of F t) (last_of F t)) (cursor (at + named_size F))
ranged_local F at t b k is e l o =
    is (t ++ b) (type-local t b e (omega arith)) (length-local t b (named_size F) l) (empty-local F t b l ∙ o.0)
    ∙ rw (first-local F t b l, last-local F t b l, le-ltb (last_of F t) (first_of F t) o.1)

-- ---- a message other than HANDSHAKE and DATA is read as before, whatever stands behind it
abbrev pub Plain : Step → Type 0
Plain End = ⊥
Plain Refused = ⊥
Plain (Read (Handshake a o) x) = ⊥
Plain (Read (Data c d e f g) x) = ⊥
Plain (Read (Ack c d e) x) = Unit {0}
Plain (Read (Have c d) x) = Unit {0}
Plain (Read (Integrity c d e) x) = Unit {0}
Plain (Read (Request c d) x) = Unit {0}
Plain (Read (Cancel c d) x) = Unit {0}
Plain (Read Choke x) = Unit {0}
Plain (Read Unchoke x) = Unit {0}
Plain (Read (Empty k) x) = Unit {0}

pub step_local : (F : Format) (at : ℕ) (t b : List ℕ) (st : Step) → View F at t st → Plain st → step_of F at (t ++ b) ≡ st
step_local F at t b End (the_end h) p = absurd p
step_local F at t b Refused refused p = absurd p
step_local F at t b _ (a_handshake e l o) p = absurd p
step_local F at t b _ (a_data e l o) p = absurd p
step_local F at t b _ (an_ack e l o) p =
    ack-is F at (t ++ b) (type-local t b e (omega arith)) (length-local t b (timed_size F) l)
    ∙ rw (
      special-local F t b (omega arith),
      o.0,
      first-local F t b (omega arith),
      last-local F t b (omega arith),
      be64-local t b (named_size F) (omega arith),
      le-ltb (last_of F t) (first_of F t) o.1,
    )
step_local F at t b _ (a_have e l o) p = ranged_local F at t b 3 (have-is F at) e l o
step_local F at t b _ (an_integrity e l o) p =
    integrity-is F at (t ++ b) (type-local t b e (omega arith)) (length-local t b (integrity_size F) l)
    ∙ rw (node-local F t b (omega arith), o, first-local F t b (omega arith), last-local F t b (omega arith))
step_local F at t b _ (a_request e l o) p = ranged_local F at t b 8 (request-is F at) e l o
step_local F at t b _ (a_cancel e l o) p = ranged_local F at t b 9 (cancel-is F at) e l o
step_local F at t b _ (a_choke e l) p = choke-is F at (t ++ b) (type-local t b e l) (length-local t b 1 l)
step_local F at t b _ (an_unchoke e l) p = unchoke-is F at (t ++ b) (type-local t b e l) (length-local t b 1 l)
step_local F at t b _ (an_empty k h e l o) p =
    empty-is F at (t ++ b) k h (type-local t b e (omega arith)) (length-local t b (named_size F) l) (empty-local F t b l ∙ o)
