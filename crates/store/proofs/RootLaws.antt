-- The root is trusted from the start or the building on: storing a chunk clears no bit. Assumes nothing.
use mathlib.Core.Path.{◌≡◌, refl, ◌∙◌}
use mathlib.Core.Logic.{◌⊎◌, inl, inr}
use mathlib.Core.Bool.{Bool, true, false}
use mathlib.Core.List.{List, [], ◌∷◌}
use Prim.Native.Nat.{ℕ, suc, ◌*◌, ◌≤◌, ◌<◌}
use native.Mathlib.Omega.{arith}
use native.Mathlib.Decide.{ℕ_discrete}
use lib.ListN.{length}
use lib.Pow.{pow_pos}
use Rattle.bits.proofs.Promise.{bit_at, set_bit, set_bit-past, bit_at-set-same, bit_at-set-other, length-clear_words, row_room, row_words}
use Rattle.base.specs.Pick.{pick}
use Rattle.tree.specs.Node.{Node, num}
use Rattle.tree.specs.Pack.{levels, leaf_places, root_node}
use Rattle.tree.proofs.NodeLaws.{split}
use Rattle.verdict.specs.Integrity.{Integrity}
use Rattle.verdict.specs.Rooms.{Rooms, count_of}
use Rattle.store.specs.Answers.{trusted_words}
use Rattle.store.specs.Storing.{mark, put_each, put_all, stored, store_spec}
use Rattle.store.specs.Building.{clear_row, tree_of, inside, start_rooms, build_rooms}
use Rattle.store.proofs.StoringLaws.{length-mark}

-- ---- a set bit stays set

set_keeps : (l : List ℕ) (b x : ℕ) → bit_at l x ≡ true → bit_at (set_bit l b) x ≡ true
set_keeps l b x e = go (ℕ_discrete x b)
  where
    at : x ≡ b → (length l * 32 ≤ b) ⊎ (b < length l * 32) → bit_at (set_bit l b) x ≡ true
    at q (inl u) = rw (set_bit-past l b u) e
    at q (inr u) = rw q (bit_at-set-same l b u)

    go : Dec (x ≡ b) → bit_at (set_bit l b) x ≡ true
    go (yes q) = at q (split (length l * 32) b)
    go (no d) = bit_at-set-other l b x d ∙ e

each_keeps : (f : ℕ → ℕ → List ℕ) (ns : List Node) (l : List ℕ) (x : ℕ) → bit_at l x ≡ true → bit_at (put_each mark f ns l) x ≡ true
unfolding put_each
each_keeps f [] l x e = e
each_keeps f (n ∷ ns) l x e = set_keeps (put_each mark f ns l) (num n) x (each_keeps f ns l x e)

pub store_keeps : (w : Rooms) (N c t : ℕ) (d : List ℕ) (o : Integrity) (x : ℕ) → bit_at w.trusted x ≡ true
    → bit_at (store_spec w N c t d o).trusted x ≡ true
unfolding store_spec stored put_all
store_keeps w N c t d o x e = go (bit_at w.map c)
  where
    go : (b : Bool) → bit_at (pick b w (stored w N c t d o)).trusted x ≡ true
    go true = e
    go false = each_keeps _ _ _ x (each_keeps _ _ w.trusted x e)

-- ---- starting and building set the root's

each_long : (f : ℕ → ℕ → List ℕ) (ns : List Node) (l : List ℕ) → length (put_each mark f ns l) ≡ length l
unfolding put_each
each_long f [] l = refl
each_long f (n ∷ ns) l = length-mark (put_each mark f ns l) (num n) (f n.high n.from) ∙ each_long f ns l

module _ (w : Rooms) (L : ℕ) (enough : trusted_words (count_of L) ≤ length w.trusted) where
  root-room : root_node (count_of L) < length w.trusted * 32
  root-room = omega (arith, row_room w.trusted (2 * leaf_places (count_of L)) enough, pow_pos (levels (count_of L)))

  cleared : length (clear_row w.trusted (2 * leaf_places (count_of L))) ≡ length w.trusted
  cleared = length-clear_words w.trusted 0 (row_words (2 * leaf_places (count_of L)))

  pub start-root : (r : List ℕ) → bit_at (start_rooms w (count_of L) r).trusted (root_node (count_of L)) ≡ true
  unfolding start_rooms
  start-root r =
      bit_at-set-same (clear_row w.trusted (2 * leaf_places (count_of L))) (root_node (count_of L)) (omega (arith, root-room, cleared))

  pub build-root : (s : List ℕ) → bit_at (build_rooms w (count_of L) s).trusted (root_node (count_of L)) ≡ true
  unfolding build_rooms put_each
  build-root s =
      let l = clear_row w.trusted (2 * leaf_places (count_of L)) in
      let ns = inside (count_of L) (suc (levels (count_of L))) in
      bit_at-set-same (put_each mark (tree_of s) ns l) (root_node (count_of L))
      (omega (arith, root-room, each_long (tree_of s) ns l, cleared))
