-- A store that was started in its rooms is sound, whatever stood in them. Assumes nothing.
use mathlib.Core.Path.{◌≡◌, refl, sym, ap, ap₂, ◌∙◌}
use mathlib.Core.Logic.{◌⊎◌, inl, inr, ◌≢◌}
use mathlib.Core.Bool.{true, false, true≢false}
use mathlib.Core.List.{List, [], map}
use Prim.Native.Nat.{ℕ, suc, ◌+◌, ◌-◌, ◌*◌, ◌^◌, ◌≤◌, ◌<◌}
use native.Mathlib.Omega.{arith}
use native.Mathlib.Decide.{ℕ_discrete}
use borrow.Author.Tests.{eq-eqb, ne_eqb}
use lib.Dec.{eqb}
use lib.Pow.{pow_pos}
use lib.ListN.{length, take, drop}
use Rattle.hash.proofs.Promise.{sha256}
use Rattle.bits.proofs.Promise.{bit_at, set_bit, row_words, bit_at-set-same, bit_at-set-other, length-clear_words, bit_at-clear_words_in, row_words_lem}
use Rattle.base.specs.Pick.{pick}
use Rattle.tree.specs.Bin.{bin}
use Rattle.tree.specs.Node.{above}
use Rattle.tree.specs.Pack.{chunk_size, chunks, size, levels, leaf_places, root_node}
use Rattle.tree.specs.State.{State}
use Rattle.tree.proofs.Sound.{started}
use Rattle.verdict.specs.Room.{filler, Digest, hash_in, put_hash}
use Rattle.verdict.specs.Rooms.{Rooms, rooms_of, state_of}
use Rattle.store.proofs.Running.{SoundRooms}
use Rattle.store.specs.Storing.{mark}
use Rattle.store.specs.Building.{clear_row, start_rooms}
use Rattle.verdict.proofs.RoomLaws.{hash-same, hash-other}
use Rattle.store.proofs.WrittenLaws.{bin_eq}
use Rattle.store.proofs.AgreeLaws.{Agrees}
use Rattle.tree.proofs.BeginLaws.{started-sound}
use Rattle.tree.proofs.NodeLaws.{above-top}
use Rattle.tree.proofs.PackLaws.{levels-holds}
use Rattle.tree.proofs.SoundLaws.{sound-agree}

pub cleared : (ws : List ℕ) (n x : ℕ) → x < n → bit_at (clear_row ws n) x ≡ false
cleared ws n x l = bit_at-clear_words_in ws 0 (row_words n) x (omega arith) (omega (arith, row_words_lem n))

pub length_cleared : (ws : List ℕ) (n : ℕ) → length (clear_row ws n) ≡ length ws
length_cleared ws n = length-clear_words ws 0 (row_words n)

root_or_not : (N h a : ℕ) → Dec (h ≡ levels N) → Dec (a ≡ 0) → ((h ≡ levels N) × (a ≡ 0)) ⊎ (pick (eqb h (levels N)) (eqb a 0) false ≡ false)
root_or_not N h a (yes p) (yes q) = inl (p, q)
root_or_not N h a (yes p) (no q) = inr (rw (eq-eqb h (levels N) p, ne_eqb a 0 q))
root_or_not N h a (no p) q = inr (rw (ne_eqb h (levels N) p))

module _ (L : ℕ) (w : Rooms) (N : ℕ) (r : List ℕ) (pack_is : N ≡ chunks chunk_size L) (root_digest : Digest r)
    (hashes_in : 8 * 2 ^ suc (levels N) ≤ length w.hashes) (trusted_within : 2 ^ suc (levels N) ≤ length w.trusted * 32) (map_in : N ≤ length w.map * 32) where
  root-bin : bin (levels N) 0 < 2 ^ suc (levels N)
  root-bin = omega (arith, pow_pos (levels N))

  node-bin : (h a : ℕ) → a + 2 ^ h ≤ N → bin h a < 2 ^ suc (levels N)
  node-bin h a i = omega (arith, levels-holds N, pow_pos h)

  abbrev started-state : State
  started-state = started N r (λ h a. hash_in w.hashes (bin h a)) (λ x. take (size chunk_size L x) (drop (chunk_size * x) w.bytes))

  root-held : (h a : ℕ) → (h ≡ levels N) × (a ≡ 0) → (started-state.hash h a ≡ r) × (started-state.trust h a ≡ true)
  root-held h a q = (rw (eq-eqb h (levels N) q.0, eq-eqb a 0 q.1), rw (eq-eqb h (levels N) q.0, eq-eqb a 0 q.1))

  start-node : (h a : ℕ) → above h a ≡ a → a + 2 ^ h ≤ N
      → (started-state.hash h a ≡ (state_of L (start_rooms w N r)).hash h a) × (started-state.trust h a ≡ (state_of L (start_rooms w N r)).trust h a)
  unfolding start_rooms
  start-node h a e i = go (root_or_not N h a (ℕ_discrete h (levels N)) (ℕ_discrete a 0))
    where
      b : ℕ
      b = bin (levels N) 0

      row : List ℕ
      row = clear_row w.trusted (2 * 2 ^ levels N)

      go : ((h ≡ levels N) × (a ≡ 0)) ⊎ (pick (eqb h (levels N)) (eqb a 0) false ≡ false)
          → (started-state.hash h a ≡ hash_in (put_hash w.hashes b r) (bin h a)) × (started-state.trust h a ≡ bit_at (set_bit row b) (bin h a))
      go (inl q) =
          let z : bin h a ≡ b = ap₂ bin q.0 q.1 in
          let k = root-held h a q in (
            k.0 ∙ sym (ap (hash_in (put_hash w.hashes b r)) z ∙ hash-same w.hashes b r (omega (arith, root-bin)) root_digest),
            k.1 ∙ sym (ap (bit_at (set_bit row b)) z ∙ bit_at-set-same row b (omega (arith, root-bin, length_cleared w.trusted (2 * 2 ^ levels N)))),
          )
      go (inr q) = (
        rw q (sym (hash-other w.hashes b (bin h a) r apart)),
        q ∙ sym (bit_at-set-other row b (bin h a) apart ∙ cleared w.trusted (2 * 2 ^ levels N) (bin h a) (omega (arith, node-bin h a i))),
      )
        where
          apart : bin h a ≢ b
          apart z =
              let y = bin_eq h a (levels N) 0 e (above-top (levels N) 0 (pow_pos (levels N))) z in
              let x : pick (eqb h (levels N)) (eqb a 0) false ≡ true = rw (eq-eqb h (levels N) y.0, eq-eqb a 0 y.1) in
              true≢false (sym x ∙ q)

  pub start-agrees : Agrees N started-state (state_of L (start_rooms w N r))
  unfolding start_rooms
  start-agrees = record {
    nodes = start-node;
    chunks_are = λ x i. (sym (cleared w.map N x i), refl);
  }

  pub start-sound : SoundRooms L r (start_rooms w N r)
  unfolding SoundRooms
  start-sound =
      let G = start-agrees in
      let U = sound-agree sha256 filler N r started-state (state_of L (start_rooms w N r)) G.nodes G.chunks_are (started-sound sha256 filler N r (λ h a. hash_in w.hashes (bin h a)) (λ x. take (size chunk_size L x) (drop (chunk_size * x) w.bytes))) in
      rw (← pack_is) U

-- ---- as the code does it

pub started_is : (map hashes trusted : List ℕ) (N : ℕ) (r : List ℕ) (p : ℕ) {m t u h : List ℕ} → p ≡ leaf_places N → m ≡ clear_row map N
    → t ≡ clear_row trusted (2 * p) → h ≡ put_hash hashes (p - 1) r → u ≡ mark t (p - 1) r
    → rooms_of [] m h u ≡ start_rooms (rooms_of [] map hashes trusted) N r
unfolding start_rooms
started_is map hashes trusted N r p f me te he ue =
    let b : p - 1 ≡ root_node N = omega arith in
    rooms me (he ∙ ap (λ (k : ℕ). put_hash hashes k r) b)
    (ue ∙ ap₂ set_bit (te ∙ ap (λ (k : ℕ). clear_row trusted (2 * k)) f) b)
  where
    rooms : {m m' h h' t t' : List ℕ} → m ≡ m' → h ≡ h' → t ≡ t' → rooms_of [] m h t ≡ rooms_of [] m' h' t'
    rooms i j k = cc
