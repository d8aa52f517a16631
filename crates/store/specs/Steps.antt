-- What the code has on its way through a pack, in the rooms' words; no paper has this. Assumes nothing.
use Rattle.std.specs.Prelude.{ℕ, zero, suc, ◌+◌, ◌*◌, ◌/◌, ◌^◌, ◌<◌, ◌≤◌, ◌≡◌, Bool, List, Result, Ok, Err}
use Rattle.hash.proofs.Promise.{sha256}
use Rattle.base.specs.declared.Refusal.{Refusal}
use Rattle.base.specs.Pick.{pick}
use Rattle.base.specs.Out.{Out, out_of, unless_at}
use Rattle.tree.specs.Bin.{bin}
use Rattle.tree.specs.Node.{above, sibling_from}
use Rattle.tree.specs.Steps.{peak_bit}
use Rattle.tree.specs.Tree.{climb}
use Rattle.tree.specs.Verdicts.{number, named, reached}
use Rattle.verdict.specs.Room.{filler, hash_in}
use Rattle.verdict.specs.Integrity.{Integrity}
use Rattle.verdict.specs.Rooms.{Rooms, state_of}
use Rattle.verdict.specs.Steps.{room_verdict}
use Rattle.store.specs.Storing.{Put, store_spec}

-- ---- the loops that put the hashes of nodes into a room, turn by turn

-- The peaks of N of heights below k, with the hashes that came.
unfoldable pub put_peaks : Put → (ℕ → ℕ → List ℕ) → ℕ → ℕ → List ℕ → List ℕ
put_peaks put came N zero l = l
put_peaks put came N (suc h) l =
    pick (peak_bit N h) (put (put_peaks put came N h l) (bin h (above (suc h) N)) (came h (above (suc h) N)))
    (put_peaks put came N h l)

-- The node above chunk c and its sibling at each height below t; own h is the hash of the node of height h.
unfoldable pub put_path : Put → (ℕ → List ℕ) → (ℕ → ℕ → List ℕ) → ℕ → ℕ → List ℕ → List ℕ
put_path put own came c zero l = l
put_path put own came c (suc h) l =
    put (put (put_path put own came c h l) (bin h (above h c)) (own h))
    (bin h (sibling_from h c)) (came h (sibling_from h c))

-- The first k nodes of height h.
unfoldable pub put_level : Put → (ℕ → ℕ → List ℕ) → ℕ → ℕ → List ℕ → List ℕ
put_level put got h zero l = l
put_level put got h (suc k) l = put (put_level put got h k l) (bin h (k * 2 ^ h)) (got h (k * 2 ^ h))

-- Every node wholly inside 0..N-1, of heights below k.
unfoldable pub put_levels : Put → (ℕ → ℕ → List ℕ) → ℕ → ℕ → List ℕ → List ℕ
put_levels put got N zero l = l
put_levels put got N (suc h) l = put_level put got h (N / 2 ^ h) (put_levels put got N h l)

-- A node's hash put into a room where a test holds, and not otherwise.
abbrev pub put_if : Put → Bool → Put
put_if put t l b v = pick t (put l b v) l

-- ---- what holds before a turn

-- Before the nodes of height k are hashed, the room has the hash of every lower node inside 0..N-1.
unfoldable pub Filled : List ℕ → (ℕ → ℕ → List ℕ) → ℕ → ℕ → Type 0
Filled hashes got N k = (h a : ℕ) → h < k → above h a ≡ a → a + 2 ^ h ≤ N → hash_in hashes (bin h a) ≡ got h a

-- The scratch keeps the climb from chunk c, whose leaf has the hash v: at each place h below t the hash of the node of
-- height h above c.
unfoldable pub Climbed : List ℕ → (ℕ → ℕ → List ℕ) → List ℕ → ℕ → ℕ → Type 0
Climbed scratch got v c t = (h : ℕ) → h < t → hash_in scratch h ≡ climb sha256 got v c h

-- Taking chunk c of N once 12, 11, 7 and 8 are ruled out: 9, 10, or it is stored.
unfoldable pub store_if_fits : Rooms → List ℕ → ℕ → ℕ → List ℕ → Integrity → Out Rooms
store_if_fits w r N c d o =
    let v = room_verdict N r w.hashes w.trusted c d o in
    unless_at (number v) (named v) w (out_of 0 0 (store_spec w N c (reached N (state_of 0 w) c) d o))

-- The root that building gives back: a refused one finds none and gives the filler.
abbrev pub found_root : ℕ → List ℕ → List ℕ
found_root zero r = r
found_root (suc n) r = filler

-- The root of what building gives, read from its result: the one that it found, or the filler.
abbrev pub given_root : {A : Type 0} → (A → List ℕ) → Result A Refusal → List ℕ
given_root root (Ok v) = root v
given_root root (Err e) = filler
