-- What the code computes on its way to a verdict, in the rooms' words; no paper has these. Assumes nothing.
use Rattle.std.specs.Prelude.{ℕ, zero, suc, List, [], Bool, true, Some, None}
use Rattle.std.proofs.Math.Option.{Option, none, some, get_or}
use Rattle.bits.proofs.Promise.{bit_at}
use Rattle.hash.proofs.Promise.{sha256, same}
use Rattle.base.specs.Pick.{pick}
use Rattle.base.specs.Out.{Named}
use Rattle.tree.specs.Bin.{bin}
use Rattle.tree.specs.Node.{Node, num, above}
use Rattle.tree.specs.Pack.{levels, root_node}
use Rattle.tree.specs.State.{is_peak}
use Rattle.tree.specs.Tree.{given, climb}
use Rattle.tree.specs.Verdicts.{is_there, got, reached, verdict}
use Rattle.tree.specs.Verdicts.{Verdict}
use Rattle.std.specs.Prelude.{Ok, Err}
use Rattle.tree.specs.declared.verdict.Fault.TheVariants.{Missing, WrongPeaks, WrongClimb}
use Rattle.verdict.specs.Room.{filler, hash_in, put_hash}
use Rattle.verdict.specs.Integrity.{Integrity, hash_for, came_from}
use Rattle.verdict.specs.Rooms.{rooms_of, state_of}

-- ---- what came and what is trusted, by a node's number, by height and first chunk, and of a list's node

-- Whether node b's hash came, and the hash that it is read as.
abbrev pub came : Integrity → ℕ → Bool
came o b = is_there (hash_for o b)

abbrev pub got_at : Integrity → ℕ → List ℕ
got_at o b = get_or (hash_for o b) filler

abbrev pub got_by : Integrity → ℕ → ℕ → List ℕ
got_by o = got filler (came_from o)

abbrev pub trusted_in : List ℕ → Node → Bool
trusted_in trusted n = bit_at trusted (num n)

-- Hashes by a node's number, by height and first chunk.
abbrev pub by_node : (ℕ → List ℕ) → ℕ → ℕ → List ℕ
by_node held h a = held (bin h a)

-- Whether a node counts as trusted, and the hash that then counts, once it is known whether the peaks are trusted.
abbrev pub room_counts : Bool → ℕ → List ℕ → ℕ → ℕ → Bool
room_counts peaks_trusted N trusted h a =
    pick peaks_trusted (bit_at trusted (bin h a)) (pick (is_peak N h a) true (bit_at trusted (bin h a)))

abbrev pub room_counted : Bool → ℕ → List ℕ → Integrity → ℕ → ℕ → List ℕ
room_counted peaks_trusted N hashes o h a =
    pick peaks_trusted (hash_in hashes (bin h a)) (pick (is_peak N h a) (got_by o h a) (hash_in hashes (bin h a)))

-- A node of a list, if there is one, as it is named.
abbrev pub named_node : Option Node → Named
named_node none = None
named_node (some n) = Some (num n)

-- The height of the first node at or above chunk c that counts as trusted.
unfoldable pub room_reached : ℕ → List ℕ → ℕ → ℕ
room_reached N trusted c = reached N (state_of 0 (rooms_of [] [] [] trusted)) c

-- The theory's verdict on chunk c of N under root r, with the bytes d and the hashes that came with it: the hashes and
-- the trusted nodes alone are looked at.
unfoldable pub room_verdict : ℕ → List ℕ → List ℕ → List ℕ → ℕ → List ℕ → Integrity → Verdict
room_verdict N r hashes trusted c d o =
    verdict sha256 filler N r (state_of 0 (rooms_of [] [] hashes trusted)) c d (came_from o)

-- ---- the scratch, which keeps a climb, so that storing hashes no node again

-- The climb from chunk c, whose leaf has the hash v: at each place h below t the hash of the node of height h above c.
unfoldable pub kept : List ℕ → (ℕ → ℕ → List ℕ) → List ℕ → ℕ → ℕ → List ℕ
kept scratch got v c zero = scratch
kept scratch got v c (suc h) = put_hash (kept scratch got v c h) h (climb sha256 got v c h)

-- What judging a chunk gives, and the scratch that it leaves.
pub record Judged : Type 0 where
  pub told : Verdict
  pub scratch : List ℕ

abbrev pub judged_of : Verdict → List ℕ → Judged
judged_of v s = record { told = v; scratch = s }

-- Where a hash is missing or the peaks are wrong there is no climb, and the scratch stays.
abbrev pub scratch_by : Verdict → List ℕ → List ℕ → List ℕ
scratch_by (Ok t) old new = new
scratch_by (Err (Missing b)) old new = old
scratch_by (Err (WrongPeaks b)) old new = old
scratch_by (Err (WrongClimb b)) old new = new

-- Once no hash is missing: by what is known of the peaks, and by the height of the node reached.
abbrev pub weighing : ℕ → List ℕ → List ℕ → Bool → ℕ → ℕ → List ℕ → Integrity → Verdict
weighing N r hashes peaks_trusted c t d o =
    pick (pick peaks_trusted true (same (given sha256 filler N (got_by o) (levels N) 0) r))
    (pick (same (climb sha256 (got_by o) (sha256 d) c t) (room_counted peaks_trusted N hashes o t (above t c)))
    (Ok t)
    (Err (WrongClimb (bin t (above t c)))))
    (Err (WrongPeaks (root_node N)))

unfoldable pub weighed : List ℕ → ℕ → List ℕ → List ℕ → Bool → ℕ → ℕ → List ℕ → Integrity → Judged
weighed scratch N r hashes peaks_trusted c t d o =
    judged_of (weighing N r hashes peaks_trusted c t d o)
    (scratch_by (weighing N r hashes peaks_trusted c t d o) scratch (kept scratch (got_by o) (sha256 d) c t))

unfoldable pub judge_spec : List ℕ → ℕ → List ℕ → List ℕ → List ℕ → ℕ → List ℕ → Integrity → Judged
judge_spec scratch N r hashes trusted c d o =
    judged_of (room_verdict N r hashes trusted c d o)
    (scratch_by (room_verdict N r hashes trusted c d o) scratch
    (kept scratch (got_by o) (sha256 d) c (room_reached N trusted c)))
