-- Taking a chunk: what is asked of the hashes that came with it, and the verdict (01, "Taking a chunk", and the
-- numbers 9 and 10; 02, No. 3). Assumes nothing.
use Rattle.std.specs.Prelude.{ℕ, suc, Bool, true, false, not, List, [], ◌∷◌, ◌++◌, Some, None, Result, Ok, Err}
use Rattle.std.proofs.Math.Option.{Option, none, some, get_or}
use Rattle.base.specs.Same.{same}
use Rattle.base.specs.Pick.{pick}
use Rattle.base.specs.Out.{Named}
use Rattle.base.specs.declared.Refusal.{Refusal}
use Rattle.base.specs.declared.Refusal.TheVariants.{HashMissing, HashWrong}
use Rattle.tree.specs.Bin.{bin}
use Rattle.tree.specs.Node.{Node, num, above}
use Rattle.tree.specs.Pack.{least_from, levels, root_node}
use Rattle.tree.specs.Peaks.{peaks, siblings, sort}
use Rattle.tree.specs.Tree.{combined, climb}
use Rattle.tree.specs.State.{State, is_peak}
use Rattle.tree.specs.declared.verdict.Fault.{Fault}
use Rattle.tree.specs.declared.verdict.Fault.TheVariants.{Missing, WrongPeaks, WrongClimb}

-- The height of the node that the chunk hangs from, or why it doesn't fit.
abbrev pub Verdict : Type 0
Verdict = Result ℕ Fault

-- The hashes that came, by a node's height and first chunk.
abbrev pub Came : Type 0
Came = ℕ → ℕ → Option (List ℕ)

-- One that isn't there is read as the filler; no verdict depends on that.
abbrev pub got : List ℕ → Came → ℕ → ℕ → List ℕ
got Z m h a = get_or (m h a) Z

-- Whether one came.
abbrev pub is_there : Option (List ℕ) → Bool
is_there none = false
is_there (some v) = true

-- A test passed by every node of a list, and what holds of each of them.
unfoldable pub every : (Node → Bool) → List Node → Bool
every f [] = true
every f (n ∷ ns) = pick (f n) (every f ns) false

abbrev pub Each : (Node → Type 0) → List Node → Type 0
Each P [] = Unit {0}
Each P (n ∷ ns) = P n × Each P ns

-- The first node of a list that passes a test.
unfoldable pub first_of : (Node → Bool) → List Node → Option Node
first_of f [] = none
first_of f (n ∷ ns) = pick (f n) (some n) (first_of f ns)

module _ (N : ℕ) (s : State) where
  -- The peaks are trusted already.
  unfoldable pub peaks_trusted : Bool
  peaks_trusted = every (λ n. s.trust n.high n.from) (peaks N)

  -- For the climb a trusted node counts as trusted, and so does each peak where they aren't trusted yet.
  abbrev pub counts : ℕ → ℕ → Bool
  counts h a = pick peaks_trusted (s.trust h a) (pick (is_peak N h a) true (s.trust h a))

  -- The hash that then counts: of such a peak the one that came.
  abbrev pub counted_hash : (ℕ → ℕ → List ℕ) → ℕ → ℕ → List ℕ
  counted_hash came h a = pick peaks_trusted (s.hash h a) (pick (is_peak N h a) (came h a) (s.hash h a))

  module _ (c : ℕ) where
    -- The height of the first such node at or above the leaf of chunk c.
    unfoldable pub reached : ℕ
    reached = least_from (λ h. counts h (above h c)) (suc (levels N)) 0

    -- The nodes whose hashes are needed: the peaks if they aren't trusted yet, and the sibling at each step below that
    -- node.
    unfoldable pub needed : List Node
    needed = pick peaks_trusted [] (peaks N) ++ siblings c reached

-- No hash came for a node.
abbrev pub is_missing : Came → Node → Bool
is_missing m n = not (is_there (m n.high n.from))

-- "the first needed and missing one in 01's sending order" (02, No. 3).
unfoldable pub first_missing : ℕ → State → ℕ → Came → Option Node
first_missing N s c m = first_of (is_missing m) (sort (needed N s c))

-- Every needed hash must be there before any value is judged.
abbrev pub unless_missing : Option Node → Verdict → Verdict
unless_missing none v = v
unless_missing (some n) v = Err (Missing (num n))

module _ (H : List ℕ → List ℕ) (Z : List ℕ) (N : ℕ) (r : List ℕ) (s : State) (c : ℕ) (d : List ℕ) (m : Came) where
  -- The peaks combine, with fillers, to the root.
  unfoldable pub rooted : Bool
  rooted = pick (peaks_trusted N s) true (same (combined H Z N (got Z m)) r)

  -- The climb gives the hash of the node reached.
  unfoldable pub met : Bool
  met = let t = reached N s c in same (climb H (got Z m) (H d) c t) (counted_hash N s (got Z m) t (above t c))

  -- "the trusted node missed, the root if the peaks fail" (02, No. 3).
  unfoldable pub verdict : Verdict
  verdict =
      unless_missing (first_missing N s c m)
      (pick rooted
      (pick met (Ok (reached N s c)) (Err (WrongClimb (bin (reached N s c) (above (reached N s c) c)))))
      (Err (WrongPeaks (root_node N))))

-- A verdict's number in 01's table, once 12, 11, 7 and 8 are ruled out, and the node that it names.
abbrev pub number : Verdict → ℕ
number (Ok t) = 0
number (Err (Missing b)) = 9
number (Err (WrongPeaks b)) = 10
number (Err (WrongClimb b)) = 10

abbrev pub named : Verdict → Named
named (Ok t) = None
named (Err (Missing b)) = Some b
named (Err (WrongPeaks b)) = Some b
named (Err (WrongClimb b)) = Some b

-- Why the chunk is refused, then.
abbrev pub refusal_of : Fault → Refusal
refusal_of (Missing b) = HashMissing b
refusal_of (WrongPeaks b) = HashWrong b
refusal_of (WrongClimb b) = HashWrong b
