-- What an ACK names of the chunks that are held (02, No. 2; RFC 7574, 4.3.2: "its biggest, complete interval covering
-- C"). Assumes nothing.
use Rattle.std.specs.Prelude.{ℕ, zero, suc, ◌+◌, ◌-◌, ◌^◌, ◌≤◌, ◌<◌, ◌≡◌, Bool, true, false, List, leb}
use Rattle.base.specs.Pick.{pick}
use Rattle.bits.proofs.Promise.{bit_at, held_below, held_from}
use Rattle.format.specs.declared.Addressing.{Addressing}
use Rattle.format.specs.declared.Addressing.TheVariants.{Bins, Ranges}
use Rattle.format.specs.declared.Format.{Format}
use Rattle.tree.proofs.Promise.{above, levels}
use Rattle.writer.proofs.Promise.{nameable}
use Rattle.wire.specs.declared.range.Range.{Range}

-- The chunks f..l.
abbrev pub interval : (f l : ℕ) → Range
interval f l = record { first = f; last = l }

-- ---- which interval that is

-- A complete interval that covers chunk c of N: the format can name it, it lies inside the pack, and every chunk of it
-- is held.
pub record Complete (F : Format) (map : List ℕ) (N c : ℕ) (i : Range) : Type 0 where
  pub named : nameable F i.first i.last ≡ true
  pub covers : (i.first ≤ c) × (c ≤ i.last)
  pub inside : i.last < N
  pub held : (x : ℕ) → i.first ≤ x → x ≤ i.last → bit_at map x ≡ true

-- "the promise says both that the interval is held and that no bigger one covering the chunk is": it has all chunks of
-- any other such interval.
pub record Biggest (F : Format) (map : List ℕ) (N c : ℕ) (i : Range) : Type 0 where
  pub complete : Complete F map N c i
  pub none_bigger : (j : Range) → Complete F map N c j → (i.first ≤ j.first) × (j.last ≤ i.last)

-- ---- how it is found

-- "With ranges that is the longest run of held chunks around it": as far as they are held below c, and behind it below
-- N.
unfoldable pub run_around : List ℕ → (N c : ℕ) → Range
run_around map N c = interval (c - held_below map c) (c + held_from map (N - suc c) (suc c))

-- The chunks of the node of height h above chunk c, and whether they lie within an interval.
abbrev pub node_chunks : (h c : ℕ) → Range
node_chunks h c = interval (above h c) (above h c + 2 ^ h - 1)

abbrev pub is_within : (h c : ℕ) → Range → Bool
is_within h c i = pick (leb i.first (node_chunks h c).first) (leb (node_chunks h c).last i.last) false

-- The largest height up to d at which they do; 0, that of the leaf, where they do at none above.
unfoldable pub height_within : (d c : ℕ) → Range → ℕ
height_within zero c i = zero
height_within (suc d) c i = pick (is_within (suc d) c i) (suc d) (height_within d c i)

-- "with bins, the largest whole subtree inside the pack all of whose chunks are held": the largest within the run.
abbrev pub complete_by : Addressing → List ℕ → (N c : ℕ) → Range
complete_by Bins map N c = node_chunks (height_within (levels N) c (run_around map N c)) c
complete_by Ranges map N c = run_around map N c

-- The biggest complete interval that covers chunk c of N, where c is held (`complete-biggest` in proofs/Promise); c's
-- own bit is not looked at.
unfoldable pub complete_interval : Format → List ℕ → (N c : ℕ) → Range
complete_interval F = complete_by F.addressing
