-- Lines in the blocks that input comes in (01: "A line ends at a line feed or at the end of input"). Assumes nothing.
use Rattle.std.specs.Prelude.{ℕ, suc, ◌+◌, ◌-◌, List, [], ◌∷◌, eqb, length, take}
use Rattle.std.proofs.lemmas.List.Edits.{sets}
use Rattle.base.specs.Pick.{pick}

-- A room, and how many of its bytes are in use.
pub record Filled : Type 0 where
  pub room : List ℕ
  pub used : ℕ

abbrev pub filled : List ℕ → ℕ → Filled
filled room used = record { room = room; used = used }

-- The bytes in use, at the front of the room.
abbrev pub front : Filled → List ℕ
front p = take p.used p.room

-- How many characters stand before the first line feed, all where there is none.
unfoldable pub before_feed : List ℕ → ℕ
before_feed [] = 0
before_feed (c ∷ s) = pick (eqb c 10) 0 (suc (before_feed s))

-- What fits of a part behind the first `len` bytes of a room.
abbrev pub fitting : List ℕ → ℕ → List ℕ → List ℕ
fitting room len part = take (length room - len) part

-- The room with it, and how many of its bytes are in use then.
unfoldable pub kept : List ℕ → ℕ → List ℕ → Filled
kept room len part = filled (sets room len (fitting room len part)) (len + length (fitting room len part))
