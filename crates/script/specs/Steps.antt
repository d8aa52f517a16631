-- Nothing of the papers: a frame read to a room. Assumes nothing.
use Rattle.std.specs.Prelude.{ℕ, ◌+◌, ◌*◌, ◌/◌, List, [], ◌∷◌, Option, Some, None, ltb, leb, length}
use Rattle.std.specs.Option.{unwrap_or}
use Rattle.std.proofs.lemmas.List.Edits.{sets}
use Rattle.base.specs.Pick.{pick}
use Rattle.script.specs.Hex.{digit_of, all_digits}
use Rattle.script.specs.Frames.{has_length}

-- What reading gives, how many bytes a frame has or none, and the room afterwards.
pub record Framed : Type 0 where
  pub frame : Option ℕ
  pub room : List ℕ

abbrev pub framed : Option ℕ → List ℕ → Framed
framed f room = record { frame = f; room = room }

-- The value of a digit, or that it is none.
abbrev pub digit_in : ℕ → Option ℕ
digit_in c = pick (ltb (digit_of c) 16) (Some (digit_of c)) None

-- What the characters of a line leave in a room, two a byte; one that is no digit counts as 0. Of digits it is `decoded`.
unfoldable pub paired : List ℕ → List ℕ
paired [] = []
paired (c ∷ []) = []
paired (c ∷ d ∷ s) = (unwrap_or (digit_in c) 0 * 16 + unwrap_or (digit_in d) 0) ∷ paired s

-- The bytes stand at the front of the room, of a line with another character too; a line of another length, or one for
-- a larger room, leaves it as it is.
unfoldable pub frame_spec : (least most : ℕ) → List ℕ → List ℕ → Framed
frame_spec least most line room =
    pick (has_length least most (length line))
    (pick (leb (length line / 2) (length room))
    (framed (pick (all_digits line) (Some (length line / 2)) None) (sets room 0 (paired line)))
    (framed None room))
    (framed None room)
