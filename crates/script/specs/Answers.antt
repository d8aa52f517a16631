-- Lines that are written (01: "each output line with its line feed, the number (two hexadecimal digits) and the reply; at the
-- end `ff` if whole or `f0`, then the held count (four hexadecimal digits)"). Assumes nothing.
use Rattle.std.specs.Prelude.{ℕ, ◌+◌, ◌*◌, ◌/◌, ◌%◌, Bool, List, [], ◌∷◌, ◌++◌, leb, length}
use Rattle.std.proofs.lemmas.List.Edits.{sets}
use Rattle.base.specs.Pick.{pick}
use Rattle.script.specs.Hex.{encoded}
use Rattle.script.specs.Lines.{Filled, filled}

-- An answer's line: the number and the reply.
unfoldable pub answer_line : ℕ → List ℕ → List ℕ
answer_line number reply = encoded (number ∷ reply) ++ 10 ∷ []

-- The closing line: whole or not, and the held count.
unfoldable pub closing_line : Bool → ℕ → List ℕ
closing_line whole held = answer_line (pick whole 255 240) (held / 256 % 256 ∷ held % 256 ∷ [])

-- The bytes of an answer's line with a reply of n bytes: two digits a byte, and the line feed.
abbrev pub line_size : ℕ → ℕ
line_size n = 3 + 2 * n

-- Whether it fits behind the first `at` bytes of a room of this size.
unfoldable pub fits : (size at n : ℕ) → Bool
fits size at n = leb (at + line_size n) size

-- Bytes added behind the first `at` of a room; a room that is too small for them stays.
unfoldable pub appended : List ℕ → ℕ → List ℕ → Filled
appended room at s =
    pick (leb (at + length s) (length room)) (filled (sets room at s) (at + length s)) (filled room at)
