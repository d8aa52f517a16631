-- The frame of a line (01: "Lines of hexadecimal, one frame a line"; "another character, odd length, under 16 or over 4,112
-- digits"). Assumes nothing.
use Rattle.std.specs.Prelude.{ℕ, ◌%◌, Bool, false, List, Option, Some, None, ltb, eqb, length}
use Rattle.base.specs.Pick.{pick}
use Rattle.script.specs.Hex.{all_digits}

-- Whether a line has from `least` to `most` characters, and an even number.
unfoldable pub has_length : (least most len : ℕ) → Bool
has_length least most len = pick (ltb len least) false (pick (ltb most len) false (eqb (len % 2) 0))

-- Whether a line is a frame: such a length, and digits alone.
unfoldable pub is_frame : (least most : ℕ) → List ℕ → Bool
is_frame least most line = pick (has_length least most (length line)) (all_digits line) false

-- The number of a frame of so many bytes, and of none: "A line with another character, odd length, under 16 or over 4,112
-- digits: `0f`".
abbrev pub frame_number : Option ℕ → ℕ
frame_number (Some len) = 0
frame_number None = 15
