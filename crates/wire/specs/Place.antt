-- How a message names chunks, behind its type: by a range, "first and last chunk, 32 bits each, both included" (01,
-- "Datagrams"), or by "one bin in place of the range" (02, No. 1; RFC 7574, 4.2). Assumes nothing.
use Rattle.std.specs.Prelude.{ℕ, suc, ◌+◌, ◌-◌, ◌^◌, List, Bool, true, false, eqb}
use Rattle.base.specs.Pick.{pick}
use Rattle.format.specs.declared.Addressing.{Addressing}
use Rattle.format.specs.declared.Addressing.TheVariants.{Bins, Ranges}
use Rattle.format.specs.declared.Format.{Format}
use Rattle.tree.proofs.Promise.{first, last}
use Rattle.wire.specs.Bytes.{be32}

-- The bytes that name chunks.
abbrev pub place_by : Addressing → ℕ
place_by Bins = 4
place_by Ranges = 8

unfoldable pub place_size : Format → ℕ
place_size F = place_by F.addressing

-- The sizes of the table's messages: a type and chunks (HAVE, REQUEST and CANCEL); behind these 64 bits (ACK, and DATA
-- without its chunk) or a hash (INTEGRITY).
abbrev pub named_size : Format → ℕ
named_size F = suc (place_size F)

abbrev pub timed_size : Format → ℕ
timed_size F = named_size F + 8

abbrev pub integrity_size : Format → ℕ
integrity_size F = named_size F + 32

-- "`FFFFFFFF` is empty", "`7FFFFFFF` is everything".
abbrev pub empty_bin : ℕ
empty_bin = 2 ^ 32 - 1

abbrev pub everything_bin : ℕ
everything_bin = 2 ^ 31 - 1

-- The first and the last chunk that the message t names; a bin is taken as it stands, past the pack or not.
abbrev pub first_by : Addressing → List ℕ → ℕ
first_by Bins t = first (be32 t 1)
first_by Ranges t = be32 t 1

unfoldable pub first_of : Format → List ℕ → ℕ
first_of F t = first_by F.addressing t

abbrev pub last_by : Addressing → List ℕ → ℕ
last_by Bins t = last (be32 t 1)
last_by Ranges t = be32 t 5

unfoldable pub last_of : Format → List ℕ → ℕ
last_of F t = last_by F.addressing t

-- Whether it names no chunk at all; whether it names none or all, which only HAVE, REQUEST and CANCEL may.
abbrev pub empty_by : Addressing → List ℕ → Bool
empty_by Bins t = eqb (be32 t 1) empty_bin
empty_by Ranges t = false

unfoldable pub is_empty : Format → List ℕ → Bool
is_empty F t = empty_by F.addressing t

abbrev pub special_by : Addressing → List ℕ → Bool
special_by Bins t = pick (eqb (be32 t 1) empty_bin) true (eqb (be32 t 1) everything_bin)
special_by Ranges t = false

unfoldable pub is_special : Format → List ℕ → Bool
is_special F t = special_by F.addressing t

-- The chunk by which HAVE, REQUEST, CANCEL and ACK over f..l are past the pack, if it is: a range by its last one, a bin by
-- its first, since "a bin that runs past the last chunk means its part inside the pack; wholly past is 7".
abbrev pub reach_by : Addressing → (f l : ℕ) → ℕ
reach_by Bins f l = f
reach_by Ranges f l = l

unfoldable pub reach : Format → (f l : ℕ) → ℕ
reach F f l = reach_by F.addressing f l
