-- What of a datagram's form the order settles (02, No. 1: "The order names the method, 0 or 2"). Assumes nothing.
use Rattle.std.specs.Prelude.{ℕ, Bool, true, eqb, Result, Ok, Err}
use Rattle.base.specs.Pick.{pick}
use Rattle.format.specs.declared.Addressing.{Addressing}
use Rattle.format.specs.declared.Addressing.TheVariants.{Bins, Ranges}
use Rattle.format.specs.declared.Format.{Format}
use Rattle.format.specs.declared.NoMethod.{NoMethod}

abbrev pub format_by : Addressing → Format
format_by a = record { addressing = a }

-- A method's number, in an order and in option 6 (RFC 7574, 7.8): 0 for 32-bit bins, 2 for 32-bit chunk ranges.
abbrev pub method_by : Addressing → ℕ
method_by Bins = 0
method_by Ranges = 2

abbrev pub method_of : Format → ℕ
method_of F = method_by F.addressing

-- The method of this number, if it is one's.
unfoldable pub addressing_of : ℕ → Result Addressing NoMethod
addressing_of k = pick (eqb k (method_by Bins)) (Ok Bins) (pick (eqb k (method_by Ranges)) (Ok Ranges) (Err (record {})))

-- Whether a paper gives a method with this number.
unfoldable pub is_method : ℕ → Bool
is_method k = pick (eqb k (method_by Bins)) true (eqb k (method_by Ranges))

-- The format under the method of this number, where it is one's.
unfoldable pub format_of : ℕ → Format
format_of k = pick (eqb k (method_by Bins)) (format_by Bins) (format_by Ranges)
