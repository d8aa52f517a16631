-- The options of a HANDSHAKE (RFC 7574, 7 and 8.4; 01, "Datagrams"): their layout, and the fixed ones. Assumes nothing.
use Rattle.std.specs.Prelude.{ℕ, zero, suc, ◌+◌, List, [], ◌∷◌, Bool, false, length, get_or, drop, ltb, eqb}
use Rattle.base.specs.Pick.{pick}
use Rattle.format.specs.Format.{method_of}
use Rattle.format.specs.declared.Format.{Format}
use Rattle.wire.specs.Bytes.{be16, begins}

abbrev pub code : List ℕ → ℕ
code t = get_or t 0 0

-- An option's bytes up to the variable part of its value, by its code: 2 swarm ID (a 16-bit length), 7 discard window and
-- 9 chunk size (32 bits), 8 supported messages (an 8-bit length); the others have 8 bits.
unfoldable pub head_size : ℕ → ℕ
head_size k = pick (eqb k 2) 3 (pick (eqb k 7) 5 (pick (eqb k 9) 5 2))

-- The length of that variable part, which its length field says.
unfoldable pub body_size : List ℕ → ℕ
body_size t = pick (eqb (code t) 2) (be16 t 1) (pick (eqb (code t) 8) (get_or t 1 0) 0)

-- The size of the option at the front of t, whose code is to be at least `least`: 1 is End's. 0 stands for a refusal: cut
-- short, unknown, repeated or out of order.
unfoldable pub option_size : ℕ → List ℕ → ℕ
option_size least t =
    pick (ltb (length t) 1) 0
    (pick (eqb (code t) 255) 1
    (pick (ltb (code t) least) 0
    (pick (ltb 9 (code t)) 0
    (pick (ltb (length t) (head_size (code t) + body_size t)) 0
    (head_size (code t) + body_size t)))))

-- Where the options of t end, End included, `at` bytes before t counted in; 0 where they are refused. Codes rise, so ten
-- options and End are the most.
unfoldable pub options_from : ℕ → ℕ → List ℕ → ℕ → ℕ
options_from zero least t at = 0
options_from (suc n) least t at =
    pick (eqb (option_size least t) 0) 0
    (pick (eqb (option_size least t) 1) (at + 1)
    (options_from n (code t + 1) (drop (option_size least t) t) (at + option_size least t)))

unfoldable pub options_size : List ℕ → ℕ
options_size t = options_from 11 0 t 0

-- The fixed options before and after the root's 32 bytes; option 6 names the order's method ("option 6 must match it").
abbrev pub fixed_head : List ℕ
fixed_head = 0 ∷ 1 ∷ 1 ∷ 1 ∷ 2 ∷ 0 ∷ 32 ∷ []

abbrev pub fixed_tail : Format → List ℕ
fixed_tail F = 3 ∷ 1 ∷ 4 ∷ 2 ∷ 6 ∷ method_of F ∷ 9 ∷ 0 ∷ 0 ∷ 4 ∷ 0 ∷ 255 ∷ []

-- Where the root and the options behind it begin, and the size of all.
abbrev pub root_place : ℕ
root_place = length fixed_head

abbrev pub tail_place : ℕ
tail_place = root_place + 32

abbrev pub fixed_size : ℕ
fixed_size = tail_place + 12

-- Whether t begins with the fixed options around some root; their last byte is End, so nothing can follow in the options.
unfoldable pub is_fixed : Format → List ℕ → Bool
is_fixed F t = pick (begins fixed_head t) (begins (fixed_tail F) (drop tail_place t)) false
