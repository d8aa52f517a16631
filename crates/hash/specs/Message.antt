-- FIPS 180-4, sections 5.1.1, 5.2.1, 5.3.3 and 6.2: padding, and the hash value of a message of bytes.
-- A message's length is counted in bytes: every message here is a whole number of them. Assumes nothing.
use Rattle.std.specs.Prelude.{ℕ, zero, suc, ◌-◌, ◌*◌, ◌/◌, ◌%◌, ◌^◌, List, [], ◌∷◌, ◌++◌, length, take, drop, replicate}
use Rattle.hash.specs.Word.{be}
use Rattle.hash.specs.Block.{compressed}

-- 5.3.3: the initial hash value.
abbrev pub H0 : List ℕ
H0 = 0x6a09_e667 ∷ 0xbb67_ae85 ∷ 0x3c6e_f372 ∷ 0xa54f_f53a ∷ 0x510e_527f ∷ 0x9b05_688c ∷ 0x1f83_d9ab ∷ 0x5be0_cd19 ∷ []

-- 5.1.1: how many zero bytes stand between the byte 0x80 and the length: the fewest that fill a block.
abbrev pub gap : ℕ → ℕ
gap n = (119 - n % 64) % 64

-- 5.1.1: the last bytes of a message of n bytes, a 1 bit, zeros, and the message's length in bits, as 64 bits.
unfoldable pub padded : List ℕ → ℕ → List ℕ
padded tail n = tail ++ (0x80 ∷ (replicate (gap (length tail)) 0 ++ be 8 (8 * n % 2 ^ 64)))

-- 5.2.1: the block of 64 bytes number i, counted from 0.
abbrev pub block : ℕ → List ℕ → List ℕ
block i m = take 64 (drop (64 * i) m)

-- 6.2.2: the hash value after the hash value v and the first n blocks of m.
unfoldable pub after : List ℕ → ℕ → List ℕ → List ℕ
after v zero m = v
after v (suc n) m = compressed (after v n m) (block n m)

-- 6.2.2: the last hash value of a message of n bytes, v being the one before the blocks that hold its last bytes, tail.
unfoldable pub finished : List ℕ → List ℕ → ℕ → List ℕ
finished v tail n = after v (length (padded tail n) / 64) (padded tail n)

-- 6.2: the last hash value of a message.
unfoldable pub hashed : List ℕ → List ℕ
hashed m = finished H0 m (length m)
