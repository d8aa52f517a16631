-- The digest of a message. It is shut: the crates above know of it what proofs/Promise.antt says.
-- Assumes nothing.
use Rattle.std.specs.Prelude.{◌≡◌, ℕ, List, refl}
use Rattle.hash.specs.Word.{bytes_of}
use Rattle.hash.specs.Message.{hashed}

-- FIPS 180-4, 6.2: the digest of a message, 32 bytes.
pub sha256 : List ℕ → List ℕ
sha256 m = bytes_of (hashed m)

-- For this crate's own proofs.
pub sha256_is : (m : List ℕ) → sha256 m ≡ bytes_of (hashed m)
unfolding sha256
sha256_is m = refl
