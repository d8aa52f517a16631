-- Looking a node up among the hashes that came. Assumes nothing.
use Rattle.std.proofs.Common.{◌≡◌, ℕ, suc, ◌+◌, ◌/◌, ◌≤◌, ◌<◌, cond, Bool, true, false, List, [], ◌∷◌, length, get_or, drop, refl, arith, nat_eq, leb, Option as Found, Some, None}
use Rattle.std.proofs.lemmas.Bool.{le-leb, lt-leb}
use Rattle.std.proofs.Math.Option.{some, none}
use Rattle.std.proofs.Math.Option as Option
use Rattle.std.specs.List as List
use Rattle.std.specs.Option.{option_map}
use Rattle.std.specs.Simd.{first_chunks}
use Rattle.hash.proofs.Promise.{bytes_of, words, words-length}
use Rattle.base.specs.Pick.{pick}
use Rattle.verdict.specs.Room.{filler, Digest}
use Rattle.verdict.specs.Integrity.{Integrity, find, hash_from, hash_for}
use Rattle.verdict.specs.Steps.{got_at}
use Rattle.verdict.proofs.RoomLaws.{digest_words, digest_filler}

-- the search by pairs
abbrev pub second : List ℕ → ℕ
second p = get_or p 1 0

abbrev pub names : ℕ → List ℕ → Bool
names b p = nat_eq (get_or p 0 0) b

abbrev rest : List ℕ → ℕ → Found ℕ
rest es b = option_map second (List.find (names b) (first_chunks 2 (length es / 2) es))

pub find_pairs : (es : List ℕ) (b : ℕ) → find es b ≡ option_map second (List.find (names b) (first_chunks 2 (length es / 2) es))
unfolding find
find_pairs [] b = refl
find_pairs (x ∷ []) b = refl
find_pairs (x ∷ p ∷ es) b =
    let e : suc (suc (length es)) / 2 ≡ suc (length es / 2) = omega arith in
    rw (e, find_pairs es b) (go (nat_eq x b))
  where
    go : (t : Bool) → pick {A = Found ℕ} t (Some p) (rest es b) ≡ option_map second (cond t (Some (x ∷ p ∷ [])) (List.find (names b) (first_chunks 2 (length es / 2) es)))
    go true = refl
    go false = refl

-- a place found, and none
module _ (s : List ℕ) where
  digest-from : (o : Found ℕ) → Digest (Option.get_or (hash_from s o) filler)
  digest-from None = digest_filler
  digest-from (Some p) = go (leb (p + 32) (length s))
    where
      go : (t : Bool) → Digest (Option.get_or (pick t (some (bytes_of (words 8 (drop p s)))) none) filler)
      go true = digest_words (words 8 (drop p s)) (words-length 8 (drop p s))
      go false = digest_filler

pub digest_got : (o : Integrity) (b : ℕ) → Digest (got_at o b)
unfolding hash_for
digest_got o b = digest-from o.bytes (find o.entries b)

-- by the place that an entry names
module _ (o : Integrity) (b : ℕ) where
  pub short : length o.bytes < 32 → hash_for o b ≡ none
  unfolding hash_for
  short l = go (find o.entries b)
    where
      go : (p : Found ℕ) → hash_from o.bytes p ≡ none
      go None = refl
      go (Some p) = rw (lt-leb (p + 32) (length o.bytes) (omega arith))

  pub absent : None ≡ find o.entries b → hash_for o b ≡ none
  unfolding hash_for
  absent e = rw (← e)

  module _ (p : ℕ) (e : Some p ≡ find o.entries b) where
    pub there : p + 32 ≤ length o.bytes → hash_for o b ≡ some (bytes_of (words 8 (drop p o.bytes)))
    unfolding hash_for
    there l = rw (← e, le-leb (p + 32) (length o.bytes) l)

    pub past : length o.bytes < p + 32 → hash_for o b ≡ none
    unfolding hash_for
    past l = rw (← e, lt-leb (p + 32) (length o.bytes) l)

  pub got_none : {z : List ℕ} → z ≡ filler → hash_for o b ≡ none → z ≡ got_at o b
  got_none e f = rw f e
