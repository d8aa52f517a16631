-- Two lists of words have the same bytes exactly where the words are the same. Assumes nothing.
use Rattle.std.proofs.Common.{◌≡◌, ℕ, true, false, List, length, sym, refl, ◌∙◌, eqb, eqb-true, eq-eqb}
use Rattle.std.specs.Prelude.{Bool, Decides}
use Rattle.std.proofs.lemmas.Slice.Eq.{slice_eq-Decides}
use lib.Pointwise.{pointwise}
use Rattle.base.specs.Same.{same}
use Rattle.base.proofs.SameLaws.{same_refl, same_is}
use Rattle.hash.specs.Word.{Words, bytes_of}
use Rattle.hash.proofs.BytesLaws.{words-bytes}

-- Equal bytes, equal words.
pub bytes_injective : (u v : List ℕ) → Words u → Words v → length u ≡ length v → bytes_of u ≡ bytes_of v → u ≡ v
bytes_injective u v hu hv l e = sym (words-bytes u hu) ∙ rw (e, l) (words-bytes v hv)

-- Two tests of one fact.
same_answer : {P : Type 0} (r s : Bool) → Decides r P → Decides s P → r ≡ s
same_answer true s h k = sym (k.1 (h.0 refl))
same_answer false true h k = h.1 (k.0 refl)
same_answer false false h k = refl

-- Whether the words are the same, one after the other.
pub same_words : (u v : List ℕ) → Words u → Words v → length u ≡ length v → pointwise eqb u v ≡ same (bytes_of u) (bytes_of v)
same_words u v hu hv l = same_answer _ _ (slice_eq-Decides eqb_decides u v _ refl) bytes_decide
  where
    eqb_decides : (a b : ℕ) → Decides (eqb a b) (a ≡ b)
    eqb_decides a b = (eqb-true a b, eq-eqb a b)

    bytes_decide : Decides (same (bytes_of u) (bytes_of v)) (u ≡ v)
    bytes_decide = ((λ t. bytes_injective u v hu hv l (same_is _ _ t)), (λ e. rw e (same_refl (bytes_of v))))
