-- What the layout checks answer and leave, from the definitions of the crate below: 11 before all else where a slice is too
-- short for its words. Assumes nothing.
use Rattle.std.specs.Prelude.{ℕ, List, length, ltb}
use Rattle.std.proofs.lemmas.List.Edits.{sets}
use Rattle.base.specs.Pick.{pick}
use Rattle.format.specs.declared.Format.{Format}
use Rattle.wire.proofs.Promise.{entry_words, Checked, number_of, check_spec}
use Rattle.wire_c.specs.Words.{layout_words}

-- The layout checks: the number, the room for entries and the words.
pub record Laid : Type 0 where
  pub answer : ℕ
  pub entries : List ℕ
  pub out : List ℕ

abbrev pub laid_of : ℕ → List ℕ → List ℕ → Laid
laid_of n entries out = record { answer = n; entries = entries; out = out }

-- Checks that were made: the words of their layout stand at the front of `out`.
abbrev pub checked_told : List ℕ → Checked → Laid
checked_told out c = laid_of (number_of c.layout) c.entries (sets out 0 (layout_words c.layout))

-- Six words are needed, and room for the entries of any datagram.
unfoldable pub layout_told : Format → List ℕ → List ℕ → List ℕ → Laid
layout_told F datagram entries out =
    pick (ltb (length out) 6) (laid_of 11 entries out)
    (pick (ltb (length entries) entry_words) (laid_of 11 entries out)
    (checked_told out (check_spec F entries datagram)))
