-- The numbers that asking can give. Assumes nothing.
use Prim.Native.Nat.{ℕ, zero, suc}
use mathlib.Core.Path.{refl}
use mathlib.Core.Bool.{Bool, true, false}
use mathlib.Core.List.{List, [], ◌∷◌}
use lib.Dec.{ltb}
use lib.ListN.{length}
use Rattle.base.specs.Pick.{pick}
use Rattle.base.specs.Among.{among, OneOf}
use Rattle.base.proofs.AmongLaws.{all_among, earlier-one, one_of_more}
use Rattle.bits.proofs.Promise.{count_bits, row_words}
use Rattle.store.proofs.Promise.{length_answer, count_of, length_numbered}
use Rattle.held.specs.Held.{ask_number, counted_unless, held_spec}

abbrev ask_numbers : List ℕ
ask_numbers = 0 ∷ 11 ∷ 12 ∷ []

room-one : (b : Bool) → OneOf ask_numbers (pick b 11 0)
unfolding among
room-one true = refl
room-one false = refl

counted-one : (n held N : ℕ) → OneOf ask_numbers n → OneOf ask_numbers (counted_unless n held N).answer
counted-one zero held N h = h
counted-one (suc n) held N h = h

pub ask-one : (L : ℕ) (map : List ℕ) → OneOf (0 ∷ 11 ∷ 12 ∷ []) (held_spec L map).answer
unfolding held_spec ask_number among all_among
ask-one L map =
    let N = count_of L in
    let short = ltb (length map) (row_words N) in
    counted-one (ask_number L N (length map)) (count_bits map N) N (earlier-one ask_numbers (length_answer L) (pick short 11 0) (one_of_more (0 ∷ 12 ∷ []) ask_numbers (length_answer L) refl (length_numbered L)) (room-one short))
