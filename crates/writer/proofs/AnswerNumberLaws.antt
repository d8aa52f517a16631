-- The numbers that beginning and adding can give. Assumes nothing.
use Prim.Native.Nat.{ℕ}
use mathlib.Core.Path.{refl}
use mathlib.Core.Bool.{not}
use mathlib.Core.List.{List, [], ◌∷◌, ◌++◌}
use lib.Dec.{ltb}
use lib.ListN.{length, take}
use Rattle.base.specs.Pick.{pick, earlier}
use Rattle.base.specs.Among.{among, OneOf}
use Rattle.base.proofs.OutLaws.{unless-one}
use Rattle.base.proofs.AmongLaws.{all_among, pick-one, earlier-one, one_of_more}
use Rattle.wire.specs.Limits.{max_size}
use Rattle.wire.specs.Layout.{number_of, layout_of}
use Rattle.wire.specs.declared.message.Message.{Message}
use Rattle.wire.proofs.NumberLaws.{layout-one}
use Rattle.writer.specs.Message.{bytes_of, writable}
use Rattle.writer.specs.Add.{has_data, add_answer, begin_spec, add_spec}
use Rattle.format.specs.declared.Format.{Format}

pub begin-one : (room : List ℕ) (to : ℕ) → OneOf (0 ∷ 11 ∷ []) (begin_spec room to).answer
unfolding begin_spec among
begin-one room to =
    let ms : List ℕ = 0 ∷ 11 ∷ [] in
    unless-one ms (pick (ltb (length room) max_size) 11 0) room _ (pick-one ms (ltb (length room) max_size) 11 0 refl refl) refl

abbrev add_numbers : List ℕ
add_numbers = 0 ∷ 1 ∷ 2 ∷ 3 ∷ 11 ∷ []

fault_one : (F : Format) (s : List ℕ) → OneOf add_numbers (number_of (layout_of F s).layout)
unfolding among all_among
fault_one F s = one_of_more (0 ∷ 1 ∷ 2 ∷ 3 ∷ []) add_numbers (number_of (layout_of F s).layout) refl (layout-one F s)

add-answer-one : (F : Format) (room : List ℕ) (len : ℕ) (m : Message) (source : List ℕ) → OneOf add_numbers (add_answer F room len m source)
unfolding add_answer among
add-answer-one F room len m source =
    let so_far = take len room in
    let last : ℕ = pick (has_data (layout_of F so_far).layout) 2 0 in
    let longer : ℕ = earlier (number_of (layout_of F (so_far ++ bytes_of F source m)).layout) last in
    let can : ℕ = pick (not (writable F (length source) m)) 2 longer in
    let passed : ℕ = earlier (number_of (layout_of F so_far).layout) can in
    pick-one add_numbers (ltb (length room) max_size) 11 (pick (ltb max_size len) 1 passed) refl
    (pick-one add_numbers (ltb max_size len) 1 passed refl
    (earlier-one add_numbers (number_of (layout_of F so_far).layout) can (fault_one F so_far)
    (pick-one add_numbers (not (writable F (length source) m)) 2 longer refl
    (earlier-one add_numbers (number_of (layout_of F (so_far ++ bytes_of F source m)).layout) last (fault_one F (so_far ++ bytes_of F source m))
    (pick-one add_numbers (has_data (layout_of F so_far).layout) 2 0 refl refl)))))

pub add-one : (F : Format) (room : List ℕ) (len : ℕ) (m : Message) (source : List ℕ) → OneOf (0 ∷ 1 ∷ 2 ∷ 3 ∷ 11 ∷ []) (add_spec F room len m source).answer
unfolding add_spec among
add-one F room len m source =
    unless-one add_numbers (add_answer F room len m source) room _ (add-answer-one F room len m source) refl
