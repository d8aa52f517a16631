-- The numbers that the checks of size and layout can give. Assumes nothing.
use Prim.Native.Nat.{ℕ, zero, suc, ◌≤◌}
use native.Mathlib.Omega.{arith}
use mathlib.Core.Path.{refl}
use mathlib.Core.List.{List, [], ◌∷◌}
use Rattle.base.specs.Among.{among, OneOf}
use Rattle.wire.specs.Layout.{number_of, layout_of}
use Rattle.wire.specs.Layout.{Layout}
use Rattle.wire.specs.Layout.{Fault, HandshakeAlone, Messages, MessagesAndData}
use Rattle.wire.proofs.FaultLaws.{Numbered, numbered}
use Rattle.format.specs.declared.Format.{Format}

up-to_three : (n : ℕ) → n ≤ 3 → OneOf (0 ∷ 1 ∷ 2 ∷ 3 ∷ []) n
unfolding among
up-to_three zero h = refl
up-to_three (suc zero) h = refl
up-to_three (suc (suc zero)) h = refl
up-to_three (suc (suc (suc zero))) h = refl
up-to_three (suc (suc (suc (suc n)))) h = absurd (omega arith)

by_layout_lem : (l : Layout) → Numbered l → OneOf (0 ∷ 1 ∷ 2 ∷ 3 ∷ []) (number_of l)
unfolding among
by_layout_lem (Fault n) h = up-to_three n h.1
by_layout_lem (HandshakeAlone a o) h = refl
by_layout_lem (Messages k) h = refl
by_layout_lem (MessagesAndData c x b n k) h = refl

pub layout-one : (F : Format) (s : List ℕ) → OneOf (0 ∷ 1 ∷ 2 ∷ 3 ∷ []) (number_of (layout_of F s).layout)
layout-one F s = by_layout_lem (layout_of F s).layout (numbered F s)
