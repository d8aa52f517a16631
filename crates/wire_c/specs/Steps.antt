-- Nothing of the papers: the two words of a HANDSHAKE's options, one by one. Assumes nothing.
use Rattle.std.specs.Prelude.{ℕ}
use Rattle.wire.specs.declared.message.Options.{Options}
use Rattle.wire.specs.declared.message.Options.TheVariants.{Fixed, EndOnly, Other}

-- Their kind.
abbrev pub kind_of : Options → ℕ
kind_of (Fixed r) = 1
kind_of EndOnly = 2
kind_of Other = 0

-- The place of the root, 0 where there is none.
abbrev pub root_of : Options → ℕ
root_of (Fixed r) = r
root_of EndOnly = 0
root_of Other = 0
