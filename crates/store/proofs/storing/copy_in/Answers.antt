use mathlib.Core.Path.{refl}
use native.Mathlib.Omega.{arith}
use Rattle.std.proofs.lemmas.Slice.{put_mid-paste}
use Rattle.store.specs.Storing.{copied}
use Rattle.store.proofs.storing.copy_in.Goals as goal

pub returns : goal.returns
unfolding copied
returns c = put_mid-paste c.args.at _ c.args.dst.now _ c.args.src.now _ c.copy.ensures (omega arith) refl
