use Rattle.bits.proofs.Promise.{row_words_lem}
use Prim.Native.Nat.{◌^◌, ◌≤◌}
use mir.Syntax.{w32}
use mir.Val.{Fits}
use native.Mathlib.Omega.{arith}
use borrow.Author.Rules.{rules}
use Rattle.loader.proofs.sizes.ppspp_peer_words.Goals as goal

pub overflow_mul-result : goal.overflow_mul-result
overflow_mul-result c = let f : Fits w32 c.args.n = search rules in
    let g : c.row_words.result ≤ 2 ^ 28 = rw (c.row_words.ensures, c.from.ensures) (omega (arith, f.fits, (row_words_lem c.args.n).1)) in
    search rules
