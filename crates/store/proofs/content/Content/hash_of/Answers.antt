use mathlib.Core.Path.{ap, ap₂, ◌∙◌}
use mathlib.Core.List.{List, ◌++◌}
use Prim.Native.Nat.{ℕ, ◌-◌}
use native.Mathlib.Omega.{arith}
use lib.Pow.{pow_pos}
use Rattle.hash.proofs.Promise.{sha256}
use Rattle.verdict.specs.Room.{hash_in}
use Rattle.store.proofs.BuildingLaws.{kth_inside, kids_in, kids_hash, leaf-hash}
use Rattle.store.proofs.content.Content.hash_of.Goals as goal

pub returns-then-h-eq0 : goal.returns-then-h-eq0
returns-then-h-eq0 c = c.leaf.ensures ∙ leaf-hash c.args.self.bytes.now c.args.self.n c.args.h c.args.k c.if-h-eq0.true c.args.self.counted c.requires.h_bound.1

pub nth-requires : goal.nth-requires
nth-requires c = let i = kth_inside c.args.self.n c.args.h c.args.k c.requires.h_bound.1 in
    let j = kids_in c.args.self.n c.args.h c.args.k c.if-h-eq0.false i in
    rw c.from-first.ensures (omega (arith, c.requires.h_bound.0), omega (arith, j.0, pow_pos (c.args.h - 1)))

pub nth-requires-2 : goal.nth-requires-2
nth-requires-2 c = let i = kth_inside c.args.self.n c.args.h c.args.k c.requires.h_bound.1 in
    let j = kids_in c.args.self.n c.args.h c.args.k c.if-h-eq0.false i in
    rw c.from-first.ensures (omega (arith, c.requires.h_bound.0), omega (arith, j.1, pow_pos (c.args.h - 1)))

pub returns : goal.returns
returns c = let i = kth_inside c.args.self.n c.args.h c.args.k c.requires.h_bound.1 in
    c.parent.ensures
    ∙ ap₂ (λ (x y : List ℕ). sha256 (x ++ y))
    (c.read-left.ensures ∙ ap (hash_in c.args.hashes.now) (rw c.from-first.ensures at c.nth.ensures))
    (c.read-right.ensures ∙ ap (hash_in c.args.hashes.now) (rw c.from-first.ensures at c.nth-2.ensures))
    ∙ kids_hash c.args.self.bytes.now c.args.self.n c.args.h c.args.k c.args.hashes.now c.if-h-eq0.false c.args.self.counted c.requires.filled i
