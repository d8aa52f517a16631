use Rattle.std.proofs.Common.{sym, ◌∙◌, arith, rules}
use Rattle.hash.proofs.Promise.{bytes_of}
use Rattle.verdict.specs.Integrity.{integrity_in}
use Rattle.verdict.specs.Rooms.{rooms_of}
use Rattle.verdict.proofs.VerdictLaws.{fits-within}
use Rattle.verdict.proofs.ClimbLaws.{judged-verdict, judged-climb}
use Rattle.store.specs.Steps.{Climbed}
use Rattle.tree.proofs.PackLaws.{levels_small}
use Rattle.store.proofs.CallLaws.{if-fits, if-faulty}
use Rattle.store.proofs.calls.store_if_fits.Goals as goal

pub returns-in_err-t : goal.returns-in_err-t
returns-in_err-t c = let o = integrity_in c.args.integrity in
    if-faulty (rooms_of c.args.chunks.now c.args.map.now c.args.hashes.now c.args.trusted.now) (bytes_of c.args.root.words) c.args.n c.args.c c.args.chunk.now o c.judge.result (judged-verdict _ c.args.n (bytes_of c.args.root.words) c.args.hashes.now c.args.trusted.now c.args.c c.args.chunk.now o c.judge.ensures) _ c.from_residual.result c.in_err-t.was c.from_residual.ensures.1

pub store-requires-clause-t_bound : goal.store-requires-clause-t_bound
unfolding Climbed
store-requires-clause-t_bound c =
    let o = integrity_in c.args.integrity in
    let t = fits-within c.args.n (bytes_of c.args.root.words) c.args.hashes.now c.args.trusted.now c.args.c c.args.chunk.now o _ c.requires.0 (sym (judged-verdict _ c.args.n (bytes_of c.args.root.words) c.args.hashes.now c.args.trusted.now c.args.c c.args.chunk.now o c.judge.ensures) ∙ c.in_ok-t.was) in
    let l = levels_small 9 c.args.n (omega (arith, c.requires.1)) in
    (omega (arith, t, l), c.requires.2, judged-climb _ c.args.n (bytes_of c.args.root.words) c.args.hashes.now c.args.trusted.now c.args.c c.args.chunk.now o c.judge.ensures _ c.in_ok-t.was (omega (arith, t, l)))

pub returns : goal.returns
returns c = let o = integrity_in c.args.integrity in
    let e = if-fits (rooms_of c.args.chunks.now c.args.map.now c.args.hashes.now c.args.trusted.now) (bytes_of c.args.root.words) c.args.n c.args.c c.args.chunk.now o c.judge.result (judged-verdict _ c.args.n (bytes_of c.args.root.words) c.args.hashes.now c.args.trusted.now c.args.c c.args.chunk.now o c.judge.ensures) c.in_ok-t.t _ c.in_ok-t.was c.store.ensures.rooms in
    search rules
