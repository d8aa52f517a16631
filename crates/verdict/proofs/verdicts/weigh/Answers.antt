use Rattle.hash.proofs.Promise.{bytes_of}
use Rattle.verdict.specs.Integrity.{integrity_in}
use Rattle.verdict.proofs.VerdictLaws.{weigh-peaks, weigh-climb, weigh-fits}
use Rattle.verdict.proofs.verdicts.weigh.Goals as goal

pub returns-then-not-rooted : goal.returns-then-not-rooted
returns-then-not-rooted c =
    weigh-peaks c.args.scratch.now c.args.place.n (bytes_of c.args.root.words) c.args.hashes.now c.args.place.opened c.args.place.c c.args.t c.args.chunk.now (integrity_in c.args.integrity) c.rooted.ensures c.if-not-rooted.true c.root_node.ensures

pub returns-then-not-met : goal.returns-then-not-met
returns-then-not-met c =
    weigh-climb c.args.scratch.now c.args.place.n (bytes_of c.args.root.words) c.args.hashes.now c.args.place.opened c.args.place.c c.args.t c.args.chunk.now (integrity_in c.args.integrity) c.rooted.ensures c.if-not-rooted.false c.sha256-leaf.ensures c.met.ensures c.if-not-met.true c.node.ensures

pub returns : goal.returns
returns c =
    weigh-fits c.args.scratch.now c.args.place.n (bytes_of c.args.root.words) c.args.hashes.now c.args.place.opened c.args.place.c c.args.t c.args.chunk.now (integrity_in c.args.integrity) c.rooted.ensures c.if-not-rooted.false c.sha256-leaf.ensures c.met.ensures c.if-not-met.false
