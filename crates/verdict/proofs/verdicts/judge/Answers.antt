use Rattle.hash.proofs.Promise.{bytes_of}
use Rattle.verdict.specs.Integrity.{integrity_in}
use Rattle.verdict.proofs.VerdictLaws.{judge-inside, judge-missing, judge-weighed}
use Rattle.verdict.proofs.verdicts.judge.Goals as goal

pub first_missing-requires : goal.first_missing-requires
first_missing-requires c =
    judge-inside c.args.scratch.now c.args.place.n (bytes_of c.args.root.words) c.args.hashes.now c.args.trusted.now c.args.place.c c.args.chunk.now (integrity_in c.args.integrity) _ _ c.requires.1 c.reach-t.ensures.0 c.requires.0

pub returns-in-Some : goal.returns-in-Some
returns-in-Some c =
    judge-missing c.args.scratch.now c.args.place.n (bytes_of c.args.root.words) c.args.hashes.now c.args.trusted.now c.args.place.c c.args.chunk.now (integrity_in c.args.integrity) _ _ c.requires.1 c.reach-t.ensures.0 c.first_missing.ensures c.in-Some.is

pub returns-in-None : goal.returns-in-None
returns-in-None c =
    judge-weighed c.args.scratch.now c.args.place.n (bytes_of c.args.root.words) c.args.hashes.now c.args.trusted.now c.args.place.c c.args.chunk.now (integrity_in c.args.integrity) _ _ c.requires.1 c.reach-t.ensures.0 c.first_missing.ensures c.in-None.is c.weigh.ensures
