use Rattle.std.proofs.Common.{rules}
use Rattle.store.specs.Answers.{chunk_answer}
use Rattle.store.proofs.answers.chunk_answer.Goals as goal

pub returns-then-chunk_count-c : goal.returns-then-chunk_count-c
unfolding chunk_answer
returns-then-chunk_count-c c = search rules

pub returns-then-size-chunk_size : goal.returns-then-size-chunk_size
unfolding chunk_answer
returns-then-size-chunk_size c = search rules

pub returns : goal.returns
unfolding chunk_answer
returns c = search rules
