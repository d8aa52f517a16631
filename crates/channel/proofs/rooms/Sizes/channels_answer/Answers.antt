use Rattle.std.proofs.Common.{◌≡◌, arith, w32, Fits, rules}
use Rattle.std.proofs.lemmas.Grind.{common_steps}
use Rattle.std.proofs.lemmas.Bool.Decides.{nat_tests}
use Rattle.bits.proofs.Promise.{row_words}
use Rattle.store.proofs.Promise.{count_of}
use Rattle.channel.specs.Answers.{channel_rooms_answer}
use Rattle.channel.proofs.RoomLaws.{rows_small}
use Rattle.channel.proofs.rooms.Sizes.channels_answer.Goals as goal

pub overflow_mul-words : goal.overflow_mul-words
overflow_mul-words c = let f : Fits w32 c.chunk_count.result = search rules in let e : c.row_words-row.result ≡ row_words c.chunk_count.result = cc in let g = rows_small _ _ e f.fits in search rules

pub returns-then-self-ge-MAX_SIZE : goal.returns-then-self-ge-MAX_SIZE
unfolding channel_rooms_answer
returns-then-self-ge-MAX_SIZE c = let e : c.row_words-row.result ≡ row_words (count_of c.args.length) = cc in grind (arith, nat_tests, common_steps)

pub returns : goal.returns
unfolding channel_rooms_answer
returns c = let e : c.row_words-row.result ≡ row_words (count_of c.args.length) = cc in grind (arith, nat_tests, common_steps)
