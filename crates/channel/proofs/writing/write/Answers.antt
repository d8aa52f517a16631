use Rattle.std.proofs.Common.{◌≡◌, arith, rules}
use Rattle.tree.proofs.Promise.{chunk_size, size}
use Rattle.channel.specs.World.{world_of, chunk_count, order_length}
use Rattle.channel.specs.Write.{write_spec}
use Rattle.channel.proofs.AcceptLaws.{own_passed}
use Rattle.channel.proofs.WriteLaws.{write-facts, write_done}
use Rattle.channel.proofs.writing.write.Goals as goal

pub returns-in_err-own_answer : goal.returns-in_err-own_answer
unfolding write_spec
returns-in_err-own_answer c = search rules

pub returns-in_err-i : goal.returns-in_err-i
unfolding write_spec
returns-in_err-i c = search rules

pub returns-in_err-held_answer : goal.returns-in_err-held_answer
unfolding write_spec
returns-in_err-held_answer c = search rules

pub slice_bounds-chunk-end : goal.slice_bounds-chunk-end
slice_bounds-chunk-end c = let w = world_of c.args.state.now c.args.chunks.now c.args.map.now c.args.hashes.now c.args.trusted.now c.args.has.now c.args.wants.now c.args.reply.now in let n : c.chunk_count-n.result ≡ chunk_count c.args.state.now = cc in let m : c.chunk_size.result ≡ size chunk_size (order_length c.args.state.now) c.args.c = cc in let f = write-facts w c.args.id c.args.c c.args.clock _ n (own_passed w c.length_in-length.ensures c.of.ensures c.in_ok-own_answer.ensures.0) c.in_ok-held_answer.ensures.0 _ m in omega (arith, f.inside)

pub chunk-requires : goal.chunk-requires
chunk-requires c = let w = world_of c.args.state.now c.args.chunks.now c.args.map.now c.args.hashes.now c.args.trusted.now c.args.has.now c.args.wants.now c.args.reply.now in let n : c.chunk_count-n.result ≡ chunk_count c.args.state.now = cc in let m : c.chunk_size.result ≡ size chunk_size (order_length c.args.state.now) c.args.c = cc in let f = write-facts w c.args.id c.args.c c.args.clock _ n (own_passed w c.length_in-length.ensures c.of.ensures c.in_ok-own_answer.ensures.0) c.in_ok-held_answer.ensures.0 _ m in record { max_size_in_bounds = f.fits; n_bound = f.count; bytes_len_bound = f.short; c_lt_n = f.one }

pub returns : goal.returns
returns c = let n : c.chunk_count-n.result ≡ chunk_count c.args.state.now = cc in let m : c.chunk_size.result ≡ size chunk_size (order_length c.args.state.now) c.args.c = cc in write_done _ _ _ _ _ n (own_passed _ c.length_in-length.ensures c.of.ensures c.in_ok-own_answer.ensures.0) c.in_ok-held_answer.ensures.0 _ m c.in_ok-i.ensures.answer.0 _ c.format_in-format.ensures c.row_at-peer.ensures c.in_ok-i.ensures.row.0 c.chunk.ensures
