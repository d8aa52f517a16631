use Rattle.std.proofs.Common.{◌≡◌, arith, rules}
use Rattle.channel.specs.World.{order_length}
use Rattle.store.proofs.Promise.{count_of}
use Rattle.bits.proofs.Promise.{row_words}
use Rattle.channel.proofs.TakeLaws.{base_small, affected_is, mark-stays}
use Rattle.channel.proofs.messages.apply_messages.Goals as goal

pub overflow_mul-base : goal.overflow_mul-base
overflow_mul-base c = let n : c.chunk_count-n.result ≡ count_of (order_length c.args.rooms.now.state.now) = cc in let e : c.row_words.result ≡ row_words c.chunk_count-n.result = cc in let b = base_small (order_length c.args.rooms.now.state.now) {i = c.args.i} c.requires.ordered.length n e (omega (arith, c.requires.i_value.1)) in omega (arith, b)

pub overflow_mul-base-2 : goal.overflow_mul-base-2
overflow_mul-base-2 c = let n : c.chunk_count-n.result ≡ count_of (order_length c.args.rooms.now.state.now) = cc in let e : c.row_words.result ≡ row_words c.chunk_count-n.result = cc in let b = base_small (order_length c.args.rooms.now.state.now) {i = c.args.i} c.requires.ordered.length n e (omega (arith, c.requires.i_value.1)) in omega (arith, b)

pub apply-choked-requires : goal.apply-choked-requires
apply-choked-requires c = let n : c.chunk_count-n.result ≡ count_of (order_length c.args.rooms.now.state.now) = cc in let e : c.row_words.result ≡ row_words c.chunk_count-n.result = cc in let b = base_small (order_length c.args.rooms.now.state.now) {i = c.args.i} c.requires.ordered.length n e (omega (arith, c.requires.i_value.1)) in b.2

pub returns-then-choked-row-clause-channels : goal.returns-then-choked-row-clause-channels
returns-then-choked-row-clause-channels c = let n : c.chunk_count-n.result ≡ count_of (order_length c.args.rooms.now.state.now) = cc in let e : c.row_words.result ≡ row_words c.chunk_count-n.result = cc in affected_is c.args.rooms.now.state.now _ _ c.args.rooms.now.reply.now _ c.requires.ordered.format c.requires.i_value.0 c.row_at-row.ensures c.length_in.ensures c.chunk_count-n.ensures e c.apply-choked.ensures c.put_row.ensures

pub returns-else-choked-row-clause-channels : goal.returns-else-choked-row-clause-channels
returns-else-choked-row-clause-channels c = let n : c.chunk_count-n.result ≡ count_of (order_length c.args.rooms.now.state.now) = cc in let e : c.row_words.result ≡ row_words c.chunk_count-n.result = cc in let m : c.apply-choked.result ≡ c.row_at-row.result.choked = search rules in affected_is c.args.rooms.now.state.now _ _ c.args.rooms.now.reply.now _ c.requires.ordered.format c.requires.i_value.0 c.row_at-row.ensures c.length_in.ensures c.chunk_count-n.ensures e c.apply-choked.ensures (mark-stays _ _ c.row_at-row.ensures m)
