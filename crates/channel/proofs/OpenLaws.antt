-- Opening a channel, step by step as the code takes it. Assumes nothing.
use Rattle.std.proofs.Common.{◌≡◌, ℕ, ◌*◌, ◌^◌, ◌<◌, ◌≤◌, ap, ◌∙◌, mul-le-mul_left, arith}
use Rattle.bits.proofs.Promise.{row_words, row_words_lem}
use Rattle.table.proofs.Promise.{row_count, open_answer}
use Rattle.channel.specs.World.{Channels, World, Out, beside, table_rows}
use Rattle.channel.specs.Answers.{own_rooms_answer}
use Rattle.channel.specs.Opening.{calling_row, occupied, open_number, open_spec}
use Rattle.base.proofs.OutLaws.{unless-done}

-- The words of a row of 32-bit many bits, and the place where a row begins, are small.
pub row_small : (N i w : ℕ) → w ≡ row_words N → N < 2 ^ 32 → i ≤ row_count → (w < 2 ^ 28) × (w * i < 2 ^ 32)
row_small N i w e h l =
    let b = row_words_lem N in
    let m = mul-le-mul_left w l in
    (omega (arith, b.1), omega (arith, b.1, m))

-- A call that is not refused takes a row that calls.
pub open_done : (w : World) (id : ℕ) {out : Out Channels} → own_rooms_answer w ≡ 0 → 0 ≡ open_answer (table_rows w.channels.state) id
    → out ≡ occupied w.channels (calling_row id) → beside w.rooms out ≡ open_spec w id
unfolding open_spec
open_done w id e z p = ap (beside w.rooms) p ∙ unless-done (open_number w id) w _ (rw (e, ← z))
