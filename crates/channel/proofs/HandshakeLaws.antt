-- A HANDSHAKE taken in, step by step as the code takes it. Assumes nothing.
use Rattle.std.proofs.Common.{◌≡◌, ℕ, ◌+◌, ◌-◌, ◌*◌, ◌^◌, ◌<◌, ◌≤◌, min, Bool, false, eqb, ◌≢◌, List, length, get_or, drop, sym, ap, ◌∙◌, arith, length-drop, length-take, get_or-drop, ne_eqb}
use Rattle.hash.proofs.Promise.{bytes_of, words, same, same_not, bytes-length, bytes-words}
use Rattle.base.specs.Pick.{pick}
use Rattle.wire.proofs.Promise.{be32}
use Rattle.wire.specs.declared.message.Options.{Options}
use Rattle.wire.specs.declared.message.Options.TheVariants.{Fixed}
use Rattle.writer.proofs.Promise.{within}
use Rattle.table.proofs.Promise.{row_of, row_at, row_after, put_row, handshake_row, handshake_answer}
use Rattle.table.specs.declared.rows.Row.{Row}
use Rattle.channel.specs.World.{Channels, channels_of, Out, out_of, order_root, table_rows}
use Rattle.channel.specs.Opening.{opened_row, occupied}
use Rattle.channel.specs.Take.{row_for, ours, handshake_taken}
use Rattle.base.proofs.OutLaws.{unless-done}

-- ---- the options

-- Fewer than 32 bytes are not the root's.
pub root-short : (u s : List ℕ) (at : ℕ) → length u ≡ 8 → length s < at + 32 → false ≡ ours (bytes_of u) s (Fixed at)
unfolding ours
root-short u s at e l = sym (same_not (within s at 32) (bytes_of u) (λ q. differ (ap length q)))
  where
    differ : length (within s at 32) ≡ length (bytes_of u) → ⊥
    differ q =
        let z : min 32 (length s - at) ≡ 4 * length u = sym (length-take 32 (drop at s) ∙ ap (min 32) (length-drop at s)) ∙ q ∙ bytes-length u in
        omega arith

-- 32 bytes are compared by their words.
pub root-same : (root s : List ℕ) (at : ℕ) {v : List ℕ} {b : Bool} → ((i : ℕ) → get_or s i 0 < 2 ^ 8) → at + 32 ≤ length s
    → v ≡ words 8 (drop at s) → b ≡ same (bytes_of v) root → b ≡ ours root s (Fixed at)
unfolding ours
root-same root s at {v} few l e q =
    q ∙ ap (λ (x : List ℕ). same x root) (ap bytes_of e ∙ bytes-words 8 (drop at s) (λ i. rw (get_or-drop at s i 0) (few (at + i))) (omega (arith, length-drop at s)))

-- ---- a HANDSHAKE

-- One that is not refused
module _ (ch : Channels) (id : ℕ) (s : List ℕ) (a : ℕ) (o : Options) {to : ℕ} {b : Bool} (te : to ≡ be32 s 0)
    (be : b ≡ ours (order_root ch.state) s o) (z : 0 ≡ handshake_answer (table_rows ch.state) to a b id) where
  taken : {out : Out Channels}
      → out ≡ pick (eqb to 0) (occupied ch (opened_row id a)) (out_of 0 0 (channels_of (put_row ch.state (row_for ch.state s) (row_after (row_at (table_rows ch.state) (row_for ch.state s)) a)) ch.has ch.wants ch.reply))
      → out ≡ handshake_taken ch id s a o
  unfolding handshake_taken
  taken p = (rw te at p) ∙ unless-done _ ch _ (sym (rw (te, be) at z))

  -- opens a channel where it goes to channel 0,
  pub handshake-opens : to ≡ 0 → {out : Out Channels} → out ≡ occupied ch (opened_row id a) → out ≡ handshake_taken ch id s a o
  handshake-opens e p = taken (rw e p)

  -- and changes the row that it goes to elsewhere.
  pub handshake-changes : to ≢ 0 → {i : ℕ} {q : Row} {t : List ℕ} → i ≡ handshake_row (table_rows ch.state) to
      → q ≡ row_after (row_at (table_rows ch.state) i) a → t ≡ put_row ch.state i q
      → out_of 0 0 (channels_of t ch.has ch.wants ch.reply) ≡ handshake_taken ch id s a o
  handshake-changes d {i} ie qe we =
      let n = ne_eqb to 0 d in
      let e : i ≡ row_for ch.state s = (rw n at ie) ∙ ap (row_of (table_rows ch.state)) te in
      taken (rw (n, we, qe, e))
