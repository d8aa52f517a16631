-- Taking in a datagram, step by step as the code takes it. Assumes nothing.
use Rattle.std.proofs.Common.{◌≡◌, ℕ, ◌+◌, ◌*◌, ◌^◌, ◌<◌, ◌≤◌, Bool, false, eqb, leb, List, length, take, sym, refl, ap, ◌∙◌, true≢false, mul-le-mul_left, arith, le-leb}
use borrow.Author.Tests.{lt-leb}
use Rattle.bits.proofs.Promise.{row_words, row_words_lem}
use Rattle.wire.proofs.Promise.{be32, min_size, Checked, layout_of, Says, layout_data, layout-entries, layout-told, length-told, entries-told, number_of, checked_of, check_spec, entry_words, has_size, size-refused, Fronted, front-layout, front-survey, survey_all, survey_spec, survey_passed}
use Rattle.wire.specs.declared.message.Options.{Options}
use Rattle.wire.specs.declared.survey.Survey.{Survey}
use Rattle.wire.specs.declared.pass.Front.{Front}
use Rattle.wire.proofs.Promise.{Layout, Fault, HandshakeAlone, Messages, MessagesAndData}
use Rattle.writer.proofs.Promise.{read_all}
use Rattle.effects.proofs.Promise.{any_past, Peer, peer_of, effects, past-survey, quiet_survey}
use Rattle.table.proofs.Promise.{row_count, row_at, put_row, messages_answer, put_row_same}
use Rattle.table.specs.declared.rows.Row.{Row}
use Rattle.store.proofs.Promise.{count_of, length_answer, length_accepted}
use Rattle.channel.specs.World.{Channels, channels_of, World, Out, out_at, out_of, beside, order_length, chunk_count, table_rows, row_bit, order_format}
use Rattle.channel.specs.Answers.{own_rooms_answer}
use Rattle.channel.specs.Take.{row_for, handshake_taken, messages_number, with_mark, affected, messages_taken, data_taken, by_layout, take_spec, layout_in, messages_in}
use Rattle.channel.specs.Steps.{Ruled, settled, left, ruled_by}
use Rattle.base.proofs.OutLaws.{unless-done}
use Rattle.base.specs.Refusal.{number, node}
use Rattle.base.specs.declared.Refusal.{Refusal}
use Rattle.std.specs.Prelude.{None}
use Rattle.format.specs.declared.Format.{Format}

-- ---- the number of messages that the table lets in

module _ (st : List ℕ) (s : List ℕ) {to : ℕ} {alive : Bool} (te : to ≡ be32 s 0) (ae : alive ≡ eqb (length s) min_size)
    (z : 0 ≡ messages_answer (table_rows st) to alive)
    (good : length_answer (order_length st) ≡ 0) {n : ℕ} {v : Survey} (ne : n ≡ chunk_count st) (ve : v ≡ survey_all (order_format st) s) where
  past_is : any_past (order_format st) (chunk_count st) (messages_in st s) ≡ leb n v.highest
  past_is = rw (ne, ve) (past-survey (order_format st) (chunk_count st) s (omega (arith, (length_accepted (order_length st) good).0)))

  -- 7.
  pub messages-past : n ≤ v.highest → 7 ≡ messages_number st s
  unfolding messages_number
  messages-past h = rw (sym (rw (te, ae) at z), past_is ∙ le-leb n v.highest h)

  -- None.
  pub messages-none : v.highest < n → 0 ≡ messages_number st s
  unfolding messages_number
  messages-none h = rw (sym (rw (te, ae) at z), past_is ∙ lt-leb n v.highest h)

-- ---- their effects

-- The place of a row's bits is small.
pub base_small : (L : ℕ) {n w i : ℕ} → length_answer L ≡ 0 → n ≡ count_of L → w ≡ row_words n → i ≤ row_count → (w < 2 ^ 20) × (w * i < 2 ^ 24) × (32 * (w * i) < 2 ^ 32)
base_small L {n} {w} {i} z ne we l =
    let a = (length_accepted L z).1 in
    let m : n ≤ 512 = omega (arith, ne, a) in
    small (row_words_lem n) m
  where
    small : (n ≤ 32 * row_words n) × (32 * row_words n ≤ n + 31) → n ≤ 512 → (w < 2 ^ 20) × (w * i < 2 ^ 24) × (32 * (w * i) < 2 ^ 32)
    small b m = let k = mul-le-mul_left w l in (omega (arith, b.1, we), omega (arith, b.1, we, k), omega (arith, b.1, we, k))

-- The channels after the effects, room by room.
pub affected_is : (st has wants reply s : List ℕ) {m n w i : ℕ} {F : Format} {r : Row} {h v t : List ℕ} {choked : Bool}
    → F ≡ order_format st → i ≡ row_for st s → r ≡ row_at (table_rows st) i → m ≡ order_length st → n ≡ count_of m → w ≡ row_words n
    → peer_of h v choked ≡ effects n (32 * (w * i)) (read_all F s) (peer_of has wants r.choked)
    → t ≡ put_row st i (with_mark r choked)
    → channels_of t h v reply ≡ affected (channels_of st has wants reply) s
unfolding affected
affected_is st has wants reply s {m} {n} {w} {i} {F} {r} {h} {v} {t} {choked} fe ie re le ne we me tte = rw (words_are, ap (λ (x : Peer). x.has) peer-is, ap (λ (x : Peer). x.wants) peer-is)
  where
    r-is : r ≡ row_at (table_rows st) (row_for st s)
    r-is = re ∙ ap (row_at (table_rows st)) ie

    w-is : w ≡ row_words (chunk_count st)
    w-is = we ∙ ap row_words (ne ∙ ap count_of le)

    n-is : n ≡ chunk_count st
    n-is = ne ∙ ap count_of le

    peer-is : peer_of h v choked ≡ effects (chunk_count st) (row_bit (chunk_count st) (row_for st s)) (messages_in st s) (peer_of has wants (row_at (table_rows st) (row_for st s)).choked)
    peer-is = rw (← r-is, ← ie, ← w-is, ← n-is, ← fe) me

    words_are : t ≡ put_row st (row_for st s) (with_mark (row_at (table_rows st) (row_for st s))
        (effects (chunk_count st) (row_bit (chunk_count st) (row_for st s)) (messages_in st s) (peer_of has wants (row_at (table_rows st) (row_for st s)).choked)).choked)
    words_are = rw (← peer-is, ← r-is, ← ie) tte

-- Where the mark is as it was, the words stay.
pub mark-stays : (st : List ℕ) (i : ℕ) {r : Row} {choked : Bool} → r ≡ row_at (table_rows st) i → choked ≡ r.choked
    → st ≡ put_row st i (with_mark r choked)
mark-stays st i {r} re e =
    sym (ap (λ (b : Bool). put_row st i (with_mark r b)) e ∙ ap (put_row st i) re ∙ put_row_same st i)

-- Messages without an effect leave the channels as they are.
pub quiet_affected : (ch : Channels) (s : List ℕ) {v : Survey} → v ≡ survey_all (order_format ch.state) s → v.effective ≡ false
    → ch ≡ affected ch s
unfolding affected
quiet_affected ch s {v} e h =
    let st = ch.state in
    let q : (survey_all (order_format st) s).effective ≡ false = ap (λ (x : Survey). x.effective) (sym e) ∙ h in
    rw (quiet_survey (order_format st) (chunk_count st) (row_bit (chunk_count st) (row_for st s)) s (peer_of ch.has ch.wants (row_at (table_rows st) (row_for st s)).choked) q, put_row_same st (row_for st s))

-- Messages without DATA that are not refused.
pub messages_done : (ch : Channels) (s : List ℕ) → 0 ≡ messages_number ch.state s → {after : Channels} → after ≡ affected ch s
    → out_of 0 0 after ≡ messages_taken ch s
unfolding messages_taken
messages_done ch s z e = ap (out_of 0 0) e ∙ unless-done _ ch _ (sym z)

-- ---- any datagram

-- One that neither 12 nor 11 refuses goes by its layout:
pub take_laid : (w : World) (clock id : ℕ) (s : List ℕ) {out : Out World} → own_rooms_answer w ≡ 0
    → out ≡ by_layout w clock id s (layout_in w.channels.state s).layout → out ≡ take_spec w clock id s
unfolding take_spec
take_laid w clock id s z p = p ∙ unless-done (own_rooms_answer w) w _ z

-- 1 for its size.
pub laid_unsized : (w : World) (clock id : ℕ) (s : List ℕ) → false ≡ has_size (length s)
    → out_of 1 0 w ≡ by_layout w clock id s (layout_in w.channels.state s).layout
unfolding by_layout
laid_unsized w clock id s h = rw (size-refused (order_format w.channels.state) s (sym h))

-- What the layout pass told of a datagram.
module _ (st : List ℕ) {F : Format} (fe : F ≡ order_format st) (room s : List ℕ) {l : Layout} {after : List ℕ} (e : checked_of l after ≡ check_spec F room s) where
  -- The layout is the datagram's.
  pub laid : {m : Layout} → l ≡ m → m ≡ (layout_in st s).layout
  laid q = sym q ∙ layout-told F room s e ∙ ap (λ (G : Format). (layout_of G s).layout) fe

  -- Where it is not refused, its survey is that of all its messages.
  pub laid-survey : {m : Layout} → l ≡ m → number_of m ≡ 0 → {v : Survey} → v ≡ survey_spec F s → v ≡ survey_all (order_format st) s
  laid-survey q z g = g ∙ ap (λ (G : Format). survey_spec G s) fe ∙ survey_passed (order_format st) s (ap number_of (sym (laid q)) ∙ z)

  module _ {c x b n k : ℕ} (q : l ≡ MessagesAndData c x b n k) where
    -- DATA's chunk lies in the datagram.
    pub laid_end : b + n ≤ length s
    laid_end = let g : b + n ≡ length s = rw (← laid q) at (layout_data (order_format st) s) in omega arith

    told : k ≡ length (layout_in st s).entries
    told = says (layout-entries (order_format st) s).0 (laid q)
      where
        says : {m : Layout} {j : ℕ} → Says m j → MessagesAndData c x b n k ≡ m → k ≡ j
        says g f = rw (← f) at g

    -- Its entries lie in a room for any datagram's, and stand at the front.
    module _ (h : entry_words ≤ length room) where
      pub laid-few : k ≤ length after
      laid-few = omega (arith, told, (layout-entries (order_format st) s).1, length-told F room s e)

      pub laid-entries : take k after ≡ (layout_in st s).entries
      laid-entries = rw told (rw fe at (entries-told F room s e h))

-- ---- by its layout

module _ (w : World) (clock id : ℕ) (s : List ℕ) where
  -- A ruling by the layout that a pass told.
  pub ruled-laid : {l : Layout} → l ≡ (layout_in w.channels.state s).layout → {r : Ruled} → r ≡ ruled_by w clock id s l
      → r ≡ ruled_by w clock id s (layout_in w.channels.state s).layout
  ruled-laid le p = p ∙ ap (ruled_by w clock id s) le

  pub ruled-fault : (e : Refusal) → node e ≡ None
      → settled (out_at (number e) 0 (node e) w) ≡ ruled_by w clock id s (Fault (number e))
  unfolding by_layout
  ruled-fault e p = rw p

  pub ruled-messages : (k : ℕ) {v : Survey} → v ≡ survey_all (order_format w.channels.state) s
      → left w v ≡ ruled_by w clock id s (Messages k)
  ruled-messages k e = ap (left w) e

  -- A HANDSHAKE, or DATA, that is taken or refused.
  pub ruled-handshake : (a : ℕ) (h : Options) {out : Out World} → out ≡ beside w.rooms (handshake_taken w.channels id s a h)
      → settled out ≡ ruled_by w clock id s (HandshakeAlone a h)
  unfolding by_layout
  ruled-handshake a h e = ap settled e

  pub ruled-data : (c x b n k : ℕ) {es : List ℕ} → es ≡ (layout_in w.channels.state s).entries → {out : Out World}
      → out ≡ data_taken w clock s es c x b n → settled out ≡ ruled_by w clock id s (MessagesAndData c x b n k)
  unfolding by_layout
  ruled-data c x b n k f e = ap settled (e ∙ ap (λ (y : List ℕ). data_taken w clock s y c x b n) f)

  -- Plain messages alone.
  pub ruled-plain : {F : Format} → F ≡ order_format w.channels.state → (f : Front) → Fronted F s f → f.at ≡ length s
      → left w f.survey ≡ ruled_by w clock id s (layout_in w.channels.state s).layout
  ruled-plain {F} fe f q h =
      ap (left w) (sym (front-survey F s f q h) ∙ ap (λ (G : Format). survey_all G s) fe)
      ∙ ap (λ (c : Checked). ruled_by w clock id s c.layout) (sym (front-layout F s f q h) ∙ ap (λ (G : Format). layout_of G s) fe)

  -- A ruling that is settled is the call's outcome.
  pub ruled-done : (l : Layout) {out : Out World} → settled out ≡ ruled_by w clock id s l → out ≡ by_layout w clock id s l
  ruled-done (Fault n) e = ap (λ (r : Ruled). r.out) e
  ruled-done (HandshakeAlone a o) e = ap (λ (r : Ruled). r.out) e
  ruled-done (Messages k) e = absurd (true≢false (sym (ap (λ (r : Ruled). r.alone) e)))
  ruled-done (MessagesAndData c x b n k) e = ap (λ (r : Ruled). r.out) e

  -- One that leaves messages: nothing is done yet, and their survey is told.
  pub ruled-left : (l : Layout) {v : Survey} {after : World} → left after v ≡ ruled_by w clock id s l
      → (after ≡ w) × (v ≡ survey_all (order_format w.channels.state) s)
      × (by_layout w clock id s l ≡ beside w.rooms (messages_taken w.channels s))
  unfolding by_layout
  ruled-left (Fault n) e = absurd (true≢false (ap (λ (r : Ruled). r.alone) e))
  ruled-left (HandshakeAlone a o) e = absurd (true≢false (ap (λ (r : Ruled). r.alone) e))
  ruled-left (Messages k) e = (ap (λ (r : Ruled). r.out.after) e, ap (λ (r : Ruled). r.survey) e, refl)
  ruled-left (MessagesAndData c x b n k) e = absurd (true≢false (ap (λ (r : Ruled). r.alone) e))

  -- They are taken from where nothing is done yet.
  pub left_taken : {after : World} → after ≡ w → (l : Layout) → by_layout w clock id s l ≡ beside w.rooms (messages_taken w.channels s)
      → {out : Out World} → out ≡ beside after.rooms (messages_taken after.channels s) → out ≡ by_layout w clock id s l
  left_taken e l f g = g ∙ ap (λ (x : World). beside x.rooms (messages_taken x.channels s)) e ∙ sym f
