-- Starting and building, return by return as the code has them. Assumes nothing.
use Rattle.std.proofs.Common.{◌≡◌, ℕ, List, length, refl, sym, ap, ◌∙◌, ap₂}
use Rattle.std.specs.Prelude.{Result, Ok, Err, IsOk}
use Rattle.base.specs.Out.{answer_of, out_by}
use Rattle.base.specs.declared.Refusal.{Refusal}
use Rattle.hash.proofs.Promise.{bytes_of, words, Words, words-bytes}
use Rattle.hash.specs.declared.value.HashValue.{HashValue}
use Rattle.bits.proofs.Promise.{clear_words}
use Rattle.table.proofs.Promise.{fresh_words}
use Rattle.store.proofs.Promise.{Rooms, earlier, count_of, root_of, rooms_answer, build_answer, both_zero, start-zero, build-zero}
use Rattle.store.proofs.Promise as store
use Rattle.order.specs.declared.Order.{Order}
use Rattle.channel.specs.World.{World, Channels, channels_of, Out, out_of}
use Rattle.channel.specs.Answers.{peer_words, method_answer}
use Rattle.channel.specs.Sizes.{sizes_of, all_answer, built_answer}
use Rattle.channel.specs.declared.rooms.Sizes.{Sizes}
use Rattle.channel.specs.Starting.{fresh_channels, order_of, start_spec, build_number, build_spec, start_number}
use Rattle.base.proofs.OutLaws.{unless-done, refusal_number}

-- What a store begins with: its chunk rooms, every row free, and both rooms for peers cleared.
begun : (ch : Channels) (o : Order) {st : List ℕ} {rooms rooms' : Rooms} {has wants : List ℕ} → st ≡ fresh_words ch.state o → rooms ≡ rooms'
    → has ≡ clear_words ch.has 0 (peer_words (count_of o.length))
    → wants ≡ clear_words ch.wants 0 (peer_words (count_of o.length))
    → ◌≡◌ {A = World} (record { rooms = rooms; channels = channels_of st has wants ch.reply }) (record { rooms = rooms'; channels = fresh_channels o ch })
unfolding fresh_channels
begun ch o se re he we = cc

-- A call with the number 0 is done.
answered_ok : {A : Type 0} (r : Result A Refusal) → answer_of r ≡ 0 → IsOk r
answered_ok (Ok x) e = refl
answered_ok (Err e) z = absurd (refusal_number e z)

-- ---- starting

-- Neither 12 nor 11.
pub start_passed : (w : World) (o : Order) {s : Sizes} → 0 ≡ method_answer o.method → s ≡ sizes_of w → 0 ≡ all_answer o.length s
    → start_number w o ≡ 0
start_passed w o m e z = rw (← m) (sym (rw e at z))

-- The store starts then.
pub start-begun : {A : Type 0} (r : Result A Refusal) {rooms : Rooms} (w : Rooms) (x : List ℕ) (L n : ℕ) → out_by r 0 rooms ≡ store.start_spec w x L
    → 0 ≡ earlier (rooms_answer L w) n → IsOk r
start-begun r w x L n e z =
    answered_ok r (ap (λ (y : Out Rooms). y.answer) e ∙ start-zero w x L (both_zero (rooms_answer L w) n (sym z)).0)

-- One that is not refused: the store's rooms as its start leaves them, the rooms for peers cleared.
pub start-done : (w : World) (o : Order) → start_number w o ≡ 0 → {A : Type 0} (r : Result A Refusal) {st : List ℕ} {rooms : Rooms} {has wants : List ℕ}
    → out_by r 0 rooms ≡ store.start_spec w.rooms (bytes_of o.root.words) o.length
    → has ≡ clear_words w.channels.has 0 (peer_words (count_of o.length))
    → wants ≡ clear_words w.channels.wants 0 (peer_words (count_of o.length))
    → st ≡ fresh_words w.channels.state o
    → out_of 0 0 (record { rooms = rooms; channels = channels_of st has wants w.channels.reply }) ≡ start_spec w o
unfolding start_spec
start-done w o z r e he we se =
    ap (out_of 0 0) (begun w.channels o se (ap (λ (x : Out Rooms). x.after) e) he we)
    ∙ unless-done (start_number w o) w _ z

-- ---- building

pub build_passed : (w : World) (o : Order) (s : List ℕ) {x : Sizes} → 0 ≡ method_answer o.method → x ≡ sizes_of w
    → 0 ≡ built_answer o.length (length s) x → build_number w o s ≡ 0
build_passed w o s m e z = rw (← m) (sym (rw e at z))

pub build-begun : {A : Type 0} (r : Result A Refusal) {rooms : Rooms} (w : Rooms) (L : ℕ) (s : List ℕ) (n : ℕ) → out_by r 0 rooms ≡ store.build_spec w L s
    → 0 ≡ earlier (build_answer L (length s) (length w.bytes) (length w.map) (length w.hashes) (length w.trusted)) n → IsOk r
build-begun r w L s n e z =
    answered_ok r (ap (λ (x : Out Rooms). x.answer) e
    ∙ build-zero w L s (both_zero (build_answer L (length s) (length w.bytes) (length w.map) (length w.hashes) (length w.trusted)) n (sym z)).0)

-- The words found are those of the root's bytes.
found_words : (u r : List ℕ) → length u ≡ 8 → Words u → bytes_of u ≡ r → u ≡ words 8 r
found_words u r l f e = sym (words-bytes u f) ∙ ap₂ words l e

-- One that is not refused: the store's rooms as its building leaves them, the rooms for peers cleared, the root found in the order.
pub build-done : (w : World) (o : Order) (s : List ℕ) → build_number w o s ≡ 0 → {A : Type 0} (q : Result A Refusal) {st : List ℕ} {rooms : Rooms} {has wants : List ℕ}
    (v : HashValue) → out_by q 0 rooms ≡ store.build_spec w.rooms o.length s → bytes_of v.words ≡ root_of s
    → length v.words ≡ 8 → Words v.words
    → has ≡ clear_words w.channels.has 0 (peer_words (count_of o.length))
    → wants ≡ clear_words w.channels.wants 0 (peer_words (count_of o.length))
    → st ≡ fresh_words w.channels.state (record { root = v; length = o.length; method = o.method })
    → out_of 0 0 (record { rooms = rooms; channels = channels_of st has wants w.channels.reply }) ≡ build_spec w o s
unfolding build_spec
build-done w o s z q v e b l f he we se =
    let r : v.words ≡ words 8 (root_of s) = found_words v.words (root_of s) l f b in
    ap (out_of 0 0) (begun w.channels (order_of (root_of s) o.length o.method) (se ∙ ap (λ (u : List ℕ). fresh_words w.channels.state (record { root = record { words = u }; length = o.length; method = o.method })) r) (ap (λ (x : Out Rooms). x.after) e) he we)
    ∙ unless-done (build_number w o s) w _ z
