-- Demand 3, proved of every list of calls on a fresh or built store. Assumes nothing.
use Prim.Native.Nat.{ℕ, ◌≤◌, ◌<◌}
use native.Mathlib.Omega.{arith}
use mathlib.Core.Path.{◌≡◌, refl, sym, ap, subst, ◌∙◌}
use mathlib.Core.Bool.{true, false}
use mathlib.Core.List.{List}
use borrow.Author.Tests.{le-ltb, eq-eqb, eqb-true}
use lib.Dec.{eqb}
use lib.ListN.{length}
use lib.Seq.{take_all}
use Rattle.tree.proofs.Promise.{root_node}
use Rattle.bits.proofs.Promise.{bit_at, count_bits, row_words, length-clear_words, count_full, full_count}
use Rattle.hash.proofs.Promise.{bytes_of, words, words-length, bytes-words}
use Rattle.held.proofs.Promise.{held-counted}
use Rattle.store.proofs.Promise.{Rooms, count_of, Digest, Running, Whole, Alike, length_answer, rooms_answer, build_answer, root_of, both_zero, order_accepted, build_accepted, root-words, start-zero, started-running, started_empty, build-zero, built-running, built-whole, content_root, running-root, running-hangs, whole-alike}
use Rattle.order.specs.declared.Order.{Order}
use Rattle.channel.specs.World.{Channels, World, order_length, chunk_count}
use Rattle.channel.specs.Answers.{peer_words, channels_answer, all_rooms_answer, method_answer}
use Rattle.channel.specs.Starting.{order_of, fresh_channels, start_spec, build_number, build_spec, start_number}
use Rattle.channel.specs.Ask.{Asked, asked_of, ask_spec}
use Rattle.demand.specs.Run.{Call, run, FreshOrBuilt, fresh, built}
use Rattle.demand.specs.Demand.{root_in, length_in, chunks_in, ask, BothWhole, Demand}
use Rattle.table.proofs.Promise.{state_words, order_in, fresh-order, fresh-length}
use Rattle.channel.proofs.AcceptLaws.{channel_rooms_accepted, method_accepted}
use Rattle.base.proofs.OutLaws.{unless-zero}
use Rattle.demand.proofs.RunLaws.{Under, run-keeps, run-under, run-map, run-bytes}
use Rattle.demand.proofs.StepLaws.{Kept}

-- A store under its own order, whose length is within the limit, with rooms for its state and for its peers.
pub record Ready (w : World) : Type 0 where
  pub room : state_words ≤ length w.channels.state
  pub has_in : peer_words (chunks_in w) ≤ length w.channels.has
  pub wants_in : peer_words (chunks_in w) ≤ length w.channels.wants
  pub limit : length_answer (length_in w) ≡ 0
  pub under : Under (length_in w) (root_in w) w

-- ---- a fresh or built store

-- What stays of a store under the order o is ready for the order in its words.
ready_of : (w : World) (o : Order) → order_in w.channels.state ≡ o → state_words ≤ length w.channels.state
    → peer_words (count_of o.length) ≤ length w.channels.has → peer_words (count_of o.length) ≤ length w.channels.wants
    → length_answer o.length ≡ 0 → Running o.length (bytes_of o.root.words) w.rooms → Ready w
ready_of w o e room h s l r =
    let back : (P : Order → Type 0) → P o → P (order_in w.channels.state) = λ P p. subst P (sym e) p in
    record {
      room = room;
      has_in = back (λ x. peer_words (count_of x.length) ≤ length w.channels.has) h;
      wants_in = back (λ x. peer_words (count_of x.length) ≤ length w.channels.wants) s;
      limit = back (λ x. length_answer x.length ≡ 0) l;
      under = record {
        long = refl;
        root = refl;
        running = back (λ x. Running x.length (bytes_of x.root.words) w.rooms) r;
      };
    }

-- A running store with channels under a new order.
begun_ready : (rooms : Rooms) (ch : Channels) (root : List ℕ) (L method : ℕ) → method_answer method ≡ 0 → length_answer L ≡ 0 → channels_answer L ch ≡ 0
    → Running L (bytes_of (words 8 root)) rooms → Ready (record { rooms = rooms; channels = fresh_channels (order_of root L method) ch })
unfolding fresh_channels
begun_ready rooms ch root L method q l z r =
    let o = order_of root L method in
    let m = channel_rooms_accepted L (length ch.state) (length ch.has) (length ch.wants) (length ch.reply) z in
    ready_of _ o (fresh-order ch.state o m.0 (words-length 8 root) (method_accepted method q)) (rw (fresh-length ch.state o) m.0)
    (rw (length-clear_words ch.has 0 (peer_words (count_of L))) m.1) (rw (length-clear_words ch.wants 0 (peer_words (count_of L))) m.2) l r

-- What a start that nothing refuses leaves.
fresh_ready : (w : World) (root : List ℕ) (L method : ℕ) → (start_spec w (order_of root L method)).answer ≡ 0 → Ready (start_spec w (order_of root L method)).after
unfolding start_spec
fresh_ready w root L method e =
    let r = bytes_of (words 8 root) in
    let z = (unless-zero (start_number w (order_of root L method)) w _ e).0 in
    let m = both_zero (method_answer method) (all_rooms_answer L w) z in
    let p = both_zero (rooms_answer L w.rooms) (channels_answer L w.channels) m.1 in
    let g = started-running w.rooms r L (root-words (words 8 root) (words-length 8 root)) (start-zero w.rooms r L p.0) in
    rw z (begun_ready _ w.channels root L method m.0 (order_accepted L _ _ _ _ p.0).0 p.1 g)

-- The words of a content's root stand for it.
root-back : (s : List ℕ) → bytes_of (words 8 (root_of s)) ≡ root_of s
unfolding Digest
root-back s =
    let d = content_root s in
    bytes-words 8 (root_of s) d.0 (omega (arith, d.1)) ∙ take_all 32 (root_of s) (omega (arith, d.1))

-- What a building that nothing refuses leaves.
built_ready : (w : World) (o : Order) (s : List ℕ) → (build_spec w o s).answer ≡ 0 → Ready (build_spec w o s).after
unfolding build_spec
built_ready w o s e =
    let L = o.length in
    let z = (unless-zero (build_number w o s) w _ e).0 in
    let m = both_zero (method_answer o.method) _ z in
    let p = both_zero (build_answer L (length s) (length w.rooms.bytes) (length w.rooms.map) (length w.rooms.hashes) (length w.rooms.trusted)) (channels_answer L w.channels) m.1 in
    let g = built-running w.rooms L s (build-zero w.rooms L s p.0) in
    rw z (begun_ready _ w.channels (root_of s) L o.method m.0 (build_accepted L _ _ _ _ _ p.0).0 p.1 (rw (root-back s) g.1))

pub fresh_or_built_ready : (w : World) → FreshOrBuilt w → Ready w
fresh_or_built_ready _ (fresh w root L method e) = fresh_ready w root L method e
fresh_or_built_ready _ (built w o s e) = built_ready w o s e

-- A fresh store has no chunk in its map,
pub fresh_empty : (w : World) (o : Order) → (start_spec w o).answer ≡ 0 → (x : ℕ) → x < count_of o.length → bit_at (start_spec w o).after.rooms.map x ≡ false
unfolding start_spec
fresh_empty w o e x l =
    let z = (unless-zero (start_number w o) w _ e).0 in
    let p = both_zero (rooms_answer o.length w.rooms) _ (both_zero (method_answer o.method) _ z).1 in
    rw z (started_empty w.rooms (bytes_of o.root.words) o.length (start-zero w.rooms (bytes_of o.root.words) o.length p.0) x l)

-- a built one all N.
pub built_full : (w : World) (o : Order) (s : List ℕ) → (build_spec w o s).answer ≡ 0 → Whole o.length (build_spec w o s).after.rooms
unfolding build_spec
built_full w o s e =
    let z = (unless-zero (build_number w o s) w _ e).0 in
    let p = both_zero _ _ (both_zero (method_answer o.method) _ z).1 in
    rw z (built-whole w.rooms o.length s (build-zero w.rooms o.length s p.0))

-- ---- asking

-- Of a store whose length is within the limit and whose map is large enough.
asked : (st : List ℕ) (map : List ℕ) → state_words ≤ length st → length_answer (order_length st) ≡ 0 → row_words (chunk_count st) ≤ length map
    → ask_spec st map ≡ asked_of 0 (count_bits map (chunk_count st)) (eqb (count_bits map (chunk_count st)) (chunk_count st))
unfolding ask_spec
asked st map room e h = rw (le-ltb (length st) state_words room) (held-counted (order_length st) map e h)

module _ (w : World) (ready : Ready w) where
  asked_here : ask w ≡ asked_of 0 (count_bits w.rooms.map (chunks_in w)) (eqb (count_bits w.rooms.map (chunks_in w)) (chunks_in w))
  asked_here = asked w.channels.state w.rooms.map ready.room ready.limit ready.under.running.enough.map_in

  -- Called whole: every chunk is in the map,
  called-whole : (ask w).whole ≡ true → Whole (length_in w) w.rooms
  unfolding Whole
  called-whole h x l =
      full_count w.rooms.map (chunks_in w) (eqb-true (count_bits w.rooms.map (chunks_in w)) (chunks_in w) (sym (ap (λ (a : Asked). a.whole) asked_here) ∙ h)) x l

  -- and the other way round.
  is-called : Whole (length_in w) w.rooms → (ask w).whole ≡ true
  unfolding Whole
  is-called h =
      ap (λ (a : Asked). a.whole) asked_here
      ∙ eq-eqb (count_bits w.rooms.map (chunks_in w)) (chunks_in w) (count_full w.rooms.map (chunks_in w) h)

-- ---- the theorem

-- Under an equal order the same holds.
running-at : {L M : ℕ} {r q : List ℕ} (g : Rooms) → L ≡ M → r ≡ q → Running L r g → Running M q g
running-at g e f h = rw (← e, ← f) h

whole-at : {L M : ℕ} (g : Rooms) → L ≡ M → Whole L g → Whole M g
whole-at g e h = rw (← e) h

module _ (w : World) (ks : List Call) (ready : Ready w) where
  end : Under (length_in w) (root_in w) (run w ks)
  end = run-under (length_in w) (root_in w) ks w ready.under

  pub end-ready : Ready (run w ks)
  end-ready =
      let e = run-keeps w ks in
      record {
        room = rw (ap (λ (x : Kept). x.state-long) e) ready.room;
        has_in = rw (ap (λ (x : Kept). x.has-long) e, end.long) ready.has_in;
        wants_in = rw (ap (λ (x : Kept). x.wants-long) e, end.long) ready.wants_in;
        limit = rw end.long ready.limit;
        under = record { long = refl; root = refl; running = rw (end.long, end.root) end.running };
      }

-- the root is trusted after every list
pub root-trusted : (w : World) (ks : List Call) → FreshOrBuilt w → bit_at (run w ks).rooms.trusted (root_node (chunks_in w)) ≡ true
root-trusted w ks b = running-root (length_in w) (root_in w) (run w ks).rooms (end w ks (fresh_or_built_ready w b)).running

pub demand_3 : (w : World) (ks : List Call) → FreshOrBuilt w → Demand w ks
demand_3 w ks b = record {
  order-stays = ap (λ (x : Kept). x.order) (run-keeps w ks);
  map_exactly = λ x l. run-map L r x l ks w u;
  first-bytes = λ x l h. rw e.long (run-bytes L r x l ks w u h);
  hangs = λ x l h. running-hangs L r (run w ks).rooms e.running x l h;
  answered = ap (λ (a : Asked). a.answer) here;
  counted = ap (λ (a : Asked). a.held) here ∙ ap (λ (n : ℕ). count_bits (run w ks).rooms.map (count_of n)) e.long;
  whole_only = λ h. rw e.long at (called-whole (run w ks) m h);
  whole_if = λ h. is-called (run w ks) m (rw e.long h);
  alike = λ v js p. both v js p;
}
  where
    L : ℕ
    L = length_in w

    r : List ℕ
    r = root_in w

    u : Under (length_in w) (root_in w) w
    u = (fresh_or_built_ready w b).under

    e : Under (length_in w) (root_in w) (run w ks)
    e = end w ks (fresh_or_built_ready w b)

    m : Ready (run w ks)
    m = end-ready w ks (fresh_or_built_ready w b)

    here : ask (run w ks) ≡ asked_of 0 (count_bits (run w ks).rooms.map (chunks_in (run w ks))) (eqb (count_bits (run w ks).rooms.map (chunks_in (run w ks))) (chunks_in (run w ks)))
    here = asked_here (run w ks) m

    both : (v : World) (js : List Call) → BothWhole w ks v js → Alike (length_in w) (run w ks).rooms (run v js).rooms
    both v js p =
        let f = end v js (fresh_or_built_ready v p.fresh_or_built) in
        whole-alike (length_in w) (root_in w) (run w ks).rooms (run v js).rooms e.running
        (running-at (run v js).rooms p.same_length p.same-root f.running)
        (whole-at (run w ks).rooms e.long (called-whole (run w ks) m p.first-whole))
        (whole-at (run v js).rooms (f.long ∙ p.same_length) (called-whole (run v js) (end-ready v js (fresh_or_built_ready v p.fresh_or_built)) p.second-whole))
