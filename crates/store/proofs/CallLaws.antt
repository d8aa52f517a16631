-- The calls on the rooms, return by return as the code has them. Assumes nothing.
use mathlib.Core.Path.{◌≡◌, refl, sym, ap, ap₂, ◌∙◌}
use mathlib.Core.Logic.{◌≢◌}
use mathlib.Core.Bool.{Bool, true, false, not}
use mathlib.Core.List.{List, []}
use Prim.Native.Nat.{ℕ, zero, suc, ◌+◌, ◌*◌, ◌≤◌, ◌<◌}
use native.Mathlib.Omega.{arith}
use borrow.Author.Tests.{eqb-true}
use lib.Dec.{eqb}
use lib.ListN.{length}
use Rattle.base.specs.Pick.{pick}
use Rattle.bits.proofs.Promise.{set_bit}
use Rattle.hash.proofs.Promise.{sha256}
use Rattle.tree.specs.Pack.{chunk_size, max_length, leaf_places, root_node}
use Rattle.tree.specs.Verdicts.{number, named, peaks_trusted, reached, refusal_of}
use Rattle.tree.specs.Verdicts as theory
use Rattle.tree.specs.Verdicts.{Verdict}
use Rattle.std.specs.Prelude.{Result, Ok, Err, IsErrAnd}
use Rattle.tree.specs.declared.verdict.Fault.{Fault}
use Rattle.tree.proofs.NamedLaws.{refusal-number, refusal-node}
use Rattle.verdict.specs.Room.{filler, put_hash}
use Rattle.verdict.specs.Integrity.{Integrity, came_from}
use Rattle.verdict.specs.Rooms.{Rooms, rooms_of, count_of, state_of}
use Rattle.verdict.specs.Steps.{room_reached, room_verdict}
use Rattle.store.specs.Storing.{store_spec}
use Rattle.store.specs.Building.{clear_row, start_rooms, build_rooms}
use Rattle.store.specs.Answers.{earlier, length_answer, content_answer, room_answer, order_answer, chunk_answer}
use Rattle.store.specs.Calls.{rooms_answer, start_spec, build_answer, build_spec, take_spec}
use Rattle.store.specs.Steps.{found_root, given_root, store_if_fits}
use Rattle.base.proofs.OutLaws.{at-not, at_done, at_zero, at-unaltered, unless-done, unless-zero, done-unaltered, unless-unaltered, refusal_number}
use Rattle.base.specs.Out.{out_by, Out, out_at, out_of, unless_at, unless}
use Rattle.base.specs.Out.{Named}
use Rattle.base.specs.Refusal as refusal
use Rattle.base.specs.declared.Refusal.{Refusal}
use Rattle.std.specs.Prelude.{None}
use Rattle.store.proofs.AnswerLaws.{both_zero, length_facts, room_facts, chunk_facts}
use Rattle.tree.proofs.ChunkLaws.{chunk_inside}
use Rattle.verdict.proofs.VerdictLaws.{fits_reached, verdict_sees}

-- ---- what a call's number says of the rooms

module _ (n : ℕ) (w x : Rooms) where
  pub unless-same : (unless n w (out_of 0 0 x)).answer ≢ 0 → (unless n w (out_of 0 0 x)).after ≡ w
  unless-same d = (unless-unaltered n w (out_of 0 0 x) (done-unaltered w x 0) d).1

  pub unless-new : (unless n w (out_of 0 0 x)).answer ≡ 0 → (n ≡ 0) × ((unless n w (out_of 0 0 x)).after ≡ x)
  unless-new e = let z = (unless-zero n w (out_of 0 0 x) e).0 in (z, rw z)

  -- No node is named.
  pub unless-nameless : (unless n w (out_of 0 0 x)).node ≡ None
  unless-nameless = go n
    where
      go : (m : ℕ) → (unless m w (out_of 0 0 x)).node ≡ None
      go zero = refl
      go (suc m) = refl

-- with a second number, which may name a node
module _ (m n : ℕ) (b : Named) (w x : Rooms) where
  abbrev twice : Out Rooms
  twice = unless m w (unless_at n b w (out_of 0 0 x))

  pub twice_same : twice.answer ≢ 0 → twice.after ≡ w
  twice_same d =
      (unless-unaltered m w (unless_at n b w (out_of 0 0 x)) (at-unaltered b n w (out_of 0 0 x) (done-unaltered w x 0)) d).1

  pub twice-new : twice.answer ≡ 0 → (m ≡ 0) × (n ≡ 0) × (twice.after ≡ x)
  twice-new e =
      let p = unless-zero m w (unless_at n b w (out_of 0 0 x)) e in
      let q = (at_zero b n w (out_of 0 0 x) p.1).0 in
      (p.0, q, rw (p.0, q))

-- ---- starting

pub start-done : (w : Rooms) (r : List ℕ) (L n : ℕ) {m h t : List ℕ} → 0 ≡ rooms_answer L w → n ≡ count_of L
    → rooms_of [] m h t ≡ start_rooms (rooms_of [] w.map w.hashes w.trusted) n r → out_of 0 0 (rooms_of w.bytes m h t) ≡ start_spec w r L
unfolding start_spec start_rooms
start-done w r L n {m} {h} {t} z ne e =
    ap (out_of 0 0) (whole (ap (λ (x : Rooms). x.map) e) (ap (λ (x : Rooms). x.hashes) e) (ap (λ (x : Rooms). x.trusted) e))
    ∙ ap (λ (x : ℕ). out_of 0 0 (start_rooms w x r)) ne
    ∙ unless-done (rooms_answer L w) w (out_of 0 0 (start_rooms w (count_of L) r)) (sym z)
  where
    whole : m ≡ clear_row w.map n → h ≡ put_hash w.hashes (root_node n) r → t ≡ set_bit (clear_row w.trusted (2 * leaf_places n)) (root_node n)
        → rooms_of w.bytes m h t ≡ start_rooms w n r
    whole p q s = cc

pub start-nameless : (w : Rooms) (r : List ℕ) (L : ℕ) → (start_spec w r L).node ≡ None
unfolding start_spec
start-nameless w r L = unless-nameless (rooms_answer L w) w (start_rooms w (count_of L) r)

-- ---- building

pub build-nameless : (w : Rooms) (L : ℕ) (s : List ℕ) → (build_spec w L s).node ≡ None
unfolding build_spec
build-nameless w L s =
    unless-nameless (build_answer L (length s) (length w.bytes) (length w.map) (length w.hashes) (length w.trusted)) w (build_rooms w (count_of (length s)) s)

-- A refused building gives the filler.
pub given_filler : {A : Type 0} (root : A → List ℕ) (e : Refusal) (r : List ℕ) → given_root root (Err e) ≡ found_root (refusal.number e) r
given_filler root e r = go (refusal.number e) (refusal_number e)
  where
    go : (n : ℕ) → n ≢ 0 → filler ≡ found_root n r
    go zero d = absurd (d refl)
    go (suc n) d = refl

pub content_long : (L n : ℕ) → content_answer L n ≡ 0 → n ≡ L
content_long L n e = go (eqb n L) refl e
  where
    go : (b : Bool) → eqb n L ≡ b → pick {A = ℕ} (not b) 12 0 ≡ 0 → n ≡ L
    go true q e = eqb-true n L q
    go false q e = absurd (omega arith)

-- not refused: the content has the order's length, and the rooms are large enough
pub build-facts : (w : Rooms) (L n : ℕ) (s : List ℕ)
    → 0 ≡ build_answer L (length s) (length w.bytes) (length w.map) (length w.hashes) (length w.trusted) → n ≡ count_of L
    → (n ≡ count_of (length s)) × (16 * leaf_places n ≤ length w.hashes) × (length s ≤ length w.bytes)
unfolding build_answer
build-facts w L n s z ne =
    let p = both_zero (earlier (length_answer L) (content_answer L (length s))) (room_answer L (length w.bytes) (length w.map) (length w.hashes) (length w.trusted)) (sym z) in
    let q = both_zero (length_answer L) (content_answer L (length s)) p.0 in
    let e = content_long L (length s) q.1 in
    let f = room_facts L (length w.bytes) (length w.map) (length w.hashes) (length w.trusted) p.1 in
    (ne ∙ ap count_of (sym e), rw ne f.2, omega (arith, e, f.0))

-- ---- taking

-- the height reached is found in the row of trusted nodes alone
reached_in : (w : Rooms) (L N c : ℕ) → room_reached N w.trusted c ≡ reached N (state_of L w) c
unfolding room_reached reached peaks_trusted
reached_in w L N c = refl

-- a chunk that fits does so below the node reached
pub fits-at : (w : Rooms) (r : List ℕ) (L N c : ℕ) (d : List ℕ) (o : Integrity) (t : ℕ) → room_verdict N r w.hashes w.trusted c d o ≡ Ok t → t ≡ reached N (state_of L w) c
fits-at w r L N c d o t e = fits_reached N r w.hashes w.trusted c d o t e ∙ reached_in w L N c

module _ (w : Rooms) (r : List ℕ) (N c : ℕ) (d : List ℕ) (o : Integrity) (v : Verdict) (vo : v ≡ room_verdict N r w.hashes w.trusted c d o) where
  pub if-fits : (t : ℕ) (w' : Rooms) → v ≡ Ok t → w' ≡ store_spec w N c t d o → out_of 0 0 w' ≡ store_if_fits w r N c d o
  unfolding store_if_fits
  if-fits t w' e f =
      ap (out_of 0 0) (f ∙ ap (λ (h : ℕ). store_spec w N c h d o) (fits-at w r 0 N c d o t (sym vo ∙ e)))
      ∙ at_done _ _ w _ (ap number (sym vo ∙ e))

  -- What the verdict says, as the refusal that the code gives.
  pub if-refused : (e : Refusal) → number v ≡ refusal.number e → named v ≡ refusal.node e
      → out_at (refusal.number e) 0 (refusal.node e) w ≡ store_if_fits w r N c d o
  unfolding store_if_fits
  if-refused e p q =
      ap₂ (λ (x : ℕ) (y : Named). out_at x 0 y w) (sym p ∙ ap number vo) (sym q ∙ ap named vo)
      ∙ at-not _ _ w _ (λ z. refusal_number e (sym p ∙ ap number vo ∙ z))

  pub if-faulty : (f : Fault) (x : Result (Unit {0}) Refusal) → v ≡ Err f → IsErrAnd x (λ e. e ≡ refusal_of f) → out_by x 0 w ≡ store_if_fits w r N c d o
  if-faulty f (Ok y) p q = absurd q
  if-faulty f (Err e) p q =
      if-refused e (ap number p ∙ refusal-number f ∙ ap refusal.number (sym q)) (ap named p ∙ refusal-node f ∙ ap refusal.node (sym q))

module _ (w : Rooms) (r : List ℕ) (L c : ℕ) (d : List ℕ) (o : Integrity) (z : 0 ≡ earlier (rooms_answer L w) (chunk_answer L c (length d))) where
  -- What follows the tests before the verdict.
  pub take-judged : (n : ℕ) {x : Out Rooms} → n ≡ count_of L → x ≡ store_if_fits w r n c d o → x ≡ take_spec w r L c d o
  unfolding take_spec store_if_fits
  take-judged n ne e =
      e ∙ ap (λ (y : ℕ). store_if_fits w r y c d o) ne
      ∙ ap (λ (v : Verdict). unless_at (number v) (named v) w (out_of 0 0 (store_spec w (count_of L) c (reached (count_of L) (state_of 0 w) c) d o)))
      (verdict_sees (count_of L) r w.hashes w.trusted c d o L w.bytes w.map)
      ∙ ap (λ (h : ℕ). unless_at (number seen) (named seen) w (out_of 0 0 (store_spec w (count_of L) c h d o)))
      (sym (reached_in w 0 (count_of L) c) ∙ reached_in w L (count_of L) c)
      ∙ unless-done (earlier (rooms_answer L w) (chunk_answer L c (length d))) w _ (sym z)
    where
      seen : Verdict
      seen = theory.verdict sha256 filler (count_of L) r (state_of L w) c d (came_from o)

  -- The chunk is one of a pack within the limit, and has its place in the room.
  pub take-facts : (n : ℕ) → n ≡ count_of L → (c < n) × (n ≤ count_of max_length) × (chunk_size * c + length d ≤ length w.bytes)
  unfolding order_answer
  take-facts n ne =
      let p = both_zero (rooms_answer L w) (chunk_answer L c (length d)) (sym z) in
      let q = both_zero (length_answer L) (room_answer L (length w.bytes) (length w.map) (length w.hashes) (length w.trusted)) p.0 in
      let f = room_facts L (length w.bytes) (length w.map) (length w.hashes) (length w.trusted) q.1 in
      let g = chunk_facts L c (length d) p.1 in
      let l = length_facts L q.0 in
      (omega (arith, ne, g.0), omega (arith, ne, l.1), omega (arith, f.0, g.1, chunk_inside chunk_size L (omega arith) c g.0))
