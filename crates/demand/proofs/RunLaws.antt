-- A list of calls on a running store: what the map and the chunk bytes are afterwards. Assumes nothing.
use Prim.Native.Nat.{ℕ, ◌<◌}
use mathlib.Core.Path.{◌≡◌, refl, sym, ap, ◌∙◌}
use mathlib.Core.Bool.{Bool, true, false}
use mathlib.Core.List.{List, [], ◌∷◌}
use mathlib.Core.Option.{Option, none, some}
use borrow.Author.Tests.{eqb-true}
use lib.Dec.{eqb}
use Rattle.bits.proofs.Promise.{bit_at}
use Rattle.table.proofs.Promise.{order_in}
use Rattle.base.specs.Pick.{pick}
use Rattle.store.proofs.Promise.{Rooms, Integrity, count_of, chunk_in, Running, take_spec, taken-running, taken-map, taken-bytes}
use Rattle.channel.specs.World.{World, order_root, order_length}
use Rattle.demand.specs.Run.{Call, step, run, brings, or_next, first_brought, was_brought, brought_bytes}
use Rattle.demand.proofs.StepLaws.{Kept, kept_by, step_keeps, Moved, stays, takes, step-moved}

-- What no call of a list changes: the order, and how long the rooms are.
pub run-keeps : (w : World) (ks : List Call) → kept_by (run w ks) ≡ kept_by w
run-keeps w [] = refl
run-keeps w (k ∷ ks) = run-keeps (step w k) ks ∙ step_keeps w k

-- The order after one call.
step-order : (w : World) (k : Call) → order_in (step w k).channels.state ≡ order_in w.channels.state
step-order w k = ap (λ (x : Kept). x.order) (step_keeps w k)

-- A running store under root r and length L.
pub record Under (L : ℕ) (r : List ℕ) (w : World) : Type 0 where
  pub long : order_length w.channels.state ≡ L
  pub root : order_root w.channels.state ≡ r
  pub running : Running L r w.rooms

module _ (L : ℕ) (r : List ℕ) where
  -- What a call does, under the order.
  data Shift (w : World) (after : Rooms) (brought : ℕ → Option (List ℕ)) : Type 0 where
    still : after ≡ w.rooms → ((x : ℕ) → brought x ≡ none) → Shift w after brought
    adds : (c : ℕ) (d : List ℕ) (o : Integrity) → (take_spec w.rooms r L c d o).answer ≡ 0 → after ≡ (take_spec w.rooms r L c d o).after
        → ((x : ℕ) → brought x ≡ pick (eqb x c) (some d) none) → Shift w after brought

  shift : (w : World) → Under L r w → {after : Rooms} {brought : ℕ → Option (List ℕ)} → Moved w after brought → Shift w after brought
  shift w u (stays e n) = still e n
  shift w u (takes c d o z e n) = adds c d o (rw (u.root, u.long) at z) (rw (u.root, u.long) at e) n

  -- A call leaves a running store running.
  pub step-under : (w : World) → Under L r w → (k : Call) → Under L r (step w k)
  step-under w u k = record {
    long = ap (λ o. o.length) (step-order w k) ∙ u.long;
    root = rw (step-order w k) u.root;
    running = go (shift w u (step-moved w k));
  }
    where
      go : Shift w (step w k).rooms (brings w k) → Running L r (step w k).rooms
      go (still e n) = rw e u.running
      go (adds c d o z e n) = rw e (taken-running w.rooms r L c d o u.running)

  -- So does a list.
  pub run-under : (ks : List Call) (w : World) → Under L r w → Under L r (run w ks)
  run-under [] w u = u
  run-under (k ∷ ks) w u = run-under ks (step w k) (step-under w u k)

  module _ (x : ℕ) (inside : x < count_of L) where
    -- The map: what it had, and what was brought.
    pub run-map : (ks : List Call) (w : World) → Under L r w
        → bit_at (run w ks).rooms.map x ≡ pick (bit_at w.rooms.map x) true (was_brought (first_brought w ks x))
    run-map [] w u = go (bit_at w.rooms.map x)
      where
        go : (b : Bool) → b ≡ pick b true false
        go true = refl
        go false = refl
    run-map (k ∷ ks) w u = run-map ks (step w k) (step-under w u k) ∙ go (shift w u (step-moved w k))
      where
        later : Option (List ℕ)
        later = first_brought (step w k) ks x

        by : (c : ℕ) (d : List ℕ) (t b : Bool) → pick (pick t true b) true (was_brought later) ≡ pick b true (was_brought (or_next (pick t (some d) none) later))
        by c d true true = refl
        by c d true false = refl
        by c d false b = refl

        go : Shift w (step w k).rooms (brings w k)
            → pick (bit_at (step w k).rooms.map x) true (was_brought later) ≡ pick (bit_at w.rooms.map x) true (was_brought (or_next (brings w k x) later))
        go (still e n) = rw (e, n x)
        go (adds c d o z e n) = rw (e, n x, taken-map w.rooms r L c d o z x inside) (by c d (eqb x c) (bit_at w.rooms.map x))

    -- The bytes: those it had, or the first that were brought.
    pub run-bytes : (ks : List Call) (w : World) → Under L r w → bit_at (run w ks).rooms.map x ≡ true
        → chunk_in L (run w ks).rooms.bytes x ≡ pick (bit_at w.rooms.map x) (chunk_in L w.rooms.bytes x) (brought_bytes (first_brought w ks x))
    run-bytes [] w u h = rw h
    run-bytes (k ∷ ks) w u h = run-bytes ks (step w k) (step-under w u k) h ∙ go (shift w u (step-moved w k))
      where
        later : Option (List ℕ)
        later = first_brought (step w k) ks x

        by : (c : ℕ) (d p : List ℕ) (t b m : Bool) → (t ≡ true → m ≡ b)
            → pick (pick t true b) (pick m p (pick t d p)) (brought_bytes later) ≡ pick b p (brought_bytes (or_next (pick t (some d) none) later))
        by c d p true true m q = rw (q refl)
        by c d p true false m q = rw (q refl)
        by c d p false true true q = refl
        by c d p false true false q = refl
        by c d p false false m q = refl

        go : Shift w (step w k).rooms (brings w k)
            → pick (bit_at (step w k).rooms.map x) (chunk_in L (step w k).rooms.bytes x) (brought_bytes later)
            ≡ pick (bit_at w.rooms.map x) (chunk_in L w.rooms.bytes x) (brought_bytes (or_next (brings w k x) later))
        go (still e n) = rw (e, n x)
        go (adds c d o z e n) =
            rw (e, n x, taken-map w.rooms r L c d o z x inside, taken-bytes w.rooms r L c d o z x inside)
            (by c d (chunk_in L w.rooms.bytes x) (eqb x c) (bit_at w.rooms.map x) (bit_at w.rooms.map c) (λ q. ap (bit_at w.rooms.map) (sym (eqb-true x c q))))
