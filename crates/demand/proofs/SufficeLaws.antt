-- Rooms that suffice for a start or a building suffice for every call of a list. Assumes nothing.
use Prim.Native.Nat.{ℕ, ◌≤◌}
use native.Mathlib.Omega.{arith}
use mathlib.Core.Path.{◌≡◌, refl}
use mathlib.Core.Logic.{◌≢◌}
use mathlib.Core.Bool.{false}
use mathlib.Core.List.{List, [], ◌∷◌}
use borrow.Author.Tests.{le-ltb}
use lib.ListN.{length}
use Rattle.base.specs.Among.{among, OneOf}
use Rattle.base.proofs.AmongLaws.{not_one}
use Rattle.table.proofs.Promise.{state_words}
use Rattle.wire.proofs.Promise.{max_size}
use Rattle.channel.specs.World.{World}
use Rattle.channel.specs.Answers.{own_rooms_answer}
use Rattle.demand.specs.Run.{Call, opening, taking, writing, asking, lend, out, run, ReplyFits, FreshOrBuilt}
use Rattle.demand.specs.Demand.{length_in}
use Rattle.channel.proofs.ShorterLaws.{rooms_suffice}
use Rattle.channel.proofs.NumberLaws.{open-enough, take-enough, write-enough}
use Rattle.demand.proofs.DemandLaws.{Ready, fresh_or_built_ready, end-ready, demand_3}

-- Neither 12 nor 11, with a reply room of the least size.
suffices : (w : World) → Ready w → (reply : List ℕ) → max_size ≤ length reply → own_rooms_answer (lend w reply) ≡ 0
suffices w ready reply big =
    rw (
      le-ltb (length w.channels.state) state_words ready.room,
      rooms_suffice (length_in w) (lend w reply) ready.limit (record {
        chunk-rooms = ready.under.running.enough;
        state = ready.room;
        has = ready.has_in;
        wants = ready.wants_in;
        reply = big;
      }),
    )

neither : (ms : List ℕ) (n : ℕ) → among ms 11 ≡ false → among ms 12 ≡ false → OneOf ms n → (n ≢ 11) × (n ≢ 12)
neither ms n p q h = (not_one ms n 11 p h, not_one ms n 12 q h)

call_suffices : (w : World) → Ready w → (out w asking).answer ≡ 0 → (k : Call) → ReplyFits k → ((out w k).answer ≢ 11) × ((out w k).answer ≢ 12)
unfolding among
call_suffices w ready asked (opening reply id) big = neither (0 ∷ 6 ∷ 14 ∷ []) _ refl refl (open-enough (lend w reply) (suffices w ready reply big) id)
call_suffices w ready asked (taking reply clock id s) big =
    neither (0 ∷ 1 ∷ 2 ∷ 3 ∷ 4 ∷ 5 ∷ 6 ∷ 7 ∷ 8 ∷ 9 ∷ 10 ∷ 14 ∷ []) _ refl refl (take-enough (lend w reply) (suffices w ready reply big) clock id s)
call_suffices w ready asked (writing reply id c clock) big =
    neither (0 ∷ 3 ∷ 7 ∷ 13 ∷ []) _ refl refl (write-enough (lend w reply) (suffices w ready reply big) id c clock)
call_suffices w ready asked asking big = (λ e. omega (arith, asked, e), λ e. omega (arith, asked, e))

pub never_short : (w : World) (ks : List Call) (k : Call) → FreshOrBuilt w → ReplyFits k → ((out (run w ks) k).answer ≢ 11) × ((out (run w ks) k).answer ≢ 12)
never_short w ks k b big = call_suffices (run w ks) (end-ready w ks (fresh_or_built_ready w b)) (demand_3 w ks b).answered k big
