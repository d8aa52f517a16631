-- What the crates above know of this one: of its definitions the names passed on here, that no call of a list finds its rooms
-- short, that the root stays trusted, and demand 3. Assumes nothing.
use mathlib.Core.Path.{◌≡◌}
use mathlib.Core.Logic.{◌≢◌}
use mathlib.Core.Bool.{true, false}
use mathlib.Core.List.{List}
use Prim.Native.Nat.{ℕ, ◌<◌}
use Rattle.bits.proofs.Promise.{bit_at}
use Rattle.tree.proofs.Promise.{root_node}
use Rattle.store.proofs.Promise.{count_of, Whole}
use Rattle.order.specs.declared.Order.{Order}
use Rattle.channel.proofs.Promise.{World, start_spec, build_spec}
use Rattle.demand.proofs.DemandLaws as demand
use Rattle.demand.proofs.SufficeLaws as suffice
pub use Rattle.demand.specs.Run.{Call, opening, taking, writing, asking, lend, out, step, run, ReplyFits, FreshOrBuilt, fresh, built, first_brought}
pub use Rattle.demand.specs.Demand.{chunks_in, ask, BothWhole, Demand}

-- After a start or a building that answered 0, no call of a list, lent a reply room of at least the least size, is refused with
-- 11 or 12: its other rooms are the store's own, as the last call left them.
pub never_short : (w : World) (ks : List Call) (k : Call) → FreshOrBuilt w → ReplyFits k
    → ((out (run w ks) k).answer ≢ 11) × ((out (run w ks) k).answer ≢ 12)
never_short = suffice.never_short

-- ---- where a list begins: "A fresh store has no chunk in its map, a built one all N"

pub fresh_empty : (w : World) (o : Order) → (start_spec w o).answer ≡ 0 → (x : ℕ) → x < count_of o.length → bit_at (start_spec w o).after.rooms.map x ≡ false
fresh_empty = demand.fresh_empty

pub built_full : (w : World) (o : Order) (s : List ℕ) → (build_spec w o s).answer ≡ 0 → Whole o.length (build_spec w o s).after.rooms
built_full = demand.built_full

-- ---- 02, No. 3: after every list of calls on a fresh or built store its root is trusted, so what 10 names always counts as trusted

pub root-trusted : (w : World) (ks : List Call) → FreshOrBuilt w → bit_at (run w ks).rooms.trusted (root_node (chunks_in w)) ≡ true
root-trusted = demand.root-trusted

-- ---- demand 3, of every list of calls on a fresh or built store

pub demand_3 : (w : World) (ks : List Call) → FreshOrBuilt w → Demand w ks
demand_3 = demand.demand_3
