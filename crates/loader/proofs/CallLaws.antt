-- The calls for C and Rust, as the code has them. Assumes nothing.
use Prim.Native.Nat.{ℕ}
use mathlib.Core.Path.{◌≡◌, refl, sym, ap, ◌∙◌}
use mathlib.Core.Bool.{Bool, true, false}
use mir.Val.{bool_byte}
use mathlib.Core.List.{List}
use Rattle.hash.proofs.Promise.{words}
use Rattle.hash.specs.declared.value.HashValue.{HashValue}
use Rattle.table.proofs.Promise.{flag}
use Rattle.std.specs.Prelude.{Result, Ok, Err}
use Rattle.std.specs.Result.{result_unwrap_or}
use Rattle.base.specs.Out.{Named, answer_of}
use Rattle.base.specs.declared.Refusal.{Refusal}
use Rattle.held.specs.declared.Held.{Held}
use Rattle.held.proofs.Promise.{asked_by}
use Rattle.channel.proofs.Promise.{World, Out, out_at, node_number, named_by, start_spec, build_spec, take_spec, take-node, Asked}
use Rattle.order.specs.declared.Order.{Order}
use lib.ListN.{drop}
use Rattle.loader.specs.Order.{le32, order_from}

-- The order in the bytes.
pub order-read : (s : List ℕ) {h : HashValue} {L k : ℕ} → h.words ≡ words 8 (drop 0 s) → L ≡ le32 s 32 → k ≡ le32 s 36
    → ◌≡◌ {A = Order} (record { root = h; length = L; method = k }) (order_from s)
unfolding order_from
order-read s e f g = rw (e, f, g)

-- A start under it.
pub start_under : (w : World) (s : List ℕ) {u : Order} {o : Out World} → u ≡ order_from s → o ≡ start_spec w u → o ≡ start_spec w (order_from s)
start_under w s e d = d ∙ ap (start_spec w) e

-- A building.
pub build-under : (w : World) (s content : List ℕ) {u : Order} {o : Out World} → u ≡ order_from s → o ≡ build_spec w u content → o ≡ build_spec w (order_from s) content
build-under w s content e d = d ∙ ap (λ (x : Order). build_spec w x content) e

-- What asking gave, in numbers.
abbrev pub none_held : Held
none_held = record { count = 0; whole = false }

byte_flag : (b : Bool) → bool_byte b ≡ flag b
byte_flag true = refl
byte_flag false = refl

pub ask-counted : (a : Asked) (r : Result Held Refusal) → asked_by r ≡ a → {n k : ℕ} {h : Held} → n ≡ answer_of r
    → h ≡ result_unwrap_or r none_held → k ≡ bool_byte h.whole → (n ≡ a.answer) × (h.count ≡ a.held) × (k ≡ flag a.whole)
ask-counted a r d {n} {k} {h} e f g = rw (← d) (go r e f)
  where
    go : (r : Result Held Refusal) → n ≡ answer_of r → h ≡ result_unwrap_or r none_held
        → (n ≡ (asked_by r).answer) × (h.count ≡ (asked_by r).held) × (k ≡ flag (asked_by r).whole)
    go (Ok x) e f = (e, ap (λ (y : Held). y.count) f, g ∙ byte_flag h.whole ∙ ap (λ (y : Held). flag y.whole) f)
    go (Err y) e f = (e, ap (λ (y : Held). y.count) f, g ∙ byte_flag h.whole ∙ ap (λ (y : Held). flag y.whole) f)

-- What was taken in, and the node that it names by its number.
pub take_noded : (w : World) (clock id : ℕ) (s : List ℕ) {n len b : ℕ} {x : Named} {after : World}
    → out_at n len x after ≡ take_spec w clock id s → b ≡ node_number x → out_at n len (named_by b) after ≡ take_spec w clock id s
take_noded w clock id s {n} {len} {after = after} e q =
    let z = ap (λ (u : Out World). u.node) e in
    ap (λ (y : Named). out_at n len y after) (take-node w clock id s (q ∙ ap node_number z) ∙ sym z) ∙ e
