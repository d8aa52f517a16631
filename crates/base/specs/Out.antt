-- What a call gives back and leaves (01, "Numbers given back"; 02, No. 3). Assumes nothing.
use Rattle.std.specs.Prelude.{ℕ, zero, suc, ◌-◌, ◌^◌, ◌≡◌, ◌≢◌, Bool, true, false, eqb}
use Rattle.std.specs.Prelude.{Option, Some, None, Result, Ok, Err}
use Rattle.base.specs.Pick.{pick}
use Rattle.base.specs.declared.Refusal.{Refusal}
use Rattle.base.specs.Refusal.{number, node}

-- The node that an answer names, if it names one.
abbrev pub Named : Type 0
Named = Option ℕ

-- The number given back, the reply's length, the node that the number names, and what is there afterwards.
pub record Out (W : Type 0) : Type 0 where
  pub answer : ℕ
  pub len : ℕ
  pub node : Named
  pub after : W

abbrev pub out_at : {W : Type 0} → ℕ → ℕ → Named → W → Out W
out_at n len b w = record { answer = n; len = len; node = b; after = w }

-- What the result of a call says: its number, 0 where it was done; the node that a refusal names; and the length of a
-- reply, 0 after a refusal.
abbrev pub answer_of : {A : Type 0} → Result A Refusal → ℕ
answer_of (Ok x) = 0
answer_of (Err e) = number e

abbrev pub node_of : {A : Type 0} → Result A Refusal → Named
node_of (Ok x) = None
node_of (Err e) = node e

abbrev pub len_of : Result ℕ Refusal → ℕ
len_of (Ok n) = n
len_of (Err e) = 0

-- A call with this result and a reply of so many bytes, which leaves w.
abbrev pub out_by : {A W : Type 0} → Result A Refusal → ℕ → W → Out W
out_by r len w = out_at (answer_of r) len (node_of r) w

-- A result with this number, which names no node.
abbrev pub Answers : {A : Type 0} → Result A Refusal → ℕ → Type 0
Answers r n = (answer_of r ≡ n) × (node_of r ≡ None)

-- "Other numbers carry no node" (02, No. 3).
abbrev pub out_of : {W : Type 0} → ℕ → ℕ → W → Out W
out_of n len w = out_at n len None w

-- Whether a node is named.
abbrev pub is_named : Named → Bool
is_named (Some b) = true
is_named None = false

-- The number that C and Rust get, 2 ^ 64 - 1 for none, and what is named by it.
abbrev pub no_node : ℕ
no_node = 2 ^ 64 - 1

abbrev pub node_number : Named → ℕ
node_number (Some b) = b
node_number None = no_node

abbrev pub named_by : ℕ → Named
named_by b = pick (eqb b no_node) None (Some b)

-- "A refused call gives a reply length of 0 and alters nothing"; with the number 0 it gives what follows. The refusal
-- names a node, or none.
abbrev pub unless_at : {W : Type 0} → ℕ → Named → W → Out W → Out W
unless_at zero b old out = out
unless_at (suc n) b old out = out_at (suc n) 0 b old

abbrev pub unless : {W : Type 0} → ℕ → W → Out W → Out W
unless n old out = unless_at n None old out

-- Where a call is refused, its reply has length 0 and all is as it was.
abbrev pub Unaltered : {W : Type 0} → W → Out W → Type 0
Unaltered old out = out.answer ≢ 0 → (out.len ≡ 0) × (out.after ≡ old)
