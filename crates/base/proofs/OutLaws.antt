-- A call that is refused, and one that is not. Assumes nothing.
use Prim.Native.Nat.{ℕ, zero, suc, ◌<◌}
use native.Mathlib.Omega.{arith}
use mathlib.Core.Path.{◌≡◌, refl, sym, ap, ◌∙◌}
use mathlib.Core.Logic.{◌≢◌}
use mathlib.Core.List.{List}
use borrow.Author.Tests.{ne_eqb}
use Rattle.base.specs.Among.{OneOf}
use Rattle.base.specs.Pick.{earlier}
use Rattle.base.specs.Out.{Named, Out, out_at, out_of, no_node, node_number, named_by, unless_at, unless, Unaltered}
use Rattle.base.specs.Out.{answer_of, node_of, out_by, Answers}
use Rattle.base.specs.Refusal.{number, node}
use Rattle.base.specs.declared.Refusal.{Refusal}
use Rattle.base.specs.declared.Refusal.TheVariants.{DatagramSize, Layout, Handshake, Options, NoChannel, TableFull}
use Rattle.base.specs.declared.Refusal.TheVariants.{PastPack, ChunkSize, HashMissing, HashWrong, RoomTooSmall, Order}
use Rattle.base.specs.declared.Refusal.TheVariants.{NotHeld, ChannelId}
use Rattle.std.specs.Prelude.{Some, None, Result, Ok, Err}

-- A node's number names it, if it is not the one that stands for none.
pub named_back : (x : Named) → ((b : ℕ) → x ≡ Some b → b < no_node) → {n : ℕ} → n ≡ node_number x → named_by n ≡ x
named_back (Some b) small e = rw (e, ne_eqb b no_node (λ z. omega (arith, small b refl)))
named_back None small e = rw e

module _ {W : Type 0} (b : Named) where
  -- A refused call gives its number and its node, and leaves all as it was.
  pub at-not : (n : ℕ) (old : W) (out : Out W) → n ≢ 0 → out_at n 0 b old ≡ unless_at n b old out
  at-not zero old out d = absurd (d refl)
  at-not (suc n) old out d = refl

  -- The number 0 gives what follows.
  pub at_done : (n : ℕ) (old : W) (out : Out W) → n ≡ 0 → out ≡ unless_at n b old out
  at_done n old out e = rw e

  -- A call that is not refused was not refused by its first number.
  pub at_zero : (n : ℕ) (old : W) (out : Out W) → (unless_at n b old out).answer ≡ 0 → (n ≡ 0) × (out.answer ≡ 0)
  at_zero zero old out e = (refl, e)
  at_zero (suc n) old out e = absurd (omega arith)

  -- What a call leaves as it was if it is taken, it leaves in any case.
  pub at-keeps : {A : Type 0} (f : W → A) (n : ℕ) (old : W) (out : Out W) → f out.after ≡ f old
      → f (unless_at n b old out).after ≡ f old
  at-keeps f zero old out e = e
  at-keeps f (suc n) old out e = refl

  -- One that is refused alters nothing.
  pub at-unaltered : (n : ℕ) (old : W) (out : Out W) → Unaltered old out → Unaltered old (unless_at n b old out)
  at-unaltered zero old out h = h
  at-unaltered (suc n) old out h = λ d. (refl, refl)

  -- The number of a call is one of some, if both are.
  pub at_one : (ms : List ℕ) (n : ℕ) (old : W) (out : Out W) → OneOf ms n → OneOf ms out.answer
      → OneOf ms (unless_at n b old out).answer
  at_one ms zero old out p q = q
  at_one ms (suc n) old out p q = p

-- The same where no node is named.
module _ {W : Type 0} where
  pub unless_not : (n : ℕ) (old : W) (out : Out W) → n ≢ 0 → out_of n 0 old ≡ unless n old out
  unless_not = at-not None

  pub unless-done : (n : ℕ) (old : W) (out : Out W) → n ≡ 0 → out ≡ unless n old out
  unless-done = at_done None

  pub unless-zero : (n : ℕ) (old : W) (out : Out W) → (unless n old out).answer ≡ 0 → (n ≡ 0) × (out.answer ≡ 0)
  unless-zero = at_zero None

  pub unless-keeps : {A : Type 0} (f : W → A) (n : ℕ) (old : W) (out : Out W) → f out.after ≡ f old
      → f (unless n old out).after ≡ f old
  unless-keeps = at-keeps None

  pub unless-unaltered : (n : ℕ) (old : W) (out : Out W) → Unaltered old out → Unaltered old (unless n old out)
  unless-unaltered = at-unaltered None

  -- It names no node where what it would do names none.
  pub unless-nameless : (n : ℕ) (old : W) (out : Out W) → out.node ≡ None → (unless n old out).node ≡ None
  unless-nameless zero old out e = e
  unless-nameless (suc n) old out e = refl

  -- A call that names no node is told by its number and its length.
  pub nameless : {n len : ℕ} {b : Named} {w : W} {out : Out W} → out.node ≡ None → out_at n len b w ≡ out → out_of n len w ≡ out
  nameless {n} {len} {b} {w} z e = ap (λ (y : Named). out_at n len y w) (sym (ap (λ (u : Out W). u.node) e ∙ z)) ∙ e

  pub unless-one : (ms : List ℕ) (n : ℕ) (old : W) (out : Out W) → OneOf ms n → OneOf ms out.answer
      → OneOf ms (unless n old out).answer
  unless-one = at_one None

  -- A call that answers 0 is not refused.
  pub done-unaltered : (old new : W) (len : ℕ) → Unaltered old (out_of 0 len new)
  done-unaltered old new len d = absurd (d refl)

-- A refusal has another number than 0.
pub refusal_number : (e : Refusal) → number e ≢ 0
refusal_number DatagramSize = λ q. omega arith
refusal_number Layout = λ q. omega arith
refusal_number Handshake = λ q. omega arith
refusal_number Options = λ q. omega arith
refusal_number NoChannel = λ q. omega arith
refusal_number TableFull = λ q. omega arith
refusal_number PastPack = λ q. omega arith
refusal_number ChunkSize = λ q. omega arith
refusal_number (HashMissing b) = λ q. omega arith
refusal_number (HashWrong b) = λ q. omega arith
refusal_number RoomTooSmall = λ q. omega arith
refusal_number Order = λ q. omega arith
refusal_number NotHeld = λ q. omega arith
refusal_number ChannelId = λ q. omega arith

-- One with a number below 9 names no node.
pub low_nameless : (e : Refusal) → number e < 9 → node e ≡ None
low_nameless DatagramSize l = refl
low_nameless Layout l = refl
low_nameless Handshake l = refl
low_nameless Options l = refl
low_nameless NoChannel l = refl
low_nameless TableFull l = refl
low_nameless PastPack l = refl
low_nameless ChunkSize l = refl
low_nameless (HashMissing b) l = absurd (omega arith)
low_nameless (HashWrong b) l = absurd (omega arith)
low_nameless RoomTooSmall l = refl
low_nameless Order l = refl
low_nameless NotHeld l = refl
low_nameless ChannelId l = refl

-- What a test gives, read off its result r: n is its number.
module _ {A : Type 0} {r : Result A Refusal} {n : ℕ} (a : Answers r n) where
  pub passed : {x : A} → r ≡ Ok x → n ≡ 0
  passed p = sym a.0 ∙ ap answer_of p

  pub refused_by : {e : Refusal} → r ≡ Err e → n ≡ number e
  refused_by p = sym a.0 ∙ ap answer_of p

  pub refused-nameless : {e : Refusal} → r ≡ Err e → node e ≡ None
  refused-nameless p = sym (ap node_of p) ∙ a.1

  pub refused_not : {e : Refusal} → r ≡ Err e → n ≢ 0
  refused_not {e} p q = refusal_number e (sym (refused_by p) ∙ q)

  -- It goes on with this refusal, whatever would come later.
  pub earlier-refused : {e : Refusal} → r ≡ Err e → (m : ℕ) → (number e ≡ earlier n m) × (node e ≡ None)
  earlier-refused {e} p m = (go n (refused_by p), refused-nameless p)
    where
      go : (k : ℕ) → k ≡ number e → number e ≡ earlier k m
      go zero q = absurd (refusal_number e (sym q))
      go (suc k) q = sym q

  -- A call that is refused so leaves all as it was.
  pub unless-refused : {W : Type 0} {e : Refusal} → r ≡ Err e → (old : W) (out : Out W) → out_at (number e) 0 (node e) old ≡ unless n old out
  unless-refused {e = e} p old out =
      rw (refused-nameless p, ← refused_by p) (unless_not n old out (refused_not p))

  -- What comes later decides where it is passed.
  pub earlier-passed : {x : A} → r ≡ Ok x → (m : ℕ) → earlier n m ≡ m
  earlier-passed p m = rw (passed p)

  pub unless-passed : {x : A} {W : Type 0} → r ≡ Ok x → (old : W) (out : Out W) → unless n old out ≡ out
  unless-passed p old out = rw (passed p)
