-- The test of the root's slice, and the root written. Assumes nothing.
use mathlib.Core.Path.{◌≡◌, refl, sym, ap, ◌∙◌}
use mathlib.Core.Logic.{◌≢◌}
use mathlib.Core.List.{List}
use Prim.Native.Nat.{ℕ, zero, suc}
use borrow.Author.Tests.{eq-eqb, ne_eqb}
use lib.ListN.{length}
use Rattle.base.specs.Out.{Out, out_at, out_of, node_number, named_by}
use Rattle.base.specs.Out.{Named}
use Rattle.base.specs.Refusal.{number}
use Rattle.base.specs.declared.Refusal.{Refusal}
use Rattle.base.proofs.OutLaws.{named_back, refusal_number}
use Rattle.std.specs.Prelude.{None}
use Rattle.store.proofs.Promise.{Rooms, Integrity, hash_in, take_spec, named_small}
use Rattle.store_c.specs.Root.{rooted, root_put}

pub rooted_not : (root : List ℕ) (w : Rooms) (out : Out Rooms) → length root ≢ 8 → out_of 11 0 w ≡ rooted root w out
unfolding rooted
rooted_not root w out d = rw (ne_eqb (length root) 8 d)

pub rooted-done : (root : List ℕ) (w : Rooms) {got out : Out Rooms} → length root ≡ 8 → got ≡ out → got ≡ rooted root w out
unfolding rooted
rooted-done root w e g = rw (eq-eqb (length root) 8 e, g)

-- the same where the call f was given the bytes v of the root's words
pub rooted_by : (f : List ℕ → Out Rooms) (root : List ℕ) (w : Rooms) {v : List ℕ} {got : Out Rooms}
    → length root ≡ 8 → v ≡ hash_in root 0 → got ≡ f v → got ≡ rooted root w (f (hash_in root 0))
rooted_by f root w e v g = rooted-done root w e (g ∙ ap f v)

-- a number that refuses leaves the root's slice as it was
pub put_not : (n : ℕ) (root found : List ℕ) → n ≢ 0 → root ≡ root_put n root found
put_not zero root found d = absurd (d refl)
put_not (suc n) root found d = refl

pub put_refused : (e : Refusal) (root found : List ℕ) → root ≡ root_put (number e) root found
put_refused e root found = put_not (number e) root found (refusal_number e)

-- the node that taking a chunk names, by its number
pub node_by : (w : Rooms) (r : List ℕ) (L c : ℕ) (d : List ℕ) (o : Integrity) {n b : ℕ} {x : Named} {after : Rooms}
    → out_at n 0 x after ≡ take_spec w r L c d o → b ≡ node_number x → out_at n 0 (named_by b) after ≡ take_spec w r L c d o
node_by w r L c d o {n} {b} {x} {after} e q =
    let z = ap (λ (u : Out Rooms). u.node) e in
    ap (λ (y : Named). out_at n 0 y after) (named_back x (λ a f. named_small w r L c d o a (sym z ∙ f)) q) ∙ e
