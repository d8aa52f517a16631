-- Laws of what stands at the front of a room: a line that is kept in part, and bytes that are added. Assumes nothing.
use Prim.Native.Nat.{ℕ, ◌+◌, ◌-◌, ◌<◌, ◌≤◌, min}
use native.Mathlib.Omega.{arith}
use mathlib.Core.Path.{◌≡◌, refl, sym, ap, ◌∙◌}
use mathlib.Core.List.{List, [], ◌++◌, append-nil}
use mathlib.Core.Bool.{Bool, true, false}
use lib.Dec.{leb}
use lib.ListN.{length, take, drop, length-append, length-take}
use lib.Seq.{sets, sets-eq, length-sets, length-take-le, take-nil, take_all, take_at, take-append-le, take-append-add}
use borrow.Author.Tests.{le-leb, leb-true, leb-false}
use Rattle.base.specs.Pick.{pick}
use Rattle.script.specs.Lines.{Filled, filled, front, fitting, kept}
use Rattle.script.specs.Answers.{appended}

-- The front of a room, and what is stored behind it.
stored : (room : List ℕ) (at : ℕ) (s : List ℕ) → at + length s ≤ length room → take (at + length s) (sets room at s) ≡ take at room ++ s
stored room at s h =
    ap (λ (l : List ℕ). take (at + length s) l) (sets-eq s room at h)
    ∙ take_at (take at room ++ s) (drop (at + length s) room) (at + length s) (length-append (take at room) s ∙ rw (length-take-le at room (omega arith)))

-- What fits is added.
pub added : (out : Filled) (s : List ℕ) → out.used + length s ≤ length out.room → front (appended out.room out.used s) ≡ front out ++ s
unfolding appended
added out s h = rw (le-leb (out.used + length s) (length out.room) h) (stored out.room out.used s h)

-- How much of the room is in use then, and that it is as long as before.
pub added_size : (out : Filled) (s : List ℕ) → out.used + length s ≤ length out.room
    → ((appended out.room out.used s).used ≡ out.used + length s) × (length (appended out.room out.used s).room ≡ length out.room)
unfolding appended
added_size out s h = rw (le-leb (out.used + length s) (length out.room) h) (refl, length-sets out.room out.used s)

-- No more than the room has is ever in use.
pub added_bound : (out : Filled) (s : List ℕ) → out.used ≤ length out.room
    → (appended out.room out.used s).used ≤ length (appended out.room out.used s).room
unfolding appended
added_bound out s h = go (leb (out.used + length s) (length out.room)) refl
  where
    go : (b : Bool) → leb (out.used + length s) (length out.room) ≡ b
        → (pick b (filled (sets out.room out.used s) (out.used + length s)) out).used
        ≤ length (pick b (filled (sets out.room out.used s) (out.used + length s)) out).room
    go true e = rw (length-sets out.room out.used s) (leb-true (out.used + length s) (length out.room) e)
    go false e = h

-- A room keeps of a line as many of its first characters as it has bytes.
pub record Keeps (p : Filled) (line : List ℕ) : Type 0 where
  pub used : p.used ≡ min (length line) (length p.room)
  pub same : front p ≡ take (length p.room) line

pub keeps_nothing : (room : List ℕ) → Keeps (filled room 0) []
keeps_nothing room = record { used = omega arith; same = sym (take-nil (length room)) }

-- The first m of two lists, one behind the other.
take_both : (m : ℕ) (a b : List ℕ) → take m (a ++ b) ≡ take m a ++ take (m - length a) b
take_both m a b = go (leb m (length a)) refl
  where
    none : m ≤ length a → m - length a ≡ 0
    none h = omega arith

    more : length a < m → m ≡ length a + (m - length a)
    more h = omega arith

    go : (t : Bool) → leb m (length a) ≡ t → take m (a ++ b) ≡ take m a ++ take (m - length a) b
    go true e =
        let h = leb-true m (length a) e in
        rw (take-append-le m a b h, none h, append-nil (take m a))
    go false e =
        let h = leb-false m (length a) e in
        rw (take_all m a (omega arith)) (ap (λ (n : ℕ). take n (a ++ b)) (more h) ∙ take-append-add a b (m - length a))

-- A part more.
module _ (p : Filled) (line part : List ℕ) (k : Keeps p line) where
  abbrev more : List ℕ
  more = fitting p.room p.used part

  long : length (sets p.room p.used more) ≡ length p.room
  long = length-sets p.room p.used more

  fits : p.used + length more ≤ length p.room
  fits = omega (arith, length-take (length p.room - p.used) part, k.used)

  left : length p.room - p.used ≡ length p.room - length line
  left = omega (arith, k.used)

  pub keeps-part : Keeps (kept p.room p.used part) (line ++ part)
  unfolding kept
  keeps-part = record {
    used = rw (long, length-append line part, length-take (length p.room - p.used) part) (omega (arith, k.used));
    same = stored p.room p.used more fits ∙ rw (long, take_both (length p.room) line part, k.same, left);
  }
