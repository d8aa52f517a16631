-- Laws of lines: where the first ends, what is kept of it, and lines added to a room. Assumes nothing.
use Prim.Native.Nat.{ℕ, zero, suc, ◌+◌, ◌-◌, ◌*◌, ◌/◌, ◌%◌, ◌<◌, ◌≤◌, min}
use native.Mathlib.Omega.{arith}
use mathlib.Core.Path.{◌≡◌, refl, sym, ap, ◌∙◌}
use mathlib.Core.List.{List, [], ◌∷◌, ◌++◌}
use Rattle.std.proofs.Common.{append_assoc}
use mathlib.Core.Bool.{Bool, true, false}
use lib.ListN.{length, get_or, set, take, drop, length-append, length-take, length-drop}
use lib.Seq.{sets-eq, drop-drop, length-sets}
use Rattle.std.proofs.lemmas.List.{take_min}
use borrow.Rule.Slice.PartMut.{put_mid}
use lib.Dec.{leb, eqb}
use Rattle.std.specs.Prelude.{Option, Some, None, MatchOption}
use Rattle.std.specs.Option.{unwrap_or}
use borrow.Author.Tests.{le-leb, leb-true}
use Rattle.base.specs.Pick.{pick}
use Rattle.script.specs.Hex.{digit_for, encoded}
use Rattle.script.proofs.HexLaws.{length-encoded}
use Rattle.script.specs.Lines.{before_feed, filled, fitting, kept}
use Rattle.script.specs.Answers.{answer_line, closing_line, line_size, fits, appended}

-- ---- the first line feed

one : (n : ℕ) → n + 1 ≡ suc n
one n = omega arith

two : (n : ℕ) → 2 + n ≡ suc (suc n)
two n = omega arith

-- A place with a line feed and none before it is the first's; where there is none, all stand before.
pub feed_found : (s : List ℕ) (k : ℕ) → ((j : ℕ) → 0 ≤ j → j < k → eqb (get_or s j 0) 10 ≡ true → ⊥) → k < length s → eqb (get_or s k 0) 10 ≡ true
    → k ≡ before_feed s
unfolding before_feed
feed_found [] k none h e = absurd (omega arith)
feed_found (c ∷ s) zero none h e = rw e
feed_found (c ∷ s) (suc k) none h e = go (eqb c 10) refl (feed_found s k (λ j low high g. none (suc j) (omega arith) (omega arith) g) (omega arith) e)
  where
    go : (b : Bool) → eqb c 10 ≡ b → k ≡ before_feed s → suc k ≡ pick b 0 (suc (before_feed s))
    go true f g = absurd (none 0 (omega arith) (omega arith) f)
    go false f g = ap suc g

pub feed_nowhere : (s : List ℕ) → ((j : ℕ) → 0 ≤ j → j < length s → eqb (get_or s j 0) 10 ≡ true → ⊥) → length s ≡ before_feed s
unfolding before_feed
feed_nowhere [] none = refl
feed_nowhere (c ∷ s) none = go (eqb c 10) refl (feed_nowhere s (λ j low high g. none (suc j) (omega arith) (omega arith) g))
  where
    go : (b : Bool) → eqb c 10 ≡ b → length s ≡ before_feed s → length (c ∷ s) ≡ pick b 0 (suc (before_feed s))
    go true f g = absurd (none 0 (omega arith) (omega arith) f)
    go false f g = ap suc g

pub feed_nothing : before_feed [] ≡ 0
unfolding before_feed
feed_nothing = refl

pub feed-first : (c : ℕ) (s : List ℕ) → before_feed (c ∷ s) ≡ pick (eqb c 10) 0 (suc (before_feed s))
unfolding before_feed
feed-first c s = refl

pub feed_bound : (s : List ℕ) → before_feed s ≤ length s
unfolding before_feed
feed_bound [] = omega arith
feed_bound (c ∷ s) = go (eqb c 10) (feed_bound s)
  where
    go : (b : Bool) → before_feed s ≤ length s → pick b 0 (suc (before_feed s)) ≤ suc (length s)
    go true h = omega arith
    go false h = omega arith

-- By what a search gives.
pub feed_by : {P : Type 0} {Q : ℕ → Type 0} (s : List ℕ) (r : Option ℕ) → MatchOption r P Q → (P → length s ≡ before_feed s)
    → ((k : ℕ) → Q k → k ≡ before_feed s) → unwrap_or r (length s) ≡ before_feed s
feed_by s None h none some = none h
feed_by s (Some k) h none some = some k h

-- ---- what is kept of a line

module _ (room : List ℕ) (at : ℕ) (part : List ℕ) where
  -- No room is left.
  pub keep-full : length room ≤ at → filled room at ≡ kept room at part
  unfolding kept
  keep-full h = rw none (ap (λ (n : ℕ). filled room n) (omega arith))
    where
      none : length room - at ≡ 0
      none = omega arith

  -- As much of it as fits, stored in one piece.
  pub keep-part : {n k : ℕ} {ys : List ℕ} → at < length room → n ≡ min (length part) (length room - at) → k ≡ n → ys ≡ take n part
      → filled (put_mid at k room ys) (at + n) ≡ kept room at part
  unfolding kept
  keep-part {n} {k} {ys} h e f g =
      let m : ℕ = length room - at in
      let fit : n ≡ min m (length part) = omega arith in
      let long : length (take m part) ≡ n = length-take m part ∙ sym fit in
      let same : ys ≡ take m part = g ∙ ap (λ (x : ℕ). take x part) fit ∙ take_min m part in
      rw (long, same, f, sets-eq (take m part) room at (omega (arith, long)), long, drop-drop n at room) (simp append_assoc)

pub length-kept : (room : List ℕ) (len : ℕ) (part : List ℕ) → length (kept room len part).room ≡ length room
unfolding kept
length-kept room len part = length-sets room len (fitting room len part)

-- ---- lines added to a room

pub append_nothing : (room : List ℕ) (at : ℕ) → filled room at ≡ appended room at []
unfolding appended
append_nothing room at = go (leb (at + 0) (length room))
  where
    go : (b : Bool) → filled room at ≡ pick b (filled room (at + 0)) (filled room at)
    go true = ap (λ (n : ℕ). filled room n) (omega arith)
    go false = refl

-- A line as long as its digits and the line feed.
pub length-line : (n : ℕ) (reply : List ℕ) → length (answer_line n reply) ≡ line_size (length reply)
unfolding answer_line
length-line n reply = length-append (encoded (n ∷ reply)) (10 ∷ []) ∙ rw (length-encoded (n ∷ reply)) (omega arith)

-- One element behind others, stored.
set_behind : (s rest : List ℕ) (x : ℕ) → length rest ≡ 1 → set (s ++ rest) (length s) x ≡ s ++ x ∷ []
set_behind [] [] x h = absurd (omega arith)
set_behind [] (y ∷ []) x h = refl
set_behind [] (y ∷ z ∷ rest) x h = absurd (omega arith)
set_behind (y ∷ s) rest x h = rw (set_behind s rest x h)

-- An answer's line: the digits of its number, those of its reply, and the line feed.
pub put-answer : (line : List ℕ) (n : ℕ) (s : List ℕ) {t u : List ℕ} → length line ≡ line_size (length s) → t ≡ encoded (n ∷ []) → u ≡ encoded s
    → set (put_mid 2 (2 + 2 * length s - 2) (t ++ drop 2 line) u) (2 + 2 * length s) 10 ≡ answer_line n s
unfolding answer_line encoded
put-answer line n s h e f = rw (f, e, ← length-encoded s, two digits) (ap (λ (l : List ℕ). digit_for (n / 16) ∷ digit_for (n % 16) ∷ l) (set_behind (encoded s) _ 10 left))
  where
    digits : ℕ
    digits = length (encoded s)

    left : length (drop (suc (suc digits) - 2) (drop 2 line)) ≡ 1
    left = rw (length-drop (suc (suc digits) - 2) (drop 2 line), length-drop 2 line, h, ← length-encoded s) (omega arith)

-- A line that fits has its place, and where it has, it fits.
pub fits_bound : (room at n : ℕ) → fits room at n ≡ true → at + line_size n ≤ room
unfolding fits
fits_bound room at n e = leb-true (at + line_size n) room e

pub bound_fits : (room at n : ℕ) → at + line_size n ≤ room → fits room at n ≡ true
unfolding fits
bound_fits room at n h = le-leb (at + line_size n) room h

module _ (room : List ℕ) (at number : ℕ) (reply : List ℕ) where
  -- A line that fits, and one that does not.
  pub line-fits : {k used : ℕ} {line : List ℕ} → fits (length room) at (length reply) ≡ true → line ≡ answer_line number reply
      → k ≡ line_size (length reply) → used ≡ at + line_size (length reply)
      → filled (put_mid at k room line) used ≡ appended room at (answer_line number reply)
  unfolding appended fits
  line-fits f e g u =
      let long = length-line number reply in
      let place = fits_bound (length room) at (length reply) f in
      rw (e, g, u, long, f, sets-eq (answer_line number reply) room at (omega (arith, long)), long, drop-drop (line_size (length reply)) at room)
      (simp append_assoc)

  pub line-not : fits (length room) at (length reply) ≡ false → filled room at ≡ appended room at (answer_line number reply)
  unfolding appended fits
  line-not f = rw (length-line number reply, f)

-- ---- the closing line

pub closing : (room : List ℕ) (at : ℕ) (whole : Bool) (held : ℕ) {n : ℕ} → n ≡ pick whole 255 240
    → appended room at (answer_line n (held / 256 % 256 ∷ held % 256 ∷ [])) ≡ appended room at (closing_line whole held)
unfolding closing_line
closing room at whole held e = rw e

pub length-closing : (whole : Bool) (held : ℕ) → length (closing_line whole held) ≤ 7
unfolding closing_line
length-closing whole held = rw (length-line (pick whole 255 240) (held / 256 % 256 ∷ held % 256 ∷ [])) (omega arith)
