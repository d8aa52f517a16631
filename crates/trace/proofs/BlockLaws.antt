-- Laws of the lines of a block, step by step as the code has them. Assumes nothing.
use Rattle.std.proofs.Common.{◌≡◌, ℕ, zero, suc, ◌+◌, ◌-◌, ◌<◌, ◌≤◌, Bool, true, false, ltb, List, [], ◌∷◌, length, sym, refl, ap, ◌∙◌, true≢false, arith, ltb-true, le-ltb, lt-ltb}
use Rattle.base.specs.Pick.{pick}
use Rattle.script.proofs.Promise.{Filled, filled, line_size, fits, bound_fits}
use Rattle.trace.specs.Session.{Replay}
use Rattle.trace.specs.Stream.{Stream, stream_of, advanced, has_more, lines_on, answer_lines}
use Rattle.trace.proofs.StreamLaws.{how-far, out_within}

-- ---- whether it goes on

module _ (block read room used reply : ℕ) where
  -- The test, by numbers.
  abbrev going_on : Bool
  going_on = pick (ltb read block) (fits room used reply) false

  pub goes_on : read < block → fits room used reply ≡ going_on
  goes_on h = rw (lt-ltb read block h)

  pub goes-not : block ≤ read → false ≡ going_on
  goes-not h = rw (le-ltb read block h)

  -- Where it does, something is left, and an answer's line fits.
  pub more-means : going_on ≡ true → (read < block) × (fits room used reply ≡ true)
  more-means = go (ltb read block) refl
    where
      go : (b : Bool) → ltb read block ≡ b → pick b (fits room used reply) false ≡ true → (read < block) × (fits room used reply ≡ true)
      go true e f = (ltb-true read block e, f)
      go false e f = absurd (true≢false (sym f))

-- ---- step after step

module _ (block : List ℕ) (s : Stream) where
  more_left : has_more block s ≡ true → s.read < length block
  more_left e = (more-means (length block) s.read (length s.out.room) s.out.used (length s.replay.world.channels.reply) e).0

  no_more : length block ≤ s.read → false ≡ has_more block s
  no_more h = goes-not (length block) s.read (length s.out.room) s.out.used (length s.replay.world.channels.reply) h

-- More steps than there are bytes left change nothing.
lines_enough : (m n : ℕ) (block : List ℕ) (s : Stream) → length block ≤ s.read + m → length block ≤ s.read + n → lines_on m block s ≡ lines_on n block s
unfolding lines_on
lines_enough zero zero block s h k = refl
lines_enough zero (suc n) block s h k = rw (← no_more block s (omega arith))
lines_enough (suc m) zero block s h k = rw (← no_more block s (omega arith))
lines_enough (suc m) (suc n) block s h k = go (has_more block s) refl (λ f g. lines_enough m n block (advanced block s) f g)
  where
    go : (b : Bool) → has_more block s ≡ b
        → (length block ≤ (advanced block s).read + m → length block ≤ (advanced block s).read + n → lines_on m block (advanced block s) ≡ lines_on n block (advanced block s))
        → pick b (lines_on m block (advanced block s)) s ≡ pick b (lines_on n block (advanced block s)) s
    go true e next = let far = (how-far block s (more_left block s e)).0 in next (omega arith) (omega arith)
    go false e next = refl

lines_stop : (n : ℕ) (block : List ℕ) (s : Stream) → has_more block s ≡ false → s ≡ lines_on n block s
unfolding lines_on
lines_stop zero block s e = refl
lines_stop (suc n) block s e = rw e

lines_step : (n : ℕ) (block : List ℕ) (s : Stream) → has_more block s ≡ true → lines_on (suc n) block s ≡ lines_on n block (advanced block s)
unfolding lines_on
lines_step n block s e = rw e

module _ (block : List ℕ) (s : Stream) where
  -- As many steps as there are bytes left, at the end and after one.
  abbrev pub rest-done : Stream
  rest-done = lines_on (length block - s.read) block s

  pub lines_end : has_more block s ≡ false → s ≡ rest-done
  lines_end e = lines_stop (length block - s.read) block s e

  pub step-reads : has_more block s ≡ true → {a : Stream} → a ≡ advanced block s → (s.read < a.read) × (a.read ≤ length block)
  step-reads e f = rw f (how-far block s (more_left block s e))

  pub lines-again : has_more block s ≡ true → {a : Stream} → a ≡ advanced block s → lines_on (length block - a.read) block a ≡ rest-done
  lines-again e f =
      rw f (lines_enough (length block - (advanced block s).read) fewer block (advanced block s) (omega arith) (omega (arith, far, left)))
      ∙ sym (ap (λ (n : ℕ). lines_on n block s) one_more ∙ lines_step fewer block s e)
    where
      left : s.read < length block
      left = more_left block s e

      far : s.read < (advanced block s).read
      far = (how-far block s left).0

      fewer : ℕ
      fewer = length block - s.read - 1

      one_more : length block - s.read ≡ suc fewer
      one_more = omega (arith, left)

-- ---- how far they go

lines_far : (n : ℕ) (block : List ℕ) (s : Stream) → s.read ≤ length block → (s.read ≤ (lines_on n block s).read) × ((lines_on n block s).read ≤ length block)
unfolding lines_on
lines_far zero block s h = (omega arith, h)
lines_far (suc n) block s h = go (has_more block s) refl (λ k. lines_far n block (advanced block s) k)
  where
    go : (b : Bool) → has_more block s ≡ b
        → ((advanced block s).read ≤ length block → ((advanced block s).read ≤ (lines_on n block (advanced block s)).read) × ((lines_on n block (advanced block s)).read ≤ length block))
        → (s.read ≤ (pick b (lines_on n block (advanced block s)) s).read) × ((pick b (lines_on n block (advanced block s)) s).read ≤ length block)
    go true e next =
        let far = how-far block s (more_left block s e) in
        let more = next far.1 in
        (omega arith, more.1)
    go false e next = (omega arith, h)

lines_out : (n : ℕ) (block : List ℕ) (s : Stream) → s.out.used ≤ length s.out.room → (lines_on n block s).out.used ≤ length (lines_on n block s).out.room
unfolding lines_on
lines_out zero block s h = h
lines_out (suc n) block s h = go (has_more block s) (lines_out n block (advanced block s) (out_within block s h))
  where
    go : (b : Bool) → (lines_on n block (advanced block s)).out.used ≤ length (lines_on n block (advanced block s)).out.room
        → (pick b (lines_on n block (advanced block s)) s).out.used ≤ length (pick b (lines_on n block (advanced block s)) s).out.room
    go true k = k
    go false k = h

module _ (r : Replay) (line : Filled) (block out : List ℕ) where
  abbrev begun : Stream
  begun = stream_of r line 0 (filled out 0)

  pub lines-begin : lines_on (length block - 0) block begun ≡ answer_lines r line block out
  unfolding answer_lines
  lines-begin = ap (λ (n : ℕ). lines_on n block begun) all
    where
      all : length block - 0 ≡ length block
      all = omega arith

  -- Not past the block.
  pub read-bound : (answer_lines r line block out).read ≤ length block
  unfolding answer_lines
  read-bound = (lines_far (length block) block begun (omega arith)).1

  -- In a room for the longest answer's line, at least a byte.
  pub read_some : line_size (length r.world.channels.reply) ≤ length out → 0 < length block → 0 < (answer_lines r line block out).read
  unfolding answer_lines
  read_some fit some = go block some
    where
      go : (block : List ℕ) → 0 < length block → 0 < (lines_on (length block) block begun).read
      go [] h = absurd (omega arith)
      go (c ∷ s) h =
          let e = sym (goes_on (suc (length s)) 0 (length out) 0 (length r.world.channels.reply) h) ∙ bound_fits (length out) 0 (length r.world.channels.reply) (omega arith) in
          let far = how-far (c ∷ s) begun h in
          rw (lines_step (length s) (c ∷ s) begun e) (omega (arith, (lines_far (length s) (c ∷ s) (advanced (c ∷ s) begun) far.1).0))

  -- The output room is large enough for what is in use of it.
  pub used-within : (answer_lines r line block out).out.used ≤ length (answer_lines r line block out).out.room
  unfolding answer_lines
  used-within = lines_out (length block) block begun (omega arith)
