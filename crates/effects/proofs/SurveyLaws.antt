-- The survey of a datagram's messages, which its checks give, against the messages: whether a range reaches past the pack, and
-- whether there is an effect. Assumes nothing.
use Prim.Native.Nat.{ℕ, zero, suc, ◌-◌, ◌<◌}
use native.Mathlib.Omega.{arith}
use mathlib.Core.Path.{◌≡◌, refl, sym, ap, ◌∙◌}
use mathlib.Core.List.{List}
use mathlib.Core.Bool.{Bool, true, false, true≢false}
use lib.ListN.{length}
use lib.Dec.{leb, ltb}
use borrow.Author.Tests.{lt-leb, ltb-true, ltb-false, leb-true, leb-false, le-leb}
use Rattle.base.specs.Pick.{pick}
use Rattle.format.specs.declared.Format.{Format}
use Rattle.wire.proofs.Promise.{reach, min_size, step_at, no_survey, naming, surveyed, survey_step, survey_from, survey_all}
use Rattle.wire.specs.declared.survey.Survey.{Survey}
use Rattle.wire.specs.declared.message.Message.{Message}
use Rattle.wire.specs.declared.message.Message.TheVariants.{Handshake, Data, Ack, Have, Integrity, Request, Cancel, Choke, Unchoke, Empty}
use Rattle.wire.specs.declared.message.Step.{Step}
use Rattle.wire.specs.declared.message.Step.TheVariants.{Read, End, Refused}
use Rattle.writer.proofs.Promise.{on_step, read_from, read_all}
use Rattle.effects.specs.Effects.{past, any_past, Peer, effect, effects}

-- What is read from a place on: what stands there, and what is read behind it.
pub read_more : (F : Format) (s : List ℕ) (at left : ℕ) {st : Step} → 0 < left → step_at F s at ≡ st → read_from F left s at ≡ on_step s st (λ x. read_from F (left - 1) s x)
unfolding read_from
read_more F s at zero h e = absurd (omega arith)
read_more F s at (suc n) h e = let p : suc n - 1 ≡ n = omega arith in rw (e, p)

-- ---- ranges

or_false : (x : Bool) → x ≡ pick x true false
or_false true = refl
or_false false = refl

or_or : (x y z : Bool) → pick (pick x true y) true z ≡ pick x true (pick y true z)
or_or true y z = refl
or_or false y z = refl

-- The higher of two chunks lies past N-1 where one of them does.
higher-past : (N a b : ℕ) → leb N (pick (ltb a b) b a) ≡ pick (leb N a) true (leb N b)
higher-past N a b = by (ltb a b) (leb N a) refl refl
  where
    by : (x y : Bool) → ltb a b ≡ x → leb N a ≡ y → leb N (pick x b a) ≡ pick y true (leb N b)
    by true true p q = le-leb N b (omega (arith, ltb-true a b p, leb-true N a q))
    by true false p q = refl
    by false true p q = q
    by false false p q = q ∙ sym (lt-leb N b (omega (arith, ltb-false a b p, leb-false N a q)))

-- One message more.
past_one : (F : Format) (N : ℕ) (i : Message) (v : Survey) → leb N (surveyed F i v).highest ≡ pick (leb N v.highest) true (past F N i)
unfolding past naming
past_one F N (Handshake a o) v = or_false (leb N v.highest)
past_one F N (Data f l x b n) v = higher-past N v.highest l
past_one F N (Ack f l d) v = higher-past N v.highest (reach F f l)
past_one F N (Have f l) v = higher-past N v.highest (reach F f l)
past_one F N (Integrity f l h) v = higher-past N v.highest l
past_one F N (Request f l) v = higher-past N v.highest (reach F f l)
past_one F N (Cancel f l) v = higher-past N v.highest (reach F f l)
past_one F N Choke v = or_false (leb N v.highest)
past_one F N Unchoke v = or_false (leb N v.highest)
past_one F N (Empty k) v = or_false (leb N v.highest)

past-from : (F : Format) (N n : ℕ) (s : List ℕ) (at : ℕ) (v : Survey) → leb N (survey_from F n s at v).highest ≡ pick (leb N v.highest) true (any_past F N (read_from F n s at))
unfolding survey_from read_from any_past
past-from F N zero s at v = or_false (leb N v.highest)
past-from F N (suc n) s at v = by (λ x w. past-from F N n s x w) (step_at F s at)
  where
    by : ((x : ℕ) (w : Survey) → leb N (survey_from F n s x w).highest ≡ pick (leb N w.highest) true (any_past F N (read_from F n s x))) → (st : Step)
        → leb N (survey_step F st v (λ x w. survey_from F n s x w)).highest ≡ pick (leb N v.highest) true (any_past F N (on_step s st (λ x. read_from F n s x)))
    by f (Read i next) =
        f next.at (surveyed F i v) ∙ ap (λ (x : Bool). pick x true (any_past F N (read_from F n s next.at))) (past_one F N i v)
        ∙ or_or (leb N v.highest) (past F N i) (any_past F N (read_from F n s next.at))
    by f End = or_false (leb N v.highest)
    by f Refused = or_false (leb N v.highest)

-- A range reaches past the last of N chunks exactly where the highest chunk named does.
pub past-survey : (F : Format) (N : ℕ) (s : List ℕ) → 0 < N → any_past F N (read_all F s) ≡ leb N (survey_all F s).highest
past-survey F N s h = sym (past-from F N (length s) s min_size no_survey ∙ ap (λ (x : Bool). pick x true (any_past F N (read_all F s))) (lt-leb N 0 h))

-- ---- effects

-- A message that leaves the survey without an effect has none.
quiet_one : (F : Format) (N b : ℕ) (i : Message) (m : Peer) (v : Survey) → (surveyed F i v).effective ≡ false → (v.effective ≡ false) × (effect N b i m ≡ m)
unfolding effect naming
quiet_one F N b (Handshake a o) m v h = (h, refl)
quiet_one F N b (Data f l x p n) m v h = (h, refl)
quiet_one F N b (Ack f l d) m v h = absurd (true≢false h)
quiet_one F N b (Have f l) m v h = absurd (true≢false h)
quiet_one F N b (Integrity f l d) m v h = (h, refl)
quiet_one F N b (Request f l) m v h = absurd (true≢false h)
quiet_one F N b (Cancel f l) m v h = absurd (true≢false h)
quiet_one F N b Choke m v h = absurd (true≢false h)
quiet_one F N b Unchoke m v h = absurd (true≢false h)
quiet_one F N b (Empty k) m v h = absurd (true≢false h)

quiet_from : (F : Format) (N b n : ℕ) (s : List ℕ) (at : ℕ) (v : Survey) (m : Peer) → (survey_from F n s at v).effective ≡ false → (v.effective ≡ false) × (effects N b (read_from F n s at) m ≡ m)
unfolding survey_from read_from effects
quiet_from F N b zero s at v m h = (h, refl)
quiet_from F N b (suc n) s at v m h = by (λ x w q. quiet_from F N b n s x w m q) (step_at F s at) h
  where
    by : ((x : ℕ) (w : Survey) → (survey_from F n s x w).effective ≡ false → (w.effective ≡ false) × (effects N b (read_from F n s x) m ≡ m)) → (st : Step)
        → (survey_step F st v (λ x w. survey_from F n s x w)).effective ≡ false → (v.effective ≡ false) × (effects N b (on_step s st (λ x. read_from F n s x)) m ≡ m)
    by f (Read i next) q =
        let rest = f next.at (surveyed F i v) q in
        let one = quiet_one F N b i m v rest.0 in
        (one.0, ap (effects N b (read_from F n s next.at)) one.1 ∙ rest.1)
    by f End q = (q, refl)
    by f Refused q = (q, refl)

-- Messages without an effect by the survey have none.
pub quiet_survey : (F : Format) (N b : ℕ) (s : List ℕ) (m : Peer) → (survey_all F s).effective ≡ false → effects N b (read_all F s) m ≡ m
quiet_survey F N b s m h = (quiet_from F N b (length s) s min_size no_survey m h).1
