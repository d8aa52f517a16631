-- What the crates above know of this one: of its definitions the names passed on here, what the survey of a datagram says of
-- its messages, and that rooms stay as long as they are. Assumes nothing.
use Prim.Native.Nat.{ℕ, ◌<◌}
use mathlib.Core.Path.{◌≡◌}
use mathlib.Core.Bool.{false}
use mathlib.Core.List.{List}
use lib.Dec.{leb}
use Rattle.format.specs.declared.Format.{Format}
use Rattle.wire.proofs.Promise.{survey_all}
use Rattle.writer.proofs.Promise.{Item, read_all}
use Rattle.effects.proofs.SurveyLaws as surveys
use Rattle.effects.proofs.LengthLaws as lengths
pub use Rattle.effects.specs.Effects.{any_past, Peer, peer_of, effects}
pub use Rattle.effects.proofs.LengthLaws.{SameLengths}

-- The survey that the checks of a datagram give tells whether chunks are past the last of N,
pub past-survey : (F : Format) (N : ℕ) (s : List ℕ) → 0 < N → any_past F N (read_all F s) ≡ leb N (survey_all F s).highest
past-survey = surveys.past-survey

-- and whether the messages have an effect: where it says none, they change neither has, wants nor the mark.
pub quiet_survey : (F : Format) (N b : ℕ) (s : List ℕ) (m : Peer) → (survey_all F s).effective ≡ false → effects N b (read_all F s) m ≡ m
quiet_survey = surveys.quiet_survey

-- Both rooms stay as long as they are.
pub effects_lengths : (N b : ℕ) (is : List Item) (m : Peer) → SameLengths m (effects N b is m)
effects_lengths = lengths.effects_lengths
