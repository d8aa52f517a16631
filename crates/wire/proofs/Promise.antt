-- What the crates above know of this one: of its definitions the names passed on here, and the laws on a datagram that
-- passes the checks. Assumes nothing.
use mathlib.Core.Path.{◌≡◌}
use mathlib.Core.List.{List, [], ◌∷◌}
use mathlib.Core.Bool.{true, false}
use Prim.Native.Nat.{ℕ, ◌+◌, ◌≤◌}
use lib.ListN.{length, get_or, take, drop}
use Rattle.base.specs.Among.{OneOf}
use Rattle.wire.proofs.FaultLaws.{numbered, passed}
use Rattle.wire.proofs.NumberLaws as numbers
use Rattle.wire.proofs.AloneLaws as alone
use Rattle.wire.proofs.CountLaws.{entries_fit}
use Rattle.wire.proofs.DataLaws as data-laws
use Rattle.wire.proofs.LayoutLaws as layouts
use Rattle.wire.proofs.PlainLaws as plains
use Rattle.wire.proofs.SizeLaws as sizes
use Rattle.base.specs.Refusal.{number, node}
use Rattle.base.specs.declared.Refusal.{Refusal}
use Rattle.wire.proofs.FrontLaws as fronts
use Rattle.wire.proofs.SurveyLaws as surveys
use Rattle.std.specs.Prelude.{Some, None}
use Rattle.wire.specs.declared.message.Step.TheVariants.{Read}
use Rattle.wire.specs.declared.pass.Front.{Front}
pub use Rattle.wire.specs.Bytes.{be32, be64, placed}
pub use Rattle.wire.specs.Limits.{min_size, max_size}
pub use Rattle.wire.specs.Place.{named_size, timed_size, integrity_size, empty_bin, everything_bin, first_of, last_of, is_empty, reach}
pub use Rattle.wire.specs.Options.{fixed_head, fixed_tail, fixed_size}
pub use Rattle.wire.specs.Read.{step_number, cursor, named, step_at}
pub use Rattle.wire.specs.Layout.{Layout, Fault, HandshakeAlone, Messages, MessagesAndData}
pub use Rattle.wire.specs.Layout.{Checked, checked_of, number_of, is_end_only, layout_of, layout_said}
pub use Rattle.wire.specs.Steps.{entry_words, has_size, check_spec, Fronted, survey_of, no_survey, surveyed, survey_step, survey_all, survey_spec, range_of, plain_size, some_size, pass_said}
unfoldable pub use Rattle.wire.specs.Layout.{seen, handshake_fault}
unfoldable pub use Rattle.wire.specs.Steps.{naming, survey_from, plain_message}
pub use Rattle.wire.proofs.FaultLaws.{Passed, Numbered}
pub use Rattle.wire.proofs.AloneLaws.{Alone}
pub use Rattle.wire.proofs.CountLaws.{Says}
pub use Rattle.wire.proofs.DataLaws.{ToEnd}
pub use Rattle.wire.proofs.PlaceLaws.{place-least, place_most}
pub use Rattle.wire.proofs.PlacedLaws.{placed-none, placed-length, placed-then, placed-front}
use Rattle.format.specs.declared.Format.{Format}

-- A refusal is 1, 2 or 3.
pub layout_numbered : (F : Format) (s : List ℕ) → Numbered (layout_of F s).layout
layout_numbered = numbered

pub layout-one : (F : Format) (s : List ℕ) → OneOf (0 ∷ 1 ∷ 2 ∷ 3 ∷ []) (number_of (layout_of F s).layout)
layout-one = numbers.layout-one

-- A datagram with the number 0 has a sound size and is not refused.
pub layout_passed : (F : Format) (s : List ℕ) → number_of (layout_of F s).layout ≡ 0 → (min_size ≤ length s) × (length s ≤ max_size) × Passed (layout_of F s).layout
layout_passed = passed

-- A HANDSHAKE that passes has no fault of its own; its source is the number that stands there.
pub layout-alone : (F : Format) (s : List ℕ) → Alone s (layout_of F s).layout
layout-alone = alone.layout-alone

-- Its layout says how many words its entries have, and a room for them has as many.
pub layout-entries : (F : Format) (s : List ℕ) → Says (layout_of F s).layout (length (layout_of F s).entries) × (length (layout_of F s).entries ≤ entry_words)
layout-entries = entries_fit

-- The chunk of its DATA reaches to its end.
pub layout_data : (F : Format) (s : List ℕ) → ToEnd (layout_of F s).layout (length s)
layout_data = data-laws.to_end

-- A sound size is from 4 to 2,048 bytes; any other is refused with 1.
pub size-sound : (n : ℕ) → has_size n ≡ true → (min_size ≤ n) × (n ≤ max_size)
size-sound = layouts.sized

pub size-refused : (F : Format) (s : List ℕ) → has_size (length s) ≡ false → layout_of F s ≡ checked_of (Fault 1) []
size-refused = layouts.layout_unsized

-- Where a pass over the plain messages at the front ends with the datagram, there are no others, and it has all of them.
pub front-layout : (F : Format) (s : List ℕ) (f : Front) → Fronted F s f → f.at ≡ length s → layout_of F s ≡ checked_of (Messages 0) []
front-layout = fronts.front-layout

pub front-survey : (F : Format) (s : List ℕ) (f : Front) → Fronted F s f → f.at ≡ length s → survey_all F s ≡ f.survey
front-survey = fronts.front-survey

-- The survey of the checks is that of all messages, unless it is refused.
pub survey_passed : (F : Format) (s : List ℕ) → number_of (layout_of F s).layout ≡ 0 → survey_spec F s ≡ survey_all F s
survey_passed = surveys.survey_passed

-- A plain message is told by its size: it is the one that its bytes say, and the next stands behind it.
pub plain-read : (F : Format) (s : List ℕ) (at : ℕ) {n : ℕ} → n ≡ plain_size F (step_at F s at) → (n ≡ 0 → ⊥) → step_at F s at ≡ Read (plain_message F (drop at s)) (cursor (at + n))
plain-read = plains.plain-read

-- A size that is found is the number, and not 0; none is 0.
pub size-said : {n : ℕ} (m : ℕ) → Some n ≡ some_size m → (n ≡ m) × (n ≡ 0 → ⊥)
size-said = sizes.size-said

pub size-unsaid : (m : ℕ) → None ≡ some_size m → m ≡ 0
size-unsaid = sizes.size-unsaid

-- It lies in the datagram.
pub plain-inside : (F : Format) (s : List ℕ) (at : ℕ) {n : ℕ} → n ≡ plain_size F (step_at F s at) → (n ≡ 0 → ⊥) → at + n ≤ length s
plain-inside = plains.size-inside

-- One of a type up to 9 names chunks.
pub plain-range : (F : Format) (s : List ℕ) (at : ℕ) {n : ℕ} → n ≡ plain_size F (step_at F s at) → (n ≡ 0 → ⊥) → get_or (drop at s) 0 0 ≤ 9 → named_size F ≤ length (drop at s)
plain-range = plains.size-range

-- The checks with a room for the entries: the layout is the datagram's.
pub layout-told : (F : Format) (room s : List ℕ) {l : Layout} {after : List ℕ} → checked_of l after ≡ check_spec F room s → l ≡ (layout_of F s).layout
layout-told = data-laws.layout-told

-- A refusal names no node.
pub refusal-told : (F : Format) (room s : List ℕ) (e : Refusal) {after : List ℕ} → checked_of (Fault (number e)) after ≡ check_spec F room s → node e ≡ None
refusal-told = data-laws.refusal-told

-- The room keeps its length.
pub length-told : (F : Format) (room s : List ℕ) {l : Layout} {after : List ℕ} → checked_of l after ≡ check_spec F room s → length after ≡ length room
length-told = data-laws.length-told

-- Its entries stand at the front of a room of `entry_words` words.
pub entries-told : (F : Format) (room s : List ℕ) {l : Layout} {after : List ℕ} → checked_of l after ≡ check_spec F room s
    → entry_words ≤ length room → take (length (layout_of F s).entries) after ≡ (layout_of F s).entries
entries-told = data-laws.entries-told
