-- Laws of the layout checks: too few words, and what the call below gave. Assumes nothing.
use Prim.Native.Nat.{ℕ, ◌<◌, ◌≤◌}
use mathlib.Core.Path.{◌≡◌, refl}
use mathlib.Core.List.{List}
use lib.ListN.{length}
use lib.Seq.{sets}
use borrow.Author.Tests.{lt-ltb, le-ltb}
use Rattle.format.specs.declared.Format.{Format}
use Rattle.wire.proofs.Promise.{entry_words, number_of, checked_of, check_spec, layout_said}
use Rattle.std.specs.Prelude.{Ok}
use Rattle.wire.specs.declared.layout.Layout as src
use Rattle.wire.specs.declared.layout.Layout.TheVariants as sound
use Rattle.wire.proofs.Promise.{Layout}
use Rattle.wire_c.specs.Words.{layout_words}
use Rattle.wire_c.specs.Calls.{laid_of, layout_told}

-- a layout that is not refused has the number 0
pub sound-number : (l : src.Layout) → 0 ≡ number_of (layout_said (Ok l))
sound-number (sound.HandshakeAlone a o) = refl
sound-number (sound.Messages k) = refl
sound-number (sound.MessagesAndData c x b n k) = refl

module _ (F : Format) (s es out : List ℕ) where
  pub layout-short : length out < 6 → laid_of 11 es out ≡ layout_told F s es out
  unfolding layout_told
  layout-short h = rw (lt-ltb (length out) 6 h)

  module _ (long : 6 ≤ length out) where
    pub layout-few : length es < entry_words → laid_of 11 es out ≡ layout_told F s es out
    unfolding layout_told
    layout-few h = rw (le-ltb (length out) 6 long, lt-ltb (length es) entry_words h)

    pub layout-done : entry_words ≤ length es → {l : Layout} {n : ℕ} {es' out' : List ℕ}
        → checked_of l es' ≡ check_spec F es s → out' ≡ sets out 0 (layout_words l) → n ≡ number_of l → laid_of n es' out' ≡ layout_told F s es out
    unfolding layout_told
    layout-done h e p q = rw (le-ltb (length out) 6 long, le-ltb (length es) entry_words h, ← e, p, q)
