-- Layouts as words. Assumes nothing.
use Rattle.std.specs.Prelude.{ℕ, List, [], ◌∷◌}
use Rattle.wire.specs.declared.message.Options.TheVariants.{Fixed, EndOnly, Other}
use Rattle.wire.proofs.Promise.{Layout}
use Rattle.wire.proofs.Promise.{Fault, HandshakeAlone, Messages, MessagesAndData}

-- The words of a layout; none of one that is refused. A HANDSHAKE's options are two: 1 and the place of the root, 2
-- and 0 for End alone, 0 and 0 for others.
abbrev pub layout_words : Layout → List ℕ
layout_words (Fault n) = []
layout_words (HandshakeAlone a (Fixed root)) = 1 ∷ a ∷ 1 ∷ root ∷ 0 ∷ 0 ∷ []
layout_words (HandshakeAlone a EndOnly) = 1 ∷ a ∷ 2 ∷ 0 ∷ 0 ∷ 0 ∷ []
layout_words (HandshakeAlone a Other) = 1 ∷ a ∷ 0 ∷ 0 ∷ 0 ∷ 0 ∷ []
layout_words (Messages k) = 2 ∷ 0 ∷ 0 ∷ 0 ∷ 0 ∷ k ∷ []
layout_words (MessagesAndData c x b n k) = 3 ∷ c ∷ x ∷ b ∷ n ∷ k ∷ []
