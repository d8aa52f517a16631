-- Nothing of the papers: what is written, by what the code has of an answer. Assumes nothing.
use Rattle.std.specs.Prelude.{ℕ, List, [], Option, Some, None, take}
use Rattle.script.proofs.Promise.{answer_line}
use Rattle.trace.specs.declared.session.Reply.{Reply}

abbrev pub reply_of : ℕ → ℕ → Reply
reply_of number len = record { number = number; len = len }

-- The line for an answer, with so many bytes of the reply room; nothing without one.
unfoldable pub spoken : Option Reply → (reply : List ℕ) → List ℕ
spoken None reply = []
spoken (Some a) reply = answer_line a.number (take a.len reply)
