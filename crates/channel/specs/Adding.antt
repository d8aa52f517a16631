-- Adding a message to the datagram in the reply room, under a method that the caller names (01, "Adding a message"; 02, No. 1).
-- Assumes nothing.
use Rattle.std.specs.Prelude.{ℕ, List}
use Rattle.format.specs.Format.{format_of}
use Rattle.wire.specs.declared.message.Message.{Message}
use Rattle.writer.proofs.Promise.{add_spec}
use Rattle.channel.specs.World.{Out, unless}
use Rattle.channel.specs.Answers.{method_answer}

-- 12 for the method; then as the format under it has it.
unfoldable pub adding_spec : (method : ℕ) (room : List ℕ) (len : ℕ) → Message → (bytes : List ℕ) → Out (List ℕ)
adding_spec method room len m bytes = unless (method_answer method) room (add_spec (format_of method) room len m bytes)
