-- The document sequence that a command reads, and those behind it.
use Rattle.std.proofs.Common.{◌≡◌, ℕ, List, ◌∷◌, Some, true, false}
use native.Mathlib.Omega.{arith}
use Rattle.wire_msg.specs.{Sequence}
use Rattle.test_store.specs.declared.commands.Command.{Command}
use Rattle.test_store.specs.Options.{first_identifier, reads_sequence, unread_sequence}

-- a first sequence that isn't read is told
pub first_unread : (c : Command) (name : List ℕ) (qs others : List Sequence) (q : Sequence) → qs ≡ q ∷ others → name ≡ q.identifier → reads_sequence c name ≡ false → unread_sequence c qs ≡ Some name
first_unread c name qs others q is named unread = grind arith

-- behind one that is read the next one is told
pub first_read : (c : Command) (name : List ℕ) (qs others : List Sequence) (q : Sequence) → qs ≡ q ∷ others → name ≡ q.identifier → reads_sequence c name ≡ true → unread_sequence c qs ≡ first_identifier others
first_read c name qs others q is named read = grind arith

pub identifier_of : (name : List ℕ) (qs others : List Sequence) (q : Sequence) → qs ≡ q ∷ others → name ≡ q.identifier → first_identifier qs ≡ Some name
identifier_of name qs others q is named = grind arith
