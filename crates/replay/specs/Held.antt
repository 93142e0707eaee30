-- What an answer is read as.
use Rattle.std.specs.Prelude.{◌≡◌, ◌≤◌, ℕ, List, [], ◌∷◌, drop, length, take}
use Rattle.wire_msg.specs.{msg_bytes}
use Rattle.replay.specs.declared.content.Content.{Content}
use Rattle.replay.specs.declared.content.Content.TheVariants.{Message, Other, Reply}

-- It is read as the message of these bytes.
abbrev pub IsMessageOf : List ℕ → Content → Type 0
IsMessageOf bytes (Message m) = msg_bytes m ≡ bytes
IsMessageOf bytes (Reply documents) = ⊥
IsMessageOf bytes (Other rest) = ⊥

-- It isn't read as a message.
abbrev pub IsNoMessage : Content → Type 0
IsNoMessage (Message m) = ⊥
IsNoMessage (Reply documents) = Unit {0}
IsNoMessage (Other rest) = Unit {0}

-- The bytes are long enough for the documents of an OP_REPLY, and have its opCode.
abbrev pub IsReply : List ℕ → Type 0
IsReply bytes = (36 ≤ length bytes) × (take 4 (drop 12 bytes) ≡ 1 ∷ 0 ∷ 0 ∷ 0 ∷ [])

-- It is read as these bytes from the opCode on.
abbrev pub IsOtherOf : List ℕ → Content → Type 0
IsOtherOf bytes (Message m) = ⊥
IsOtherOf bytes (Reply documents) = ⊥
IsOtherOf bytes (Other rest) = rest.now ≡ drop 12 bytes

-- It is read as an OP_REPLY with these bytes from its documents on.
abbrev pub IsReplyOf : List ℕ → Content → Type 0
IsReplyOf bytes (Message m) = ⊥
IsReplyOf bytes (Reply documents) = documents.now ≡ drop 36 bytes
IsReplyOf bytes (Other rest) = ⊥

-- It isn't read as an OP_REPLY.
abbrev pub IsNoReply : Content → Type 0
IsNoReply (Message m) = Unit {0}
IsNoReply (Reply documents) = ⊥
IsNoReply (Other rest) = Unit {0}
