-- All messages of some bytes, and what a reader holds after them.
use Rattle.std.specs.Prelude.{◌≡◌, ℕ, ◌≤◌, List, ◌++◌, length}
use Rattle.std.specs.List.{concat}
use Rattle.framing.specs.Splits as items
use Rattle.wire_msg.specs.declared.fault.MsgFault.{MsgFault}
use Rattle.wire_msg.specs.{AreSpelled, IsBad, IsGoodHeader, IsOpen, Message, SpellsWithin, Split}
use Rattle.wire_msg.specs.{header_of}
use Rattle.wire_stream.specs.Readers.{HoldsNoMore}

-- the lists of bytes, one after another
abbrev pub joined : List (List ℕ) → List ℕ
joined bytes = concat bytes

-- the lists of bytes spell the messages, one each, within the limit
abbrev pub SpellEach : ℕ → List Message → List (List ℕ) → Type 0
SpellEach limit messages found = items.SpellEach (SpellsWithin limit) messages found

-- What a reader holds of a rest: all of it if it is open; otherwise the 16 bytes of a bad header,
-- or the bytes that a good header announces.
pub data IsHeldOf : ℕ → List ℕ → List ℕ → Type 0 where
  all : {limit : ℕ} {rest held : List ℕ} → IsOpen limit rest → held ≡ rest
      → IsHeldOf limit rest held
  bad : {limit : ℕ} {rest held : List ℕ} (f : MsgFault) (untaken : List ℕ) → IsBad limit held f
      → HoldsNoMore limit held → rest ≡ held ++ untaken → IsHeldOf limit rest held

-- The bytes split into messages and a rest, in exactly one way. Found are the bytes of each
-- message, in order, and held is what a reader holds of the rest.
pub record Cuts (limit : ℕ) (bytes : List ℕ) (found : List (List ℕ)) (held : List ℕ) : Type 0 where
  pub messages : List Message
  pub rest : List ℕ
  pub split : Split limit bytes messages rest
  pub only : (others : List Message) (after : List ℕ) → Split limit bytes others after
      → (messages ≡ others) × (rest ≡ after)
  pub spelled : SpellEach limit messages found
  pub parts : bytes ≡ joined found ++ rest
  pub of_rest : IsHeldOf limit rest held

-- The bytes begin with messages, and after them comes a good header, which announces one more.
pub record AnnouncesMore (limit : ℕ) (bytes : List ℕ) : Type 0 where
  pub messages : List Message
  pub front : List ℕ
  pub behind : List ℕ
  pub spelled : AreSpelled limit messages front
  pub parts : bytes ≡ front ++ behind
  pub long : 16 ≤ length behind
  pub good : IsGoodHeader limit (header_of behind)
