-- What a link that holds its messages gives, of what comes over the link under it.
use Rattle.std.specs.Prelude.{◌≡◌, ℕ, ◌+◌, ◌-◌, min, List, [], ◌∷◌, ◌++◌, length, take}
use Rattle.std.specs.Prelude.{drop, Option, None, if◌then◌else◌}
use Rattle.std.specs.Io.KnownBytes.{Appends}
use Rattle.wire_frames.specs.{IsWholeFrame}
use Rattle.wire_msg.specs.declared.header.TheConstants.{MAX_MESSAGE_LEN}
use Rattle.proxy.specs.declared.held.Held.{Held}
use Rattle.proxy.specs.declared.held.Standing.TheVariants as stands

-- The link under it; the bytes that may be given and weren't yet; the bytes behind them, of which
-- it isn't said yet what becomes of them; and how many more bytes may be given.
pub record HeldView (L : Type 0) : Type 0 where
  pub link : L
  pub owed : List ℕ
  pub rest : List ℕ
  pub left : ℕ

abbrev pub view_of : {L : Type 0} → Held L → HeldView L
view_of h =
    record {
      link = h.link;
      owed = take (h.may - h.start) (drop h.start h.bytes.items);
      rest = drop h.may h.bytes.items;
      left = h.left;
    }

-- a link of which nothing came yet, and which may give so many bytes
abbrev pub new_view : {L : Type 0} → L → ℕ → HeldView L
new_view link left = record { link = link; owed = []; rest = []; left = left }

-- the bytes that it shows as received: those that came, if they are given as they come
abbrev pub shown : {L : Type 0} → (L → Option (List ℕ)) → Held L → Option (List ℕ)
shown received h = if h.plain then received h.link else None

-- a message is held, and it wasn't said yet what becomes of it
pub record Holds {L : Type 0} (h : Held L) (message : List ℕ) : Type 0 where
  pub whole : h.standing ≡ stands.Whole
  pub behind : List ℕ
  pub is : IsWholeFrame MAX_MESSAGE_LEN (drop h.may h.bytes.items) message behind

-- ---- acts

-- Bytes come over the link, and are held; or come, and are given at once. Those that may be given
-- are given. What is held may be given, as all that comes from then on. A message may be given, or
-- its first bytes; or is let go; and bytes are put before what is held.
pub data HoldAct : Type 0 where
  Comes : (bytes : List ℕ) → HoldAct
  Flows : (bytes : List ℕ) → HoldAct
  Gives : (bytes : List ℕ) → HoldAct
  Frees : (bytes : List ℕ) → HoldAct
  Passes : (message : List ℕ) → HoldAct
  Cuts : (message : List ℕ) → (count : ℕ) → HoldAct
  Skips : (message : List ℕ) → HoldAct
  Puts : (bytes : List ℕ) → HoldAct

-- nothing comes over the link and nothing is given
abbrev pub IsStill : {L : Type 0} → (old new : HeldView L) → Type 0
IsStill old new = (new.link ≡ old.link) × (new.left ≡ old.left)

-- the act was done
abbrev pub HoldMoves : {L : Type 0} → (L → Option (List ℕ)) → HoldAct → (old new : HeldView L)
    → Type 0
HoldMoves received (Comes bytes) old new =
    Appends (received old.link) (received new.link) bytes × (new.owed ≡ old.owed)
    × (new.rest ≡ old.rest ++ bytes) × (new.left ≡ old.left)
HoldMoves received (Flows bytes) old new =
    Appends (received old.link) (received new.link) bytes × (old.owed ≡ []) × (new.owed ≡ [])
    × (old.rest ≡ []) × (new.rest ≡ []) × (length bytes + new.left ≡ old.left)
HoldMoves received (Gives bytes) old new =
    (new.link ≡ old.link) × (old.owed ≡ bytes ++ new.owed) × (new.rest ≡ old.rest)
    × (length bytes + new.left ≡ old.left)
HoldMoves received (Frees bytes) old new =
    IsStill old new × (old.rest ≡ bytes) × (new.owed ≡ old.owed ++ bytes) × (new.rest ≡ [])
HoldMoves received (Passes message) old new =
    IsStill old new × (old.rest ≡ message ++ new.rest) × (new.owed ≡ old.owed ++ message)
HoldMoves received (Cuts message count) old new =
    (new.link ≡ old.link) × (old.rest ≡ message ++ new.rest) × (new.owed ≡ old.owed ++ message)
    × (new.left ≡ min old.left (length old.owed + min count (length message)))
HoldMoves received (Skips message) old new =
    IsStill old new × (old.rest ≡ message ++ new.rest) × (new.owed ≡ old.owed)
HoldMoves received (Puts bytes) old new =
    IsStill old new × (new.owed ≡ old.owed ++ bytes) × (new.rest ≡ old.rest)

-- these acts were done, one after another
abbrev pub HoldRun : {L : Type 0} → (L → Option (List ℕ)) → HeldView L → List HoldAct → HeldView L
    → Type 0
HoldRun received old [] new = new ≡ old
HoldRun {L} received old (act ∷ acts) new =
    (mid : HeldView L) × HoldMoves received act old mid × HoldRun received mid acts new

-- ---- what comes of acts

-- the bytes that came over the link, and those that were given
abbrev pub came : List HoldAct → List ℕ
came [] = []
came (Comes bytes ∷ acts) = bytes ++ came acts
came (Flows bytes ∷ acts) = bytes ++ came acts
came (act ∷ acts) = came acts

abbrev pub gave : List HoldAct → List ℕ
gave [] = []
gave (Flows bytes ∷ acts) = bytes ++ gave acts
gave (Gives bytes ∷ acts) = bytes ++ gave acts
gave (act ∷ acts) = gave acts

-- the bytes of which it was said that they are given: those that pass, to a cut too, and those that
-- are put
abbrev pub passed : List HoldAct → List ℕ
passed [] = []
passed (Flows bytes ∷ acts) = bytes ++ passed acts
passed (Frees bytes ∷ acts) = bytes ++ passed acts
passed (Passes message ∷ acts) = message ++ passed acts
passed (Cuts message count ∷ acts) = message ++ passed acts
passed (Puts bytes ∷ acts) = bytes ++ passed acts
passed (act ∷ acts) = passed acts

-- the bytes that came and of which it was said what becomes of them: those that pass, and the
-- messages that are let go
abbrev pub settled : List HoldAct → List ℕ
settled [] = []
settled (Flows bytes ∷ acts) = bytes ++ settled acts
settled (Frees bytes ∷ acts) = bytes ++ settled acts
settled (Passes message ∷ acts) = message ++ settled acts
settled (Cuts message count ∷ acts) = message ++ settled acts
settled (Skips message ∷ acts) = message ++ settled acts
settled (act ∷ acts) = settled acts

-- A call that pulls bytes did this: it gave these.
pub record Pulls {L : Type 0} (received : L → Option (List ℕ)) (bytes : List ℕ)
    (old new : HeldView L) : Type 0 where
  pub acts : List HoldAct
  pub run : HoldRun received old acts new
  pub gives : gave acts ≡ bytes
