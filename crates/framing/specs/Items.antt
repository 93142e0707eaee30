-- Items that stand back to back, and what is known of bytes that more may follow: they are too few,
-- begin with an item, or with a lead or a header that no item has.
use Rattle.std.specs.Prelude.{◌≡◌, ℕ, ◌+◌, ◌<◌, ◌≤◌, List, length, take, Result, Ok, Err}
use Rattle.framing.specs.Splits.{AreAll, BeginsWith, BeginsWithNone, IsSplit}
use Rattle.framing.specs.Rules.{Rule}

-- The bytes have a lead, and it passes.
pub record HasLead {E : Type 0} (rule : Rule E) (bytes : List ℕ) : Type 0 where
  pub long : rule.lead ≤ length bytes
  pub passes : rule.check (take rule.lead bytes) ≡ Ok tt

-- The bytes have a lead, and it doesn't pass, for this reason.
pub record LacksLead {E : Type 0} (rule : Rule E) (bytes : List ℕ) (fault : E) : Type 0 where
  pub long : rule.lead ≤ length bytes
  pub fails : rule.check (take rule.lead bytes) ≡ Err fault

-- The bytes have a header with a lead that passes, and it announces this.
pub record Announces {E : Type 0} (rule : Rule E) (bytes : List ℕ)
    (what : Result ℕ E) : Type 0 where
  pub leads : HasLead rule bytes
  pub header : rule.header ≤ length bytes
  pub announced : rule.total (take rule.header bytes) ≡ what

-- the bytes are a header and what follows it, and the header announces their number
abbrev pub IsItem : {E : Type 0} → Rule E → List ℕ → Type 0
IsItem rule bytes = Announces rule bytes (Ok (length bytes))

-- This many more bytes belong to the lead or the header that isn't complete, or to what is
-- announced.
pub data WantsMore {E : Type 0} (rule : Rule E) (bytes : List ℕ) (more : ℕ) : Type 0 where
  of_lead : 0 < more → length bytes + more ≡ rule.lead → WantsMore rule bytes more
  of_header : 0 < more → HasLead rule bytes → length bytes + more ≡ rule.header
      → WantsMore rule bytes more
  of_item : 0 < more → Announces rule bytes (Ok (length bytes + more)) → WantsMore rule bytes more

-- the bytes are an item, and the rest after it
abbrev pub IsWholeItem : {E : Type 0} → Rule E → List ℕ → List ℕ → List ℕ → Type 0
IsWholeItem rule bytes item rest = BeginsWith (IsItem rule) bytes item rest

-- The lead is complete, or the header, and no item has it, for this reason.
pub data IsRefused {E : Type 0} (rule : Rule E) (bytes : List ℕ) (fault : E) : Type 0 where
  by_lead : LacksLead rule bytes fault → IsRefused rule bytes fault
  by_header : Announces rule bytes (Err fault) → IsRefused rule bytes fault

-- the bytes are open, begin with an item, or begin with none
pub data StandsAs {E : Type 0} (rule : Rule E) (bytes : List ℕ) : Type 0 where
  open_bytes : (more : ℕ) → WantsMore rule bytes more → StandsAs rule bytes
  whole_item : (item rest : List ℕ) → IsWholeItem rule bytes item rest → StandsAs rule bytes
  no_item : (fault : E) → IsRefused rule bytes fault → StandsAs rule bytes

-- ---- the items that bytes hold one after another

-- each of the byte lists is an item
abbrev pub AreItems : {E : Type 0} → Rule E → List (List ℕ) → Type 0
AreItems rule items = AreAll (IsItem rule) items

-- no item is at the front of the bytes
abbrev pub BeginsNone : {E : Type 0} → Rule E → List ℕ → Type 0
BeginsNone rule bytes = BeginsWithNone (IsItem rule) bytes

-- the bytes are items, one after another, and then a rest that begins with none
abbrev pub ItemSplit : {E : Type 0} → Rule E → List ℕ → List (List ℕ) → List ℕ → Type 0
ItemSplit rule bytes items rest = IsSplit (IsItem rule) bytes items rest

-- why no item is at the front of a rest: it is open, or its lead or its header is one that no item
-- has
pub data IsEnd {E : Type 0} (rule : Rule E) (rest : List ℕ) : Type 0 where
  at_open : (more : ℕ) → WantsMore rule rest more → IsEnd rule rest
  at_refused : (fault : E) → IsRefused rule rest fault → IsEnd rule rest
