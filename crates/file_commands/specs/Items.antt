-- What is written for an input of items of one kind, back to back: documents, messages, messages of
-- any opCode, or records.
use Rattle.std.specs.Prelude.{◌≡◌, ◌⊎◌, ℕ, ◌+◌, List, [], ◌∷◌, ◌++◌, length, Bool, true, false}
use Rattle.std.specs.Prelude.{Option, None, Some}
use Rattle.std.specs.List.{concat}
use Rattle.framing.specs.{AreAll}
use Rattle.command_run.specs.{is_there, or_nothing}
use Rattle.file_commands.specs.Output.{TextOf}

-- A kind of items: which bytes are one; of which bytes more decide whether they begin with one; the
-- line of an input that ends inside the one that begins at an offset; which bytes, of which the
-- first stands at an offset, are at fault, whatever follows them, and the line of that fault; and
-- what may be written for the item that begins at an offset.
pub record ItemKind : Type 1 where
  pub is_item : List ℕ → Type 0
  pub is_open : List ℕ → Type 0
  pub inside_line : ℕ → List ℕ
  pub is_bad : ℕ → List ℕ → List ℕ → Type 0
  pub is_text : ℕ → List ℕ → List ℕ → Type 0

-- what may be written for items of which the first begins at this offset, joined
abbrev pub AreTextsOf : ItemKind → ℕ → List (List ℕ) → List ℕ → Type 0
AreTextsOf k start [] texts = texts ≡ []
AreTextsOf k start (p ∷ ps) texts =
    (first : List ℕ) × (others : List ℕ) × k.is_text start p first
    × AreTextsOf k (start + length p) ps others × (texts ≡ first ++ others)

-- The bytes, which begin at this offset, are items, for which these texts may be written, joined,
-- and a rest.
pub record HaveItems (k : ItemKind) (start : ℕ) (bytes texts rest : List ℕ) : Type 0 where
  pub items : List (List ℕ)
  pub items_are : AreAll k.is_item items
  pub joined : bytes ≡ concat items ++ rest
  pub texts_are : AreTextsOf k start items texts

-- The last line, if there is one, where the rest begins at this offset: that the input ends inside
-- an item, or that of the rest's fault.
abbrev pub IsLastItem : ItemKind → ℕ → List ℕ → Option (List ℕ) → Type 0
IsLastItem k start [] last = last ≡ None
IsLastItem k start (b ∷ bs) last =
    (k.is_open (b ∷ bs) × (last ≡ Some (k.inside_line start)))
    ⊎ ((line : List ℕ) × k.is_bad start (b ∷ bs) line × (last ≡ Some line))

-- The bytes, which begin at this offset, are items and a rest: what may be written for the items,
-- joined, and the last line.
pub record ItemsAre (k : ItemKind) (start : ℕ) (bytes texts : List ℕ) (last : Option (List ℕ)) :
    Type 0 where
  pub rest : List ℕ
  pub have : HaveItems k start bytes texts rest
  pub last_is : IsLastItem k (start + length (concat have.items)) rest last

-- whether there are items
abbrev pub are_there : List (List ℕ) → Bool
are_there [] = false
are_there (p ∷ ps) = true

-- What is written for bytes that begin at this offset, and whether it ends with a fault line: the
-- texts of the items, what follows them all, by whether there are any, and the last line.
abbrev pub ItemsText : ItemKind → ℕ → (Bool → List ℕ) → TextOf
ItemsText k start closing bytes text fault =
    (texts : List ℕ) × (last : Option (List ℕ)) × (are : ItemsAre k start bytes texts last)
    × (text ≡ texts ++ (closing (are_there are.have.items) ++ or_nothing last))
    × (fault ≡ is_there last)

-- ---- where an input isn't read to its end

-- the texts of the first few items in bytes that begin at this offset
abbrev pub FirstItems : ItemKind → ℕ → List ℕ → List ℕ → Type 0
FirstItems k start bytes texts = (rest : List ℕ) × HaveItems k start bytes texts rest

-- the texts of all of them, up to the first fault
abbrev pub AllItems : ItemKind → ℕ → List ℕ → List ℕ → Type 0
AllItems k start bytes texts = (last : Option (List ℕ)) × ItemsAre k start bytes texts last
