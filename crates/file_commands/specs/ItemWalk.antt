-- What is written for the items of an input, piece by piece.
use Rattle.std.specs.Prelude.{◌≡◌, ℕ, ◌+◌, List, ◌++◌, length, Bool, Option, None, Some}
use Rattle.std.specs.List.{concat}
use Rattle.std.specs.Io.KnownBytes.{Appends}
use Rattle.file_commands.specs.declared.walk.Stop.{Stop}
use Rattle.file_commands.specs.declared.walk.Stop.TheVariants as stop
use Rattle.file_commands.specs.InputFault.{input_fault_line}
use Rattle.file_commands.specs.Items.{AllItems, FirstItems, HaveItems, ItemKind, ItemsAre}
use Rattle.file_commands.specs.Items.{ItemsText}
use Rattle.file_commands.specs.Walk.{Tells}

-- Where a reader of items stands: its limit, what it holds of an item that isn't whole, and the
-- offset at which that begins.
pub record ItemReading : Type 0 where
  pub limit : ℕ
  pub held : List ℕ
  pub start : ℕ

-- The bytes, which begin at offset `base`, are items whose texts were written, and a rest that
-- begins at offset `start`.
pub record ItemsWritten (k : ItemKind) (bytes : List ℕ) (base start : ℕ) (rest : List ℕ)
    (old new : Option (List ℕ)) : Type 0 where
  pub texts : List ℕ
  pub have : HaveItems k base bytes texts rest
  pub start_is : start ≡ base + length (concat have.items)
  pub appends : Appends old new texts

-- Why nothing more was written, where this rest begins where the reader stands, whose limit tells
-- the kind of the items: the reader holds it, and more bytes decide; it is at fault; or memory ran
-- out.
abbrev pub IsStoppedAt : (ℕ → ItemKind) → ItemReading → List ℕ → Option Stop → Type 0
IsStoppedAt kind r rest None = (rest ≡ r.held) × (kind r.limit).is_open r.held
IsStoppedAt kind r rest (Some (stop.Fault f)) =
    (kind r.limit).is_bad r.start rest (input_fault_line f)
IsStoppedAt kind r rest (Some stop.OutOfMemory) = Unit {0}

-- A reader went over a piece, and the texts of the items that became whole were written.
pub record GoesOverItems (kind : ℕ → ItemKind) (old : ItemReading) (piece : List ℕ)
    (new : ItemReading) (stop : Option Stop) (from to : Option (List ℕ)) : Type 0 where
  pub limit : new.limit ≡ old.limit
  pub rest : List ℕ
  pub written : ItemsWritten (kind old.limit) (old.held ++ piece) old.start new.start rest from to
  pub stopped : IsStoppedAt kind new rest stop

-- How the items of an input are gone over: where a reader stands, the kind of the items, by the
-- limit, the limit, the offset at which the first of them begins, and what is written behind them
-- all, by whether there are any.
pub record ItemWalk (Reader : Type 0) : Type 1 where
  pub reading : Reader → ItemReading
  pub kind : ℕ → ItemKind
  pub limit : ℕ
  pub base : ℕ
  pub closing : Bool → List ℕ

-- The bytes are items that have these texts, before the reader, and a rest.
pub record StandAt {R : Type 0} (w : ItemWalk R) (r : R) (bytes texts rest : List ℕ) : Type 0 where
  pub limit : (w.reading r).limit ≡ w.limit
  pub have : HaveItems (w.kind w.limit) w.base bytes texts rest
  pub start_is : (w.reading r).start ≡ w.base + length (concat have.items)

-- the bytes are items and a rest, and these are the last line, and where the reader stands
abbrev pub EndAt : {R : Type 0} → ItemWalk R → R → List ℕ → List ℕ → Option (List ℕ) → Type 0
EndAt w r bytes texts last =
    (are : ItemsAre (w.kind w.limit) w.base bytes texts last)
    × ((w.reading r).start ≡ w.base + length (concat are.have.items))

-- the bytes are items, and a rest that is at fault, whatever follows it
abbrev pub BadAt : {R : Type 0} → ItemWalk R → R → List ℕ → List ℕ → List ℕ → Type 0
BadAt w r bytes texts line =
    (rest : List ℕ) × StandAt w r bytes texts rest
    × (w.kind w.limit).is_bad (w.reading r).start rest line

-- what is told of such items
abbrev pub item_tells : {R : Type 0} → ItemWalk R → Tells R
item_tells w = record {
  stands = λ r read texts.
      StandAt w r read texts (w.reading r).held × (w.kind w.limit).is_open (w.reading r).held;
  ends = EndAt w;
  is_bad = BadAt w;
  first = FirstItems (w.kind w.limit) w.base;
  all = AllItems (w.kind w.limit) w.base;
  whole = ItemsText (w.kind w.limit) w.base w.closing;
}
