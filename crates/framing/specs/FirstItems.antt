-- What reading the first item of bytes returns.
use Rattle.std.specs.Prelude.{◌≡◌, ℕ, List}
use Rattle.framing.specs.declared.first_item.FirstItem.{FirstItem}
use Rattle.framing.specs.declared.first_item.FirstItem.TheVariants.{Whole, Open, Bad}
use Rattle.framing.specs.Items.{IsRefused, IsWholeItem, WantsMore}
use Rattle.framing.specs.Rules.{Rule}

-- an item and the rest after it, too few bytes and how many are wanted, or why no item begins
abbrev pub IsFirstItem : {E : Type 0} → Rule E → List ℕ → FirstItem E → Type 0
IsFirstItem rule bytes (Whole item rest) = IsWholeItem rule bytes item.now rest.now
IsFirstItem rule bytes (Open wanted) = WantsMore rule bytes wanted
IsFirstItem rule bytes (Bad fault) = IsRefused rule bytes fault

-- an item of these bytes is returned, and this rest after it
abbrev pub HasItem : {E : Type 0} → List ℕ → List ℕ → FirstItem E → Type 0
HasItem bytes after (Whole item rest) = (item.now ≡ bytes) × (rest.now ≡ after)
HasItem bytes after (Open wanted) = ⊥
HasItem bytes after (Bad fault) = ⊥
