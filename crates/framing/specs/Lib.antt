pub mod Rules
pub mod Splits
pub mod Items
pub mod FirstItems
pub mod Lengths
pub mod Readers
pub mod Gathering
pub mod Cutting
-- the words that clauses of other crates cite
pub use Rattle.framing.specs.Cutting.{Cuts, IsHeldOf}
pub use Rattle.framing.specs.FirstItems.{HasItem, IsFirstItem}
pub use Rattle.framing.specs.Gathering.{Gathered}
pub use Rattle.framing.specs.Items.{AreItems, Announces, BeginsNone, HasLead, IsEnd, IsItem}
pub use Rattle.framing.specs.Items.{IsRefused, IsWholeItem, ItemSplit, LacksLead, StandsAs}
pub use Rattle.framing.specs.Items.{WantsMore}
pub use Rattle.framing.specs.Lengths.{bounded, bounded_least}
pub use Rattle.framing.specs.Readers.{Reading}
pub use Rattle.framing.specs.Rules.{IsSound, Rule}
pub use Rattle.framing.specs.Splits.{AreAll, BackToBack, BeginsOnce, BeginsWith, BeginsWithNone}
pub use Rattle.framing.specs.Splits.{IsItself, IsPrefixFree, IsSplit, SpellEach, SplitsInto}
