pub mod Standing
pub mod Readers
pub mod Holding
pub mod Cutting
pub mod Gathering
pub mod Salvage
pub mod Salvagers
pub mod SalvagedParts
-- the words that clauses of other crates cite
pub use Rattle.bson_stream.specs.Cutting.{Cuts, HasTooLong, IsFaultOf, IsUnread, SpellEach}
pub use Rattle.bson_stream.specs.Gathering.{HasRead}
pub use Rattle.bson_stream.specs.Readers.{AnnouncesMore, Feeds, HoldsNoMore, IsInFront, IsRefused}
pub use Rattle.bson_stream.specs.Readers.{Reading, StandsAt, TellsForm, moved_behind}
pub use Rattle.bson_stream.specs.Salvage.{AreParts, BeginsDocument, IsGapFault, NoneBegins, Part}
pub use Rattle.bson_stream.specs.Salvage.{Salvages, a_document, a_gap}
pub use Rattle.bson_stream.specs.Salvagers.{ArePartsSoFar, IsDocumentOf, IsFound, IsSettled}
pub use Rattle.bson_stream.specs.Salvagers.{IsUndecided, LeavesLess, MayFollow, Salvaging, SoFar}
pub use Rattle.bson_stream.specs.Salvagers.{left_of}
pub use Rattle.bson_stream.specs.Standing.{IsBad, IsLength, IsOpen, announced, in_stream}
