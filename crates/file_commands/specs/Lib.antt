pub mod Dump
pub mod Input
pub mod Output
pub mod InputFault
pub mod Documents
pub mod Source
pub mod Walk
pub mod Items
pub mod ItemWalk
pub mod DocumentWalk
pub mod Salvaged
pub mod SalvageWalk
pub mod MessageWalk
pub mod Check
pub mod BsonOf
pub mod Canon
pub mod Json
pub mod Msg
pub mod Any
pub mod FrameWalk
pub mod RecordText
pub mod Records
pub mod RecordWalk
pub mod OrRecords
pub mod OrRecordsWalk
pub mod TextPieces
-- the words that clauses of other crates cite
pub use Rattle.file_commands.specs.Any.{AllFrames, AnyText, FirstFrames}
pub use Rattle.file_commands.specs.BsonOf.{AllBson, BsonText, FirstBson, StopsAt, WritesTexts}
pub use Rattle.file_commands.specs.Canon.{CanonText, canon_of}
pub use Rattle.file_commands.specs.Check.{CheckText, check_of}
pub use Rattle.file_commands.specs.Documents.{AllTexts, AppendsFirst, FirstTexts, TextRule}
pub use Rattle.file_commands.specs.Documents.{WritesAll}
pub use Rattle.file_commands.specs.Documents.{told_at, told_by}
pub use Rattle.file_commands.specs.Dump.{DumpText, dump_of}
pub use Rattle.file_commands.specs.Json.{JsonText, MayBeJson}
pub use Rattle.file_commands.specs.Msg.{AllMessages, FirstMessages, MsgText}
pub use Rattle.file_commands.specs.OrRecords.{AllOrRecords, FirstOrRecords, TextOrRecords}
pub use Rattle.file_commands.specs.OrRecords.{as_messages}
pub use Rattle.file_commands.specs.Output.{AppendsOne, IsAllOf, IsFirstOf, IsOutput, TextOf}
pub use Rattle.file_commands.specs.Output.{WritesRead}
pub use Rattle.file_commands.specs.Salvaged.{FirstSalvaged, SalvageText, SalvagedSoFar}
