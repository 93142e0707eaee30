pub mod Answered
pub mod Arms
pub mod CallMade
pub mod Found
mod Copying
mod Pieces
mod UpLoops
mod DownLoops
mod RawLoops
pub mod Moved
pub mod Numbered
pub mod Parts
pub mod Pooled
pub mod FairRooms
pub mod RecordLaws
pub mod Running
pub mod StayParts
pub mod CopiedParts
pub mod MovedDown
pub mod Claims
