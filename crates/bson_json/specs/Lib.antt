pub mod Dates
pub mod Decimals
pub mod Json
pub mod Options
pub mod Walks
-- the words that clauses of other crates cite
pub use Rattle.bson_json.specs.Json.{IsJson}
pub use Rattle.bson_json.specs.Options.{alphabetical, in_order}
pub use Rattle.bson_json.specs.Walks.{WritesOne}
