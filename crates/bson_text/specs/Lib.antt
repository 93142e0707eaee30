pub mod Text
pub mod ValueText
pub mod Dump
pub mod DumpValues
pub mod Items
-- the words that clauses of other crates cite
pub use Rattle.bson_text.specs.Dump.{document_size, document_text, document_text_at, element_lines}
pub use Rattle.bson_text.specs.Items.{read_text}
pub use Rattle.bson_text.specs.Text.{quoted}
