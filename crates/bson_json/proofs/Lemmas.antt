-- The lemmas that proofs of other crates use: of texts of which one of a sort is written.
pub use Rattle.bson_json.proofs.Choices.{exact_one, one_then_word}
