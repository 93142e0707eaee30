-- The lemmas that proofs of other crates use.

pub use Rattle.wire_stream.proofs.Turns.{AddsTurns-nil, AddsTurns-trans}
