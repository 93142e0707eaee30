-- The laws of this crate in the shape in which proofs of other crates need them.
pub use Rattle.text_writer.proofs.Progress.{piece_written, last_written, word_first}
pub use Rattle.text_writer.proofs.Runs.{KeepsPlain, run_written, runs_end, plain_written}
