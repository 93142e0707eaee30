-- The lemmas that proofs of other crates cite: how a text is cut at a byte.
pub use Rattle.script_lines.proofs.Cuts.{cut_at, some_part, uncut}
