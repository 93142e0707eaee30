use Rattle.std.proofs.Common.{sym, ◌∙◌}
use Rattle.text_writer.proofs.Hexadecimal.{all_written, chunk_written}
use Rattle.std.proofs.lemmas.Bool.{eqb-true}
use Rattle.text_writer.proofs.digits.write_hex.Goals as goal

pub loop-rest-preserved : goal.loop-rest-preserved
loop-rest-preserved g c =
    chunk_written _ _ _ _ _ _ _ c.split_at.ensures.by_index.0 c.loop-rest.invariant c.in_ok-write_hex_chunk.ensures

pub returns : goal.returns
returns g c = all_written _ _ _ _ (eqb-true _ _ (sym c.is_empty.ensures ∙ c.loop-rest-test.false)) c.loop-rest.invariant
