use Rattle.bson_stream.proofs.Holdings.{not_ready}
use Rattle.bson_stream.proofs.reader.DocumentReader.document.Goals as goal

pub returns-in_default : goal.returns-in_default
returns-in_default c = record {
  some = tt;
  ready = λ s. absurd (not_ready _ _ _ c.self.invariant.state c.in_default.not-Ready c.self.invariant.fits (rw (← c.self.view_is) at s));
  offset = tt;
}
