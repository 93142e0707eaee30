use Rattle.std.proofs.Common.{inl, arith}
use Rattle.bson_stream.proofs.Holdings.{none_bytes}
use Rattle.bson_stream.proofs.Standings.{nothing_open}
use Rattle.bson_stream.proofs.reader.DocumentReader.release.Goals as goal

pub invariant_of-self : goal.invariant_of-self
invariant_of-self c = record {
  limit = c.self.invariant.limit;
  within = omega arith;
  offset = omega (arith, c.self.invariant.offset);
  state = nothing_open;
  no_more = inl (omega arith);
  fits = none_bytes;
}
