use Rattle.std.proofs.Common.{inl, arith}
use Rattle.bson_stream.proofs.Holdings.{none_bytes}
use Rattle.bson_stream.proofs.Standings.{nothing_open}
use Rattle.bson_stream.proofs.reader.DocumentReader.new.Goals as goal

pub invariant_of-result : goal.invariant_of-result
invariant_of-result c = record { limit = c.requires; within = omega arith; offset = omega arith; state = nothing_open; no_more = inl (omega arith); fits = none_bytes }
