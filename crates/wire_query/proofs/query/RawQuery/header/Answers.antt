use Rattle.std.proofs.Common.{◌∙◌, ap, arith}
use Rattle.std.proofs.lemmas.Grind.{not_there}
use Rattle.wire_msg.specs.Header.{header_of}
use Rattle.wire_msg.proofs.Lemmas.{header_of-take}
use Rattle.wire_query.proofs.ReadLaws.{query_read}
use Rattle.wire_query.proofs.query.RawQuery.header.Goals as goal

pub unreachable-requires : goal.unreachable-requires
unreachable-requires c = not_there c.args.self.spelled (λ s. let r = query_read s.0 c.args.self.bytes.now s.1 in omega (arith, r.long, c.in_default.ensures.cases))

pub returns : goal.returns
returns c = c.read.ensures ∙ ap header_of c.in-Some.ensures.cases.0 ∙ header_of-take c.args.self.bytes.now
