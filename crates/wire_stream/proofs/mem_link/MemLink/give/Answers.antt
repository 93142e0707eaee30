use Rattle.std.proofs.Common.{◌∙◌, ◌++◌, ap, arith, drop, take}
use Rattle.std.proofs.lemmas.Grind.{common_steps}
use Rattle.wire_stream.specs.MemLinks.{Memory}
use Rattle.wire_stream.proofs.KnownBytes.{copied}
use Rattle.wire_stream.proofs.mem_link.MemLink.give.Goals as goal

pub returns-clause-received : goal.returns-clause-received
returns-clause-received c =
    copied c.self.inside.input.items c.args.buffer.now c.copy_from_slice.new.self c.self.inside.start c.min-n.result (grind (arith, common_steps)) (grind (arith, common_steps)) ∙ ap (λ (m : Memory). m.received ++ take c.min-n.result (c.copy_from_slice.new.self ++ drop c.min-n.result c.args.buffer.now)) c.self.view_is
