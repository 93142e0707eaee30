use Rattle.std.proofs.Common.{refl, subst}
use Rattle.wire_serve.specs.{tells}
use Rattle.std.specs.Io.KnownBytes.{Appends}
use Rattle.server_core.specs.Transcript.{new_text}
use Rattle.server_core.proofs.Steps.{opens}
use Rattle.server_core.proofs.serving.Serving.open.Goals as goal

pub returns-in-Ok-write_new-clause-served : goal.returns-in-Ok-write_new-clause-served
returns-in-Ok-write_new-clause-served g c =
    opens g.H.Handler.does g.H.Handler.stops (tells g.L.Link.received g.L.Link.sent g.L.Link.ends g.L.Link.waits g.L.Link.failures) g.L.Gated.gate c.args.self.now _ c.in-Ok._key c.args.link _ _
    c.requires c.in-Ok.ensures.free c.in-Ok.ensures.slots c.in-Ok.ensures.next c.open.ensures.logged refl refl
    (subst (λ n. Appends (g.W.Write.contents c.args.out.now) (g.W.Write.contents c.write_new.new.out) (new_text n)) c.next_number-number.ensures c.in-Ok-write_new.ensures)
