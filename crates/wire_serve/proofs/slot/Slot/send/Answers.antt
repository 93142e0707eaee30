use Rattle.std.proofs.Common.{◌<◌, List, ℕ, ap, length, subst, sym, take, ◌∙◌}
use Rattle.std.specs.Io.KnownBytes.{Appends}
use Rattle.wire_stream.specs.declared.link.Moved.TheVariants as moved
use Rattle.wire_serve.specs.Slots.{Sends, tells}
use Rattle.wire_serve.proofs.Steps.{sends, some_length}
use Rattle.wire_serve.proofs.slot.Slot.send.Goals as goal

pub returns-in-Ok-Bytes : goal.returns-in-Ok-Bytes
returns-in-Ok-Bytes g c =
    let s = c.self.inside in
    let n : ℕ = c.in-Ok-Bytes.n in
    let some = rw (← c.self.view_is) at c.requires in
    let long = subst (λ (o : List ℕ). 0 < length o) (sym c.output.ensures) (some_length s.conn.output some) in
    let went = rw c.in-Ok-Bytes.field-0-is at c.in-Ok-Bytes.ensures.sent in
    rw (← c.self.view_is) (
      Sends (take n s.conn.output),
      sends (tells g.L.Link.received g.L.Link.sent g.L.Link.ends g.L.Link.waits g.L.Link.failures) s.conn c.sent.new.self s.link c.send.new.self s.inlet n some
          (λ none. c.in-Ok-Bytes.ensures.some long (c.in-Ok-Bytes.field-0-is ∙ ap moved.Bytes none))
          (subst (λ (o : List ℕ). Appends (g.L.Link.sent s.link) (g.L.Link.sent c.send.new.self) (take n o)) c.output.ensures went)
          c.in-Ok-Bytes.ensures.received c.sent.ensures,
      tt,
    )
