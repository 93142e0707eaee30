use Rattle.std.proofs.Common.{◌≡◌, ◌∙◌, [], sym, ap}
use Rattle.wire_stream.specs.{Reading}
use Rattle.wire_peer.proofs.ClientLaws.{holds_message, nothing_holds}
use Rattle.wire_peer.proofs.clients.Client.release.Goals as goal

pub invariant_of-self : goal.invariant_of-self
invariant_of-self c =
    let after : c.release.new.self ≡ record { limit = c.self.inside.reader.limit; held = [] } =
    c.release.ensures.ready (holds_message _ _ c.self.inside.reply c.self.inside.state c.self.invariant.holds (sym c.is_some.ensures ∙ c.if-is_some.true)) in
    record {
      limit = ap (λ (r : Reading). r.limit) after ∙ c.self.invariant.limit;
      holds = nothing_holds _ _ c.self.inside.state (ap (λ (r : Reading). r.held) after);
    }
