use Rattle.std.proofs.Common.{◌≡◌, ◌∙◌, sym, rules}
use Rattle.wire_peer.specs.declared.client_state.ClientState.TheVariants.{Open}
use Rattle.wire_peer.specs.ClientSteps.{ClientSeen}
use Rattle.wire_peer.specs.Contents.{content_of}
use Rattle.wire_peer.proofs.ClientLaws.{called_told}
use Rattle.wire_peer.proofs.clients.Client.call_as.Goals as goal

pub invariant_of-self : goal.invariant_of-self
invariant_of-self c = record { limit = c.self.invariant.limit ∙ sym c.call.ensures.limit; holds = c.self.invariant.holds }

pub returns-clause-called : goal.returns-clause-called
returns-clause-called c =
    let k : ClientSeen = record { requests = c.self.inside.requests; held = c.self.inside.reader.held; reply = c.self.inside.reply; state = c.self.inside.state } in
    let live : c.self.inside.state ≡ Open = search rules in
    rw (← c.self.view_is) (called_told k c.args.kind (content_of c.args.payload) c.call.result c.call.new.self live c.call.ensures.called)
