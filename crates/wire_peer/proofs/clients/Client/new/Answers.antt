use Rattle.std.proofs.Common.{◌∙◌, sym, ap}
use Rattle.wire_stream.specs.{Reading}
use Rattle.wire_peer.specs.Requesting.{RequestState}
use Rattle.wire_peer.specs.declared.client_state.ClientState.TheVariants.{Open}
use Rattle.wire_peer.proofs.ClientLaws.{nothing_holds}
use Rattle.wire_peer.proofs.clients.Client.new.Goals as goal

pub invariant_of-result : goal.invariant_of-result
invariant_of-result c = record {
  limit = ap (λ (r : Reading). r.limit) c.new-2.ensures ∙ sym (ap (λ (r : RequestState). r.limit) c.new.ensures);
  holds = nothing_holds _ _ Open (ap (λ (r : Reading). r.held) c.new-2.ensures);
}
