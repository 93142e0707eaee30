use Rattle.std.proofs.Common.{◌∙◌, arith}
use Rattle.wire_peer.specs.ServerParts.{AreParts}
use Rattle.wire_stream.specs.{Feeds}
use Rattle.wire_peer.specs.declared.server_state.ServerState.TheVariants.{Open}
use Rattle.wire_peer.proofs.ServerLaws.{settled, took}
use Rattle.wire_peer.proofs.servers.Server.feed.Goals as goal

pub invariant_of-self-2 : goal.invariant_of-self-2
invariant_of-self-2 c =
    let parts : AreParts _ _ _ _ _ Open = rw c.in-Open.is at c.self.invariant in
    let same = c.in_ok-fed.ensures.limit ∙ parts.read_limit in
    settled c.in_ok-fed.fed.state _ _ c.self.inside.reader c.feed.new.self _ c.self.inside.waiting _ _ _ parts same (rw same at c.in_ok-fed.ensures.state) (omega arith) c.settle-self-inside.ensures

pub returns-clause-taken : goal.returns-clause-taken
returns-clause-taken c = λ was short.
    let parts = c.self.invariant in
    let between = rw (← parts.read_limit) at (parts.between c.in-Open.is) in
    let fed : Feeds c.self.inside.limit c.self.inside.reader.held c.args.piece.now c.feed.new.self.held c.in_ok-fed.fed = rw parts.read_limit at (c.in_ok-fed.ensures.fed between) in
    rw (← c.self.view_is, c.in-Open.is) (took c.in_ok-fed.fed.state _ _ _ c.self.inside.reader c.feed.new.self _ c.self.inside.waiting _ c.self.inside.replies _ _ _ fed c.settle-self-inside.ensures)
