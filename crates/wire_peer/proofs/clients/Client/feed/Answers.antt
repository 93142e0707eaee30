use Rattle.std.proofs.Common.{ℕ, sym, subst}
use Rattle.wire_msg.specs.{IsBad, IsMessage, IsOpen}
use Rattle.wire_stream.specs.{Feeds, StandsAt}
use Rattle.wire_peer.specs.ClientSteps.{ClientSeen, holding, MayTake}
use Rattle.wire_peer.proofs.ClientLaws.{holds_open, settles_bad, settles_refused, settles_reply, takes}
use Rattle.wire_peer.proofs.clients.Client.feed.Goals as goal
use Rattle.wire_peer.proofs.clients.Client.feed.Goals.{In_ok-fed}

abbrev seen : In_ok-fed → ClientSeen
seen c = record { requests = c.self.inside.requests; held = c.self.inside.reader.held; reply = c.self.inside.reply; state = c.self.inside.state }

took : (c : In_ok-fed) → MayTake c.args.self.now → Feeds c.self.inside.requests.limit c.self.inside.reader.held c.args.piece.now c.feed.new.self.held c.in_ok-fed.fed
took c free =
    let t : MayTake (seen c) = subst MayTake (sym c.self.view_is) free in
    let live : IsOpen c.self.inside.reader.limit c.self.inside.reader.held =
    holds_open c.self.inside.reader.limit c.self.inside.reader.held c.self.inside.reply c.self.inside.state c.self.invariant.holds t.0 t.1 in
    subst (λ (l : ℕ). Feeds l c.self.inside.reader.held c.args.piece.now c.feed.new.self.held c.in_ok-fed.fed) c.self.invariant.limit (c.in_ok-fed.ensures.fed live)

pub returns-in-Ok-clause-fed : goal.returns-in-Ok-clause-fed
returns-in-Ok-clause-fed c = λ free.
    let fed : Feeds c.self.inside.requests.limit c.self.inside.reader.held c.args.piece.now c.feed.new.self.held c.in_ok-fed.fed = took (goal.at.returns-in-Ok-clause-fed c).In_ok-fed free in
    let whole : IsMessage c.self.inside.requests.limit c.feed.new.self.held = subst (StandsAt c.self.inside.requests.limit c.feed.new.self.held) c.in-Ready.is fed.state in
    let k : ClientSeen = record { requests = c.self.inside.requests; held = c.self.inside.reader.held; reply = c.self.inside.reply; state = c.self.inside.state } in
    rw (← c.self.view_is) (takes k c.args.piece.now c.feed.new.self.held c.in_ok-fed.fed _ fed
    (settles_reply (holding k c.feed.new.self.held) c.in-Ok.reply c.receive.new.requests whole c.in-Ok.ensures.received c.in-Ok.ensures.others))

pub returns-in-Err-clause-fed : goal.returns-in-Err-clause-fed
returns-in-Err-clause-fed c = λ free.
    let fed : Feeds c.self.inside.requests.limit c.self.inside.reader.held c.args.piece.now c.feed.new.self.held c.in_ok-fed.fed = took (goal.at.returns-in-Err-clause-fed c).In_ok-fed free in
    let whole : IsMessage c.self.inside.requests.limit c.feed.new.self.held = subst (StandsAt c.self.inside.requests.limit c.feed.new.self.held) c.in-Ready.is fed.state in
    let k : ClientSeen = record { requests = c.self.inside.requests; held = c.self.inside.reader.held; reply = c.self.inside.reply; state = c.self.inside.state } in
    let t : MayTake k = subst MayTake (sym c.self.view_is) free in
    rw (← c.self.view_is) (takes k c.args.piece.now c.feed.new.self.held c.in_ok-fed.fed _ fed
    (settles_refused (holding k c.feed.new.self.held) c.in-Err.cause c.receive.new.requests t.1 whole c.in-Err.ensures.received c.in-Err.ensures.others))

pub returns-in-Bad-clause-fed : goal.returns-in-Bad-clause-fed
returns-in-Bad-clause-fed c = λ free.
    let fed : Feeds c.self.inside.requests.limit c.self.inside.reader.held c.args.piece.now c.feed.new.self.held c.in_ok-fed.fed = took (goal.at.returns-in-Bad-clause-fed c).In_ok-fed free in
    let bad : IsBad c.self.inside.requests.limit c.feed.new.self.held c.in-Bad.fault = subst (StandsAt c.self.inside.requests.limit c.feed.new.self.held) c.in-Bad.is fed.state in
    let k : ClientSeen = record { requests = c.self.inside.requests; held = c.self.inside.reader.held; reply = c.self.inside.reply; state = c.self.inside.state } in
    let t : MayTake k = subst MayTake (sym c.self.view_is) free in
    rw (← c.self.view_is) (takes k c.args.piece.now c.feed.new.self.held c.in_ok-fed.fed _ fed
    (settles_bad (holding k c.feed.new.self.held) c.in-Bad.fault t.1 bad))
