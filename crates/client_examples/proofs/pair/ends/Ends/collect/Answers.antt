use Rattle.std.proofs.Common.{rules, sym}
use Rattle.std.specs.Vec.{with_items}
use Rattle.std.proofs.lemmas.List.{places, with_items_is}
use Rattle.wire_peer.specs.{content_of}
use Rattle.wire_peer.proofs.Lemmas.{content_is}
use Rattle.client_examples.proofs.Moving.{collected, stays}
use Rattle.client_examples.proofs.pair.ends.Ends.collect.Goals as goal

pub returns-in_default : goal.returns-in_default
returns-in_default g c = stays g.H.Handler.does g.H.Handler.stops c.args.self.now

pub returns : goal.returns
returns g c =
    let H = g.H.Handler in
    let old = c.args.self.now in
    let reply = c.in-Some.reply in
    let some = c.in-Some.ensures in
    let m = some.message.1 in
    collected H.does H.stops old (record old { calls = with_items old.calls c.give.new.records })
    (record { call = reply.call; last = reply.last }) m.0 (content_of reply.payload) c.release.new.self _ _
    (sym some.ready) m.1 (content_is reply.payload m.0.content (some.payload m.0 m.1)) c.release.ensures
    c.deref_mut.ensures.value c.in_ok-give.ensures (with_items_is old.calls c.give.new.records (search (rules, places)))
