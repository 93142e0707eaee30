use Rattle.std.proofs.Common.{◌≡◌, ◌∙◌, List, Some, ap, rules, sym}
use Rattle.std.specs.Vec.{with_items}
use Rattle.std.proofs.lemmas.List.{places, with_items_is}
use Rattle.wire_model.specs.{put_at}
use Rattle.wire_peer.specs.{content_of}
use Rattle.wire_peer.proofs.Lemmas.{content_is}
use Rattle.wire_end.specs.declared.call_record.CallRecord.{CallRecord}
use Rattle.wire_end.specs.Records.{records_of}
use Rattle.wire_end.proofs.Runs.{collected_runs}
use Rattle.wire_end.proofs.client_end.ClientEnd.collect.Goals as goal

pub returns-clause-collected : goal.returns-clause-collected
returns-clause-collected g c =
    let L = g.L.Link in
    let inside = c.self.inside in
    let connection = inside.connection in
    let reply = c.in-Some.reply in
    let some = c.in-Some.ensures in
    let m = some.message.1 in
    let put = λ (rs : List CallRecord). put_at (Some reply.call) (content_of reply.payload) reply.last (records_of connection rs) in
    let items : (with_items inside.records c.give.new.records).items ≡ c.give.new.records =
    with_items_is inside.records c.give.new.records (search (rules, places)) in
    rw (← c.self.view_is) (
      m.0,
      collected_runs L.sent L.received connection inside.client c.release.new.self
          (records_of connection inside.records.items) (records_of connection (with_items inside.records c.give.new.records).items) inside.link inside.inlet
          (record { call = reply.call; last = reply.last }) m.0 (content_of reply.payload) (sym some.ready) m.1
          (content_is reply.payload m.0.content (some.payload m.0 m.1)) c.release.ensures
          (ap (records_of connection) items ∙ c.in_ok-give.ensures.given connection ∙ ap put c.deref_mut.ensures.value),
    )
