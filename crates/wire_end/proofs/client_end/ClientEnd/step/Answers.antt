use Rattle.std.proofs.Common.{◌∙◌, ◌∷◌, [], ap, refl, sym}
use Rattle.wire_model.specs.{ClientEnd}
use Rattle.wire_peer.specs.{ClientSeen}
use Rattle.wire_end.specs.Records.{records_of}
use Rattle.wire_end.proofs.Runs.{no_acts, taken_runs}
use Rattle.wire_end.proofs.Turns.{grown}
use Rattle.wire_end.proofs.client_end.ClientEnd.step.Goals as goal

pub returns-in-Ok-End-clause-heard : goal.returns-in-Ok-End-clause-heard
returns-in-Ok-End-clause-heard g c =
    let L = g.L.Link in
    let more = c.pull.ensures.received in
    rw (← c.self.view_is)
    ([], no_acts L.sent L.received _ _ more.0 refl refl c.pull.ensures.sent more.1 more.2)

pub returns-in-Ok-Later-clause-heard : goal.returns-in-Ok-Later-clause-heard
returns-in-Ok-Later-clause-heard g c =
    let L = g.L.Link in
    let more = c.pull.ensures.received in
    rw (← c.self.view_is)
    ([], no_acts L.sent L.received _ _ more.0 refl refl c.pull.ensures.sent more.1 more.2)

pub returns-in-Err-clause-heard : goal.returns-in-Err-clause-heard
returns-in-Err-clause-heard g c =
    let L = g.L.Link in
    let more = c.pull.ensures.received in
    rw (← c.self.view_is)
    ([], no_acts L.sent L.received _ _ more.0 refl refl c.pull.ensures.sent more.1 more.2)

pub returns-in_default-clause-heard : goal.returns-in_default-clause-heard
returns-in_default-clause-heard g c =
    let L = g.L.Link in
    let more = c.pull.ensures.received in
    let inside = c.self.inside in
    let same = c.in_default.ensures.unchanged in
    rw (← c.self.view_is) (
      [],
      no_acts L.sent L.received _ _ more.0 refl
          (ap (λ (k : ClientSeen). let e : ClientEnd =
          record { client = k; records = records_of inside.connection inside.records.items } in e) same.0)
          c.pull.ensures.sent more.1 (same.1 ∙ more.2),
    )

pub returns-clause-heard : goal.returns-clause-heard
returns-clause-heard g c =
    let L = g.L.Link in
    let more = c.pull.ensures.received in
    let fed = c.in-Ok.ensures.fed in
    rw (← c.self.view_is) (
      fed.bytes ∷ [],
      taken_runs L.sent L.received _ _ more.0 c.pull.new.self fed.bytes refl
          c.pull.ensures.sent more.1 more.2 fed.parts fed.are_bytes fed.takes refl,
    )

pub returns-clause-grows : goal.returns-clause-grows
returns-clause-grows g c =
    let more = c.pull.ensures.received in
    let fed = c.in-Ok.ensures.fed in
    let inside = c.self.inside in
    rw (← c.self.view_is) (λ ok may. record {
      came = more.0;
      receives = more.1;
      held = grown inside.client.held _ inside.inlet _ fed.bytes more.0 (sym more.2 ∙ fed.parts) (fed.held may);
      limit = (fed.more may).2;
    })
