use Rattle.std.proofs.Common.{◌∙◌, ◌++◌, ◌∷◌, [], ap, refl}
use Rattle.std.proofs.lemmas.List.{map_push}
use Rattle.wire_end.specs.Records.{record_of, records_of}
use Rattle.wire_end.proofs.Runs.{called_runs}
use Rattle.wire_end.proofs.client_end.ClientEnd.call_as.Goals as goal

pub returns-clause-called : goal.returns-clause-called
returns-clause-called g c =
    let L = g.L.Link in
    let connection = c.self.inside.connection in
    let is = c.in_ok-call.ensures.called in
    rw (← c.self.view_is) (called_runs L.sent L.received _ _ _ _ c.args.kind c.args.payload c.in_ok-call.call is.0
    is.1 (ap (records_of connection) c.push_reserved.ensures.items
    ∙ ap (λ rs. records_of connection (rs ++ c.in-Ok.record ∷ [])) c.in-Ok-try_reserve.ensures.items
    ∙ map_push (record_of connection) c.self.inside.records.items c.in-Ok.record
    ∙ ap (λ x. records_of connection c.self.inside.records.items ++ x ∷ []) (c.in-Ok.ensures connection)) refl)
