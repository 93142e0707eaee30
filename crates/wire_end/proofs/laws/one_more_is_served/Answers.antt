use Rattle.std.proofs.Common.{List, length, subst, suc, sym}
use Rattle.wire_peer.specs.{LogEntry, log_of, new_server}
use Rattle.wire_model.specs.{ServerRun}
use Rattle.wire_model.proofs.Lemmas.{one_more}
use Rattle.wire_end.specs.ServerEnds.{with_logged}
use Rattle.wire_end.proofs.laws.one_more_is_served.Goals as goal

pub returns : goal.returns
returns g t = λ limit made turns acts old mid link new from to grown log handler runs.
    let does = g.H.Handler.does in
    let stops = g.H.Handler.stops in
    let server = new_server (suc (length mid.servers)) (made (suc (length mid.servers))).server_window limit in
    one_more does stops limit made turns acts old mid (with_logged new.server to) grown
    (subst (λ (l : List LogEntry). ServerRun does stops (record { server = server; log = l; handler = mid.handler }) acts (with_logged new.server to)) (sym log)
    (subst (λ h. ServerRun does stops (record { server = server; log = log_of from.entries.items; handler = h }) acts (with_logged new.server to)) (sym handler) runs.run))
