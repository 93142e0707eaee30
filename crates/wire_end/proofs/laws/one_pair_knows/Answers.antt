use Rattle.std.proofs.Common.{List, subst}
use Rattle.wire_peer.specs.{LogEntry, new_server}
use Rattle.wire_model.specs.{ServerRun}
use Rattle.wire_model.proofs.Lemmas.{short_limit}
use Rattle.wire_end.specs.ServerEnds.{with_logged}
use Rattle.wire_end.proofs.OnePair.{are_answered, pair_knows}
use Rattle.wire_end.proofs.laws.one_pair_knows.Goals as goal

pub returns : goal.returns
returns g t = λ limit made near far acts served client server from to deeds is good none ran serves order arrive.
    let does = g.H.Handler.does in
    let stops = g.H.Handler.stops in
    let knows = pair_knows does stops limit (short_limit limit is) made good acts served deeds client.own from.handler (with_logged server.server to) ran.run
    (subst (λ (l : List LogEntry). ServerRun does stops (record { server = new_server 1 made.server_window limit; log = l; handler = from.handler }) served (with_logged server.server to)) none serves.run)
    order arrive in
    (knows, are_answered does stops limit made from.handler deeds client.own (with_logged server.server to) knows)
