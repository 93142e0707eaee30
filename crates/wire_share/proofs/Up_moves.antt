-- Bytes that are moved at a connection to the server, and a reply that is let go of.
use Rattle.std.proofs.Common.{◌≡◌, ap, subst, ℕ, List, [], ◌++◌, length, refl, sym, Option, Some, Result, Ok, Err, IfOk, IfSome, None, true, false, OnErr, take, arith}
use Rattle.std.specs.Prelude.{is_some, option_map}
use Rattle.std.proofs.Math.Seq.{take-length}
use Rattle.bson_elem.proofs.Lemmas.{IsBytes-take}
use Rattle.bson_elem.specs.{IsBytes}
use Rattle.wire_msg.specs.{IsMessage, Message, SpellsMsg}
use Rattle.wire_peer.specs.{ClientSeen, MayTake, Settles, Takes, ended, holding, ready_of, released}
use Rattle.wire_peer.specs.declared.reply.Reply.{Reply}
use Rattle.wire_peer.specs.declared.call_table.ReadyReply.{ReadyReply}
use Rattle.wire_model.specs.{ClientTakes}
use Rattle.wire_model.specs.Owners as owners
use Rattle.wire_stream.specs.{HoldsNoMore}
use Rattle.wire_share.specs.{UpSeen}
use Rattle.wire_share.specs.Sharing.{with_client}
use Rattle.wire_share.specs.Acts.{EndsUp, LetsGo, SendsUp, TakesUp}
use Rattle.wire_share.specs.declared.server.Server.{Server}
use Rattle.wire_share.specs.Cores.{CoreAct, CoreDoes, CoreRun, CoreSeen, Puts, Shares, recorded}
use Rattle.wire_share.proofs.Passing_on.{same_core, stays_put, up_part}
use Rattle.wire_share.proofs.Runs.{one_act}

-- a connection moved, and nothing else did
abbrev pub with_ups : CoreSeen → (ℕ → Option Server) → CoreSeen
with_ups s ups = record { downs = s.downs; ups = ups; routes = s.routes; accepted = s.accepted; opened = s.opened }

module _ (old : CoreSeen) (news : ℕ → Option Server) (u : ℕ) (y y' : Server) (at : old.ups u ≡ Some y) (puts : Puts old.ups u (Some y') news) where
  pub sends_up : (bytes rest : List ℕ) → y.upstream.client.requests.output ≡ bytes ++ rest
      → y'.upstream ≡ with_client y.upstream (record (y.upstream.client) { requests = record (y.upstream.client.requests) { output = rest } }) → y'.used ≡ y.used
      → CoreDoes (Shares (SendsUp u bytes)) old (with_ups old news)
  sends_up bytes rest front is used = record {
    fit = tt;
    bytes = tt;
    permitted = tt;
    downs = λ d. refl;
    ups = λ v. up_part u v (owners.SendsUp bytes) old.ups news y y' at puts
        (ap (λ (z : UpSeen). z.number) is, (λ records. (rest, front, ap (λ (z : UpSeen). record { client = z.client; records = records }) is))) used;
    routes = refl;
    accepted = refl;
    opened = refl;
  }

  pub ends_up : y'.upstream ≡ with_client y.upstream (ended y.upstream.client) → y'.used ≡ y.used → CoreDoes (Shares (EndsUp u)) old (with_ups old news)
  ends_up is used = record {
    fit = tt;
    bytes = tt;
    permitted = tt;
    downs = λ d. refl;
    ups = λ v. up_part u v owners.EndsDown old.ups news y y' at puts
        (ap (λ (z : UpSeen). z.number) is, (λ records. ap (λ (z : UpSeen). record { client = z.client; records = recorded v owners.EndsDown records }) is)) used;
    routes = refl;
    accepted = refl;
    opened = refl;
  }

  pub lets_go : (reply : ReadyReply) (m : Message) → y.upstream.client.reply ≡ Some reply → SpellsMsg m y.upstream.client.held
      → y'.upstream ≡ with_client y.upstream (released y.upstream.client) → y'.used ≡ y.used → CoreDoes (Shares (LetsGo u reply m)) old (with_ups old news)
  lets_go reply m ready spells is used = record {
    fit = tt;
    bytes = tt;
    permitted = tt;
    downs = λ d. refl;
    ups = λ v. up_part u v (owners.Collects reply m) old.ups news y y' at puts
        (ap (λ (z : UpSeen). z.number) is, (λ records. (ready, spells, ap (λ (z : UpSeen). record { client = z.client; records = recorded v (owners.Collects reply m) records }) is))) used;
    routes = refl;
    accepted = refl;
    opened = refl;
  }

  pub takes_up : (bytes : List ℕ) → IsBytes bytes → ClientTakes y.upstream.client bytes y'.upstream.client → y'.upstream.number ≡ y.upstream.number → y'.used ≡ y.used
      → CoreDoes (Shares (TakesUp u bytes)) old (with_ups old news)
  takes_up bytes are takes number used = record {
    fit = tt;
    bytes = are;
    permitted = tt;
    downs = λ d. refl;
    ups = λ v. up_part u v (owners.TakesDown bytes) old.ups news y y' at puts (number, (λ records. (y'.upstream.client, takes, refl))) used;
    routes = refl;
    accepted = refl;
    opened = refl;
  }

  pub unmoved : y' ≡ y → (acts : List CoreAct) × CoreRun old acts (with_ups old news)
  unmoved same = ([], same_core old _ (λ d. refl) (stays_put u old.ups news (Some y) (Some y') at puts (ap Some same)) refl refl refl)

-- what was taken of a piece, as a piece of its own
took : (old new : ClientSeen) (piece : List ℕ) (n : ℕ) → MayTake old → Takes old piece n new → ClientTakes old (take n piece) new
took old new piece n may t = record {
  may = may;
  takes = record {
    within = omega arith;
    no_more = subst (λ (x : List ℕ). HoldsNoMore old.requests.limit (old.held ++ x)) same t.no_more;
    all = λ is. refl;
    settles = subst (λ (x : List ℕ). Settles (holding old (old.held ++ x)) new) same t.settles;
  };
}
  where
    same : take n piece ≡ take (length (take n piece)) (take n piece)
    same = sym (take-length (take n piece))

-- what a connection that may take bytes was fed
pub fed_up : {E : Type 0} (result : Result ℕ E) (old : CoreSeen) (news : ℕ → Option Server) (u : ℕ) (y y' : Server) (piece : List ℕ) → old.ups u ≡ Some y → Puts old.ups u (Some y') news
    → IsBytes piece → MayTake y.upstream.client → IfOk result (λ n. Takes y.upstream.client piece n y'.upstream.client) → y'.upstream.number ≡ y.upstream.number → y'.used ≡ y.used
    → IfOk result (λ n. CoreDoes (Shares (TakesUp u (take n piece))) old (with_ups old news))
fed_up (Ok n) old news u y y' piece at puts are may takes number used =
    takes_up old news u y y' at puts (take n piece) (IsBytes-take n piece are) (took y.upstream.client y'.upstream.client piece n may takes) number used
fed_up (Err e) old news u y y' piece at puts are may takes number used = tt

-- and the acts that led to it
pub fed_run : {E : Type 0} (result : Result ℕ E) (old : CoreSeen) (news : ℕ → Option Server) (u : ℕ) (y y' : Server) (piece : List ℕ) → old.ups u ≡ Some y → Puts old.ups u (Some y') news
    → IfOk result (λ n. CoreDoes (Shares (TakesUp u (take n piece))) old (with_ups old news)) → OnErr result (y' ≡ y) → (acts : List CoreAct) × CoreRun old acts (with_ups old news)
fed_run (Ok n) old news u y y' piece at puts does same = one_act (Shares (TakesUp u (take n piece))) old (with_ups old news) does
fed_run (Err e) old news u y y' piece at puts does same = unmoved old news u y y' at puts same

-- a reply that is ready is let go of
pub releases_run : (reply : Option Reply) (old : CoreSeen) (news : ℕ → Option Server) (u : ℕ) (y y' : Server) → old.ups u ≡ Some y → Puts old.ups u (Some y') news
    → is_some reply ≡ true → option_map ready_of reply ≡ y.upstream.client.reply → IfSome reply (λ r. IsMessage y.upstream.client.requests.limit y.upstream.client.held)
    → y'.upstream ≡ with_client y.upstream (released y.upstream.client) → y'.used ≡ y.used → (acts : List CoreAct) × CoreRun old acts (with_ups old news)
releases_run None old news u y y' at puts some ready message is used = absurd (false-true some)
  where
    false-true : false ≡ true → ⊥
    false-true p = cc
releases_run (Some r) old news u y y' at puts some ready message is used =
    one_act (Shares (LetsGo u (ready_of r) message.1.0)) old (with_ups old news) (lets_go old news u y y' at puts (ready_of r) message.1.0 (sym ready) message.1.1 is used)

-- a connection whose client stays as it is
pub server_kept : {E : Type 0} (result : Result ℕ E) (y : Server) (u : UpSeen) → OnErr result (u ≡ y.upstream) → OnErr result (record { upstream = u; used = y.used } ≡ y)
server_kept (Ok n) y u same = tt
server_kept (Err e) y u same = λ i. record { upstream = same i; used = y.used }
