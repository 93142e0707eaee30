-- A reply that is given.
use Rattle.std.proofs.Common.{◌≡◌, ◌≢◌, ◌∙◌, ◌⊎◌, inl, inr, ℕ, pos, List, refl, ap, subst, sym, Some, Result, Ok, Err, IfErr, OnOk, OnErr, ℤ}
use mathlib.Core.Logic.{∥∥₁_prop}
use Rattle.wire_msg.specs.{Carries, Content, Message, SpellsMsg}
use Rattle.wire_peer.specs.{Asked, asked, asked_by}
use Rattle.wire_peer.specs.declared.requests.Request.{Request}
use Rattle.wire_peer.proofs.Lemmas.{of_content}
use Rattle.wire_share.specs.declared.refusals.GiveRefusal.TheVariants as given
use Rattle.bson_elem.specs.{Tree}
use Rattle.wire_share.specs.Needs.{command_in, opened_by}
use Rattle.wire_share.specs.Routing.{RoutesSeen, after_reply, without_cursor}
use Rattle.wire_peer.specs.{LogEntry, WaitsAt}
use Rattle.wire_peer.specs.declared.call_table.ReadyReply.{ReadyReply}
use Rattle.wire_model.specs.Owners as owners
use Rattle.wire_share.specs.declared.refusals.GiveRefusal.{GiveRefusal}
use Rattle.wire_share.specs.{DownSeen, GiveStep, UpSeen}
use Rattle.wire_serve.specs.{state_of}
use Rattle.wire_serve.specs.declared.cause.ConnState.TheVariants as conn_states
use Rattle.wire_share.specs.Sharing.{Awaits}
use Rattle.wire_share.specs.Refusing.{FollowFails, GiveFails}
use Rattle.wire_share.proofs.Standing.{some_same}
use Rattle.wire_share.specs.Acts.{Gives}
use Rattle.wire_share.specs.declared.client.Client.{Client}
use Rattle.wire_share.specs.declared.server.Server.{Server}
use Rattle.wire_share.specs.Cores.{CoreAct, CoreDoes, CoreRun, CoreSeen, Follows, Puts, RunsOut, Shares, command_of, recorded}
use Rattle.wire_share.proofs.Passing_on.{down_part, stays_put, up_part}
use Rattle.wire_share.proofs.Runs.{one_act}

pub gives : (old new : CoreSeen) (d u : ℕ) (x x' : Client) (y y' : Server) (r : Unit {0}) → old.downs d ≡ Some x → old.ups u ≡ Some y
    → Puts old.downs d (Some x') new.downs → Puts old.ups u (Some y') new.ups → x'.kept ≡ x.kept → y.upstream.number ≡ u → y'.used ≡ y.used
    → new.accepted ≡ old.accepted → new.opened ≡ old.opened
    → ((m answer : Message) → WaitsAt x.downstream.conn.server 0 m → SpellsMsg answer y.upstream.client.held → Follows (command_of m) answer.content.body u old.routes new.routes)
    → GiveStep (Ok r) x.downstream y.upstream x'.downstream y'.upstream
    → (m answer : Message) × (reply : ReadyReply) × (made : List LogEntry) × CoreDoes (Shares (Gives d u m reply answer made)) old new
gives old new d u x x' y y' r x_at y_at downs ups kept number used accepted opened follows s =
    let reply = s.0 in
    let m = s.1 in
    let answer = s.2 in
    let made = s.7.leaves.log in
    let awaits : x.downstream.awaited ≡ Some (record { upstream = u; call = reply.call }) =
    s.4.awaited ∙ ap (λ (n : ℕ). Some (record { upstream = n; call = reply.call })) number in (
      m,
      answer,
      reply,
      made,
      record {
        fit = tt;
        bytes = tt;
        permitted = tt;
        downs = λ e. down_part d e _ old.downs new.downs x x' x_at downs (awaits, s.5, (s.7, refl), s.8) kept;
        ups = λ v. up_part u v (owners.Collects reply answer) old.ups new.ups y y' y_at ups
            (ap (λ (z : UpSeen). z.number) s.9, (λ records. (s.4.ready, s.6, ap (λ (z : UpSeen). record { client = z.client; records = recorded v (owners.Collects reply answer) records }) s.9))) used;
        routes = follows m answer s.5 s.6;
        accepted = accepted;
        opened = opened;
      },
    )

pub gives_on : (old new : CoreSeen) (d u : ℕ) (x x' : Client) (y y' : Server) (result : Result (Unit {0}) GiveRefusal) → old.downs d ≡ Some x → old.ups u ≡ Some y
    → Puts old.downs d (Some x') new.downs → Puts old.ups u (Some y') new.ups → x'.kept ≡ x.kept → y.upstream.number ≡ u → y'.used ≡ y.used
    → new.accepted ≡ old.accepted → new.opened ≡ old.opened
    → ((m answer : Message) → WaitsAt x.downstream.conn.server 0 m → SpellsMsg answer y.upstream.client.held → Follows (command_of m) answer.content.body u old.routes new.routes)
    → GiveStep result x.downstream y.upstream x'.downstream y'.upstream
    → OnOk result ((m answer : Message) × (reply : ReadyReply) × (made : List LogEntry) × CoreDoes (Shares (Gives d u m reply answer made)) old new)
gives_on old new d u x x' y y' (Ok r) x_at y_at downs ups kept number used accepted opened follows s =
    gives old new d u x x' y y' r x_at y_at downs ups kept number used accepted opened follows s
gives_on old new d u x x' y y' (Err e) x_at y_at downs ups kept number used accepted opened follows s = tt

-- whatever comes of it, the connection keeps its number
pub same_number : (result : Result (Unit {0}) GiveRefusal) (d d' : DownSeen) (u u' : UpSeen) → GiveStep result d u d' u' → u'.number ≡ u.number
same_number (Ok r) d d' u u' s = ap (λ (z : UpSeen). z.number) s.9
same_number (Err given.NotAwaited) d d' u u' s = ap (λ (z : UpSeen). z.number) s.2
same_number (Err given.Closed) d d' u u' s = ap (λ (z : UpSeen). z.number) s.3
same_number (Err given.OutOfMemory) d d' u u' s = ap (λ (z : UpSeen). z.number) s.3

-- ---- what the reply tells

pub noted : (r : Request) (m answer : Message) (u : ℕ) (old new : RoutesSeen) → asked r ≡ asked_by m
    → ((c : Content) → Carries r.payload c → (new ≡ after_reply (command_in c.body) answer.content.body u old) ⊎ ((id : ℤ) × (new ≡ without_cursor (command_in c.body) id old)))
    → Follows (command_of m) answer.content.body u old new
noted r m answer u old new same each =
    subst (λ (c : Content). Follows (command_in c.body) answer.content.body u old new) (ap (λ (a : Asked). a.payload) same)
    (of_content r.payload {P = λ c. Follows (command_in c.body) answer.content.body u old new} ∥∥₁_prop (λ c carries. ∣ each c carries ∣₁))

pub told_by : {T E : Type 0} (result : Result T E) (request : Tree) (answer : Message) (u : ℕ) (old new : RoutesSeen) → OnOk result (new ≡ after_reply request answer.content.body u old)
    → OnErr result ((id : ℤ) × (opened_by answer.content.body ≡ Some id) × (id ≢ pos 0) × (new ≡ without_cursor request id old))
    → (new ≡ after_reply request answer.content.body u old) ⊎ ((id : ℤ) × (new ≡ without_cursor request id old))
told_by (Ok t) request answer u old new a b = inl a
told_by (Err e) request answer u old new a b = inr (b.0, b.3)

-- ---- a run, whatever came of it

refused : (e : GiveRefusal) (d d' : DownSeen) (u u' : UpSeen) → GiveStep (Err e) d u d' u' → (d' ≡ d) × (u' ≡ u)
refused given.NotAwaited d d' u u' s = (s.1, s.2)
refused given.Closed d d' u u' s = (s.2, s.3)
refused given.OutOfMemory d d' u u' s = (s.2, s.3)

pub ran_out : (old new : CoreSeen) (d u : ℕ) (x x' : Client) (y y' : Server) → old.downs d ≡ Some x → old.ups u ≡ Some y
    → Puts old.downs d (Some x') new.downs → Puts old.ups u (Some y') new.ups → x' ≡ x → y' ≡ y → new.accepted ≡ old.accepted → new.opened ≡ old.opened
    → (acts : List CoreAct) × CoreRun old acts new
ran_out old new d u x x' y y' x_at y_at downs ups same alike accepted opened =
    one_act RunsOut old new (record {
      downs = stays_put d old.downs new.downs (Some x) (Some x') x_at downs (ap Some same);
      ups = stays_put u old.ups new.ups (Some y) (Some y') y_at ups (ap Some alike);
      accepted = accepted;
      opened = opened;
    })

pub gives_run : (old new : CoreSeen) (d u : ℕ) (x x' : Client) (y y' : Server) (result : Result (Unit {0}) GiveRefusal) → old.downs d ≡ Some x → old.ups u ≡ Some y
    → Puts old.downs d (Some x') new.downs → Puts old.ups u (Some y') new.ups → x'.kept ≡ x.kept → y.upstream.number ≡ u → y'.used ≡ y.used
    → new.accepted ≡ old.accepted → new.opened ≡ old.opened
    → ((m answer : Message) → WaitsAt x.downstream.conn.server 0 m → SpellsMsg answer y.upstream.client.held → Follows (command_of m) answer.content.body u old.routes new.routes)
    → GiveStep result x.downstream y.upstream x'.downstream y'.upstream
    → (acts : List CoreAct) × CoreRun old acts new
gives_run old new d u x x' y y' (Ok r) x_at y_at downs ups kept number used accepted opened follows s =
    let p = gives old new d u x x' y y' r x_at y_at downs ups kept number used accepted opened follows s in
    one_act (Shares (Gives d u p.0 p.2 p.1 p.3)) old new p.4
gives_run old new d u x x' y y' (Err e) x_at y_at downs ups kept number used accepted opened follows s =
    let same = refused e x.downstream x'.downstream y.upstream y'.upstream s in
    ran_out old new d u x x' y y' x_at y_at downs ups (λ i. record { downstream = same.0 i; kept = kept i }) (λ i. record { upstream = same.1 i; used = used i }) accepted opened

-- ---- where none is given

-- what comes of a refusal to note what the reply tells
pub unnoted : (e : GiveRefusal) (d u : ℕ) (old new : CoreSeen) (x : Client) (y : Server) → old.downs d ≡ Some x → old.ups u ≡ Some y → (new.routes ≡ old.routes → new ≡ old)
    → FollowFails e x y old.routes new.routes → GiveFails e d u old new
unnoted given.NotAwaited d u old new x y at there same f = (
  same f.0,
  (λ x' y' reply m at' there' awaits waits.
      f.1 reply m
      (subst (λ (z : Client). Awaits z.downstream y.upstream reply) (some_same x' x (sym at' ∙ at)) (subst (λ (z : Server). Awaits x'.downstream z.upstream reply) (some_same y' y (sym there' ∙ there)) awaits))
      (subst (λ (z : Client). WaitsAt z.downstream.conn.server 0 m) (some_same x' x (sym at' ∙ at)) waits)),
)
unnoted given.Closed d u old new x y at there same f = (same f.0, x, at, f.1)
unnoted given.OutOfMemory d u old new x y at there same f = tt

-- where what it tells is noted, it is given, or memory runs out
pub ungiven : (result : Result (Unit {0}) GiveRefusal) (d u : ℕ) (old new : CoreSeen) (x : Client) (y : Server) (d' : DownSeen) (u' : UpSeen)
    → ((reply : ReadyReply) × Awaits x.downstream y.upstream reply) → state_of x.downstream.conn ≡ conn_states.Open → GiveStep result x.downstream y.upstream d' u'
    → IfErr result (λ e. GiveFails e d u old new)
ungiven (Ok r) d u old new x y d' u' awaits open_ s = tt
ungiven (Err given.NotAwaited) d u old new x y d' u' awaits open_ s = absurd (s.0 awaits.0 awaits.1)
ungiven (Err given.Closed) d u old new x y d' u' awaits open_ s = absurd (s.1 open_)
ungiven (Err given.OutOfMemory) d u old new x y d' u' awaits open_ s = tt
