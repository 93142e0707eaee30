-- Pieces of a client's output that go into the server, one after another.
use Rattle.std.proofs.Common.{◌≡◌, ℕ, ◌+◌, ◌-◌, ◌<◌, ◌≤◌, ◌⊎◌, inl, inr, Bool, false, true≢false, List, [], ◌++◌, length, take, drop, Option, Some, ap, refl, sym, subst, ◌∙◌, arith}
use Rattle.std.specs.Result.{IsErr}
use Rattle.std.specs.Prelude.{min, Result, Ok, Err}
use Rattle.std.proofs.lemmas.List.{length-take-le}
use Rattle.wire_peer.specs.{ClientSeen, ServerView}
use Rattle.wire_model.specs.{Conn}
use Rattle.wire_world.specs.Connections.{conn_of}
use Rattle.wire_model.specs.Moves.{TakesNone, joined, with_client_output}
use Rattle.wire_model.specs.Happening.{WantsRoom}
use Rattle.wire_world.specs.Moving.{FedServer, MovedUp, GoneUp, UpEnd, UpResult}
use Rattle.wire_world.proofs.Pieces.{joined_more, length_more, split_output, left_none, takes_after}

pub gone_none : (kc : ClientSeen) (ks : ServerView) (client : ClientSeen) (server : ServerView) → client ≡ kc → server ≡ ks → GoneUp kc ks 0 client server
gone_none kc ks client server e f = record {
  pieces = [];
  many = refl;
  output = sym (ap (λ (k : ClientSeen). k.requests.output) e);
  takes = f;
  client_is = e ∙ ap (λ (k : ClientSeen). with_client_output kc k.requests.output) (sym e);
}

pub gone_more : (kc : ClientSeen) (ks : ServerView) (moved : ℕ) (client next : ClientSeen) (server after : ServerView) (piece : List ℕ) (m taken : ℕ) → piece ≡ take m client.requests.output
    → GoneUp kc ks moved client server → FedServer server piece taken after → next ≡ with_client_output client (drop taken client.requests.output) → GoneUp kc ks (moved + taken) next after
gone_more kc ks moved client next server after piece m taken is g f e =
    let within : taken ≤ length (take m client.requests.output) = subst (λ (b : List ℕ). taken ≤ length b) is f.within in
    let are : joined f.pieces ≡ take taken (take m client.requests.output) = f.are ∙ ap (take taken) is in
    let left : next.requests.output ≡ drop taken client.requests.output = ap (λ (k : ClientSeen). k.requests.output) e in
    record {
      pieces = g.pieces ++ f.pieces;
      many = ap (λ (k : ℕ). k + taken) g.many ∙ length_more (joined g.pieces) (joined f.pieces) taken (ap length are ∙ length-take-le taken (take m client.requests.output) within)
          ∙ ap length (sym (joined_more g.pieces f.pieces));
      output = split_output client.requests.output (joined g.pieces) [] kc.requests.output m taken g.output within
          ∙ ap (λ (b : List ℕ). (joined g.pieces ++ b) ++ drop taken client.requests.output) (sym are)
          ∙ ap (λ (b : List ℕ). b ++ drop taken client.requests.output) (sym (joined_more g.pieces f.pieces))
          ∙ ap (λ (b : List ℕ). joined (g.pieces ++ f.pieces) ++ b) (sym left);
      takes = takes_after g.pieces f.pieces ks server after g.takes f.takes;
      client_is = e ∙ ap (λ (k : ClientSeen). with_client_output k (drop taken client.requests.output)) g.client_is ∙ ap (with_client_output kc) (sym left);
    }

abbrev pub moved_up : (old new : Conn) (n moved : ℕ) (client : ClientSeen) (server : ServerView) → moved ≤ n → GoneUp old.client old.server moved client server → new ≡ record old { client = client; server = server } → MovedUp old n new
moved_up old new n moved client server le g e = record {
  pieces = g.pieces;
  rest = client.requests.output;
  output = g.output;
  at_most = let m = g.many in omega (arith, m, le);
  server = server;
  takes = g.takes;
  after = e ∙ ap (λ (k : ClientSeen). let x : Conn = record old { client = k; server = server } in x) g.client_is;
}

-- a loop's end says how the move ends
pub up_result : {E : Type 0} (old new : Conn) (n moved : ℕ) (client : ClientSeen) (server : ServerView) (r : Result ℕ E) → moved ≤ n → GoneUp old.client old.server moved client server
    → UpEnd n moved client server r → new ≡ record old { client = client; server = server } → (m : MovedUp old n new) × UpResult m r
up_result old new n moved client server (Ok k) le g end e = (moved_up old new n moved client server le g e, (end.0 ∙ g.many, λ lt. end.1 (subst (λ (x : ℕ). x < n) end.0 lt)))
up_result old new n moved client server (Err x) le g end e = (moved_up old new n moved client server le g e, (end.0, (let w = end.1 in let q = g.many in omega (arith, w, q)), end.2))

pub pass_up_err : {E : Type 0} (n moved m : ℕ) (kc client : ClientSeen) (ks server after : ServerView) (piece : List ℕ) (r : Result ℕ E) → IsErr r → moved ≤ n → m ≤ n - moved → piece ≡ take m client.requests.output
    → GoneUp kc ks moved client server → WantsRoom server piece → after ≡ server → (x : ℕ) × (x ≤ n) × GoneUp kc ks x client after × UpEnd n x client after r
pass_up_err n moved m kc client ks server after piece (Ok k) is le small e g w same = absurd (true≢false (sym is))
pass_up_err n moved m kc client ks server after piece (Err x) is le small e g w same =
    (moved, le, subst (GoneUp kc ks moved client) (sym same) g, (m, omega (arith, le, small), subst (λ (s : ServerView). WantsRoom s (take m client.requests.output)) (sym same) (subst (WantsRoom server) e w)))

pub pass_up_none : (n moved taken m : ℕ) (kc client : ClientSeen) (ks server after : ServerView) (piece : List ℕ) → moved < n → m ≡ min (length client.requests.output) (n - moved) → piece ≡ take m client.requests.output → taken ≡ 0
    → GoneUp kc ks moved client server → FedServer server piece taken after → (x : ℕ) × (x ≤ n) × GoneUp kc ks x client after × ((moved ≡ x) × (x < n → (client.requests.output ≡ []) ⊎ TakesNone after))
pass_up_none n moved taken m kc client ks server after piece lt least is zero-is g f = (
  moved + taken,
  omega (arith, lt, zero-is),
  gone_more kc ks moved client client server after piece m taken is g f (ap (λ (t : ℕ). with_client_output client (drop t client.requests.output)) (sym zero-is)),
  (omega (arith, zero-is), λ less. last (f.none zero-is)),
)
  where
    last : (piece ≡ []) ⊎ TakesNone after → (client.requests.output ≡ []) ⊎ TakesNone after
    last (inl e) = inl (left_none client.requests.output piece m (n - moved) least (omega (arith, lt)) is e)
    last (inr t) = inr t

pub up_whole : {E : Type 0} (old : Conn) (inside : Option ClientSeen) (k client : ClientSeen) (s server : ServerView) (calls : List ℕ) (u d : Bool) (n : ℕ) (r : Result ℕ E) → conn_of inside s calls u d ≡ old → inside ≡ Some k
    → (moved : ℕ) × (moved ≤ n) × GoneUp k s moved client server × UpEnd n moved client server r
    → (m : MovedUp old n (record { raw = false; client = client; server = server; calls = calls; up_cut = u; down_cut = d })) × UpResult m r
up_whole old inside k client s server calls u d n r view is p =
    let new : Conn = record { raw = false; client = client; server = server; calls = calls; up_cut = u; down_cut = d } in
    let e : conn_of (Some k) s calls u d ≡ old = ap (λ (o : Option ClientSeen). conn_of o s calls u d) (sym is) ∙ view in
    subst (λ (o : Conn). (m : MovedUp o n new) × UpResult m r) e (up_result (conn_of (Some k) s calls u d) new n p.0 client server r p.1 p.2 p.3 refl)
