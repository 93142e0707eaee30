-- Pieces of a server's output that go into the client, one after another.
use Rattle.std.proofs.Common.{◌≡◌, ℕ, ◌+◌, ◌-◌, ◌<◌, ◌≤◌, inl, inr, Bool, true, false, true≢false, List, [], ◌∷◌, ◌++◌, length, take, drop, Option, None, Some, ap, refl, sym, subst, ◌∙◌, arith}
use Rattle.std.specs.Prelude.{min, Ok, Err}
use Rattle.std.proofs.lemmas.List.{length-take, length-take-le, take-append-drop}
use Rattle.wire_peer.specs.{ClientSeen, ended, ServerView, released}
use Rattle.wire_model.specs.{Conn, Record, ended_server, is_closed}
use Rattle.wire_peer.specs.ClientSteps.{after_release, state_after}
use Rattle.wire_peer.specs.declared.call_table.ReadyReply.{ReadyReply}
use Rattle.wire_peer.specs.declared.client_state.ClientCause.{ClientCause}
use Rattle.wire_peer.specs.declared.client_state.ClientState.{ClientState}
use Rattle.wire_peer.specs.declared.client_state.ClientState.TheVariants as clients
use Rattle.wire_world.specs.Connections.{conn_of}
use Rattle.wire_model.specs.Moves.{ClientTakes, ClientTakesAll, CopiesReply, joined, with_server_output}
use Rattle.wire_model.specs.Happening.{ClientWantsRoom}
use Rattle.wire_world.specs.Moving.{FedClient, GoneDown, MovedDown, DownEnd, DownResult, PartDown, Stopped, Unfed}
use Rattle.wire_world.proofs.Pieces.{joined_more, joined_one, take_front, length_more, split_output, left_none, length_take_within}

pub down_none : (indexes : List ℕ) (kc : ClientSeen) (ks : ServerView) (calls : List Record) (client : ClientSeen) (server : ServerView) → client ≡ kc → server ≡ ks → GoneDown indexes kc ks calls 0 client server calls
down_none indexes kc ks calls client server e f = record {
  pieces = [];
  many = refl;
  output = sym (ap (λ (s : ServerView). s.output) f);
  takes = (e, refl);
  server_is = f ∙ ap (λ (s : ServerView). with_server_output ks s.output) (sym f);
}

client_after : (indexes : List ℕ) (ps : List (List ℕ)) (p : List ℕ) (old mid half new : ClientSeen) (calls c d : List Record) → ClientTakesAll indexes old calls ps mid c → ClientTakes mid p half
    → CopiesReply indexes half.held half.reply c d → new ≡ released half → ClientTakesAll indexes old calls (ps ++ p ∷ []) new d
client_after indexes [] p old mid half new calls c d all one copies e =
    (half, subst (λ (k : ClientSeen). ClientTakes k p half) all.0 one, (d, subst (λ (x : List Record). CopiesReply indexes half.held half.reply x d) all.1 copies, (e, refl)))
client_after indexes (q ∷ ps) p old mid half new calls c d all one copies e =
    (all.0, all.1, (all.2.0, all.2.1, client_after indexes ps p (released all.0) mid half new all.2.0 c d all.2.2 one copies e))

length_joined_one : (xs : List (List ℕ)) (p : List ℕ) (n : ℕ) → length p ≡ n → length (joined xs) + n ≡ length (joined (xs ++ p ∷ []))
length_joined_one xs p n e = length_more (joined xs) p n e ∙ ap length (ap (λ (b : List ℕ). joined xs ++ b) (sym (joined_one p)) ∙ sym (joined_more xs (p ∷ [])))

pub down_more : (indexes : List ℕ) (kc : ClientSeen) (ks : ServerView) (calls c d : List Record) (moved : ℕ) (client next : ClientSeen) (server after : ServerView) (piece : List ℕ) (m taken : ℕ) → piece ≡ take m server.output
    → GoneDown indexes kc ks calls moved client server c → FedClient indexes client c piece taken next d → after ≡ with_server_output server (drop taken server.output) → GoneDown indexes kc ks calls (moved + taken) next after d
down_more indexes kc ks calls c d moved client next server after piece m taken is g f e =
    let p : List ℕ = take taken (take m server.output) in
    let within : taken ≤ length (take m server.output) = subst (λ (b : List ℕ). taken ≤ length b) is f.within in
    let left : after.output ≡ drop taken server.output = ap (λ (s : ServerView). s.output) e in
    record {
      pieces = g.pieces ++ p ∷ [];
      many = ap (λ (k : ℕ). k + taken) g.many ∙ length_joined_one g.pieces p taken (length-take-le taken (take m server.output) within);
      output = split_output server.output (joined g.pieces) [] ks.output m taken g.output within
          ∙ ap (λ (b : List ℕ). b ++ drop taken server.output) (ap (λ (b : List ℕ). joined g.pieces ++ b) (sym (joined_one p)) ∙ sym (joined_more g.pieces (p ∷ [])))
          ∙ ap (λ (b : List ℕ). joined (g.pieces ++ p ∷ []) ++ b) (sym left);
      takes = client_after indexes g.pieces p kc client f.mid next calls c d g.takes (subst (λ (b : List ℕ). ClientTakes client (take taken b) f.mid) is f.takes) f.copies f.after;
      server_is = e ∙ ap (λ (s : ServerView). with_server_output s (drop taken server.output)) g.server_is ∙ ap (with_server_output ks) (sym left);
    }

abbrev pub moved_down : (old new : Conn) (n : ℕ) (calls d : List Record) (moved : ℕ) (client : ClientSeen) (server : ServerView) → moved ≤ n → GoneDown old.calls old.client old.server calls moved client server d
    → new ≡ record old { client = client; server = server } → MovedDown old n calls new d
moved_down old new n calls d moved client server le g e = record {
  pieces = g.pieces;
  rest = server.output;
  output = g.output;
  at_most = let m = g.many in omega (arith, m, le);
  client = client;
  takes = g.takes;
  after = e ∙ ap (λ (s : ServerView). let x : Conn = record old { client = client; server = s } in x) g.server_is;
}

-- memory ran out on the way
pub stopped : (old done : Conn) (n : ℕ) (calls d : List Record) (moved : ℕ) (client next : ClientSeen) (server after : ServerView) (piece : List ℕ) (m taken : ℕ) → moved ≤ n → m ≤ n - moved → piece ≡ take m server.output
    → GoneDown old.calls old.client old.server calls moved client server d → Unfed client piece taken next → after ≡ with_server_output server (drop taken server.output) → done ≡ record old { client = next; server = after } → Stopped old n calls done d
stopped old done n calls d moved client next server after piece m taken le small is g (inl u) e at =
    inl (
      moved_down old done n calls d moved client server le g (at ∙ ap (λ (k : ClientSeen). let x : Conn = record old { client = k; server = after } in x) u.1
          ∙ ap (λ (s : ServerView). let x : Conn = record old { client = client; server = s } in x) (e ∙ ap (λ (t : ℕ). with_server_output server (drop t server.output)) u.0)),
      (m, (let q = g.many in omega (arith, q, le, small)), subst (ClientWantsRoom client) is u.2),
    )
stopped old done n calls d moved client next server after piece m taken le small is g (inr u) e at =
    inr (
      record old { client = client; server = server },
      moved_down old (record old { client = client; server = server }) n calls d moved client server le g refl,
      record {
        piece = take taken piece;
        rest = drop taken server.output;
        output = sym (take-append-drop taken server.output) ∙ ap (λ (b : List ℕ). b ++ drop taken server.output) (sym (take_front taken m server.output (subst (λ (b : List ℕ). taken ≤ length b) is u.0)) ∙ ap (take taken) (sym is));
        at_most = let a = length_take_within taken piece in let b = length_take_within m server.output in let w : taken ≤ length (take m server.output) = subst (λ (b : List ℕ). taken ≤ length b) is u.0 in let q = g.many in omega (arith, a, b, w, q, small);
        client = next;
        takes = u.1;
        ready = u.2;
        after = at ∙ ap (λ (s : ServerView). let x : Conn = record old { client = next; server = s } in x) e;
      },
    )

pub released_none : (k : ClientSeen) → (released k).reply ≡ None
released_none k = by k.reply refl
  where
    by : (o : Option ReadyReply) → k.reply ≡ o → (after_release o k).reply ≡ None
    by None e = e
    by (Some r) e = refl

no_error : (s : ClientState) (cause : ClientCause) → state_after s cause ≡ clients.Open → ⊥
no_error clients.Open cause e = true≢false (ap is_closed e)
no_error (clients.Closed c) cause e = true≢false (ap is_closed e)

pub ended_closed : (k : ClientSeen) → (ended k).state ≡ clients.Open → ⊥
ended_closed k e = no_error k.state _ e

-- a loop's end says how the move ends, if memory didn't run out
pub down_ok : (E : Type 0) (old : Conn) (inside : Option ClientSeen) (k client : ClientSeen) (s server : ServerView) (indexes : List ℕ) (u d : Bool) (n moved : ℕ) (calls calls' : List Record) → conn_of inside s indexes u d ≡ old → inside ≡ Some k
    → DownEnd {E = E} indexes k s calls n client server calls' (Ok moved) → DownResult {E = E} old n calls (record { raw = false; client = client; server = server; calls = indexes; up_cut = u; down_cut = d }) calls' (Ok moved)
down_ok E old inside k client s server indexes u d n moved calls calls' view is p =
    let new : Conn = record { raw = false; client = client; server = server; calls = indexes; up_cut = u; down_cut = d } in
    let e : conn_of (Some k) s indexes u d ≡ old = ap (λ (o : Option ClientSeen). conn_of o s indexes u d) (sym is) ∙ view in
    subst (λ (o : Conn). DownResult {E = E} o n calls new calls' (Ok moved)) e
    (moved_down (conn_of (Some k) s indexes u d) new n calls calls' moved client server p.0 p.1 refl, p.1.many, p.3)

pub down_err : (E : Type 0) (x : E) (old : Conn) (inside : Option ClientSeen) (k client : ClientSeen) (s server : ServerView) (indexes : List ℕ) (u d : Bool) (n : ℕ) (calls calls' : List Record) → conn_of inside s indexes u d ≡ old → inside ≡ Some k
    → PartDown indexes k s calls n client server calls' → DownResult {E = E} old n calls (record { raw = false; client = ended client; server = ended_server server; calls = indexes; up_cut = true; down_cut = true }) calls' (Err x)
down_err E x old inside k client s server indexes u d n calls calls' view is p =
    let new : Conn = record { raw = false; client = ended client; server = ended_server server; calls = indexes; up_cut = true; down_cut = true } in
    let o : Conn = conn_of (Some k) s indexes u d in
    let done : Conn = record { raw = false; client = client; server = server; calls = indexes; up_cut = u; down_cut = d } in
    let e : o ≡ old = ap (λ (z : Option ClientSeen). conn_of z s indexes u d) (sym is) ∙ view in
    subst (λ (z : Conn). DownResult {E = E} z n calls new calls' (Err x)) e
    (done, stopped o done n calls calls' p.moved p.mid client p.half server (take p.many p.half.output) p.many p.taken p.at_most p.small refl p.gone p.unfed p.after refl, refl)

pub pass_down_none : (E : Type 0) (indexes : List ℕ) (kc client next : ClientSeen) (ks server : ServerView) (calls c d : List Record) (n moved taken m : ℕ) (piece : List ℕ) → moved < n → m ≡ min (length server.output) (n - moved) → piece ≡ take m server.output → taken ≡ 0
    → GoneDown indexes kc ks calls moved client server c → FedClient indexes client c piece taken next d → DownEnd {E = E} indexes kc ks calls n next server d (Ok moved)
pass_down_none E indexes kc client next ks server calls c d n moved taken m piece lt least is zero-is g f =
    let e : moved + taken ≡ moved = omega (arith, zero-is) in (
      omega (arith, lt),
      subst (λ (x : ℕ). GoneDown indexes kc ks calls x next server d) e
          (down_more indexes kc ks calls c d moved client next server server piece m taken is g f (ap (λ (t : ℕ). with_server_output server (drop t server.output)) (sym zero-is))),
      (λ live. ap (λ (k : ClientSeen). k.reply) f.after ∙ released_none f.mid),
      (λ less. inl (left_none server.output piece m (n - moved) least (omega (arith, lt)) is (f.none zero-is))),
    )

pub output_within : (taken m : ℕ) (out piece : List ℕ) → piece ≡ take m out → taken ≤ length piece → taken ≤ length out
output_within taken m out piece is le = omega (arith, subst (λ (b : List ℕ). taken ≤ length b) is le, length-take m out)

pub unfed_within : (k new : ClientSeen) (piece : List ℕ) (taken : ℕ) → Unfed k piece taken new → taken ≤ length piece
unfed_within k new piece taken (inl u) = let e = u.0 in omega (arith, e)
unfed_within k new piece taken (inr u) = u.0
