-- What the server of a server connection is fed when the server connection takes bytes.
use Rattle.std.proofs.Common.{◌≡◌, ℕ, ◌≤◌, inr, List, [], ◌∷◌, ◌++◌, length, take, false, Option, ap, arith, refl, sym, subst, ◌∙◌, append_assoc, append-nil}
use Rattle.std.proofs.Math.Seq.{take-length}
use Rattle.wire_msg.specs.{Message, SpellsMsg, canonical}
use Rattle.wire_msg.proofs.Lemmas.{whole_read}
use Rattle.wire_stream.specs.{StandsAt}
use Rattle.wire_stream.specs.declared.reader_state.ReaderState.{ReaderState}
use Rattle.wire_stream.specs.declared.reader_state.ReaderState.TheVariants.{Bad, Need, Ready}
use Rattle.wire_peer.specs.{ServerView, TakesBytes}
use Rattle.wire_peer.specs.Servers.{holding}
use Rattle.wire_query.specs.{message_of}
use Rattle.wire_query.proofs.Lemmas.{message_spelled}
use Rattle.wire_serve.specs.ServerConnections.{ConnTakes, ConnView, IsReady, asks, begins, gathers, goes_on, refuses}
use Rattle.wire_serve.specs.Passing.{with_request}
use Rattle.wire_serve.specs.declared.cause.CloseCause.{CloseCause}
use Rattle.wire_model.specs.{ServerAct, ServerMovesOn, bytes_sent_down, bytes_taken_up}
use Rattle.wire_model.specs.Owners.{TakesUp}
use Rattle.wire_serve.specs.Owning.{FedAs, IsFed, and_a_message, and_a_query}
use Rattle.wire_msg.specs.declared.header.TheConstants.{MAX_MESSAGE_LEN}

-- ---- a whole message

-- a server between messages, in which none waits, takes all of a message at once
whole_taken : (s : ServerView) (msg : List ℕ) (m : Message) → s.held ≡ [] → s.waiting ≡ [] → SpellsMsg m msg → length msg ≤ s.limit
    → TakesBytes s msg (length msg) (with_request s msg)
whole_taken s msg m none waits spelled le =
    let w = whole_read s.limit msg [] m (record { front = msg; parts = sym (append-nil msg); spelled = spelled; within = le }) in record {
      bytes = msg;
      found = Ready;
      fed = record {
        taken = omega arith;
        held = sym (ap (λ (h : List ℕ). h ++ take (length msg) msg) none ∙ take-length msg);
        state = (le, (m, spelled));
        no_more = inr (w.good, omega (arith, w.announced));
        all = λ e. absurd (cc e);
      };
      is = ap (λ (h : List ℕ). record s { held = h; waiting = msg ∷ [] }) none ∙ ap (λ (x : List (List ℕ)). record s { held = []; waiting = x ++ msg ∷ [] }) (sym waits);
    }

-- ---- bytes

-- the server connection whose server holds these bytes behind whole requests, by what they are
held_as : (found : ReaderState) (came fed done passed bytes : List ℕ) (f : ConnView) → FedAs done passed → came ≡ done ++ bytes
    → fed ≡ passed ++ bytes → StandsAt f.server.limit bytes found
    → IsFed came fed (record f { server = holding f.server bytes found; part = []; queried = false })
held_as Need came fed done passed bytes f r c p stands =
    record { came_whole = done; fed_whole = passed; requests = r; came_is = c; fed_is = p }
held_as Ready came fed done passed bytes f r c p stands = record {
  came_whole = done ++ bytes;
  fed_whole = passed ++ bytes;
  requests = and_a_message stands.1.0 bytes r stands.1.1;
  came_is = c ∙ sym (append-nil (done ++ bytes));
  fed_is = p ∙ sym (append-nil (passed ++ bytes));
}
held_as (Bad fault) came fed done passed bytes f r c p stands =
    record { came_whole = done; fed_whole = passed; requests = r; came_is = c; fed_is = p }

-- the same of a server that took a piece
took : (came fed done passed piece bytes : List ℕ) (n : ℕ) (f : ConnView) (s : ServerView) → FedAs done passed
    → f.server.held ++ take n piece ≡ bytes → came ≡ done ++ bytes → fed ≡ passed ++ bytes → TakesBytes f.server piece n s
    → IsFed came fed (record f { server = s; part = []; queried = false })
took came fed done passed piece bytes n f s r whole c p t =
    subst (λ (z : ServerView). IsFed came fed (record f { server = z; part = []; queried = false })) (sym t.is)
    (held_as t.found came fed done passed t.bytes f r
    (c ∙ ap (λ (b : List ℕ). done ++ b) (sym (t.fed.held ∙ whole)))
    (p ∙ ap (λ (b : List ℕ). passed ++ b) (sym (t.fed.held ∙ whole))) t.fed.state)

-- more bytes behind those that were gathered, where none are held
behind : (done part held bytes came : List ℕ) → held ≡ [] → came ≡ done ++ (part ++ held) → came ++ bytes ≡ done ++ (part ++ bytes)
behind done part held bytes came none c =
    ap (λ (x : List ℕ). x ++ bytes) (c ∙ ap (λ (h : List ℕ). done ++ (part ++ h)) none ∙ ap (λ (x : List ℕ). done ++ x) (append-nil part))
    ∙ append_assoc done part bytes

-- more bytes are fed, and then none
fed_more : (passed held bytes fed : List ℕ) → fed ≡ passed ++ held → fed ++ (bytes ++ []) ≡ passed ++ (held ++ bytes)
fed_more passed held bytes fed p =
    ap (λ (x : List ℕ). fed ++ x) (append-nil bytes) ∙ ap (λ (x : List ℕ). x ++ bytes) p ∙ append_assoc passed held bytes

gathered : (came fed bytes : List ℕ) (f : ConnView) (cause : Option CloseCause) → f.server.held ≡ [] → IsFed came fed f
    → IsFed (came ++ bytes) (fed ++ []) (record f { part = f.part ++ bytes; cause = cause })
gathered came fed bytes f cause between d = record {
  came_whole = d.came_whole;
  fed_whole = d.fed_whole;
  requests = d.requests;
  came_is = behind d.came_whole f.part f.server.held bytes came between d.came_is
      ∙ ap (λ (x : List ℕ). d.came_whole ++ x) (sym (ap (λ (h : List ℕ). (f.part ++ bytes) ++ h) between ∙ append-nil (f.part ++ bytes)));
  fed_is = append-nil fed ∙ d.fed_is;
}

-- What a server connection does with its server when it takes bytes.
pub record Feeds (came fed : List ℕ) (old new : ConnView) : Type 0 where
  pub acts : List ServerAct
  pub moves : ServerMovesOn old.server acts new.server
  pub is : IsFed came (fed ++ bytes_taken_up acts) new
  pub quiet : bytes_sent_down acts ≡ []

-- one piece, all of it
one_piece : (came fed piece : List ℕ) (old new : ConnView) (s : ServerView) → IsReady old → TakesBytes old.server piece (length piece) s
    → new.server ≡ s → IsFed came (fed ++ (piece ++ [])) new → Feeds came fed old new
one_piece came fed piece old new s r t is f = record {
  acts = TakesUp piece ∷ [];
  moves = (
    s,
    record { is_open = r.is_open; has_room = omega (arith, ap length r.none_waits, r.window); takes = t },
    is,
  );
  is = f;
  quiet = refl;
}

pub takes : (came fed bytes : List ℕ) (old new : ConnView) → old.server.limit ≡ MAX_MESSAGE_LEN → IsReady old → ConnTakes old bytes new
    → IsFed came fed old → Feeds (came ++ bytes) fed old new
takes came fed bytes old new limit r (goes_on s some empty t is) d =
    let alone : came ≡ d.came_whole ++ old.server.held = d.came_is ∙ ap (λ (p : List ℕ). d.came_whole ++ (p ++ old.server.held)) empty in
    one_piece (came ++ bytes) fed bytes old new s r t (ap (λ (z : ConnView). z.server) is)
    (subst (λ (z : ConnView). IsFed (came ++ bytes) (fed ++ (bytes ++ [])) z)
    (sym (is ∙ ap (λ (p : List ℕ). record old { server = s; part = p; queried = false }) empty))
    (took (came ++ bytes) (fed ++ (bytes ++ [])) d.came_whole d.fed_whole bytes (old.server.held ++ bytes) (length bytes) old s d.requests
    (ap (λ (x : List ℕ). old.server.held ++ x) (take-length bytes))
    (ap (λ (x : List ℕ). x ++ bytes) alone ∙ append_assoc d.came_whole old.server.held bytes)
    (fed_more d.fed_whole old.server.held bytes fed d.fed_is) t))
takes came fed bytes old new limit r (gathers between part is) d = record {
  acts = [];
  moves = ap (λ (z : ConnView). z.server) is;
  is = subst (λ (z : ConnView). IsFed (came ++ bytes) (fed ++ []) z) (sym is) (gathered came fed bytes old old.cause between d);
  quiet = refl;
}
takes came fed bytes old new limit r (begins s between other t is) d =
    let all : List ℕ = old.part ++ bytes in
    one_piece (came ++ bytes) fed all old new s r (subst (λ (n : ℕ). TakesBytes old.server all n s) (sym other.whole) t) (ap (λ (z : ConnView). z.server) is)
    (subst (λ (z : ConnView). IsFed (came ++ bytes) (fed ++ (all ++ [])) z) (sym is)
    (took (came ++ bytes) (fed ++ (all ++ [])) d.came_whole d.fed_whole all all 16 old s d.requests
    (ap (λ (h : List ℕ). h ++ take 16 all) between ∙ ap (λ (k : ℕ). take k all) (sym other.whole) ∙ take-length all)
    (behind d.came_whole old.part old.server.held bytes came between d.came_is)
    (fed_more d.fed_whole old.server.held all fed d.fed_is ∙ ap (λ (h : List ℕ). d.fed_whole ++ (h ++ all)) between) t))
takes came fed bytes old new limit r (asks q between whole spelled is) d =
    let all : List ℕ = old.part ++ bytes in
    let msg : List ℕ = canonical (message_of q) in
    let m = message_spelled q all spelled in
    let short : length msg ≤ old.server.limit = omega (arith, m.1, whole.whole, whole.begins.is_query.most, limit) in
    one_piece (came ++ bytes) fed msg old new (with_request old.server msg) r
    (whole_taken old.server msg (message_of q) between r.none_waits m.0 short) (ap (λ (z : ConnView). z.server) is)
    (subst (λ (z : ConnView). IsFed (came ++ bytes) (fed ++ (msg ++ [])) z) (sym is) (record {
      came_whole = d.came_whole ++ all;
      fed_whole = d.fed_whole ++ msg;
      requests = and_a_query q all d.requests spelled;
      came_is = behind d.came_whole old.part old.server.held bytes came between d.came_is ∙ sym (append-nil (d.came_whole ++ all))
          ∙ ap (λ (h : List ℕ). (d.came_whole ++ all) ++ h) (sym between);
      fed_is = fed_more d.fed_whole old.server.held msg fed d.fed_is ∙ ap (λ (h : List ℕ). d.fed_whole ++ (h ++ msg)) between
          ∙ sym (append-nil (d.fed_whole ++ msg)) ∙ ap (λ (h : List ℕ). (d.fed_whole ++ msg) ++ h) (sym between);
    }))
takes came fed bytes old new limit r (refuses f between whole fault is) d = record {
  acts = [];
  moves = ap (λ (z : ConnView). z.server) is;
  is = subst (λ (z : ConnView). IsFed (came ++ bytes) (fed ++ []) z) (sym is) (gathered came fed bytes old _ between d);
  quiet = refl;
}

-- ---- what stays

-- What a server connection keeps when it takes bytes: all that isn't of requests.
pub record Keeps (old new : ConnView) : Type 0 where
  pub connection : new.server.connection ≡ old.server.connection
  pub limit : new.server.limit ≡ old.server.limit
  pub server_output : new.server.output ≡ old.server.output
  pub output : new.output ≡ old.output
  pub one : length new.server.waiting ≤ 1

held_keeps : (found : ReaderState) (f : ConnView) (bytes : List ℕ) → f.server.waiting ≡ []
    → Keeps f (record f { server = holding f.server bytes found; part = []; queried = false })
held_keeps Need f bytes none =
    record { connection = refl; limit = refl; server_output = refl; output = refl; one = omega (arith, ap length none) }
held_keeps Ready f bytes none = record {
  connection = refl;
  limit = refl;
  server_output = refl;
  output = refl;
  one = subst (λ (w : List (List ℕ)). length (w ++ bytes ∷ []) ≤ 1) (sym none) (omega arith);
}
held_keeps (Bad fault) f bytes none =
    record { connection = refl; limit = refl; server_output = refl; output = refl; one = omega (arith, ap length none) }

took_keeps : (f : ConnView) (piece : List ℕ) (n : ℕ) (s : ServerView) → f.server.waiting ≡ [] → TakesBytes f.server piece n s
    → Keeps f (record f { server = s; part = []; queried = false })
took_keeps f piece n s none t =
    subst (λ (z : ServerView). Keeps f (record f { server = z; part = []; queried = false })) (sym t.is) (held_keeps t.found f t.bytes none)

pub takes_keep : (bytes : List ℕ) (old new : ConnView) → IsReady old → ConnTakes old bytes new → Keeps old new
takes_keep bytes old new r (goes_on s some empty t is) =
    subst (Keeps old) (sym (is ∙ ap (λ (p : List ℕ). record old { server = s; part = p; queried = false }) empty))
    (took_keeps old bytes (length bytes) s r.none_waits t)
takes_keep bytes old new r (gathers between part is) =
    rw is (record { connection = refl; limit = refl; server_output = refl; output = refl; one = omega (arith, ap length r.none_waits) })
takes_keep bytes old new r (begins s between other t is) =
    subst (Keeps old) (sym is) (took_keeps old (old.part ++ bytes) 16 s r.none_waits t)
takes_keep bytes old new r (asks q between whole spelled is) =
    rw is (record { connection = refl; limit = refl; server_output = refl; output = refl; one = omega arith })
takes_keep bytes old new r (refuses f between whole fault is) =
    rw is (record { connection = refl; limit = refl; server_output = refl; output = refl; one = omega (arith, ap length r.none_waits) })
