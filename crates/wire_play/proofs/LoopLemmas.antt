-- The requests and the text of `loop`, call by call, and what was done at both ends.
use Rattle.std.proofs.Common.{◌≡◌, ◌∙◌, ◌+◌, ◌-◌, ◌<◌, ◌≤◌, ◌⊎◌, ℕ, zero, suc, inr, List, [], ◌++◌, add-one, append_assoc, append-nil, ap, refl, subst, sym, Option, arith, take, drop}
use Rattle.std.specs.Io.KnownBytes.{Appends, Keeps}
use Rattle.std.proofs.KnownBytes.{Appends-kept, Appends-nil, Appends-trans}
use Rattle.std.proofs.lemmas.List.{take-append-drop}
use Rattle.std.specs.Prelude.{OnOk, Result, Ok, Err, pos, ◌≤ℤ◌, FitsSigned}
use Rattle.std.specs.Int.{w32}
use Rattle.bson_elem.specs.{IsBytes}
use Rattle.wire_peer.specs.{LogEntry, log_of, new_server}
use Rattle.wire_peer.specs.declared.echoing.Echo.{Echo}
use Rattle.wire_peer.specs.declared.log.Logged.{Logged}
use Rattle.wire_model.specs.{AreMade, ClientAct, ClientRun, ServerAct, ServerRun, first_end}
use Rattle.wire_end.specs.{AreAnswered, EndRuns, EndSeen, ServerEndRuns, ServerEndSeen, with_logged}
use Rattle.wire_end.proofs.Lemmas.{are_answered, end_runs_on, pair_knows, runs_on}
use Rattle.wire_play.specs.Calling.{AreComplete}
use Rattle.wire_play.specs.Loopback.{AppendsUpTo, AreNew, HaveMade, HaveRun, HaveTold, call_line, call_lines, echo_does, echo_stops, last_line, loop_text, made_least, message_limit, request_bytes, requests_bytes}

-- nothing was written
pub none_yet : (text : List ℕ) (old : Option (List ℕ)) → AppendsUpTo text text old old
none_yet text old = ([], refl, Appends-nil old)

-- nothing of the whole text was written
pub none_of : (calls : ℕ) (old : Option (List ℕ)) → AppendsUpTo (call_lines 0 (calls - 0) ++ last_line calls) (loop_text calls) old old
none_of calls old =
    let is : calls - 0 ≡ calls = omega arith in
    subst (λ (n : ℕ). AppendsUpTo (call_lines 0 n ++ last_line calls) (loop_text calls) old old) (sym is) (none_yet (loop_text calls) old)

-- the first of what is left is written, or nothing of it
pub some_written : (rest text : List ℕ) (n : ℕ) (old mid new : Option (List ℕ)) → AppendsUpTo rest text old mid → Appends mid new (take n rest)
    → AppendsUpTo (drop n rest) text old new
some_written rest text n old mid new before here = (
  before.0 ++ take n rest,
  before.1 ∙ (ap (λ xs. before.0 ++ xs) (sym (take-append-drop n rest)) ∙ sym (append_assoc before.0 (take n rest) (drop n rest))),
  Appends-trans old mid new before.0 (take n rest) before.2 here,
)

pub none_written : (rest text : List ℕ) (old mid new : Option (List ℕ)) → AppendsUpTo rest text old mid → Keeps mid new → AppendsUpTo rest text old new
none_written rest text old mid new before here = (before.0, before.1, Appends-kept old mid new before.0 before.2 here)

-- a front part is written, and a beginning of what follows it
pub front_written : (front left rest text : List ℕ) (old mid new : Option (List ℕ)) → AppendsUpTo (front ++ rest) text old mid → AppendsUpTo left front mid new
    → AppendsUpTo (left ++ rest) text old new
front_written front left rest text old mid new before here = (
  before.0 ++ here.0,
  before.1
      ∙ (ap (λ xs. before.0 ++ (xs ++ rest)) here.1
      ∙ (ap (λ xs. before.0 ++ xs) (append_assoc here.0 left rest) ∙ sym (append_assoc before.0 here.0 (left ++ rest)))),
  Appends-trans old mid new before.0 here.0 before.2 here.2,
)

-- the lines of calls begin with that of the first
lines_from : (k calls : ℕ) → k < calls → call_lines k (calls - k) ≡ call_line k ++ call_lines (k + 1) (calls - (k + 1))
lines_from k calls less =
    let is : calls - k ≡ suc (calls - (k + 1)) = omega arith in
    ap (λ n. call_lines k n) is

-- what is left behind the lines of so many calls
abbrev pub left_from : ℕ → ℕ → List ℕ
left_from k calls = call_lines k (calls - k) ++ last_line calls

-- a beginning of the line of a call is written
pub call_written : (k calls : ℕ) (left text : List ℕ) (old mid new : Option (List ℕ)) → k < calls → AppendsUpTo (left_from k calls) text old mid
    → AppendsUpTo left (call_line k) mid new → AppendsUpTo (left ++ left_from (k + 1) calls) text old new
call_written k calls left text old mid new less before here =
    let is = ap (λ xs. xs ++ last_line calls) (lines_from k calls less) ∙ append_assoc (call_line k) (call_lines (k + 1) (calls - (k + 1))) (last_line calls) in
    front_written (call_line k) left (left_from (k + 1) calls) text old mid new (subst (λ xs. AppendsUpTo xs text old mid) is before) here

-- a beginning of the last line is written
pub last_written : (k calls : ℕ) (left text : List ℕ) (old mid new : Option (List ℕ)) → calls ≤ k → AppendsUpTo (left_from k calls) text old mid
    → AppendsUpTo left (last_line calls) mid new → AppendsUpTo left text old new
last_written k calls left text old mid new all before here =
    let none : calls - k ≡ 0 = omega arith in
    let is : left_from k calls ≡ last_line calls ++ [] = ap (λ n. call_lines k n ++ last_line calls) none ∙ sym (append-nil (last_line calls)) in
    subst (λ xs. AppendsUpTo xs text old new) (append-nil left) (front_written (last_line calls) left [] text old mid new (subst (λ xs. AppendsUpTo xs text old mid) is before) here)

-- the request of one call more was sent
pub one_more_sent : (k : ℕ) (a b c : Option (List ℕ)) → Appends a b (requests_bytes k) → Appends b c (request_bytes k) → Appends a c (requests_bytes (k + 1))
one_more_sent k a b c before now = rw add-one (Appends-trans a b c (requests_bytes k) (request_bytes k) before now)

-- the lines of one call more
lines_on : (from k : ℕ) → call_lines from (suc k) ≡ call_lines from k ++ call_line (from + k)
lines_on from zero = append-nil (call_line from) ∙ ap call_line (omega arith)
lines_on from (suc k) =
    ap (λ xs. call_line from ++ xs) (lines_on (from + 1) k)
    ∙ ap (λ n. call_line from ++ (call_lines (from + 1) k ++ call_line n)) (omega arith)
    ∙ sym (append_assoc (call_line from) (call_lines (from + 1) k) (call_line (from + suc k)))

pub one_line_more : (k : ℕ) → call_lines 0 (k + 1) ≡ call_lines 0 k ++ call_line k
one_line_more k = ap (call_lines 0) (add-one k) ∙ lines_on 0 k ∙ ap (λ n. call_lines 0 k ++ call_line n) (omega arith)

-- the line of one call more is written, or a beginning of it
pub lines_written : (k : ℕ) (left : List ℕ) (old mid new : Option (List ℕ)) → Appends old mid (call_lines 0 k) → AppendsUpTo left (call_line k) mid new
    → AppendsUpTo left (call_lines 0 (k + 1)) old new
lines_written k left old mid new before here = (
  call_lines 0 k ++ here.0,
  one_line_more k ∙ ap (λ xs. call_lines 0 k ++ xs) here.1 ∙ sym (append_assoc (call_lines 0 k) here.0 left),
  Appends-trans old mid new (call_lines 0 k) here.0 before here.2,
)

pub line_written : (k : ℕ) (old mid new : Option (List ℕ)) → Appends old mid (call_lines 0 k) → AppendsUpTo [] (call_line k) mid new
    → Appends old new (call_lines 0 (k + 1))
line_written k old mid new before here =
    let whole = lines_written k [] old mid new before here in
    subst (Appends old new) (sym (whole.1 ∙ append-nil whole.0)) whole.2

-- so far all lines of these calls are written
pub all_lines : (k : ℕ) (old new : Option (List ℕ)) → Appends old new (call_lines 0 k) → AppendsUpTo [] (call_lines 0 k) old new
all_lines k old new is = (call_lines 0 k, sym (append-nil (call_lines 0 k)), is)

-- ---- both ends

pub on_any : {T E : Type 0} (r : Result T E) {P : Type 0} → P → OnOk r P
on_any (Ok x) p = p
on_any (Err e) p = tt

one_fits : (pos 1 ≤ℤ pos 1) × FitsSigned w32 (pos 1)
one_fits = (search, record { sfits = grind arith })

made_well : AreMade (λ _. made_least)
made_well c = one_fits

no_bytes : IsBytes []
no_bytes i = omega arith

module _ {L : Type 0} (sent received : L → Option (List ℕ)) where
  -- nothing was done yet
  pub none_done : (client : EndSeen L) → (acts : List ClientAct) × EndRuns sent received client acts client
  none_done client = (
    [],
    record {
      connection = refl;
      run = refl;
      sends = Appends-nil (sent client.link);
      came = [];
      receives = Appends-nil (received client.link);
      taken = append-nil client.inlet;
      are_bytes = no_bytes;
    },
  )

  pub none_served : (server : ServerEndSeen L) (logged : Logged Echo)
      → (acts : List ServerAct) × ServerEndRuns echo_does echo_stops sent received server logged acts server logged
  none_served server logged = (
    [],
    record {
      run = refl;
      bytes = record { sends = Appends-nil (sent server.link); came = []; receives = Appends-nil (received server.link); taken = append-nil server.inlet; are_bytes = no_bytes };
    },
  )

  -- more was done
  pub client_goes_on : (old mid new : EndSeen L) → ((acts : List ClientAct) × EndRuns sent received old acts mid) → ((acts : List ClientAct) × EndRuns sent received mid acts new)
      → (acts : List ClientAct) × EndRuns sent received old acts new
  client_goes_on old mid new (acts, r) (more, s) = (acts ++ more, runs_on sent received old mid new acts more r s)

  pub server_goes_on : (old mid new : ServerEndSeen L) (a b c : Logged Echo) → ((acts : List ServerAct) × ServerEndRuns echo_does echo_stops sent received old a acts mid b)
      → ((acts : List ServerAct) × ServerEndRuns echo_does echo_stops sent received mid b acts new c) → (acts : List ServerAct) × ServerEndRuns echo_does echo_stops sent received old a acts new c
  server_goes_on old mid new a b c (acts, r) (more, s) = (acts ++ more, end_runs_on sent received echo_does echo_stops old mid new a b c acts more r s)

  -- what was made before a run ended
  pub made_so_far : (k calls : ℕ) (client then_client : EndSeen L) (server then_server : ServerEndSeen L) (logged then_logged : Logged Echo) (old new : Option (List ℕ)) → k ≤ calls → AreComplete k then_client
      → ((acts : List ClientAct) × EndRuns sent received client acts then_client)
      → ((served : List ServerAct) × ServerEndRuns echo_does echo_stops sent received server logged served then_server then_logged)
      → (k ≡ calls) ⊎ ((left : List ℕ) × AppendsUpTo left (call_lines 0 k) old new) → HaveMade sent received calls client server logged old new
  made_so_far k calls client then_client server then_server logged then_logged old new bound complete (acts, asks) (served, serves) lines = record {
    k = k;
    bound = bound;
    then_client = then_client;
    then_server = then_server;
    then_logged = then_logged;
    complete = complete;
    acts = acts;
    asks = asks;
    served = served;
    serves = serves;
    lines = lines;
  }

-- what was done at both ends from the start is a run
pub have_run : {L : Type 0} (sent received : L → Option (List ℕ)) (near far : L) (client client' : EndSeen L) (server server' : ServerEndSeen L) (logged logged' : Logged Echo) (calls : ℕ)
    (acts : List ClientAct) (served : List ServerAct) → AreNew near far client server logged → EndRuns sent received client acts client'
    → ServerEndRuns echo_does echo_stops sent received server logged served server' logged' → AreComplete calls client' → HaveRun calls
have_run sent received near far client client' server server' logged logged' calls acts served new ran serves complete =
    let runs : ClientRun 1 (first_end message_limit (λ _. made_least) 1) acts client'.own =
    (subst (λ (e : EndSeen _). EndRuns sent received e acts client') new.client_is ran).run in
    let serves' : ServerRun echo_does echo_stops (record { server = new_server 1 1 message_limit; log = []; handler = logged.handler }) served (with_logged server'.server logged') =
    subst (λ (log : List LogEntry). ServerRun echo_does echo_stops (record { server = new_server 1 1 message_limit; log = log; handler = logged.handler }) served (with_logged server'.server logged')) new.log_is
    (subst (λ (s : ServerEndSeen _). ServerRun echo_does echo_stops (with_logged s.server logged) served (with_logged server'.server logged')) new.server_is serves.run) in
    record {
      acts = acts;
      client = client'.own;
      runs = runs;
      done = complete.records;
      served = served;
      first = logged.handler;
      server = with_logged server'.server logged';
      serves = serves';
      headline = λ deeds order arrive.
          subst (λ (records : List _). AreAnswered records (log_of logged'.entries.items)) complete.records
          (are_answered echo_does echo_stops message_limit made_least logged.handler deeds client'.own (with_logged server'.server logged')
          (pair_knows echo_does echo_stops message_limit (omega arith) made_least made_well acts served deeds client'.own logged.handler (with_logged server'.server logged') runs serves' order arrive));
    }

-- the same, where all calls were made
pub run_if : {L T E : Type 0} (sent received : L → Option (List ℕ)) (r : Result T E) (near far : L) (client client' : EndSeen L) (server server' : ServerEndSeen L) (logged logged' : Logged Echo) (calls : ℕ)
    → AreNew near far client server logged → OnOk r (AreComplete calls client') → OnOk r ((acts : List ClientAct) × EndRuns sent received client acts client')
    → OnOk r ((served : List ServerAct) × ServerEndRuns echo_does echo_stops sent received server logged served server' logged') → OnOk r (HaveRun calls)
run_if sent received (Err e) near far client client' server server' logged logged' calls new complete ran serves = tt
run_if sent received (Ok x) near far client client' server server' logged logged' calls new complete ran serves =
    have_run sent received near far client client' server server' logged logged' calls ran.0 serves.0 new ran.1 serves.1 complete

-- what was made at two ends from the start is told
pub told_of : {L : Type 0} (sent received : L → Option (List ℕ)) (near far : L) (client : EndSeen L) (server : ServerEndSeen L) (logged : Logged Echo) (calls : ℕ) (old new : Option (List ℕ))
    → AreNew near far client server logged → HaveMade sent received calls client server logged old new → HaveTold calls old new
told_of sent received near far client server logged calls old new are_new m =
    record {
      k = m.k;
      bound = m.bound;
      run = have_run sent received near far client m.then_client server m.then_server logged m.then_logged m.k m.acts m.served are_new m.asks m.serves m.complete;
      lines = m.lines;
    }

none_answered : (log : List LogEntry) → AreAnswered [] log
none_answered log = record {
  entry = λ n. 0;
  answered = λ n x found done. absurd cc;
  own = λ n k x y found done found' done' same. absurd cc;
}

-- nothing was done, and nothing written
pub nothing_told : (calls : ℕ) (old : Option (List ℕ)) → HaveTold calls old old
nothing_told calls old =
    let echo : Echo = record {} in
    record {
      k = 0;
      bound = omega arith;
      run = record {
        acts = [];
        client = first_end message_limit (λ _. made_least) 1;
        runs = refl;
        done = refl;
        served = [];
        first = echo;
        server = record { server = new_server 1 1 message_limit; log = []; handler = echo };
        serves = refl;
        headline = λ deeds order arrive. none_answered [];
      };
      lines = inr ([], none_yet [] old);
    }
