-- A request that is passed on.
use Rattle.std.proofs.Common.{◌≡◌, ◌∙◌, ℕ, Bool, true, false, List, [], refl, sym, ap, subst, Option, Some, None, Result, Ok, Err, IfErr, OnOk, inl, inr}
use Rattle.std.specs.Prelude.{◌==◌, if◌then◌else◌}
use Rattle.std.proofs.lemmas.Bool.{eqb-true}
use Rattle.wire_msg.specs.{Message}
use Rattle.wire_msg.specs.declared.payloads.Payload.{Payload}
use Rattle.wire_peer.specs.{LogEntry, WaitsAt}
use Rattle.wire_peer.specs.declared.calls.CallNo.{CallNo}
use Rattle.wire_model.specs.{ClientAct}
use Rattle.wire_model.specs.Owners as owners
use Rattle.wire_share.specs.declared.awaited.Awaited.{Awaited}
use Rattle.wire_share.specs.declared.refusals.PassRefusal.{PassRefusal}
use Rattle.wire_share.specs.declared.refusals.PassRefusal.TheVariants as passing
use Rattle.wire_share.specs.{DownSeen, PassStep, UpSeen}
use Rattle.wire_share.specs.Sharing.{GoesOn, IsPassed, Waits, kind_by, of_call}
use Rattle.wire_share.specs.Acts.{DownAct, DownDoes, GoesWith, Passes}
use Rattle.wire_share.specs.Needs.{begun_by}
use Rattle.wire_share.specs.Refusing.{PassFails, refused_as}
use Rattle.wire_share.specs.declared.client.Client.{Client}
use Rattle.wire_share.specs.declared.steps.PassFault.{PassFault}
use Rattle.wire_share.specs.declared.steps.PassFault.TheVariants as faults
use Rattle.wire_share.specs.declared.server.Server.{Server}
use Rattle.wire_share.specs.Placing.{used_after, used_up, was_passed}
use Rattle.wire_share.specs.Cores.{CoreAct, CoreDoes, CoreRun, CoreSeen, DownPart, IsPlaced, NotesBegin, command_of, Puts, Shares, UpDoes, UpPart, recorded, used_by}
use Rattle.wire_share.proofs.Runs.{one_act}

-- ---- what becomes of the downstream

-- with the entries that it made
went : (more : Bool) (call : Awaited) (old new : DownSeen) → GoesOn more call old new → (made : List LogEntry) × GoesWith more call made old new
went false call old new goes = ([], (goes, refl))
went true call old new goes = (goes.0.1.log, inl ((goes.0.0, goes.0.1, refl), goes.1))

-- ---- and of the upstream

calls : (u : ℕ) (m : Message) (payload : Payload) (call : CallNo) (old new : UpSeen) → IsPassed m payload call old new
    → UpDoes u (owners.Calls (kind_by m.flags.more_to_come) payload call) old new
calls u m payload call old new passed = (
  ap (λ (x : UpSeen). x.number) passed.is,
  (λ records. (passed.made, ap (λ (x : UpSeen). record { client = x.client; records = recorded u (owners.Calls (kind_by m.flags.more_to_come) payload call) records }) passed.is)),
)

-- ---- at each number

pub down_part : (d e : ℕ) (act : DownAct) (downs news : ℕ → Option Client) (x y : Client) → downs d ≡ Some x → Puts downs d (Some y) news
    → DownDoes act x.downstream y.downstream → y.kept ≡ x.kept → DownPart (if d == e then Some act else None) (downs e) (news e)
down_part d e act downs news x y at puts does kept = by (d == e) refl
  where
    by : (b : Bool) → (d == e) ≡ b → DownPart (if b then Some act else None) (downs e) (news e)
    by true is =
        (x, y, ap downs (sym (eqb-true d e is)) ∙ at, puts e ∙ ap (λ (b : Bool). if b then Some y else downs e) is, does, kept)
    by false is = puts e ∙ ap (λ (b : Bool). if b then Some y else downs e) is

pub up_part : (u v : ℕ) (act : ClientAct) (ups news : ℕ → Option Server) (x y : Server) → ups u ≡ Some x → Puts ups u (Some y) news
    → UpDoes v act x.upstream y.upstream → y.used ≡ used_by act x.used → UpPart v (if u == v then Some act else None) (ups v) (news v)
up_part u v act ups news x y at puts does used = by (u == v) refl
  where
    by : (b : Bool) → (u == v) ≡ b → UpPart v (if b then Some act else None) (ups v) (news v)
    by true is =
        (x, y, ap ups (sym (eqb-true u v is)) ∙ at, puts v ∙ ap (λ (b : Bool). if b then Some y else ups v) is, does, used)
    by false is = puts v ∙ ap (λ (b : Bool). if b then Some y else ups v) is

-- ---- the act

module _ (old new : CoreSeen) (d u : ℕ) (x x' : Client) (y y' : Server) (x_at : old.downs d ≡ Some x) (y_at : old.ups u ≡ Some y)
    (downs : Puts old.downs d (Some x') new.downs) (ups : Puts old.ups u (Some y') new.ups) (kept : x'.kept ≡ x.kept) (number : y.upstream.number ≡ u)
    (used : y'.used ≡ used_up y.used) (accepted : new.accepted ≡ old.accepted) (opened : new.opened ≡ old.opened)
    (placed : (m : Message) → WaitsAt x.downstream.conn.server 0 m → IsPlaced old d u m)
    (routes : (m : Message) → WaitsAt x.downstream.conn.server 0 m → NotesBegin (begun_by (command_of m)) u old.routes new.routes) where
  shared : (m : Message) (payload : Payload) (call : CallNo) (made : List LogEntry) → Waits x.downstream m → IsPassed m payload call y.upstream y'.upstream
      → GoesWith m.flags.more_to_come (of_call y.upstream call) made x.downstream x'.downstream → CoreDoes (Shares (Passes d u m payload call made)) old new
  shared m payload call made waits passed goes =
      let named : of_call y.upstream call ≡ record { upstream = u; call = call.number } = ap (λ (n : ℕ). record { upstream = n; call = call.number }) number in
      record {
        fit = passed.content;
        bytes = tt;
        permitted = placed m waits.at;
        downs = λ e. down_part d e _ old.downs new.downs x x' x_at downs (waits, subst (λ (c : Awaited). GoesWith m.flags.more_to_come c made x.downstream x'.downstream) named goes) kept;
        ups = λ v. up_part u v _ old.ups new.ups y y' y_at ups (calls v m payload call y.upstream y'.upstream passed) used;
        routes = routes m waits.at;
        accepted = accepted;
        opened = opened;
      }

  pub passes : (result : Result (Unit {0}) PassRefusal) → was_passed result ≡ true → PassStep result x.downstream y.upstream x'.downstream y'.upstream
      → (m : Message) × (payload : Payload) × (call : CallNo) × (made : List LogEntry) × CoreDoes (Shares (Passes d u m payload call made)) old new
  passes (Ok r) was s =
      let w = went s.0.flags.more_to_come (of_call y.upstream s.2) x.downstream x'.downstream s.5 in
      (s.0, s.1, s.2, w.0, shared s.0 s.1 s.2 w.0 s.3 s.4 w.1)
  passes (Err passing.NothingWaits) was s = absurd (false-true was)
    where
      false-true : false ≡ true → ⊥
      false-true p = cc
  passes (Err (passing.Call refusal)) was s = absurd (false-true was)
    where
      false-true : false ≡ true → ⊥
      false-true p = cc
  passes (Err passing.OutOfMemory) was s =
      (s.0, s.1, s.2, [], shared s.0 s.1 s.2 [] s.3 s.5 (subst (λ (b : Bool). GoesWith b (of_call y.upstream s.2) [] x.downstream x'.downstream) (sym s.4) (inr (s.6, refl))))

  pub passes_run : (result : Result (Unit {0}) PassRefusal) → was_passed result ≡ true → PassStep result x.downstream y.upstream x'.downstream y'.upstream
      → (acts : List CoreAct) × CoreRun old acts new
  passes_run result was s = let p = passes result was s in one_act (Shares (Passes d u p.0 p.1 p.2 p.3)) old new p.4

-- ---- where nothing was passed on

pub same_core : (old new : CoreSeen) → ((d : ℕ) → new.downs d ≡ old.downs d) → ((u : ℕ) → new.ups u ≡ old.ups u) → new.routes ≡ old.routes
    → new.accepted ≡ old.accepted → new.opened ≡ old.opened → new ≡ old
same_core old new downs ups routes accepted opened =
    λ i. record { downs = λ d. downs d i; ups = λ u. ups u i; routes = routes i; accepted = accepted i; opened = opened i }

pub unpassed : (result : Result (Unit {0}) PassRefusal) (d d' : DownSeen) (u u' : UpSeen) → was_passed result ≡ false → PassStep result d u d' u' → (d' ≡ d) × (u' ≡ u)
unpassed (Ok r) d d' u u' was s = absurd (true-false was)
  where
    true-false : true ≡ false → ⊥
    true-false p = cc
unpassed (Err passing.NothingWaits) d d' u u' was s = (s.1, s.2)
unpassed (Err (passing.Call refusal)) d d' u u' was s = (s.1, s.2)
unpassed (Err passing.OutOfMemory) d d' u u' was s = absurd (true-false was)
  where
    true-false : true ≡ false → ⊥
    true-false p = cc

put_back : {A : Type 0} (k j : ℕ) (old new : ℕ → Option A) (v : Option A) → old k ≡ v → Puts old k v new → new j ≡ old j
put_back k j old new v at puts = by (k == j) refl
  where
    by : (b : Bool) → (k == j) ≡ b → new j ≡ old j
    by true is = puts j ∙ ap (λ (b : Bool). if b then v else old j) is ∙ sym at ∙ ap old (eqb-true k j is)
    by false is = puts j ∙ ap (λ (b : Bool). if b then v else old j) is

pub stays_put : {A : Type 0} (k : ℕ) (old new : ℕ → Option A) (v w : Option A) → old k ≡ v → Puts old k w new → w ≡ v → (j : ℕ) → new j ≡ old j
stays_put k old new v w at puts same j = put_back k j old new w (at ∙ sym same) puts

pub client_same : (x : Client) (d : DownSeen) → d ≡ x.downstream → record { downstream = d; kept = x.kept } ≡ x
client_same x d is = λ i. record { downstream = is i; kept = x.kept }

pub server_same : (y y' : Server) (passed : Bool) → y'.upstream ≡ y.upstream → passed ≡ false → y'.used ≡ used_after passed y.used → y' ≡ y
server_same y y' passed same not used =
    let e : y'.used ≡ y.used = used ∙ ap (λ (b : Bool). used_after b y.used) not in
    λ i. record { upstream = same i; used = e i }

pub used_so : (y y' : Server) (passed : Bool) → passed ≡ true → y'.used ≡ used_after passed y.used → y'.used ≡ used_up y.used
used_so y y' passed was used = used ∙ ap (λ (b : Bool). used_after b y.used) was

-- why it wasn't
pub refusal : (result : Result (Unit {0}) PassRefusal) (d u : ℕ) (old new : CoreSeen) (x : Client) (y : Server) (d' : DownSeen) (u' : UpSeen) → was_passed result ≡ false
    → PassStep result x.downstream y.upstream d' u' → old.downs d ≡ Some x → old.ups u ≡ Some y → new ≡ old → PassFails (refused_as result) d u old new
refusal (Ok r) d u old new x y d' u' was s at there same = absurd (true-false was)
  where
    true-false : true ≡ false → ⊥
    true-false p = cc
refusal (Err passing.NothingWaits) d u old new x y d' u' was s at there same = (same, x, y, at, there, (s.0, refl, refl))
refusal (Err (passing.Call e)) d u old new x y d' u' was s at there same = (same, x, y, at, there, (s.0, refl, refl))
refusal (Err passing.OutOfMemory) d u old new x y d' u' was s at there same = absurd (true-false was)
  where
    true-false : true ≡ false → ⊥
    true-false p = cc

pub refused : (f : PassFault) (result : Result (Unit {0}) PassRefusal) (d u : ℕ) (old new : CoreSeen) (x : Client) (y : Server) (d' : DownSeen) (u' : UpSeen) → f ≡ refused_as result
    → was_passed result ≡ false → PassStep result x.downstream y.upstream d' u' → old.downs d ≡ Some x → old.ups u ≡ Some y → new ≡ old → PassFails f d u old new
refused f result d u old new x y d' u' is was s at there same =
    subst (λ (g : PassFault). PassFails g d u old new) (sym is) (refusal result d u old new x y d' u' was s at there same)

-- memory ran out
pub out : (fault : PassFault) (d u : ℕ) (old new : CoreSeen) → fault ≡ faults.OutOfMemory → PassFails fault d u old new
out fault d u old new is = subst (λ (f : PassFault). PassFails f d u old new) (sym is) tt

pub if_out : (r : Result (Unit {0}) PassFault) (d u : ℕ) (old new : CoreSeen) → IfErr r (λ f. f ≡ faults.OutOfMemory) → IfErr r (λ f. PassFails f d u old new)
if_out (Ok x) d u old new is = tt
if_out (Err f) d u old new is = out f d u old new is

pub ok_anyway : {T E : Type 0} (P : Type 0) (r : Result T E) → P → OnOk r P
ok_anyway P (Ok x) p = p
ok_anyway P (Err e) p = tt
