-- What becomes of a request, by what was done for it.
use Rattle.std.proofs.Common.{◌≡◌, ◌∙◌, ℕ, Bool, true, false, ◌⊎◌, inl, inr, Option, Some, None, Result, Ok, Err, refl, sym, ap, subst, OnOk}
use Rattle.std.specs.Prelude.{nat_eq, ◌||◌, ◌==◌, not, List, [], ◌∷◌, ◌++◌, if◌then◌else◌}
use Rattle.std.specs.List.{list_any}
use Rattle.indexmap.specs.IndexMap.{Updates, get}
use Rattle.wire_msg.specs.{Message}
use Rattle.wire_msg.specs.declared.payloads.Payload.{Payload}
use Rattle.wire_peer.specs.{LogEntry}
use Rattle.wire_peer.specs.declared.calls.CallNo.{CallNo}
use Rattle.wire_share.specs.Acts.{Passes}
use Rattle.wire_share.specs.Cores.{CoreDoes, Shares}
use Rattle.wire_share.specs.Refusing.{PassFails}
use Rattle.wire_share.specs.Running.{seen}
use Rattle.wire_share.specs.Sharing.{Waits}
use Rattle.wire_share.specs.declared.awaited.Awaited.{Awaited}
use Rattle.wire_share.specs.declared.client.Client as connections
use Rattle.wire_share.specs.declared.refusals.PassRefusal.{PassRefusal}
use Rattle.wire_share.specs.declared.refusals.PassRefusal.TheVariants as passing
use Rattle.wire_share.specs.declared.shared_core.Core.{Core}
use Rattle.wire_share.specs.declared.steps.PassFault.{PassFault}
use Rattle.wire_share.specs.declared.steps.PassFault.TheVariants as faults
use Rattle.sockets.specs.{with_key}
use Rattle.shared_proxy.specs.Closing.{Closes, IsClosed}
use Rattle.shared_proxy.specs.Passing.{Asks, AwaitsCall, GoesOver, IsNoted, IsRefused, NoneAsks, PassesOn, Places, Went, none_asked, was_closed, went_over}
use Rattle.shared_proxy.specs.Queues.{is_behind}
use Rattle.shared_proxy.specs.declared.leave.Leave.{Leave}
use Rattle.shared_proxy.specs.declared.server.Server.{Server}
use Rattle.shared_proxy.specs.declared.servers.Servers.{Servers}
use Rattle.shared_proxy.specs.declared.sharing.Sharing.{Sharing}
use Rattle.shared_proxy.proofs.Closings.{closes_after}
use Rattle.shared_proxy.proofs.Placings.{still_asks}

-- what was passed on, and left the core alone afterwards
pub over_same : (number upstream : ℕ) (old mid new : Core) → new ≡ mid → GoesOver number upstream old mid → GoesOver number upstream old new
over_same number upstream old mid new same over = subst (λ (core : Core). GoesOver number upstream old core) (sym same) over

pub of_passed : (number upstream : ℕ) (old new : Core)
    → ((m : Message) × (payload : Payload) × (call : CallNo) × (made : List LogEntry) × CoreDoes (Shares (Passes number upstream m payload call made)) (seen old) (seen new))
    → GoesOver number upstream old new
of_passed number upstream old new p = record { m = p.0; payload = p.1; call = p.2; made = p.3; passes = p.4 }

went_on : (number upstream : ℕ) (old new : Sharing) (mid : Core) → mid ≡ new.core → GoesOver number upstream old.core mid ⊎ NoneAsks number old.core mid → Went number upstream old new
went_on number upstream old new mid same (inl over) = went_over (subst (λ (core : Core). GoesOver number upstream old.core core) same over)
went_on number upstream old new mid same (inr gone) = none_asked (subst (λ (core : Core). NoneAsks number old.core core) same gone)

-- a request went, or its client was closed, by what `pass_on` returned
pub went : {E : Type 0} (number upstream : ℕ) (leave : Option Leave) (result : Result (Option Leave) E) (old waited sent shut new : Sharing) → result ≡ Ok leave
    → waited.core ≡ old.core
    → (result ≡ Ok None → GoesOver number upstream waited.core sent.core ⊎ NoneAsks number waited.core sent.core)
    → ((why : Leave) → result ≡ Ok (Some why) → seen sent.core ≡ seen waited.core)
    → (leave ≡ None → shut ≡ sent)
    → ((why : Leave) → leave ≡ Some why → IsClosed number sent shut)
    → new.core ≡ shut.core → new.clients ≡ shut.clients → Went number upstream old new
went number upstream None result old waited sent shut new was waits goes refused stays closes core clients =
    let at : sent.core ≡ new.core = ap (λ (s : Sharing). s.core) (sym (stays refl)) ∙ sym core in
    went_on number upstream old new sent.core at
    (subst (λ (c : Core). GoesOver number upstream c sent.core ⊎ NoneAsks number c sent.core) waits (goes was))
went number upstream (Some why) result old waited sent shut new was waits goes refused stays closes core clients =
    let gone = closes why refl in
    let same : seen sent.core ≡ seen old.core = refused why was ∙ ap seen waits in
    was_closed (record {
      core = subst (λ (c : Core). Closes number old.core c) (sym core) (closes_after number old.core sent.core shut.core same gone.core);
      gone = ap (λ (x : _). get nat_eq x.map number) clients ∙ gone.gone;
    })

-- where nothing waits, nothing is done
nothing_waits : (number upstream : ℕ) (old new : Core) → PassFails (faults.Refused passing.NothingWaits) number upstream (seen old) (seen new) → NoneAsks number old new
nothing_waits number upstream old new fails = record {
  none = λ m asks.
      let same : asks.0 ≡ fails.1 = cc (asks.1, fails.3) in
      fails.5.0 m (subst (λ (x : connections.Client). Waits x.downstream m) same asks.2);
  same = fails.0;
}

pub none_asks : (number upstream : ℕ) (old new : Core) (fault : PassFault) (why : PassRefusal) → fault ≡ faults.Refused why → why ≡ passing.NothingWaits
    → PassFails fault number upstream (seen old) (seen new) → NoneAsks number old new
none_asks number upstream old new fault why is so fails =
    nothing_waits number upstream old new (subst (λ (f : PassFault). PassFails f number upstream (seen old) (seen new)) (is ∙ ap faults.Refused so) fails)

-- ---- a request that waits

behind_with : (b : Bool) (number first : ℕ) (others : List ℕ) → not (first == number) ≡ true
    → is_behind number (if b then first ∷ others else (first ∷ others) ++ number ∷ []) ≡ true
behind_with true number first others has = has
behind_with false number first others has = has

-- it has to wait when it is among those that wait, too
pub still_behind : (full : Bool) (number : ℕ) (old new : List ℕ) → (full || is_behind number old) ≡ true → new ≡ with_key number old → (full || is_behind number new) ≡ true
still_behind true number old new has is = refl
still_behind false number [] new has is = absurd (cc)
still_behind false number (first ∷ others) new has is =
    subst (λ (xs : List ℕ). is_behind number xs ≡ true) (sym is) (behind_with (list_any (λ k. k == number) (first ∷ others)) number first others has)

-- ---- who awaits a reply

-- what a call of this client is noted as
pub noted_so : {E : Type 0} (r : Result (Unit {0}) E) (number upstream : ℕ) (old : Core) (servers : Servers) (x : connections.Client) (call : Awaited) (before after : Server)
    → (seen old).downs number ≡ Some x → x.downstream.awaited ≡ Some call → get nat_eq servers.map upstream ≡ Some after
    → OnOk r (Updates nat_eq before.callers after.callers call.call (Some number))
    → OnOk r ((c : Awaited) → AwaitsCall old number c → IsNoted c.call number upstream servers)
noted_so (Err e) number upstream old servers x call before after at awaits there noted = tt
noted_so (Ok _) number upstream old servers x call before after at awaits there noted = λ c a s is.
    let same : a.0 ≡ x = cc (a.1, at) in
    let both : Some c ≡ Some call = sym a.2 ∙ ap (λ (z : connections.Client). z.downstream.awaited) same ∙ awaits in
    let so : c ≡ call = cc both in
    let it : s ≡ after = cc (is, there) in
    let put : get nat_eq after.callers call.call ≡ Some number = noted.1 in
    ap (λ (z : Server). get nat_eq z.callers c.call) it ∙ ap (λ (k : Awaited). get nat_eq after.callers k.call) so ∙ put

-- the same, behind what left the core alone
pub noted_after : {E : Type 0} (r : Result (Unit {0}) E) (number upstream : ℕ) (old mid : Core) (servers : Servers) → mid ≡ old
    → OnOk r ((c : Awaited) → AwaitsCall mid number c → IsNoted c.call number upstream servers)
    → OnOk r ((c : Awaited) → AwaitsCall old number c → IsNoted c.call number upstream servers)
noted_after r number upstream old mid servers same noted =
    subst (λ (core : Core). OnOk r ((c : Awaited) → AwaitsCall core number c → IsNoted c.call number upstream servers)) same noted

-- ---- with a place

pub passes_on : (number upstream : ℕ) (m : Message) (old placed new : Sharing) → Places old.core placed.core → Asks (seen old.core) number m → Went number upstream placed new
    → PassesOn number old.core new.core ⊎ IsRefused number old new
passes_on number upstream m old placed new before asks (went_over over) = inl (record { placed = placed.core; before = before; upstream = upstream; over = over })
passes_on number upstream m old placed new before asks (none_asked gone) = absurd (gone.none m (still_asks number m old.core placed.core before asks))
passes_on number upstream m old placed new before asks (was_closed gone) =
    inr (record { placed = placed.core; before = before; closes = gone.core; gone = gone.gone })
