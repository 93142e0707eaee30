-- A connection over which a client authenticates is that client's alone.
use Rattle.std.proofs.Common.{◌≡◌, ℕ, zero, suc, ◌≤◌, ◌<◌, Bool, true, false, List, [], ◌∷◌, refl, sym, ◌∙◌, ap, subst, Option, Some, None, ◌⊎◌, inl, inr, arith}
use Rattle.std.specs.Prelude.{◌==◌, if◌then◌else◌}
use Rattle.std.proofs.lemmas.Bool.{eqb-true}
use Rattle.std.proofs.lemmas.Option.{none-some}
use Rattle.wire_msg.specs.{Message}
use Rattle.wire_msg.specs.declared.payloads.Payload.{Payload}
use Rattle.wire_peer.specs.{LogEntry}
use Rattle.wire_peer.specs.declared.calls.CallNo.{CallNo}
use Rattle.wire_share.specs.Acts.{Passes, ShareAct}
use Rattle.wire_share.specs.declared.need.Need.{Need}
use Rattle.wire_share.specs.declared.need.Need.TheVariants as needs
use Rattle.wire_share.proofs.Among.{Inside, inside}
use Rattle.wire_share.specs.declared.server.Server.{Server}
use Rattle.wire_share.specs.declared.uses.Use.{Use}
use Rattle.wire_share.specs.declared.uses.Use.TheVariants as used
use Rattle.wire_share.specs.Placing.{serves, used_up}
use Rattle.wire_model.specs.{ClientAct}
use Rattle.wire_model.proofs.Lemmas.{is_here}
use Rattle.wire_share.specs.Acts.{act_of}
use Rattle.wire_share.specs.Cores.{UpPart, ClosesDown, CoreAct, CoreDoes, CoreRun, CoreSeen, Finishes, IsPlaced, LosesUp, OpensDown, OpensUp, RunsOut, Shares, need_in, new_core, new_server}
use Rattle.wire_share.specs.Core_laws.{AuthenticatedAlone, shared_in}
use Rattle.wire_share.proofs.Standing.{Stands, none_at, same_at, some_at, stands_on}

false≢true : false ≡ true → ⊥
false≢true p = cc

-- ---- what a use may be

-- it is kept for this client, or over
abbrev IsOf : ℕ → Use → Type 0
IsOf o use_ = (use_ ≡ used.Kept o) ⊎ (use_ ≡ used.Over)

of_up : (o : ℕ) (use_ : Use) → IsOf o use_ → IsOf o (used_up use_)
of_up o use_ (inl is) = inl (ap used_up is)
of_up o use_ (inr is) = inr (ap used_up is)

of_serves : (o e : ℕ) (need : Need) (use_ : Use) → serves need e use_ ≡ true → IsOf o use_ → e ≡ o
of_serves o e need use_ served (inl is) = sym (eqb-true o e (ap (serves need e) (sym is) ∙ served))
of_serves o e need use_ served (inr is) = absurd (false≢true (ap (serves need e) (sym is) ∙ served))

-- it is kept for nobody
abbrev is_free : Use → Bool
is_free (used.Kept o) = false
is_free use_ = true

abbrev IsFree : Use → Type 0
IsFree use_ = is_free use_ ≡ true

free_up : (use_ : Use) → IsFree use_ → IsFree (used_up use_)
free_up used.Shared free = refl
free_up used.Once free = refl
free_up (used.Kept o) free = free
free_up (used.Transaction b) free = refl
free_up used.Over free = refl

free_serves : (e : ℕ) (use_ : Use) → serves needs.Kept e use_ ≡ true → IsFree use_ → ⊥
free_serves e used.Shared served free = false≢true served
free_serves e used.Once served free = false≢true served
free_serves e (used.Kept o) served free = false≢true free
free_serves e (used.Transaction b) served free = false≢true served
free_serves e used.Over served free = false≢true served

-- ---- requests that go over one connection

-- the first act, or one of the others
first_or : (a : ShareAct) (act : CoreAct) (acts : List CoreAct) → Inside a (shared_in (act ∷ acts)) → (act ≡ Shares a) ⊎ Inside a (shared_in acts)
first_or a (Shares x) acts (inl same) = inl (ap Shares same)
first_or a (Shares x) acts (inr i) = inr i
first_or a (OpensDown d) acts i = inr i
first_or a (ClosesDown d) acts i = inr i
first_or a (OpensUp v x) acts i = inr i
first_or a (Finishes v) acts i = inr i
first_or a (LosesUp v) acts i = inr i
first_or a RunsOut acts i = inr i

-- each request that goes over u in these acts, by its client, is one of these
abbrev Each : (ℕ → Message → Type 0) → ℕ → List CoreAct → Type 0
Each P u acts = (e : ℕ) (m : Message) (p : Payload) (call : CallNo) (made : List LogEntry) → Inside (Passes e u m p call made) (shared_in acts) → P e m

-- where each one that goes over a connection of such a use is one of these, all that come are
module _ (Q : Use → Type 0) (up : (use_ : Use) → Q use_ → Q (used_up use_)) (over : (use_ : Use) → Q use_ → Q used.Over)
    (P : ℕ → Message → Type 0) (u : ℕ) (gives : (e : ℕ) (m : Message) (use_ : Use) → serves (need_in m) e use_ ≡ true → Q use_ → P e m) where
  at_first : (e : ℕ) (m : Message) (old : CoreSeen) → IsPlaced old e u m → Stands Q u old → P e m
  at_first e m old at s = gives e m at.server.used at.serves_ (s.at at.server at.server_at)

  each_of : (acts : List CoreAct) (old new : CoreSeen) → CoreRun old acts new → Stands Q u old → Each P u acts
  each_of [] old new run s e m p call made i = absurd i
  each_of (act ∷ acts) old new run s e m p call made i =
      by (each_of acts run.0 new run.2 (stands_on Q up over act old run.0 u run.1 s) e m p call made) (first_or (Passes e u m p call made) act acts i)
    where
      by : (Inside (Passes e u m p call made) (shared_in acts) → P e m) → (act ≡ Shares (Passes e u m p call made)) ⊎ Inside (Passes e u m p call made) (shared_in acts) → P e m
      by others (inl is) = at_first e m old (subst (λ (x : CoreAct). CoreDoes x old run.0) is run.1).permitted s
      by others (inr j) = others j

-- all requests over u are of one client, or none of them needs to be kept
abbrev Ruled : ℕ → List CoreAct → Type 0
Ruled u acts = ((o : ℕ) × Each (λ e m. e ≡ o) u acts) ⊎ Each (λ e m. need_in m ≡ needs.Kept → ⊥) u acts

free_rules : (u : ℕ) (acts : List CoreAct) (old new : CoreSeen) → CoreRun old acts new → Stands IsFree u old → Ruled u acts
free_rules u acts old new run s =
    inr (each_of IsFree free_up (λ use_ q. refl) (λ e m. need_in m ≡ needs.Kept → ⊥) u
    (λ e m use_ served q kept. free_serves e use_ (ap (λ need. serves need e use_) (sym kept) ∙ served) q) acts old new run s)

own_rules : (o u : ℕ) (acts : List CoreAct) (old new : CoreSeen) → CoreRun old acts new → Stands (IsOf o) u old → Ruled u acts
own_rules o u acts old new run s =
    inl (o, each_of (IsOf o) (of_up o) (λ use_ q. inr refl) (λ e m. e ≡ o) u (λ e m use_ served q. of_serves o e (need_in m) use_ served q) acts old new run s)

-- ---- from the beginning

free_stands : (u : ℕ) (use_ : Use) (s : CoreSeen) → u ≤ s.opened → s.ups u ≡ Some (new_server u use_) → IsFree use_ → Stands IsFree u s
free_stands u use_ s below is free = record { below = below; at = same_at IsFree (Some (new_server u use_)) (s.ups u) is (some_at IsFree (new_server u use_) free) }

opened_as : (u : ℕ) (use_ : Use) (acts : List CoreAct) (mid new : CoreSeen) → CoreRun mid acts new → u ≤ mid.opened → mid.ups u ≡ Some (new_server u use_) → Ruled u acts
opened_as u used.Shared acts mid new run below is = free_rules u acts mid new run (free_stands u used.Shared mid below is refl)
opened_as u used.Once acts mid new run below is = free_rules u acts mid new run (free_stands u used.Once mid below is refl)
opened_as u (used.Kept o) acts mid new run below is =
    own_rules o u acts mid new run (record { below = below; at = same_at (IsOf o) (Some (new_server u (used.Kept o))) (mid.ups u) is (some_at (IsOf o) (new_server u (used.Kept o)) (inl refl)) })
opened_as u (used.Transaction b) acts mid new run below is = free_rules u acts mid new run (free_stands u (used.Transaction b) mid below is refl)
opened_as u used.Over acts mid new run below is = free_rules u acts mid new run (free_stands u used.Over mid below is refl)

-- the connection is yet to be opened
record IsComing (u : ℕ) (s : CoreSeen) : Type 0 where
  above : s.opened < u
  absent : s.ups u ≡ None

none_on : (u : ℕ) (o : Option ClientAct) (row new : Option Server) → UpPart u o row new → row ≡ None → new ≡ None
none_on u None row new part absent = part ∙ absent
none_on u (Some act) row new part absent = absurd (none-some part.0 (sym absent ∙ part.2))

put_none : (b : Bool) (value old new : Option Server) → new ≡ (if b then value else old) → (b ≡ true → value ≡ None) → old ≡ None → new ≡ None
put_none true value old new is at absent = is ∙ at refl
put_none false value old new is at absent = is ∙ absent

-- an act keeps that, or opens it
coming_on : (act : CoreAct) (u : ℕ) (old new : CoreSeen) → CoreDoes act old new → IsComing u old
    → IsComing u new ⊎ ((use_ : Use) × (u ≤ new.opened) × (new.ups u ≡ Some (new_server u use_)))
coming_on (Shares act) u old new does c =
    inl (record { above = subst (λ n. n < u) (sym does.opened) c.above; absent = none_on u (act_of act u) (old.ups u) (new.ups u) (does.ups u) c.absent })
coming_on (OpensDown d) u old new does c = inl (record { above = subst (λ n. n < u) (sym does.opened) c.above; absent = does.ups u ∙ c.absent })
coming_on (ClosesDown d) u old new does c = inl (record { above = subst (λ n. n < u) (sym does.opened) c.above; absent = does.ups u ∙ c.absent })
coming_on (OpensUp v x) u old new does c = by (v == u) refl
  where
    by : (b : Bool) → (v == u) ≡ b → IsComing u new ⊎ ((use_ : Use) × (u ≤ new.opened) × (new.ups u ≡ Some (new_server u use_)))
    by true is =
        let same : v ≡ u = eqb-true v u is in
        let reached : u ≤ new.opened = omega (arith, same, does.opened) in
        inr (x, reached, does.ups u ∙ ap (λ (b : Bool). if b then Some (new_server v x) else old.ups u) is ∙ ap (λ (n : ℕ). Some (new_server n x)) same)
    by false is =
        let differ : v ≡ u → ⊥ = λ same. false≢true (sym is ∙ is_here u v same) in
        let still : new.opened < u = omega (arith, does.number, does.opened, c.above, differ) in
        inl (record { above = still; absent = does.ups u ∙ ap (λ (b : Bool). if b then Some (new_server v x) else old.ups u) is ∙ c.absent })
coming_on (Finishes v) u old new does c = inl (record {
  above = subst (λ n. n < u) (sym does.opened) c.above;
  absent =
      put_none (v == u) _ (old.ups u) (new.ups u) (does.ups u)
      (λ is. absurd (none-some does.server (sym c.absent ∙ ap old.ups (sym (eqb-true v u is)) ∙ does.server_at))) c.absent;
})
coming_on (LosesUp v) u old new does c =
    inl (record { above = subst (λ n. n < u) (sym does.opened) c.above; absent = put_none (v == u) None (old.ups u) (new.ups u) (does.ups u) (λ is. refl) c.absent })
coming_on RunsOut u old new does c = inl (record { above = subst (λ n. n < u) (sym does.opened) c.above; absent = does.ups u ∙ c.absent })

-- a request that goes over none yet is none
none_first : (u : ℕ) (act : CoreAct) (acts : List CoreAct) (old mid : CoreSeen) → CoreDoes act old mid → IsComing u old
    → (e : ℕ) (m : Message) (p : Payload) (call : CallNo) (made : List LogEntry) → Inside (Passes e u m p call made) (shared_in (act ∷ acts)) → Inside (Passes e u m p call made) (shared_in acts)
none_first u act acts old mid does c e m p call made i = by (first_or (Passes e u m p call made) act acts i)
  where
    never : act ≡ Shares (Passes e u m p call made) → ⊥
    never is =
        let at = (subst (λ (x : CoreAct). CoreDoes x old mid) is does).permitted in
        none-some at.server (sym c.absent ∙ at.server_at)

    by : (act ≡ Shares (Passes e u m p call made)) ⊎ Inside (Passes e u m p call made) (shared_in acts) → Inside (Passes e u m p call made) (shared_in acts)
    by (inl is) = absurd (never is)
    by (inr j) = j

ruled_on : (u : ℕ) (act : CoreAct) (acts : List CoreAct) (old mid : CoreSeen) → CoreDoes act old mid → IsComing u old → Ruled u acts → Ruled u (act ∷ acts)
ruled_on u act acts old mid does c (inl only) =
    inl (only.0, (λ e m p call made i. only.1 e m p call made (none_first u act acts old mid does c e m p call made i)))
ruled_on u act acts old mid does c (inr none) =
    inr (λ e m p call made i. none e m p call made (none_first u act acts old mid does c e m p call made i))

ruled : (u : ℕ) (acts : List CoreAct) (old new : CoreSeen) → CoreRun old acts new → IsComing u old → Ruled u acts
ruled u [] old new run c = inr (λ e m p call made i. absurd i)
ruled u (act ∷ acts) old new run c = ruled_on u act acts old run.0 run.1 c (by (ruled u acts run.0 new run.2) (coming_on act u old run.0 run.1 c))
  where
    by : (IsComing u run.0 → Ruled u acts) → IsComing u run.0 ⊎ ((use_ : Use) × (u ≤ run.0.opened) × (run.0.ups u ≡ Some (new_server u use_))) → Ruled u acts
    by later (inl still) = later still
    by later (inr now) = opened_as u now.0 acts run.0 new run.2 now.1 now.2

ruled_all : (u : ℕ) (acts : List CoreAct) (now : CoreSeen) → CoreRun new_core acts now → Ruled u acts
ruled_all zero acts now run = free_rules zero acts new_core now run (record { below = omega arith; at = none_at IsFree })
ruled_all (suc u) acts now run = ruled (suc u) acts new_core now run (record { above = omega arith; absent = refl })

pub alone : (acts : List CoreAct) (now : CoreSeen) → CoreRun new_core acts now → AuthenticatedAlone (shared_in acts)
alone acts now run d e u m n p q call other made told first kept second = by (ruled_all u acts now run)
  where
    i : Inside (Passes d u m p call made) (shared_in acts)
    i = subst (λ (xs : List ShareAct). Inside (Passes d u m p call made) xs) (sym first.2) (inside (Passes d u m p call made) first.0 first.1)

    j : Inside (Passes e u n q other told) (shared_in acts)
    j = subst (λ (xs : List ShareAct). Inside (Passes e u n q other told) xs) (sym second.2) (inside (Passes e u n q other told) second.0 second.1)

    by : Ruled u acts → e ≡ d
    by (inl only) = only.1 e n q other told j ∙ sym (only.1 d m p call made i)
    by (inr none) = absurd (none d m p call made i kept)
