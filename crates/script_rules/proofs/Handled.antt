-- What a handler with a script does by the rule that a request met.
use Rattle.std.proofs.Common.{◌≡◌, ◌++◌, ℕ, List, [], ◌∷◌, Option, Some, None, Result, Ok, Err, refl, sym, subst, ap, ◌∙◌, inl}
use Rattle.std.specs.Prelude.{IfErr, OnOk}
use Rattle.bson_raw.specs.{TreeValue}
use Rattle.bson_doc.specs.{tree_of}
use Rattle.wire_msg.specs.{Content, body_alone}
use Rattle.wire_peer.specs.{Asked, Does, Stops}
use Rattle.wire_peer.specs.declared.handlers.HandlerStop.{HandlerStop}
use Rattle.wire_peer.specs.declared.handlers.HandlerStop.TheVariants as stopped
use Rattle.command_parts.specs.{IsUnanswerable}
use Rattle.script_rules.specs.declared.action.Action.{Action}
use Rattle.script_rules.specs.declared.action.Action.TheVariants as actions
use Rattle.script_rules.specs.declared.scripted.Scripted.{Scripted}
use Rattle.script_rules.specs.Handling.{AnswersBy, IsAnswered, IsStopped, StopsBy}
use Rattle.script_rules.specs.Meeting.{action_at, after, first_met, met}
use Rattle.script_rules.specs.Rules.{RuleView}
use Rattle.script_rules.proofs.Used.{action_is}

abbrev Pairs : Type 0
Pairs = List (List ℕ × TreeValue)

pub met_is : (found : Option ℕ) (items : List RuleView) (c : Content) (rs : List RuleView) (o : Option Action) → items ≡ after c rs → found ≡ first_met c rs
    → o ≡ action_at found items → met c rs ≡ o
met_is found items c rs o is e at = sym (at ∙ action_is found items c rs is e)

-- ---- the handler inside answers

-- it does by no rule, and by one that is no reply, no hang-up and no cut of the request
abbrev pub IsPassed : Option Action → Type 0
IsPassed None = Unit {0}
IsPassed (Some (actions.Reply d)) = ⊥
IsPassed (Some actions.HangUp) = ⊥
IsPassed (Some (actions.CutUp n)) = ⊥
IsPassed (Some act) = Unit {0}

pub is_passed : (act : Action) → ((d : Pairs) → act ≡ actions.Reply d → ⊥) → (act ≡ actions.HangUp → ⊥) → ((n : ℕ) → act ≡ actions.CutUp n → ⊥) → IsPassed (Some act)
is_passed (actions.Reply d) reply hang cuts = reply d refl
is_passed (actions.Delay n) reply hang cuts = tt
is_passed actions.HangUp reply hang cuts = hang refl
is_passed (actions.Cut n) reply hang cuts = tt
is_passed (actions.CutUp n) reply hang cuts = cuts n refl
is_passed actions.NoReply reply hang cuts = tt
is_passed actions.Pass reply hang cuts = tt

answers_passed : {H : Type 0} (does : Does H) (o : Option Action) (h h' : H) (a : Asked) (xs : List Content) → IsPassed o → does h a xs h' → AnswersBy does o h a xs h'
answers_passed does None h h' a xs p did = did
answers_passed does (Some (actions.Reply d)) h h' a xs p did = absurd p
answers_passed does (Some (actions.Delay n)) h h' a xs p did = did
answers_passed does (Some actions.HangUp) h h' a xs p did = absurd p
answers_passed does (Some (actions.CutUp n)) h h' a xs p did = absurd p
answers_passed does (Some (actions.Cut n)) h h' a xs p did = did
answers_passed does (Some actions.NoReply) h h' a xs p did = did
answers_passed does (Some actions.Pass) h h' a xs p did = did

stops_passed : {H : Type 0} (stops : Stops H) (o : Option Action) (h h' : H) (a : Asked) (stop : HandlerStop) → IsPassed o → stops h a stop h' → StopsBy stops o h a stop h'
stops_passed stops None h h' a stop p did = did
stops_passed stops (Some (actions.Reply d)) h h' a stop p did = absurd p
stops_passed stops (Some (actions.Delay n)) h h' a stop p did = did
stops_passed stops (Some actions.HangUp) h h' a stop p did = absurd p
stops_passed stops (Some (actions.CutUp n)) h h' a stop p did = absurd p
stops_passed stops (Some (actions.Cut n)) h h' a stop p did = did
stops_passed stops (Some actions.NoReply) h h' a stop p did = did
stops_passed stops (Some actions.Pass) h h' a stop p did = did

pub passed : {H E : Type 0} (does : Does H) (s s' : Scripted H) (a : Asked) (xs : List Content) (o : Option Action) (r : Result (Unit {0}) E)
    → met a.payload s.script.rules.items ≡ o → IsPassed o → s'.script.rules.items ≡ after a.payload s.script.rules.items
    → OnOk r (does s.inner a xs s'.inner) → OnOk r (IsAnswered does s a xs s')
passed does s s' a xs o (Err e) is p used did = tt
passed does s s' a xs o (Ok u) is p used did =
    (subst (λ (m : Option Action). AnswersBy does m s.inner a xs s'.inner) (sym is) (answers_passed does o s.inner s'.inner a xs p did), used)

pub passed_stop : {H : Type 0} (stops : Stops H) (s s' : Scripted H) (a : Asked) (o : Option Action) (r : Result (Unit {0}) HandlerStop)
    → met a.payload s.script.rules.items ≡ o → IsPassed o → s'.script.rules.items ≡ after a.payload s.script.rules.items
    → IfErr r (λ stop. stops s.inner a stop s'.inner) → IfErr r (λ stop. IsStopped stops s a stop s')
passed_stop stops s s' a o (Ok u) is p used did = tt
passed_stop stops s s' a o (Err e) is p used did =
    inl (subst (λ (m : Option Action). StopsBy stops m s.inner a e s'.inner) (sym is) (stops_passed stops o s.inner s'.inner a e p did), used)

-- ---- the rule answers

pub replied : {H E : Type 0} (does : Does H) (s s' : Scripted H) (a : Asked) (d : Pairs) (old new : List Content) (r : Result (Unit {0}) E)
    → met a.payload s.script.rules.items ≡ Some (actions.Reply d) → s'.inner ≡ s.inner → s'.script.rules.items ≡ after a.payload s.script.rules.items → old ≡ []
    → OnOk r (new ≡ old ++ body_alone (tree_of d) ∷ []) → OnOk r (IsAnswered does s a new s')
replied does s s' a d old new (Err e) is same used none put = tt
replied does s s' a d old new (Ok u) is same used none put =
    (subst (λ (m : Option Action). AnswersBy does m s.inner a new s'.inner) (sym is) (put ∙ ap (λ (l : List Content). l ++ body_alone (tree_of d) ∷ []) none, same), used)

pub replied_stop : {H : Type 0} (stops : Stops H) (s s' : Scripted H) (a : Asked) (d : Pairs) (r : Result (Unit {0}) HandlerStop)
    → met a.payload s.script.rules.items ≡ Some (actions.Reply d) → s'.inner ≡ s.inner → s'.script.rules.items ≡ after a.payload s.script.rules.items
    → IfErr r (λ stop. stop ≡ stopped.Failed → IsUnanswerable (tree_of d)) → IfErr r (λ stop. IsStopped stops s a stop s')
replied_stop stops s s' a d (Ok u) is same used failed = tt
replied_stop stops s s' a d (Err e) is same used failed =
    inl (subst (λ (m : Option Action). StopsBy stops m s.inner a e s'.inner) (sym is) (failed, same), used)

pub hung_up : {H : Type 0} (stops : Stops H) (s s' : Scripted H) (a : Asked) → met a.payload s.script.rules.items ≡ Some actions.HangUp
    → s'.inner ≡ s.inner → s'.script.rules.items ≡ after a.payload s.script.rules.items → IsStopped stops s a stopped.Failed s'
hung_up stops s s' a is same used = inl (subst (λ (m : Option Action). StopsBy stops m s.inner a stopped.Failed s'.inner) (sym is) (refl, same), used)

pub cut_up : {H : Type 0} (stops : Stops H) (s s' : Scripted H) (a : Asked) (n : ℕ) → met a.payload s.script.rules.items ≡ Some (actions.CutUp n)
    → s'.inner ≡ s.inner → s'.script.rules.items ≡ after a.payload s.script.rules.items → IsStopped stops s a stopped.Failed s'
cut_up stops s s' a n is same used = inl (subst (λ (m : Option Action). StopsBy stops m s.inner a stopped.Failed s'.inner) (sym is) (refl, same), used)
