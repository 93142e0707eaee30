-- A line whose action isn't read.
use Rattle.std.proofs.Common.{◌≡◌, ◌∙◌, ℕ, List, Option, ap, inl, inr, subst}
use Rattle.bson_raw.specs.{TreeValue}
use Rattle.test_script.specs.declared.fault.Cause.{Cause}
use Rattle.test_script.specs.declared.fault.Cause.TheVariants as causes
use Rattle.script_rules.specs.declared.action.Action.{Action}
use Rattle.test_script.specs.Lines.{FailsBy, HasCommand, IsAction, IsActionFault, IsFilter, IsNoActionFor, IsTimes, after_command, after_filter, after_times, behind_filter, behind_times, filter_at, times_at}
use Rattle.test_script.specs.Written.{IsJsonCause}

abbrev Pairs : Type 0
Pairs = List (List ℕ × TreeValue)

by_cause : (line : List ℕ) (f : Pairs) (left : Option ℕ) (e : Cause) → HasCommand line → IsFilter (filter_at (after_command line)) f
    → IsTimes (times_at (after_filter line)) left → IsActionFault (after_times line) e → FailsBy line e
by_cause line f left causes.Start has filter times fault = absurd fault
by_cause line f left causes.Filter has filter times fault = absurd fault
by_cause line f left causes.Operator has filter times fault = absurd fault
by_cause line f left causes.Times has filter times fault = absurd fault
by_cause line f left (causes.Json cause column) has filter times fault = (has, inr ((f, filter), (left, times), fault))
by_cause line f left causes.Action has filter times fault = (has, ((f, filter), (left, times), fault))
by_cause line f left causes.OutOfMemory has filter times fault = tt

-- the parts before it were cut off one after another
pub action_fails : (line rest then last : List ℕ) (word count : Option (List ℕ)) (f : Pairs) (left : Option ℕ) (e : Cause) → HasCommand line
    → rest ≡ after_command line → word ≡ filter_at rest → then ≡ behind_filter rest → count ≡ times_at then → last ≡ behind_times then
    → IsFilter word f → IsTimes count left → IsActionFault last e → FailsBy line e
action_fails line rest then last word count f left e has command filter_is behind count_is after filter times fault =
    let past : then ≡ after_filter line = behind ∙ ap behind_filter command in
    by_cause line f left e has (subst (λ (w : Option (List ℕ)). IsFilter w f) (filter_is ∙ ap filter_at command) filter)
    (subst (λ (w : Option (List ℕ)). IsTimes w left) (count_is ∙ ap times_at past) times)
    (subst (λ (t : List ℕ). IsActionFault t e) (after ∙ ap behind_times past) fault)

-- a cause that is none of Extended JSON is that of the action
by_action : (text : List ℕ) (cause : Cause) → ((word : List ℕ) → IsJsonCause word cause → ⊥) → IsNoActionFor text cause → cause ≡ causes.Action
by_action text cause never (inl reply) = elim reply.2 [
  | inl json ↦ absurd (never reply.0 json.1)
  | inr is ↦ is.1
]
by_action text cause never (inr other) = other.1

pub action_fault : (text : List ℕ) (cause : Cause) → ((a : Action) → IsAction text a → ⊥) → IsNoActionFor text cause → IsActionFault text cause
action_fault text causes.Start none why = let is = by_action text causes.Start (λ word json. json) why in cc
action_fault text causes.Filter none why = let is = by_action text causes.Filter (λ word json. json) why in cc
action_fault text (causes.Json cause column) none why = (none, why)
action_fault text causes.Operator none why = let is = by_action text causes.Operator (λ word json. json) why in cc
action_fault text causes.Times none why = let is = by_action text causes.Times (λ word json. json) why in cc
action_fault text causes.Action none why = (none, why)
action_fault text causes.OutOfMemory none why = tt
