-- Which rule of a script a request meets, and the rules after it.
use Rattle.std.specs.Prelude.{◌≡◌, ℕ, suc, ◌+◌, ◌<◌, ◌==◌, List, [], ◌∷◌, Bool, true, false}
use Rattle.std.specs.Prelude.{Option, Some, None, if◌then◌else◌, option_map, slice_get}
use Rattle.bson_raw.specs.{TreeValue}
use Rattle.wire_msg.specs.{Content}
use Rattle.command_parts.specs.{first_name}
use Rattle.script_rules.specs.declared.action.Action.{Action}
use Rattle.script_rules.specs.declared.action.Flow.{Flow}
use Rattle.script_rules.specs.declared.action.Flow.TheVariants as flows
use Rattle.script_rules.specs.Asked.{asked_value}
use Rattle.script_rules.specs.Rules.{RuleView, flow_of, meets, meets_as, used}

-- the index of the first rule that a request for a command of this name meets, which asks for this
abbrev pub first_met_as : List ℕ → Option TreeValue → List RuleView → Option ℕ
first_met_as name asked [] = None
first_met_as name asked (r ∷ rs) =
    if meets_as name asked r then Some 0
    else option_map (λ i. suc i) (first_met_as name asked rs)

-- the index of the first rule that the request meets
abbrev pub first_met : Content → List RuleView → Option ℕ
first_met c rs = first_met_as (first_name c.body) (asked_value c) rs

-- the action of the first rule that the request meets, or none if it meets no rule
abbrev pub met : Content → List RuleView → Option Action
met c [] = None
met c (r ∷ rs) = if meets c r then Some r.action else met c rs

-- the rules after the request: that one was used once more
abbrev pub after : Content → List RuleView → List RuleView
after c [] = []
after c (r ∷ rs) = if meets c r then used r ∷ rs else r ∷ after c rs

-- what the rule at this index does
abbrev pub action_at : Option ℕ → List RuleView → Option Action
action_at None rs = None
action_at (Some i) rs = option_map (λ r. r.action) (slice_get rs i)

-- what becomes of the reply, by what the rule does that the request met; all is sent if it met none
abbrev pub flow_by : Option Action → Flow
flow_by None = flows.Whole
flow_by (Some action) = flow_of action

-- ---- what that is

-- the request meets the rule at this index, and none before it
pub record IsFirstLive (c : Content) (rs : List RuleView) (i : ℕ) : Type 0 where
  pub rule : RuleView
  pub at : slice_get rs i ≡ Some rule
  pub is_met : meets c rule ≡ true
  pub first : (j : ℕ) (other : RuleView) → j < i → slice_get rs j ≡ Some other
      → meets c other ≡ false

-- whether this is the index
abbrev pub is_index : ℕ → Option ℕ → Bool
is_index i None = false
is_index i (Some j) = i == j

-- how many of these requests, one after another, meet the rule at this index
abbrev pub uses : ℕ → List Content → List RuleView → ℕ
uses i [] rs = 0
uses i (c ∷ cs) rs = (if is_index i (first_met c rs) then 1 else 0) + uses i cs (after c rs)
