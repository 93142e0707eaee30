-- Codes of actions and rules, by which a proof tells them apart.
use Rattle.std.specs.Prelude.{◌≡◌, ℕ, ◌==◌, if◌then◌else◌, List, [], Option, refl}
use Rattle.std.specs.Coded.{Coded, code_by, coded_list, coded_option, coded_ℕ, coded×}
use Rattle.bson_raw.specs.{TreeValue}
use Rattle.bson_doc.specs.Codes.{coded_pairs}
use Rattle.script_rules.specs.declared.action.Action.{Action}
use Rattle.script_rules.specs.declared.action.Action.TheVariants as actions
use Rattle.script_rules.specs.Rules.{RuleView}

-- the pairs of a document
abbrev pub Pairs : Type 0
Pairs = List (List ℕ × TreeValue)

-- an action as two numbers and a document
abbrev pub action_parts : Action → ℕ × (ℕ × Pairs)
action_parts (actions.Reply d) = (0, (0, d))
action_parts (actions.Delay n) = (1, (n, []))
action_parts actions.HangUp = (2, (0, []))
action_parts (actions.Cut n) = (3, (n, []))
action_parts actions.NoReply = (4, (0, []))
action_parts actions.Pass = (5, (0, []))
action_parts (actions.CutUp n) = (6, (n, []))

abbrev pub action_from : ℕ × (ℕ × Pairs) → Action
action_from p =
    if p.0 == 0 then actions.Reply p.1.1 else
    if p.0 == 1 then actions.Delay p.1.0 else
    if p.0 == 2 then actions.HangUp else
    if p.0 == 3 then actions.Cut p.1.0 else
    if p.0 == 4 then actions.NoReply else
    if p.0 == 5 then actions.Pass else actions.CutUp p.1.0

abbrev pub action_back : (a : Action) → action_from (action_parts a) ≡ a
action_back (actions.Reply d) = refl
action_back (actions.Delay n) = refl
action_back actions.HangUp = refl
action_back (actions.Cut n) = refl
action_back actions.NoReply = refl
action_back actions.Pass = refl
action_back (actions.CutUp n) = refl

abbrev pub coded_action : Coded Action
coded_action =
    code_by (ℕ × (ℕ × Pairs)) (coded× coded_ℕ (coded× coded_ℕ coded_pairs)) action_parts action_from
    action_back

abbrev pub coded_rule : Coded RuleView
coded_rule =
    code_by (Option (List ℕ) × (Pairs × (Option ℕ × Action)))
    (coded× (coded_option (coded_list coded_ℕ))
    (coded× coded_pairs (coded× (coded_option coded_ℕ) coded_action)))
    (λ r. (r.command, (r.filter, (r.left, r.action))))
    (λ p. record { command = p.0; filter = p.1.0; left = p.1.1.0; action = p.1.1.1 }) (λ _. refl)
