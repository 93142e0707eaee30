-- The rules of a script, and which requests each is for.
use Rattle.std.specs.Prelude.{ℕ, ◌-◌, List, [], ◌∷◌, Bool, true, false, ◌&&◌, Option, Some, None}
use Rattle.std.specs.Prelude.{nat_lt, option_map}
use Rattle.std.specs.Str.{bytes_eq}
use Rattle.bson_raw.specs.{TreeValue}
use Rattle.bson_doc.specs.{tree_of}
use Rattle.doc_query.specs.{matches}
use Rattle.wire_msg.specs.{Content}
use Rattle.command_parts.specs.{first_name}
use Rattle.script_rules.specs.Asked.{asked_value}
use Rattle.script_rules.specs.declared.action.Action.{Action}
use Rattle.script_rules.specs.declared.action.Action.TheVariants as actions
use Rattle.script_rules.specs.declared.action.Flow.{Flow}
use Rattle.script_rules.specs.declared.action.Flow.TheVariants as flows

-- A rule: the name of its command, or none for any; the filter of the bodies; how often it may
-- still be used, or none for any number of times; and what it does.
pub record RuleView : Type 0 where
  pub command : Option (List ℕ)
  pub filter : List (List ℕ × TreeValue)
  pub left : Option ℕ
  pub action : Action

-- what becomes of the bytes of the reply
abbrev pub flow_of : Action → Flow
flow_of (actions.Delay millis) = flows.Held millis
flow_of (actions.Cut count) = flows.Cut count
flow_of actions.NoReply = flows.Dropped
flow_of _ = flows.Whole

-- ---- which requests a rule is for

-- the rule may still be used
abbrev pub may_be_used : Option ℕ → Bool
may_be_used None = true
may_be_used (Some count) = nat_lt 0 count

abbrev pub is_live : RuleView → Bool
is_live r = may_be_used r.left

-- the command has the name, or the rule is for any
abbrev pub names : Option (List ℕ) → List ℕ → Bool
names None name = true
names (Some own) name = bytes_eq own name

-- the filter asks for nothing, or it matches what is asked
abbrev pub suits : List (List ℕ × TreeValue) → Option TreeValue → Bool
suits [] asked = true
suits (p ∷ ps) None = false
suits (p ∷ ps) (Some v) = matches (tree_of (p ∷ ps)) v

-- a request for a command of this name, which asks for this, meets the rule
abbrev pub meets_as : List ℕ → Option TreeValue → RuleView → Bool
meets_as name asked r = is_live r && names r.command name && suits r.filter asked

-- the request meets the rule: the rule may still be used, and is for it
abbrev pub meets : Content → RuleView → Bool
meets c r = meets_as (first_name c.body) (asked_value c) r

-- the rule after it was used once more
abbrev pub used : RuleView → RuleView
used r = record r { left = option_map (λ count. count - 1) r.left }
