-- What a line of a script is read as: on COMMAND [FILTER] [times N] ACTION
use Rattle.std.specs.Prelude.{◌≡◌, ◌≢◌, ◌⊎◌, ℕ, ℤ, pos, ◌^◌, List, [], Bool, false}
use Rattle.std.specs.Prelude.{Option, Some, None, Ok, Err, codes, if◌then◌else◌, ◌||◌, ◌==◌, length}
use Rattle.std.specs.Str.{bytes_eq}
use Rattle.bson_raw.specs.{TreeValue}
use Rattle.bson_doc.specs.{tree_of}
use Rattle.doc_query.specs.{filter_in}
use Rattle.doc_query.specs.declared.failure.CommandError.{CommandError}
use Rattle.command_parts.specs.{error_pairs}
use Rattle.script_lines.specs.{IsNumber}
use Rattle.script_rules.specs.declared.action.Action.{Action}
use Rattle.script_rules.specs.declared.action.Action.TheVariants as actions
use Rattle.test_script.specs.declared.fault.Cause.{Cause}
use Rattle.test_script.specs.declared.fault.Cause.TheVariants as causes
use Rattle.test_script.specs.declared.keyword.Keyword.{Keyword}
use Rattle.test_script.specs.declared.keyword.Keyword.TheVariants as keywords
use Rattle.script_rules.specs.Rules.{RuleView}
use Rattle.test_script.specs.Tokens.{begins_value, behind, word_in}
use Rattle.test_script.specs.Written.{AreTwoWords, IsDocument, IsNoDocumentFor, IsNothing}
use Rattle.test_script.specs.Written.{IsOneWord, IsQuoted}

-- ---- the command

-- the word is the name of the command, or * for any
abbrev pub IsCommand : List ℕ → Option (List ℕ) → Type 0
IsCommand word None = word ≡ codes "*"
IsCommand word (Some name) = (word ≡ name) × (word ≢ []) × (word ≢ codes "*")

-- ---- actions

abbrev pub keyword_text : Keyword → List ℕ
keyword_text keywords.Reply = codes "reply"
keyword_text keywords.Error = codes "error"
keyword_text keywords.Delay = codes "delay"
keyword_text keywords.HangUp = codes "hangup"
keyword_text keywords.Cut = codes "cut"
keyword_text keywords.CutUp = codes "cutup"
keyword_text keywords.NoReply = codes "drop"
keyword_text keywords.Pass = codes "pass"

-- an operand that is a number of 64 bits
abbrev pub IsOneNumber : List ℕ → ℕ → Type 0
IsOneNumber operands n = (word : List ℕ) × IsOneWord operands word × IsNumber (2 ^ 64) word n

-- CODE "NAME": a number of 31 bits and a name in quotes; the answer is an error of that number and
-- name, whose words are the name, too
pub record IsError (operands : List ℕ) (answer : List (List ℕ × TreeValue)) : Type 0 where
  pub first : List ℕ
  pub second : List ℕ
  pub words : AreTwoWords operands first second
  pub code : ℕ
  pub code_is : IsNumber (2 ^ 31) first code
  pub name : List ℕ
  pub name_is : IsQuoted second name
  pub answer_is : answer ≡ error_pairs name (pos code) name

-- CODE "NAME", read
abbrev pub IsCoded : List ℕ → ℤ → List ℕ → Type 0
IsCoded operands code name =
    (first second : List ℕ) × (n : ℕ) × AreTwoWords operands first second
    × (code ≡ pos n) × IsNumber (2 ^ 31) first n × IsQuoted second name

-- {..}: a document
pub record IsReply (operands : List ℕ) (answer : List (List ℕ × TreeValue)) : Type 0 where
  pub word : List ℕ
  pub words : IsOneWord operands word
  pub document : IsDocument word answer

-- the keyword with these operands is this action
abbrev pub IsActionOf : Keyword → List ℕ → Action → Type 0
IsActionOf keywords.Reply operands action =
    (answer : List (List ℕ × TreeValue)) × (action ≡ actions.Reply answer)
    × IsReply operands answer
IsActionOf keywords.Error operands action =
    (answer : List (List ℕ × TreeValue)) × (action ≡ actions.Reply answer)
    × IsError operands answer
IsActionOf keywords.Delay operands action =
    (millis : ℕ) × (action ≡ actions.Delay millis) × IsOneNumber operands millis
IsActionOf keywords.HangUp operands action = (action ≡ actions.HangUp) × IsNothing operands
IsActionOf keywords.Cut operands action =
    (count : ℕ) × (action ≡ actions.Cut count) × IsOneNumber operands count
IsActionOf keywords.CutUp operands action =
    (count : ℕ) × (action ≡ actions.CutUp count) × IsOneNumber operands count
IsActionOf keywords.NoReply operands action = (action ≡ actions.NoReply) × IsNothing operands
IsActionOf keywords.Pass operands action = (action ≡ actions.Pass) × IsNothing operands

-- the text is this action: a keyword and its operands
abbrev pub IsAction : List ℕ → Action → Type 0
IsAction text action =
    (k : Keyword) × (word_in text ≡ keyword_text k) × IsActionOf k (behind text) action

-- ---- the filter, which may be left out

-- the word is `times` or that of an action
abbrev pub begins_rest : List ℕ → Bool
begins_rest word =
    bytes_eq word (codes "times") || bytes_eq word (codes "reply")
    || bytes_eq word (codes "error") || bytes_eq word (codes "delay")
    || bytes_eq word (codes "hangup") || bytes_eq word (codes "cut")
    || bytes_eq word (codes "cutup") || bytes_eq word (codes "drop")
    || bytes_eq word (codes "pass")

-- the word begins what follows a filter, or there is none
abbrev pub is_no_filter : List ℕ → Bool
is_no_filter word = length word == 0 || begins_rest word

abbrev pub filter_at : List ℕ → Option (List ℕ)
filter_at text = if is_no_filter (word_in text) then None else Some (word_in text)

abbrev pub behind_filter : List ℕ → List ℕ
behind_filter text = if is_no_filter (word_in text) then text else behind text

-- the filter is this document, and can be applied; one that is left out is the empty one
abbrev pub IsFilter : Option (List ℕ) → List (List ℕ × TreeValue) → Type 0
IsFilter None f = f ≡ []
IsFilter (Some word) f = IsDocument word f × (filter_in (tree_of f) ≡ Ok (tree_of f))

-- the filter is no document, for this cause
abbrev pub IsNoFilter : Option (List ℕ) → Cause → Type 0
IsNoFilter None cause = ⊥
IsNoFilter (Some word) cause =
    ((f : List (List ℕ × TreeValue)) → IsDocument word f → ⊥)
    × IsNoDocumentFor causes.Filter word cause

-- the filter is a document that can't be applied
abbrev pub IsRefused : Option (List ℕ) → Type 0
IsRefused None = ⊥
IsRefused (Some word) =
    (f : List (List ℕ × TreeValue)) × IsDocument word f
    × ((e : CommandError) × (filter_in (tree_of f) ≡ Err e))

-- the text is a reply with one word, which should be its document
abbrev pub IsReplyOf : List ℕ → (word : List ℕ) → Type 0
IsReplyOf text word = (word_in text ≡ keyword_text keywords.Reply) × IsOneWord (behind text) word

-- why the text is no action: where it is a reply with one word, why that is no document, and else
-- `Action`
abbrev pub IsNoActionFor : List ℕ → Cause → Type 0
IsNoActionFor text cause =
    ((word : List ℕ) × IsReplyOf text word × IsNoDocumentFor causes.Action word cause)
    ⊎ (((word : List ℕ) → IsReplyOf text word → ⊥) × (cause ≡ causes.Action))

-- the text is no action, for this cause
abbrev pub IsNoAction : List ℕ → Cause → Type 0
IsNoAction text cause =
    ((action : Action) → IsAction text action → ⊥) × IsNoActionFor text cause

-- why an action isn't read
abbrev pub IsActionFault : List ℕ → Cause → Type 0
IsActionFault text causes.Action = IsNoAction text causes.Action
IsActionFault text (causes.Json cause column) = IsNoAction text (causes.Json cause column)
IsActionFault text causes.OutOfMemory = Unit {0}
IsActionFault text _ = ⊥

-- why a filter isn't read
abbrev pub IsFilterFault : Option (List ℕ) → Cause → Type 0
IsFilterFault word causes.Filter = IsNoFilter word causes.Filter
IsFilterFault word (causes.Json cause column) = IsNoFilter word (causes.Json cause column)
IsFilterFault word causes.Operator = IsRefused word
IsFilterFault word causes.OutOfMemory = Unit {0}
IsFilterFault word _ = ⊥

-- ---- how often, which may be left out

abbrev pub times_at : List ℕ → Option (List ℕ)
times_at text =
    if bytes_eq (word_in text) (codes "times") then Some (word_in (behind text)) else None

abbrev pub behind_times : List ℕ → List ℕ
behind_times text =
    if bytes_eq (word_in text) (codes "times") then behind (behind text) else text

abbrev pub IsTimes : Option (List ℕ) → Option ℕ → Type 0
IsTimes None left = left ≡ None
IsTimes (Some word) left = (n : ℕ) × (left ≡ Some n) × IsNumber (2 ^ 64) word n

-- ---- lines

-- what stands behind the command, behind the filter, and behind the number of times
abbrev pub after_command : List ℕ → List ℕ
after_command line = behind (behind line)

abbrev pub after_filter : List ℕ → List ℕ
after_filter line = behind_filter (after_command line)

abbrev pub after_times : List ℕ → List ℕ
after_times line = behind_times (after_filter line)

-- the line begins with `on` and a word that is no document and no text in quotes
abbrev pub HasCommand : List ℕ → Type 0
HasCommand line =
    (word_in line ≡ codes "on") × (word_in (behind line) ≢ [])
    × (begins_value (word_in (behind line)) ≡ false)

-- the line is this rule
pub record IsRule (line : List ℕ) (r : RuleView) : Type 0 where
  pub begins : HasCommand line
  pub command : IsCommand (word_in (behind line)) r.command
  pub filter : IsFilter (filter_at (after_command line)) r.filter
  pub times : IsTimes (times_at (after_filter line)) r.left
  pub action : IsAction (after_times line) r.action

-- the filter and the number of times are read, and what stands behind them is no action, for this
-- cause
abbrev pub HasNoAction : List ℕ → Cause → Type 0
HasNoAction line cause =
    ((f : List (List ℕ × TreeValue)) × IsFilter (filter_at (after_command line)) f)
    × ((left : Option ℕ) × IsTimes (times_at (after_filter line)) left)
    × IsNoAction (after_times line) cause

-- the line is no rule for this cause, the first in the order of its parts; or memory ran out
abbrev pub FailsBy : List ℕ → Cause → Type 0
FailsBy line causes.Start = HasCommand line → ⊥
FailsBy line causes.Filter =
    HasCommand line × IsNoFilter (filter_at (after_command line)) causes.Filter
FailsBy line (causes.Json cause column) =
    HasCommand line
    × (IsNoFilter (filter_at (after_command line)) (causes.Json cause column)
    ⊎ HasNoAction line (causes.Json cause column))
FailsBy line causes.Operator = HasCommand line × IsRefused (filter_at (after_command line))
FailsBy line causes.Times =
    HasCommand line
    × ((f : List (List ℕ × TreeValue)) × IsFilter (filter_at (after_command line)) f)
    × ((left : Option ℕ) → IsTimes (times_at (after_filter line)) left → ⊥)
FailsBy line causes.Action = HasCommand line × HasNoAction line causes.Action
FailsBy line causes.OutOfMemory = Unit {0}
