-- A command with one more row, and a command line with one more command.
use Rattle.std.proofs.Common.{◌≡◌, ◌∙◌, ◌+◌, ◌<◌, ℕ, refl, ap, sym, Bool, false, ◌||◌, List, [], ◌∷◌, ◌++◌, map, length, take, get_or}
use Rattle.std.proofs.lemmas.List.{take_more}
use Rattle.clap.specs.Built.{AddsArg, AddsSubcommand}
use Rattle.clap.specs.Words.{App, Rule, Shape, Text, app_of, rule_of, with_rule, with_subcommand}
use Rattle.clap.specs.declared.builder.arg.Arg.{Arg}
use Rattle.clap.specs.declared.builder.command.Command.{Command}
use Rattle.clap.specs.declared.builder.command.Command.TheViews.{out-Command}
use Rattle.command_words.specs.Tables.{app_with, form_app, form_shape, line_with, row_rule}
use Rattle.command_words.specs.declared.table.Form.{Form}
use Rattle.command_words.specs.declared.table.Row.{Row}

-- the command is this one, and has no global argument
abbrev pub IsMade : Command → App → Type 0
IsMade c a = (app_of c ≡ a) × ((out-Command c).has_globals ≡ false)

rules_more : (rows : List Row) (r : Row) → map row_rule rows ++ row_rule r ∷ [] ≡ map row_rule (rows ++ r ∷ [])
rules_more [] r = refl
rules_more (q ∷ rest) r = ap (λ (rules : List Rule). row_rule q ∷ rules) (rules_more rest r)

row_step : (name : Text) (rows : List Row) (i : ℕ) (d : Row) → i < length rows → with_rule (app_with name (take i rows)) (row_rule (get_or rows i d)) ≡ app_with name (take (i + 1) rows)
row_step name rows i d lt =
    ap (λ (rules : List Rule). record (app_with name []) { top = record (app_with name []).top { rules = rules } }) (rules_more (take i rows) (get_or rows i d))
    ∙ ap (app_with name) (sym (take_more rows i d lt))

pub row_added : (name : Text) (rows : List Row) (i : ℕ) (d : Row) (old new : Command) (arg : Arg) → AddsArg old arg new → arg.global ≡ false → rule_of arg ≡ row_rule (get_or rows i d)
    → IsMade old (app_with name (take i rows)) → i < length rows → IsMade new (app_with name (take (i + 1) rows))
row_added name rows i d old new arg adds local rule made lt = (
  adds.shape local ∙ ap (λ (a : App). with_rule a (rule_of arg)) made.0 ∙ ap (with_rule (app_with name (take i rows))) rule ∙ row_step name rows i d lt,
  adds.globals ∙ ap (λ (b : Bool). b || arg.global) made.1 ∙ local,
)

shapes_more : (forms : List Form) (f : Form) → map form_shape forms ++ form_shape f ∷ [] ≡ map form_shape (forms ++ f ∷ [])
shapes_more [] f = refl
shapes_more (g ∷ rest) f = ap (λ (shapes : List Shape). form_shape g ∷ shapes) (shapes_more rest f)

line_more : (name : Text) (forms : List Form) (f : Form) → with_subcommand (line_with name forms) (form_shape f) ≡ line_with name (forms ++ f ∷ [])
line_more name [] f = refl
line_more name (g ∷ rest) f = ap (λ (shapes : List Shape). record (line_with name (g ∷ rest)) { subs = form_shape g ∷ shapes }) (shapes_more rest f)

line_step : (name : Text) (forms : List Form) (i : ℕ) (d : Form) → i < length forms
    → with_subcommand (line_with name (take i forms)) (form_shape (get_or forms i d)) ≡ line_with name (take (i + 1) forms)
line_step name forms i d lt = line_more name (take i forms) (get_or forms i d) ∙ ap (line_with name) (sym (take_more forms i d lt))

pub form_added : (name : Text) (forms : List Form) (i : ℕ) (d : Form) (old sub new : Command) → AddsSubcommand old sub new → IsMade sub (form_app (get_or forms i d))
    → IsMade old (line_with name (take i forms)) → i < length forms → IsMade new (line_with name (take (i + 1) forms))
form_added name forms i d old sub new adds part made lt = (
  adds.shape part.1 ∙ ap (λ (a : App). with_subcommand a (app_of sub).top) made.0
      ∙ ap (λ (a : App). with_subcommand (line_with name (take i forms)) a.top) part.0 ∙ line_step name forms i d lt,
  adds.globals ∙ ap (λ (b : Bool). b || (out-Command sub).has_globals) made.1 ∙ part.1,
)
