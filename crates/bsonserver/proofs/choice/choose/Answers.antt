use Rattle.std.proofs.Common.{◌≡◌, ◌∙◌, List, Result, Ok, Err, ap, refl, sym, subst, true, map}
use Rattle.std.specs.Prelude.{IfOk, IsErrAnd, IsOkAnd, MatchResult}
use Rattle.clap.specs.Built.{IsParsedFrom}
use Rattle.clap.specs.Kinds.{HasKind}
use Rattle.clap.specs.Words.{App, FailsBy, HasMatchesOf, Text, app_of, fault_of, found_of, is_simple, is_simple_and_free, matches_of, rows_of}
use Rattle.clap.specs.declared.builder.command.Command.{Command}
use Rattle.clap.specs.declared.error.Error.{Error}
use Rattle.clap.specs.declared.parser.matches.ArgMatches.{ArgMatches}
use Rattle.clap.proofs.OnLiterals.{clap_on_literals}
use Rattle.bsonserver.specs.CommandLine.{command_line}
use Rattle.bsonserver.specs.Choices.{HasChoice, IsChosen, IsHeld}
use Rattle.bsonserver.specs.declared.choice.Choice.{Choice}
use Rattle.bsonserver.proofs.ParseLemmas.{parsed_has_choice}
use Rattle.bsonserver.proofs.choice.choose.Goals as goal

is_free : is_simple_and_free command_line ≡ true
unfolding clap_on_literals
is_free = refl

is_plain : is_simple command_line ≡ true
unfolding clap_on_literals
is_plain = refl

has_choice : (cmd : Command) (r : Result ArgMatches Error) → app_of cmd ≡ command_line → IfOk r (IsParsedFrom cmd) → IfOk r (λ m. HasChoice (rows_of (found_of m)))
has_choice cmd (Ok m) is parsed = parsed_has_choice cmd m is parsed
has_choice cmd (Err e) is parsed = tt

-- the choice of a parse, or its error
abbrev IsOfParse : Result ArgMatches Error → Result Choice Error → Type 0
IsOfParse r q = MatchResult r (λ m. IsOkAnd q (λ c. IsHeld c (rows_of (found_of m)))) (λ e. IsErrAnd q (λ x. x ≡ e))

module _ (a : App) (is : a ≡ command_line) (words : List Text) where
  rows : (m : ArgMatches) → HasMatchesOf a words m → rows_of (found_of m) ≡ matches_of command_line words
  rows m matches = (matches (ap is_simple is ∙ is_plain)).0 ∙ ap (λ (b : App). matches_of b words) is

  is_chosen : (r : Result ArgMatches Error) (q : Result Choice Error) → IsOfParse r q → IfOk r (HasMatchesOf a words) → IfOk q (λ c. IsChosen c words)
  is_chosen (Ok m) (Ok c) of matches = subst (IsHeld c) (rows m matches) of
  is_chosen (Ok m) (Err x) of matches = tt
  is_chosen (Err e) (Ok c) of matches = absurd of
  is_chosen (Err e) (Err x) of matches = tt

  fails : (r : Result ArgMatches Error) → (is_simple_and_free a ≡ true → FailsBy (fault_of a words) r) → FailsBy (fault_of command_line words) r
  fails r kinds = subst (λ (b : App). FailsBy (fault_of b words) r) is (kinds (ap is_simple_and_free is ∙ is_free))

  has_kind : (r : Result ArgMatches Error) (q : Result Choice Error) → IsOfParse r q → FailsBy (fault_of command_line words) r → FailsBy (fault_of command_line words) q
  has_kind (Ok m) (Ok c) of kinds = kinds
  has_kind (Ok m) (Err x) of kinds = absurd of
  has_kind (Err e) (Ok c) of kinds = absurd of
  has_kind (Err e) (Err x) of kinds = subst (HasKind (fault_of command_line words)) (sym of) kinds

pub chosen-requires : goal.chosen-requires
chosen-requires c = has_choice c.in_ok-command.command c.try_get_matches_from.result c.in_ok-command.ensures c.try_get_matches_from.ensures.parsed

pub returns-clause-chosen : goal.returns-clause-chosen
returns-clause-chosen c =
    is_chosen (app_of c.in_ok-command.command) c.in_ok-command.ensures (map (λ w. w.now) c.args.words.now)
    c.try_get_matches_from.result c.chosen.result c.chosen.ensures c.try_get_matches_from.ensures.matches

pub returns-clause-kinds : goal.returns-clause-kinds
returns-clause-kinds c =
    let words : List Text = map (λ w. w.now) c.args.words.now in
    let app : app_of c.in_ok-command.command ≡ command_line = c.in_ok-command.ensures in
    let parse = c.try_get_matches_from in
    has_kind (app_of c.in_ok-command.command) app words parse.result c.chosen.result c.chosen.ensures
    (fails (app_of c.in_ok-command.command) app words parse.result parse.ensures.kinds)
