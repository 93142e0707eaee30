use Rattle.std.proofs.Common.{◌≡◌, ◌∙◌, List, Result, Ok, Err, ap, subst, sym, true, map}
use Rattle.std.specs.Prelude.{IfOk}
use Rattle.clap.specs.Words.{App, FailsBy, HasMatchesOf, Text, app_of, fault_of, is_simple, is_simple_and_free, subcommand_of, subcommand_rows_of}
use Rattle.clap.specs.declared.error.Error.{Error}
use Rattle.clap.specs.declared.parser.matches.ArgMatches.{ArgMatches}
use Rattle.command_words.specs.Tables.{IsMet, IsTable, line_app}
use Rattle.command_words.specs.declared.table.Table.{Table}
use Rattle.command_words.proofs.LineLemmas.{is_met, simple_of}
use Rattle.command_words.proofs.table.parse.Goals as goal

module _ (t : Table) (is_table : IsTable t) (a : App) (is : a ≡ line_app t) (words : List Text) where
  fails : (r : Result ArgMatches Error) → (is_simple_and_free a ≡ true → FailsBy (fault_of a words) r) → FailsBy (fault_of (line_app t) words) r
  fails r kinds = subst (λ (b : App). FailsBy (fault_of b words) r) is (kinds (ap is_simple_and_free is ∙ is_table.1))

  rows : (m : ArgMatches) → HasMatchesOf a words m → subcommand_rows_of m ≡ subcommand_of (line_app t) words
  rows m matches = (matches (ap is_simple is ∙ simple_of (line_app t) is_table.1)).1 ∙ ap (λ (b : App). subcommand_of b words) is

  have_rows : (r : Result ArgMatches Error) → IfOk r (HasMatchesOf a words) → IfOk r (λ m. subcommand_rows_of m ≡ subcommand_of (line_app t) words)
  have_rows (Ok m) matches = rows m matches
  have_rows (Err e) matches = tt

  are_met : (r : Result ArgMatches Error) → FailsBy (fault_of (line_app t) words) r → IfOk r (HasMatchesOf a words) → IfOk r (λ m. IsMet t.forms.now (subcommand_rows_of m))
  are_met (Ok m) none matches = subst (IsMet t.forms.now) (sym (rows m matches)) (is_met t.name.now t.forms.now words is_table.0 is_table.2 none)
  are_met (Err e) none matches = tt

pub returns-clause-kinds : goal.returns-clause-kinds
returns-clause-kinds c =
    fails c.args.table.now c.requires (app_of c.in_ok-command.command) c.in_ok-command.ensures.app (map (λ w. w.now) c.args.words.now)
    c.try_get_matches_from.result c.try_get_matches_from.ensures.kinds

pub returns-clause-matches : goal.returns-clause-matches
returns-clause-matches c =
    have_rows c.args.table.now c.requires (app_of c.in_ok-command.command) c.in_ok-command.ensures.app (map (λ w. w.now) c.args.words.now)
    c.try_get_matches_from.result c.try_get_matches_from.ensures.matches

pub returns-clause-met : goal.returns-clause-met
returns-clause-met c =
    let words : List Text = map (λ w. w.now) c.args.words.now in
    let r = c.try_get_matches_from.result in
    let app = app_of c.in_ok-command.command in
    are_met c.args.table.now c.requires app c.in_ok-command.ensures.app words r
    (fails c.args.table.now c.requires app c.in_ok-command.ensures.app words r c.try_get_matches_from.ensures.kinds) c.try_get_matches_from.ensures.matches
