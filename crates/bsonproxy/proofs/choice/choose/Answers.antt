use Rattle.std.proofs.Common.{◌≡◌, ◌∙◌, inl, inr, Option, List, [], ◌∷◌, Result, Ok, Err, ap, refl, subst, sym, map}
use Rattle.std.specs.Prelude.{IfOk, IsErrAnd}
use Rattle.clap.specs.Kinds.{HasKind, IsAmong, Kinds, or_else}
use Rattle.clap.specs.Words.{App, FailsBy, Row, Text, fault_of, subcommand_of, subcommand_rows_of}
use Rattle.clap.specs.declared.error.Error.{Error}
use Rattle.clap.specs.declared.error.kind.ErrorKind.{ErrorKind}
use Rattle.command_words.specs.Tables.{line_app}
use Rattle.bsonproxy.specs.CommandLine.{command_line}
use Rattle.bsonproxy.specs.Choices.{IsChosen, IsMetSubcommand, flags_fault, words_fault}
use Rattle.bsonproxy.specs.declared.choice.Choice.{Choice}
use Rattle.bsonproxy.proofs.ParseLemmas.{met_may_choose}
use Rattle.bsonproxy.proofs.choice.choose.Goals as goal

-- a kind of the first faults is one of both
among_first : (k : ErrorKind) (a b : Kinds) → IsAmong k a → IsAmong k (or_else a b)
among_first k [] b among = absurd among
among_first k (x ∷ xs) b among = among

kind_of_first : (e : Error) (a b : Kinds) → HasKind a e → HasKind (or_else a b) e
kind_of_first e a b (inl memory) = inl memory
kind_of_first e a b (inr among) = inr (among_first _ a b among)

module _ (app : App) (is_line : app ≡ command_line) (words : List Text) where
  -- the error of a parse is that of the choice
  has_kind : (q : Result Choice Error) (e : Error) → HasKind (fault_of app words) e → IsErrAnd q (λ x. x ≡ e) → FailsBy (words_fault words) q
  has_kind (Ok c) e kinds error = absurd error
  has_kind (Err x) e kinds error =
      let same : HasKind (fault_of command_line words) e = subst (λ (a : App). HasKind (fault_of a words) e) is_line kinds in
      kind_of_first x (fault_of command_line words) (flags_fault (subcommand_of command_line words)) (subst (HasKind (fault_of command_line words)) (sym error) same)

  -- where there are no first faults, the second ones are told
  fails : (m : Option (Text × List Row)) (q : Result Choice Error) → fault_of app words ≡ [] → m ≡ subcommand_of app words → FailsBy (flags_fault m) q → FailsBy (words_fault words) q
  fails m q none is kinds =
      let same : m ≡ subcommand_of command_line words = is ∙ ap (λ (a : App). subcommand_of a words) is_line in
      let none_of : fault_of command_line words ≡ [] = subst (λ (a : App). fault_of a words ≡ []) is_line none in
      subst (λ (x : Kinds). FailsBy (or_else x (flags_fault (subcommand_of command_line words))) q) (sym none_of) (subst (λ (x : Option (Text × List Row)). FailsBy (flags_fault x) q) same kinds)

  chosen_by : (m : Option (Text × List Row)) (q : Result Choice Error) → m ≡ subcommand_of app words → IfOk q (λ c. IsMetSubcommand c m) → IfOk q (λ c. IsChosen c words)
  chosen_by m (Ok c) is met = subst (IsMetSubcommand c) (is ∙ ap (λ (a : App). subcommand_of a words) is_line) met
  chosen_by m (Err e) is met = tt

pub returns-in_err-matches-clause-kinds : goal.returns-in_err-matches-clause-kinds
returns-in_err-matches-clause-kinds c =
    has_kind (line_app c.table.result) c.table.ensures.line (map (λ w. w.now) c.args.words.now) c.from_residual.result c.in_err-matches.field-0.0
    c.in_err-matches.ensures.kinds c.from_residual.ensures.1

pub chosen-requires : goal.chosen-requires
chosen-requires c =
    met_may_choose c.table.result.forms.now c.table.ensures.choices (subcommand_rows_of c.in_ok-matches.matches) c.in_ok-matches.ensures.met

pub returns-clause-chosen : goal.returns-clause-chosen
returns-clause-chosen c =
    chosen_by (line_app c.table.result) c.table.ensures.line (map (λ w. w.now) c.args.words.now) (subcommand_rows_of c.in_ok-matches.matches) c.chosen.result
    c.in_ok-matches.ensures.matches c.chosen.ensures.met

pub returns-clause-kinds : goal.returns-clause-kinds
returns-clause-kinds c =
    fails (line_app c.table.result) c.table.ensures.line (map (λ w. w.now) c.args.words.now) (subcommand_rows_of c.in_ok-matches.matches) c.chosen.result
    c.in_ok-matches.ensures.kinds c.in_ok-matches.ensures.matches c.chosen.ensures.kinds
