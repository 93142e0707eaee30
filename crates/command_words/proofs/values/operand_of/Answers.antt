use Rattle.std.proofs.Common.{◌≡◌, ◌∙◌, ap, sym, Option, None, is_some, true≢false}
use Rattle.std.specs.Prelude.{option_map}
use Rattle.clap.specs.Words.{Text, first_of, found_of, rows_of}
use Rattle.clap.proofs.WalkLemmas.{first_value-rows}
use Rattle.command_words.proofs.values.operand_of.Goals as goal

pub unreachable-requires : goal.unreachable-requires
unreachable-requires c =
    let none : first_of c.args.id.now (rows_of (found_of c.args.matches.now)) ≡ None =
    sym (first_value-rows (found_of c.args.matches.now) c.args.id.now)
    ∙ (sym c.get_str.ensures ∙ ap (option_map (λ s. s.now)) c.in-None.is) in
    true≢false (sym c.requires ∙ ap (λ (o : Option Text). is_some o) none)

pub returns : goal.returns
returns c =
    sym (first_value-rows (found_of c.args.matches.now) c.args.id.now)
    ∙ (sym c.get_str.ensures ∙ ap (option_map (λ s. s.now)) c.in-Some.is)
