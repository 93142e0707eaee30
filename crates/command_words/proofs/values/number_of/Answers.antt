use Rattle.std.proofs.Common.{sym, subst, Option}
use Rattle.std.specs.Prelude.{IfSome}
use Rattle.std.specs.Str.Parse.{ExplainsUnsignedError, HasUnsignedDigitsIfOk, ParsesUnsigned}
use Rattle.clap.specs.Words.{IsUnsignedIn, Text, found_of, one_text}
use Rattle.clap.proofs.WalkLemmas.{one_text-rows}
use Rattle.command_words.specs.Values.{AsksFor}
use Rattle.command_words.proofs.Lemmas.{read_number}
use Rattle.command_words.proofs.values.number_of.Goals as goal

pub returns : goal.returns
returns c =
    let f = found_of c.args.matches.now in
    let name = c.args.name.now in
    let held = subst (λ (o : Option Text). IfSome o (IsUnsignedIn 0 18446744073709551615)) (sym (one_text-rows f name)) c.requires in
    let read = read_number (λ bs r. ParsesUnsigned 64 10 bs r × ExplainsUnsignedError 10 bs r × HasUnsignedDigitsIfOk bs r) (λ t r g. g.0)
    (one_text f name) c.get_one.result held c.get_one.ensures.none c.get_one.ensures.value in
    subst (AsksFor c.get_one.result) (one_text-rows f name) read
