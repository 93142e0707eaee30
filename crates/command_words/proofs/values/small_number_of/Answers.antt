use Rattle.std.proofs.Common.{◌≡◌, sym, subst, Option, Some}
use Rattle.std.specs.Str.Parse.{ExplainsUnsignedError, HasUnsignedDigitsIfOk, ParsesUnsigned}
use Rattle.clap.specs.Words.{Text, found_of, one_text}
use Rattle.clap.proofs.WalkLemmas.{one_text-rows}
use Rattle.command_words.specs.Tables.{IsCount}
use Rattle.command_words.proofs.NumberLemmas.{count_reads, read_count}
use Rattle.command_words.proofs.values.small_number_of.Goals as goal

pub unreachable-requires : goal.unreachable-requires
unreachable-requires c =
    let f = found_of c.args.matches.now in
    let held = subst (λ (o : Option Text). IsCount c.requires.0 o) (sym (one_text-rows f c.args.id.now)) c.requires.1 in
    count_reads (λ bs r. ParsesUnsigned 8 10 bs r × ExplainsUnsignedError 10 bs r × HasUnsignedDigitsIfOk bs r) (λ t r g. g.0)
    (one_text f c.args.id.now) c.requires.0 held (λ t e. rw c.in-None.is at (c.get_one.ensures.value t e))

pub returns : goal.returns
returns c =
    let f = found_of c.args.matches.now in
    let is : c.get_one.result ≡ Some c.in-Some.number = c.in-Some.is in
    let held = subst (λ (o : Option Text). IsCount c.requires.0 o) (sym (one_text-rows f c.args.id.now)) c.requires.1 in
    let read = read_count (λ bs r. ParsesUnsigned 8 10 bs r × ExplainsUnsignedError 10 bs r × HasUnsignedDigitsIfOk bs r) (λ t r g. g.0)
    (one_text f c.args.id.now) c.requires.0 c.in-Some.number held (λ t e. rw is at (c.get_one.ensures.value t e)) in
    subst (λ (o : Option Text). IsCount c.in-Some.number o) (one_text-rows f c.args.id.now) read
