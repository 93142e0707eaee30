use Rattle.std.proofs.Common.{◌≡◌, ◌∙◌, sym, Some}
use Rattle.clap.specs.Words.{found_of, one_text}
use Rattle.clap.proofs.WalkLemmas.{one_text-rows}
use Rattle.command_words.proofs.Lemmas.{flag_reads, flag_text}
use Rattle.command_words.proofs.values.flag_of.Goals as goal

pub unreachable-requires : goal.unreachable-requires
unreachable-requires c =
    let f = found_of c.args.matches.now in
    flag_reads (one_text f c.args.name.now) c.requires.0 (one_text-rows f c.args.name.now ∙ c.requires.1)
    (λ t e. rw c.in-None.is at (c.get_one.ensures.value t e))

pub returns : goal.returns
returns c =
    let f = found_of c.args.matches.now in
    let is : c.get_one.result ≡ Some c.in-Some.held = c.in-Some.is in
    sym (one_text-rows f c.args.name.now)
    ∙ flag_text (one_text f c.args.name.now) c.in-Some.held
    (λ e. sym is ∙ c.get_one.ensures.none e) (λ t e. rw is at (c.get_one.ensures.value t e))
