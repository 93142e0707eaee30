use Rattle.std.proofs.Common.{◌≡◌, ◌∙◌, ap, sym, Some, false, codes}
use Rattle.std.specs.Option.{option_map_or}
use Rattle.std.specs.Str.{bytes_eq}
use Rattle.clap.specs.Words.{found_of, one_text}
use Rattle.clap.proofs.WalkLemmas.{one_text-rows}
use Rattle.command_words.proofs.Lemmas.{flag_text, given_read, unread_given}
use Rattle.command_words.proofs.values.is_given.Goals as goal

pub returns-in-Some : goal.returns-in-Some
returns-in-Some c =
    let f = found_of c.args.matches.now in
    let is : c.get_one.result ≡ Some c.in-Some.given = c.in-Some.is in
    let read = flag_text (one_text f c.args.name.now) c.in-Some.given
    (λ e. sym is ∙ c.get_one.ensures.none e) (λ t e. rw is at (c.get_one.ensures.value t e)) in
    given_read (one_text f c.args.name.now) c.in-Some.given read
    ∙ ap (λ o. option_map_or (λ text. bytes_eq text (codes "true")) o false) (one_text-rows f c.args.name.now)

pub returns-in-None : goal.returns-in-None
returns-in-None c =
    let f = found_of c.args.matches.now in
    unread_given (one_text f c.args.name.now) (λ t e. rw c.in-None.is at (c.get_one.ensures.value t e))
    ∙ ap (λ o. option_map_or (λ text. bytes_eq text (codes "true")) o false) (one_text-rows f c.args.name.now)
