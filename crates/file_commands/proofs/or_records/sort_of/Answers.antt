use Rattle.std.proofs.Common.{◌-◌, ◌∙◌, None, Some, [], drop, sym, take, true≢false}
use Rattle.std.proofs.lemmas.Bool.Decides.{Decides-eqb}
use Rattle.std.proofs.lemmas.Slice.Eq.{starts_is, strip_prefix_is}
use Rattle.wire_frames.specs.{signature}
use Rattle.file_commands.proofs.OrRecordsLemmas.{sorted_others, sorted_records, sorted_undecided, wanted_is}
use Rattle.file_commands.proofs.or_records.sort_of.Goals as goal

pub returns-in-Some : goal.returns-in-Some
returns-in-Some c =
    let n = c.args.matched in
    let wanted = take (8 - n) (drop n signature) in
    let is = strip_prefix_is Decides-eqb c.args.piece.now wanted (Some c.in-Some.behind) c.in-Some.ensures.cases in
    sorted_records n wanted c.args.piece.now c.in-Some.behind.now (wanted_is n) is

pub returns-then-starts_with : goal.returns-then-starts_with
returns-then-starts_with c =
    let n = c.args.matched in
    let wanted = take (8 - n) (drop n signature) in
    let none = strip_prefix_is Decides-eqb c.args.piece.now wanted None c.in_default.ensures.cases in
    let starts = starts_is Decides-eqb wanted c.args.piece.now c.starts_with.result c.starts_with.ensures.value in
    sorted_undecided n wanted c.args.piece.now [] c.requires (wanted_is n) none (starts.0 c.if-starts_with.true)

pub returns : goal.returns
returns c =
    let n = c.args.matched in
    let wanted = take (8 - n) (drop n signature) in
    let none = strip_prefix_is Decides-eqb c.args.piece.now wanted None c.in_default.ensures.cases in
    let starts = starts_is Decides-eqb wanted c.args.piece.now c.starts_with.result c.starts_with.ensures.value in
    sorted_others n wanted c.args.piece.now [] (wanted_is n) none (λ rest is. true≢false (sym (starts.1 rest is) ∙ c.if-starts_with.false))
