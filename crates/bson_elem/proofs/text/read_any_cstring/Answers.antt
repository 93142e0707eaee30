use Rattle.std.proofs.Common.{◌+◌, sym}
use Rattle.std.proofs.lemmas.List.{take_rest}
use Rattle.bson_elem.proofs.NameLaws.{a_name}
use Rattle.bson_elem.proofs.text.read_any_cstring.Goals as goal

pub returns-in-Some-text_of-clause-read : goal.returns-in-Some-text_of-clause-read
returns-in-Some-text_of-clause-read c =
    let text_is = c.in-Some-text_of.ensures.0 in
    let rest_is = take_rest c.args.bytes.now (c.in-Some.n + 1) in
    let read = a_name c.args.bytes.now c.in-Some.n (sym c.in-Some.ensures) c.in-Some-text_of.ensures.1 in
    cc
