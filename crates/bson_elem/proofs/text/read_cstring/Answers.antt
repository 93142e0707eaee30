use Rattle.std.proofs.Common.{◌+◌}
use Rattle.std.proofs.lemmas.List.{take_rest}
use Rattle.bson_elem.proofs.NameLaws.{a_name}
use Rattle.bson_elem.proofs.text.read_cstring.Goals as goal

pub returns-in-Some-clause-read : goal.returns-in-Some-clause-read
returns-in-Some-clause-read c =
    let text_is = c.known_text.ensures in
    let rest_is = take_rest c.args.bytes.now (c.in-Some.n + 1) in
    let read = a_name c.args.bytes.now c.in-Some.n c.in-Some.ensures.0 c.in-Some.ensures.1 in
    cc
