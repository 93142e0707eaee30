use Rattle.std.proofs.Common.{◌+◌, ◌∙◌, sym}
use Rattle.std.proofs.lemmas.List.{take_rest}
use Rattle.bson_elem.proofs.NameLaws.{checked_name}
use Rattle.bson_elem.proofs.reread.reread_cstring.Goals as goal

pub returns-clause-read : goal.returns-clause-read
returns-clause-read c =
    let text_is = c.known_text.ensures in
    let rest_is = take_rest c.args.bytes.now (c.unwrap-n.result + 1) in
    let read = checked_name c.args.bytes.now c.unwrap-n.result (sym c.zero_of.ensures ∙ c.unwrap-n.ensures) c.requires in
    cc
