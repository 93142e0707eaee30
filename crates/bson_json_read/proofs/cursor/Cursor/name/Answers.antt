use Rattle.std.proofs.Common.{◌∙◌, sym}
use Rattle.bson_json_read.specs.Cursor.{place_of}
use Rattle.bson_json_read.proofs.Lexing.{name_step}
use Rattle.bson_json_read.proofs.cursor.Cursor.name.Goals as goal

pub returns-clause-token : goal.returns-clause-token
returns-clause-token c =
    let same = c.as_bytes-bytes.ensures.value in
    let d = c.self.inside.text.now in
    sym c.self.view_is
    ∙ name_step d c.in-Some.part.text.now c.self.inside.at c.in-Some.part.end c.past_spaces-colon.result c.past_spaces-self-inside.result (place_of c.self.inside.behind) c.in-Some.ensures.lex
    (cc (same, c.past_spaces-colon.ensures.lex)) (cc (same, c.byte_at-2.ensures.value, c.if-byte_at-ne58.false)) (cc (same, c.past_spaces-self-inside.ensures.lex))
    (sym c.may_begin.ensures ∙ c.if-not-may_begin.false)
