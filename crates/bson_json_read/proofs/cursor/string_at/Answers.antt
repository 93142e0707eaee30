use Rattle.std.proofs.Common.{arith}
use Rattle.std.proofs.lemmas.Str.{IsCharBoundary-after_ascii}
use Rattle.bson_json_read.proofs.Lexing.{byte_there, there}
use Rattle.bson_json_read.proofs.cursor.string_at.Goals as goal

pub range-requires-clause-start_boundary : goal.range-requires-clause-start_boundary
range-requires-clause-start_boundary c some =
    let d = c.args.text.now in
    let p = c.args.start in
    IsCharBoundary-after_ascii d p c.utf8.text (there d p 34 c.requires (λ e. omega arith)) (omega (arith, byte_there d p 34 c.requires (λ e. omega arith)))
