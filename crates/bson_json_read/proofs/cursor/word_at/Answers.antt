use Rattle.std.proofs.Common.{ap, arith, length}
use Rattle.json.specs.Reads.{token_of}
use Rattle.bson_json_read.proofs.Lexing.{cut, word_step}
use Rattle.bson_json_read.proofs.cursor.word_at.Goals as goal

pub returns : goal.returns
returns c =
    let same = c.as_bytes-bytes.ensures.value in
    record {
      within = omega (arith, ap length same, c.in_ok-behind_value.ensures.within);
      begins = λ p may. word_step c.args.text.now c.range.result.now (token_of c.in_ok-word_token.field-0) c.args.at c.word_end-end.result c.in_ok-behind_value.field-0 p (c.in_ok-word_token.ensures)
          (cut c.args.text.now c.range.result.now c.args.at c.word_end-end.result c.word_end-end.ensures.inside.0 c.range.ensures.value) (cc (same, c.word_end-end.ensures.ends)) (cc (same, c.in_ok-behind_value.ensures.lex)) may;
    }
