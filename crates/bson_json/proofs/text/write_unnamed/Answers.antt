use Rattle.std.proofs.Common.{arith}
use Rattle.text_writer.proofs.Lemmas.{word_first}
use Rattle.bson_json.proofs.Escaped.{control_escaped, high_kept}
use Rattle.bson_json.proofs.text.write_unnamed.Goals as goal

pub returns-then-b-lt32 : goal.returns-then-b-lt32
returns-then-b-lt32 g c = λ none.
    rw (control_escaped c.args.b none (omega arith)) (word_first _ _ _ _ _ _ c.in_ok-write_all.ensures.bytes c.write_hex.ensures)

pub returns : goal.returns
returns g c = λ none. rw (high_kept c.args.b none (omega arith)) c.write_all-2.ensures.bytes
