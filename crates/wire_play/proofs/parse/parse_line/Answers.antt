use Rattle.std.proofs.Common.{◌≡◌, rules}
use Rattle.wire_play.specs.Naming.{keyword_of, kind_of}
use Rattle.wire_play.specs.Reading.{words_behind}
use Rattle.wire_play.proofs.parse.parse_line.Goals as goal

pub returns-in_default-clause-nothing : goal.returns-in_default-clause-nothing
returns-in_default-clause-nothing c = λ malformed named names.
    let word : c.cut_word.result.0.now ≡ keyword_of named = cc (c.cut_word.ensures, names.1) in
    let known = c.read_keyword.ensures.only (kind_of named) word in
    absurd cc

pub returns-in_err-event-clause-memory : goal.returns-in_err-event-clause-memory
returns-in_err-event-clause-memory c = λ wanting.
    let bytes = c.script_event.ensures.memory (search rules) in record {
      keyword = c.cut_word.result.0.now;
      operands = words_behind c.cut_word.result.1;
      words = c.cut_word.ensures;
      keyword_is = rw c.in-Some.ensures.known bytes.0;
      c = bytes.1.0;
      hex = bytes.1.1;
      operands_are = bytes.1.2;
    }
