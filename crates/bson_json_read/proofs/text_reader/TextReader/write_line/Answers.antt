use Rattle.std.proofs.Common.{◌<◌, ap, arith, refl, sym}
use Rattle.bson_json_read.specs.Pieces.{Held}
use Rattle.bson_json_read.proofs.HeldLemmas.{line_of, text_slice}
use Rattle.bson_json_read.proofs.text_reader.TextReader.write_line.Goals as goal

pub returns-clause-ends : goal.returns-clause-ends
returns-clause-ends c =
    let i = c.self.inside in
    let text_is = text_slice i.bytes.items c.args.self.now.bytes i.at c.args.begun.passed (ap (λ (h : Held). h.bytes) (sym c.self.view_is)) in
    let found = rw c.deref.ensures.value at c.line_len-len.ensures in
    let read = rw c.deref.ensures.value at (c.if-not-write_direct.ensures refl) in
    let may = rw c.deref.ensures.value at c.may_end.ensures in
    let some : 0 < c.line_len-len.result = omega arith in
    line_of c.args.last _ _ c.line_len-len.result read.0 text_is some found.inside (found.brace some) read.1 (may c.if-not-may_end.false)
