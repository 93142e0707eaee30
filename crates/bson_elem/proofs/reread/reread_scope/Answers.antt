use Rattle.std.proofs.Common.{◌≡◌, ℕ, ◌+◌, ◌-◌, ◌∙◌, Ok, length, ap, arith}
use Rattle.bson_elem.specs.Trees.{with_code}
use Rattle.bson_elem.specs.Checks.{opens}
use Rattle.bson_elem.specs.Documents.{elements_of}
use Rattle.bson_elem.proofs.ScopeLaws.{checked_scope}
use Rattle.bson_elem.proofs.reread.reread_scope.Goals as goal

pub returns-clause-read : goal.returns-clause-read
returns-clause-read c =
    let total = rw c.unwrap.ensures at c.read_length.ensures in
    let n = rw c.unwrap-n.ensures at c.read_length-2.ensures in
    let d = rw c.unwrap-2.ensures at c.read_document.ensures in
    let whole = c.unwrap-2.result.0.now in
    let rest = c.unwrap-2.result.1.now in
    let words = c.reread_text.result.0.now in
    let offset : c.args.from + 8 + c.unwrap-n.result.0 ≡ c.args.from + length c.args.bytes.now - length rest - length whole = omega (arith, total.parts, n.parts, d.parts) in
    checked_scope c.args.at c.args.from c.args.bytes.now c.unwrap.result.0 c.unwrap.result.1.now c.unwrap-n.result.0 c.unwrap-n.result.1.now words c.reread_text.result.1.now (elements_of whole) rest
    c.requires.checked total.read n.read c.reread_text.ensures.read d.read
    ∙ ap (λ (k : ℕ). Ok (opens k (with_code words) (elements_of whole), rest)) offset
