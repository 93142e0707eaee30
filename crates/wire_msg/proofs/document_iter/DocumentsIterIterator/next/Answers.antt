use Rattle.std.proofs.Common.{◌≡◌, ◌≢◌, ◌∷◌, length, ap, subst, sym, arith, ◌∙◌}
use Rattle.std.proofs.lemmas.Bool.Decides.{nat_tests}
use Rattle.bson_elem.specs.Spelling.{Spells}
use Rattle.bson_raw.specs.Split.{AreDocuments, documents_bytes}
use Rattle.wire_msg.proofs.DocumentLaws.{nothing, none_left, some_left}
use Rattle.wire_msg.proofs.document_iter.DocumentsIterIterator.next.Goals as goal

pub returns-then-is_empty-clause-steps : goal.returns-then-is_empty-clause-steps
returns-then-is_empty-clause-steps c = λ ts left.
    let none : length c.args.self.now.bytes.now ≡ 0 = grind (arith, nat_tests) in
    (none_left c.args.self.now.bytes.now ts none left.1, (tt, nothing c.args.self.now.bytes.now none))

pub returns-clause-steps : goal.returns-clause-steps
returns-clause-steps c = λ ts left.
    let some : length c.args.self.now.bytes.now ≢ 0 = λ e. grind (arith, nat_tests) in
    let s = some_left c.args.self.now.bytes.now ts some left.1 in
    let fits : AreDocuments (s.0 ∷ s.1) = subst AreDocuments s.2 left.0 in
    let p = c.split_document.ensures.parts s.0 s.1 fits (left.1 ∙ ap documents_bytes s.2) in
    record { tree = s.0; others = s.1; is_first = s.2; spelled = subst (Spells s.0) (sym c.from_spelled.ensures) p.0; left = (fits.1, p.1) }
