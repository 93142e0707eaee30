use Rattle.std.proofs.Common.{◌≡◌, ◌≢◌, length, ap, subst, arith, ◌∙◌}
use Rattle.std.proofs.lemmas.Bool.Decides.{nat_tests}
use Rattle.bson_raw.specs.Split.{AreDocuments, documents_bytes}
use Rattle.wire_msg.proofs.DocumentLaws.{none_left, some_left}
use Rattle.wire_msg.proofs.document_iter.Documents.count.Goals as goal

pub loop-rest-preserved : goal.loop-rest-preserved
loop-rest-preserved c =
    let i = c.loop-rest.invariant in
    let some : length c.loop-rest.rest.now ≢ 0 = λ e. grind (arith, nat_tests) in (
      c.split_document.ensures.others,
      omega (arith, i.1, c.split_document.ensures.shorter),
      λ ts are.
          let left = i.2 ts are in
          let s = some_left c.loop-rest.rest.now left.0 some left.2 in
          let p = c.split_document.ensures.parts s.0 s.1 (subst AreDocuments s.2 left.1) (left.2 ∙ ap documents_bytes s.2) in
          (s.1, (subst AreDocuments s.2 left.1).1, p.1, omega (arith, left.3, ap length s.2)),
    )

pub returns : goal.returns
returns c = λ ts are.
    let none : length c.loop-rest.rest.now ≡ 0 = grind (arith, nat_tests) in
    let left = c.loop-rest.invariant.2 ts are in
    omega (arith, left.3, ap length (none_left c.loop-rest.rest.now left.0 none left.2))
