use Rattle.std.proofs.Common.{ap, subst, sym, Bool}
use Rattle.std.specs.Prelude.{IsTrue}
use Rattle.bson_doc.specs.Document.{tree_of}
use Rattle.replay.proofs.Stripping.{tree_of_one}
use Rattle.replay.proofs.ignored.are_same_documents.Goals as goal

pub returns : goal.returns
returns c =
    let a = c.args.a.now in
    let b = c.args.b.now in
    let law = c.equal_where_same.ensures.documents a b in (
      (λ e. ap tree_of (law.0 (subst (λ (x : Bool). IsTrue x) c.eq.ensures e))),
      (λ e. subst (λ (x : Bool). IsTrue x) (sym c.eq.ensures) (law.1 (tree_of_one a b e))),
    )
