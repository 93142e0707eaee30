use Rattle.std.proofs.Common.{Ok, map, drop, sym, ap, ◌∙◌}
use Rattle.std.proofs.lemmas.List.{drop-map}
use Rattle.bson_doc.specs.Bson.{value_of}
use Rattle.doc_query.specs.{and_then}
use Rattle.test_store.specs.Selecting.{limited}
use Rattle.test_store.proofs.Replies.{limited-map}
use Rattle.test_store.proofs.selection.arrange.Goals as goal

pub returns : goal.returns
returns c =
    let q = c.args.selection.now in
    let left = ap (map value_of) c.keep_limit.ensures ∙ limited-map value_of q.limit _
    ∙ ap (limited q.limit) (ap (map value_of) c.in_ok-skipped.ensures.left ∙ sym (drop-map value_of q.skip _)) in
    record {
      ok = ap (λ r. and_then r (λ ws. Ok (limited q.limit (drop q.skip ws)))) c.in_ok-sort_in.ensures.ok
          ∙ ap Ok (sym left);
      refused = tt;
    }
