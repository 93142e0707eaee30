use Rattle.std.proofs.Common.{rules, ◌≡◌, ◌<◌, [], ◌∷◌, ◌++◌, length, refl, ap, arith, length-append}
use Rattle.std.proofs.lemmas.List.{nil_from_length}
use Rattle.std.proofs.lemmas.List.Sums.{sum_by_push}
use Rattle.bson_raw.proofs.Lemmas.{document_takes, none_walked, one_more}
use Rattle.byte_views.specs.Documents.{is_nothing, is_bad}
use Rattle.bson_raw.specs.Totals.{elements_in, sizes_in}
use Rattle.byte_views.proofs.Told.{told_walk}
use Rattle.byte_views.proofs.walk.walk_documents.Goals as goal

pub returns-in-Err : goal.returns-in-Err
returns-in-Err c =
    let i = c.loop-rest.invariant in
    let some : 0 < length c.loop-rest.rest.now = search rules in
    told_walk c.args.bytes.now c.loop-rest.rest.now i.so_far.0 _ _ _ _ _ _ i.so_far.1 i.so_far.2 (omega (arith, i.room)) i.so_far.3 i.so_far.4 (is_bad c.in-Err.found (λ none. omega (arith, some, ap length none)) c.in-Err.ensures.fault refl) c.of_document.ensures

pub returns : goal.returns
returns c =
    let i = c.loop-rest.invariant.so_far in
    let none : length c.loop-rest.rest.now ≡ 0 = search rules in
    told_walk c.args.bytes.now c.loop-rest.rest.now i.0 _ _ _ _ _ _ i.1 i.2 (omega (arith, none)) i.3 i.4 (is_nothing (nil_from_length c.loop-rest.rest.now none) refl) c.none.ensures

pub loop-rest-preserved : goal.loop-rest-preserved
loop-rest-preserved c =
    let i = c.loop-rest.invariant in
    let found = c.in-Ok.ensures.found in
    let b = c.in-Ok.read.0.bytes.now in
    let t = found.1.0 in
    let takes = document_takes t b c.loop-rest.rest.now c.in-Ok.read.1.now found.1.1 found.0 in
    let all = c.totals-totals.ensures.all t found.1.1 in
    record {
      room = omega (arith, i.room, takes.0, takes.1);
      sums = omega (arith, i.sums, takes.1, c.totals-totals.ensures.within);
      so_far = (
        i.so_far.0 ++ t ∷ [],
        one_more c.args.bytes.now i.so_far.0 c.loop-rest.rest.now t b c.in-Ok.read.1.now i.so_far.1 found.1.1 found.0,
        omega (arith, i.so_far.2, length-append i.so_far.0 (t ∷ [])),
        omega (arith, i.so_far.3, all.0, sum_by_push elements_in i.so_far.0 t),
        omega (arith, i.so_far.4, all.1, sum_by_push sizes_in i.so_far.0 t),
      );
    }

pub loop-rest-init : goal.loop-rest-init
loop-rest-init c = record { room = omega arith; sums = omega arith; so_far = ([], none_walked c.args.bytes.now, refl, refl, refl) }
