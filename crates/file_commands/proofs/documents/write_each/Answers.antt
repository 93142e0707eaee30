use Rattle.std.proofs.Common.{◌-◌, ◌++◌, ◌∙◌, ℕ, List, inr, length, take, drop, ap, refl, sym, subst}
use Rattle.bson_elem.specs.{Spells}
use Rattle.bson_raw.specs.{document_bytes}
use Rattle.bson_stream.specs.{IsOpen, Reading, StandsAt}
use Rattle.bson_stream.proofs.Lemmas.{nothing_open}
use Rattle.file_commands.specs.declared.input_fault.InputFault.TheVariants.{Bson}
use Rattle.file_commands.specs.Documents.{documents_of}
use Rattle.file_commands.specs.DocumentWalk.{IsWrittenOrStops, document_reading}
use Rattle.file_commands.specs.InputFault.{input_fault_line}
use Rattle.file_commands.specs.ItemWalk.{ItemsWritten}
use Rattle.file_commands.proofs.DocumentReadings.{documents_kind, fed_on, in_front, one_written, stopped_at}
use Rattle.file_commands.proofs.ItemReadings.{no_item}
use Rattle.file_commands.proofs.documents.write_each.Goals as goal

pub loop-front-init : goal.loop-front-init
loop-front-init g c = (c.requires, refl, no_item _ _ _ _)

pub returns-then-is_some : goal.returns-then-is_some
returns-then-is_some g c =
    let rule = g.E.EachDocument.rule c.args.each.now in
    let contents = g.W.Write.contents in
    let i = c.loop-front.invariant in
    let document = document_bytes c.in-Some.front.document in
    let front = c.in-Some.ensures.some in
    let t = front.spelled.0 in
    let w = subst (λ (x : List ℕ). ItemsWritten (documents_of rule) (c.args.documents.now.held ++ c.args.piece.now) c.args.documents.now.start c.loop-front.documents.start x (contents c.args.out.now) (contents c.loop-front.out)) (in_front c.loop-front.documents c.loop-front.rest.now document c.in-Some.front.rest.now front) i.2 in
    let told = subst (λ (n : ℕ). IsWrittenOrStops (rule n t) n c.in_ok-stop.stop (contents c.loop-front.out) (contents c.write_one.new.out)) c.start-start.ensures (c.in_ok-stop.ensures t front.spelled.1) in
    stopped_at rule (document_reading c.args.documents.now) (document_reading c.loop-front.documents) c.args.piece.now document c.in-Some.front.rest.now t _ _ _ _ i.1 w front.spelled.1 told (sym c.is_some.ensures ∙ c.if-is_some.true)

pub loop-front-preserved-in-Some : goal.loop-front-preserved-in-Some
loop-front-preserved-in-Some g c =
    let rule = g.E.EachDocument.rule c.args.each.now in
    let contents = g.W.Write.contents in
    let i = c.loop-front.invariant in
    let document = document_bytes c.in-Some.front.document in
    let front = c.in-Some.ensures.some in
    let t = front.spelled.0 in
    let w = subst (λ (x : List ℕ). ItemsWritten (documents_of rule) (c.args.documents.now.held ++ c.args.piece.now) c.args.documents.now.start c.loop-front.documents.start x (contents c.args.out.now) (contents c.loop-front.out)) (in_front c.loop-front.documents c.loop-front.rest.now document c.in-Some.front.rest.now front) i.2 in
    let told = subst (λ (n : ℕ). IsWrittenOrStops (rule n t) n c.in_ok-stop.stop (contents c.loop-front.out) (contents c.write_one.new.out)) c.start-start.ensures (c.in_ok-stop.ensures t front.spelled.1) in
    let behind = c.pass.ensures.passed front.none_held front.counted in
    let empty = ap (λ (r : Reading). r.held) behind in (
      subst IsOpen (sym empty) nothing_open,
      ap (λ (r : Reading). r.limit) behind ∙ i.1,
      one_written rule _ _ c.loop-front.documents.start _ document c.in-Some.front.rest.now _ t _ _ _ _ w front.spelled.1 told (sym c.is_some.ensures ∙ c.if-is_some.false) (ap (λ (r : Reading). r.start) behind) empty,
    )

pub returns-in-Bad : goal.returns-in-Bad
returns-in-Bad g c =
    let rule = g.E.EachDocument.rule c.args.each.now in
    let i = c.loop-front.invariant in
    let new = c.feed.new.self in
    let f = c.in-Ok.ensures.fed i.0 in
    let rest = take (length c.loop-front.rest.now - c.in-Ok.fed.taken) (drop c.in-Ok.fed.taken c.loop-front.rest.now) in
    let bad = subst (StandsAt new.start new.held) c.in-Bad.is f.state in
    record {
      limit = f.limit ∙ i.1;
      rest = new.held ++ rest;
      written = fed_on rule _ _ c.loop-front.documents new c.loop-front.rest.now c.in-Ok.fed _ _ i.2 f;
      stopped = (documents_kind rule).bad_longer new.start new.held rest (input_fault_line (Bson c.in-Bad.fault)) (inr (c.in-Bad.fault, bad, refl));
    }

pub returns-then-is_some-2 : goal.returns-then-is_some-2
returns-then-is_some-2 g c =
    let rule = g.E.EachDocument.rule c.args.each.now in
    let contents = g.W.Write.contents in
    let i = c.loop-front.invariant in
    let new = c.feed.new.self in
    let f = c.in-Ok.ensures.fed i.0 in
    let w = fed_on rule _ _ c.loop-front.documents new c.loop-front.rest.now c.in-Ok.fed _ _ i.2 f in
    let ready = c.in-Some-document.ensures.some in
    let t = ready.1.0 in
    let told = subst (λ (n : ℕ). IsWrittenOrStops (rule n t) n c.in_ok-stop-2.stop (contents c.loop-front.out) (contents c.write_one-in-loop-front.new.out)) c.start-start-in-loop-front.ensures (c.in_ok-stop-2.ensures t (subst (Spells t) (sym ready.0) ready.1.1)) in
    stopped_at rule (document_reading c.args.documents.now) (document_reading new) c.args.piece.now new.held _ t _ _ _ _ (f.limit ∙ i.1) w ready.1.1 told (sym c.is_some-in-loop-front.ensures ∙ c.if-is_some-2.true)

pub loop-front-preserved : goal.loop-front-preserved
loop-front-preserved g c =
    let rule = g.E.EachDocument.rule c.args.each.now in
    let contents = g.W.Write.contents in
    let i = c.loop-front.invariant in
    let new = c.feed.new.self in
    let f = c.in-Ok.ensures.fed i.0 in
    let w = fed_on rule _ _ c.loop-front.documents new c.loop-front.rest.now c.in-Ok.fed _ _ i.2 f in
    let ready = c.in-Some-document.ensures.some in
    let t = ready.1.0 in
    let told = subst (λ (n : ℕ). IsWrittenOrStops (rule n t) n c.in_ok-stop-2.stop (contents c.loop-front.out) (contents c.write_one-in-loop-front.new.out)) c.start-start-in-loop-front.ensures (c.in_ok-stop-2.ensures t (subst (Spells t) (sym ready.0) ready.1.1)) in
    let behind = c.release.ensures.ready ready.1 in
    let empty = ap (λ (r : Reading). r.held) behind in (
      subst IsOpen (sym empty) nothing_open,
      ap (λ (r : Reading). r.limit) behind ∙ f.limit ∙ i.1,
      one_written rule _ _ _ _ new.held _ _ t _ _ _ _ w ready.1.1 told (sym c.is_some-in-loop-front.ensures ∙ c.if-is_some-2.false) (ap (λ (r : Reading). r.start) behind) empty,
    )
