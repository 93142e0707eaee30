use Rattle.std.proofs.Common.{◌∙◌, ap, subst, sym}
use Rattle.bson_stream.specs.Salvagers.{Salvaging}
use Rattle.bson_stream.specs.SalvagedParts.{ToldParts}
use Rattle.bson_stream.proofs.SalvagedFound.{told_document, told_gap, told_same}
use Rattle.bson_stream.proofs.salvage.take_parts.Goals as goal

pub returns-in-Nothing-clause-finds : goal.returns-in-Nothing-clause-finds
returns-in-Nothing-clause-finds c =
    let i = c.loop-gap.invariant in (
      (λ fed before. told_same c.args.ended fed c.loop-gap.salvager c.find.new.self c.loop-gap.found.items (λ ps so. c.in-Nothing.ensures.found fed ps so) (i.told fed before)),
      c.find.ensures.limit ∙ i.limit,
    )

pub loop-gap-preserved-in-Gap : goal.loop-gap-preserved-in-Gap
loop-gap-preserved-in-Gap c =
    let i = c.loop-gap.invariant in
    record {
      told = λ fed before. subst (ToldParts c.args.ended fed c.find.new.self) (sym c.in-Ok.ensures.items)
          (told_gap c.args.ended fed c.loop-gap.salvager c.find.new.self c.loop-gap.found.items c.in-Gap.gap (λ ps so. c.in-Gap.ensures.found fed ps so) (i.told fed before));
      limit = c.find.ensures.limit ∙ i.limit;
    }

pub loop-gap-preserved : goal.loop-gap-preserved
loop-gap-preserved c =
    let i = c.loop-gap.invariant in
    record {
      told = λ fed before. subst (ToldParts c.args.ended fed c.release.new.self) (sym c.in-Ok-push.ensures.items)
          (told_document c.args.ended fed c.loop-gap.salvager c.find.new.self c.release.new.self c.loop-gap.found.items c.start-at.result c.in-Document.len c.in-Document.canonical c.in-Ok-copy_of.document
          (λ ps so. c.in-Document.ensures.found fed ps so) c.start-at.ensures.offset (c.in-Ok-copy_of.ensures ∙ c.document.ensures) (λ ps t so none le s. c.release.ensures.told c.args.ended fed ps t so none le s) (i.told fed before));
      limit = ap (λ (s : Salvaging). s.limit) c.release.ensures.behind ∙ c.find.ensures.limit ∙ i.limit;
    }
