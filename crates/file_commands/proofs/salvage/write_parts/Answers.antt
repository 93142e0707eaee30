use Rattle.std.proofs.Common.{ap, subst}
use Rattle.bson_stream.specs.{Salvaging}
use Rattle.file_commands.specs.declared.documents.Written.{Written}
use Rattle.file_commands.specs.DocumentWalk.{IsWritten}
use Rattle.file_commands.specs.SalvageWalk.{manner}
use Rattle.file_commands.proofs.SalvageLemmas.{passed_over, short_of, wrote_document, wrote_gap, wrote_same}
use Rattle.file_commands.proofs.salvage.write_parts.Goals as goal

pub returns-in-Nothing : goal.returns-in-Nothing
returns-in-Nothing g c = λ limit bytes start w.
    let m = manner (g.E.EachDocument.rule c.args.salvage.now.each) c.args.salvage.now.lines limit in
    wrote_same m c.args.ended bytes c.loop-gap.salvager c.find.new.self c.loop-gap.fault start _ (λ ps so. c.in-Nothing.ensures.found bytes ps so) c.find.ensures.limit (c.loop-gap.invariant limit bytes start w)

pub loop-gap-preserved-in-Gap : goal.loop-gap-preserved-in-Gap
loop-gap-preserved-in-Gap g c = λ limit bytes start w.
    let m = manner (g.E.EachDocument.rule c.args.salvage.now.each) c.args.salvage.now.lines limit in
    wrote_gap m c.args.ended bytes c.loop-gap.salvager c.find.new.self c.loop-gap.fault c.in-Gap.gap start _ _ (λ ps so. c.in-Gap.ensures.found bytes ps so) c.find.ensures.limit c.in_ok-write_gap-in-Gap.ensures
    (c.loop-gap.invariant limit bytes start w)

pub loop-gap-preserved-in-Whole : goal.loop-gap-preserved-in-Whole
loop-gap-preserved-in-Whole g c = λ limit bytes start w.
    let rule = g.E.EachDocument.rule c.args.salvage.now.each in
    let m = manner rule c.args.salvage.now.lines limit in
    let s = c.find.new.self in
    wrote_document m c.args.ended bytes c.loop-gap.salvager s c.loop-gap.fault c.in-Document.len c.in-Document.canonical start _ _ (λ ps so. c.in-Document.ensures.found bytes ps so) c.find.ensures.limit
    (c.loop-gap.invariant limit bytes start w) c.release.new.self (λ ps t so none le is. c.release.ensures.told c.args.ended bytes ps t so none le is) (ap (λ (x : Salvaging). x.limit) c.release.ensures.behind)
    (λ t is. subst (λ (x : Written). IsWritten (rule s.start t) x (g.W.Write.contents c.loop-gap.out) (g.W.Write.contents c.write_found.new.out)) c.in-Whole.is (c.in_ok-write_found-in-Document.ensures t is))

pub loop-gap-preserved : goal.loop-gap-preserved
loop-gap-preserved g c = λ limit bytes start w.
    let rule = g.E.EachDocument.rule c.args.salvage.now.each in
    let m = manner rule c.args.salvage.now.lines limit in
    let s = c.find.new.self in
    passed_over m c.args.ended bytes c.loop-gap.salvager s c.loop-gap.fault c.in-Document.len c.in-Document.canonical start _ _ (λ ps so. c.in-Document.ensures.found bytes ps so) c.find.ensures.limit
    (c.loop-gap.invariant limit bytes start w) c.release-in-TooLarge.new.self (λ ps t so none le is. c.release-in-TooLarge.ensures.told c.args.ended bytes ps t so none le is) (ap (λ (x : Salvaging). x.limit) c.release-in-TooLarge.ensures.behind)
    (λ t is. subst (λ (x : Written). IsWritten (rule s.start t) x (g.W.Write.contents c.loop-gap.out) (g.W.Write.contents c.write_found.new.out)) c.in-TooLarge.is (c.in_ok-write_found-in-Document.ensures t is))

pub returns-in-OutOfMemory : goal.returns-in-OutOfMemory
returns-in-OutOfMemory g c = λ limit bytes start w.
    let rule = g.E.EachDocument.rule c.args.salvage.now.each in
    let m = manner rule c.args.salvage.now.lines limit in
    let s = c.find.new.self in
    short_of m c.args.ended bytes c.loop-gap.salvager s c.loop-gap.fault c.in-Document.len c.in-Document.canonical start _ _ (λ ps so. c.in-Document.ensures.found bytes ps so) c.find.ensures.limit (c.loop-gap.invariant limit bytes start w)
    (λ t is. subst (λ (x : Written). IsWritten (rule s.start t) x (g.W.Write.contents c.loop-gap.out) (g.W.Write.contents c.write_found.new.out)) c.in-OutOfMemory.is (c.in_ok-write_found-in-Document.ensures t is))
