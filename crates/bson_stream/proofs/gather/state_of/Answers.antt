use Rattle.std.proofs.Common.{subst, sym}
use Rattle.bson_raw.specs.{IsSpelled}
use Rattle.bson_stream.specs.Readers.{TellsForm}
use Rattle.bson_stream.proofs.Holdings.{short_open, whole_bad, whole_is}
use Rattle.bson_stream.proofs.gather.state_of.Goals as goal

pub returns-then-held-wanted-clause-stands : goal.returns-then-held-wanted-clause-stands
returns-then-held-wanted-clause-stands c = short_open c.args.wanted c.args.held.now c.requires.gathered c.if-held-wanted.true

pub returns-in-Ok-clause-stands : goal.returns-in-Ok-clause-stands
returns-in-Ok-clause-stands c =
    let found = c.in-Ok.ensures.found in
    let same = whole_is c.args.wanted c.args.held.now c.in-Ok.front.document.bytes.now c.in-Ok.front.rest.now c.requires.gathered c.if-held-wanted.false found.0 found.1 in
    (subst IsSpelled (sym same) found.1, subst (λ b. TellsForm b c.in-Ok.front.canonical) (sym same) c.in-Ok.ensures.canonical)

pub returns-in-Err-clause-stands : goal.returns-in-Err-clause-stands
returns-in-Err-clause-stands c = whole_bad c.args.start c.args.wanted c.args.held.now c.in-Err.fault c.requires.gathered c.if-held-wanted.false c.in-Err.ensures.fault
