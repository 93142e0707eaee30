use Rattle.std.proofs.Common.{arith}
use Rattle.byte_views.proofs.Sequences.{length_section}
use Rattle.byte_views.proofs.build.sequence.section_len.Goals as goal

pub returns-then-identifier-gt-MAX_LEN : goal.returns-then-identifier-gt-MAX_LEN
returns-then-identifier-gt-MAX_LEN c = omega (arith, c.if-identifier-gt-MAX_LEN.true, length_section c.args.identifier.now c.args.documents.now)

pub returns-then-documents-gt-MAX_LEN : goal.returns-then-documents-gt-MAX_LEN
returns-then-documents-gt-MAX_LEN c = omega (arith, c.if-documents-gt-MAX_LEN.true, length_section c.args.identifier.now c.args.documents.now)

pub returns : goal.returns
returns c =
    let n = length_section c.args.identifier.now c.args.documents.now in
    (omega (arith, n), omega (arith, c.if-identifier-gt-MAX_LEN.false, c.if-documents-gt-MAX_LEN.false))
