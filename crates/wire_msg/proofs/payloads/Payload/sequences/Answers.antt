use Rattle.std.proofs.Common.{◌∙◌, subst}
use mathlib.Core.Logic.{∥∥₁_map}
use Rattle.bson_raw.specs.RawDocument.{document_bytes}
use Rattle.wire_msg.specs.Messages.{AreSequences}
use Rattle.wire_msg.proofs.MsgAnswers.{AreSequences-split}
use Rattle.wire_msg.proofs.OffsetLaws.{first_known, last_known}
use Rattle.wire_msg.proofs.payloads.Payload.sequences.Goals as goal

pub of_known-requires-clause-first : goal.of_known-requires-clause-first
of_known-requires-clause-first c = ∥∥₁_map c.args.self.valid (first_known c.args.self.before.now (document_bytes c.args.self.body) c.args.self.after.now)

pub of_known-requires-clause-last : goal.of_known-requires-clause-last
of_known-requires-clause-last c = ∥∥₁_map c.args.self.valid (last_known c.args.self.before.now (document_bytes c.args.self.body) c.args.self.after.now)

pub returns : goal.returns
returns c = λ content p.
    let fits = AreSequences-split p.first p.last (subst AreSequences p.in_order p.content.sequences) in
    record { first = p.first; last = p.last; first_fit = fits.0; last_fit = fits.1; first_are = c.of_known.ensures.first ∙ p.first_are; last_are = c.of_known.ensures.last ∙ p.last_are; all = p.in_order }
