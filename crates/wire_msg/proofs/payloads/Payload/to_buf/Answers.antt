use Rattle.std.proofs.Common.{◌++◌, List, ℕ, ap, ◌∙◌}
use mathlib.Core.Logic.{∥∥₁_map}
use Rattle.bson_raw.specs.RawDocument.{document_bytes}
use Rattle.wire_msg.proofs.BufLaws.{copied_parts, copied_payload}
use Rattle.wire_msg.proofs.payloads.Payload.to_buf.Goals as goal

pub of_parts-requires : goal.of_parts-requires
of_parts-requires c = ∥∥₁_map c.args.self.valid (copied_payload c.args.self.before.now (document_bytes c.args.self.body) c.args.self.after.now _ _ (c.in_ok-body.ensures.items ∙ c.as_bytes.ensures.bytes) (c.in_ok-extend_from_slice.ensures.items ∙ ap (λ (x : List ℕ). x ++ c.args.self.after.now) c.in_ok-sequences.ensures.items))

pub returns : goal.returns
returns c = λ content p. c.of_parts.ensures content (copied_parts c.args.self.before.now (document_bytes c.args.self.body) c.args.self.after.now _ _ content (c.in_ok-body.ensures.items ∙ c.as_bytes.ensures.bytes) (c.in_ok-extend_from_slice.ensures.items ∙ ap (λ (x : List ℕ). x ++ c.args.self.after.now) c.in_ok-sequences.ensures.items) p)
