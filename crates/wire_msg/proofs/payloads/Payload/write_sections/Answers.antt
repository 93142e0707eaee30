use Rattle.std.proofs.Common.{◌++◌, List, ℕ, ap, ◌∙◌}
use Rattle.bson_raw.specs.RawDocument.{document_bytes}
use Rattle.wire_msg.proofs.WriteLaws.{on_ok, appended, sections_added}
use Rattle.wire_msg.proofs.payloads.Payload.write_sections.Goals as goal

pub returns-clause-added : goal.returns-clause-added
returns-clause-added c = λ content p. on_ok c.extend_from_slice-3.result _ _ (λ e. sections_added c.args.self.before.now (document_bytes c.args.self.body) c.args.self.after.now content c.args.out.now.items c.push.new.self.items c.extend_from_slice.new.self.items c.extend_from_slice-2.new.self.items c.extend_from_slice-3.new.self.items p c.in_ok-push.ensures.items (c.in_ok-extend_from_slice.ensures.items ∙ ap (λ (x : List ℕ). c.push.new.self.items ++ x) c.as_bytes.ensures.bytes) c.in_ok-extend_from_slice-2.ensures.items e) (appended c.extend_from_slice-3.result c.extend_from_slice-2.new.self.items _ c.extend_from_slice-3.new.self.items c.extend_from_slice-3.ensures.items)
