use Rattle.std.proofs.Common.{◌≡◌, ap, ◌++◌, ◌∙◌, List, ℕ, length, arith}
use Rattle.wire_msg.proofs.AppendLaws.{section_written}
use Rattle.wire_msg.proofs.append.append_sequence.Goals as goal

pub returns-clause-added : goal.returns-clause-added
returns-clause-added c =
    let at : c.len-last.result ≡ length c.args.sequences.now.items = omega arith in
    let one = c.in_ok-extend_from_slice.ensures.items ∙ ap (λ (x : List ℕ). x ++ _) c.in_ok-try_reserve.ensures.items in
    let two = c.in_ok-extend_from_slice-2.ensures.items ∙ ap (λ (x : List ℕ). c.extend_from_slice.new.self.items ++ x) c.as_bytes.ensures.value in
    section_written c.args.sequences.now.items c.args.identifier.now c.extend_from_slice.new.self.items c.extend_from_slice-2.new.self.items c.push.new.self.items c.put_size.new.sequences.items c.len-last.result _ at one two c.in_ok-push.ensures.items (omega arith) c.put_size.ensures
