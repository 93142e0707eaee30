use Rattle.std.proofs.Common.{List, ℕ, ap, ◌++◌, ◌∙◌}
use Rattle.wire_frames.proofs.Heads.{appended}
use Rattle.wire_frames.proofs.write.write_record.Goals as goal

pub returns-in-Ok-clause-written : goal.returns-in-Ok-clause-written
returns-in-Ok-clause-written c =
    appended c.args.out.now.items c.extend_from_slice.new.self.items c.extend_from_slice-2.new.self.items c.to_bytes.result _ c.args.head
    c.in_ok-extend_from_slice.ensures.items c.to_bytes.ensures
    (c.in-Ok.ensures.items ∙ ap (λ (x : List ℕ). c.extend_from_slice.new.self.items ++ x) c.as_bytes.ensures)
