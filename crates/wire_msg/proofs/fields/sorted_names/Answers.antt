use Rattle.wire_msg.proofs.FieldLaws.{all_sorted}
use Rattle.wire_msg.proofs.fields.sorted_names.Goals as goal

pub returns : goal.returns
returns c = λ t spelled.
    let before = c.loop-name.invariant.so_far t spelled in
    let none = c.in-None.ensures.steps.1 before.0 before.1 in
    record {
      same = all_sorted t c.loop-name.names.items c.sort.new.self.items before.0 before.2 none c.in_ok-sort.ensures.permutation;
      ascending = c.in_ok-sort.ensures.sorted;
    }
