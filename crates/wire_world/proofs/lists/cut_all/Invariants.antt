use Rattle.std.proofs.Common.{◌≡◌, map}
use Rattle.wire_model.specs.{all_cut}
use Rattle.wire_world.proofs.lists.cut_all.Given as goal

abbrev pub invariant-loop-number : goal.invariant-loop-number
invariant-loop-number l = l.connections ≡ all_cut (map (λ n. n.now) l.yielded) l.fn.connections
