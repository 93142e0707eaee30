use Rattle.std.proofs.Common.{◌∙◌, ap}
use Rattle.std.specs.Prelude.{ℤ}
use Rattle.std.proofs.Math.Facts.{to_z-of_z}
use Rattle.proxy.specs.Marks.{index_of}
use Rattle.proxy.proofs.Marked.{marked_flow, marked_left, unmarked_flow, unmarked_left}
use Rattle.proxy.proofs.marks.Marks.take.Goals as goal

pub returns-in-Some-clause-flow : goal.returns-in-Some-clause-flow
returns-in-Some-clause-flow c =
    marked_flow c.args.id c.args.self.now.marks.items c.index.result c.in-Some.i c.remove.result (c.index.ensures ∙ ap (λ (z : ℤ). index_of z c.args.self.now.marks.items) (to_z-of_z c.ranges.id)) c.in-Some.is
    c.remove.ensures.value

pub returns-in-Some-clause-taken : goal.returns-in-Some-clause-taken
returns-in-Some-clause-taken c =
    marked_left c.args.id c.args.self.now.marks.items c.remove.new.self.items c.index.result c.in-Some.i (c.index.ensures ∙ ap (λ (z : ℤ). index_of z c.args.self.now.marks.items) (to_z-of_z c.ranges.id))
    c.in-Some.is c.remove.ensures.items

pub returns-in-None-clause-flow : goal.returns-in-None-clause-flow
returns-in-None-clause-flow c =
    unmarked_flow c.args.id c.args.self.now.marks.items c.index.result (c.index.ensures ∙ ap (λ (z : ℤ). index_of z c.args.self.now.marks.items) (to_z-of_z c.ranges.id)) c.in-None.is

pub returns-in-None-clause-taken : goal.returns-in-None-clause-taken
returns-in-None-clause-taken c =
    unmarked_left c.args.id c.args.self.now.marks.items c.index.result (c.index.ensures ∙ ap (λ (z : ℤ). index_of z c.args.self.now.marks.items) (to_z-of_z c.ranges.id)) c.in-None.is
