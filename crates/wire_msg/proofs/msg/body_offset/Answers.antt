use Rattle.std.proofs.Common.{◌++◌, sym, subst, ◌∙◌}
use mathlib.Core.Logic.{∥∥₁_map}
use Rattle.std.proofs.lemmas.List.{take_rest}
use Rattle.wire_msg.specs.Spelling.{body_section, sequences_bytes}
use Rattle.wire_msg.specs.Known.{BeginsSequence}
use Rattle.wire_msg.proofs.OffsetLaws.{offset_begins, offset_known, first_before, begins_before, offset_more, offset_done, known_parts}
use Rattle.wire_msg.proofs.msg.body_offset.Goals as goal

pub loop-at-init : goal.loop-at-init
loop-at-init c = λ m s. offset_begins m c.args.bytes.now s

pub bounds-bytes-at : goal.bounds-bytes-at
bounds-bytes-at c = offset_known c.args.bytes.now c.loop-at.at c.requires c.loop-at.invariant

pub known_size-requires : goal.known_size-requires
known_size-requires c =
    ∥∥₁_map c.requires (λ k. subst BeginsSequence (sym (take_rest c.args.bytes.now c.loop-at.at))
    (begins_before k.0 c.args.bytes.now k.1 c.loop-at.at (first_before k.0 c.args.bytes.now k.1 c.loop-at.at c.loop-at-test.true (c.loop-at.invariant k.0 k.1))))

pub loop-at-preserved : goal.loop-at-preserved
loop-at-preserved c = λ m s.
    let f = first_before m c.args.bytes.now s c.loop-at.at c.loop-at-test.true (c.loop-at.invariant m s) in
    offset_more m c.args.bytes.now s c.loop-at.at c.known_size.result f (c.known_size.ensures.size f.sequence (sequences_bytes f.others ++ (body_section m.content.body ++ sequences_bytes s.after)) f.fits.0 (take_rest c.args.bytes.now c.loop-at.at ∙ f.parts))

pub returns-clause-offset : goal.returns-clause-offset
returns-clause-offset c = λ m s. offset_done m c.args.bytes.now s c.loop-at.at c.loop-at-test.false (c.loop-at.invariant m s)

pub returns-clause-inside : goal.returns-clause-inside
returns-clause-inside c =
    let k = known_parts c.args.bytes.now c.loop-at.at c.requires (λ m s. offset_done m c.args.bytes.now s c.loop-at.at c.loop-at-test.false (c.loop-at.invariant m s)) in
    (k.0, k.1)
