use Rattle.std.proofs.Common.{[], refl}
use Rattle.std.proofs.KnownBytes.{Appends-nil, Appends-trans}
use Rattle.wire_text.specs.MessageJson.{IsSequenceJson}
use Rattle.wire_text.proofs.MessageJsons.{item_more, none_left}
use Rattle.wire_text.proofs.message_json.write_sequences.Goals as goal

pub loop-identifier-init : goal.loop-identifier-init
loop-identifier-init g c = (tt, tt, λ content carries. (content.sequences, [], rw c.into_iter-identifier-iterator.ensures.into_iter_gives (c.sequences-identifier-items.ensures content carries), Appends-nil _, λ rest q. q))

pub loop-identifier-preserved : goal.loop-identifier-preserved
loop-identifier-preserved g c = (
  tt,
  tt,
  λ content carries.
      let left = c.loop-identifier.invariant.2 content carries in
      let step = c.in-Some.ensures.steps left.0 left.2 in
      let json = c.in_ok-write_sequence.ensures step.sequence step.identifier_is step.documents_are in (
        step.others,
        _,
        step.left,
        Appends-trans _ _ _ left.1 _ left.3 (Appends-trans _ _ _ _ json.0 c.in_ok-write_all.ensures.bytes json.2),
        item_more (IsSequenceJson c.args.mode) c.loop-identifier.before.now content.sequences left.0 step.others step.sequence left.1 _ json.0 step.is_first refl json.1 left.4,
      ),
)

pub returns : goal.returns
returns g c = λ content carries.
    let left = c.loop-identifier.invariant.2 content carries in
    let none = (c.in-None.ensures.steps left.0 left.2).0 in
    (left.1, none_left (IsSequenceJson c.args.mode) c.loop-identifier.before.now content.sequences left.0 left.1 none left.4, left.3)
