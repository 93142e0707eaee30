use Rattle.std.proofs.Common.{refl}
use Rattle.std.proofs.KnownBytes.{Appends-trans}
use Rattle.bson_json.specs.{IsJson}
use Rattle.wire_text.proofs.MessageJsons.{item_more, none_left}
use Rattle.wire_text.proofs.message_json.write_documents.Goals as goal

pub loop-document-preserved : goal.loop-document-preserved
loop-document-preserved g c = (
  tt,
  tt,
  λ ts are.
      let left = c.loop-document.invariant.2 ts are in
      let step = c.in-Some.ensures.steps left.0 left.2 in
      let json = c.in_ok-write_json.ensures step.tree step.spelled in (
        step.others,
        _,
        step.left,
        Appends-trans _ _ _ left.1 _ left.3 (Appends-trans _ _ _ _ json.0 c.in_ok-write_all.ensures.bytes json.2),
        item_more (IsJson c.args.mode) c.loop-document.before.now ts left.0 step.others step.tree left.1 _ json.0 step.is_first refl json.1 left.4,
      ),
)

pub returns : goal.returns
returns g c = λ ts are.
    let left = c.loop-document.invariant.2 ts are in
    let none = (c.in-None.ensures.steps left.0 left.2).0 in
    (left.1, none_left (IsJson c.args.mode) c.loop-document.before.now ts left.0 left.1 none left.4, left.3)
