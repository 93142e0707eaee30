use Rattle.std.proofs.Common.{◌++◌, List, ℕ, ap}
use Rattle.std.specs.Prelude.{flat_map}
use Rattle.std.proofs.KnownBytes.{Appends-trans}
use Rattle.wire_text.specs.MessageText.{member_text}
use Rattle.wire_text.proofs.MessageTexts.{text_so_far}
use Rattle.wire_text.proofs.messages.write_documents.Goals as goal

pub loop-document-preserved : goal.loop-document-preserved
loop-document-preserved g c = (
  tt,
  tt,
  λ ts are.
      let left = c.loop-document.invariant.2 ts are in
      let step = c.in-Some.ensures.steps left.0 left.2 in
      let now : List ℕ = member_text step.tree in (
        step.others,
        left.1 ++ now,
        step.left,
        Appends-trans _ _ _ left.1 now left.3 (c.in_ok-write_member.ensures step.tree step.spelled),
        text_so_far (flat_map member_text ts) left.1 now (flat_map member_text step.others) (flat_map member_text left.0) left.4 (ap (flat_map member_text) step.is_first),
      ),
)
