use Rattle.std.proofs.Common.{◌++◌, [], List, ℕ, ap, refl, sym, subst, ◌∙◌, append-nil}
use Rattle.std.specs.Io.KnownBytes.{Appends}
use Rattle.std.specs.Prelude.{flat_map}
use Rattle.std.proofs.KnownBytes.{Appends-nil, Appends-trans}
use Rattle.wire_text.specs.MessageText.{text_of_sequence}
use Rattle.wire_text.proofs.MessageTexts.{text_so_far}
use Rattle.wire_text.proofs.messages.write_sequences.Goals as goal

pub loop-identifier-init : goal.loop-identifier-init
loop-identifier-init g c = (tt, tt, λ content carries. (content.sequences, [], rw c.into_iter-identifier-iterator.ensures.into_iter_gives (c.sequences-identifier-items.ensures content carries), Appends-nil _, refl))

pub loop-identifier-preserved : goal.loop-identifier-preserved
loop-identifier-preserved g c = (
  tt,
  tt,
  λ content carries.
      let left = c.loop-identifier.invariant.2 content carries in
      let step = c.in-Some.ensures.steps left.0 left.2 in
      let now : List ℕ = text_of_sequence c.args.detail step.sequence in (
        step.others,
        left.1 ++ now,
        step.left,
        Appends-trans _ _ _ left.1 now left.3 (c.in_ok-write_sequence.ensures step.sequence step.identifier_is step.documents_are),
        text_so_far (flat_map (text_of_sequence c.args.detail) content.sequences) left.1 now (flat_map (text_of_sequence c.args.detail) step.others) (flat_map (text_of_sequence c.args.detail) left.0) left.4 (ap (flat_map (text_of_sequence c.args.detail)) step.is_first),
      ),
)

pub returns : goal.returns
returns g c = λ content carries.
    let left = c.loop-identifier.invariant.2 content carries in
    let none = (c.in-None.ensures.steps left.0 left.2).0 in
    subst (Appends (g.W.Write.contents c.args.out.now) (g.W.Write.contents c.loop-identifier.out))
    (sym (left.4 ∙ ap (λ qs. left.1 ++ flat_map (text_of_sequence c.args.detail) qs) none ∙ append-nil left.1)) left.3
