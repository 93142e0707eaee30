use Rattle.std.proofs.Common.{◌≤◌, refl, sym, subst}
use Rattle.wire_msg.specs.{SpellsMsg}
use Rattle.wire_msg.proofs.Lemmas.{length-spelled}
use Rattle.core_handles.specs.Calling.{has_content, no_content}
use Rattle.core_handles.proofs.client_calls.call_spelled.Goals as goal
use Rattle.wire_msg.specs.declared.header.TheConstants.{MAX_MESSAGE_LEN}

pub returns-in-Err : goal.returns-in-Err
returns-in-Err c = no_content c.in-Err.refusal c.in-Err.ensures.refused refl c.of_content.ensures

pub returns : goal.returns
returns c =
    let spelled = c.in-Ok.ensures.spelled.1 in
    has_content spelled.0.content (c.in-Ok.ensures.content spelled.0 spelled.1)
    (subst (λ n. n ≤ MAX_MESSAGE_LEN) (length-spelled spelled.0 _ spelled.1) c.in-Ok.ensures.spelled.0)
    (c.call_with.ensures spelled.0 (subst (SpellsMsg spelled.0) (sym c.deref.ensures.value) spelled.1))
