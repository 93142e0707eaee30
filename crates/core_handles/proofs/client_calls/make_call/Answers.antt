use Rattle.std.proofs.Common.{[], List, ℕ, arith, length, subst, sym}
use Rattle.std.proofs.lemmas.Map.Views.{exact_unsigned_eq}
use Rattle.wire_msg.specs.Payload.{AreParts}
use Rattle.core_handles.specs.Calling.{has_content}
use Rattle.core_handles.proofs.Answering.{nothing_in}
use Rattle.core_handles.proofs.client_calls.make_call.Goals as goal

pub returns : goal.returns
returns c =
    let known = c.in-Some.ensures in
    let none = nothing_in c.args.sequences.now (omega (arith, exact_unsigned_eq (length c.args.sequences.now) 0 (sym c.if-is_empty.ensures))) in
    has_content known.0 (subst (λ (x : List ℕ). AreParts [] c.args.body.now x known.0) (sym none) known.2) known.3
    (c.call_on.ensures known.0 (c.as_payload.ensures known.0 known.1))
