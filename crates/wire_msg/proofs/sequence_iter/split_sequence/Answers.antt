use Rattle.std.proofs.Common.{◌+◌, drop, Result, Ok, Err, refl, sym, subst, ◌∙◌}
use Rattle.std.specs.Prelude.{IsOk}
use Rattle.std.proofs.Math.Bool.{Bool-set}
use Rattle.std.proofs.Math.Logic.{∥∥₁_elim}
use mathlib.Core.Logic.{∥∥₁_map}
use Rattle.std.proofs.lemmas.List.{take_rest}
use Rattle.bson_elem.specs.declared.fault.BsonCause.{BsonCause}
use Rattle.bson_elem.specs.Results.{Gives}
use Rattle.wire_msg.specs.Checks.{HasSequences}
use Rattle.wire_msg.proofs.ReadLaws.{begins_sequence, identifier_read, sequence_parts, sequence_known}
use Rattle.wire_msg.proofs.sequence_iter.split_sequence.Goals as goal

-- where the definition gives a value, so did the call
is_given : {X Y : Type 0} (view : X → Y) (r : Result X BsonCause) (s : Result Y BsonCause) → Gives view r s → IsOk s → IsOk r
is_given view (Ok x) s g ok = refl
is_given view (Err e) (Ok y) g ok = absurd cc
is_given view (Err e) (Err d) g ok = absurd cc

pub known_size-size-requires : goal.known_size-size-requires
known_size-size-requires c = ∥∥₁_map c.requires.known (begins_sequence c.args.bytes.now c.requires.some)

pub unwrap-requires : goal.unwrap-requires
unwrap-requires c =
    is_given _ c.read_cstring.result _ c.read_cstring.ensures.read
    (∥∥₁_elim c.requires.known (Bool-set _ _) (λ h. identifier_read c.args.bytes.now c.known_size-size.result c.known_size-size.ensures.size (begins_sequence c.args.bytes.now c.requires.some h)))

pub returns-clause-parts : goal.returns-clause-parts
returns-clause-parts c = λ q qs fits whole.
    let read = rw c.unwrap.ensures at c.read_cstring.ensures.read in
    let p = sequence_parts c.args.bytes.now c.unwrap.result.0.now c.unwrap.result.1.now c.known_size-size.result q qs c.known_size-size.ensures.size read fits whole in
    (p.0, p.1, take_rest c.args.bytes.now (1 + c.known_size-size.result) ∙ p.2)

pub returns-clause-documents : goal.returns-clause-documents
returns-clause-documents c =
    let read = rw c.unwrap.ensures at c.read_cstring.ensures.read in
    ∥∥₁_map c.requires.known (λ h. (sequence_known c.args.bytes.now c.unwrap.result.0.now c.unwrap.result.1.now (drop (1 + c.known_size-size.result) c.args.bytes.now) c.requires.some (λ q qs fits whole. sequence_parts c.args.bytes.now c.unwrap.result.0.now c.unwrap.result.1.now c.known_size-size.result q qs c.known_size-size.ensures.size read fits whole) h).0)

pub returns-clause-others : goal.returns-clause-others
returns-clause-others c =
    let read = rw c.unwrap.ensures at c.read_cstring.ensures.read in
    ∥∥₁_map c.requires.known (λ h. subst HasSequences (sym (take_rest c.args.bytes.now (1 + c.known_size-size.result))) (sequence_known c.args.bytes.now c.unwrap.result.0.now c.unwrap.result.1.now (drop (1 + c.known_size-size.result) c.args.bytes.now) c.requires.some (λ q qs fits whole. sequence_parts c.args.bytes.now c.unwrap.result.0.now c.unwrap.result.1.now c.known_size-size.result q qs c.known_size-size.ensures.size read fits whole) h).1)
