use Rattle.std.proofs.Common.{◌≡◌, ℕ, ◌+◌, List, [], length, Some, sym, ap, ◌∙◌}
use Rattle.bson_raw.specs.Pairs.{first_repeated}
use Rattle.wire_msg.specs.declared.fault.MsgCause.TheVariants.{RepeatedField}
use Rattle.wire_msg.specs.Causes.{msg_fault}
use Rattle.wire_msg.specs.Spelling.{sequences_bytes}
use Rattle.wire_msg.proofs.NameLaws.{names_repeated, is_repeated, not_repeated}
use Rattle.wire_msg.proofs.names.check_names_in.Goals as goal

pub returns-then-has_repeated : goal.returns-then-has_repeated
returns-then-has_repeated g c = λ first t last fits are s fields fits' are'.
    let r = is_repeated (first_repeated [] t) (sym (c.has_repeated.ensures t fields) ∙ c.if-has_repeated.true) in
    let offset : msg_fault (20 + length (sequences_bytes first)) RepeatedField ≡ c.fault_at.result = ap (λ (x : List ℕ). msg_fault (20 + length x) RepeatedField) (sym are) ∙ sym c.fault_at.ensures in
    names_repeated first t last r.0 r.1 ∙ ap Some offset

pub returns : goal.returns
returns g c = λ first t last fits are s fields fits' are'.
    let e = not_repeated (first_repeated [] t) (sym (c.has_repeated.ensures t fields) ∙ c.if-has_repeated.false) in
    c.check_identifiers.ensures first t last fits are s fields fits' are' e
