use Rattle.wire_share.specs.Acts.{acts_of}
use Rattle.wire_share.proofs.Mixing.{never_mixed}
use Rattle.wire_share.proofs.laws.answers_are_never_mixed.Goals as goal
use Rattle.wire_msg.specs.declared.header.TheConstants.{MAX_MESSAGE_LEN}

pub returns : goal.returns
returns c = λ acts downs made ends fit so below above bytes.
    never_mixed acts downs made ends fit below above
    (λ u. c.a_client_holds_alone.ensures u MAX_MESSAGE_LEN (made u).client_window (made u).first_id (acts_of acts u) (ends u) (bytes u) (above u))
