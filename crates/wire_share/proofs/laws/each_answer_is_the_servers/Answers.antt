use Rattle.std.proofs.Common.{List, sym, subst}
use Rattle.wire_model.specs.{ClientAct, ClientRun, first_end}
use Rattle.wire_share.proofs.Servers.{answers_are, are_made, limit_is}
use Rattle.wire_share.proofs.laws.each_answer_is_the_servers.Goals as goal
use Rattle.wire_msg.specs.declared.header.TheConstants.{MAX_MESSAGE_LEN}

pub returns : goal.returns
returns g c = λ acts downs made ends limit k first deeds servers fit so below same above bytes good served arrive.
    answers_are g.H.Handler.does g.H.Handler.stops acts k first deeds ends servers
    (c.answers_are_never_mixed.ensures acts downs made ends fit so below above bytes)
    (c.limits_may_differ.ensures (λ _. MAX_MESSAGE_LEN) limit k first made deeds ends servers (λ _. limit_is) good (are_made made so)
    (λ u. subst (λ (xs : List ClientAct). ClientRun u (first_end MAX_MESSAGE_LEN made u) xs (ends u)) (sym (same u)) (above u)) served arrive)
