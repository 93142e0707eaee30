use Rattle.std.proofs.Common.{◌≡◌, ◌++◌, ◌∙◌, ap, subst}
use Rattle.std.specs.Prelude.{IfOk, OnOk}
use Rattle.wire_msg.specs.{Content, canonical, msg_bytes}
use Rattle.wire_query.specs.{message_of}
use Rattle.script_rules.specs.{after, first_met}
use Rattle.proxy.specs.Fates.{IsRequest}
use Rattle.proxy.proofs.Requests.{IsMessageOf, content_of_message, content_of_query, query_spelled}
use Rattle.proxy.proofs.fate.Request.meet.Goals as goal

pub from_spelled-requires : goal.from_spelled-requires
from_spelled-requires c =
    query_spelled c.in-Query.query c.deref.result.now c.in-Query.query.spelled (λ q s.
    c.deref.ensures.value ∙ (c.in_ok-write_msg-in-Query.ensures.written q s ∙ ap (λ i. i ++ canonical (message_of q)) c.new-bytes.ensures.items))

pub returns-in-Message-clause-met : goal.returns-in-Message-clause-met
returns-in-Message-clause-met c = λ a is.
    subst (λ (k : Content). IfOk c.meet.result (λ i. i ≡ first_met k c.args.script.now.rules.items))
    (content_of_message c.in-Message.message a c.payload.result (subst (λ r. IsRequest r a) c.in-Message.is is) c.payload.ensures) c.meet.ensures.met

pub returns-in-Message-clause-used : goal.returns-in-Message-clause-used
returns-in-Message-clause-used c = λ a is.
    subst (λ (k : Content). OnOk c.meet.result (c.meet.new.self.rules.items ≡ after k c.args.script.now.rules.items))
    (content_of_message c.in-Message.message a c.payload.result (subst (λ r. IsRequest r a) c.in-Message.is is) c.payload.ensures) c.meet.ensures.used

pub returns-in_ok-write_msg-in-Query-clause-met : goal.returns-in_ok-write_msg-in-Query-clause-met
returns-in_ok-write_msg-in-Query-clause-met c = λ a is.
    let written : IsMessageOf c.in-Query.query (msg_bytes c.from_spelled.result) = (λ q s.
    c.from_spelled.ensures ∙ (c.deref.ensures.value ∙ (c.in_ok-write_msg-in-Query.ensures.written q s ∙ ap (λ i. i ++ canonical (message_of q)) c.new-bytes.ensures.items))) in
    subst (λ (k : Content). IfOk c.meet-in-Query.result (λ i. i ≡ first_met k c.args.script.now.rules.items))
    (content_of_query c.in-Query.query a c.from_spelled.result c.payload-in-Query.result (subst (λ r. IsRequest r a) c.in-Query.is is) written c.payload-in-Query.ensures) c.meet-in-Query.ensures.met

pub returns-in_ok-write_msg-in-Query-clause-used : goal.returns-in_ok-write_msg-in-Query-clause-used
returns-in_ok-write_msg-in-Query-clause-used c = λ a is.
    let written : IsMessageOf c.in-Query.query (msg_bytes c.from_spelled.result) = (λ q s.
    c.from_spelled.ensures ∙ (c.deref.ensures.value ∙ (c.in_ok-write_msg-in-Query.ensures.written q s ∙ ap (λ i. i ++ canonical (message_of q)) c.new-bytes.ensures.items))) in
    subst (λ (k : Content). OnOk c.meet-in-Query.result (c.meet-in-Query.new.self.rules.items ≡ after k c.args.script.now.rules.items))
    (content_of_query c.in-Query.query a c.from_spelled.result c.payload-in-Query.result (subst (λ r. IsRequest r a) c.in-Query.is is) written c.payload-in-Query.ensures) c.meet-in-Query.ensures.used
