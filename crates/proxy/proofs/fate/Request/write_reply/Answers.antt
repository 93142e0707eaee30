use Rattle.std.proofs.Common.{of_z, subst, to_z}
use Rattle.std.specs.Int.{w32}
use Rattle.wire_msg.specs.{body_alone}
use Rattle.proxy.specs.Fates.{IsRequest}
use Rattle.proxy.proofs.Requests.{none_replied, none_within, replied, replied_within, same_id}
use Rattle.proxy.proofs.fate.Request.write_reply.Goals as goal

pub returns-then-more_to_come-clause-written : goal.returns-then-more_to_come-clause-written
returns-then-more_to_come-clause-written c = λ a t is spelled.
    none_replied c.in-Message.message a c.more_to_come.result t c.args.out.now.items (subst (λ r. IsRequest r a) c.in-Message.is is) c.more_to_come.ensures c.if-more_to_come.true

pub returns-in_ok-payload-in-Message-clause-written : goal.returns-in_ok-payload-in-Message-clause-written
returns-in_ok-payload-in-Message-clause-written c = λ a t is spelled.
    replied c.in-Message.message a c.more_to_come.result (to_z w32 (of_z w32 c.id-id.result)) t c.write_msg.result c.args.out.now.items c.write_msg.new.out.items
    (subst (λ r. IsRequest r a) c.in-Message.is is) c.more_to_come.ensures c.if-more_to_come.false (λ m s. same_id m _ c.id-id.result s (c.id-id.ensures m s))
    (c.write_msg.ensures.written (body_alone t) (c.as_payload-payload.ensures (body_alone t) (c.in_ok-payload-in-Message.ensures.made t spelled)))

pub returns-then-more_to_come-clause-within : goal.returns-then-more_to_come-clause-within
returns-then-more_to_come-clause-within c = λ a t is spelled.
    none_within c.in-Message.message a c.more_to_come.result t (subst (λ r. IsRequest r a) c.in-Message.is is) c.more_to_come.ensures c.if-more_to_come.true

pub returns-in_ok-payload-in-Message-clause-within : goal.returns-in_ok-payload-in-Message-clause-within
returns-in_ok-payload-in-Message-clause-within c = λ a t is spelled.
    replied_within c.in-Message.message a c.more_to_come.result t c.write_msg.result
    (subst (λ r. IsRequest r a) c.in-Message.is is) c.more_to_come.ensures c.if-more_to_come.false
    (c.write_msg.ensures.within (body_alone t) (c.as_payload-payload.ensures (body_alone t) (c.in_ok-payload-in-Message.ensures.made t spelled)))
