use Rattle.std.proofs.Common.{◌≡◌, ◌∙◌, Some, ap}
use base.Stored.{Coded-set}
use Rattle.wire_msg.specs.{BufCarries, Carries, Content}
use Rattle.wire_msg.specs.declared.payload_buf.PayloadBuf.{PayloadBuf}
use Rattle.wire_msg.specs.declared.payloads.Payload.{Payload}
use Rattle.wire_peer.specs.{buf_content, coded_content, content_of}
use Rattle.wire_peer.proofs.Lemmas.{content_is, of_buf_content}
use Rattle.script_rules.specs.{after, flow_by, met}
use Rattle.server_core.proofs.reply_rules.ReplyRules.follow_one.Goals as goal

-- a payload that is lent has the content of its owner
lent : (b : PayloadBuf) (p : Payload) → ((k : Content) → BufCarries b k → Carries p k) → content_of p ≡ buf_content b
lent b p all = of_buf_content b {P = λ k. content_of p ≡ k} (Coded-set coded_content _ _) (λ k held. content_is p k (all k held))

pub returns-clause-rules : goal.returns-clause-rules
returns-clause-rules c =
    c.in_ok-found.ensures.used ∙ ap (λ (k : Content). after k c.args.self.now.script.rules.items) (lent c.args.entry.now.payload c.as_payload.result c.as_payload.ensures)

pub returns-clause-flow : goal.returns-clause-flow
returns-clause-flow c =
    let rules = c.args.self.now.script.rules.items in
    ap Some (c.flow.ensures (content_of c.as_payload.result) rules c.in_ok-found.ensures.used c.in_ok-found.ensures.met
    ∙ ap (λ (k : Content). flow_by (met k rules)) (lent c.args.entry.now.payload c.as_payload.result c.as_payload.ensures))
