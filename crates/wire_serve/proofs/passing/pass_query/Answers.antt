use Rattle.std.proofs.Common.{ℕ, List, arith, subst, ◌∙◌}
use Rattle.wire_msg.specs.{canonical}
use Rattle.wire_peer.specs.{TakesBytes}
use Rattle.wire_query.specs.{message_of}
use Rattle.wire_query.proofs.Lemmas.{message_spelled}
use Rattle.wire_serve.proofs.Feeding.{fed_whole, room}
use Rattle.wire_serve.proofs.passing.pass_query.Goals as goal

pub returns-in_ok-feed-in-Ok : goal.returns-in_ok-feed-in-Ok
returns-in_ok-feed-in-Ok c =
    let q = c.in-Ok.ensures.0 in
    let spelled = c.in-Ok.ensures.1 in
    let m = message_spelled q c.args.part.now spelled in
    let whole = c.requires.whole in
    let next = c.requires.next in
    let same = c.deref.ensures.value ∙ c.in-Ok.ensures.2 in
    let took = c.in_ok-feed-in-Ok.ensures.taken next.is_open (room c.args.server.now next) in
    let n : ℕ = c.in_ok-feed-in-Ok.field-0 in (
      whole,
      (
        q,
        spelled,
        fed_whole c.args.server.now c.feed.new.self (canonical (message_of q)) n (message_of q) next
            (subst (λ (b : List ℕ). TakesBytes c.args.server.now b n c.feed.new.self) same took) m.0
            (omega (arith, m.1, whole.whole, whole.begins.is_query.most)),
      ),
    )
