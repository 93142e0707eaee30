use Rattle.std.proofs.Common.{◌≡◌, ◌∙◌, ap, Some, slice_get, sym}
use Rattle.std.proofs.lemmas.Option.{same_Some}
use Rattle.wire_msg.specs.{msg_bytes}
use Rattle.wire_peer.specs.Servers.{ServerView}
use Rattle.wire_peer.proofs.servers.Server.request.Goals as goal

pub returns-clause-shown : goal.returns-clause-shown
returns-clause-shown c = λ m w.
    let there : slice_get c.self.inside.waiting.items c.args.k ≡ Some w.bytes = rw (ap (λ (s : ServerView). s.waiting) c.self.view_is) w.at in
    let same : w.bytes ≡ msg_bytes c.in_ok-message.message = same_Some _ _ (sym there ∙ c.in_ok-message.ensures.at) in
    c.request_of.ensures m (rw same at w.spelled)
