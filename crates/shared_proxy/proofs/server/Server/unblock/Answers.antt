use Rattle.std.proofs.Common.{rules}
use Rattle.std.proofs.lemmas.Fn.{filter_same}
use Rattle.shared_proxy.proofs.server.Server.unblock.Goals as goal

pub returns-clause-blocked : goal.returns-clause-blocked
returns-clause-blocked c = filter_same _ _ _ (λ x b f' k. search rules) _ _ c.retain.ensures.filtered
