use Rattle.std.proofs.Common.{rules}
use Rattle.std.proofs.lemmas.Fn.{filter_same}
use Rattle.shared_proxy.proofs.servers.Servers.close.Goals as goal

pub returns-clause-shared : goal.returns-clause-shared
returns-clause-shared c = filter_same _ _ _ (λ x b f' k. search rules) _ _ c.retain.ensures.filtered
