use Rattle.std.proofs.Common.{ap, nat_eq}
use Rattle.wire_share.specs.{UpSeen}
use Rattle.indexmap.specs.IndexMap.{get}
use Rattle.wire_share.proofs.Numbering.{numbers_on}
use Rattle.wire_share.proofs.state.State.open_up.Goals as goal

pub invariant_of-self-2-clause-numbers : goal.invariant_of-self-2-clause-numbers
invariant_of-self-2-clause-numbers c =
    numbers_on c.in-Some.number _ (λ u. get nat_eq c.args.self.now.ups u) _ c.in_ok-insert.ensures.updates.0 (ap (λ (x : UpSeen). x.number) c.new-upstream.ensures) c.args.self.now.numbers
