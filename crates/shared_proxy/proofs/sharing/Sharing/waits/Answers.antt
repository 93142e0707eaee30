use Rattle.std.proofs.Common.{◌≡◌, ◌∙◌, Bool, ap, is_some, nat_eq, refl, sym, Some}
use Rattle.std.specs.Prelude.{◌||◌}
use Rattle.indexmap.specs.IndexMap.{get}
use Rattle.shared_proxy.specs.Queues.{is_behind, is_full}
use Rattle.shared_proxy.proofs.Passings.{still_behind}
use Rattle.shared_proxy.proofs.sharing.Sharing.waits.Goals as goal

pub returns-then-has_to_wait-clause-blocked : goal.returns-then-has_to_wait-clause-blocked
returns-then-has_to_wait-clause-blocked c = λ is.
    let client = c.in-Some.client.now in
    let server = c.in-Some-get_mut.server.now in
    let here : get nat_eq c.args.self.now.clients.map c.args.number ≡ Some client = sym c.in-Some.ensures.value in
    let there : get nat_eq c.args.self.now.servers.map c.args.upstream ≡ Some server = sym c.in-Some-get_mut.ensures.value in
    let has = ap (λ (full : Bool). full || is_behind c.args.number server.blocked.items) (sym c.is_full-full.ensures) ∙ sym c.has_to_wait.ensures ∙ c.if-has_to_wait.true in
    record {
      client = record client { waits_at = Some c.args.upstream };
      client_at = ((c.get_mut.follows.holds _).3 (ap is_some here)).1;
      waits_at = refl;
      server = c.block.new.self;
      server_at = ((c.get_mut-2.follows.holds c.block.new.self).3 (ap is_some there)).1;
      has_to = still_behind (is_full c.args.self.now.core c.args.upstream) c.args.number server.blocked.items c.block.new.self.blocked.items has c.in_ok-block.ensures.waits;
    }
