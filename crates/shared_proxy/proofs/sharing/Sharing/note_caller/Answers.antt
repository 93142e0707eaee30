use Rattle.std.proofs.Common.{◌≡◌, ◌∙◌, ap, is_some, nat_eq, sym, Some}
use Rattle.indexmap.specs.IndexMap.{get}
use Rattle.shared_proxy.specs.declared.servers.Servers.{Servers}
use Rattle.shared_proxy.proofs.Passings.{noted_so}
use Rattle.shared_proxy.proofs.sharing.Sharing.note_caller.Goals as goal

pub returns-in-Some-awaited-clause-noted : goal.returns-in-Some-awaited-clause-noted
returns-in-Some-awaited-clause-noted c =
    let server = c.in-Some.server.now in
    let there : get nat_eq c.args.self.now.servers.map c.args.upstream ≡ Some server = sym c.in-Some.ensures.value in
    let servers : Servers = record (c.args.self.now.servers) { map = c.get_mut.follows.lender c.note.new.self } in
    noted_so c.note.result c.args.number c.args.upstream c.args.self.now.core servers c.in-Some-client.client.now c.in-Some-awaited.awaited server c.note.new.self
    c.in-Some-client.ensures.there (sym c.awaited.ensures ∙ c.in-Some-awaited.is) ((c.get_mut.follows.holds c.note.new.self).3 (ap is_some there)).1 c.note.ensures.noted
