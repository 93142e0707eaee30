use Rattle.std.proofs.Common.{List, ap, sym, ◌∙◌}
use Rattle.std.proofs.lemmas.List.{drop-map}
use Rattle.wire_peer.specs.declared.log.Entry.{Entry}
use Rattle.wire_peer.specs.Logs.{entry_of, log_of}
use Rattle.wire_peer.proofs.log.Logged.forget.Goals as goal

pub returns-clause-entries : goal.returns-clause-entries
returns-clause-entries g c =
    ap (λ (entries : List Entry). log_of entries) (c.drop-drain.ensures.items ∙ c.drain.ensures.kept)
    ∙ sym (drop-map entry_of c.args.n c.args.self.now.entries.items)
