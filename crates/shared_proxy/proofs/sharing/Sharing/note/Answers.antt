use Rattle.shared_proxy.proofs.Passings.{noted_after}
use Rattle.shared_proxy.proofs.sharing.Sharing.note.Goals as goal

pub returns-clause-noted : goal.returns-clause-noted
returns-clause-noted c =
    noted_after c.note_caller.result c.args.number c.args.upstream c.args.self.now.core c.cut_up.new.self.core c.note_caller.new.self.servers c.cut_up.ensures.core c.note_caller.ensures.noted
