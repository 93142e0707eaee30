use Rattle.std.proofs.Common.{take}
use Rattle.bson_stream.proofs.Salvagings.{released_then}
use Rattle.bson_stream.proofs.salvager.Salvager.release.Goals as goal

pub returns-clause-told : goal.returns-clause-told
returns-clause-told c = λ ended fed told t so none le spelled.
    let s = c.self.inside in
    rw (← c.self.view_is) (released_then s.limit s.start _ s.at c.args.len (take s.len s.bytes.items) s.gap (rw (← c.self.view_is) at c.requires) ended fed told t
    (rw (← c.self.view_is) at so) (rw (← c.self.view_is) at none) (rw (← c.self.view_is) at le) (rw (← c.self.view_is) at spelled))
