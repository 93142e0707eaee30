use Rattle.std.proofs.Common.{sym, subst}
use Rattle.wire_msg.specs.{SpellsMsg}
use Rattle.core_handles.proofs.client_calls.call_with.Goals as goal

pub returns : goal.returns
returns c m spells = c.call_on.ensures m.content (c.payload.ensures m (subst (SpellsMsg m) (sym c.from_spelled.ensures) spells))
