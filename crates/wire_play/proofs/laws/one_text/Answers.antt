use Rattle.wire_play.proofs.ScriptLaws.{plays_fault, same_text}
use Rattle.wire_play.proofs.laws.one_text.Goals as goal

pub returns : goal.returns
returns g c = λ l old new new' lines results fault fault' p q closing.
    same_text results new new' fault fault' (plays_fault _ _ _ _ l l lines old new old new' results results fault fault' p q) closing
