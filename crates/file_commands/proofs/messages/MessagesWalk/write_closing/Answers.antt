use Rattle.std.proofs.Common.{[], refl}
use Rattle.std.proofs.KnownBytes.{Appends-nil}
use Rattle.file_commands.proofs.messages.MessagesWalk.write_closing.Goals as goal

pub returns : goal.returns
returns g c = λ bytes texts last e. ([], (texts, last, e.0, refl, refl), Appends-nil _)
