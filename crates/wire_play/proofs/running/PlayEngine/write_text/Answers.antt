use Rattle.std.proofs.Common.{◌≡◌, ◌++◌, ℕ, List, Bool, Option, Result, Ok, Err, IfOk, refl}
use Rattle.std.specs.Io.KnownBytes.{Appends}
use Rattle.std.proofs.KnownBytes.{Appends-trans}
use Rattle.command_run.specs.{AppendsText, is_there, or_nothing}
use Rattle.wire_play.specs.Running.{ScriptText, last_of}
use Rattle.wire_play.specs.Scripts.{TextUpTo, Writes}
use Rattle.wire_play.proofs.running.PlayEngine.write_text.Goals as goal

-- the text up to a line at fault was written, and then the last line, if there is one
script_written : {E : Type 0} (r : Result Bool E) (script : List ℕ) (line : Option ℕ) (a b c : Option (List ℕ))
    → Writes (λ (text : List ℕ). TextUpTo script text line) a b → IfOk r (λ there. (there ≡ is_there (last_of line)) × Appends b c (or_nothing (last_of line)))
    → IfOk r (λ fault. AppendsText (ScriptText script) fault a c)
script_written (Err e) script line a b c text end = tt
script_written (Ok there) script line a b c text end =
    (text.0 ++ or_nothing (last_of line), (text.0, line, text.1, refl, end.0), Appends-trans a b c text.0 (or_nothing (last_of line)) text.2 end.1)

pub returns-in-Ok-clause-written : goal.returns-in-Ok-clause-written
returns-in-Ok-clause-written g c = script_written _ c.args.bytes.now _ _ _ _ c.in-Ok.ensures c.write_last.ensures.written
