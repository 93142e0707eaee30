-- What a writer of text holds.
use Rattle.std.specs.Prelude.{◌≡◌, ℕ, List, Option, Result, Err, IfSome, IsSome}
use Rattle.std.specs.Io.KnownBytes.{append_known}
use Rattle.std.specs.declared.io.Error.{Error}
use Rattle.text_writer.specs.declared.writer.TextWriter.{TextWriter}

-- the bytes that the writer holds and then those that wait, if the writer's are known
unfoldable pub text_contents : {W : Type 0} → (W → Option (List ℕ)) → TextWriter W → Option (List ℕ)
text_contents contents w = append_known (contents w.out) w.text.items

-- an error of the writer is kept
abbrev pub HasFailed : {W : Type 0} → TextWriter W → Type 0
HasFailed w = IsSome w.error

-- the kept error, if there is one, is what is returned
abbrev pub ReturnsKept : {W T : Type 0} → TextWriter W → Result T Error → Type 0
ReturnsKept w r = IfSome w.error (λ e. r ≡ Err e)
