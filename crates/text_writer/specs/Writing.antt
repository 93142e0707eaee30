-- What writing a text does to a writer.
use Rattle.std.specs.Prelude.{ℕ, List, Option}
use Rattle.std.specs.Io.KnownBytes.{Appends}

-- the text was written: the bytes that the writer holds, if they are known, grew by it
abbrev pub WritesOut : {W : Type 0} → (W → Option (List ℕ)) → W → W → List ℕ → Type 0
WritesOut contents old new text = Appends (contents old) (contents new) text
