-- What a borrowed array shows.
use Rattle.std.specs.Prelude.{ℕ, List}
use Rattle.bson_raw.specs.declared.array.RawArray.{RawArray}

-- the bytes of the array, spelled as a document
abbrev pub array_bytes : RawArray → List ℕ
array_bytes a = a.bytes.now
