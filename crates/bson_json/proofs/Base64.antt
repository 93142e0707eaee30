-- Base64, chunk by chunk.
use Rattle.std.proofs.Common.{◌≡◌, ◌++◌, ◌%◌, ℕ, List, Option, Result, Ok, Err, OnOk, length}
use Rattle.std.specs.Io.KnownBytes.{Appends, append_known}
use Rattle.base64.specs.Engines.{standard}
use Rattle.base64.specs.GeneralPurpose.{encode_of}
use Rattle.base64.proofs.EngineFacts.{encode_of-append}
use Rattle.text_writer.proofs.Lemmas.{last_written, piece_written}

-- a chunk of what is left is written
pub chunk_written : (a b c : Option (List ℕ)) (all rest chunk after : List ℕ) → rest ≡ chunk ++ after → length chunk % 3 ≡ 0
    → Appends a (append_known b (encode_of standard rest)) (encode_of standard all) → Appends b c (encode_of standard chunk)
    → Appends a (append_known c (encode_of standard after)) (encode_of standard all)
chunk_written a b c all rest chunk after e whole p q =
    piece_written a b c (encode_of standard chunk) (encode_of standard after) (encode_of standard all)
    (rw (e, encode_of-append standard chunk after whole) at p) q

-- the last chunk is written
pub all_written : {E : Type 0} (r : Result (Unit {0}) E) (a b c : Option (List ℕ)) (all rest : List ℕ)
    → Appends a (append_known b (encode_of standard rest)) (encode_of standard all) → OnOk r (Appends b c (encode_of standard rest))
    → OnOk r (Appends a c (encode_of standard all))
all_written (Err x) a b c all rest p q = tt
all_written (Ok x) a b c all rest p q = last_written a b c (encode_of standard rest) (encode_of standard all) p q
