-- Hexadecimal, chunk by chunk.
use Rattle.std.proofs.Common.{◌≡◌, ◌++◌, ◌∷◌, [], ℕ, List, Option, refl, arith, length}
use Rattle.std.specs.Io.KnownBytes.{Appends, append_known}
use Rattle.std.proofs.KnownBytes.{Appends-nil}
use Rattle.hex.specs.Hex.{encode_lower, encode_with, lower_digits}
use Rattle.text_writer.proofs.Progress.{last_written, piece_written}

-- two texts in hexadecimal, one after the other
pub encode_with-append : (t xs ys : List ℕ) → encode_with t (xs ++ ys) ≡ encode_with t xs ++ encode_with t ys
unfolding encode_with
encode_with-append t [] ys = refl
encode_with-append t (x ∷ xs) ys = rw (encode_with-append t xs ys) refl

-- a chunk of what is left is written
pub chunk_written : (a b c : Option (List ℕ)) (all rest chunk after : List ℕ) → rest ≡ chunk ++ after
    → Appends a (append_known b (encode_lower rest)) (encode_lower all) → Appends b c (encode_lower chunk)
    → Appends a (append_known c (encode_lower after)) (encode_lower all)
chunk_written a b c all rest chunk after e p q =
    piece_written a b c (encode_lower chunk) (encode_lower after) (encode_lower all)
    (rw (e, encode_with-append lower_digits chunk after) at p) q

-- nothing is left to write
pub all_written : (a b : Option (List ℕ)) (all rest : List ℕ) → length rest ≡ 0
    → Appends a (append_known b (encode_lower rest)) all → Appends a b all
unfolding encode_with
all_written a b all [] h p = last_written a b b [] all p (Appends-nil b)
all_written a b all (x ∷ rest) h p = absurd (omega arith)
