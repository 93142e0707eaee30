-- What is drawn from a seed: where connections are cut.
use Rattle.std.specs.Prelude.{◌≡◌, ◌≢◌, ℕ, ◌%◌, ◌==◌, ◌^◌, if◌then◌else◌, Option, None, Some}
use Rattle.rand_pcg.specs.Lcg.{Lcg, increment_of, started}
use Rattle.rand_pcg.specs.Pcg.{multiplier_64, pcg32}
use Rattle.proxy.specs.declared.direction.Direction.{Direction}
use Rattle.proxy.specs.declared.direction.Direction.TheVariants as directions

-- the first, the second and the third word that a generator gives
unfoldable pub first_word : Lcg → ℕ
first_word words = (pcg32 words).0

unfoldable pub second_word : Lcg → ℕ
second_word words = (pcg32 (pcg32 words).1).0

unfoldable pub third_word : Lcg → ℕ
third_word words = (pcg32 (pcg32 (pcg32 words).1).1).0

-- the generator of a connection: PCG32 of this seed, in the stream of the connection's number
unfoldable pub words_of : (seed number : ℕ) → Lcg
words_of seed number = started 64 multiplier_64 seed (increment_of 64 number)

-- The way on which it is cut: the one to the server, if the first word is even.
abbrev pub drawn_direction : Lcg → Direction
drawn_direction words = if first_word words % 2 == 0 then directions.There else directions.Back

-- Behind how many bytes: the third word below a power of two, from 1 to 65,536, which is drawn by
-- the second one.
abbrev pub drawn_count : Lcg → ℕ
drawn_count words = third_word words % 2 ^ (second_word words % 17)

-- So many bytes of the connection of this number may go this way: those up to the cut that is drawn
-- from the seed, if it is on this way, and else 2^64 - 1.
abbrev pub MayGo : (seed : Option ℕ) → (number : ℕ) → Direction → ℕ → Type 0
MayGo None number direction n = n ≡ 18446744073709551615
MayGo (Some seed) number direction n =
    (direction ≡ drawn_direction (words_of seed number) → n ≡ drawn_count (words_of seed number))
    × (direction ≢ drawn_direction (words_of seed number) → n ≡ 18446744073709551615)
