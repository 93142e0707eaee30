-- Lines that are cut into words at a space.
use Rattle.std.proofs.Common.{◌≡◌, ◌≢◌, ℕ, List, [], ◌∷◌, ◌++◌, All, false, refl}
use Rattle.std.proofs.lemmas.Bool.{ne_eqb}
use Rattle.std.proofs.lemmas.List.Elements.{All-weaker}
use Rattle.std.proofs.lemmas.List.Splits.{slice_split_at, slice_split_none}
use Rattle.wire_play.specs.Words.{is_blank, words_of}

pub word_ended : (word rest : List ℕ) → All (λ b. b ≢ 32) word → words_of (word ++ 32 ∷ rest) ≡ word ∷ words_of rest
word_ended word rest lacks = slice_split_at is_blank word 32 rest (All-weaker (λ b. b ≢ 32) (λ b. is_blank b ≡ false) (λ b. ne_eqb b 32) word lacks) refl

pub word_last : (word : List ℕ) → All (λ b. b ≢ 32) word → words_of word ≡ word ∷ []
word_last word lacks = slice_split_none is_blank word (All-weaker (λ b. b ≢ 32) (λ b. is_blank b ≡ false) (λ b. ne_eqb b 32) word lacks)
