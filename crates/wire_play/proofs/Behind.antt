-- The words behind a word.
use Rattle.std.proofs.Common.{◌≡◌, ◌≢◌, ℕ, Bool, true, false, not, List, [], ◌∷◌, Option, Some, None, Bor, refl, sym, ◌∙◌}
use Rattle.std.specs.Prelude.{is_some, IsTrue}
use Rattle.script_lines.proofs.Lemmas.{some_part}
use Rattle.wire_play.specs.Reading.{words_behind}
use Rattle.wire_play.specs.Words.{is_blank}

-- behind a space there is a word
pub some_word : (rest : Option (Bor (List ℕ))) → is_some rest ≡ true → words_behind rest ≢ []
some_word None some e = cc
some_word (Some rest) some e = some_part is_blank rest.now e

-- there are no words exactly if no space follows
pub no_word : (rest : Option (Bor (List ℕ))) (none : Bool) → is_some rest ≡ not none → (IsTrue none → words_behind rest ≡ []) × (words_behind rest ≡ [] → IsTrue none)
no_word None true e = (λ _. refl, λ _. refl)
no_word None false e = absurd cc
no_word (Some rest) true e = absurd cc
no_word (Some rest) false e = (λ t. absurd cc, λ empty. absurd (some_part is_blank rest.now empty))

-- two words aren't one
pub not_one : (words : List (List ℕ)) (first : List ℕ) (rest : Option (Bor (List ℕ))) → words ≡ first ∷ words_behind rest → is_some rest ≡ true → (w : List ℕ) → words ≢ w ∷ []
not_one words first rest are some w one = some_word rest some (cc (sym are ∙ one))
