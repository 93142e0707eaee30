-- The tokens of a text that is read from its front on.
use Rattle.std.specs.Prelude.{◌≡◌, ◌∷◌, ◌++◌, ◌≤◌, ℕ, List, Bool, true, drop, length}
use Rattle.json.specs.Lex.{Lexeme, after_comma, after_value, between, fresh, lex, may_begin}
use Rattle.json.specs.Lex.{may_close, punctuate, token}
use Rattle.json.specs.Lex as json
use Rattle.json.specs.Reads.{token_of}
use Rattle.json.specs.Token.{Token}
use Rattle.json.specs.Word.{ends_word}
use Rattle.bson_json_read.specs.declared.bracket.Bracket.{Bracket}
use Rattle.bson_json_read.specs.declared.bracket.Bracket.TheVariants.{BeginObject, EndObject}
use Rattle.bson_json_read.specs.declared.bracket.Bracket.TheVariants.{BeginArray, EndArray}
use Rattle.bson_json_read.specs.declared.cursor.Behind.{Behind}
use Rattle.bson_json_read.specs.declared.cursor.Behind.TheVariants.{Opening, Value, Comma}
use Rattle.bson_json_read.specs.declared.cursor.Word.{Word}

abbrev pub place_of : Behind → json.Place
place_of Opening = fresh
place_of Value = after_value
place_of Comma = after_comma

-- the bracket may stand here
abbrev pub may_stand : json.Place → Bracket → Bool
may_stand p BeginObject = may_begin p
may_stand p EndObject = may_close p
may_stand p BeginArray = may_begin p
may_stand p EndArray = may_close p

-- what stands behind the bracket
abbrev pub behind : Bracket → Behind
behind BeginObject = Opening
behind EndObject = Value
behind BeginArray = Opening
behind EndArray = Value

-- the tokens of what is left of a text
abbrev pub tokens_left : Behind → List ℕ → List Token
tokens_left behind rest = punctuate (place_of behind) (lex between rest)

-- the word stands for this token, which is a value
pub record IsWord (word : List ℕ) (t : Token) : Type 0 where
  pub read : (rest : List ℕ) → ends_word rest ≡ true
      → lex between (word ++ rest) ≡ token t ∷ lex between rest
  pub begins : (p : json.Place) (others : List Lexeme) → may_begin p ≡ true
      → punctuate p (token t ∷ others) ≡ t ∷ punctuate after_value others

-- wherever a value may begin, the token of this word is the first one at the offset
pub record IsWordAt (text : List ℕ) (at : ℕ) (word : Word) : Type 0 where
  pub within : word.at ≤ length text
  pub begins : (p : json.Place) → may_begin p ≡ true
      → punctuate p (lex between (drop at text))
      ≡ token_of word.token ∷ tokens_left Value (drop word.at text)
