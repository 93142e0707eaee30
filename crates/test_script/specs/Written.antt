-- What the words of a rule may be: documents, numbers and names.
use Rattle.std.specs.Prelude.{◌≡◌, ◌⊎◌, ℕ, List, [], ◌∷◌, ◌++◌, Bool, true, false, Ok, Err}
use Rattle.std.specs.Str.{IsUtf8}
use Rattle.bson_elem.specs.{Spells, Tree}
use Rattle.bson_raw.specs.{TreeValue}
use Rattle.bson_doc.specs.{tree_of}
use Rattle.bson_json_read.specs.{document_in}
use Rattle.doc_query.specs.{body_of}
use Rattle.script_lines.specs.{IsHex}
use Rattle.test_script.specs.declared.fault.Cause.{Cause}
use Rattle.test_script.specs.declared.fault.Cause.TheVariants as causes
use Rattle.test_script.specs.Tokens.{begins_object, behind, word_in}

-- the bytes spell this document, and no name is repeated in it
abbrev pub IsSpelledBy : List ℕ → List (List ℕ × TreeValue) → Type 0
IsSpelledBy bytes d = (t : Tree) × Spells t bytes × (body_of t ≡ Ok (tree_of d))

-- the word is this document: as Extended JSON, which is UTF-8, or as hexadecimal text of its bytes
abbrev pub IsDocumentAs : (json : Bool) → List ℕ → List (List ℕ × TreeValue) → Type 0
IsDocumentAs true word d = IsUtf8 word × (document_in word ≡ Ok d)
IsDocumentAs false word d = (bytes : List ℕ) × IsHex word bytes × IsSpelledBy bytes d

-- a word that begins with a brace is Extended JSON, and any other is hexadecimal text
abbrev pub IsDocument : List ℕ → List (List ℕ × TreeValue) → Type 0
IsDocument word d = IsDocumentAs (begins_object word) word d

-- the text isn't read as Extended JSON for this cause, or memory ran out; of the column nothing is
-- said
abbrev pub IsJsonCause : List ℕ → Cause → Type 0
IsJsonCause text (causes.Json cause column) =
    (path : List ℕ) × (document_in text ≡ Err (cause, path))
IsJsonCause text causes.OutOfMemory = Unit {0}
IsJsonCause text _ = ⊥

-- the word begins with a brace, and is UTF-8
abbrev pub MayBeJson : List ℕ → Type 0
MayBeJson word = (begins_object word ≡ true) × IsUtf8 word

-- why the word is no document: why it isn't Extended JSON, if it may be that, and else the cause
-- `other`
abbrev pub IsNoDocumentFor : (other : Cause) → List ℕ → Cause → Type 0
IsNoDocumentFor other word cause =
    (MayBeJson word × IsJsonCause word cause) ⊎ ((MayBeJson word → ⊥) × (cause ≡ other))

-- the word is this text in quotes
pub record IsQuoted (word name : List ℕ) : Type 0 where
  pub quoted : word ≡ 34 ∷ name ++ 34 ∷ []
  pub text : IsUtf8 name

-- ---- operands

-- nothing but spaces is left
abbrev pub IsNothing : List ℕ → Type 0
IsNothing text = word_in text ≡ []

-- this word is left alone
abbrev pub IsOneWord : List ℕ → List ℕ → Type 0
IsOneWord text word = (word_in text ≡ word) × IsNothing (behind text)

-- these two words are left
abbrev pub AreTwoWords : List ℕ → (first second : List ℕ) → Type 0
AreTwoWords text first second = (word_in text ≡ first) × IsOneWord (behind text) second
