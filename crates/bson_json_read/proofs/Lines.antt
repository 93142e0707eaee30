-- A line that is read as a text is a text.
use Rattle.std.proofs.Common.{◌≡◌, ◌∙◌, ◌-◌, ◌<◌, ◌≤◌, ℕ, zero, suc, List, [], ◌∷◌, ◌++◌, Bool, true, false, Option, Some, None, Ok, length, get_or, drop, take, refl, sym, ap, arith, append-nil, length-take-le}
use Rattle.std.specs.Prelude.{option_and_then}
use Rattle.std.specs.Str.{is_utf8}
use Rattle.std.proofs.lemmas.List.{take-append-drop}
use Rattle.json.specs.Json.{Json, null, boolean, number, string, array, object, Members, if_last, value}
use Rattle.json.specs.Lex.{tokens}
use Rattle.json.specs.Token.{Token}
use Rattle.json.specs.Tree.{json_tokens}
use Rattle.json.proofs.Unique.Spelling.{value-json_tokens_back}
use Rattle.bson_json_read.specs.Extents.{text_len}
use Rattle.bson_json_read.specs.Sequences.{utf8_read}
use Rattle.bson_json_read.specs.Texts.{document_as, document_in}
use Rattle.bson_json_read.specs.Values.{Pair}
use Rattle.bson_json_read.proofs.Ends.{EndsInBrace, object_ends}
use Rattle.bson_json_read.proofs.TextBytes.{by_form}

-- the members of what is read as a document
object_of : (j : Json) (d : List Pair) → document_as (Some j) ≡ Ok d → (ms : Members) × (j ≡ object ms)
object_of null d e = absurd cc
object_of (boolean b) d e = absurd cc
object_of (number s) d e = absurd cc
object_of (string s) d e = absurd cc
object_of (array js) d e = absurd cc
object_of (object ms) d e = (ms, refl)

whole : (o : Option (Json × List Token)) (d : List Pair) → document_as (option_and_then (λ p. if_last p.0 p.1) o) ≡ Ok d → (ms : Members) × (o ≡ Some (object ms, []))
whole None d e = absurd cc
whole (Some (j, [])) d e = let o = object_of j d e in (o.0, ap (λ (i : Json). Some (i, [])) o.1)
whole (Some (j, t ∷ ts)) d e = absurd cc

read_as_text : (text : List ℕ) (d : List Pair) (utf8 : Bool) → by_form text utf8 ≡ Ok d → document_in text ≡ Ok d
read_as_text text d true e = e
read_as_text text d false e = absurd cc

read_ends : (text more : List ℕ) (d : List Pair) → utf8_read text ≡ Ok d → EndsInBrace 0 text → text_len (text ++ more) ≡ length text
read_ends text more d e last =
    let w = whole (value 402 (tokens text)) d (read_as_text text d (is_utf8 text) e) in
    let is : tokens text ≡ json_tokens (object w.0) ++ [] = value-json_tokens_back 402 (tokens text) [] (object w.0) w.1 in
    object_ends text more w.0 (is ∙ append-nil (json_tokens (object w.0))) last

last_in : (bs : List ℕ) (n before : ℕ) → n < length bs → get_or bs n 0 ≡ 125 → EndsInBrace before (take (suc n) bs)
last_in [] n before lt e = absurd (omega arith)
last_in (b ∷ bs) zero before lt e = e
last_in (b ∷ bs) (suc n) before lt e = last_in bs n b (omega arith) e

pub line_is_text : (rest : List ℕ) (len : ℕ) (d : List Pair) → 0 < len → len ≤ length rest → get_or rest (len - 1) 0 ≡ 125 → utf8_read (take len rest) ≡ Ok d → len ≡ text_len rest
line_is_text rest zero d some within e read = absurd (omega arith)
line_is_text rest (suc n) d some within e read =
    let less : suc n - 1 ≡ n = omega arith in
    let last = last_in rest n 0 within (ap (λ (i : ℕ). get_or rest i 0) (sym less) ∙ e) in
    let long : length (take (suc n) rest) ≡ suc n = length-take-le (suc n) rest within in
    sym long ∙ sym (read_ends (take (suc n) rest) (drop (suc n) rest) d read last) ∙ ap text_len (take-append-drop (suc n) rest)
