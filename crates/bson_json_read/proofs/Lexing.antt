-- The lexemes of a text from an offset on, and the tokens that they make.
use Rattle.std.proofs.Common.{◌≡◌, ◌∙◌, ◌+◌, ◌-◌, ◌<◌, ◌≤◌, ◌⊎◌, inl, inr, ℕ, suc, Bool, true, false, cond, ◌==◌, ◌||◌, List, [], ◌∷◌, ◌++◌, Option, None, Some, length, take, drop, get_or, refl, sym, ap, ap₂, subst, arith, append-nil, codes, lt_of_not-le}
use Rattle.std.specs.List.{prefix_len}
use Rattle.std.proofs.lemmas.Bool.{eqb-true, false≢true, not-true, or_cases, or_parts, true≢false}
use Rattle.std.proofs.lemmas.List.{drop_all, drop_more, drop-drop, get_or_default, get_or_past, take-append-drop}
use Rattle.json.specs.Lex.{Lexeme, Mode, Place, after_comma, after_key, after_value, begins_colon, between, colon, comma, fresh, if_allowed, in_string, lex, lex_byte, may_begin, may_close, operator, other, punctuate, space, string_token, token}
use Rattle.json.specs.Run.{is_plain}
use Rattle.json.specs.Text.{content, plain, prepend}
use Rattle.json.specs.Token.{Token}
use Rattle.json.specs.Word.{ends_word, is_operator, is_space, word}
use Rattle.json.specs.Print.{IsNumber}
use Rattle.json.proofs.Printed.Numbers.{in_word-ended, lex-number}
use Rattle.bson_json_read.specs.declared.cursor.Behind.{Behind}
use Rattle.bson_json_read.specs.declared.cursor.Behind.TheVariants.{Opening, Value, Comma}
use Rattle.bson_json_read.specs.declared.bracket.Bracket.{Bracket}
use Rattle.bson_json_read.specs.declared.bracket.Bracket.TheVariants.{BeginArray, BeginObject, EndArray, EndObject}
use Rattle.bson_json_read.specs.Brackets.{byte_of, token_of}
use Rattle.bson_json_read.specs.Cursor.{IsWord, behind, may_stand, place_of, tokens_left}

-- ---- white space

space_32 : (xs : List ℕ) → lex between (32 ∷ xs) ≡ lex between xs
unfolding lex
space_32 xs = refl

space_9 : (xs : List ℕ) → lex between (9 ∷ xs) ≡ lex between xs
unfolding lex
space_9 xs = refl

space_10 : (xs : List ℕ) → lex between (10 ∷ xs) ≡ lex between xs
unfolding lex
space_10 xs = refl

space_13 : (xs : List ℕ) → lex between (13 ∷ xs) ≡ lex between xs
unfolding lex
space_13 xs = refl

space_first : (x : ℕ) (xs : List ℕ) → is_space x ≡ true → lex between (x ∷ xs) ≡ lex between xs
space_first x xs is = four (or_cases _ _ is)
  where
    by : (n : ℕ) → ((ys : List ℕ) → lex between (n ∷ ys) ≡ lex between ys) → (x == n) ≡ true → lex between (x ∷ xs) ≡ lex between xs
    by n f e = subst (λ (y : ℕ). lex between (y ∷ xs) ≡ lex between xs) (sym (eqb-true x n e)) (f xs)

    two : ((x == 32) ≡ true) ⊎ ((x == 9) ≡ true) → lex between (x ∷ xs) ≡ lex between xs
    two (inl e) = by 32 space_32 e
    two (inr e) = by 9 space_9 e

    three : (((x == 32) || (x == 9)) ≡ true) ⊎ ((x == 10) ≡ true) → lex between (x ∷ xs) ≡ lex between xs
    three (inl e) = two (or_cases _ _ e)
    three (inr e) = by 10 space_10 e

    four : ((((x == 32) || (x == 9)) || (x == 10)) ≡ true) ⊎ ((x == 13) ≡ true) → lex between (x ∷ xs) ≡ lex between xs
    four (inl e) = three (or_cases _ _ e)
    four (inr e) = by 13 space_13 e

-- a byte that is white space is passed over
pub past_space : (d : List ℕ) (i : ℕ) → i < length d → is_space (get_or d i 0) ≡ true → lex between (drop i d) ≡ lex between (drop (i + 1) d)
past_space d i lt is = ap (lex between) (drop_more d i 0 lt) ∙ space_first (get_or d i 0) (drop (i + 1) d) is

-- ---- strings

inside : (o s : Bool) (x : ℕ) (xs : List ℕ) (k : Mode → List Lexeme) → lex_byte in_string (cond o operator (cond s space other)) x xs k ≡ k in_string
inside true s x xs k = refl
inside false true x xs k = refl
inside false false x xs k = refl

plain_first : (x : ℕ) (xs : List ℕ) → is_plain x ≡ true → lex in_string (x ∷ xs) ≡ lex in_string xs
unfolding lex
plain_first x xs is =
    let none = or_parts _ _ (not-true _ is) in
    let tests = or_parts (x == 34) _ none.0 in
    rw (tests.0, tests.1) (inside (is_operator x) (is_space x) x xs (λ m. lex m xs))

lex_plain : (xs : List ℕ) → lex in_string xs ≡ lex in_string (drop (prefix_len is_plain xs) xs)
lex_plain [] = refl
lex_plain (x ∷ xs) = one (lex_plain xs) (is_plain x) refl
  where
    one : lex in_string xs ≡ lex in_string (drop (prefix_len is_plain xs) xs) → (b : Bool) → is_plain x ≡ b → lex in_string (x ∷ xs) ≡ lex in_string (drop (cond b (1 + prefix_len is_plain xs) 0) (x ∷ xs))
    one ih false e = refl
    one ih true e =
        let next : suc (prefix_len is_plain xs) ≡ 1 + prefix_len is_plain xs = omega arith in
        plain_first x xs e ∙ ih ∙ ap (λ (n : ℕ). lex in_string (drop n (x ∷ xs))) next

quote_begins : (xs : List ℕ) → lex between (34 ∷ xs) ≡ token (string_token (content plain xs)) ∷ lex in_string xs
unfolding lex
quote_begins xs = refl

quote_ends : (xs : List ℕ) → lex in_string (34 ∷ xs) ≡ lex between xs
unfolding lex
quote_ends xs = refl

-- where a byte stands, by what stands there or a space
pub there : (d : List ℕ) (i c : ℕ) → get_or d i 32 ≡ c → (c ≡ 32 → ⊥) → i < length d
there d i c is apart = lt_of_not-le (λ past. apart (sym is ∙ get_or_past d i 32 past))

pub byte_there : (d : List ℕ) (i c : ℕ) → get_or d i 32 ≡ c → (c ≡ 32 → ⊥) → get_or d i 0 ≡ c
byte_there d i c is apart = get_or_default d i 0 32 (there d i c is apart) ∙ is

prepended : (x : ℕ) (xs : List ℕ) (o : Option (List ℕ)) → prepend (x ∷ []) (prepend xs o) ≡ prepend (x ∷ xs) o
prepended x xs None = refl
prepended x xs (Some s) = refl

content_first : (x : ℕ) (xs : List ℕ) → is_plain x ≡ true → content plain (x ∷ xs) ≡ prepend (x ∷ []) (content plain xs)
unfolding content
content_first x xs is =
    let none = or_parts _ _ (not-true _ is) in
    let tests = or_parts (x == 34) _ none.0 in
    rw (tests.0, tests.1, none.1) refl

nothing_prepended : (o : Option (List ℕ)) → o ≡ prepend [] o
nothing_prepended None = refl
nothing_prepended (Some s) = refl

content_plain : (xs : List ℕ) → content plain xs ≡ prepend (take (prefix_len is_plain xs) xs) (content plain (drop (prefix_len is_plain xs) xs))
content_plain [] = nothing_prepended _
content_plain (x ∷ xs) = one (content_plain xs) (is_plain x) refl
  where
    one : content plain xs ≡ prepend (take (prefix_len is_plain xs) xs) (content plain (drop (prefix_len is_plain xs) xs)) → (b : Bool) → is_plain x ≡ b → content plain (x ∷ xs) ≡ prepend (take (cond b (1 + prefix_len is_plain xs) 0) (x ∷ xs)) (content plain (drop (cond b (1 + prefix_len is_plain xs) 0) (x ∷ xs)))
    one ih false e = nothing_prepended _
    one ih true e =
        let next : suc (prefix_len is_plain xs) ≡ 1 + prefix_len is_plain xs = omega arith in
        content_first x xs e ∙ ap (prepend (x ∷ [])) ih ∙ prepended x (take (prefix_len is_plain xs) xs) (content plain (drop (prefix_len is_plain xs) xs))
        ∙ ap (λ (n : ℕ). prepend (take n (x ∷ xs)) (content plain (drop n (x ∷ xs)))) next

content_ends : (xs : List ℕ) → content plain (34 ∷ xs) ≡ Some []
unfolding content
content_ends xs = refl

-- a string that has no escape
pub string_lexed : (d : List ℕ) (p stop : ℕ) → get_or d p 32 ≡ 34 → stop ≡ p + 1 + prefix_len is_plain (drop (p + 1) d) → get_or d stop 32 ≡ 34
    → lex between (drop p d) ≡ token (Token.string (take (stop - (p + 1)) (drop (p + 1) d))) ∷ lex between (drop (stop + 1) d)
string_lexed d p stop first is closing =
    let r = drop (p + 1) d in
    let n = prefix_len is_plain r in
    let begins : drop p d ≡ 34 ∷ r = drop_more d p 0 (there d p 34 first (λ e. omega arith)) ∙ ap (λ (x : ℕ). x ∷ r) (byte_there d p 34 first (λ e. omega arith)) in
    let ends : drop stop d ≡ 34 ∷ drop (stop + 1) d =
    drop_more d stop 0 (there d stop 34 closing (λ e. omega arith)) ∙ ap (λ (x : ℕ). x ∷ drop (stop + 1) d) (byte_there d stop 34 closing (λ e. omega arith)) in
    let len : n ≡ stop - (p + 1) = omega (arith, is) in
    let behind : drop n r ≡ 34 ∷ drop (stop + 1) d = drop-drop n (p + 1) d ∙ ap (λ (k : ℕ). drop k d) (sym is) ∙ ends in
    let found : content plain r ≡ Some (take (stop - (p + 1)) r) =
    content_plain r ∙ ap (λ (k : ℕ). prepend (take k r) (content plain (drop n r))) len ∙ ap (prepend (take (stop - (p + 1)) r)) (ap (content plain) behind ∙ content_ends (drop (stop + 1) d))
    ∙ ap Some (append-nil (take (stop - (p + 1)) r)) in
    let passed : lex in_string r ≡ lex between (drop (stop + 1) d) = lex_plain r ∙ ap (lex in_string) behind ∙ quote_ends (drop (stop + 1) d) in
    ap (lex between) begins ∙ quote_begins r ∙ ap₂ (λ o l. token (string_token o) ∷ l) found passed

-- ---- operators

open_brace : (xs : List ℕ) → lex between (123 ∷ xs) ≡ token Token.begin_object ∷ lex between xs
unfolding lex
open_brace xs = refl

close_brace : (xs : List ℕ) → lex between (125 ∷ xs) ≡ token Token.end_object ∷ lex between xs
unfolding lex
close_brace xs = refl

open_bracket : (xs : List ℕ) → lex between (91 ∷ xs) ≡ token Token.begin_array ∷ lex between xs
unfolding lex
open_bracket xs = refl

close_bracket : (xs : List ℕ) → lex between (93 ∷ xs) ≡ token Token.end_array ∷ lex between xs
unfolding lex
close_bracket xs = refl

a_comma : (xs : List ℕ) → lex between (44 ∷ xs) ≡ comma ∷ lex between xs
unfolding lex
a_comma xs = refl

a_colon : (xs : List ℕ) → lex between (58 ∷ xs) ≡ colon ∷ lex between xs
unfolding lex
a_colon xs = refl

-- the byte at an offset comes first
first_there : (d : List ℕ) (i c : ℕ) (ls : List Lexeme) → ((xs : List ℕ) → lex between (c ∷ xs) ≡ ls ++ lex between xs) → get_or d i 32 ≡ c → (c ≡ 32 → ⊥)
    → lex between (drop i d) ≡ ls ++ lex between (drop (i + 1) d)
first_there d i c ls lexed is apart =
    ap (lex between) (drop_more d i 0 (there d i c is apart) ∙ ap (λ (x : ℕ). x ∷ drop (i + 1) d) (byte_there d i c is apart)) ∙ lexed (drop (i + 1) d)

pub at_open_brace : (d : List ℕ) (i : ℕ) → get_or d i 32 ≡ 123 → lex between (drop i d) ≡ token Token.begin_object ∷ lex between (drop (i + 1) d)
at_open_brace d i is = first_there d i 123 (token Token.begin_object ∷ []) open_brace is (λ e. omega arith)

pub at_close_brace : (d : List ℕ) (i : ℕ) → get_or d i 32 ≡ 125 → lex between (drop i d) ≡ token Token.end_object ∷ lex between (drop (i + 1) d)
at_close_brace d i is = first_there d i 125 (token Token.end_object ∷ []) close_brace is (λ e. omega arith)

pub at_open_bracket : (d : List ℕ) (i : ℕ) → get_or d i 32 ≡ 91 → lex between (drop i d) ≡ token Token.begin_array ∷ lex between (drop (i + 1) d)
at_open_bracket d i is = first_there d i 91 (token Token.begin_array ∷ []) open_bracket is (λ e. omega arith)

pub at_close_bracket : (d : List ℕ) (i : ℕ) → get_or d i 32 ≡ 93 → lex between (drop i d) ≡ token Token.end_array ∷ lex between (drop (i + 1) d)
at_close_bracket d i is = first_there d i 93 (token Token.end_array ∷ []) close_bracket is (λ e. omega arith)

pub at_comma : (d : List ℕ) (i : ℕ) → get_or d i 32 ≡ 44 → lex between (drop i d) ≡ comma ∷ lex between (drop (i + 1) d)
at_comma d i is = first_there d i 44 (comma ∷ []) a_comma is (λ e. omega arith)

pub at_colon : (d : List ℕ) (i : ℕ) → get_or d i 32 ≡ 58 → lex between (drop i d) ≡ colon ∷ lex between (drop (i + 1) d)
at_colon d i is = first_there d i 58 (colon ∷ []) a_colon is (λ e. omega arith)

-- ---- words

true_read : (rest : List ℕ) → ends_word rest ≡ true → lex between (codes "true" ++ rest) ≡ token (Token.boolean true) ∷ lex between rest
unfolding lex word
true_read rest ended = ap₂ (λ b l. token (cond b (Token.boolean true) Token.bad) ∷ l) ended (in_word-ended rest ended)

false_read : (rest : List ℕ) → ends_word rest ≡ true → lex between (codes "false" ++ rest) ≡ token (Token.boolean false) ∷ lex between rest
unfolding lex word
false_read rest ended = ap₂ (λ b l. token (cond b (Token.boolean false) Token.bad) ∷ l) ended (in_word-ended rest ended)

null_read : (rest : List ℕ) → ends_word rest ≡ true → lex between (codes "null" ++ rest) ≡ token Token.null ∷ lex between rest
unfolding lex word
null_read rest ended = ap₂ (λ b l. token (cond b Token.null Token.bad) ∷ l) ended (in_word-ended rest ended)

allowed : (b : Bool) (t : Token) (k : Place → List Token) (next : Place) → b ≡ true → if_allowed b t k next ≡ t ∷ k next
allowed b t k next e = ap (λ x. if_allowed x t k next) e

boolean_begins : (b : Bool) (p : Place) (ls : List Lexeme) → may_begin p ≡ true → punctuate p (token (Token.boolean b) ∷ ls) ≡ Token.boolean b ∷ punctuate after_value ls
unfolding punctuate
boolean_begins b p ls may = allowed (may_begin p) (Token.boolean b) (λ n. punctuate n ls) after_value may

null_begins : (p : Place) (ls : List Lexeme) → may_begin p ≡ true → punctuate p (token Token.null ∷ ls) ≡ Token.null ∷ punctuate after_value ls
unfolding punctuate
null_begins p ls may = allowed (may_begin p) Token.null (λ n. punctuate n ls) after_value may

number_begins : (s : List ℕ) (p : Place) (ls : List Lexeme) → may_begin p ≡ true → punctuate p (token (Token.number s) ∷ ls) ≡ Token.number s ∷ punctuate after_value ls
unfolding punctuate
number_begins s p ls may = allowed (may_begin p) (Token.number s) (λ n. punctuate n ls) after_value may

pub true_word : (w : List ℕ) → w ≡ codes "true" → IsWord w (Token.boolean true)
true_word w is = subst (λ (x : List ℕ). IsWord x (Token.boolean true)) (sym is) (record {
  read = true_read;
  begins = boolean_begins true;
})

pub false_word : (w : List ℕ) → w ≡ codes "false" → IsWord w (Token.boolean false)
false_word w is = subst (λ (x : List ℕ). IsWord x (Token.boolean false)) (sym is) (record {
  read = false_read;
  begins = boolean_begins false;
})

pub null_word : (w : List ℕ) → w ≡ codes "null" → IsWord w Token.null
null_word w is = subst (λ (x : List ℕ). IsWord x Token.null) (sym is) (record {
  read = null_read;
  begins = null_begins;
})

pub number_word : (w : List ℕ) → IsNumber w → IsWord w (Token.number w)
number_word w is = record {
  read = λ rest ended. lex-number w rest is ended;
  begins = number_begins w;
}

-- ---- tokens

object_begins : (p : Place) (ls : List Lexeme) → may_begin p ≡ true → punctuate p (token Token.begin_object ∷ ls) ≡ Token.begin_object ∷ punctuate fresh ls
unfolding punctuate
object_begins p ls may = allowed (may_begin p) Token.begin_object (λ n. punctuate n ls) fresh may

array_begins : (p : Place) (ls : List Lexeme) → may_begin p ≡ true → punctuate p (token Token.begin_array ∷ ls) ≡ Token.begin_array ∷ punctuate fresh ls
unfolding punctuate
array_begins p ls may = allowed (may_begin p) Token.begin_array (λ n. punctuate n ls) fresh may

object_ends : (p : Place) (ls : List Lexeme) → may_close p ≡ true → punctuate p (token Token.end_object ∷ ls) ≡ Token.end_object ∷ punctuate after_value ls
unfolding punctuate
object_ends p ls may = allowed (may_close p) Token.end_object (λ n. punctuate n ls) after_value may

array_ends : (p : Place) (ls : List Lexeme) → may_close p ≡ true → punctuate p (token Token.end_array ∷ ls) ≡ Token.end_array ∷ punctuate after_value ls
unfolding punctuate
array_ends p ls may = allowed (may_close p) Token.end_array (λ n. punctuate n ls) after_value may

text_begins : (p : Place) (s : List ℕ) (ls : List Lexeme) → begins_colon ls ≡ false → may_begin p ≡ true → punctuate p (token (Token.string s) ∷ ls) ≡ Token.string s ∷ punctuate after_value ls
unfolding punctuate
text_begins p s ls none may = rw none (allowed (may_begin p) (Token.string s) (λ n. punctuate n ls) after_value may)

name_begins : (p : Place) (s : List ℕ) (ls : List Lexeme) → may_begin p ≡ true → punctuate p (token (Token.string s) ∷ colon ∷ ls) ≡ Token.key s ∷ punctuate fresh ls
unfolding punctuate
name_begins p s ls may = allowed (may_begin p) (Token.key s) (λ n. punctuate n (colon ∷ ls)) after_key may

pub comma_passed : (ls : List Lexeme) → punctuate after_value (comma ∷ ls) ≡ punctuate after_comma ls
unfolding punctuate
comma_passed ls = refl

none_left : (b : Behind) → may_close (place_of b) ≡ true → tokens_left b [] ≡ []
unfolding lex punctuate
none_left Opening may = refl
none_left Value may = refl
none_left Comma may = absurd (false≢true may)

pub nothing_left : (b : Behind) (d : List ℕ) (at : ℕ) → may_close (place_of b) ≡ true → length d ≤ at → tokens_left b (drop at d) ≡ []
nothing_left b d at may end = ap (tokens_left b) (drop_all at d end) ∙ none_left b may

-- what stands behind white space
module _ (b : Behind) (d : List ℕ) (at next : ℕ) where
  object_ended : may_close (place_of b) ≡ true → get_or d at 32 ≡ 125 → lex between (drop (at + 1) d) ≡ lex between (drop next d) → tokens_left b (drop at d) ≡ Token.end_object ∷ tokens_left Value (drop next d)
  object_ended may is passed = ap (punctuate (place_of b)) (at_close_brace d at is ∙ ap (λ l. token Token.end_object ∷ l) passed) ∙ object_ends (place_of b) (lex between (drop next d)) may

  array_ended : may_close (place_of b) ≡ true → get_or d at 32 ≡ 93 → lex between (drop (at + 1) d) ≡ lex between (drop next d) → tokens_left b (drop at d) ≡ Token.end_array ∷ tokens_left Value (drop next d)
  array_ended may is passed = ap (punctuate (place_of b)) (at_close_bracket d at is ∙ ap (λ l. token Token.end_array ∷ l) passed) ∙ array_ends (place_of b) (lex between (drop next d)) may

pub behind_comma : (b : Behind) (d : List ℕ) (at next : ℕ) → may_begin (place_of b) ≡ false → get_or d at 32 ≡ 44 → lex between (drop (at + 1) d) ≡ lex between (drop next d) → tokens_left b (drop at d) ≡ tokens_left Comma (drop next d)
behind_comma Opening d at next may is passed = absurd (true≢false may)
behind_comma Value d at next may is passed = ap (punctuate after_value) (at_comma d at is ∙ ap (λ l. comma ∷ l) passed) ∙ comma_passed (lex between (drop next d))
behind_comma Comma d at next may is passed = absurd (true≢false may)

-- ---- no colon

pub not_colon : (d : List ℕ) (at c : ℕ) → get_or d at 32 ≡ c → (c ≡ 44) ⊎ ((c ≡ 125) ⊎ (c ≡ 93)) → begins_colon (lex between (drop at d)) ≡ false
not_colon d at c is (inl e) = ap begins_colon (at_comma d at (is ∙ e))
not_colon d at c is (inr (inl e)) = ap begins_colon (at_close_brace d at (is ∙ e))
not_colon d at c is (inr (inr e)) = ap begins_colon (at_close_bracket d at (is ∙ e))

-- ---- steps

object_step : (d : List ℕ) (at next : ℕ) (p : Place) → get_or d at 32 ≡ 123 → lex between (drop (at + 1) d) ≡ lex between (drop next d) → may_begin p ≡ true
    → punctuate p (lex between (drop at d)) ≡ Token.begin_object ∷ tokens_left Opening (drop next d)
object_step d at next p is passed may = ap (punctuate p) (at_open_brace d at is ∙ ap (λ l. token Token.begin_object ∷ l) passed) ∙ object_begins p (lex between (drop next d)) may

array_step : (d : List ℕ) (at next : ℕ) (p : Place) → get_or d at 32 ≡ 91 → lex between (drop (at + 1) d) ≡ lex between (drop next d) → may_begin p ≡ true
    → punctuate p (lex between (drop at d)) ≡ Token.begin_array ∷ tokens_left Opening (drop next d)
array_step d at next p is passed may = ap (punctuate p) (at_open_bracket d at is ∙ ap (λ l. token Token.begin_array ∷ l) passed) ∙ array_begins p (lex between (drop next d)) may

pub bracket_taken : (b : Behind) (k : Bracket) (d : List ℕ) (at next : ℕ) → may_stand (place_of b) k ≡ true → get_or d at 32 ≡ byte_of k → lex between (drop (at + 1) d) ≡ lex between (drop next d)
    → tokens_left b (drop at d) ≡ token_of k ∷ tokens_left (behind k) (drop next d)
bracket_taken b BeginObject d at next may is passed = object_step d at next (place_of b) is passed may
bracket_taken b EndObject d at next may is passed = object_ended b d at next may is passed
bracket_taken b BeginArray d at next may is passed = array_step d at next (place_of b) is passed may
bracket_taken b EndArray d at next may is passed = array_ended b d at next may is passed

pub text_step : (d s : List ℕ) (at end next : ℕ) (p : Place) → lex between (drop at d) ≡ token (Token.string s) ∷ lex between (drop end d) → lex between (drop end d) ≡ lex between (drop next d)
    → begins_colon (lex between (drop next d)) ≡ false → may_begin p ≡ true → punctuate p (lex between (drop at d)) ≡ Token.string s ∷ tokens_left Value (drop next d)
text_step d s at end next p lexed passed none may = ap (punctuate p) (lexed ∙ ap (λ l. token (Token.string s) ∷ l) passed) ∙ text_begins p s (lex between (drop next d)) none may

pub name_step : (d s : List ℕ) (at end colon_at next : ℕ) (p : Place) → lex between (drop at d) ≡ token (Token.string s) ∷ lex between (drop end d) → lex between (drop end d) ≡ lex between (drop colon_at d)
    → get_or d colon_at 32 ≡ 58 → lex between (drop (colon_at + 1) d) ≡ lex between (drop next d) → may_begin p ≡ true → punctuate p (lex between (drop at d)) ≡ Token.key s ∷ tokens_left Opening (drop next d)
name_step d s at end colon_at next p lexed passed is behind may =
    ap (punctuate p) (lexed ∙ ap (λ l. token (Token.string s) ∷ l) (passed ∙ at_colon d colon_at is ∙ ap (λ l. colon ∷ l) behind)) ∙ name_begins p s (lex between (drop next d)) may

pub word_step : (d w : List ℕ) (t : Token) (at end next : ℕ) (p : Place) → IsWord w t → drop at d ≡ w ++ drop end d → ends_word (drop end d) ≡ true → lex between (drop end d) ≡ lex between (drop next d) → may_begin p ≡ true
    → punctuate p (lex between (drop at d)) ≡ t ∷ tokens_left Value (drop next d)
word_step d w t at end next p word_is cut ended passed may =
    ap (punctuate p) (ap (lex between) cut ∙ word_is.read (drop end d) ended ∙ ap (λ l. token t ∷ l) passed) ∙ word_is.begins p (lex between (drop next d)) may

-- a part of a text, and what is behind it
pub cut : (d w : List ℕ) (at end : ℕ) → at ≤ end → w ≡ take (end - at) (drop at d) → drop at d ≡ w ++ drop end d
cut d w at end le is =
    let n = end - at in
    let back : at + n ≡ end = omega arith in
    sym (take-append-drop n (drop at d)) ∙ ap₂ (λ (x y : List ℕ). x ++ y) (sym is) (drop-drop n at d ∙ ap (λ (k : ℕ). drop k d) back)
