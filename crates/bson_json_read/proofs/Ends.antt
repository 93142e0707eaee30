-- A text that is read as an object ends where its braces do.
use Rattle.std.proofs.Common.{◌≡◌, ◌∙◌, ◌+◌, ◌-◌, ℕ, zero, suc, List, [], ◌∷◌, ◌++◌, Bool, true, false, ◌==◌, ◌||◌, ◌&&◌, cond, length, Option, Some, None, refl, sym, ap, subst, arith, append_assoc, eqb-true, drop, take, ◌⊎◌, inl, inr}
use Rattle.std.specs.Prelude.{⊤, nat_eq, nat_le, option_and_then}
use Rattle.std.specs.Char.{is_ascii_digit}
use Rattle.std.specs.List.{prefix_len, starts_with}
use Rattle.std.proofs.lemmas.Bool.{true≢false, or_cases, and_parts}
use Rattle.std.proofs.lemmas.List.{take-append-drop}
use Rattle.std.proofs.lemmas.Slice.Eq.{bytes_eq-Decides}
use Rattle.std.proofs.lemmas.Bool.Decides.{nat_tests}
use Rattle.json.specs.Json.{Json, null, boolean, number, string, array, object, Items, no_items, item, Members, no_members, member}
use Rattle.json.specs.Text.{content, plain}
use Rattle.json.specs.Token.{Token}
use Rattle.json.specs.Tree.{items_tokens, json_tokens, members_tokens}
use Rattle.json.specs.Word.{head, is_operator, is_space, literal, ends_word, number_before, after_digits, after_exponent, after_fraction, after_minus, after_number, after_sign, after_whole, word}
use Rattle.json.specs.Lex.{Class, quote, backslash, operator, space, other, class, Lexeme, token, comma, colon, Mode, between, in_word, in_string, in_escape, lex, lex_byte, string_token}
use Rattle.json.specs.Lex.{Place, fresh, after_value, after_comma, after_key, begins_colon, if_allowed, may_begin, may_close, place_token, punctuate, tokens}
use Rattle.bson_json_read.specs.declared.extent.Within.{Within}
use Rattle.bson_json_read.specs.declared.extent.Within.TheVariants.{Code, Quoted, Escaped}
use Rattle.bson_json_read.specs.Extents.{extent, text_len}

-- ---- the braces of tokens

abbrev closed : ℕ → List Token → (ℕ → Type 0) → Type 0
closed zero ts more = ⊥
closed (suc zero) ts more = ts ≡ []
closed (suc (suc n)) ts more = more (suc n)

abbrev closing_at : Token → ℕ → List Token → (ℕ → Type 0) → Type 0
closing_at Token.begin_object n ts more = more (suc n)
closing_at Token.end_object n ts more = closed n ts more
closing_at Token.begin_array n ts more = more n
closing_at Token.end_array n ts more = more n
closing_at (Token.key s) n ts more = more n
closing_at (Token.string s) n ts more = more n
closing_at (Token.number s) n ts more = more n
closing_at (Token.boolean b) n ts more = more n
closing_at Token.null n ts more = more n
closing_at Token.bad n ts more = ⊥

-- the last of these tokens closes the outermost of so many open braces
abbrev pub Closing : ℕ → List Token → Type 0
Closing n [] = ⊥
Closing n (t ∷ ts) = closing_at t n ts (λ m. Closing m ts)

mutual
  value_closes : (j : Json) (n : ℕ) (ts : List Token) → Closing (suc n) ts → Closing (suc n) (json_tokens j ++ ts)
  value_closes null n ts h = h
  value_closes (boolean b) n ts h = h
  value_closes (number s) n ts h = h
  value_closes (string s) n ts h = h
  value_closes (array js) n ts h = items_close js n ts h
  value_closes (object ms) n ts h = members_close ms n ts h

  items_close : (js : Items) (n : ℕ) (ts : List Token) → Closing (suc n) ts → Closing (suc n) (items_tokens js ++ ts)
  items_close no_items n ts h = h
  items_close (item j js) n ts h = subst (Closing (suc n)) (sym (append_assoc (json_tokens j) (items_tokens js) ts)) (value_closes j n (items_tokens js ++ ts) (items_close js n ts h))

  members_close : (ms : Members) (n : ℕ) (ts : List Token) → Closing (suc n) ts → Closing (suc (suc n)) (members_tokens ms ++ ts)
  members_close no_members n ts h = h
  members_close (member k j ms) n ts h =
      subst (Closing (suc (suc n))) (sym (append_assoc (json_tokens j) (members_tokens ms) ts)) (value_closes j (suc n) (members_tokens ms ++ ts) (members_close ms n ts h))

object_closes : (ms : Members) → Closing 1 (members_tokens ms)
object_closes no_members = refl
object_closes (member k j ms) = value_closes j 0 (members_tokens ms) (object_closes ms)

-- ---- bytes by their classes

-- which byte is meant
abbrev Facts : ℕ → Class → Type 0
Facts b quote = b ≡ 34
Facts b backslash = b ≡ 92
Facts b operator = ((b == 34) ≡ false) × ((b == 92) ≡ false)
Facts b space = ((b == 34) ≡ false) × ((b == 92) ≡ false) × ((b == 123) ≡ false) × ((b == 125) ≡ false)
Facts b other = ((b == 34) ≡ false) × ((b == 92) ≡ false) × ((b == 123) ≡ false) × ((b == 125) ≡ false)

neither : (p q : Bool) → (p || q) ≡ false → (p ≡ false) × (q ≡ false)
neither true q e = absurd cc
neither false q e = (refl, e)

no_brace : (b : ℕ) → is_operator b ≡ false → ((b == 123) ≡ false) × ((b == 125) ≡ false)
no_brace b e = grind arith

facts_of : (b : ℕ) (q k o s : Bool) → (b == 34) ≡ q → (b == 92) ≡ k → is_operator b ≡ o → Facts b (cond q quote (cond k backslash (cond o operator (cond s space other))))
facts_of b true k o s p r t = eqb-true b 34 p
facts_of b false true o s p r t = eqb-true b 92 r
facts_of b false false true s p r t = (p, r)
facts_of b false false false true p r t = let n = no_brace b t in (p, r, n.0, n.1)
facts_of b false false false false p r t = let n = no_brace b t in (p, r, n.0, n.1)

facts : (b : ℕ) → Facts b (class b)
facts b = facts_of b (b == 34) (b == 92) (is_operator b) (is_space b) refl refl refl

-- ---- a good word runs to an operator, a space or the end, with no quote in it

abbrev clean_byte : Class → Bool → Bool
clean_byte quote rest = false
clean_byte backslash rest = rest
clean_byte operator rest = true
clean_byte space rest = true
clean_byte other rest = rest

abbrev clean : List ℕ → Bool
clean [] = true
clean (x ∷ xs) = clean_byte (class x) (clean xs)

no_quote : (q k o s : Bool) → q ≡ false → clean_byte (cond q quote (cond k backslash (cond o operator (cond s space other)))) true ≡ true
no_quote true k o s e = absurd cc
no_quote false true o s e = refl
no_quote false false true s e = refl
no_quote false false false true e = refl
no_quote false false false false e = refl

ended : (q k o s rest : Bool) → (q ≡ true → (o || s) ≡ false) → (k ≡ true → (o || s) ≡ false) → (o || s) ≡ true → clean_byte (cond q quote (cond k backslash (cond o operator (cond s space other)))) rest ≡ true
ended true k o s rest hq hk h = absurd (true≢false (sym h ∙ hq refl))
ended false true o s rest hq hk h = absurd (true≢false (sym h ∙ hk refl))
ended false false true s rest hq hk h = refl
ended false false false true rest hq hk h = refl
ended false false false false rest hq hk h = absurd cc

clean_end : (t : List ℕ) → ends_word t ≡ true → clean t ≡ true
clean_end [] h = refl
clean_end (x ∷ xs) h =
    ended (x == 34) (x == 92) (is_operator x) (is_space x) (clean xs) (λ e. ap (λ y. is_operator y || is_space y) (eqb-true x 34 e)) (λ e. ap (λ y. is_operator y || is_space y) (eqb-true x 92 e)) h

-- a part of a word that is clean behind its first byte
clean_one : (c : ℕ) (t : List ℕ) → ((rest : Bool) → clean_byte (class c) rest ≡ rest) → (head t == c) ≡ true → clean (drop 1 t) ≡ true → clean t ≡ true
clean_one c [] passes e h = refl
clean_one c (x ∷ xs) passes e h = ap (λ y. clean_byte (class y) (clean xs)) (eqb-true x c e) ∙ passes (clean xs) ∙ h

digit_passes : (x : ℕ) → is_ascii_digit x ≡ true → clean_byte (class x) true ≡ true
digit_passes x h = no_quote (x == 34) (x == 92) (is_operator x) (is_space x) (no_digit x h)
  where
    no_digit : (x : ℕ) → is_ascii_digit x ≡ true → (x == 34) ≡ false
    no_digit x h = grind (arith, nat_tests)

clean_digits_at : (d : Bool) (x : ℕ) (xs : List ℕ) (n : ℕ) → (d ≡ true → clean_byte (class x) true ≡ true) → (clean (drop n xs) ≡ true → clean xs ≡ true) → clean (drop (cond d (1 + n) 0) (x ∷ xs)) ≡ true → clean (x ∷ xs) ≡ true
clean_digits_at false x xs n passes more h = h
clean_digits_at true x xs n passes more h =
    let e : 1 + n ≡ suc n = omega arith in
    ap (clean_byte (class x)) (more (ap (λ k. clean (drop k (x ∷ xs))) (sym e) ∙ h)) ∙ passes refl

clean_digits : (t : List ℕ) → clean (drop (prefix_len is_ascii_digit t) t) ≡ true → clean t ≡ true
clean_digits [] h = refl
clean_digits (x ∷ xs) h = clean_digits_at (is_ascii_digit x) x xs (prefix_len is_ascii_digit xs) (digit_passes x) (clean_digits xs) h

-- what follows a part is clean, where there is such a part
abbrev Then : Option (List ℕ) → Type 0
Then None = ⊥
Then (Some rest) = clean rest ≡ true

by_test : (b : Bool) (x y : Option (List ℕ)) (P : Type 0) → (b ≡ true → Then x → P) → (Then y → P) → Then (cond b x y) → P
by_test true x y P f g h = f refl h
by_test false x y P f g h = g h

clean-after_digits : (t : List ℕ) → Then (after_digits t) → clean t ≡ true
clean-after_digits t = by_test (prefix_len is_ascii_digit t == 0) None _ _ (λ e h. absurd h) (clean_digits t)

either : (a b : ℕ) (t : List ℕ) → ((rest : Bool) → clean_byte (class a) rest ≡ rest) → ((rest : Bool) → clean_byte (class b) rest ≡ rest) → ((head t == a) ≡ true) ⊎ ((head t == b) ≡ true) → clean (drop 1 t) ≡ true
    → clean t ≡ true
either a b t p q (inl e) = clean_one a t p e
either a b t p q (inr e) = clean_one b t q e

skipped : (b : Bool) (t : List ℕ) → (b ≡ true → clean (drop 1 t) ≡ true → clean t ≡ true) → clean (cond b (drop 1 t) t) ≡ true → clean t ≡ true
skipped true t f h = f refl h
skipped false t f h = h

clean-after_exponent : (t : List ℕ) → Then (after_exponent t) → clean t ≡ true
clean-after_exponent t =
    let u = drop 1 t in
    by_test ((head t == 101) || (head t == 69)) _ (Some t) _
    (λ e h. either 101 69 t (λ r. refl) (λ r. refl) (or_cases _ _ e) (skipped _ u (λ s. either 45 43 u (λ r. refl) (λ r. refl) (or_cases _ _ s)) (clean-after_digits (after_sign u) h))) (λ h. h)

clean-after_fraction : (t : List ℕ) → Then (after_fraction t) → clean t ≡ true
clean-after_fraction t = by_test (head t == 46) _ (Some t) _ (λ e h. clean_one 46 t (λ r. refl) e (clean-after_digits (drop 1 t) h)) (λ h. h)

clean-after_whole : (t : List ℕ) → Then (after_whole t) → clean t ≡ true
clean-after_whole t = by_test (head t == 48) (Some (drop 1 t)) _ _ (λ e h. clean_one 48 t (λ r. refl) e h) (clean-after_digits t)

back : (f : List ℕ → Option (List ℕ)) → ((t : List ℕ) → Then (f t) → clean t ≡ true) → (o : Option (List ℕ)) → Then (option_and_then f o) → Then o
back f p None h = h
back f p (Some t) h = p t h

clean-after_number : (t : List ℕ) → Then (after_number t) → clean t ≡ true
unfolding after_number
clean-after_number t h =
    skipped (head t == 45) t (clean_one 45 t (λ r. refl)) (clean-after_whole (after_minus t) (back after_fraction clean-after_fraction _ (back after_exponent clean-after_exponent _ h)))

-- ---- which token a word is

-- a token that a word may be, and what holds of the word if it is no bad one
abbrev IsWord : Token → Type 0 → Type 0
IsWord Token.begin_object P = ⊥
IsWord Token.end_object P = ⊥
IsWord Token.begin_array P = ⊥
IsWord Token.end_array P = ⊥
IsWord (Token.key s) P = ⊥
IsWord (Token.string s) P = ⊥
IsWord (Token.number s) P = P
IsWord (Token.boolean b) P = P
IsWord Token.null P = P
IsWord Token.bad P = ⊤

word_if : (b : Bool) (x y : Token) (P : Type 0) → (b ≡ true → IsWord x P) → IsWord y P → IsWord (cond b x y) P
word_if true x y P f g = f refl
word_if false x y P f g = g

literal_word : (name : List ℕ) (k : Token) (t : List ℕ) → ((P : Type 0) → P → IsWord k P) → ((rest : List ℕ) → clean (name ++ rest) ≡ clean rest) → IsWord (literal name k t) (clean t ≡ true)
literal_word name k t is passes =
    word_if (starts_with nat_eq t name && ends_word (drop (length name) t)) k Token.bad (clean t ≡ true)
    (λ e. let both = and_parts _ _ e in
    let front : name ≡ take (length name) t = (bytes_eq-Decides name (take (length name) t)).0 both.0 in
    is (clean t ≡ true) (ap clean (sym (take-append-drop (length name) t) ∙ ap (λ l. l ++ drop (length name) t) (sym front)) ∙ passes (drop (length name) t) ∙ clean_end (drop (length name) t) both.1)) tt

number_word : (t : List ℕ) (o : Option (List ℕ)) → (Then o → clean t ≡ true) → IsWord (number_before t o) (clean t ≡ true)
number_word t None f = tt
number_word t (Some rest) f = word_if (ends_word rest) _ Token.bad (clean t ≡ true) (λ e. f (clean_end rest e)) tt

word_is : (t : List ℕ) → IsWord (word t) (clean t ≡ true)
unfolding word
word_is t =
    word_if (head t == 116) _ _ _ (λ e. literal_word (116 ∷ 114 ∷ 117 ∷ 101 ∷ []) (Token.boolean true) t (λ P p. p) (λ r. refl))
    (word_if (head t == 102) _ _ _ (λ e. literal_word (102 ∷ 97 ∷ 108 ∷ 115 ∷ 101 ∷ []) (Token.boolean false) t (λ P p. p) (λ r. refl))
    (word_if (head t == 110) _ _ _ (λ e. literal_word (110 ∷ 117 ∷ 108 ∷ 108 ∷ []) Token.null t (λ P p. p) (λ r. refl)) (number_word t (after_number t) (clean-after_number t))))

-- ---- tokens and their braces

allowed : (b : Bool) (t : Token) (k : Place → List Token) (next : Place) (n : ℕ) → Closing n (if_allowed b t k next) → closing_at t n (k next) (λ m. Closing m (k next))
allowed true t k next n h = h
allowed false t k next n h = absurd h

-- a string, or a name
of_text : (o : Option (List ℕ)) (p : Place) (before : Bool) (k : Place → List Token) (n : ℕ) → Closing n (place_token p (string_token o) before k) → (next : Place) × Closing n (k next)
of_text None p before k n h = absurd h
of_text (Some s) p true k n h = (after_key, allowed (may_begin p) (Token.key s) k after_key n h)
of_text (Some s) p false k n h = (after_value, allowed (may_begin p) (Token.string s) k after_value n h)

-- a number, a truth value or null
of_word : (t : Token) (P : Type 0) (p : Place) (before : Bool) (k : Place → List Token) (n : ℕ) → IsWord t P → Closing n (place_token p t before k) → P × Closing n (k after_value)
of_word Token.begin_object P p before k n is h = absurd is
of_word Token.end_object P p before k n is h = absurd is
of_word Token.begin_array P p before k n is h = absurd is
of_word Token.end_array P p before k n is h = absurd is
of_word (Token.key s) P p before k n is h = absurd is
of_word (Token.string s) P p before k n is h = absurd is
of_word (Token.number s) P p before k n is h = (is, allowed (may_begin p) (Token.number s) k after_value n h)
of_word (Token.boolean b) P p before k n is h = (is, allowed (may_begin p) (Token.boolean b) k after_value n h)
of_word Token.null P p before k n is h = (is, allowed (may_begin p) Token.null k after_value n h)
of_word Token.bad P p before k n is h = absurd h

of_comma : (p : Place) (ls : List Lexeme) (n : ℕ) → Closing n (punctuate p (comma ∷ ls)) → Closing n (punctuate after_comma ls)
unfolding punctuate
of_comma fresh ls n h = absurd h
of_comma after_value ls n h = h
of_comma after_comma ls n h = absurd h
of_comma after_key ls n h = absurd h

of_colon : (p : Place) (ls : List Lexeme) (n : ℕ) → Closing n (punctuate p (colon ∷ ls)) → Closing n (punctuate fresh ls)
unfolding punctuate
of_colon fresh ls n h = absurd h
of_colon after_value ls n h = absurd h
of_colon after_comma ls n h = absurd h
of_colon after_key ls n h = h

of_nothing : {A : Type 0} (p : Place) (n : ℕ) → Closing n (punctuate p []) → A
unfolding punctuate
of_nothing fresh n h = absurd h
of_nothing after_value n h = absurd h
of_nothing after_comma n h = absurd h
of_nothing after_key n h = absurd h

allowed_some : (b : Bool) (t : Token) (k : Place → List Token) (next : Place) → if_allowed b t k next ≡ [] → ⊥
allowed_some true t k next e = absurd cc
allowed_some false t k next e = absurd cc

placed_some : (t : Token) (p : Place) (before : Bool) (k : Place → List Token) → place_token p t before k ≡ [] → ⊥
placed_some Token.begin_object p before k e = allowed_some (may_begin p) Token.begin_object k fresh e
placed_some Token.end_object p before k e = allowed_some (may_close p) Token.end_object k after_value e
placed_some Token.begin_array p before k e = allowed_some (may_begin p) Token.begin_array k fresh e
placed_some Token.end_array p before k e = allowed_some (may_close p) Token.end_array k after_value e
placed_some (Token.key s) p before k e = absurd cc
placed_some (Token.string s) p true k e = allowed_some (may_begin p) (Token.key s) k after_key e
placed_some (Token.string s) p false k e = allowed_some (may_begin p) (Token.string s) k after_value e
placed_some (Token.number s) p before k e = allowed_some (may_begin p) (Token.number s) k after_value e
placed_some (Token.boolean b) p before k e = allowed_some (may_begin p) (Token.boolean b) k after_value e
placed_some Token.null p before k e = allowed_some (may_begin p) Token.null k after_value e
placed_some Token.bad p before k e = absurd cc

comma_some : (ls : List Lexeme) → punctuate after_comma ls ≡ [] → ⊥
unfolding punctuate
comma_some [] e = absurd cc
comma_some (token t ∷ ls) e = placed_some t after_comma (begins_colon ls) (λ next. punctuate next ls) e
comma_some (comma ∷ ls) e = absurd cc
comma_some (colon ∷ ls) e = absurd cc

-- where no token follows a value, no lexeme does
no_lexeme : (ls : List Lexeme) → punctuate after_value ls ≡ [] → ls ≡ []
unfolding punctuate
no_lexeme [] e = refl
no_lexeme (token t ∷ ls) e = absurd (placed_some t after_value (begins_colon ls) (λ next. punctuate next ls) e)
no_lexeme (comma ∷ ls) e = absurd (comma_some ls e)
no_lexeme (colon ∷ ls) e = absurd cc

-- ---- the braces of bytes

-- the last byte is a brace, where this one stands before them
abbrev pub EndsInBrace : ℕ → List ℕ → Type 0
EndsInBrace before [] = before ≡ 125
EndsInBrace before (b ∷ bs) = EndsInBrace b bs

first_lexeme : (c : Class) (b : ℕ) (bs : List ℕ) (k : Mode → List Lexeme) → lex_byte between c b bs k ≡ [] → (c ≡ space) × (k between ≡ [])
first_lexeme quote b bs k e = absurd cc
first_lexeme backslash b bs k e = absurd cc
first_lexeme operator b bs k e = absurd cc
first_lexeme space b bs k e = (refl, e)
first_lexeme other b bs k e = absurd cc

-- bytes with no lexeme, behind a space
only_space : (b : ℕ) (bs : List ℕ) → class b ≡ space → lex between bs ≡ [] → EndsInBrace b bs → ⊥
unfolding lex
only_space b [] is e h = let f : class 125 ≡ space = ap class (sym h) ∙ is in absurd cc
only_space b (x ∷ xs) is e h = let first = first_lexeme (class x) x xs (λ next. lex next xs) e in only_space x xs first.0 first.1 h

nothing_behind : (b : ℕ) (bs : List ℕ) → lex between bs ≡ [] → EndsInBrace b bs → bs ≡ []
unfolding lex
nothing_behind b [] e h = refl
nothing_behind b (x ∷ xs) e h = let first = first_lexeme (class x) x xs (λ next. lex next xs) e in absurd (only_space x xs first.0 first.1 h)

abbrev within_of : Mode → Within
within_of between = Code
within_of in_word = Code
within_of in_string = Quoted
within_of in_escape = Escaped

-- what is left of a word is clean
abbrev GoesOn : Mode → List ℕ → Type 0
GoesOn between bs = ⊤
GoesOn in_word bs = clean bs ≡ true
GoesOn in_string bs = ⊤
GoesOn in_escape bs = ⊤

at_plain : (n b : ℕ) (r : List ℕ) → (b == 34) ≡ false → (b == 123) ≡ false → (b == 125) ≡ false → extent Code n (b ∷ r) ≡ suc (extent Code n r)
at_plain n b r p q s = rw (p, q, s) refl

at_quote : (n b : ℕ) (r : List ℕ) → b ≡ 34 → extent Code n (b ∷ r) ≡ suc (extent Quoted n r)
at_quote n b r e = ap (λ (x : ℕ). extent Code n (x ∷ r)) e

at_open : (n b : ℕ) (r : List ℕ) → b ≡ 123 → extent Code n (b ∷ r) ≡ suc (extent Code (n + 1) r)
at_open n b r e = ap (λ (x : ℕ). extent Code n (x ∷ r)) e

at_last : (b : ℕ) (r : List ℕ) → b ≡ 125 → extent Code 1 (b ∷ r) ≡ 1
at_last b r e = ap (λ (x : ℕ). extent Code 1 (x ∷ r)) e

at_close : (n b : ℕ) (r : List ℕ) → b ≡ 125 → extent Code (suc (suc n)) (b ∷ r) ≡ suc (extent Code (suc n) r)
at_close n b r e =
    let more : nat_le (suc (suc n)) 1 ≡ false = grind (arith, nat_tests) in
    let less : suc (suc n) - 1 ≡ suc n = omega arith in
    ap (λ (x : ℕ). extent Code (suc (suc n)) (x ∷ r)) e ∙ (rw (more, less) refl)

-- behind these bytes nothing belongs to the text
abbrev Ends : List ℕ → List ℕ → Type 0
Ends bs more = (m : Mode) (p : Place) (n : ℕ) → GoesOn m bs → Closing n (punctuate p (lex m bs)) → extent (within_of m) n (bs ++ more) ≡ length bs

on_close : (n b : ℕ) (bs more : List ℕ) → b ≡ 125 → EndsInBrace b bs → Ends bs more
    → closed n (punctuate after_value (lex between bs)) (λ m. Closing m (punctuate after_value (lex between bs))) → extent Code n (b ∷ (bs ++ more)) ≡ suc (length bs)
on_close zero b bs more e h ih c = absurd c
on_close (suc zero) b bs more e h ih c =
    let none : length bs ≡ 0 = ap length (nothing_behind b bs (no_lexeme (lex between bs) c) h) in
    omega (arith, at_last b (bs ++ more) e)
on_close (suc (suc n)) b bs more e h ih c = at_close n b (bs ++ more) e ∙ ap suc (ih between after_value (suc n) tt c)

-- a brace, a bracket, a comma or a colon
on_operator : (q r s t u : Bool) (p : Place) (n b : ℕ) (bs more : List ℕ) → (b == 123) ≡ q → (b == 125) ≡ r → (b == 34) ≡ false → EndsInBrace b bs → Ends bs more
    → Closing n (punctuate p (cond q (token Token.begin_object) (cond r (token Token.end_object) (cond s (token Token.begin_array) (cond t (token Token.end_array) (cond u comma colon)))) ∷ lex between bs))
    → extent Code n (b ∷ (bs ++ more)) ≡ suc (length bs)
unfolding punctuate
on_operator true r s t u p n b bs more is_open is_close bare h ih c =
    let one : n + 1 ≡ suc n = omega arith in
    at_open n b (bs ++ more) (eqb-true b 123 is_open)
    ∙ ap suc (ap (λ (k : ℕ). extent Code k (bs ++ more)) one ∙ ih between fresh (suc n) tt (allowed (may_begin p) Token.begin_object (λ next. punctuate next (lex between bs)) fresh n c))
on_operator false true s t u p n b bs more is_open is_close bare h ih c =
    on_close n b bs more (eqb-true b 125 is_close) h ih (allowed (may_close p) Token.end_object (λ next. punctuate next (lex between bs)) after_value n c)
on_operator false false true t u p n b bs more is_open is_close bare h ih c =
    at_plain n b (bs ++ more) bare is_open is_close ∙ ap suc (ih between fresh n tt (allowed (may_begin p) Token.begin_array (λ next. punctuate next (lex between bs)) fresh n c))
on_operator false false false true u p n b bs more is_open is_close bare h ih c =
    at_plain n b (bs ++ more) bare is_open is_close ∙ ap suc (ih between after_value n tt (allowed (may_close p) Token.end_array (λ next. punctuate next (lex between bs)) after_value n c))
on_operator false false false false true p n b bs more is_open is_close bare h ih c =
    at_plain n b (bs ++ more) bare is_open is_close ∙ ap suc (ih between after_comma n tt (of_comma p (lex between bs) n c))
on_operator false false false false false p n b bs more is_open is_close bare h ih c =
    at_plain n b (bs ++ more) bare is_open is_close ∙ ap suc (ih between fresh n tt (of_colon p (lex between bs) n c))

in_between : (c : Class) (p : Place) (n b : ℕ) (bs more : List ℕ) → class b ≡ c → Facts b c → EndsInBrace b bs → Ends bs more → Closing n (punctuate p (lex_byte between c b bs (λ next. lex next bs)))
    → extent Code n (b ∷ (bs ++ more)) ≡ suc (length bs)
unfolding punctuate
in_between quote p n b bs more e f h ih c =
    let t = of_text (content plain bs) p (begins_colon (lex in_string bs)) (λ next. punctuate next (lex in_string bs)) n c in
    at_quote n b (bs ++ more) f ∙ ap suc (ih in_string t.0 n tt t.1)
in_between backslash p n b bs more e f h ih c = absurd c
in_between operator p n b bs more e f h ih c = on_operator (b == 123) (b == 125) (b == 91) (b == 93) (b == 44) p n b bs more refl refl f.0 h ih c
in_between space p n b bs more e f h ih c = at_plain n b (bs ++ more) f.0 f.2 f.3 ∙ ap suc (ih between p n tt c)
in_between other p n b bs more e f h ih c =
    let w = of_word (word (b ∷ bs)) (clean (b ∷ bs) ≡ true) p (begins_colon (lex in_word bs)) (λ next. punctuate next (lex in_word bs)) n (word_is (b ∷ bs)) c in
    at_plain n b (bs ++ more) f.0 f.2 f.3 ∙ ap suc (ih in_word after_value n (subst (λ (k : Class). clean_byte k (clean bs) ≡ true) e w.0) w.1)

in_a_word : (c : Class) (p : Place) (n b : ℕ) (bs more : List ℕ) → Facts b c → clean_byte c (clean bs) ≡ true → EndsInBrace b bs → Ends bs more
    → Closing n (punctuate p (lex_byte in_word c b bs (λ next. lex next bs))) → extent Code n (b ∷ (bs ++ more)) ≡ suc (length bs)
in_a_word quote p n b bs more f g h ih c = absurd cc
in_a_word backslash p n b bs more f g h ih c =
    at_plain n b (bs ++ more) (ap (λ (x : ℕ). x == 34) f) (ap (λ (x : ℕ). x == 123) f) (ap (λ (x : ℕ). x == 125) f) ∙ ap suc (ih in_word p n g c)
in_a_word operator p n b bs more f g h ih c = on_operator (b == 123) (b == 125) (b == 91) (b == 93) (b == 44) p n b bs more refl refl f.0 h ih c
in_a_word space p n b bs more f g h ih c = at_plain n b (bs ++ more) f.0 f.2 f.3 ∙ ap suc (ih between p n tt c)
in_a_word other p n b bs more f g h ih c = at_plain n b (bs ++ more) f.0 f.2 f.3 ∙ ap suc (ih in_word p n g c)

quoted : (n b : ℕ) (r : List ℕ) → (b == 34) ≡ false → (b == 92) ≡ false → extent Quoted n (b ∷ r) ≡ suc (extent Quoted n r)
quoted n b r p q = rw (p, q) refl

in_a_string : (c : Class) (p : Place) (n b : ℕ) (bs more : List ℕ) → Facts b c → Ends bs more → Closing n (punctuate p (lex_byte in_string c b bs (λ next. lex next bs)))
    → extent Quoted n (b ∷ (bs ++ more)) ≡ suc (length bs)
in_a_string quote p n b bs more f ih c = ap (λ (x : ℕ). extent Quoted n (x ∷ (bs ++ more))) f ∙ ap suc (ih between p n tt c)
in_a_string backslash p n b bs more f ih c = ap (λ (x : ℕ). extent Quoted n (x ∷ (bs ++ more))) f ∙ ap suc (ih in_escape p n tt c)
in_a_string operator p n b bs more f ih c = quoted n b (bs ++ more) f.0 f.1 ∙ ap suc (ih in_string p n tt c)
in_a_string space p n b bs more f ih c = quoted n b (bs ++ more) f.0 f.1 ∙ ap suc (ih in_string p n tt c)
in_a_string other p n b bs more f ih c = quoted n b (bs ++ more) f.0 f.1 ∙ ap suc (ih in_string p n tt c)

ends : (bs more : List ℕ) (before : ℕ) → EndsInBrace before bs → Ends bs more
unfolding lex
ends [] more before h m p n g c = of_nothing p n c
ends (b ∷ bs) more before h between p n g c = in_between (class b) p n b bs more refl (facts b) h (ends bs more b h) c
ends (b ∷ bs) more before h in_word p n g c = in_a_word (class b) p n b bs more (facts b) g h (ends bs more b h) c
ends (b ∷ bs) more before h in_string p n g c = in_a_string (class b) p n b bs more (facts b) (ends bs more b h) c
ends (b ∷ bs) more before h in_escape p n g c = ap suc (ends bs more b h in_string p n tt c)

-- a text that is an object, and ends with a brace, ends where its braces do
pub object_ends : (text more : List ℕ) (ms : Members) → tokens text ≡ Token.begin_object ∷ members_tokens ms → EndsInBrace 0 text → text_len (text ++ more) ≡ length text
object_ends text more ms is h = ends text more 0 h between fresh 0 tt (subst (Closing 0) (sym is) (object_closes ms))
