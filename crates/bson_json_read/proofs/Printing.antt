-- The text of a JSON value, part by part.
use Rattle.std.proofs.Common.{◌≡◌, ℕ, Bool, true, false, List, [], ◌∷◌, ◌++◌, refl, sym, ap, ◌∙◌, append_assoc, append-nil}
use Rattle.json.specs.Json.{Json, null, boolean, number, string, array, object, Items, no_items, item, Members, no_members, member}
use Rattle.json.specs.Token.{Token}
use Rattle.json.specs.Print.{print, print_from, quoted}
use Rattle.json.specs.Tree.{json_tokens, items_tokens, members_tokens}

abbrev pub comma : Bool → List ℕ
comma true = 44 ∷ []
comma false = []

abbrev mutual
  pub json_text : Json → List ℕ
  json_text null = 110 ∷ 117 ∷ 108 ∷ 108 ∷ []
  json_text (boolean true) = 116 ∷ 114 ∷ 117 ∷ 101 ∷ []
  json_text (boolean false) = 102 ∷ 97 ∷ 108 ∷ 115 ∷ 101 ∷ []
  json_text (number s) = s
  json_text (string s) = quoted s
  json_text (array js) = 91 ∷ items_text false js
  json_text (object ms) = 123 ∷ members_text false ms

  -- with the closing bracket; a comma goes before the first if one is asked for
  pub items_text : Bool → Items → List ℕ
  items_text after no_items = 93 ∷ []
  items_text after (item j js) = comma after ++ (json_text j ++ items_text true js)

  pub members_text : Bool → Members → List ℕ
  members_text after no_members = 125 ∷ []
  members_text after (member k j ms) = comma after ++ ((quoted k ++ 58 ∷ []) ++ (json_text j ++ members_text true ms))

mutual
  unfolding print_from

  -- the tokens of a value are printed as its text
  pub value_printed : (c : Bool) (j : Json) (ts : List Token) → print_from c (json_tokens j ++ ts) ≡ comma c ++ (json_text j ++ print_from true ts)
  value_printed true null ts = refl
  value_printed false null ts = refl
  value_printed true (boolean true) ts = refl
  value_printed true (boolean false) ts = refl
  value_printed false (boolean true) ts = refl
  value_printed false (boolean false) ts = refl
  value_printed true (number s) ts = refl
  value_printed false (number s) ts = refl
  value_printed true (string s) ts = refl
  value_printed false (string s) ts = refl
  value_printed true (array js) ts = ap (λ l. 44 ∷ 91 ∷ l) (items_printed false js ts)
  value_printed false (array js) ts = ap (λ l. 91 ∷ l) (items_printed false js ts)
  value_printed true (object ms) ts = ap (λ l. 44 ∷ 123 ∷ l) (members_printed false ms ts)
  value_printed false (object ms) ts = ap (λ l. 123 ∷ l) (members_printed false ms ts)

  items_printed : (c : Bool) (js : Items) (ts : List Token) → print_from c (items_tokens js ++ ts) ≡ items_text c js ++ print_from true ts
  items_printed true no_items ts = refl
  items_printed false no_items ts = refl
  items_printed c (item j js) ts =
      ap (print_from c) (append_assoc (json_tokens j) (items_tokens js) ts) ∙ value_printed c j (items_tokens js ++ ts)
      ∙ ap (λ l. comma c ++ (json_text j ++ l)) (items_printed true js ts)
      ∙ sym (append_assoc (comma c) (json_text j ++ items_text true js) (print_from true ts) ∙ ap (λ l. comma c ++ l) (append_assoc (json_text j) (items_text true js) (print_from true ts)))

  members_printed : (c : Bool) (ms : Members) (ts : List Token) → print_from c (members_tokens ms ++ ts) ≡ members_text c ms ++ print_from true ts
  members_printed true no_members ts = refl
  members_printed false no_members ts = refl
  members_printed true (member k j ms) ts =
      let front = quoted k ++ 58 ∷ [] in
      ap (λ l. print_from true (Token.key k ∷ l)) (append_assoc (json_tokens j) (members_tokens ms) ts)
      ∙ ap (λ l. 44 ∷ (front ++ l)) (value_printed false j (members_tokens ms ++ ts) ∙ ap (λ l. json_text j ++ l) (members_printed true ms ts))
      ∙ ap (λ l. 44 ∷ l) (sym (append_assoc front (json_text j ++ members_text true ms) (print_from true ts) ∙ ap (λ l. front ++ l) (append_assoc (json_text j) (members_text true ms) (print_from true ts))))
  members_printed false (member k j ms) ts =
      let front = quoted k ++ 58 ∷ [] in
      ap (λ l. print_from false (Token.key k ∷ l)) (append_assoc (json_tokens j) (members_tokens ms) ts)
      ∙ ap (λ l. front ++ l) (value_printed false j (members_tokens ms ++ ts) ∙ ap (λ l. json_text j ++ l) (members_printed true ms ts))
      ∙ sym (append_assoc front (json_text j ++ members_text true ms) (print_from true ts) ∙ ap (λ l. front ++ l) (append_assoc (json_text j) (members_text true ms) (print_from true ts)))

-- a value alone is printed as its text
pub json_printed : (j : Json) → print (json_tokens j) ≡ json_text j
unfolding print_from
json_printed j = ap (print_from false) (sym (append-nil (json_tokens j))) ∙ value_printed false j [] ∙ append-nil (json_text j)
