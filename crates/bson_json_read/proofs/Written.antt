-- What is written straight from tokens: one value, by its first token, and a text.
use Rattle.std.proofs.Common.{◌≡◌, ◌∙◌, ◌^◌, ℕ, List, [], ◌∷◌, ◌++◌, Option, Some, None, Ok, codes, refl, sym, ap, arith, append_assoc, ◌<◌}
use Rattle.std.specs.Prelude.{OnSome, option_and_then, option_map}
use Rattle.json.specs.Json.{Json, string, array, object, Members, no_members, member, if_last, value}
use Rattle.json.specs.Lex.{tokens}
use Rattle.json.specs.Token.{Token}
use Rattle.json.specs.Tree.{json_tokens, depth, members_tokens}
use Rattle.json.proofs.Printed.Trees.{value-json_tokens}
use Rattle.bson_elem.specs.Kinds.{byte_of}
use Rattle.bson_elem.specs.Spelling.{cstring, elements}
use Rattle.bson_raw.specs.Pairs.{TreeValue}
use Rattle.bson_doc.specs.Array.{array_tree}
use Rattle.bson_doc.specs.Document.{tree_of}
use Rattle.bson_doc.specs.Values.{element_bytes}
use Rattle.bson_json_read.specs.declared.form.Form.{Form}
use Rattle.bson_json_read.specs.Bytes.{base64_of, hex_of, subtype_of}
use Rattle.bson_json_read.specs.DecimalText.{decimal128_of}
use Rattle.bson_json_read.specs.Direct.{IsDocumentPut, IsPut, PutsLeaf, leaf_json}
use Rattle.bson_json_read.specs.Forms.{first_form, form_name, form_named}
use Rattle.bson_json_read.specs.Iso.{iso_of}
use Rattle.bson_json_read.specs.Numbers.{double_of_text, integer_of}
use Rattle.bson_json_read.specs.Reads.{Read, and_map, or_refused}
use Rattle.bson_json_read.specs.Table.{binary_texts, binary_with, data_value, date_value, form_value, leaf_text, member_value, string_value}
use Rattle.bson_json_read.specs.Texts.{document_as, document_in, json_in}
use Rattle.bson_json_read.specs.Values.{Pair, array_of, document_of, document_read, form_read, object_as, value_read}
use Rattle.bson_json_read.proofs.FormNames.{named}
use Rattle.bson_json_read.proofs.FormRows.{leaf_member}
use Rattle.bson_json_read.proofs.Walking.{value_at, document_at}
use Rattle.bson_json_read.specs.Direct.{ReadsForm, ReadsItems, ReadsMembers, ReadsValue}
use Rattle.bson_elem.specs.Spelling as spelling
use Rattle.bson_elem.specs.declared.kinds.Kind.TheVariants as kinds
use Rattle.bson_json_read.specs.declared.fault.Cause.TheVariants as causes
use Rattle.bson_json_read.specs.declared.form.Form.TheVariants as forms

-- ---- objects of a form

sole_as : (documents : Members → Read (List Pair)) (name : List ℕ) (j : Json) (f : Form) → object_as documents (member name j no_members) (Some f) ≡ form_read f (member name j no_members)
sole_as documents name j forms.ObjectId = refl
sole_as documents name j forms.Symbol = refl
sole_as documents name j forms.Int32 = refl
sole_as documents name j forms.Int64 = refl
sole_as documents name j forms.Double = refl
sole_as documents name j forms.Decimal128 = refl
sole_as documents name j forms.Binary = refl
sole_as documents name j forms.Uuid = refl
sole_as documents name j forms.Code = refl
sole_as documents name j forms.Timestamp = refl
sole_as documents name j forms.Regex = refl
sole_as documents name j forms.DbPointer = refl
sole_as documents name j forms.DateTime = refl
sole_as documents name j forms.MinKey = refl
sole_as documents name j forms.MaxKey = refl
sole_as documents name j forms.Undefined = refl

form_put : (room : ℕ) (name key : List ℕ) (f : Form) (j : Json) (v : TreeValue) (old new : List ℕ) → form_named key ≡ Some f → form_value f (member (form_name f) j no_members) ≡ Some v
    → new ≡ old ++ element_bytes name v → IsPut (value_read room (object (member key j no_members))) name old new
form_put room name key f j v old new h is bytes =
    let ms = member key j no_members in record {
      value = v;
      is_read =
          value_at room (object ms) ∙ ap (λ (o : Option Form). object_as (document_read room) ms (first_form o None)) h ∙ sole_as (document_read room) key j f
          ∙ ap (or_refused (causes.WrongForm f)) (ap (λ (k : List ℕ). form_value f (member k j no_members)) (named key f h) ∙ is);
      bytes = bytes;
    }

-- the value of the one member
form_member : (f : Form) (j : Json) → form_value f (member (form_name f) j no_members) ≡ member_value f j
form_member forms.ObjectId j = refl
form_member forms.Symbol j = refl
form_member forms.Int32 j = refl
form_member forms.Int64 j = refl
form_member forms.Double j = refl
form_member forms.Decimal128 j = refl
form_member forms.Binary j = refl
form_member forms.Uuid j = refl
form_member forms.Code j = refl
form_member forms.Timestamp j = refl
form_member forms.Regex j = refl
form_member forms.DbPointer j = refl
form_member forms.DateTime j = refl
form_member forms.MinKey j = refl
form_member forms.MaxKey j = refl
form_member forms.Undefined j = refl

pub text_form : (form : Form) (name : List ℕ) (tokens left : List Token) (old new t : List ℕ) (v : TreeValue) → tokens ≡ Token.string t ∷ Token.end_object ∷ left
    → leaf_text form t ≡ Some v → new ≡ old ++ element_bytes name v → ReadsForm form name tokens left old new
text_form form name tokens left old new t v is value bytes = record {
  json = string t;
  begins = is;
  deep = omega arith;
  put = λ key room h. form_put room name key form (string t) v old new h (form_member form (string t) ∙ leaf_member form t v value) bytes;
}

pub long_date : (name : List ℕ) (tokens left : List Token) (old new t : List ℕ) (v : TreeValue)
    → tokens ≡ Token.begin_object ∷ Token.key (codes "$numberLong") ∷ Token.string t ∷ Token.end_object ∷ Token.end_object ∷ left
    → option_map date_value (integer_of (2 ^ 63) t) ≡ Some v → new ≡ old ++ element_bytes name v → ReadsForm forms.DateTime name tokens left old new
long_date name tokens left old new t v is value bytes = record {
  json = object (member (codes "$numberLong") (string t) no_members);
  begins = is;
  deep = omega arith;
  put = λ key room h. form_put room name key forms.DateTime _ v old new h value bytes;
}

pub binary_form : (name : List ℕ) (tokens left : List Token) (old new s t : List ℕ) (v : TreeValue)
    → tokens ≡ Token.begin_object ∷ Token.key (codes "base64") ∷ Token.string s ∷ Token.key (codes "subType") ∷ Token.string t ∷ Token.end_object ∷ Token.end_object ∷ left
    → binary_texts (s, t) ≡ Some v → new ≡ old ++ element_bytes name v → ReadsForm forms.Binary name tokens left old new
binary_form name tokens left old new s t v is value bytes = record {
  json = object (member (codes "base64") (string s) (member (codes "subType") (string t) no_members));
  begins = is;
  deep = omega arith;
  put = λ key room h. form_put room name key forms.Binary _ v old new h value bytes;
}

pub texts_value : (s t bytes : List ℕ) (subtype : ℕ) → subtype_of t ≡ Some subtype → base64_of s ≡ Some bytes → binary_texts (s, t) ≡ Some (data_value subtype bytes)
texts_value s t bytes subtype a b = ap (option_and_then (binary_with s)) a ∙ ap (option_map (data_value subtype)) b

-- ---- values

some_is : {x y : Json} → Some x ≡ Some y → x ≡ y
some_is e = cc

-- the one token of a value that is no object and no array
leaf_tokens : (t : Token) (j : Json) → leaf_json t ≡ Some j → (json_tokens j ≡ t ∷ []) × (depth j ≡ 0)
leaf_tokens (Token.string s) j h = let e = some_is h in (sym (ap json_tokens e), sym (ap depth e))
leaf_tokens (Token.number s) j h = let e = some_is h in (sym (ap json_tokens e), sym (ap depth e))
leaf_tokens (Token.boolean b) j h = let e = some_is h in (sym (ap json_tokens e), sym (ap depth e))
leaf_tokens Token.null j h = let e = some_is h in (sym (ap json_tokens e), sym (ap depth e))
leaf_tokens Token.begin_object j h = absurd cc
leaf_tokens Token.end_object j h = absurd cc
leaf_tokens Token.begin_array j h = absurd cc
leaf_tokens Token.end_array j h = absurd cc
leaf_tokens (Token.key s) j h = absurd cc
leaf_tokens Token.bad j h = absurd cc

-- what follows of a fact that holds of some result
pub on_some : {A P Q : Type 0} (o : Option A) → (P → Q) → OnSome o P → OnSome o Q
on_some None f h = h
on_some (Some x) f h = f h

pub leaf_put : (t : Token) (j : Json) (v : TreeValue) (name old new : List ℕ) → leaf_json t ≡ Some j → ((room : ℕ) → value_read room j ≡ Ok v) → new ≡ old ++ element_bytes name v
    → PutsLeaf t name old new
leaf_put t j v name old new is read bytes = (j, is, λ room. record { value = v; is_read = read room; bytes = bytes })

pub of_leaf : (room : ℕ) (t : Token) (name : List ℕ) (tokens left : List Token) (old new : List ℕ) → tokens ≡ t ∷ left → PutsLeaf t name old new → ReadsValue room name tokens left old new
of_leaf room t name tokens left old new is (j, leaf, put) =
    let x = leaf_tokens t j leaf in
    record {
      json = j;
      begins = is ∙ ap (λ (l : List Token). l ++ left) (sym x.0);
      deep = omega (arith, x.1);
      put = put room;
    }

pub of_string : (room : ℕ) (s name : List ℕ) (tokens left : List Token) (old new : List ℕ) → tokens ≡ Token.string s ∷ left → new ≡ old ++ element_bytes name (string_value s) → ReadsValue room name tokens left old new
of_string room s name tokens left old new is bytes =
    of_leaf room (Token.string s) name tokens left old new is (leaf_put (Token.string s) (string s) (string_value s) name old new refl (λ r. value_at r (string s)) bytes)

pub by_form : (room : ℕ) (form : Form) (key name : List ℕ) (tokens left : List Token) (old new : List ℕ) → form_named key ≡ Some form → ReadsForm form name tokens left old new
    → ReadsValue room name (Token.begin_object ∷ Token.key key ∷ tokens) left old new
by_form room form key name tokens left old new h f = record {
  json = object (member key f.json no_members);
  begins = ap (λ (l : List Token). Token.begin_object ∷ Token.key key ∷ l) (f.begins ∙ sym (append_assoc (json_tokens f.json) (Token.end_object ∷ []) left));
  deep = omega (arith, f.deep);
  put = f.put key room h;
}

-- the bytes of a document behind the head of its element
behind_head : (byte : ℕ) (name old mid new bytes : List ℕ) → mid ≡ old ++ (byte ∷ cstring name) → new ≡ mid ++ bytes → new ≡ old ++ (byte ∷ (cstring name ++ bytes))
behind_head byte name old mid new bytes head is = is ∙ ap (λ (l : List ℕ). l ++ bytes) head ∙ append_assoc old (byte ∷ cstring name) bytes

pub as_document : (room : ℕ) (name : List ℕ) (tokens left : List Token) (old mid new : List ℕ) → mid ≡ old ++ (byte_of kinds.Document ∷ cstring name) → ReadsMembers room tokens left mid new
    → ReadsValue room name (Token.begin_object ∷ tokens) left old new
as_document room name tokens left old mid new head r = record {
  json = object r.members;
  begins = ap (λ (l : List Token). Token.begin_object ∷ l) r.begins;
  deep = omega (arith, r.deep);
  put = record {
    value = document_of r.put.pairs;
    is_read = value_at room (object r.members) ∙ ap (object_as (document_read room) r.members) r.formless ∙ ap (and_map document_of) r.put.is_read;
    bytes = behind_head (byte_of kinds.Document) name old mid new (spelling.document (elements (tree_of r.put.pairs))) head r.put.bytes;
  };
}

pub empty_members : (room : ℕ) (tokens left : List Token) (old new : List ℕ) → tokens ≡ Token.end_object ∷ left → 0 < room → new ≡ old ++ spelling.document [] → ReadsMembers room tokens left old new
empty_members room tokens left old new is some bytes = record {
  members = no_members;
  begins = is;
  deep = omega arith;
  formless = refl;
  put = record { pairs = []; is_read = document_at room no_members some; bytes = bytes };
}

pub as_empty : (room : ℕ) (name : List ℕ) (tokens left : List Token) (old mid new : List ℕ) → tokens ≡ Token.end_object ∷ left → mid ≡ old ++ (byte_of kinds.Document ∷ cstring name) → 0 < room
    → new ≡ mid ++ spelling.document [] → ReadsValue room name (Token.begin_object ∷ tokens) left old new
as_empty room name tokens left old mid new is head some bytes = as_document room name tokens left old mid new head (empty_members room tokens left mid new is some bytes)

pub as_array : (room : ℕ) (name : List ℕ) (tokens left : List Token) (old mid new : List ℕ) → mid ≡ old ++ (byte_of kinds.Array ∷ cstring name) → ReadsItems room tokens left mid new
    → ReadsValue room name (Token.begin_array ∷ tokens) left old new
as_array room name tokens left old mid new head r = record {
  json = array r.items;
  begins = ap (λ (l : List Token). Token.begin_array ∷ l) r.begins;
  deep = omega (arith, r.deep);
  put = record {
    value = array_of r.put.values;
    is_read = value_at room (array r.items) ∙ ap (and_map array_of) r.put.is_read;
    bytes = behind_head (byte_of kinds.Array) name old mid new (spelling.document (elements (array_tree 0 r.put.values))) head r.put.bytes;
  };
}

-- ---- a text

pub of_text : (text : List ℕ) (inside left : List Token) (old new : List ℕ) → tokens text ≡ Token.begin_object ∷ inside → ReadsMembers 200 inside left old new → left ≡ [] → IsDocumentPut (document_in text) old new
of_text text inside left old new begins r end =
    let j = object r.members in
    let is : tokens text ≡ json_tokens j ++ [] = begins ∙ ap (λ (l : List Token). Token.begin_object ∷ l) (r.begins ∙ ap (λ (l : List Token). members_tokens r.members ++ l) end) in
    let read : json_in text ≡ Some j = ap (option_and_then (λ p. if_last p.0 p.1)) (ap (value 402) is ∙ value-json_tokens j 402 [] (omega (arith, r.deep))) in
    record {
      pairs = r.put.pairs;
      is_read = ap document_as read ∙ r.put.is_read;
      bytes = r.put.bytes;
    }
