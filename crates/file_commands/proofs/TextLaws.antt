-- Bytes have one text at most as documents.
use Rattle.std.proofs.Common.{◌≡◌, inl, inr, ◌++◌, [], ℕ, List, Bool, Option, None, Some, refl, sym, ap, ◌∙◌, append-nil}
use Rattle.bson_elem.specs.declared.fault.BsonFault.{BsonFault}
use Rattle.bson_elem.specs.Trees.{Tree}
use Rattle.bson_elem.specs.Spelling.{IsBytes, Spells}
use Rattle.bson_elem.proofs.Lemmas.{no_front, one_front, same_front}
use Rattle.bson_stream.specs.Standing.{in_stream}
use Rattle.file_commands.specs.declared.input_fault.InputFault.TheVariants.{Bson}
use Rattle.file_commands.specs.Documents.{IsWholeText, documents_of, told_at}
use Rattle.file_commands.specs.InputFault.{input_fault_line}
use Rattle.file_commands.specs.Items.{ItemKind}
use Rattle.file_commands.proofs.DocumentReadings.{documents_kind}
use Rattle.file_commands.proofs.ItemLaws.{IsTold, one_items_text}
use Rattle.std.proofs.lemmas.List.{append_cancel_right}

-- what a function of the document and its offset tells
module _ (text_of : ℕ → Tree → Option (List ℕ)) where
  -- two documents in front of the same bytes have the same bytes
  one_item : (a b after behind : List ℕ) (x : (t : Tree) × Spells t a) (y : (t : Tree) × Spells t b) → a ++ after ≡ b ++ behind → a ≡ b
  one_item a b after behind x y same =
      let fronts = same_front (a ++ after) x.0 y.0 a b after behind x.1 y.1 refl same in
      append_cancel_right a b behind (ap (λ (r : List ℕ). a ++ r) (sym fronts.1) ∙ same)

  one_text : (start : ℕ) (bytes a b : List ℕ) → ItemKind.is_text (documents_of (told_at text_of)) start bytes a → ItemKind.is_text (documents_of (told_at text_of)) start bytes b → a ≡ b
  one_text start bytes a b (t, s, told) (u, s', told') =
      let same = same_front bytes t u bytes bytes [] [] s s' (sym (append-nil bytes)) (sym (append-nil bytes)) in
      let both : Some a ≡ Some b = sym told ∙ ap (text_of start) same.0 ∙ told' in
      cc

  one_line : (start : ℕ) (bytes a b : List ℕ) → IsBytes bytes → ItemKind.is_bad (documents_of (told_at text_of)) start bytes a → ItemKind.is_bad (documents_of (told_at text_of)) start bytes b → a ≡ b
  one_line start bytes a b fits (inl x) (inl y) = x.6 ∙ sym y.6
  one_line start bytes a b fits (inl (t, front, after, s, is, none, told)) (inr (f, bad, line)) = absurd (no_front bytes t front after bad.own fits s is bad.first)
  one_line start bytes a b fits (inr (f, bad, line)) (inl (t, front, after, s, is, none, told)) = absurd (no_front bytes t front after bad.own fits s is bad.first)
  one_line start bytes a b fits (inr (f, x, line)) (inr (g, y, line')) =
      let same : f ≡ g = x.told ∙ ap (in_stream start) (one_front bytes x.own y.own fits x.first y.first) ∙ sym y.told in
      line ∙ ap (λ (h : BsonFault). input_fault_line (Bson h)) same ∙ sym line'

  bad_not_text : (start : ℕ) (item after line text : List ℕ) → IsBytes (item ++ after) → ItemKind.is_bad (documents_of (told_at text_of)) start (item ++ after) line → ItemKind.is_text (documents_of (told_at text_of)) start item text → ⊥
  bad_not_text start item after line text fits (inl (t, front, behind, s, is, none, told)) (u, s', shown) =
      let same = same_front (item ++ after) u t item front after behind s' s refl is in
      let both : Some text ≡ None = sym shown ∙ ap (text_of start) same.0 ∙ none in
      absurd cc
  bad_not_text start item after line text fits (inr (f, bad, told)) (u, s', shown) = no_front (item ++ after) u item after bad.own fits s' refl bad.first

  documents_told : IsTold (documents_of (told_at text_of))
  documents_told = record {
    one_item = one_item;
    one_text = λ start item a b fits is x y. one_text start item a b x y;
    one_line = one_line;
    bad_not_text = λ start item after line text fits bad is t. bad_not_text start item after line text fits bad t;
  }

pub one_told : (text_of : ℕ → Tree → Option (List ℕ)) (closing : Bool → List ℕ) (bytes text text' : List ℕ) (fault fault' : Bool) → IsBytes bytes
    → IsWholeText (told_at text_of) closing bytes text fault → IsWholeText (told_at text_of) closing bytes text' fault' → (text ≡ text') × (fault ≡ fault')
one_told text_of = one_items_text (documents_of (told_at text_of)) (documents_kind (told_at text_of)) (documents_told text_of) 0
