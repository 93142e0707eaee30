-- Bytes have one text at most as items of a kind, where each item has one, and each fault one line.
use Rattle.std.proofs.Common.{◌≡◌, ◌⊎◌, inl, inr, ◌+◌, ◌++◌, [], ◌∷◌, ℕ, List, Bool, Option, Some, length, refl, sym, ap, subst, ◌∙◌, append_assoc, arith, length-append}
use Rattle.std.specs.List.{concat}
use Rattle.std.proofs.lemmas.List.{append_cancel_left}
use Rattle.bson_elem.specs.Spelling.{IsBytes}
use Rattle.bson_elem.proofs.Lemmas.{IsBytes-after}
use Rattle.command_run.specs.{is_there, or_nothing}
use Rattle.wire_msg.proofs.Lemmas.{IsBytes-front}
use Rattle.framing.specs.{AreAll}
use Rattle.file_commands.specs.Items.{AreTextsOf, IsLastItem, ItemKind, ItemsText, are_there}
use Rattle.file_commands.proofs.ItemReadings.{IsKind}

-- what else is known of a kind whose texts are told by the bytes
pub record IsTold (k : ItemKind) : Type 0 where
  pub one_item : (a b after behind : List ℕ) → k.is_item a → k.is_item b → a ++ after ≡ b ++ behind → a ≡ b
  pub one_text : (start : ℕ) (item a b : List ℕ) → IsBytes item → k.is_item item → k.is_text start item a → k.is_text start item b → a ≡ b
  pub one_line : (start : ℕ) (bytes a b : List ℕ) → IsBytes bytes → k.is_bad start bytes a → k.is_bad start bytes b → a ≡ b
  pub bad_not_text : (start : ℕ) (item after line text : List ℕ) → IsBytes (item ++ after) → k.is_bad start (item ++ after) line → k.is_item item → k.is_text start item text → ⊥

module _ (k : ItemKind) (is_kind : IsKind k) (is : IsTold k) where
  -- a rest is open or at fault
  rest_is : (start : ℕ) (rest : List ℕ) (last : Option (List ℕ)) → IsLastItem k start rest last → k.is_open rest ⊎ ((line : List ℕ) × k.is_bad start rest line)
  rest_is start [] last e = inl is_kind.nothing_open
  rest_is start (x ∷ xs) last (inl o) = inl o.0
  rest_is start (x ∷ xs) last (inr bad) = inr (bad.0, bad.1)

  -- so no item that has a text is in front of it
  none_begins : (start : ℕ) (rest item after text : List ℕ) (last : Option (List ℕ)) → IsBytes rest → IsLastItem k start rest last → rest ≡ item ++ after → k.is_item item → k.is_text start item text → ⊥
  none_begins start rest item after text last fits e sum p t = so (rest_is start rest last e)
    where
      so : k.is_open rest ⊎ ((line : List ℕ) × k.is_bad start rest line) → ⊥
      so (inl o) = is_kind.open_not_item item after (subst k.is_open sum o) p
      so (inr (line, bad)) = is.bad_not_text start item after line text (subst IsBytes sum fits) (subst (λ (x : List ℕ). k.is_bad start x line) sum bad) p t

  -- bytes are items and a rest in one way at most
  one_split : (start : ℕ) (bytes a b : List ℕ) (ps qs : List (List ℕ)) (rest after : List ℕ) (last last' : Option (List ℕ)) → IsBytes bytes → AreAll k.is_item ps → AreAll k.is_item qs
      → AreTextsOf k start ps a → AreTextsOf k start qs b → bytes ≡ concat ps ++ rest → bytes ≡ concat qs ++ after
      → IsLastItem k (start + length (concat ps)) rest last → IsLastItem k (start + length (concat qs)) after last' → (ps ≡ qs) × (rest ≡ after)
  one_split start bytes a b [] [] rest after last last' fits p q s t x y e f = (refl, sym x ∙ y)
  one_split start bytes a b [] (q ∷ qs) rest after last last' fits p q_is s t x y e f =
      absurd (none_begins start rest q (concat qs ++ after) t.0 last (subst IsBytes x fits) (subst (λ (n : ℕ). IsLastItem k n rest last) (omega arith) e)
      (sym x ∙ y ∙ append_assoc q (concat qs) after) q_is.0 t.2)
  one_split start bytes a b (p ∷ ps) [] rest after last last' fits p_is q s t x y e f =
      absurd (none_begins start after p (concat ps ++ rest) s.0 last' (subst IsBytes y fits) (subst (λ (n : ℕ). IsLastItem k n after last') (omega arith) f)
      (sym y ∙ x ∙ append_assoc p (concat ps) rest) p_is.0 s.2)
  one_split start bytes a b (p ∷ ps) (q ∷ qs) rest after last last' fits p_is q_is s t x y e f =
      let front : bytes ≡ p ++ (concat ps ++ rest) = x ∙ append_assoc p (concat ps) rest in
      let both : p ++ (concat ps ++ rest) ≡ q ++ (concat qs ++ after) = sym front ∙ y ∙ append_assoc q (concat qs) after in
      let first : p ≡ q = is.one_item p q (concat ps ++ rest) (concat qs ++ after) p_is.0 q_is.0 both in
      let size : length q ≡ length p = ap length (sym first) in
      let behind : concat ps ++ rest ≡ concat qs ++ after = append_cancel_left q (concat ps ++ rest) (concat qs ++ after) (ap (λ (z : List ℕ). z ++ (concat ps ++ rest)) (sym first) ∙ both) in
      let texts : AreTextsOf k (start + length p) qs t.1 = subst (λ (n : ℕ). AreTextsOf k (start + n) qs t.1) size t.3 in
      let ends : IsLastItem k ((start + length p) + length (concat ps)) rest last = subst (λ (n : ℕ). IsLastItem k n rest last) (omega (arith, length-append p (concat ps))) e in
      let ends' : IsLastItem k ((start + length p) + length (concat qs)) after last' = subst (λ (n : ℕ). IsLastItem k n after last') (omega (arith, size, length-append q (concat qs))) f in
      let others = one_split (start + length p) (concat ps ++ rest) s.1 t.1 ps qs rest after last last' (IsBytes-after p (concat ps ++ rest) (subst IsBytes front fits)) p_is.1 q_is.1 s.3 texts refl behind ends ends' in
      (ap (λ (z : List ℕ). z ∷ ps) first ∙ ap (λ (z : List (List ℕ)). q ∷ z) others.0, others.1)

  -- items have one text
  one_of_items : (start : ℕ) (ps : List (List ℕ)) (a b : List ℕ) → IsBytes (concat ps) → AreAll k.is_item ps → AreTextsOf k start ps a → AreTextsOf k start ps b → a ≡ b
  one_of_items start [] a b fits are x y = x ∙ sym y
  one_of_items start (p ∷ ps) a b fits are x y =
      let here : IsBytes p = IsBytes-front (p ++ concat ps) p (concat ps) fits refl in
      let first : x.0 ≡ y.0 = is.one_text start p x.0 y.0 here are.0 x.2 y.2 in
      let others : x.1 ≡ y.1 = one_of_items (start + length p) ps x.1 y.1 (IsBytes-after p (concat ps) fits) are.1 x.3 y.3 in
      x.4 ∙ ap (λ (t : List ℕ). t ++ x.1) first ∙ ap (λ (t : List ℕ). y.0 ++ t) others ∙ sym y.4

  -- there is one last line at most
  one_last : (start : ℕ) (rest : List ℕ) (last last' : Option (List ℕ)) → IsBytes rest → IsLastItem k start rest last → IsLastItem k start rest last' → last ≡ last'
  one_last start [] last last' fits a b = a ∙ sym b
  one_last start (x ∷ xs) last last' fits (inl a) (inl b) = a.1 ∙ sym b.1
  one_last start (x ∷ xs) last last' fits (inl a) (inr b) = absurd (is_kind.open_not_bad start (x ∷ xs) b.0 a.0 b.1)
  one_last start (x ∷ xs) last last' fits (inr a) (inl b) = absurd (is_kind.open_not_bad start (x ∷ xs) a.0 b.0 a.1)
  one_last start (x ∷ xs) last last' fits (inr a) (inr b) = a.2 ∙ ap (λ (line : List ℕ). Some line) (is.one_line start (x ∷ xs) a.0 b.0 fits a.1 b.1) ∙ sym b.2

  pub one_items_text : (start : ℕ) (closing : Bool → List ℕ) (bytes text text' : List ℕ) (fault fault' : Bool) → IsBytes bytes
      → ItemsText k start closing bytes text fault → ItemsText k start closing bytes text' fault' → (text ≡ text') × (fault ≡ fault')
  one_items_text start closing bytes text text' fault fault' fits w w' =
      let a = w.2 in
      let b = w'.2 in
      let h = a.have in
      let g = b.have in
      let same = one_split start bytes w.0 w'.0 h.items g.items a.rest b.rest w.1 w'.1 fits h.items_are g.items_are h.texts_are g.texts_are h.joined g.joined a.last_is b.last_is in
      let items : IsBytes (concat h.items) = IsBytes-front bytes (concat h.items) a.rest fits h.joined in
      let rest : IsBytes a.rest = IsBytes-after (concat h.items) a.rest (subst IsBytes h.joined fits) in
      let texts : w.0 ≡ w'.0 = one_of_items start h.items w.0 w'.0 items h.items_are h.texts_are (subst (λ (x : List (List ℕ)). AreTextsOf k start x w'.0) (sym same.0) g.texts_are) in
      let again : IsLastItem k (start + length (concat h.items)) a.rest w'.1 =
      subst (λ (x : List (List ℕ)). IsLastItem k (start + length (concat x)) a.rest w'.1) (sym same.0)
      (subst (λ (r : List ℕ). IsLastItem k (start + length (concat g.items)) r w'.1) (sym same.1) b.last_is) in
      let last : w.1 ≡ w'.1 = one_last (start + length (concat h.items)) a.rest w.1 w'.1 rest a.last_is again in (
        w.3 ∙ ap (λ (x : List ℕ). x ++ (closing (are_there h.items) ++ or_nothing w.1)) texts ∙ ap (λ (x : List (List ℕ)). w'.0 ++ (closing (are_there x) ++ or_nothing w.1)) same.0
            ∙ ap (λ (x : Option (List ℕ)). w'.0 ++ (closing (are_there g.items) ++ or_nothing x)) last ∙ sym w'.3,
        w.4 ∙ ap is_there last ∙ sym w'.4,
      )
