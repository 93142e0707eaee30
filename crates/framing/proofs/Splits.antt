-- Items, one after another, and a rest.
use Rattle.std.proofs.Common.{◌≡◌, ℕ, ◌<◌, List, [], ◌∷◌, ◌++◌, length, refl, sym, ap, subst, ◌∙◌, append_assoc, append-nil, arith}
use Rattle.std.specs.Borrow.{Bor}
use Rattle.std.specs.List.{concat, flat_map}
use Rattle.std.proofs.lemmas.List.{append_cancel_left}
use Rattle.std.proofs.lemmas.List.Folds.{concat-append}
use Rattle.framing.specs.declared.first_item.FirstItem.{FirstItem}
use Rattle.framing.specs.declared.first_item.FirstItem.TheVariants.{Whole, Open, Bad}
use Rattle.framing.specs.FirstItems.{IsFirstItem}
use Rattle.framing.specs.Gathering.{Gathered}
use Rattle.framing.specs.Items.{AreItems, BeginsNone, IsEnd, IsItem, IsWholeItem, ItemSplit, at_open, at_refused}
use Rattle.framing.specs.Rules.{Rule}
use Rattle.framing.specs.Splits.{AreAll, BackToBack, BeginsOnce, BeginsWith, BeginsWithNone, IsItself, IsPrefixFree, IsSplit, SpellEach, SplitsInto}
use Rattle.framing.proofs.ItemLaws.{one_item, refused_not_whole, wants_not_whole, whole_size}

-- ---- items back to back, however they are spelled

pub all-append : {A : Type 0} (Is : A → Type 0) (xs ys : List A) → AreAll Is xs → AreAll Is ys → AreAll Is (xs ++ ys)
all-append Is [] ys a b = b
all-append Is (x ∷ xs) ys a b = (a.0, all-append Is xs ys a.1 b)

pub back_to_back-append : {A : Type 0} (Spells : A → List ℕ → Type 0) (xs ys : List A) (j k : List ℕ) → BackToBack Spells xs j → BackToBack Spells ys k → BackToBack Spells (xs ++ ys) (j ++ k)
back_to_back-append Spells [] ys j k a b = subst (BackToBack Spells ys) (sym (ap (λ (x : List ℕ). x ++ k) a)) b
back_to_back-append Spells (x ∷ xs) ys j k a b =
    (a.0, a.1 ++ k, a.2, back_to_back-append Spells xs ys a.1 k a.3 b, ap (λ (z : List ℕ). z ++ k) a.4 ∙ append_assoc a.0 a.1 k)

pub back_to_back_alone : {A : Type 0} (Spells : A → List ℕ → Type 0) (x : A) (front : List ℕ) → Spells x front → BackToBack Spells (x ∷ []) front
back_to_back_alone Spells x front s = (front, [], s, refl, sym (append-nil front))

-- one way of spelling for another
back_to_back-along : {A : Type 0} (Spells Are : A → List ℕ → Type 0) (xs : List A) (j : List ℕ) → ((x : A) (b : List ℕ) → Spells x b → Are x b) → BackToBack Spells xs j → BackToBack Are xs j
back_to_back-along Spells Are [] j to a = a
back_to_back-along Spells Are (x ∷ xs) j to a = (a.0, a.1, to x a.0 a.2, back_to_back-along Spells Are xs a.1 to a.3, a.4)

pub splits_along : {A : Type 0} (Spells Are : A → List ℕ → Type 0) (Ends Stops : List ℕ → Type 0) (bytes : List ℕ) (items : List A) (rest : List ℕ) → ((x : A) (b : List ℕ) → Spells x b → Are x b) → (Ends rest → Stops rest) → SplitsInto Spells Ends bytes items rest → SplitsInto Are Stops bytes items rest
splits_along Spells Are Ends Stops bytes items rest to so s = record {
  joined = s.joined;
  spelled = back_to_back-along Spells Are items s.joined to s.spelled;
  parts = s.parts;
  ends = so s.ends;
}

-- byte lists that spell items, joined
pub spell_each-push : {A : Type 0} (Spells : A → List ℕ → Type 0) (xs : List A) (fronts : List (List ℕ)) (x : A) (b : List ℕ) → SpellEach Spells xs fronts → Spells x b → SpellEach Spells (xs ++ x ∷ []) (fronts ++ b ∷ [])
spell_each-push Spells [] [] x b each s = (s, tt)
spell_each-push Spells [] (y ∷ fronts) x b each s = absurd each
spell_each-push Spells (y ∷ xs) [] x b each s = absurd each
spell_each-push Spells (y ∷ xs) (z ∷ fronts) x b each s = (each.0, spell_each-push Spells xs fronts x b each.1 s)

pub each_joined : {A : Type 0} (Spells : A → List ℕ → Type 0) (xs : List A) (fronts : List (List ℕ)) → SpellEach Spells xs fronts → BackToBack Spells xs (concat fronts)
each_joined Spells [] [] each = refl
each_joined Spells [] (y ∷ fronts) each = absurd each
each_joined Spells (y ∷ xs) [] each = absurd each
each_joined Spells (y ∷ xs) (z ∷ fronts) each = (z, concat fronts, each.0, each_joined Spells xs fronts each.1, refl)

-- no item begins the bytes
abbrev NoneBegins : {A : Type 0} → (A → List ℕ → Type 0) → List ℕ → Type 0
NoneBegins {A = A} Spells bytes = (x : A) (front rest : List ℕ) → Spells x front → bytes ≡ front ++ rest → ⊥

-- where an item begins bytes in one way at most, they are split in one way at most
pub split_once : {A : Type 0} (Spells : A → List ℕ → Type 0) → BeginsOnce Spells → (xs ys : List A) (j k rest after : List ℕ) → BackToBack Spells xs j → BackToBack Spells ys k → j ++ rest ≡ k ++ after → NoneBegins Spells rest → NoneBegins Spells after → (xs ≡ ys) × (rest ≡ after)
split_once Spells once [] [] j k rest after a b is none none' = (refl, ap (λ (z : List ℕ). z ++ rest) (sym a) ∙ is ∙ ap (λ (z : List ℕ). z ++ after) b)
split_once Spells once [] (y ∷ ys) j k rest after a b is none none' =
    absurd (none y b.0 (b.1 ++ after) b.2 (ap (λ (z : List ℕ). z ++ rest) (sym a) ∙ is ∙ ap (λ (z : List ℕ). z ++ after) b.4 ∙ append_assoc b.0 b.1 after))
split_once Spells once (x ∷ xs) [] j k rest after a b is none none' =
    absurd (none' x a.0 (a.1 ++ rest) a.2 (ap (λ (z : List ℕ). z ++ after) (sym b) ∙ sym is ∙ ap (λ (z : List ℕ). z ++ rest) a.4 ∙ append_assoc a.0 a.1 rest))
split_once Spells once (x ∷ xs) (y ∷ ys) j k rest after a b is none none' =
    let parts : a.0 ++ (a.1 ++ rest) ≡ b.0 ++ (b.1 ++ after) = sym (ap (λ (z : List ℕ). z ++ rest) a.4 ∙ append_assoc a.0 a.1 rest) ∙ is ∙ ap (λ (z : List ℕ). z ++ after) b.4 ∙ append_assoc b.0 b.1 after in
    let same = once x y a.0 b.0 (a.1 ++ rest) (b.1 ++ after) a.2 b.2 parts in
    let ih = split_once Spells once xs ys a.1 b.1 rest after a.3 b.3 same.1 none none' in
    (ap (λ z. z ∷ xs) same.0 ∙ ap (λ z. y ∷ z) ih.0, ih.1)

-- ---- items that have one spelling each

module _ {A : Type 0} (Spells : A → List ℕ → Type 0) (spelling : A → List ℕ) (only : (x : A) (b : List ℕ) → Spells x b → b ≡ spelling x) where
  pub joined_is : (xs : List A) (j : List ℕ) → BackToBack Spells xs j → j ≡ flat_map spelling xs
  joined_is [] j a = a
  joined_is (x ∷ xs) j a = a.4 ∙ ap (λ (z : List ℕ). z ++ a.1) (only x a.0 a.2) ∙ ap (λ (z : List ℕ). spelling x ++ z) (joined_is xs a.1 a.3)

  pub each_is_spelled : (xs : List A) (j : List ℕ) → BackToBack Spells xs j → AreAll (λ (x : A). Spells x (spelling x)) xs
  each_is_spelled [] j a = tt
  each_is_spelled (x ∷ xs) j a = (subst (Spells x) (only x a.0 a.2) a.2, each_is_spelled xs a.1 a.3)

-- their spellings, back to back
pub spellings_joined : {A : Type 0} (Spells : A → List ℕ → Type 0) (spelling : A → List ℕ) (xs : List A) → AreAll (λ (x : A). Spells x (spelling x)) xs → BackToBack Spells xs (flat_map spelling xs)
spellings_joined Spells spelling [] all = refl
spellings_joined Spells spelling (x ∷ xs) all = (spelling x, flat_map spelling xs, all.0, spellings_joined Spells spelling xs all.1, refl)

-- ---- bytes of a kind, whichever it is

pub all_joined : (Is : List ℕ → Type 0) (xs : List (List ℕ)) → AreAll Is xs → BackToBack (IsItself Is) xs (concat xs)
all_joined Is [] all = refl
all_joined Is (x ∷ xs) all = (x, concat xs, (all.0, refl), all_joined Is xs all.1, refl)

own_bytes : (Is : List ℕ → Type 0) (xs : List (List ℕ)) (j : List ℕ) → BackToBack (IsItself Is) xs j → j ≡ concat xs
own_bytes Is [] j a = a
own_bytes Is (x ∷ xs) j a = a.4 ∙ ap (λ (z : List ℕ). z ++ a.1) a.2.1 ∙ ap (λ (z : List ℕ). x ++ z) (own_bytes Is xs a.1 a.3)

own_kind : (Is : List ℕ → Type 0) (xs : List (List ℕ)) (j : List ℕ) → BackToBack (IsItself Is) xs j → AreAll Is xs
own_kind Is [] j a = tt
own_kind Is (x ∷ xs) j a = (a.2.0, own_kind Is xs a.1 a.3)

-- a split into such bytes, by these bytes joined
pub split_of_all : (Is : List ℕ → Type 0) (bytes : List ℕ) (items : List (List ℕ)) (rest : List ℕ) → AreAll Is items → bytes ≡ concat items ++ rest → BeginsWithNone Is rest → IsSplit Is bytes items rest
split_of_all Is bytes items rest all parts none = record { joined = concat items; spelled = all_joined Is items all; parts = parts; ends = none }

pub split_items : (Is : List ℕ → Type 0) (bytes : List ℕ) (items : List (List ℕ)) (rest : List ℕ) → IsSplit Is bytes items rest → AreAll Is items
split_items Is bytes items rest s = own_kind Is items s.joined s.spelled

pub split_parts : (Is : List ℕ → Type 0) (bytes : List ℕ) (items : List (List ℕ)) (rest : List ℕ) → IsSplit Is bytes items rest → bytes ≡ concat items ++ rest
split_parts Is bytes items rest s = s.parts ∙ ap (λ (z : List ℕ). z ++ rest) (own_bytes Is items s.joined s.spelled)

begins_once : (Is : List ℕ → Type 0) → IsPrefixFree Is → BeginsOnce (IsItself Is)
begins_once Is free = λ x y a b rest after i j is.
    let both : x ++ rest ≡ y ++ after = ap (λ (z : List ℕ). z ++ rest) (sym i.1) ∙ is ∙ ap (λ (z : List ℕ). z ++ after) j.1 in
    let same : x ≡ y = free x y rest after i.0 j.0 both in
    (same, append_cancel_left x rest after (both ∙ ap (λ (z : List ℕ). z ++ after) (sym same)))

none_itself : (Is : List ℕ → Type 0) (bytes : List ℕ) → BeginsWithNone Is bytes → NoneBegins (IsItself Is) bytes
none_itself Is bytes none = λ x front rest is parts. none x rest (record { parts = parts ∙ ap (λ (z : List ℕ). z ++ rest) is.1; is = is.0 })

-- where none begins with another, bytes are split in one way at most
pub one_split_of : (Is : List ℕ → Type 0) → IsPrefixFree Is → (bytes : List ℕ) (items others : List (List ℕ)) (rest after : List ℕ) → IsSplit Is bytes items rest → IsSplit Is bytes others after → (items ≡ others) × (rest ≡ after)
one_split_of Is free bytes items others rest after s t = split_once (IsItself Is) (begins_once Is free) items others s.joined t.joined rest after s.spelled t.spelled (sym s.parts ∙ t.parts) (none_itself Is rest s.ends) (none_itself Is after t.ends)

-- so it is with a kind that is part of such a kind, as items that are checked are of all items
pub prefix_free_part : (Is Are : List ℕ → Type 0) → ((x : List ℕ) → Is x → Are x) → IsPrefixFree Are → IsPrefixFree Is
prefix_free_part Is Are to free = λ x y rest after i j is. free x y rest after (to x i) (to y j) is

-- ---- of items

-- a header announces where its item ends
pub items_prefix_free : {E : Type 0} (rule : Rule E) → IsPrefixFree (IsItem rule)
items_prefix_free rule = λ x y rest after i j is. (one_item rule (x ++ rest) x y rest after (record { parts = refl; is = i }) (record { parts = is; is = j })).0

-- bytes are split in one way at most
pub one_split : {E : Type 0} (rule : Rule E) (bytes : List ℕ) (items others : List (List ℕ)) (rest after : List ℕ) → ItemSplit rule bytes items rest → ItemSplit rule bytes others after → (items ≡ others) × (rest ≡ after)
one_split rule = one_split_of (IsItem rule) (items_prefix_free rule)

-- ---- items joined

pub items-append : {E : Type 0} (rule : Rule E) (xs ys : List (List ℕ)) → AreItems rule xs → AreItems rule ys → AreItems rule (xs ++ ys)
items-append rule = all-append (IsItem rule)

-- bytes that are too few, or are refused, begin with no item
pub none_at_end : {E : Type 0} (rule : Rule E) (bytes : List ℕ) → IsEnd rule bytes → BeginsNone rule bytes
none_at_end rule bytes (at_open n o) = λ item after w. wants_not_whole rule bytes item after n o w
none_at_end rule bytes (at_refused f r) = λ item after w. refused_not_whole rule bytes item after f r w

-- ---- the walk that finds a split

pub nothing_cut : {E : Type 0} (rule : Rule E) (bytes : List ℕ) → Gathered rule bytes [] bytes
nothing_cut rule bytes = record { items_are = tt; parts = refl }

pub cut_more : {E : Type 0} (rule : Rule E) (bytes rest after item : List ℕ) (items : List (List ℕ)) → Gathered rule bytes items rest → IsWholeItem rule rest item after → Gathered rule bytes (items ++ item ∷ []) after
cut_more rule bytes rest after item items cut w = record {
  items_are = items-append rule items (item ∷ []) cut.items_are (w.is, tt);
  parts = cut.parts ∙ ap (λ (x : List ℕ). concat items ++ x) w.parts ∙ sym (append_assoc (concat items) item after)
      ∙ ap (λ (x : List ℕ). x ++ after) (ap (λ (x : List ℕ). concat items ++ x) (sym (append-nil item)) ∙ sym (concat-append items (item ∷ [])));
}

pub cut_smaller : {E : Type 0} (rule : Rule E) (rest after item : List ℕ) → 0 < rule.header → IsWholeItem rule rest item after → length after < length rest
cut_smaller rule rest after item some w = let s = whole_size rule rest item after w in omega (arith, some, s.header, s.sum)

-- where no item is told, the bytes are open, or refused
pub told_end : {E : Type 0} (rule : Rule E) (bytes : List ℕ) (told : FirstItem E) → IsFirstItem rule bytes told → ((item rest : Bor (List ℕ)) → told ≡ Whole item rest → ⊥) → IsEnd rule bytes
told_end rule bytes (Whole item after) is none = absurd (none item after refl)
told_end rule bytes (Open n) is none = at_open n is
told_end rule bytes (Bad f) is none = at_refused f is

-- what is left begins with no item
pub cut_ends : {E : Type 0} (rule : Rule E) (bytes rest : List ℕ) (items : List (List ℕ)) → Gathered rule bytes items rest → IsEnd rule rest → ItemSplit rule bytes items rest
cut_ends rule bytes rest items cut end = split_of_all (IsItem rule) bytes items rest cut.items_are cut.parts (none_at_end rule rest end)

-- ---- one kind for another

-- where two kinds are the same, so are their splits
pub split_along : (Is Are : List ℕ → Type 0) (bytes : List ℕ) (items : List (List ℕ)) (rest : List ℕ) → ((x : List ℕ) → Is x → Are x) → ((x : List ℕ) → Are x → Is x) → IsSplit Is bytes items rest → IsSplit Are bytes items rest
split_along Is Are bytes items rest to of =
    splits_along (IsItself Is) (IsItself Are) (BeginsWithNone Is) (BeginsWithNone Are) bytes items rest (λ x b i. (to x i.0, i.1))
    (λ none item after w. none item after (record { parts = w.parts; is = of item w.is }))

-- ---- items that are checked

module _ (Is Are : List ℕ → Type 0) (part : (x : List ℕ) → Is x → Are x) where
  -- where all items pass a check, they are the split into those that do
  pub split_passed : (bytes : List ℕ) (items : List (List ℕ)) (rest : List ℕ) → AreAll Is items → IsSplit Are bytes items rest → IsSplit Is bytes items rest
  split_passed bytes items rest passed s =
      split_of_all Is bytes items rest passed (split_parts Are bytes items rest s)
      (λ item after w. s.ends item after (record { parts = w.parts; is = part item w.is }))

  -- where one is the first to fail, those before it are
  pub split_failed : (bytes : List ℕ) (items behind : List (List ℕ)) (failed rest : List ℕ) → IsPrefixFree Are → AreAll Is items → Are failed → (Is failed → ⊥) → bytes ≡ concat (items ++ failed ∷ behind) ++ rest → IsSplit Is bytes items (failed ++ (concat behind ++ rest))
  split_failed bytes items behind failed rest free passed item fails parts =
      split_of_all Is bytes items (failed ++ (concat behind ++ rest)) passed
      (parts ∙ ap (λ (x : List ℕ). x ++ rest) (concat-append items (failed ∷ behind)) ∙ append_assoc (concat items) (failed ++ concat behind) rest ∙ ap (λ (x : List ℕ). concat items ++ x) (append_assoc failed (concat behind) rest))
      (λ x after w.
      let same : failed ≡ x = free failed x (concat behind ++ rest) after item (part x w.is) w.parts in
      fails (subst Is (sym same) w.is))
