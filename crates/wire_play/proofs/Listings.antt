-- Texts of things in a list, one after another, as they are written.
use Rattle.std.proofs.Common.{◌≡◌, ◌+◌, ◌<◌, ◌++◌, [], ℕ, List, Option, length, drop, get_or, map, refl, sym, ap, subst, ◌∙◌, append_assoc}
use Rattle.std.specs.Prelude.{flat_map}
use Rattle.std.specs.Io.KnownBytes.{Appends}
use Rattle.std.proofs.KnownBytes.{Appends-nil, Appends-trans}
use Rattle.std.proofs.lemmas.List.{at_drop_more, append-nil}
use Rattle.wire_play.specs.Closing.{numbered}

-- what was written, with the texts that are left, is the whole text
pub record Listed (old new : Option (List ℕ)) (all left : List ℕ) : Type 0 where
  pub text : List ℕ
  pub written : Appends old new text
  pub with_left : all ≡ text ++ left

pub none_listed : (a : Option (List ℕ)) (all : List ℕ) → Listed a a all all
none_listed a all = record { text = []; written = Appends-nil a; with_left = refl }

-- one more text is written
pub listed_more : (a b c : Option (List ℕ)) (all left now after : List ℕ) → Listed a b all left → Appends b c now → left ≡ now ++ after → Listed a c all after
listed_more a b c all left now after l w is = record {
  text = l.text ++ now;
  written = Appends-trans a b c l.text now l.written w;
  with_left = l.with_left ∙ ap (λ (x : List ℕ). l.text ++ x) is ∙ sym (append_assoc l.text now after);
}

-- nothing is left
pub listed_all : (a b : Option (List ℕ)) (all left : List ℕ) → Listed a b all left → left ≡ [] → Appends a b all
listed_all a b all left l none = subst (Appends a b) (sym (l.with_left ∙ ap (λ (x : List ℕ). l.text ++ x) none ∙ append-nil l.text)) l.written

-- the texts of what is left of a list, from an index on
pub flat_more : {X Y : Type 0} (f : X → Y) (text : Y → List ℕ) (xs : List X) (i : ℕ) (x : X) → i < length xs → x ≡ get_or xs i x
    → flat_map text (map f (drop i xs)) ≡ text (f x) ++ flat_map text (map f (drop (i + 1) xs))
flat_more {X} f text xs i x within is =
    at_drop_more (λ (ys : List X). flat_map text (map f ys)) xs i x within
    ∙ ap (λ (y : X). text (f y) ++ flat_map text (map f (drop (i + 1) xs))) (sym is)

pub numbered_more : {X Y : Type 0} (f : X → Y) (text : ℕ → Y → List ℕ) (xs : List X) (i : ℕ) (x : X) → i < length xs → x ≡ get_or xs i x
    → numbered text i (map f (drop i xs)) ≡ text i (f x) ++ numbered text (i + 1) (map f (drop (i + 1) xs))
numbered_more {X} f text xs i x within is =
    at_drop_more (λ (ys : List X). numbered text i (map f ys)) xs i x within
    ∙ ap (λ (y : X). text i (f y) ++ numbered text (i + 1) (map f (drop (i + 1) xs))) (sym is)
