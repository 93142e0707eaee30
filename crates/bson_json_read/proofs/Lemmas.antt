-- Lemmas for the proofs of other crates: what is read, one text after another.
use Rattle.std.proofs.Common.{◌≡◌, ◌∙◌, ◌+◌, ◌++◌, [], ◌∷◌, ℕ, suc, List, append_assoc, ap, arith, drop, length, refl, subst, sym, take}
use Rattle.std.proofs.lemmas.List.{drop-drop, length-append, length-drop, take-append-le}
use Rattle.bson_json_read.specs.declared.place.Place.{Place}
use Rattle.bson_json_read.specs.Pieces.{Held, MovesBy, StandsBehind}
use Rattle.bson_json_read.specs.Places.{StandsIn, place_behind}
use Rattle.bson_json_read.specs.Sequences.{AreRead, Gives, Left, next_in}
use Rattle.bson_json_read.specs.Values.{Pair}
use Rattle.bson_json_read.proofs.HeldLemmas.{place_further}
use Rattle.bson_json_read.proofs.PlaceLemmas.{place_on, places_append}

-- one text more
pub reads_more : (left mid behind : Left) (ds : List (List Pair)) (d : List Pair) → AreRead left ds mid → Gives (next_in mid.frame mid.rest) d behind → AreRead left (ds ++ d ∷ []) behind
reads_more left mid behind [] d is gives = (behind, subst (λ (l : Left). Gives (next_in l.frame l.rest) d behind) is gives, refl)
reads_more left mid behind (e ∷ ds) d (next, first, others) gives = (next, first, reads_more next mid behind ds d others gives)

-- ---- bytes that a reader of pieces let go of

pub moves_none : (h : Held) → MovesBy 0 h h
moves_none h = record { inside = omega arith; place = refl; bytes = refl }

pub moves_on : (n m : ℕ) (a b c : Held) → MovesBy n a b → MovesBy m b c → MovesBy (n + m) a c
moves_on n m a b c first second = record {
  inside = omega (arith, first.inside, second.inside, ap length first.bytes, length-drop n a.bytes);
  place = second.place ∙ rw (first.place, first.bytes) (sym (place_further a.place.0 a.place.1 n m a.bytes));
  bytes = second.bytes ∙ ap (drop m) first.bytes ∙ drop-drop m n a.bytes;
}

-- a place behind what was let go of
pub stands_on : (n : ℕ) (a b : Held) (p : Place) → MovesBy n a b → StandsBehind b p → StandsBehind a p
stands_on n a b p moved (m, inside, is) = (
  n + m,
  omega (arith, moved.inside, inside, ap length moved.bytes, length-drop n a.bytes),
  is ∙ rw (moved.place, moved.bytes) (sym (place_further a.place.0 a.place.1 n m a.bytes)),
)

-- the held bytes stand behind these of the input
abbrev pub StandsAt : List ℕ → Held → Type 0
StandsAt before h = h.place ≡ place_behind 1 1 before

pub stands_further : (before : List ℕ) (n : ℕ) (a b : Held) → StandsAt before a → MovesBy n a b → StandsAt (before ++ take n a.bytes) b
stands_further before n a b at moved = moved.place ∙ ap (λ (p : ℕ × ℕ). place_on p (take n a.bytes)) at ∙ sym (places_append 1 1 before (take n a.bytes))

take_front : (before behind : List ℕ) (n : ℕ) → take (length before + n) (before ++ behind) ≡ before ++ take n behind
take_front [] behind n = let none : 0 + n ≡ n = omega arith in ap (λ (k : ℕ). take k behind) none
take_front (b ∷ bs) behind n =
    let more : length (b ∷ bs) + n ≡ suc (length bs + n) = omega arith in
    ap (λ (k : ℕ). take k (b ∷ (bs ++ behind))) more ∙ ap (λ (x : List ℕ). b ∷ x) (take_front bs behind n)

pub stands_in : (before more : List ℕ) (h : Held) (p : Place) → StandsAt before h → StandsBehind h p → StandsIn ((before ++ h.bytes) ++ more) p.line p.column
stands_in before more h p at (n, inside, is) =
    let all : (before ++ h.bytes) ++ more ≡ before ++ (h.bytes ++ more) = append_assoc before h.bytes more in
    let front : take (length before + n) ((before ++ h.bytes) ++ more) ≡ before ++ take n h.bytes =
    ap (take (length before + n)) all ∙ take_front before (h.bytes ++ more) n ∙ ap (λ (x : List ℕ). before ++ x) (take-append-le n h.bytes more inside) in (
      length before + n,
      omega (arith, inside, length-append (before ++ h.bytes) more, length-append before h.bytes),
      is ∙ ap (λ (q : ℕ × ℕ). place_on q (take n h.bytes)) at ∙ sym (places_append 1 1 before (take n h.bytes)) ∙ ap (place_behind 1 1) (sym front),
    )
