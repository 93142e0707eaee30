-- Options in order of their codes, as they are seen one by one.
use Rattle.std.proofs.Common.{◌≡◌, ℕ, zero, suc, ◌<◌, ◌≤◌, List, [], ◌∷◌, ◌++◌, Bool, true, false, eqb, eqb-true, ne_eqb, lt-ltb, refl, sym, ap, subst, ◌∙◌, append_assoc, arith, drop, length, take, ◌+◌, slice_index, MatchBool, ◌==◌}
use Rattle.std.specs.Char.{is_ascii}
use Rattle.std.specs.List.{filter, list_all}
use Rattle.std.specs.Str.{IsAscii, IsNotAscii}
use Rattle.std.proofs.lemmas.Bool.{and_from, and_left, and_parts, and_right, eq-eqb, eqb-false, ltb-true, le-ltb, false≢true}
use Rattle.std.proofs.Math.Seq.{take-suc}
use Rattle.std.proofs.lemmas.List.{append-nil, take_all}
use Rattle.std.proofs.lemmas.List.Elements.{filter-append}
use Rattle.std.proofs.lemmas.List.Folds.{list_all-append}
use Rattle.bson_json.specs.Options.{alphabetical, in_order}

-- another character behind those of this code
other_behind : (n x : ℕ) (seen : List ℕ) → (x ≡ n → ⊥) → filter (λ c. c == n) (seen ++ x ∷ []) ≡ filter (λ c. c == n) seen
other_behind n x seen other =
    filter-append (λ c. c == n) seen (x ∷ []) ∙ rw (ne_eqb x n other) (append-nil (filter (λ c. c == n) seen))

-- one of this code behind them
one_behind : (x : ℕ) (seen : List ℕ) → filter (λ c. c == x) (seen ++ x ∷ []) ≡ filter (λ c. c == x) seen ++ x ∷ []
one_behind x seen = filter-append (λ c. c == x) seen (x ∷ []) ∙ rw (eq-eqb x x refl) refl

-- those of lower codes don't change
lower_kept : (n x : ℕ) (seen : List ℕ) → n ≤ x → in_order n (seen ++ x ∷ []) ≡ in_order n seen
lower_kept zero x seen h = refl
lower_kept (suc n) x seen h =
    rw (lower_kept n x seen (omega arith), other_behind n x seen (λ e. absurd (omega arith))) refl

nothing_more : (xs ys : List ℕ) → xs ++ ys ≡ xs → ys ≡ []
nothing_more [] ys h = h
nothing_more (x ∷ xs) ys h = nothing_more xs ys (ap (drop 1) h)

-- the characters seen are in order, and none is behind the last
abbrev AreOrdered : List ℕ → ℕ → Type 0
AreOrdered seen last = (n : ℕ) → last < n → in_order n seen ≡ seen

put_last : (seen : List ℕ) (last x : ℕ) → AreOrdered seen last → last ≤ x → in_order (suc x) (seen ++ x ∷ []) ≡ seen ++ x ∷ []
put_last seen last x ordered h =
    rw (lower_kept x x seen (omega arith), one_behind x seen)
    (sym (append_assoc (in_order x seen) (filter (λ c. c == x) seen) (x ∷ [])) ∙ ap (λ l. l ++ x ∷ []) (ordered (suc x) (omega arith)))

put_lower : (seen : List ℕ) (last x n : ℕ) → AreOrdered seen last → last ≤ x → x < n
    → in_order n (seen ++ x ∷ []) ≡ seen ++ x ∷ [] → in_order (suc n) (seen ++ x ∷ []) ≡ seen ++ x ∷ []
put_lower seen last x n ordered h lt before =
    let none = nothing_more (in_order n seen) (filter (λ c. c == n) seen) (ordered (suc n) (omega arith) ∙ sym (ordered n (omega arith))) in
    rw (before, other_behind n x seen (λ e. absurd (omega arith)), none) (append-nil (seen ++ x ∷ []))

put_by : (b : Bool) (seen : List ℕ) (last x n : ℕ) → eqb x n ≡ b → AreOrdered seen last → last ≤ x → x < suc n
    → (x < n → in_order n (seen ++ x ∷ []) ≡ seen ++ x ∷ []) → in_order (suc n) (seen ++ x ∷ []) ≡ seen ++ x ∷ []
put_by true seen last x n e ordered h lt before =
    subst (λ m. in_order (suc m) (seen ++ x ∷ []) ≡ seen ++ x ∷ []) (eqb-true x n e) (put_last seen last x ordered h)
put_by false seen last x n e ordered h lt before =
    let other = eqb-false x n e in
    let lower : x < n = omega arith in
    put_lower seen last x n ordered h lower (before lower)

put : (seen : List ℕ) (last x : ℕ) → AreOrdered seen last → last ≤ x → AreOrdered (seen ++ x ∷ []) x
put seen last x ordered h zero lt = absurd (omega arith)
put seen last x ordered h (suc n) lt =
    put_by (eqb x n) seen last x n refl ordered h lt (λ lower. put seen last x ordered h n lower)

-- the same, with what the last one tells of them all
abbrev pub IsInOrder : List ℕ → ℕ → Type 0
IsInOrder seen last = AreOrdered seen last × (list_all is_ascii seen ≡ true → last < 128)

pub none_in_order : IsInOrder [] 0
none_in_order = (λ n lt. none n, λ e. omega arith)
  where
    none : (n : ℕ) → in_order n [] ≡ []
    none zero = refl
    none (suc n) = rw (none n) refl

one_more_in_order : (seen : List ℕ) (last x : ℕ) → IsInOrder seen last → last ≤ x → IsInOrder (seen ++ x ∷ []) x
one_more_in_order seen last x seen_in_order h = (
  put seen last x seen_in_order.0 h,
  λ e. ltb-true x 128 (and_parts _ _ (and_parts _ _ (sym (list_all-append is_ascii seen (x ∷ [])) ∙ e)).1).0,
)

-- the next of the characters is seen, and all of them
pub next_in_order : (options : List ℕ) (i last : ℕ) → i < length options → IsInOrder (take i options) last → last ≤ slice_index options i
    → IsInOrder (take (i + 1) options) (slice_index options i)
next_in_order options i last lt seen_in_order h =
    let next : i + 1 ≡ suc i = omega arith in
    rw (next, take-suc options i 0 lt) (one_more_in_order (take i options) last (slice_index options i) seen_in_order h)

alphabetical_by : (b : Bool) (options : List ℕ) → list_all is_ascii options ≡ b → (b ≡ true → in_order 128 options ≡ options) → alphabetical options ≡ options
alphabetical_by true options e ordered = rw (e) (ordered refl)
alphabetical_by false options e ordered = rw (e) refl

in_order_kept : (options : List ℕ) (last : ℕ) → IsInOrder options last → alphabetical options ≡ options
in_order_kept options last ordered =
    alphabetical_by (list_all is_ascii options) options refl (λ e. ordered.0 128 (ordered.1 e))

pub all_in_order : (options : List ℕ) (i last : ℕ) → length options ≤ i → IsInOrder (take i options) last → alphabetical options ≡ options
all_in_order options i last all seen_in_order =
    in_order_kept options last (subst (λ l. IsInOrder l last) (take_all i options all) seen_in_order)

-- options of ASCII, and others
all_ascii : (options : List ℕ) → IsAscii options → list_all is_ascii options ≡ true
all_ascii [] h = refl
all_ascii (x ∷ xs) h = and_from _ _ (lt-ltb x 128 (h 0)) (all_ascii xs (λ i. h (suc i)))

not_ascii : (options : List ℕ) (i : ℕ) → 128 ≤ slice_index options i → list_all is_ascii options ≡ false
not_ascii [] i h = absurd (omega arith)
not_ascii (x ∷ xs) zero h = and_left _ _ (le-ltb x 128 h)
not_ascii (x ∷ xs) (suc i) h = and_right _ _ (not_ascii xs i h)

pub ascii_or_kept : (b : Bool) (options : List ℕ) → MatchBool b (IsAscii options) (IsNotAscii options)
    → MatchBool b (list_all is_ascii options ≡ true) (alphabetical options ≡ options)
ascii_or_kept true options h = all_ascii options h
ascii_or_kept false options h = rw (not_ascii options h.0 h.1) refl

-- options that are out of order, as they are written
pub in_order_written : (b : Bool) (bytes options : List ℕ) → b ≡ true → bytes ≡ options
    → MatchBool b (list_all is_ascii bytes ≡ true) (alphabetical bytes ≡ bytes) → in_order 128 bytes ≡ alphabetical options
in_order_written true bytes options is same ascii = rw (sym same, ascii) refl
in_order_written false bytes options is same kept = absurd (false≢true is)
