-- Where documents begin in bytes of which some are damaged, and where none does.
use Rattle.std.proofs.Common.{◌≡◌, Bool, true, false, ℕ, ◌+◌, ◌<◌, ◌≤◌, List, [], ◌∷◌, ◌++◌, length, take, drop, refl, sym, ap, subst, ◌∙◌, arith, append_assoc, append-nil, length-append, take-append-drop}
use Rattle.std.proofs.lemmas.List.{take-append-le, take_at}
use Rattle.bson_elem.specs.declared.fault.BsonFault.{BsonFault}
use Rattle.bson_elem.specs.{FrontFault, IsBytes, Spells, Tree}
use Rattle.bson_elem.proofs.Lemmas.{no_front}
use Rattle.bson_stream.specs.declared.gap.GapFault.TheVariants.{Bson, TooLong}
use Rattle.bson_raw.specs.{IsSpelled}
use Rattle.bson_stream.specs.Readers.{AnnouncesMore, TellsForm}
use Rattle.bson_stream.specs.Salvage.{BeginsDocument, IsGapFault, NoneBegins, Part, Salvages, at_document, at_gap, no_more}
use Rattle.bson_stream.specs.Salvagers.{IsDocumentOf, IsUndecided, MayFollow}
use Rattle.bson_stream.specs.Standing.{IsLength, IsOpen, announced, in_document, in_length, in_stream}
use Rattle.bson_stream.proofs.Standings.{announced_front, fault_longer, four_there, spelled_announced, spelled_length, whole_there}

-- ---- what the length in front says

-- more bytes don't change it
pub long_longer : (limit : ℕ) (b more : List ℕ) → AnnouncesMore limit b → AnnouncesMore limit (b ++ more)
long_longer limit b more a =
    let same = announced_front b more a.complete in
    record { complete = omega (arith, a.complete, length-append b more); good = subst IsLength (sym same) a.good; more = omega (arith, a.more, same) }

pub not_longer : (limit : ℕ) (b more : List ℕ) → 4 ≤ length b → (AnnouncesMore limit b → ⊥) → AnnouncesMore limit (b ++ more) → ⊥
not_longer limit b more four not a =
    let same = announced_front b more four in
    not (record { complete = four; good = subst IsLength same a.good; more = omega (arith, a.more, same) })

-- a document in front has the length that is announced
front_length : (limit : ℕ) (b : List ℕ) (d : BeginsDocument limit b) → announced b ≡ length d.1
front_length limit b (t, d, after, s, le, is) = ap announced is ∙ spelled_announced t d after s

pub long_none : (limit : ℕ) (b : List ℕ) → AnnouncesMore limit b → BeginsDocument limit b → ⊥
long_none limit b a d = omega (arith, a.more, front_length limit b d, d.4)

-- ---- no document where there is a fault

-- a document in front of more bytes stands in those that decide
front_there : (b more d after : List ℕ) (t : Tree) → (IsOpen b → ⊥) → Spells t d → b ++ more ≡ d ++ after → b ≡ d ++ drop (length d) b
front_there b more d after t decided s is =
    let four = four_there b decided in
    let same : announced b ≡ length d = sym (announced_front b more four) ∙ ap announced is ∙ spelled_announced t d after s in
    let there : length d ≤ length b = omega (arith, same, whole_there b decided (subst IsLength (sym same) (spelled_length t d s))) in
    let front : take (length d) b ≡ d = sym (take-append-le (length d) b more there) ∙ ap (take (length d)) is ∙ take_at d after (length d) refl in
    sym (take-append-drop (length d) b) ∙ ap (λ (x : List ℕ). x ++ drop (length d) b) front

pub fault_none : (limit : ℕ) (b more : List ℕ) (f : BsonFault) → IsBytes b → (IsOpen b → ⊥) → FrontFault b f → BeginsDocument limit (b ++ more) → ⊥
fault_none limit b more f fits decided first (t, d, after, s, le, is) =
    no_front b t d (drop (length d) b) f fits s (front_there b more d after t decided s is) first

-- the same, where nothing follows
pub fault_none_whole : (limit : ℕ) (b more : List ℕ) (f : BsonFault) → IsBytes b → more ≡ [] → FrontFault b f → BeginsDocument limit (b ++ more) → ⊥
fault_none_whole limit b more f fits none first (t, d, after, s, le, is) =
    no_front b t d after f fits s (sym (append-nil b) ∙ ap (λ (x : List ℕ). b ++ x) (sym none) ∙ is) first

-- ---- what stands in front

pub short_undecided : (limit : ℕ) (b : List ℕ) → length b < 4 → IsUndecided limit b
short_undecided limit b lt = (in_length lt, λ a. omega (arith, lt, a.complete))

pub inside_undecided : (limit : ℕ) (b : List ℕ) → 4 ≤ length b → IsLength (announced b) → announced b ≤ limit → length b < announced b → IsUndecided limit b
inside_undecided limit b four is le lt = (in_document four is lt, λ a. omega (arith, le, a.more))

-- the bytes decide, and the length isn't above the limit
abbrev pub IsDecided : ℕ → List ℕ → Type 0
IsDecided limit b = (IsOpen b → ⊥) × (AnnouncesMore limit b → ⊥)

no_length : (b : List ℕ) → 4 ≤ length b → (IsLength (announced b) → ⊥) → IsOpen b → ⊥
no_length b four bad (in_length lt) = omega (arith, four, lt)
no_length b four bad (in_document four' is lt) = bad is

pub bad_decided : (limit : ℕ) (b : List ℕ) → 4 ≤ length b → (IsLength (announced b) → ⊥) → IsDecided limit b
bad_decided limit b four bad = (no_length b four bad, λ a. bad a.good)

all_there : (b : List ℕ) → 4 ≤ length b → announced b ≤ length b → IsOpen b → ⊥
all_there b four le (in_length lt) = omega (arith, four, lt)
all_there b four le (in_document four' is lt) = omega (arith, le, lt)

pub whole_decided : (limit : ℕ) (b : List ℕ) → 4 ≤ length b → announced b ≤ limit → announced b ≤ length b → IsDecided limit b
whole_decided limit b four most le = (all_there b four le, λ a. omega (arith, most, a.more))

-- a document that was found, which isn't longer than the limit
pub front_document : (limit : ℕ) (bytes d rest : List ℕ) (canonical : Bool) (n : ℕ) → bytes ≡ d ++ rest → IsSpelled d → TellsForm d canonical → (AnnouncesMore limit bytes → ⊥) → n ≡ length d
    → IsDocumentOf limit bytes n canonical
front_document limit bytes d rest canonical n parts s form within size =
    let good = spelled_length s.0 d s.1 in
    let a : announced bytes ≡ length d = ap announced parts ∙ spelled_announced s.0 d rest s.1 in
    let all : length bytes ≡ length d + length rest = ap length parts ∙ length-append d rest in
    let lt : limit < length d → ⊥ = λ h. within (record { complete = omega (arith, all, good.0); good = subst IsLength (sym a) good; more = omega (arith, h, a) }) in
    let front : take n bytes ≡ d = ap (λ (k : ℕ). take k bytes) size ∙ ap (take (length d)) parts ∙ take_at d rest (length d) refl in (
      omega (arith, size, all),
      omega (arith, size, lt),
      subst IsSpelled (sym front) s,
      subst (λ (b : List ℕ). TellsForm b canonical) (sym front) form,
    )

-- a fault that was found
pub bad_front : (limit start : ℕ) (ended : Bool) (bytes : List ℕ) (own f : BsonFault) → IsBytes bytes → FrontFault bytes own → (AnnouncesMore limit bytes → ⊥) → (ended ≡ false → IsOpen bytes → ⊥) → f ≡ in_stream start own
    → (more : List ℕ) → MayFollow ended more → IsGapFault limit start (bytes ++ more) (Bson f) × (BeginsDocument limit (bytes ++ more) → ⊥)
bad_front limit start false bytes own f fits first within decided told more may =
    let closed = decided refl in (
      (not_longer limit bytes more (four_there bytes closed) within, (own, fault_longer bytes more own closed first, told)),
      fault_none limit bytes more own fits closed first,
    )
bad_front limit start true bytes own f fits first within decided told more may =
    let none : more ≡ [] = may refl in
    let same : bytes ++ more ≡ bytes = ap (λ (x : List ℕ). bytes ++ x) none ∙ append-nil bytes in
    let at : IsGapFault limit start bytes (Bson f) = (within, (own, first, told)) in
    (subst (λ (b : List ℕ). IsGapFault limit start b (Bson f)) (sym same) at, fault_none_whole limit bytes more own fits none first)

-- a length above the limit
pub long_front : (limit start : ℕ) (ended : Bool) (bytes : List ℕ) → AnnouncesMore limit bytes → (more : List ℕ) → MayFollow ended more
    → IsGapFault limit start (bytes ++ more) TooLong × (BeginsDocument limit (bytes ++ more) → ⊥)
long_front limit start ended bytes a more may =
    let longer = long_longer limit bytes more a in
    (longer, long_none limit (bytes ++ more) longer)

-- ---- bytes at none of which a document begins

pub none_joined : (limit : ℕ) (xs ys after : List ℕ) → NoneBegins limit xs (ys ++ after) → NoneBegins limit ys after → NoneBegins limit (xs ++ ys) after
none_joined limit [] ys after first second = second
none_joined limit (x ∷ xs) ys after first second =
    (λ begins. first.0 (subst (λ (b : List ℕ). BeginsDocument limit (x ∷ b)) (append_assoc xs ys after) begins), none_joined limit xs ys after first.1 second)

-- the first byte alone
pub none_one : (limit : ℕ) (d more : List ℕ) → 0 < length d → (BeginsDocument limit (d ++ more) → ⊥) → NoneBegins limit (take 1 d) (drop 1 d ++ more)
none_one limit [] more lt not = absurd (omega (arith, lt))
none_one limit (x ∷ d) more lt not = (not, tt)

-- ---- parts, one after another

pub joined : (limit start place : ℕ) (bytes mid rest : List ℕ) (ps qs : List Part) → Salvages limit start bytes ps mid → Salvages limit place mid qs rest
    → place + length mid ≡ start + length bytes → Salvages limit start bytes (ps ++ qs) rest
joined limit start place bytes mid rest ps qs no_more second at =
    let same : place ≡ start = omega (arith, at) in
    subst (λ (n : ℕ). Salvages limit n bytes qs rest) same second
joined limit start place bytes mid rest ps qs (at_document t b after s le is first) second at =
    at_document t b after s le is (joined limit (start + length b) place after mid rest _ qs first second (omega (arith, at, ap length is, length-append b after)))
joined limit start place bytes mid rest ps qs (at_gap f skipped after some is none fault ends first) second at =
    at_gap f skipped after some is none fault ends (joined limit (start + length skipped) place after mid rest _ qs first second (omega (arith, at, ap length is, length-append skipped after)))
