-- How a reader gathers the bytes of a document.
use Rattle.std.proofs.Common.{◌≡◌, ℕ, zero, suc, ◌+◌, ◌*◌, ◌-◌, ◌<◌, ◌≤◌, inl, inr, Bool, true, false, ltb, List, [], ◌∷◌, ◌++◌, length, take, max, min, refl, sym, ap, subst, ◌∙◌, arith, append-nil, length-append, length-take, take_all}
use Rattle.std.proofs.Math.Seq.{take-append-add, take-length}
use Rattle.std.proofs.lemmas.Bool.{ltb-false, ltb-true}
use Rattle.std.proofs.lemmas.List.{nil_from_length, take-append-le}
use Rattle.bson_elem.specs.declared.fault.BsonFault.{BsonFault}
use Rattle.bson_elem.specs.{FrontFault, IsBytes}
use Rattle.bson_elem.proofs.Lemmas.{one_front}
use Rattle.bson_raw.specs.{IsSpelled}
use Rattle.bson_stream.specs.declared.reader_state.ReaderState.{ReaderState}
use Rattle.bson_stream.specs.declared.reader_state.ReaderState.TheVariants.{Need, Ready, Bad}
use Rattle.bson_stream.specs.Holding.{IsGathered, IsWanted, for_document, for_fault, for_length}
use Rattle.bson_stream.specs.Readers.{AnnouncesMore, Feeds, HoldsNoMore, StandsAt}
use Rattle.bson_stream.specs.Standing.{IsBad, IsLength, IsOpen, announced, in_document, in_length, in_stream}
use Rattle.bson_stream.proofs.Standings.{announced_front, announced_take, nothing_open, spelled_announced, spelled_length, spelled_not_bad, spelled_not_open}

-- ---- bytes joined

pub bytes_join : (a b : List ℕ) → IsBytes a → IsBytes b → IsBytes (a ++ b)
bytes_join [] b f g i = g i
bytes_join (x ∷ a) b f g zero = f 0
bytes_join (x ∷ a) b f g (suc i) = bytes_join a b (λ k. f (suc k)) g i

pub none_bytes : IsBytes []
none_bytes i = omega arith

-- the first n bytes, or all if there are fewer
take_some : (c : Bool) (bytes : List ℕ) (n k : ℕ) → ltb (length bytes) k ≡ c → n ≡ min (length bytes) k → take n bytes ≡ take k bytes
take_some true bytes n k e is =
    let lt = ltb-true (length bytes) k e in
    ap (λ (i : ℕ). take i bytes) (omega (arith, is, lt)) ∙ take-length bytes ∙ sym (take_all k bytes (omega (arith, lt)))
take_some false bytes n k e is = ap (λ (i : ℕ). take i bytes) (omega (arith, is, ltb-false (length bytes) k e))

joined_take : (held piece : List ℕ) (n k : ℕ) → n ≡ length held + k → take n (held ++ piece) ≡ held ++ take k piece
joined_take held piece n k is = ap (λ (i : ℕ). take i (held ++ piece)) is ∙ take-append-add held piece k

-- what is held and as much of the piece as is wanted
pub gathered : (held piece : List ℕ) (n w : ℕ) → length held ≤ w → n ≡ min (length piece) (w - length held) → held ++ take n piece ≡ take w (held ++ piece)
gathered held piece n w le is =
    ap (λ (x : List ℕ). held ++ x) (take_some (ltb (length piece) (w - length held)) piece n (w - length held) refl is)
    ∙ sym (joined_take held piece w (w - length held) (omega (arith, le)))

-- the first four bytes
front_short : (held piece : List ℕ) (n : ℕ) → n ≡ length held → n ≤ 4 → take n held ++ take (4 - n) piece ≡ take 4 (held ++ piece)
front_short held piece n is le =
    ap (λ (x : List ℕ). x ++ take (4 - n) piece) (ap (λ (i : ℕ). take i held) is ∙ take-length held)
    ∙ sym (joined_take held piece 4 (4 - n) (omega (arith, is, le)))

front_long : (held piece : List ℕ) (n : ℕ) → n ≡ 4 → 4 ≤ length held → take n held ++ take (4 - n) piece ≡ take 4 (held ++ piece)
front_long held piece n is le =
    ap (λ (i : ℕ). take i held ++ take (4 - i) piece) is ∙ append-nil (take 4 held) ∙ sym (take-append-le 4 held piece le)

front_by : (c : Bool) (held piece : List ℕ) (n : ℕ) → ltb (length held) 4 ≡ c → n ≡ min (length held) 4 → take n held ++ take (4 - n) piece ≡ take 4 (held ++ piece)
front_by true held piece n e is = let lt = ltb-true (length held) 4 e in front_short held piece n (omega (arith, is, lt)) (omega (arith, is))
front_by false held piece n e is = let le = ltb-false (length held) 4 e in front_long held piece n (omega (arith, is, le)) le

pub front_four : (held piece : List ℕ) (n : ℕ) → n ≡ min (length held) 4 → take n held ++ take (4 - n) piece ≡ take 4 (held ++ piece)
front_four held piece n is = front_by (ltb (length held) 4) held piece n refl is

-- ---- how many are wanted

-- at least as many as are held
pub more_wanted : (limit w : ℕ) (held piece : List ℕ) → IsOpen held → IsWanted limit (held ++ piece) w → length held ≤ w
more_wanted limit w held piece o (for_length lt is) = omega (arith, lt, is, length-append held piece)
more_wanted limit w held piece (in_length lt) (for_fault four bad is) = omega (arith, lt, is)
more_wanted limit w held piece (in_document four good lt) (for_fault four' bad is) = absurd (bad (subst IsLength (sym (announced_front held piece four)) good))
more_wanted limit w held piece (in_length lt) (for_document four good le is) = omega (arith, lt, is, good.0)
more_wanted limit w held piece (in_document four good lt) (for_document four' good' le is) = omega (arith, lt, is, announced_front held piece four)

-- a good length above the limit isn't gathered for
pub wanted_within : (limit w : ℕ) (bytes : List ℕ) → IsWanted limit bytes w → AnnouncesMore limit bytes → ⊥
wanted_within limit w bytes (for_length lt is) a = omega (arith, lt, a.complete)
wanted_within limit w bytes (for_fault four bad is) a = bad a.good
wanted_within limit w bytes (for_document four good le is) a = omega (arith, le, a.more)

-- ---- the state that is told of gathered bytes

-- fewer than are wanted
pub short_open : (w : ℕ) (held : List ℕ) → IsGathered w held → length held < w → IsOpen held
short_open w held (limit, all, for_length lt is, e) less = in_length (omega (arith, lt, ap length e, length-take w all))
short_open w held (limit, all, for_fault four bad is, e) less = absurd (omega (arith, four, is, less, ap length e, length-take w all))
short_open w held (limit, all, for_document four good le is, e) less =
    let size : length held ≡ length all = omega (arith, less, ap length e, length-take w all) in
    let same : announced held ≡ announced all = ap announced e ∙ announced_take w all (omega (arith, is, good.0)) in
    in_document (omega (arith, size, four)) (subst IsLength (sym same) good) (omega (arith, less, is, same))

-- as many as are wanted decide
pub whole_decides : (w : ℕ) (held : List ℕ) → IsGathered w held → w ≤ length held → IsOpen held → ⊥
whole_decides w held (limit, all, for_length lt is, e) le o = omega (arith, lt, is, le, ap length e, length-take w all)
whole_decides w held (limit, all, for_fault four bad is, e) le (in_length lt) = omega (arith, is, le, lt)
whole_decides w held (limit, all, for_fault four bad is, e) le (in_document four' good lt) =
    bad (subst IsLength (ap announced e ∙ announced_take w all (omega (arith, is))) good)
whole_decides w held (limit, all, for_document four good most is, e) le (in_length lt) = omega (arith, is, le, lt, good.0)
whole_decides w held (limit, all, for_document four good most is, e) le (in_document four' good' lt) =
    omega (arith, is, le, lt, ap announced e, announced_take w all (omega (arith, is, good.0)))

-- a document in front is all of them
behind_whole : (w : ℕ) (held d rest : List ℕ) → IsGathered w held → w ≤ length held → held ≡ d ++ rest → announced held ≡ length d → IsLength (length d) → length rest ≡ 0
behind_whole w held d rest (limit, all, for_length lt is, e) le parts a good = absurd (omega (arith, lt, is, le, ap length e, length-take w all))
behind_whole w held d rest (limit, all, for_fault four bad is, e) le parts a good =
    absurd (bad (subst IsLength (sym a ∙ ap announced e ∙ announced_take w all (omega (arith, is))) good))
behind_whole w held d rest (limit, all, for_document four good' most is, e) le parts a good =
    omega (arith, is, a, ap length e, length-take w all, ap announced e, announced_take w all (omega (arith, is, good'.0)), ap length parts, length-append d rest)

pub whole_is : (w : ℕ) (held d rest : List ℕ) → IsGathered w held → w ≤ length held → held ≡ d ++ rest → IsSpelled d → held ≡ d
whole_is w held d rest g le parts s =
    let a : announced held ≡ length d = ap announced parts ∙ spelled_announced s.0 d rest s.1 in
    let none : rest ≡ [] = nil_from_length rest (behind_whole w held d rest g le parts a (spelled_length s.0 d s.1)) in
    parts ∙ ap (λ (x : List ℕ). d ++ x) none ∙ append-nil d

pub whole_bad : (start w : ℕ) (held : List ℕ) (f : BsonFault) → IsGathered w held → w ≤ length held → FrontFault held f → IsBad start held (in_stream start f)
whole_bad start w held f g le first = record { decided = λ o. whole_decides w held g le o; own = f; first = first; told = refl }

-- no more are gathered than a good length within the limit announces
pub no_more_gathered : (limit w : ℕ) (all : List ℕ) → IsWanted limit all w → HoldsNoMore limit (take w all)
no_more_gathered limit w all (for_length lt is) = inl (omega (arith, lt, length-take w all))
no_more_gathered limit w all (for_fault four bad is) = inl (omega (arith, is, length-take w all))
no_more_gathered limit w all (for_document four good le is) =
    let same : announced (take w all) ≡ announced all = announced_take w all (omega (arith, is, good.0)) in
    inr (subst IsLength (sym same) good, omega (arith, same, le), omega (arith, same, is, length-take w all))

-- ---- one feed

-- what a feed comes to, where s is the state that is told of what is held then
pub record IsFed (limit start : ℕ) (held piece new : List ℕ) (old_room room n w : ℕ) : Type 0 where
  pub held_is : new ≡ take w (held ++ piece)
  pub gathers : IsGathered w new
  pub no_more : HoldsNoMore limit new
  pub feeds : (s : ReaderState) → StandsAt start new s → (s ≡ Need → length new < w)
      → Feeds (record { limit = limit; start = start; held = held; room = old_room }) piece (record { limit = limit; start = start; held = new; room = room }) (record { taken = n; state = s })

pub is_fed : (limit start : ℕ) (held piece new : List ℕ) (old_room room n w : ℕ) → IsWanted limit (held ++ piece) w → length held ≤ w → n ≡ min (length piece) (w - length held) → new ≡ held ++ take n piece → old_room ≤ room → room ≤ max old_room (2 * (length held + n)) → IsFed limit start held piece new old_room room n w
is_fed limit start held piece new old_room room n w wanted le is e grown most =
    let all : new ≡ take w (held ++ piece) = e ∙ gathered held piece n w le is in
    let size : length new ≡ length held + n = ap length e ∙ length-append held (take n piece) ∙ ap (λ (k : ℕ). length held + k) (omega (arith, length-take n piece, is)) in
    let none : HoldsNoMore limit new = subst (HoldsNoMore limit) (sym all) (no_more_gathered limit w (held ++ piece) wanted) in
    record {
      held_is = all;
      gathers = (limit, held ++ piece, wanted, all);
      no_more = none;
      feeds = λ s at short. record {
        taken = omega (arith, is);
        limit = refl;
        start = refl;
        held = e;
        state = at;
        no_more = none;
        all = λ need. omega (arith, short need, size, is, le);
        grown = grown;
        room = omega (arith, most, size);
      };
    }

-- the same, where the bytes are the first ones of longer memory
pub is_put : (limit start len n w : ℕ) (old new piece : List ℕ) → len ≤ length old → IsWanted limit (take len old ++ piece) w → length (take len old) ≤ w → n ≡ min (length piece) (w - len) → take (len + length (take n piece)) new ≡ take len old ++ take n piece → length old ≤ length new → length new ≤ max (length old) (2 * (len + length (take n piece))) → IsFed limit start (take len old) piece (take (len + n) new) (length old) (length new) n w
is_put limit start len n w old new piece within wanted le is filled grown most =
    let held : length (take len old) ≡ len = omega (arith, within, length-take len old) in
    let size : length (take n piece) ≡ n = omega (arith, is, length-take n piece) in
    is_fed limit start (take len old) piece (take (len + n) new) (length old) (length new) n w wanted le (omega (arith, is, held))
    (ap (λ (k : ℕ). take (len + k) new) (sym size) ∙ filled) grown (omega (arith, most, held, size))

-- ---- what is told of what is held

-- where nothing is held, the offset doesn't matter
pub at_nothing : (start other : ℕ) (held : List ℕ) (s : ReaderState) → held ≡ [] → StandsAt start held s → StandsAt other held s
at_nothing start other held Need none at = at
at_nothing start other held (Ready canonical) none at = at
at_nothing start other held (Bad f) none at = absurd (at.decided (subst IsOpen (sym none) nothing_open))

abbrev IsNeed : ReaderState → Type 0
IsNeed Need = Unit {0}
IsNeed (Ready canonical) = ⊥
IsNeed (Bad f) = ⊥

-- bytes that are a document are ready
pub not_ready : (start : ℕ) (held : List ℕ) (s : ReaderState) → StandsAt start held s → ((canonical : Bool) → s ≡ Ready canonical → ⊥) → IsBytes held → IsSpelled held → ⊥
not_ready start held Need at other fits s = spelled_not_open held s at
not_ready start held (Ready canonical) at other fits s = other canonical refl
not_ready start held (Bad f) at other fits s = spelled_not_bad start held f fits s at

pub ready_is : (start : ℕ) (held : List ℕ) (s : ReaderState) (canonical : Bool) → StandsAt start held s → s ≡ Ready canonical → IsSpelled held
ready_is start held s canonical at is = (subst (StandsAt start held) is at).0

pub bad_is : (start : ℕ) (held : List ℕ) (s : ReaderState) (f : BsonFault) → StandsAt start held s → s ≡ Bad f → IsBad start held f
bad_is start held s f at is = subst (StandsAt start held) is at

-- bytes have one fault
pub bad_once : (start : ℕ) (held : List ℕ) (f g : BsonFault) → IsBytes held → IsBad start held f → IsBad start held g → f ≡ g
bad_once start held f g fits a b = a.told ∙ ap (in_stream start) (one_front held a.own b.own fits a.first b.first) ∙ sym b.told

pub need_is : (start : ℕ) (held : List ℕ) (s : ReaderState) → StandsAt start held s → s ≡ Need → IsOpen held
need_is start held s at is = subst (StandsAt start held) is at

-- a state in which no more is needed isn't that of open bytes
pub not_need : (start : ℕ) (held : List ℕ) (s : ReaderState) → StandsAt start held s → (s ≡ Need → ⊥) → IsOpen held → ⊥
not_need start held Need at decided o = decided refl
not_need start held (Ready canonical) at decided o = spelled_not_open held at.0 o
not_need start held (Bad f) at decided o = at.decided o
