-- What a salvager has found so far, one step after another.
use Rattle.std.proofs.Common.{◌≡◌, ◌≢◌, ◌⊎◌, inl, inr, ℕ, ◌+◌, ◌*◌, ◌-◌, ◌<◌, ◌≤◌, Bool, true, false, true≢false, List, [], ◌∷◌, ◌++◌, Option, None, Some, length, take, drop, refl, sym, ap, subst, ◌∙◌, arith, append_assoc, append-nil, length-append, length-drop, length-take, take-add, take-append-drop}
use Rattle.std.proofs.lemmas.List.{drop-drop}
use Rattle.bson_elem.specs.{Spells, Tree}
use Rattle.bson_stream.specs.declared.gap.Find.{Find}
use Rattle.bson_stream.specs.declared.gap.Find.TheVariants as find
use Rattle.bson_stream.specs.declared.gap.Gap.{Gap}
use Rattle.bson_stream.specs.declared.gap.GapFault.{GapFault}
use Rattle.bson_stream.specs.declared.gap.GapStart.{GapStart}
use Rattle.bson_stream.specs.declared.seek.Ahead.{Ahead}
use Rattle.bson_stream.specs.declared.seek.Ahead.TheVariants as ahead
use Rattle.bson_stream.specs.declared.seek.Sought.{Sought}
use Rattle.bson_stream.specs.declared.seek.Stand.TheVariants as stand
use Rattle.bson_stream.specs.Salvage.{AreParts, BeginsDocument, IsGapFault, NoneBegins, Part, Salvages, a_document, a_gap, at_document, at_gap, no_more}
use Rattle.bson_stream.specs.Salvagers.{ArePartsSoFar, IsDocumentOf, IsFound, IsFront, IsGapBehind, IsInGap, IsOutcome, IsSettled, IsSought, IsStand, IsUndecided, LeavesLess, MayFollow, NoneInFront, Salvaging, SoFar, gap_on, open_gaps}
use Rattle.bson_stream.proofs.Gatherings.{tail_is}
use Rattle.bson_stream.proofs.Salvages.{joined, none_joined, none_one}
use Rattle.bson_stream.proofs.Standings.{nothing_open}

-- ---- bytes that were passed over

-- one more
pub none_more : (limit : ℕ) (ended : Bool) (n : ℕ) (held : List ℕ) → n < length held → NoneInFront limit ended n held
    → ((more : List ℕ) → MayFollow ended more → BeginsDocument limit (drop n held ++ more) → ⊥) → NoneInFront limit ended (n + 1) held
none_more limit ended n held lt none not more may =
    let behind : drop 1 (drop n held) ≡ drop (n + 1) held = drop-drop 1 n held in
    let front : take n held ++ take 1 (drop n held) ≡ take (n + 1) held = sym (take-add n 1 held) in
    let one : NoneBegins limit (take 1 (drop n held)) (drop 1 (drop n held) ++ more) = none_one limit (drop n held) more (omega (arith, lt, length-drop n held)) (not more may) in
    let parts : drop n held ++ more ≡ take 1 (drop n held) ++ (drop 1 (drop n held) ++ more) =
    ap (λ (x : List ℕ). x ++ more) (sym (take-append-drop 1 (drop n held))) ∙ append_assoc (take 1 (drop n held)) (drop 1 (drop n held)) more in
    let all : NoneBegins limit (take n held ++ take 1 (drop n held)) (drop 1 (drop n held) ++ more) =
    none_joined limit (take n held) (take 1 (drop n held)) (drop 1 (drop n held) ++ more) (subst (NoneBegins limit (take n held)) parts (none more may)) one in
    subst (λ (x : List ℕ). NoneBegins limit (take (n + 1) held) (x ++ more)) behind (subst (λ (x : List ℕ). NoneBegins limit x (drop 1 (drop n held) ++ more)) front all)

-- the gap behind one more
pub gap_more : (limit : ℕ) (ended : Bool) (start n : ℕ) (held : List ℕ) (gap behind : Option GapStart) (f : GapFault) → IsGapBehind limit ended start held n gap behind
    → ((more : List ℕ) → MayFollow ended more → IsGapFault limit (start + n) (drop n held ++ more) f) → IsGapBehind limit ended start held (n + 1) gap (gap_on behind (start + n) f)
gap_more limit ended start n held (Some g) behind f is fault = ap (λ (b : Option GapStart). gap_on b (start + n) f) is
gap_more limit ended start n held None None f is fault =
    let at : start + n ≡ start = omega (arith, is) in (
      omega arith,
      at,
      (λ more may. subst (λ (k : ℕ). IsGapFault limit k (held ++ more) f) at (subst (λ (k : ℕ). IsGapFault limit (start + n) (drop k held ++ more) f) is (fault more may))),
    )
gap_more limit ended start n held None (Some g) f is fault = (omega arith, is.1, is.2)

-- no bytes were passed over yet
pub gap_none : (limit : ℕ) (ended : Bool) (start : ℕ) (held : List ℕ) (gap : Option GapStart) → IsGapBehind limit ended start held 0 gap gap
gap_none limit ended start held None = refl
gap_none limit ended start held (Some g) = refl

-- what stands in front of what is left
pub stand_open : (limit : ℕ) (ended : Bool) (start n : ℕ) (held : List ℕ) (a : Ahead) → IsFront limit ended start (take (length held - n) (drop n held)) a → a ≡ ahead.Open
    → IsStand limit ended (drop n held) stand.Open
stand_open limit ended start n held a at is =
    subst (λ (b : List ℕ). IsStand limit ended b stand.Open) (tail_is n held) (subst (IsFront limit ended start (take (length held - n) (drop n held))) is at)

pub stand_document : (limit : ℕ) (ended : Bool) (start n : ℕ) (held : List ℕ) (a : Ahead) (len : ℕ) (canonical : Bool) → IsFront limit ended start (take (length held - n) (drop n held)) a
    → a ≡ ahead.Document len canonical → IsStand limit ended (drop n held) (stand.Document len canonical)
stand_document limit ended start n held a len canonical at is =
    subst (λ (b : List ℕ). IsStand limit ended b (stand.Document len canonical)) (tail_is n held) (subst (IsFront limit ended start (take (length held - n) (drop n held))) is at)

pub fault_found : (limit : ℕ) (ended : Bool) (start n : ℕ) (held : List ℕ) (a : Ahead) (f : GapFault) → IsFront limit ended start (take (length held - n) (drop n held)) a → a ≡ ahead.Fault f
    → (more : List ℕ) → MayFollow ended more → IsGapFault limit start (drop n held ++ more) f × (BeginsDocument limit (drop n held ++ more) → ⊥)
fault_found limit ended start n held a f at is more may =
    subst (λ (b : List ℕ). IsGapFault limit start (b ++ more) f × (BeginsDocument limit (b ++ more) → ⊥)) (tail_is n held)
    (subst (IsFront limit ended start (take (length held - n) (drop n held))) is at more may)

-- ---- what was found so far

-- a salvager that stands behind the bytes that were passed over
abbrev pub behind : Salvaging → Sought → Salvaging
behind s x = record s { start = s.start + x.passed; held = drop x.passed s.held; gap = x.gap }

not_nil : (xs : List ℕ) → 0 < length xs → xs ≢ []
not_nil [] lt = absurd (omega (arith, lt))
not_nil (x ∷ xs) lt = λ e. absurd cc

some_there : (xs : List ℕ) → xs ≢ [] → 0 < length xs
some_there [] some = absurd (some refl)
some_there (x ∷ xs) some = omega arith

-- the bytes of a gap, with those that were passed over
same_bytes : (skipped held more : List ℕ) (n : ℕ) → ((skipped ++ take n held) ++ drop n held) ++ more ≡ (skipped ++ held) ++ more
same_bytes skipped held more n = ap (λ (x : List ℕ). x ++ more) (append_assoc skipped (take n held) (drop n held) ∙ ap (λ (x : List ℕ). skipped ++ x) (take-append-drop n held))

pub in_gap_on : (ended : Bool) (s : Salvaging) (x : Sought) (skipped : List ℕ) (gap after : Option GapStart) → IsInGap ended s skipped gap → x.passed ≤ length s.held
    → IsGapBehind s.limit ended s.start s.held x.passed gap after → IsInGap ended (behind s x) (skipped ++ take x.passed s.held) after
in_gap_on ended s x skipped (Some g) after (some, at, fault) le is =
    subst (IsInGap ended (behind s x) (skipped ++ take x.passed s.held)) (sym is) (
      not_nil (skipped ++ take x.passed s.held) (omega (arith, some_there skipped some, length-append skipped (take x.passed s.held))),
      omega (arith, at, le, length-append skipped (take x.passed s.held), length-take x.passed s.held),
      (λ more may. subst (λ (b : List ℕ). IsGapFault s.limit g.from b g.fault) (sym (same_bytes skipped s.held more x.passed)) (fault more may)),
    )
in_gap_on ended s x skipped None None none le is =
    ap (λ (b : List ℕ). b ++ take x.passed s.held) none ∙ ap (λ (k : ℕ). take k s.held) is
in_gap_on ended s x skipped None (Some g) none le (lt, at, fault) = (
  not_nil (skipped ++ take x.passed s.held) (omega (arith, lt, le, length-append skipped (take x.passed s.held), length-take x.passed s.held)),
  omega (arith, at, le, ap length none, length-append skipped (take x.passed s.held), length-take x.passed s.held),
  (λ more may.
      let bare : (skipped ++ s.held) ++ more ≡ s.held ++ more = ap (λ (b : List ℕ). (b ++ s.held) ++ more) none in
      subst (λ (b : List ℕ). IsGapFault s.limit g.from b g.fault) (sym (same_bytes skipped s.held more x.passed ∙ bare))
      (subst (λ (k : ℕ). IsGapFault s.limit k (s.held ++ more) g.fault) (sym at) (at_start more may))),
)
  where
    at_start : (more : List ℕ) → MayFollow ended more → IsGapFault s.limit s.start (s.held ++ more) g.fault
    at_start more may = fault more may

-- bytes were passed over
pub sought_on : (ended : Bool) (fed : List ℕ) (told : List Part) (s : Salvaging) (x : Sought) → SoFar ended fed told s → IsSought s.limit ended s.start s.held s.gap x
    → SoFar ended fed told (behind s x)
sought_on ended fed told s x so is = record {
  skipped = so.skipped ++ take x.passed s.held;
  parts = λ more may. subst (Salvages s.limit 0 (fed ++ more) told) (sym (same_bytes so.skipped s.held more x.passed)) (so.parts more may);
  none = λ more may.
      let parts : s.held ++ more ≡ take x.passed s.held ++ (drop x.passed s.held ++ more) =
      ap (λ (b : List ℕ). b ++ more) (sym (take-append-drop x.passed s.held)) ∙ append_assoc (take x.passed s.held) (drop x.passed s.held) more in
      none_joined s.limit so.skipped (take x.passed s.held) (drop x.passed s.held ++ more) (subst (NoneBegins s.limit so.skipped) parts (so.none more may)) (is.none more may);
  in_gap = in_gap_on ended s x so.skipped s.gap x.gap so.in_gap is.within is.gap_is;
  size = omega (arith, so.size, is.within, length-drop x.passed s.held);
}

-- where the parts end that were told
place_of : (ended : Bool) (fed : List ℕ) (told : List Part) (s : Salvaging) (so : SoFar ended fed told s) (place : ℕ) (more : List ℕ) → place + length so.skipped ≡ s.start
    → place + length ((so.skipped ++ s.held) ++ more) ≡ 0 + length (fed ++ more)
place_of ended fed told s so place more at =
    omega (arith, at, so.size, length-append (so.skipped ++ s.held) more, length-append so.skipped s.held, length-append fed more)

abbrev gap_from : ℕ → ℕ → GapFault → Gap
gap_from from to f = record { from = from; to = to; fault = f }

-- a gap ended
gap_told : (ended : Bool) (fed : List ℕ) (told : List Part) (s : Salvaging) (so : SoFar ended fed told s) (g : Gap) → IsInGap ended s so.skipped (Some (record { from = g.from; fault = g.fault }))
    → g.to ≡ s.start → ((more : List ℕ) → MayFollow ended more → (s.held ++ more ≡ []) ⊎ BeginsDocument s.limit (s.held ++ more)) → SoFar ended fed (told ++ a_gap g ∷ []) (record s { gap = None })
gap_told ended fed told s so g (some, at, fault) to ends = record {
  skipped = [];
  parts = λ more may.
      let whole : Gap = gap_from g.from (g.from + length so.skipped) g.fault in
      let same : whole ≡ g = ap (λ (n : ℕ). gap_from g.from n g.fault) (at ∙ sym to) in
      let one : Salvages s.limit g.from ((so.skipped ++ s.held) ++ more) (a_gap whole ∷ []) (s.held ++ more) =
      at_gap g.fault so.skipped (s.held ++ more) some (append_assoc so.skipped s.held more) (so.none more may) (fault more may) (ends more may) no_more in
      joined s.limit 0 g.from (fed ++ more) ((so.skipped ++ s.held) ++ more) (s.held ++ more) told (a_gap g ∷ []) (so.parts more may)
      (subst (λ (x : Gap). Salvages s.limit g.from ((so.skipped ++ s.held) ++ more) (a_gap x ∷ []) (s.held ++ more)) same one)
      (place_of ended fed told s so g.from more at);
  none = λ more may. tt;
  in_gap = refl;
  size = so.size;
}

-- a document is in front
begins : (limit : ℕ) (held more : List ℕ) (len : ℕ) (canonical : Bool) → IsDocumentOf limit held len canonical → BeginsDocument limit (held ++ more)
begins limit held more len canonical (within, le, s, form) = (
  s.0,
  take len held,
  drop len held ++ more,
  s.1,
  omega (arith, within, le, length-take len held),
  ap (λ (x : List ℕ). x ++ more) (sym (take-append-drop len held)) ∙ append_assoc (take len held) (drop len held) more,
)

-- ---- what a search found

nothing_undecided : (limit : ℕ) → IsUndecided limit []
nothing_undecided limit = (nothing_open, λ a. omega (arith, a.complete))

-- what it leaves
gap_left : (limit : ℕ) (ended : Bool) (start n : ℕ) (held : List ℕ) (gap after : Option GapStart) → IsGapBehind limit ended start held n gap after → n ≤ length held
    → 2 * length (drop n held) + open_gaps after ≤ 2 * length held + open_gaps gap
gap_left limit ended start n held (Some g) after is le = omega (arith, ap open_gaps is, length-drop n held, le)
gap_left limit ended start n held None None is le = omega (arith, length-drop n held, le)
gap_left limit ended start n held None (Some g) is le = omega (arith, is.0, length-drop n held, le)

pub leaves_less : (ended : Bool) (s : Salvaging) (x : Sought) (gap : Option GapStart) (f : Find) → IsSought s.limit ended s.start s.held s.gap x → IsOutcome ended (s.start + x.passed) x gap f
    → LeavesLess s (record (behind s x) { gap = gap }) f
leaves_less ended s x gap find.Nothing is o = omega (arith, gap_left s.limit ended s.start x.passed s.held s.gap x.gap is.gap_is is.within, ap open_gaps o.0)
leaves_less ended s x gap (find.Gap g) is o = omega (arith, gap_left s.limit ended s.start x.passed s.held s.gap x.gap is.gap_is is.within, ap open_gaps o.0, ap open_gaps o.1)
leaves_less ended s x gap (find.Document len canonical) is o = omega (arith, gap_left s.limit ended s.start x.passed s.held s.gap x.gap is.gap_is is.within, ap open_gaps o.0)

-- a document that was found is in front
pub front_found : (ended : Bool) (s : Salvaging) (x : Sought) (gap : Option GapStart) (f : Find) (len : ℕ) (canonical : Bool) → IsSought s.limit ended s.start s.held s.gap x
    → IsOutcome ended (s.start + x.passed) x gap f → f ≡ find.Document len canonical → IsDocumentOf s.limit (drop x.passed s.held) len canonical
front_found ended s x gap f len canonical is o same =
    let at = subst (IsOutcome ended (s.start + x.passed) x gap) same o in
    subst (IsStand s.limit ended (drop x.passed s.held)) at.2 is.stand_is

nothing_found : (ended : Bool) (s : Salvaging) (x : Sought) → IsStand s.limit ended (drop x.passed s.held) x.stand
    → (x.stand ≡ stand.Open) ⊎ ((x.stand ≡ stand.End) × (ended ≡ true → x.gap ≡ None))
    → (ended ≡ false → IsUndecided s.limit (drop x.passed s.held)) × (ended ≡ true → (drop x.passed s.held ≡ []) × (x.gap ≡ None))
nothing_found ended s x at (inl is) =
    let wants = subst (IsStand s.limit ended (drop x.passed s.held)) is at in
    (λ e. wants.1, λ e. absurd (true≢false (sym e ∙ wants.0)))
nothing_found ended s x at (inr (is, none)) =
    let empty = subst (IsStand s.limit ended (drop x.passed s.held)) is at in
    (λ e. subst (IsUndecided s.limit) (sym empty) (nothing_undecided s.limit), λ e. (empty, none e))

pub found : (ended : Bool) (fed : List ℕ) (told : List Part) (s : Salvaging) (x : Sought) (gap : Option GapStart) (f : Find) → SoFar ended fed told s
    → IsSought s.limit ended s.start s.held s.gap x → IsOutcome ended (s.start + x.passed) x gap f → IsFound ended fed told (record (behind s x) { gap = gap }) f
found ended fed told s x gap find.Nothing so is (same, why) =
    let on = sought_on ended fed told s x so is in
    let why_not = nothing_found ended s x is.stand_is why in
    (subst (λ (g : Option GapStart). SoFar ended fed told (record (behind s x) { gap = g })) (sym same) on, (why_not.0, λ e. ((why_not.1 e).0, same ∙ (why_not.1 e).1)))
found ended fed told s x gap (find.Gap g) so is (none, was, to, ends) =
    let on = sought_on ended fed told s x so is in
    subst (λ (k : Option GapStart). SoFar ended fed (told ++ a_gap g ∷ []) (record (behind s x) { gap = k })) (sym none)
    (gap_told ended fed told (behind s x) on g (subst (IsInGap ended (behind s x) on.skipped) was on.in_gap) to (λ more may. ends_so more may ends))
  where
    ends_so : (more : List ℕ) → MayFollow ended more → ((len : ℕ) × (canonical : Bool) × (x.stand ≡ stand.Document len canonical)) ⊎ ((x.stand ≡ stand.End) × (ended ≡ true))
        → (drop x.passed s.held ++ more ≡ []) ⊎ BeginsDocument s.limit (drop x.passed s.held ++ more)
    ends_so more may (inl (len, canonical, at)) =
        inr (begins s.limit (drop x.passed s.held) more len canonical (subst (IsStand s.limit ended (drop x.passed s.held)) at is.stand_is))
    ends_so more may (inr (at, e)) = inl (ap (λ (b : List ℕ). b ++ more) (subst (IsStand s.limit ended (drop x.passed s.held)) at is.stand_is) ∙ may e)
found ended fed told s x gap (find.Document len canonical) so is (none, was, at) =
    let on = sought_on ended fed told s x so is in (
      subst (λ (k : Option GapStart). SoFar ended fed told (record (behind s x) { gap = k })) (was ∙ sym none) on,
      none,
      subst (IsStand s.limit ended (drop x.passed s.held)) at is.stand_is,
    )

-- ---- one search, where what is held is the end of longer memory

abbrev pub seen : ℕ → ℕ → List ℕ → Option GapStart → ℕ → Salvaging
seen limit start held gap room = record { limit = limit; start = start; held = held; gap = gap; room = room }

module _ (limit start room at : ℕ) (bytes : List ℕ) (ended : Bool) (before after : Option GapStart) (x : Sought) (f : Find)
    (is : IsSought limit ended start (drop at bytes) before x) (o : IsOutcome ended (start + x.passed) x after f) where
  -- what is held then
  held_then : drop x.passed (drop at bytes) ≡ drop (at + x.passed) bytes
  held_then = drop-drop x.passed at bytes

  pub found_then : (fed : List ℕ) (told : List Part) → SoFar ended fed told (seen limit start (drop at bytes) before room)
      → IsFound ended fed told (seen limit (start + x.passed) (drop (at + x.passed) bytes) after room) f
  found_then fed told so =
      subst (λ (b : List ℕ). IsFound ended fed told (seen limit (start + x.passed) b after room) f) held_then
      (found ended fed told (seen limit start (drop at bytes) before room) x after f so is o)

  pub front_then : (len : ℕ) (canonical : Bool) → f ≡ find.Document len canonical → IsDocumentOf limit (drop (at + x.passed) bytes) len canonical
  front_then len canonical same =
      subst (λ (b : List ℕ). IsDocumentOf limit b len canonical) held_then
      (front_found ended (seen limit start (drop at bytes) before room) x after f len canonical is o same)

  pub less_then : LeavesLess (seen limit start (drop at bytes) before room) (seen limit (start + x.passed) (drop (at + x.passed) bytes) after room) f
  less_then =
      subst (λ (b : List ℕ). LeavesLess (seen limit start (drop at bytes) before room) (seen limit (start + x.passed) b after room) f) held_then
      (leaves_less ended (seen limit start (drop at bytes) before room) x after f is o)

  pub within_then : x.passed ≤ length bytes - at
  within_then = omega (arith, is.within, length-drop at bytes)

-- ---- the parts of all bytes

-- the stream ended, and all was told
pub all_told : (limit : ℕ) (fed : List ℕ) (told : List Part) (s : Salvaging) → SoFar true fed told s → IsSettled true s → s.limit ≡ limit → AreParts limit fed told
all_told limit fed told s so settled same =
    let end = settled.1 refl in
    let bare : so.skipped ≡ [] = subst (IsInGap true s so.skipped) end.1 so.in_gap in
    let none : (so.skipped ++ s.held) ++ [] ≡ [] = ap (λ (b : List ℕ). (b ++ s.held) ++ []) bare ∙ ap (λ (b : List ℕ). b ++ []) end.0 in
    subst (λ (n : ℕ). AreParts n fed told) same (subst (λ (b : List ℕ). Salvages s.limit 0 b told []) (append-nil fed)
    (subst (Salvages s.limit 0 (fed ++ []) told) none (so.parts [] (λ e. refl))))

-- more bytes decide
pub told_so_far : (limit : ℕ) (fed : List ℕ) (told : List Part) (s : Salvaging) → SoFar false fed told s → IsSettled false s → s.limit ≡ limit → ArePartsSoFar limit fed told
told_so_far limit fed told s so settled same =
    subst (λ (n : ℕ). ArePartsSoFar n fed told) same
    (so.skipped, s.held, (λ more. so.parts more (λ e. absurd (true≢false (sym e)))), (λ more. so.none more (λ e. absurd (true≢false (sym e)))), settled.0 refl)

-- the first parts, whatever follows
pub told_first : (limit : ℕ) (ended : Bool) (fed more : List ℕ) (told : List Part) (s : Salvaging) → SoFar ended fed told s → s.limit ≡ limit → MayFollow ended more
    → (rest : List ℕ) × Salvages limit 0 (fed ++ more) told rest
told_first limit ended fed more told s so same may =
    ((so.skipped ++ s.held) ++ more, subst (λ (n : ℕ). Salvages n 0 (fed ++ more) told ((so.skipped ++ s.held) ++ more)) same (so.parts more may))

-- no more bytes come
pub ended_now : (fed : List ℕ) (told : List Part) (s : Salvaging) → SoFar false fed told s → SoFar true fed told s
ended_now fed told s so = record {
  skipped = so.skipped;
  parts = λ more may. so.parts more (λ e. absurd (true≢false (sym e)));
  none = λ more may. so.none more (λ e. absurd (true≢false (sym e)));
  in_gap = ended_gap s.gap so.in_gap;
  size = so.size;
}
  where
    ended_gap : (gap : Option GapStart) → IsInGap false s so.skipped gap → IsInGap true s so.skipped gap
    ended_gap None is = is
    ended_gap (Some g) (some, at, fault) = (some, at, (λ more may. fault more (λ e. absurd (true≢false (sym e)))))

-- ---- other steps

pub fresh_settled : (limit room : ℕ) → IsSettled false (record { limit = limit; start = 0; held = []; gap = None; room = room })
fresh_settled limit room = (λ e. nothing_undecided limit, λ e. absurd (true≢false (sym e)))

pub fresh : (limit room : ℕ) → SoFar false [] [] (record { limit = limit; start = 0; held = []; gap = None; room = room })
fresh limit room = record { skipped = []; parts = λ more may. no_more; none = λ more may. tt; in_gap = refl; size = refl }

in_gap_fed : (s : Salvaging) (piece skipped : List ℕ) (room : ℕ) (gap : Option GapStart) → IsInGap false s skipped gap → IsInGap false (record s { held = s.held ++ piece; room = room }) skipped gap
in_gap_fed s piece skipped room None is = is
in_gap_fed s piece skipped room (Some g) (some, at, fault) = (
  some,
  at,
  (λ more may. subst (λ (b : List ℕ). IsGapFault s.limit g.from b g.fault) (sym (ap (λ (b : List ℕ). b ++ more) (sym (append_assoc skipped s.held piece)) ∙ append_assoc (skipped ++ s.held) piece more))
      (fault (piece ++ more) (λ e. absurd (true≢false (sym e))))),
)

-- a piece came
pub fed_on : (fed piece : List ℕ) (told : List Part) (s : Salvaging) (room : ℕ) → SoFar false fed told s → SoFar false (fed ++ piece) told (record s { held = s.held ++ piece; room = room })
fed_on fed piece told s room so = record {
  skipped = so.skipped;
  parts = λ more may.
      let same : (so.skipped ++ s.held) ++ (piece ++ more) ≡ (so.skipped ++ (s.held ++ piece)) ++ more =
      sym (append_assoc (so.skipped ++ s.held) piece more) ∙ ap (λ (b : List ℕ). b ++ more) (append_assoc so.skipped s.held piece) in
      subst (λ (b : List ℕ). Salvages s.limit 0 b told ((so.skipped ++ (s.held ++ piece)) ++ more)) (sym (append_assoc fed piece more))
      (subst (Salvages s.limit 0 (fed ++ (piece ++ more)) told) same (so.parts (piece ++ more) (λ e. absurd (true≢false (sym e)))));
  none = λ more may. subst (NoneBegins s.limit so.skipped) (sym (append_assoc s.held piece more)) (so.none (piece ++ more) (λ e. absurd (true≢false (sym e))));
  in_gap = in_gap_fed s piece so.skipped room s.gap so.in_gap;
  size = omega (arith, so.size, length-append s.held piece, length-append fed piece);
}

-- the document in front was let go
pub released : (ended : Bool) (fed : List ℕ) (told : List Part) (s : Salvaging) (t : Tree) (len : ℕ) → len ≤ length s.held → SoFar ended fed told s → s.gap ≡ None → len ≤ s.limit
    → Spells t (take len s.held) → SoFar ended fed (told ++ a_document s.start t ∷ []) (record s { start = s.start + len; held = drop len s.held })
released ended fed told s t len within so none le spelled =
    let bare : so.skipped ≡ [] = subst (IsInGap ended s so.skipped) none so.in_gap in
    let size : length (take len s.held) ≡ len = omega (arith, within, length-take len s.held) in
    record {
      skipped = [];
      parts = λ more may.
          let parts : (so.skipped ++ s.held) ++ more ≡ take len s.held ++ (drop len s.held ++ more) =
          ap (λ (b : List ℕ). (b ++ s.held) ++ more) bare ∙ ap (λ (b : List ℕ). b ++ more) (sym (take-append-drop len s.held)) ∙ append_assoc (take len s.held) (drop len s.held) more in
          let one : Salvages s.limit s.start ((so.skipped ++ s.held) ++ more) (a_document s.start t ∷ []) (drop len s.held ++ more) =
          at_document t (take len s.held) (drop len s.held ++ more) spelled (omega (arith, size, le)) parts no_more in
          joined s.limit 0 s.start (fed ++ more) ((so.skipped ++ s.held) ++ more) (drop len s.held ++ more) told (a_document s.start t ∷ []) (so.parts more may) one
          (place_of ended fed told s so s.start more (omega (arith, ap length bare)));
      none = λ more may. tt;
      in_gap = subst (IsInGap ended (record s { start = s.start + len; held = drop len s.held }) []) (sym none) refl;
      size = omega (arith, so.size, within, length-drop len s.held);
    }

-- ---- other steps, where what is held is the end of longer memory

pub released_then : (limit start room at len : ℕ) (bytes : List ℕ) (gap : Option GapStart) → len ≤ length (drop at bytes) → (ended : Bool) (fed : List ℕ) (told : List Part) (t : Tree)
    → SoFar ended fed told (seen limit start (drop at bytes) gap room) → gap ≡ None → len ≤ limit → Spells t (take len (drop at bytes))
    → SoFar ended fed (told ++ a_document start t ∷ []) (seen limit (start + len) (drop (at + len) bytes) gap room)
released_then limit start room at len bytes gap within ended fed told t so none le spelled =
    subst (λ (b : List ℕ). SoFar ended fed (told ++ a_document start t ∷ []) (seen limit (start + len) b gap room)) (drop-drop len at bytes)
    (released ended fed told (seen limit start (drop at bytes) gap room) t len within so none le spelled)

pub fed_then : (piece : List ℕ) (s new : Salvaging) → new ≡ record s { held = s.held ++ piece; room = new.room } → (fed : List ℕ) (told : List Part) → SoFar false fed told s
    → SoFar false (fed ++ piece) told new
fed_then piece s new same fed told so = subst (SoFar false (fed ++ piece) told) (sym same) (fed_on fed piece told s new.room so)
