-- What opening and ending containers makes of what is built.
use Rattle.std.proofs.Common.{◌≡◌, ℕ, ◌+◌, ◌-◌, ◌≤◌, ◌<◌, ◌^◌, List, [], ◌∷◌, ◌++◌, length, take, drop, refl, sym, ap, ◌∙◌, subst, arith, append_assoc, length-append}
use Rattle.std.specs.Prelude.{Bool, true, false, Option, Some, None, nat_eq, if◌then◌else◌}
use Rattle.std.proofs.Math.Seq.{take-append_seam}
use Rattle.std.proofs.lemmas.List.{take-append-drop, length-take-le, length-drop}
use Rattle.bson_elem.specs.declared.kinds.Kind.{Kind}
use Rattle.bson_elem.specs.declared.kinds.Kind.TheVariants as kinds
use Rattle.bson_elem.specs.Kinds.{Form, byte_of, document_form, form_of}
use Rattle.bson_elem.specs.Spelling.{cstring, document, elements, little, Fits, IsName, Spells, StandsIn}
use Rattle.bson_elem.specs.Trees.{Tree, no_code, no_pairs}
use Rattle.bson_raw.specs.Pairs.{document_value}
use Rattle.bson_doc.specs.Appended.{with_pair_appended}
use Rattle.bson_doc.specs.Values.{element_bytes}
use Rattle.byte_views.specs.declared.build.builder.Builder.{Builder}
use Rattle.byte_views.specs.declared.build.built.Built.{Built}
use Rattle.byte_views.specs.Appends.{is_put, is_pushed, no_name, too_large, too_short}
use Rattle.byte_views.specs.Builders.{Builds, longer, next_name, pair_bytes}
use Rattle.byte_views.specs.Nesting.{IsBegun, IsEnded, IsFinished, StandsBehind, cannot_end, cannot_finish, closed, container_of, deeper, first_builder, four_zeros, is_ended, is_finished, is_too_short, no_place, is_open, is_shut, no_kind, opened, out_of_range, too_deep, with_inner}
use Rattle.byte_views.specs.Placing.{placed}
use Rattle.byte_views.proofs.Building.{front_is, front_of, grown, length-front, length-pair, refusal_is}
use Rattle.byte_views.proofs.BuildPlaces.{placed_seam}

pub begins : (room : List ℕ) → 5 ≤ length room → Builds room first_builder no_pairs
begins room five = record {
  before = [];
  four = take 4 room;
  behind = drop 4 room;
  room_is = sym (take-append-drop 4 room);
  start_is = refl;
  four_are = length-take-le 4 room (omega (arith, five));
  end_is = refl;
  count_is = refl;
  open_one = omega arith;
  not_deep = omega arith;
  ends = omega (arith, five, length-drop 4 room);
  short = omega arith;
  fits = tt;
}

-- ---- opening

-- bytes behind the pairs leave these as they are
pub behind_kept : (room new part rest : List ℕ) (b : Builder) (t : Tree) (s : Builds room b t) → new ≡ front_of room b t s ++ (part ++ rest) → b.depth ≤ length part + length rest → Builds new b t
behind_kept room new part rest b t s is ends = record {
  before = s.before;
  four = s.four;
  behind = part ++ rest;
  room_is = is ∙ append_assoc s.before (s.four ++ elements t) (part ++ rest) ∙ ap (λ (x : List ℕ). s.before ++ x) (append_assoc s.four (elements t) (part ++ rest));
  start_is = s.start_is;
  four_are = s.four_are;
  end_is = s.end_is;
  count_is = s.count_is;
  open_one = s.open_one;
  not_deep = s.not_deep;
  ends = omega (arith, ends, length-append part rest);
  short = s.short;
  fits = s.fits;
}

abbrev form_is : Option Kind → Type 0
form_is (Some j) = form_of j ≡ document_form
form_is None = Unit {0}

which_form : (three four : Bool) (k : Kind) → (if three then Some kinds.Document else if four then Some kinds.Array else None) ≡ Some k → form_of k ≡ document_form
which_form true four k e = subst form_is e refl
which_form false true k e = subst form_is e refl
which_form false false k e = absurd cc

container_form : (n : ℕ) (k : Kind) → container_of n ≡ Some k → form_of k ≡ document_form
container_form n k is = which_form (nat_eq n 3) (nat_eq n 4) k is

opens_behind : (room new : List ℕ) (b after inner : Builder) (k : Kind) (name : List ℕ) (kind : ℕ) (t : Tree) → Builds room b t → b.depth < 200 → IsName name → form_of k ≡ document_form
    → b.end + length (pair_bytes k name four_zeros) + (b.depth + 1) ≤ length room → b.end + length (pair_bytes k name four_zeros) + (b.depth + 1) < 2 ^ 31
    → new ≡ placed b.end (pair_bytes k name four_zeros) room → after ≡ longer (deeper b) (length (pair_bytes k name four_zeros)) → inner ≡ opened after kind
    → Builds new b t × Builds new inner no_pairs × StandsBehind new b inner k name
opens_behind room new b after inner k name kind t s low named form within short is after-is inner-is =
    let part = pair_bytes k name four_zeros in let front = front_of room b t s in let head = byte_of k ∷ cstring name in
    let mid = take (length part) s.behind in let rest = drop (length part) s.behind in
    let size : length part ≡ length name + 2 + 4 = length-pair k name four_zeros in
    let head-size : length head ≡ length name + 2 = omega (arith, length-append name (0 ∷ [])) in
    let all : length room ≡ b.end + length s.behind = omega (arith, ap length (front_is room b t s), length-append front s.behind, length-front room b t s) in
    let mid-is : length mid ≡ length part = length-take-le (length part) s.behind (omega (arith, within, all)) in
    let room-is : room ≡ front ++ (mid ++ rest) = front_is room b t s ∙ ap (λ (x : List ℕ). front ++ x) (sym (take-append-drop (length part) s.behind)) in
    let new-is : new ≡ front ++ (part ++ rest) =
    is ∙ ap (λ (x : List ℕ). placed b.end part x) room-is ∙ ap (λ (e : ℕ). placed e part (front ++ (mid ++ rest))) (sym (length-front room b t s)) ∙ placed_seam front mid part rest (sym mid-is) in
    let split : new ≡ (front ++ head) ++ (four_zeros ++ rest) =
    new-is ∙ ap (λ (x : List ℕ). front ++ (byte_of k ∷ x)) (append_assoc (cstring name) four_zeros rest) ∙ sym (append_assoc front head (four_zeros ++ rest)) in
    let end-is : inner.end ≡ b.end + length part = ap (λ (x : Builder). x.end) (inner-is ∙ ap (λ (x : Builder). opened x kind) after-is) in
    let start-is : inner.start ≡ b.end + length name + 2 = omega (arith, size, ap (λ (x : Builder). x.start) (inner-is ∙ ap (λ (x : Builder). opened x kind) after-is)) in
    let depth-is : inner.depth ≡ b.depth + 1 = ap (λ (x : Builder). x.depth) (inner-is ∙ ap (λ (x : Builder). opened x kind) after-is) in
    let count-is : inner.count ≡ 0 = ap (λ (x : Builder). x.count) (inner-is ∙ ap (λ (x : Builder). opened x kind) after-is) in
    let before-is : length (front ++ head) ≡ inner.start = omega (arith, start-is, length-append front head, length-front room b t s, head-size) in (
      behind_kept room new part rest b t s new-is (omega (arith, within, all, length-drop (length part) s.behind)),
      record {
        before = front ++ head;
        four = four_zeros;
        behind = rest;
        room_is = split;
        start_is = before-is;
        four_are = refl;
        end_is = omega (arith, end-is, start-is, size);
        count_is = count-is;
        open_one = omega (arith, depth-is);
        not_deep = omega (arith, depth-is, low);
        ends = omega (arith, depth-is, within, all, length-drop (length part) s.behind);
        short = omega (arith, depth-is, end-is, short);
        fits = tt;
      },
      record {
        head_is = ap (λ (x : List ℕ). take inner.start x) split ∙ ap (λ (n : ℕ). take n ((front ++ head) ++ (four_zeros ++ rest))) (sym before-is) ∙ take-append_seam (front ++ head) (four_zeros ++ rest)
            ∙ ap (λ (x : List ℕ). x ++ head) (sym (ap (λ (x : List ℕ). take b.end x) new-is ∙ ap (λ (n : ℕ). take n (front ++ (part ++ rest))) (sym (length-front room b t s)) ∙ take-append_seam front (part ++ rest)));
        start_is = start-is;
        deeper = depth-is;
        named = named;
        kind_is = form;
      },
    )

pub opens : (room new : List ℕ) (outer old inner : Builder) (name : List ℕ) (kind : ℕ) (t : Tree) (w : Built) → IsBegun room outer name kind old new inner w → Builds room outer t → w.refusal ≡ 0
    → Builds new outer t × Builds new inner no_pairs × ((k : Kind) × StandsBehind new outer inner k (next_name outer name))
opens room new outer old inner name kind t w (is_open k after inside low is (is_pushed named (is_put within short told placed-is after-is)) none inner-is) s zero =
    let all = opens_behind room new outer after inner k (next_name outer name) kind t s low named (container_form kind k is) within short placed-is after-is inner-is in
    (all.0, all.1, (k, all.2))
opens room new outer old inner name kind t w (is_open k after inside low is (is_pushed named (too_short less short told new-is after-is)) none inner-is) s zero = absurd (omega (arith, zero, ap (λ (x : Built). x.refusal) told))
opens room new outer old inner name kind t w (is_open k after inside low is (is_pushed named (too_large long told new-is after-is)) none inner-is) s zero = absurd (refusal_is w 252 told zero)
opens room new outer old inner name kind t w (is_open k after inside low is (no_name plain unnamed told new-is after-is) none inner-is) s zero = absurd (refusal_is w 1 told zero)
opens room new outer old inner name kind t w (is_shut k after inside low is pushed some inner-is) s zero = absurd (some zero)
opens room new outer old inner name kind t w (out_of_range outside told new-is inner-is) s zero = absurd (refusal_is w 254 told zero)
opens room new outer old inner name kind t w (no_kind inside unknown told new-is inner-is) s zero = absurd (refusal_is w 0 told zero)
opens room new outer old inner name kind t w (too_deep k inside is deep told new-is inner-is) s zero = absurd (refusal_is w 3 told zero)

-- ---- ending

-- the bytes of a container that is ended, between what is before and behind it
pub closed_is : (room new : List ℕ) (b : Builder) (t : Tree) (s : Builds room b t) → new ≡ closed b.start b.end room → new ≡ s.before ++ (document (elements t) ++ drop 1 s.behind)
closed_is room new b t s is =
    let es = elements t in let size = b.end + 1 - b.start in let mid = take 1 s.behind in let rest = drop 1 s.behind in
    let size-is : size ≡ length es + 5 = omega (arith, s.end_is) in
    let one : placed b.start (little size) room ≡ s.before ++ (little size ++ (es ++ s.behind)) =
    ap (λ (x : List ℕ). placed b.start (little size) x) s.room_is ∙ ap (λ (n : ℕ). placed n (little size) (s.before ++ (s.four ++ (es ++ s.behind)))) (sym s.start_is)
    ∙ placed_seam s.before s.four (little size) (es ++ s.behind) (sym s.four_are) in
    let front = s.before ++ (little size ++ es) in
    let split : s.before ++ (little size ++ (es ++ s.behind)) ≡ front ++ (mid ++ rest) =
    ap (λ (x : List ℕ). s.before ++ (little size ++ (es ++ x))) (sym (take-append-drop 1 s.behind)) ∙ ap (λ (x : List ℕ). s.before ++ x) (sym (append_assoc (little size) es (mid ++ rest))) ∙ sym (append_assoc s.before (little size ++ es) (mid ++ rest)) in
    let front-is : length front ≡ b.end = omega (arith, length-append s.before (little size ++ es), length-append (little size) es, s.start_is, s.end_is) in
    let mid-is : length mid ≡ 1 = length-take-le 1 s.behind (omega (arith, s.open_one, s.ends)) in
    is ∙ ap (λ (x : List ℕ). placed b.end (0 ∷ []) x) (one ∙ split) ∙ ap (λ (n : ℕ). placed n (0 ∷ []) (front ++ (mid ++ rest))) (sym front-is) ∙ placed_seam front mid (0 ∷ []) rest (sym mid-is)
    ∙ append_assoc s.before (little size ++ es) (0 ∷ rest) ∙ ap (λ (x : List ℕ). s.before ++ x) (append_assoc (little size) es (0 ∷ rest) ∙ ap (λ (n : ℕ). little n ++ (es ++ 0 ∷ rest)) size-is
    ∙ ap (λ (x : List ℕ). little (length es + 5) ++ x) (sym (append_assoc es (0 ∷ []) rest)) ∙ sym (append_assoc (little (length es + 5)) (es ++ 0 ∷ []) rest))

length-doc : (es : List ℕ) → length (document es) ≡ length es + 5
length-doc es = omega (arith, length-append (little (length es + 5)) (es ++ 0 ∷ []), length-append es (0 ∷ []))

ends_inner : (room new : List ℕ) (outer inner after : Builder) (t u : Tree) (k : Kind) (name : List ℕ) → Builds room outer t → Builds room inner u → StandsBehind room outer inner k name
    → new ≡ closed inner.start inner.end room → after ≡ with_inner outer inner → Builds new after (with_pair_appended name (document_value k no_code u) t)
ends_inner room new outer inner after t u k name s i h is after-is =
    let front = front_of room outer t s in let head = byte_of k ∷ cstring name in let es = elements u in let rest = drop 1 i.behind in let v = document_value k no_code u in
    let outer-is : take outer.end room ≡ front = ap (λ (x : List ℕ). take outer.end x) (front_is room outer t s) ∙ ap (λ (n : ℕ). take n (front ++ s.behind)) (sym (length-front room outer t s)) ∙ take-append_seam front s.behind in
    let inner-is : take inner.start room ≡ i.before =
    ap (λ (x : List ℕ). take inner.start x) i.room_is ∙ ap (λ (n : ℕ). take n (i.before ++ (i.four ++ (es ++ i.behind)))) (sym i.start_is) ∙ take-append_seam i.before (i.four ++ (es ++ i.behind)) in
    let before-is : i.before ≡ front ++ head = sym inner-is ∙ h.head_is ∙ ap (λ (x : List ℕ). x ++ head) outer-is in
    let new-is : new ≡ front ++ (element_bytes name v ++ rest) =
    closed_is room new inner u i is ∙ ap (λ (x : List ℕ). x ++ (document es ++ rest)) before-is ∙ append_assoc front head (document es ++ rest)
    ∙ ap (λ (x : List ℕ). front ++ (byte_of k ∷ x)) (sym (append_assoc (cstring name) (document es) rest)) in
    let size : length (element_bytes name v) ≡ length name + 2 + (length es + 5) = omega (arith, length-pair k name (document es), length-doc es) in
    let end-is : inner.end + 1 ≡ outer.end + length (element_bytes name v) = omega (arith, size, i.end_is, h.start_is) in
    let stands : StandsIn (form_of k) no_code = subst (λ (f : Form). StandsIn f no_code) (sym h.kind_is) tt in
    let inner-fits : Fits (outer.depth + 1) u = subst (λ (d : ℕ). Fits d u) h.deeper i.fits in
    subst (λ (x : Builder). Builds new x (with_pair_appended name v t)) (sym (after-is ∙ ap (λ (e : ℕ). record outer { end = e; count = outer.count + 1 }) end-is))
    (grown room new outer t name v s rest (h.named, stands, omega (arith, h.deeper, i.not_deep), omega (arith, length-doc es, i.short, i.end_is, i.open_one), inner-fits, tt) new-is
    (omega (arith, length-drop 1 i.behind, i.ends, h.deeper)) (omega (arith, end-is, i.short, h.deeper)))

pub ends_pairs : (room new : List ℕ) (outer inner after : Builder) (t u : Tree) (k : Kind) (name : List ℕ) (w : Built) → IsEnded room outer inner new after w → Builds room outer t → Builds room inner u
    → StandsBehind room outer inner k name → w.refusal ≡ 0 → Builds new after (with_pair_appended name (document_value k no_code u) t)
ends_pairs room new outer inner after t u k name w (is_ended can room-is is after-is told) s i h none = ends_inner room new outer inner after t u k name s i h is after-is
ends_pairs room new outer inner after t u k name w (is_too_short can short told new-is after-is) s i h none = absurd (omega (arith, none, ap (λ (x : Built). x.refusal) told))
ends_pairs room new outer inner after t u k name w (cannot_end unable told new-is after-is) s i h none = absurd (refusal_is w 254 told none)

pub finishes : (room new : List ℕ) (b : Builder) (t : Tree) (w : Built) → IsFinished room b new w → Builds room b t → b.start ≡ 0 → b.depth ≡ 1 → w.refusal ≡ 0 → Spells t (take w.wanted new)
finishes room new b t w (cannot_finish unable told new-is) s start one none = absurd (refusal_is w 254 told none)
finishes room new b t w (no_place known short told new-is) s start one none = absurd (omega (arith, none, ap (λ (x : Built). x.refusal) told))
finishes room new b t w (is_finished can room-is is told) s start one none =
    let es = elements t in let rest = drop 1 s.behind in
    let wanted-is : w.wanted ≡ length (document es) = omega (arith, ap (λ (x : Built). x.wanted) told, length-doc es, s.end_is, start) in
    let new-is : new ≡ document es ++ rest = closed_is room new b t s is ∙ ap (λ (x : List ℕ). x ++ (document es ++ rest)) (no_bytes s.before (s.start_is ∙ start)) in
    let taken : take w.wanted new ≡ document es = ap (λ (n : ℕ). take n new) wanted-is ∙ ap (λ (x : List ℕ). take (length (document es)) x) new-is ∙ take-append_seam (document es) rest in
    record {
      parts = taken;
      short = omega (arith, ap length taken, length-doc es, s.end_is, s.short, one);
      fits = subst (λ (d : ℕ). Fits d t) one s.fits;
    }
  where
    no_bytes : (bytes : List ℕ) → length bytes ≡ 0 → bytes ≡ []
    no_bytes [] e = refl
    no_bytes (x ∷ bytes) e = absurd (omega (arith, e))
