-- What a call makes of what is built.
use Rattle.std.proofs.Common.{◌≡◌, ℕ, ◌+◌, ◌≤◌, ◌<◌, ◌^◌, List, [], ◌∷◌, ◌++◌, length, take, drop, refl, sym, ap, ◌∙◌, subst, arith, append_assoc, length-append}
use Rattle.std.proofs.lemmas.List.{take-append-drop, length-take-le, length-drop}
use Rattle.bson_elem.specs.declared.kinds.Kind.{Kind}
use Rattle.bson_elem.specs.Kinds.{form_of}
use Rattle.bson_elem.specs.Spelling.{cstring, elements, leaf_bytes, Fits}
use Rattle.bson_elem.specs.Trees.{Tree, no_pairs}
use Rattle.bson_raw.specs.Pairs.{TreeValue, leaf_value, with_first}
use Rattle.bson_doc.specs.Appended.{with_pair_appended}
use Rattle.bson_doc.specs.Values.{element_bytes}
use Rattle.byte_views.specs.declared.build.builder.Builder.{Builder}
use Rattle.byte_views.specs.declared.build.built.Built.{Built}
use Rattle.byte_views.specs.declared.build.given.ValueNumbers.{ValueNumbers}
use Rattle.byte_views.specs.Appends.{AppendsLeaf, IsAppended, IsPushed, IsPushedNamed, done, is_named, is_put, is_pushed, no_kind, no_name, no_room, no_value, out_of_range, refused, too_large, too_short, wanted_for}
use Rattle.byte_views.specs.Builders.{Builds, longer, next_name, pair_bytes}
use Rattle.byte_views.specs.Numbers.{given_leaf}
use Rattle.byte_views.specs.Placing.{placed}
use Rattle.byte_views.proofs.BuildPlaces.{placed_seam}
use Rattle.byte_views.proofs.Trees.{elements_longer, fits_longer, one_more}

-- the room, up to where the next pair goes and behind it
abbrev pub front_of : (room : List ℕ) (b : Builder) (t : Tree) → Builds room b t → List ℕ
front_of room b t s = s.before ++ (s.four ++ elements t)

pub front_is : (room : List ℕ) (b : Builder) (t : Tree) (s : Builds room b t) → room ≡ front_of room b t s ++ s.behind
front_is room b t s = s.room_is ∙ ap (λ (x : List ℕ). s.before ++ x) (sym (append_assoc s.four (elements t) s.behind)) ∙ sym (append_assoc s.before (s.four ++ elements t) s.behind)

pub length-front : (room : List ℕ) (b : Builder) (t : Tree) (s : Builds room b t) → length (front_of room b t s) ≡ b.end
length-front room b t s = omega (arith, length-append s.before (s.four ++ elements t), length-append s.four (elements t), s.start_is, s.four_are, s.end_is)

-- a pair more, behind the others
pub grown : (room new : List ℕ) (b : Builder) (t : Tree) (n : List ℕ) (v : TreeValue) (s : Builds room b t) (rest : List ℕ) → Fits b.depth (with_first n v no_pairs) → new ≡ front_of room b t s ++ (element_bytes n v ++ rest)
    → b.depth ≤ length rest → b.end + length (element_bytes n v) + b.depth < 2 ^ 31 → Builds new (longer b (length (element_bytes n v))) (with_pair_appended n v t)
grown room new b t n v s rest last is ends short =
    let part = element_bytes n v in
    let more-is : elements t ++ (part ++ rest) ≡ elements (with_pair_appended n v t) ++ rest = sym (append_assoc (elements t) part rest) ∙ ap (λ (x : List ℕ). x ++ rest) (sym (elements_longer n v t)) in
    record {
      before = s.before;
      four = s.four;
      behind = rest;
      room_is = is ∙ append_assoc s.before (s.four ++ elements t) (part ++ rest) ∙ ap (λ (x : List ℕ). s.before ++ x) (append_assoc s.four (elements t) (part ++ rest) ∙ ap (λ (x : List ℕ). s.four ++ x) more-is);
      start_is = s.start_is;
      four_are = s.four_are;
      end_is = omega (arith, s.end_is, ap length (elements_longer n v t), length-append (elements t) part);
      count_is = omega (arith, s.count_is, one_more n v t);
      open_one = s.open_one;
      not_deep = s.not_deep;
      ends = ends;
      short = short;
      fits = fits_longer b.depth n v t s.fits last;
    }

-- the same, put there
pub more : (room new : List ℕ) (b : Builder) (t : Tree) (n : List ℕ) (v : TreeValue) → Builds room b t → Fits b.depth (with_first n v no_pairs)
    → b.end + length (element_bytes n v) + b.depth ≤ length room → b.end + length (element_bytes n v) + b.depth < 2 ^ 31 → new ≡ placed b.end (element_bytes n v) room
    → Builds new (longer b (length (element_bytes n v))) (with_pair_appended n v t)
more room new b t n v s last within short is =
    let part = element_bytes n v in let front = front_of room b t s in
    let mid = take (length part) s.behind in let rest = drop (length part) s.behind in
    let all : length room ≡ b.end + length s.behind = omega (arith, ap length (front_is room b t s), length-append front s.behind, length-front room b t s) in
    let mid-is : length mid ≡ length part = length-take-le (length part) s.behind (omega (arith, within, all)) in
    let room-is : room ≡ front ++ (mid ++ rest) = front_is room b t s ∙ ap (λ (x : List ℕ). front ++ x) (sym (take-append-drop (length part) s.behind)) in
    let new-is : new ≡ front ++ (part ++ rest) =
    is ∙ ap (λ (x : List ℕ). placed b.end part x) room-is ∙ ap (λ (e : ℕ). placed e part (front ++ (mid ++ rest))) (sym (length-front room b t s)) ∙ placed_seam front mid part rest (sym mid-is) in
    grown room new b t n v s rest last new-is (omega (arith, within, all, length-drop (length part) s.behind)) short

-- ---- a pair that is put behind the others, or not

pub length-pair : (k : Kind) (name value : List ℕ) → length (pair_bytes k name value) ≡ length name + 2 + length value
length-pair k name value = omega (arith, length-append (cstring name) value, length-append name (0 ∷ []))

pub put_behind : (room new : List ℕ) (b after : Builder) (part : List ℕ) (wanted size : ℕ) (w : Built) → size ≡ length part → wanted ≡ b.end + size + b.depth → wanted ≤ length room → wanted < 2 ^ 31
    → w ≡ done wanted → new ≡ placed b.end part room → after ≡ longer b size → IsPushed room b part new after w
put_behind room new b after part wanted size w size-is is fits short told placed-is after-is =
    let same : wanted ≡ wanted_for b part = omega (arith, size-is, is) in
    is_put (omega (arith, same, fits)) (omega (arith, same, short)) (told ∙ ap (λ (n : ℕ). done n) same) placed-is (after-is ∙ ap (λ (n : ℕ). longer b n) size-is)

pub short_room : (room : List ℕ) (b : Builder) (part : List ℕ) (wanted size : ℕ) (w : Built) → size ≡ length part → wanted ≡ b.end + size + b.depth → length room < wanted → wanted < 2 ^ 31
    → w ≡ no_room wanted → IsPushed room b part room b w
short_room room b part wanted size w size-is is less short told =
    let same : wanted ≡ wanted_for b part = omega (arith, size-is, is) in
    too_short (omega (arith, same, less)) (omega (arith, same, short)) (told ∙ ap (λ (n : ℕ). no_room n) same) refl refl

-- the same pair, named and spelled otherwise
pub pushed_as : (room new : List ℕ) (b after : Builder) (k : Kind) (name name' value value' : List ℕ) (w : Built) → name ≡ name' → value ≡ value'
    → IsPushed room b (pair_bytes k name value) new after w → IsPushed room b (pair_bytes k name' value') new after w
pushed_as room new b after k name name' value value' w named valued p =
    subst (λ (n : List ℕ). IsPushed room b (pair_bytes k n value') new after w) named (subst (λ (v : List ℕ). IsPushed room b (pair_bytes k name v) new after w) valued p)

pub named_as : (room new : List ℕ) (b after : Builder) (k : Kind) (name value value' : List ℕ) (w : Built) → value ≡ value'
    → IsPushedNamed room b k name value new after w → IsPushedNamed room b k name value' new after w
named_as room new b after k name value value' w valued p = subst (λ (v : List ℕ). IsPushedNamed room b k name v new after w) valued p

pub refusal_is : (w : Built) (n : ℕ) → w ≡ refused (n + 1) → w.refusal ≡ 0 → ⊥
refusal_is w n is none = omega (arith, none, ap (λ (x : Built). x.refusal) is)

put_leaf : (room new : List ℕ) (b after : Builder) (name value : List ℕ) (k : Kind) (v : TreeValue) (t : Tree) (w : Built) → pair_bytes k name value ≡ element_bytes name v → Fits b.depth (with_first name v no_pairs)
    → IsPushed room b (pair_bytes k name value) new after w → Builds room b t → w.refusal ≡ 0 → Builds new after (with_pair_appended name v t)
put_leaf room new b after name value k v t w same last (is_put fits short told placed-is after-is) s none =
    subst (λ (x : Builder). Builds new x (with_pair_appended name v t)) (sym (after-is ∙ ap (λ (p : List ℕ). longer b (length p)) same))
    (more room new b t name v s last (omega (arith, fits, ap length same)) (omega (arith, short, ap length same)) (placed-is ∙ ap (λ (p : List ℕ). placed b.end p room) same))
put_leaf room new b after name value k v t w same last (too_short less short told new-is after-is) s none = absurd (omega (arith, none, ap (λ (x : Built). x.refusal) told))
put_leaf room new b after name value k v t w same last (too_large long told new-is after-is) s none = absurd (refusal_is w 252 told none)

pub appends_leaf : (room new : List ℕ) (b after : Builder) (name : List ℕ) (n : ValueNumbers) (text rest : List ℕ) (t : Tree) (w : Built) → IsAppended room b name n text rest new after w → Builds room b t → w.refusal ≡ 0
    → AppendsLeaf new b name n text rest after t
appends_leaf room new b after name n text rest t w (is_named k inside kind form (is_pushed named pushed)) s none =
    (k, kind, put_leaf room new b after (next_name b name) (leaf_bytes (form_of k) (given_leaf n text rest k)) k (leaf_value k (given_leaf n text rest k)) t w refl (named, form, tt) pushed s none)
appends_leaf room new b after name n text rest t w (is_named k inside kind form (no_name plain unnamed told new-is after-is)) s none = absurd (refusal_is w 1 told none)
appends_leaf room new b after name n text rest t w (out_of_range outside told new-is after-is) s none = absurd (refusal_is w 254 told none)
appends_leaf room new b after name n text rest t w (no_kind inside unknown told new-is after-is) s none = absurd (refusal_is w 0 told none)
appends_leaf room new b after name n text rest t w (no_value k inside kind unformed told new-is after-is) s none = absurd (refusal_is w 2 told none)
