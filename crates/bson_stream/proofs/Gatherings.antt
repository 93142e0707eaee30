-- Documents that are gathered out of pieces are those of the split.
use Rattle.std.proofs.Common.{◌≡◌, ◌≢◌, ℕ, ◌+◌, ◌-◌, ◌<◌, ◌≤◌, ◌⊎◌, inl, inr, Bor, List, [], ◌∷◌, ◌++◌, None, Some, Result, Ok, Err, length, take, drop, refl, sym, ap, subst, ◌∙◌, arith, append_assoc, append-nil, length-append, length-drop, length-take, take-add, take-append-drop, take_all, get_or}
use Rattle.std.proofs.Math.Seq.{take-length}
use Rattle.std.proofs.lemmas.Grind.{flat_map-append}
use Rattle.std.proofs.lemmas.List.{drop_more, take_more}
use Rattle.std.specs.List.{flat_map}
use Rattle.bson_elem.specs.declared.fault.BsonCause.TheVariants.{Truncated}
use Rattle.bson_elem.specs.declared.fault.BsonFault.{BsonFault}
use Rattle.bson_elem.specs.{Spells, Tree, document, elements, fault}
use Rattle.framing.proofs.Lemmas.{spell_each-push}
use Rattle.bson_raw.specs.{DocumentSplit, IsSpelled, documents_bytes}
use Rattle.bson_raw.proofs.Lemmas.{Walked, documents_bytes-append, one_more, walked_all, walked_to_fault}
use Rattle.bson_stream.specs.declared.reader_state.Fed.{Fed}
use Rattle.bson_stream.specs.declared.reader_state.ReadRefusal.{ReadRefusal}
use Rattle.bson_stream.specs.declared.reader_state.ReadRefusal.TheVariants.{OutOfMemory, TooFar, TooLong}
use Rattle.bson_stream.specs.declared.reader_state.ReaderState.TheVariants.{Need, Bad}
use Rattle.bson_stream.specs.Cutting.{Cuts, IsUnread, SpellEach, SpellsWithin}
use Rattle.bson_stream.specs.Gathering.{Gathered, Gathers, HasRead}
use Rattle.bson_stream.specs.Readers.{AnnouncesMore, Feeds, HoldsNoMore, IsInFront, IsRefused, Reading, StandsAt}
use Rattle.bson_stream.specs.Standing.{IsBad, IsLength, IsOpen, in_stream}
use Rattle.bson_stream.proofs.Standings.{announced_front, fault_longer, four_there, open_fault, spelled_length}

-- ---- what a reader has read

walked : (bytes : List ℕ) (ts : List Tree) (r : Reading) → HasRead bytes ts r → Walked bytes ts r.held
walked bytes ts r h = record { parts = h.parts; documents_fit = h.fit }

-- nothing at all
pub nothing_read : (r : Reading) → r.start ≡ 0 → r.held ≡ [] → HasRead [] [] r
nothing_read r zero none = record { fit = tt; parts = sym none; start_is = zero }

-- a piece was fed
pub fed_more : (bytes : List ℕ) (ts : List Tree) (old new : Reading) (piece : List ℕ) (fed : Fed) → HasRead bytes ts old → Feeds old piece new fed → HasRead (bytes ++ take fed.taken piece) ts new
fed_more bytes ts old new piece fed h f = record {
  fit = h.fit;
  parts = ap (λ (x : List ℕ). x ++ take fed.taken piece) h.parts ∙ append_assoc (documents_bytes ts) old.held (take fed.taken piece) ∙ ap (λ (x : List ℕ). documents_bytes ts ++ x) (sym f.held);
  start_is = f.start ∙ h.start_is;
}

-- where the documents end, with one more
one_longer : (ts : List Tree) (t : Tree) (b : List ℕ) → Spells t b → length (documents_bytes (ts ++ t ∷ [])) ≡ length (documents_bytes ts) + length b
one_longer ts t b s =
    let last : documents_bytes (t ∷ []) ≡ b = append-nil (document (elements t)) ∙ sym s.parts in
    ap length (documents_bytes-append ts (t ∷ []) ∙ ap (λ (x : List ℕ). documents_bytes ts ++ x) last) ∙ length-append (documents_bytes ts) b

-- the document that was held was let go
pub let_go : (bytes : List ℕ) (ts : List Tree) (t : Tree) (old new : Reading) → HasRead bytes ts old → Spells t old.held → new.start ≡ old.start + length old.held → new.held ≡ [] → HasRead bytes (ts ++ t ∷ []) new
let_go bytes ts t old new h s start none =
    let w = one_more bytes ts old.held t old.held [] (walked bytes ts old h) s (sym (append-nil old.held)) in
    record {
      fit = w.documents_fit;
      parts = w.parts ∙ ap (λ (x : List ℕ). documents_bytes (ts ++ t ∷ []) ++ x) (sym none);
      start_is = omega (arith, start, h.start_is, one_longer ts t old.held s);
    }

-- a document in front of a piece was passed
pub passed : (bytes : List ℕ) (ts : List Tree) (t : Tree) (old new : Reading) (piece b rest : List ℕ) → HasRead bytes ts old → IsInFront old piece b rest → new.start ≡ old.start + length b → new.held ≡ [] → Spells t b → HasRead (bytes ++ b) (ts ++ t ∷ []) new
passed bytes ts t old new piece b rest h p start none s =
    let held : Walked (bytes ++ b) ts (old.held ++ b) = record { parts = ap (λ (x : List ℕ). x ++ b) h.parts ∙ append_assoc (documents_bytes ts) old.held b; documents_fit = h.fit } in
    let w = one_more (bytes ++ b) ts (old.held ++ b) t b [] held s (ap (λ (x : List ℕ). x ++ b) p.none_held ∙ sym (append-nil b)) in
    record {
      fit = w.documents_fit;
      parts = w.parts ∙ ap (λ (x : List ℕ). documents_bytes (ts ++ t ∷ []) ++ x) (sym none);
      start_is = omega (arith, start, h.start_is, one_longer ts t b s);
    }

-- ---- where the bytes end

pub ends_whole : (bytes : List ℕ) (ts : List Tree) (r : Reading) → HasRead bytes ts r → r.held ≡ [] → DocumentSplit bytes ts r.held
ends_whole bytes ts r h none = walked_all bytes ts r.held (walked bytes ts r h) none

pub ends_inside : (bytes : List ℕ) (ts : List Tree) (r : Reading) → HasRead bytes ts r → IsOpen r.held → DocumentSplit bytes ts r.held
ends_inside bytes ts r h o = walked_to_fault bytes ts r.held (fault 0 Truncated) (walked bytes ts r h) (open_fault r.held o)

-- bad bytes stay bad, whatever follows them
pub ends_bad : (bytes taken more : List ℕ) (ts : List Tree) (r : Reading) (f : BsonFault) → bytes ≡ taken ++ more → HasRead taken ts r → IsBad r.start r.held f → DocumentSplit bytes ts (r.held ++ more)
ends_bad bytes taken more ts r f is h bad =
    let w : Walked bytes ts (r.held ++ more) = record { parts = is ∙ ap (λ (x : List ℕ). x ++ more) h.parts ∙ append_assoc (documents_bytes ts) r.held more; documents_fit = h.fit } in
    walked_to_fault bytes ts (r.held ++ more) bad.own w (fault_longer r.held more bad.own bad.decided bad.first)

-- ---- good lengths above the limit

none_announces : (limit : ℕ) (held : List ℕ) → held ≡ [] → AnnouncesMore limit held → ⊥
none_announces limit held none a = omega (arith, a.complete, ap length none)

-- a length stays if more bytes follow
announces_longer : (limit : ℕ) (front more : List ℕ) → AnnouncesMore limit front → AnnouncesMore limit (front ++ more)
announces_longer limit front more a =
    let same = announced_front front more a.complete in
    record {
      complete = omega (arith, a.complete, length-append front more);
      good = subst IsLength (sym same) a.good;
      more = omega (arith, a.more, same);
    }

-- the length of bytes that decide is theirs, whatever follows
announces_front : (limit : ℕ) (front more : List ℕ) → 4 ≤ length front → AnnouncesMore limit (front ++ more) → AnnouncesMore limit front
announces_front limit front more four a =
    let same = announced_front front more four in
    record { complete = four; good = subst IsLength same a.good; more = omega (arith, a.more, same) }

-- a document that is held isn't longer than the limit
spelled_within : (limit : ℕ) (held : List ℕ) → IsSpelled held → HoldsNoMore limit held → length held ≤ limit
spelled_within limit held s (inl le) = absurd (omega (arith, le, (spelled_length s.0 held s.1).0))
spelled_within limit held s (inr (good, le, most)) = omega (arith, le, most)

-- what was fed of a piece has no such length if the piece gives none
still_none : (old new : Reading) (piece : List ℕ) (fed : Fed) → Feeds old piece new fed → (AnnouncesMore old.limit (old.held ++ piece) → ⊥) → AnnouncesMore new.limit new.held → ⊥
still_none old new piece fed f none a =
    let here : AnnouncesMore old.limit (old.held ++ take fed.taken piece) = subst (AnnouncesMore old.limit) f.held (subst (λ (k : ℕ). AnnouncesMore k new.held) f.limit a) in
    let whole : (old.held ++ take fed.taken piece) ++ drop fed.taken piece ≡ old.held ++ piece =
    append_assoc old.held (take fed.taken piece) (drop fed.taken piece) ∙ ap (λ (x : List ℕ). old.held ++ x) (take-append-drop fed.taken piece) in
    none (subst (AnnouncesMore old.limit) whole (announces_longer old.limit (old.held ++ take fed.taken piece) (drop fed.taken piece) here))

pub nothing_gathered : (r : Reading) → r.start ≡ 0 → r.held ≡ [] → Gathered [] [] r
nothing_gathered r zero none = ([], nothing_read r zero none, tt, none_announces r.limit r.held none)

-- what stands from an offset on
pub tail_is : (n : ℕ) (xs : List ℕ) → take (length xs - n) (drop n xs) ≡ drop n xs
tail_is n xs = ap (λ (k : ℕ). take k (drop n xs)) (sym (length-drop n xs)) ∙ take-length (drop n xs)

-- more of a piece was taken
pub taken_on : (bytes piece : List ℕ) (found : List (List ℕ)) (old new : Reading) (at : ℕ) (fed : Fed) → Gathered (bytes ++ take at piece) found old → Feeds old (take (length piece - at) (drop at piece)) new fed → (AnnouncesMore old.limit (old.held ++ take (length piece - at) (drop at piece)) → ⊥) → Gathered (bytes ++ take (at + fed.taken) piece) found new
taken_on bytes piece found old new at fed g f none =
    let tail : List ℕ = take (length piece - at) (drop at piece) in
    let is : (bytes ++ take at piece) ++ take fed.taken tail ≡ bytes ++ take (at + fed.taken) piece =
    ap (λ (x : List ℕ). (bytes ++ take at piece) ++ take fed.taken x) (tail_is at piece)
    ∙ append_assoc bytes (take at piece) (take fed.taken (drop at piece)) ∙ ap (λ (x : List ℕ). bytes ++ x) (sym (take-add at fed.taken piece)) in (
      g.0,
      subst (λ (x : List ℕ). HasRead x g.0 new) is (fed_more (bytes ++ take at piece) g.0 old new tail fed g.1 f),
      subst (λ (k : ℕ). SpellEach k g.0 found) (sym f.limit) g.2,
      λ a. still_none old new tail fed f none a,
    )

-- a document was copied and let go
pub moved_out : (bytes : List ℕ) (found more : List (List ℕ)) (old new : Reading) (b : List ℕ) → Gathered bytes found old → more ≡ found ++ b ∷ [] → b ≡ old.held → IsSpelled old.held → HoldsNoMore old.limit old.held → new ≡ record { limit = old.limit; start = old.start + length old.held; held = []; room = old.room } → Gathered bytes more new
moved_out bytes found more old new b g is same s most behind =
    let limit : new.limit ≡ old.limit = ap (λ (r : Reading). r.limit) behind in
    let none : new.held ≡ [] = ap (λ (r : Reading). r.held) behind in
    let le : length b ≤ old.limit = omega (arith, ap length same, spelled_within old.limit old.held s most) in
    let each : SpellEach old.limit (g.0 ++ s.0 ∷ []) more = subst (SpellEach old.limit (g.0 ++ s.0 ∷ [])) (sym is) (spell_each-push (SpellsWithin old.limit) g.0 found s.0 b g.2 (subst (Spells s.0) (sym same) s.1, le)) in (
      g.0 ++ s.0 ∷ [],
      let_go bytes g.0 s.0 old new g.1 s.1 (ap (λ (r : Reading). r.start) behind) none,
      subst (λ (k : ℕ). SpellEach k (g.0 ++ s.0 ∷ []) more) (sym limit) each,
      none_announces new.limit new.held none,
    )

-- no more is taken than the piece has
pub still_within : (piece : List ℕ) (old new : Reading) (at : ℕ) (fed : Fed) → at ≤ length piece → Feeds old (take (length piece - at) (drop at piece)) new fed → at + fed.taken ≤ length piece
still_within piece old new at fed le f = omega (arith, le, f.taken, ap length (tail_is at piece), length-drop at piece)

all_taken : (piece : List ℕ) (old new : Reading) (at : ℕ) (fed : Fed) → at ≤ length piece → Feeds old (take (length piece - at) (drop at piece)) new fed → fed.state ≡ Need → at + fed.taken ≡ length piece
all_taken piece old new at fed le f need = omega (arith, le, f.all need, ap length (tail_is at piece), length-drop at piece)

-- a document ends, so that fewer bytes are left of the piece, or fewer are held
pub smaller : (piece : List ℕ) (old new last : Reading) (at : ℕ) (fed : Fed) → at ≤ length piece → Feeds old (take (length piece - at) (drop at piece)) new fed → IsSpelled new.held → last.held ≡ [] → (length piece - (at + fed.taken)) + length last.held < (length piece - at) + length old.held
smaller piece old new last at fed le f s none =
    let tail : List ℕ = take (length piece - at) (drop at piece) in
    omega (arith, le, f.taken, ap length (tail_is at piece), length-drop at piece, ap length f.held, length-append old.held (take fed.taken tail), length-take fed.taken tail, (spelled_length s.0 new.held s.1).0, ap length none)

-- no document is ready then
pub stops : (piece : List ℕ) (found more : List (List ℕ)) (first old new : Reading) (at : ℕ) (fed : Fed) → at ≤ length piece → ((bytes : List ℕ) → Gathered bytes found first → Gathered (bytes ++ take at piece) more old) → Feeds old (take (length piece - at) (drop at piece)) new fed → (AnnouncesMore old.limit (old.held ++ take (length piece - at) (drop at piece)) → ⊥) → old.limit ≡ first.limit → (IsSpelled new.held → ⊥) → Gathers found first piece more new (record { taken = at + fed.taken; state = fed.state })
stops piece found more first old new at fed le gathered f short limit none = record {
  taken = still_within piece old new at fed le f;
  limit = f.limit ∙ limit;
  gathered = λ bytes g. taken_on bytes piece more old new at fed (gathered bytes g) f short;
  state = f.state;
  all = λ need. all_taken piece old new at fed le f need;
  not_ready = λ canonical ready. none (subst (StandsAt new.start new.held) ready f.state).0;
}

-- ---- results of an end

abbrev pub End : Type 0
End = Result (Unit {0}) BsonFault

abbrev pub ok_of : Fed → Result Fed ReadRefusal
ok_of fed = Ok fed

abbrev pub err_of : BsonFault → End
err_of f = Err f

pub err_not_ok : (f : BsonFault) → err_of f ≡ Ok tt → ⊥
err_not_ok f e = cc

pub errs_same : (f g : BsonFault) → err_of f ≡ Err g → f ≡ g
errs_same f g e = cc

-- ---- why a piece wasn't read

-- what was fed isn't refused
pub ok_is_short : (fed : Fed) → (ok_of fed ≡ Err TooLong) ⊎ (ok_of fed ≡ Err TooFar) → ⊥
ok_is_short fed (inl e) = cc
ok_is_short fed (inr e) = cc

-- a piece of which some was taken, and the rest of it
cut_at : (bytes piece : List ℕ) (at : ℕ) → (bytes ++ take at piece) ++ drop at piece ≡ bytes ++ piece
cut_at bytes piece at = append_assoc bytes (take at piece) (drop at piece) ∙ ap (λ (x : List ℕ). bytes ++ x) (take-append-drop at piece)

-- the rest of a piece was refused
pub rest_refused : (bytes piece : List ℕ) (found : List (List ℕ)) (r : Reading) (limit at : ℕ) (e : ReadRefusal) → at ≤ length piece → r.limit ≡ limit → Gathered (bytes ++ take at piece) found r → IsRefused r (take (length piece - at) (drop at piece)) e → IsUnread limit (bytes ++ piece) e
rest_refused bytes piece found r limit at OutOfMemory le same g refused = tt
rest_refused bytes piece found r limit at TooLong le same g refused = record {
  documents = g.0;
  rest = r.held ++ drop at piece;
  fit = g.1.fit;
  parts = sym (cut_at bytes piece at) ∙ ap (λ (x : List ℕ). x ++ drop at piece) g.1.parts ∙ append_assoc (documents_bytes g.0) r.held (drop at piece);
  long = subst (λ (k : ℕ). AnnouncesMore k (r.held ++ drop at piece)) same (subst (λ (x : List ℕ). AnnouncesMore r.limit (r.held ++ x)) (tail_is at piece) refused);
}
rest_refused bytes piece found r limit at TooFar le same g refused =
    let tail : List ℕ = take (length piece - at) (drop at piece) in
    let front : length (bytes ++ take at piece) ≡ r.start + length r.held = ap length g.1.parts ∙ length-append (documents_bytes g.0) r.held ∙ ap (λ (k : ℕ). k + length r.held) (sym g.1.start_is) in
    omega (arith, refused, front, ap length (tail_is at piece), ap length (cut_at bytes piece at), length-append (bytes ++ take at piece) (drop at piece))

-- the same of bytes that go on
unread_longer : (limit : ℕ) (bytes more : List ℕ) (e : ReadRefusal) → IsUnread limit bytes e → IsUnread limit (bytes ++ more) e
unread_longer limit bytes more OutOfMemory u = tt
unread_longer limit bytes more TooLong u = record {
  documents = u.documents;
  rest = u.rest ++ more;
  fit = u.fit;
  parts = ap (λ (x : List ℕ). x ++ more) u.parts ∙ append_assoc (documents_bytes u.documents) u.rest more;
  long = announces_longer limit u.rest more u.long;
}
unread_longer limit bytes more TooFar u = omega (arith, u, length-append bytes more)

-- ---- pieces

abbrev pub Piece : Type 0
Piece = Bor (List ℕ)

-- the bytes of the pieces, joined
abbrev pub told : List Piece → List ℕ
told pieces = flat_map (λ piece. piece.now) pieces

-- the pieces before one, and it
pub up_to : (pieces : List Piece) (i : ℕ) (d : Piece) → i < length pieces → told (take (i + 1) pieces) ≡ told (take i pieces) ++ (get_or pieces i d).now
up_to pieces i d lt = ap told (take_more pieces i d lt) ∙ flat_map-append (λ piece. piece.now) (take i pieces) (get_or pieces i d ∷ []) ∙ ap (λ (q : List ℕ). told (take i pieces) ++ q) (append-nil (get_or pieces i d).now)

-- the first pieces and the others
pub split_at : (pieces : List Piece) (i : ℕ) → told (take i pieces) ++ told (drop i pieces) ≡ told pieces
split_at pieces i = sym (flat_map-append (λ piece. piece.now) (take i pieces) (drop i pieces)) ∙ ap told (take-append-drop i pieces)

-- those before it and some of it, the rest of it and those behind it
around : (pieces : List Piece) (i n : ℕ) (d : Piece) → i < length pieces → told pieces ≡ (told (take i pieces) ++ take n (get_or pieces i d).now) ++ (drop n (get_or pieces i d).now ++ told (drop (i + 1) pieces))
around pieces i n d lt =
    let before : List ℕ = told (take i pieces) in
    let x : List ℕ = (get_or pieces i d).now in
    let behind : List ℕ = told (drop (i + 1) pieces) in
    ap told (sym (take-append-drop i pieces)) ∙ flat_map-append (λ piece. piece.now) (take i pieces) (drop i pieces)
    ∙ ap (λ (q : List Piece). before ++ told q) (drop_more pieces i d lt)
    ∙ ap (λ (q : List ℕ). before ++ (q ++ behind)) (sym (take-append-drop n x))
    ∙ ap (λ (q : List ℕ). before ++ q) (append_assoc (take n x) (drop n x) behind)
    ∙ sym (append_assoc before (take n x) (drop n x ++ behind))

-- a piece was taken whole
pub whole_piece : (pieces : List Piece) (i : ℕ) (d : Piece) (found more : List (List ℕ)) (old new : Reading) (fed : Fed) → i < length pieces → Gathered (told (take i pieces)) found old → Gathers found old (get_or pieces i d).now more new fed → fed.state ≡ Need → Gathered (told (take (i + 1) pieces)) more new
whole_piece pieces i d found more old new fed lt before g need =
    let x : List ℕ = (get_or pieces i d).now in
    let whole : take fed.taken x ≡ x = ap (λ (k : ℕ). take k x) (g.all need) ∙ take-length x in
    subst (λ (b : List ℕ). Gathered b more new) (ap (λ (q : List ℕ). told (take i pieces) ++ q) whole ∙ sym (up_to pieces i d lt)) (g.gathered (told (take i pieces)) before)

-- a piece shows bad bytes
pub bad_piece : (limit : ℕ) (pieces : List Piece) (i : ℕ) (d : Piece) (found more : List (List ℕ)) (old new : Reading) (fed : Fed) (f : BsonFault) → old.limit ≡ limit → i < length pieces → Gathered (told (take i pieces)) found old → Gathers found old (get_or pieces i d).now more new fed → fed.state ≡ Bad f → Cuts limit (told pieces) more (Some f)
bad_piece limit pieces i d found more old new fed f same lt before g is =
    let x : List ℕ = (get_or pieces i d).now in
    let bad : IsBad new.start new.held f = subst (StandsAt new.start new.held) is g.state in
    let taken : List ℕ = told (take i pieces) ++ take fed.taken x in
    let rest : List ℕ = drop fed.taken x ++ told (drop (i + 1) pieces) in
    let now = g.gathered (told (take i pieces)) before in
    let to : new.limit ≡ limit = g.limit ∙ same in
    record {
      documents = now.0;
      rest = new.held ++ rest;
      split = ends_bad (told pieces) taken rest now.0 new f (around pieces i fed.taken d lt) now.1 bad;
      spelled = subst (λ (k : ℕ). SpellEach k now.0 more) to now.2;
      within = λ a. now.3 (announces_front new.limit new.held rest (four_there new.held bad.decided) (subst (λ (k : ℕ). AnnouncesMore k (new.held ++ rest)) (sym to) a));
      fault_is = (bad.own, fault_longer new.held rest bad.own bad.decided bad.first, bad.told ∙ ap (λ (k : ℕ). in_stream k bad.own) now.1.start_is);
    }

-- a list that isn't one with elements is empty
none_held : (held : List ℕ) → (held ≢ [] → ⊥) → held ≡ []
none_held [] some = refl
none_held (b ∷ held) some = absurd (some (λ e. absurd cc))

pub told_all : (pieces : List Piece) (i : ℕ) → length pieces ≤ i → told (take i pieces) ≡ told pieces
told_all pieces i le = ap told (take_all i pieces le)

-- the bytes end between documents
pub no_more_pieces : (limit : ℕ) (pieces : List Piece) (i : ℕ) (found : List (List ℕ)) (r : Reading) → r.limit ≡ limit → length pieces ≤ i → Gathered (told (take i pieces)) found r → (r.held ≢ [] → ⊥) → Cuts limit (told pieces) found None
no_more_pieces limit pieces i found r same le g some =
    let none = none_held r.held some in
    record {
      documents = g.0;
      rest = r.held;
      split = ends_whole (told pieces) g.0 r (subst (λ (x : List ℕ). HasRead x g.0 r) (told_all pieces i le) g.1) none;
      spelled = subst (λ (k : ℕ). SpellEach k g.0 found) same g.2;
      within = none_announces limit r.held none;
      fault_is = none;
    }

-- the bytes end inside a document
pub pieces_end : (limit : ℕ) (pieces : List Piece) (i : ℕ) (found : List (List ℕ)) (r : Reading) (f : BsonFault) → r.limit ≡ limit → length pieces ≤ i → Gathered (told (take i pieces)) found r → IsOpen r.held → f ≡ fault r.start Truncated → Cuts limit (told pieces) found (Some f)
pieces_end limit pieces i found r f same le g o is =
    let at : r.start ≡ length (documents_bytes g.0) + 0 = omega (arith, g.1.start_is) in
    record {
      documents = g.0;
      rest = r.held;
      split = ends_inside (told pieces) g.0 r (subst (λ (x : List ℕ). HasRead x g.0 r) (told_all pieces i le) g.1) o;
      spelled = subst (λ (k : ℕ). SpellEach k g.0 found) same g.2;
      within = λ a. g.3 (subst (λ (k : ℕ). AnnouncesMore k r.held) (sym same) a);
      fault_is = (fault 0 Truncated, open_fault r.held o, is ∙ ap (λ (k : ℕ). fault k Truncated) at);
    }

-- the held bytes are none, or the fault of the end is told of them
pub pieces_err : (limit : ℕ) (pieces : List Piece) (i : ℕ) (found : List (List ℕ)) (r : Reading) (f : BsonFault) → r.limit ≡ limit → length pieces ≤ i → Gathered (told (take i pieces)) found r → IsOpen r.held → (r.held ≡ [] → err_of f ≡ Ok tt) → (r.held ≢ [] → err_of f ≡ Err (fault r.start Truncated)) → Cuts limit (told pieces) found (Some f)
pieces_err limit pieces i found r f same le g o between inside =
    let some : r.held ≢ [] = λ e. absurd (err_not_ok f (between e)) in
    pieces_end limit pieces i found r f same le g o (errs_same f (fault r.start Truncated) (inside some))

-- a piece wasn't read
pub piece_refused : (limit : ℕ) (pieces : List Piece) (i : ℕ) (d : Piece) (found : List (List ℕ)) (r : Reading) (e : ReadRefusal) → r.limit ≡ limit → i < length pieces → Gathered (told (take i pieces)) found r → ((bytes : List ℕ) → Gathered bytes found r → IsUnread r.limit (bytes ++ (get_or pieces i d).now) e) → IsUnread limit (told pieces) e
piece_refused limit pieces i d found r e same lt before refused =
    let here : IsUnread limit (told (take (i + 1) pieces)) e =
    subst (λ (k : ℕ). IsUnread k (told (take (i + 1) pieces)) e) same (subst (λ (b : List ℕ). IsUnread r.limit b e) (sym (up_to pieces i d lt)) (refused (told (take i pieces)) before)) in
    subst (λ (b : List ℕ). IsUnread limit b e) (split_at pieces (i + 1)) (unread_longer limit (told (take (i + 1) pieces)) (told (drop (i + 1) pieces)) e here)
