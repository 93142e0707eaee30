-- The messages that are gathered from pieces are those of the split.
use Rattle.std.proofs.Common.{◌≡◌, ◌≢◌, Bool, Bor, true, false, ℕ, ◌+◌, ◌-◌, ◌<◌, ◌≤◌, List, [], ◌∷◌, ◌++◌, length, take, drop, refl, sym, ap, subst, ◌∙◌, arith, append_assoc, append-nil, length-append, length-drop, length-take, take-add, take-append-drop, take_all, get_or}
use Rattle.std.proofs.Math.Seq.{take-append_seam, take-length}
use Rattle.std.proofs.lemmas.Grind.{flat_map-append}
use Rattle.std.proofs.lemmas.List.{drop_more, take_more}
use Rattle.std.specs.List.{flat_map}
use Rattle.framing.proofs.Lemmas.{each_joined, spell_each-push}
use Rattle.wire_msg.specs.declared.fault.MsgFault.{MsgFault}
use Rattle.wire_msg.specs.declared.header.MsgHeader.{MsgHeader}
use Rattle.wire_msg.specs.Standing.{bad_header, bad_message}
use Rattle.wire_msg.specs.{FaultMsg, HeaderFault, IsBad, IsGoodHeader, IsMessage, IsOpen, IsSpelledMsg, IsWhole, Message, SpellsWithin, Split, header_of, number_at}
use Rattle.wire_msg.proofs.Lemmas.{bad_longer, bad_not_whole, header_front, least_length, msg_are_bytes, only_split, open_ends, whole_read}
use Rattle.wire_stream.specs.declared.reader_state.Fed.{Fed}
use Rattle.wire_stream.specs.declared.reader_state.ReaderState.{ReaderState}
use Rattle.wire_stream.specs.declared.reader_state.ReaderState.TheVariants.{Bad, Need, Ready}
use Rattle.wire_stream.specs.Cutting.{AnnouncesMore, Cuts, SpellEach, all, bad, joined}
use Rattle.wire_stream.specs.Gathering.{Gathered, Gathers}
use Rattle.wire_stream.specs.Readers.{CompletesHeader, Feeds, HoldsNoMore, StandsAt}
use Rattle.wire_stream.proofs.Readings.{ready_is, tail_is}

-- ---- lists of bytes, joined

joined-push : (found : List (List ℕ)) (b : List ℕ) → joined (found ++ b ∷ []) ≡ joined found ++ b
joined-push [] b = append-nil b
joined-push (x ∷ found) b = ap (λ (q : List ℕ). x ++ q) (joined-push found b) ∙ sym (append_assoc x (joined found) b)

-- ---- what is gathered

-- nothing at all
pub nothing_yet : (limit : ℕ) → Gathered limit [] [] []
nothing_yet limit = record { messages = []; spelled = tt; parts = refl }

-- more of a piece was taken
pub taken_on : (limit : ℕ) (bytes held new piece : List ℕ) (found : List (List ℕ)) (at n : ℕ) → new ≡ held ++ take n (take (length piece - at) (drop at piece)) → Gathered limit (bytes ++ take at piece) found held → Gathered limit (bytes ++ take (at + n) piece) found new
taken_on limit bytes held new piece found at n is g =
    let more : List ℕ = take n (drop at piece) in
    let new_is : new ≡ held ++ more = is ∙ ap (λ (x : List ℕ). held ++ take n x) (tail_is at piece) in
    record {
      messages = g.messages;
      spelled = g.spelled;
      parts = ap (λ (x : List ℕ). bytes ++ x) (take-add at n piece) ∙ sym (append_assoc bytes (take at piece) more) ∙ ap (λ (x : List ℕ). x ++ more) g.parts ∙ append_assoc (joined found) held more ∙ ap (λ (x : List ℕ). joined found ++ x) (sym new_is);
    }

-- a message was moved out
pub moved_out : (limit : ℕ) (bytes held m new : List ℕ) (found more : List (List ℕ)) → more ≡ found ++ m ∷ [] → m ≡ held → new ≡ [] → IsMessage limit m → Gathered limit bytes found held → Gathered limit bytes more new
moved_out limit bytes held m new found more is same none i g = record {
  messages = g.messages ++ i.1.0 ∷ [];
  spelled = subst (SpellEach limit (g.messages ++ i.1.0 ∷ [])) (sym is) (spell_each-push (SpellsWithin limit) g.messages found i.1.0 m g.spelled (i.1.1, i.0));
  parts = g.parts ∙ ap (λ (x : List ℕ). joined found ++ x) (sym same) ∙ sym (joined-push found m) ∙ ap joined (sym is) ∙ sym (append-nil (joined more)) ∙ ap (λ (x : List ℕ). joined more ++ x) (sym none);
}

-- ---- one more feed

-- a reader that needs more was fed what is left of a piece
pub fed_at : (l limit : ℕ) (held piece new : List ℕ) (fed : Fed) → l ≡ limit → IsOpen limit held → (IsOpen l held → Feeds l held piece new fed) → Feeds limit held piece new fed
fed_at l limit held piece new fed e o f = subst (λ (x : ℕ). Feeds x held piece new fed) e (f (subst (λ (x : ℕ). IsOpen x held) (sym e) o))

-- no more is taken than the piece has
pub still_within : (limit : ℕ) (held piece new : List ℕ) (at : ℕ) (fed : Fed) → at ≤ length piece → Feeds limit held (take (length piece - at) (drop at piece)) new fed → at + fed.taken ≤ length piece
still_within limit held piece new at fed le f = omega (arith, le, f.taken, ap length (tail_is at piece), length-drop at piece)

all_taken : (limit : ℕ) (held piece new : List ℕ) (at : ℕ) (fed : Fed) → at ≤ length piece → Feeds limit held (take (length piece - at) (drop at piece)) new fed → fed.state ≡ Need → at + fed.taken ≡ length piece
all_taken limit held piece new at fed le f e = omega (arith, le, f.all e, ap length (tail_is at piece), length-drop at piece)

abbrev IsFalse : Bool → Type 0
IsFalse false = Unit {0}
IsFalse true = ⊥

pub false_not_true : false ≡ true → ⊥
false_not_true e = subst IsFalse e tt

-- no message is ready then
pub stops : (limit : ℕ) (found more : List (List ℕ)) (old piece held new : List ℕ) (at : ℕ) (fed : Fed) → at ≤ length piece → ((bytes : List ℕ) → Gathered limit bytes found old → Gathered limit (bytes ++ take at piece) more held) → Feeds limit held (take (length piece - at) (drop at piece)) new fed → (IsMessage limit new → ⊥) → Gathers limit found old piece more new (record { taken = at + fed.taken; state = fed.state })
stops limit found more old piece held new at fed le gathered f none = record {
  taken = still_within limit held piece new at fed le f;
  gathered = λ bytes g. taken_on limit bytes held new piece more at fed.taken f.held (gathered bytes g);
  state = f.state;
  no_more = f.no_more;
  all = λ e. all_taken limit held piece new at fed le f e;
  no_message = λ e. none (ready_is limit new fed.state f.state e);
}

-- a message ends, so that fewer bytes are left of the piece, or fewer are held
pub smaller : (limit : ℕ) (held piece new m rest : List ℕ) (at : ℕ) (fed : Fed) → at ≤ length piece → Feeds limit held (take (length piece - at) (drop at piece)) new fed → m ≡ new → IsSpelledMsg m → rest ≡ [] → (length piece - (at + fed.taken)) + length rest < (length piece - at) + length held
smaller limit held piece new m rest at fed le f same s none =
    let slice : List ℕ = take (length piece - at) (drop at piece) in
    omega (arith, le, f.taken, ap length (tail_is at piece), length-drop at piece, ap length f.held, length-append held (take fed.taken slice), length-take fed.taken slice, ap length same, least_length s.0 m s.1, ap length none)

-- ---- the split

-- a message in front of bad bytes would be bad itself
bad_shorter : (limit : ℕ) (front rest : List ℕ) (f : MsgFault) → 16 ≤ length front → number_at (front ++ rest) 0 ≡ length front → IsBad limit (front ++ rest) f → IsBad limit front f
bad_shorter limit front rest f room size (bad_header long h) = bad_header room (subst (λ (x : MsgHeader). HeaderFault limit x f) (header_front front rest room) h)
bad_shorter limit front rest f room size (bad_message long good le fault) =
    let same = header_front front rest room in
    let n : number_at (front ++ rest) 0 ≡ number_at front 0 = ap (λ (h : MsgHeader). h.length) same in
    let whole : take (number_at front 0) front ≡ front = ap (λ (k : ℕ). take k front) (sym n ∙ size) ∙ take-length front in
    let cut : take (number_at (front ++ rest) 0) (front ++ rest) ≡ take (number_at front 0) front = ap (λ (k : ℕ). take k (front ++ rest)) size ∙ take-append_seam front rest ∙ sym whole in
    bad_message room (subst (IsGoodHeader limit) same good) (omega (arith, n, size)) (subst (λ (x : List ℕ). FaultMsg x limit f) cut fault)

bad_begins_none : (limit : ℕ) (bytes rest : List ℕ) (m : Message) (f : MsgFault) → IsBad limit bytes f → IsWhole limit bytes m rest → ⊥
bad_begins_none limit bytes rest m f at w =
    let r = whole_read limit bytes rest m w in
    let size : number_at (w.front ++ rest) 0 ≡ length w.front = ap (λ (x : List ℕ). number_at x 0) (sym w.parts) ∙ r.announced in
    let alone : IsBad limit w.front f = bad_shorter limit w.front rest f (omega (arith, r.least)) size (subst (λ (x : List ℕ). IsBad limit x f) w.parts at) in
    bad_not_whole limit w.front [] m f (msg_are_bytes m w.front w.spelled) alone (record { front = w.front; parts = sym (append-nil w.front); spelled = w.spelled; within = w.within })

-- open bytes are held whole
pub cuts_open : (limit : ℕ) (bytes held : List ℕ) (found : List (List ℕ)) → Gathered limit bytes found held → IsOpen limit held → Cuts limit bytes found held
cuts_open limit bytes held found g o =
    let split = subst (λ (x : List ℕ). Split limit x g.messages held) (sym g.parts) (open_ends limit g.messages (joined found) held (each_joined (SpellsWithin limit) g.messages found g.spelled) o) in
    record {
      messages = g.messages;
      rest = held;
      split = split;
      only = λ others after s. only_split limit bytes g.messages others held after split s;
      spelled = g.spelled;
      parts = g.parts;
      of_rest = all o refl;
    }

-- bad bytes stay bad, whatever follows them
pub cuts_bad : (limit : ℕ) (bytes taken untaken held : List ℕ) (found : List (List ℕ)) (f : MsgFault) → bytes ≡ taken ++ untaken → Gathered limit taken found held → IsBad limit held f → HoldsNoMore limit held → Cuts limit bytes found held
cuts_bad limit bytes taken untaken held found f is g at no_more =
    let parts : bytes ≡ joined found ++ (held ++ untaken) = is ∙ ap (λ (x : List ℕ). x ++ untaken) g.parts ∙ append_assoc (joined found) held untaken in
    let split : Split limit bytes g.messages (held ++ untaken) = record {
      joined = joined found;
      spelled = each_joined (SpellsWithin limit) g.messages found g.spelled;
      parts = parts;
      ends = λ m after w. bad_begins_none limit (held ++ untaken) after m f (bad_longer limit held untaken f at) w;
    } in
    record {
      messages = g.messages;
      rest = held ++ untaken;
      split = split;
      only = λ others after s. only_split limit bytes g.messages others (held ++ untaken) after split s;
      spelled = g.spelled;
      parts = parts;
      of_rest = bad f untaken at no_more refl;
    }

-- ---- out of memory

-- a good header after what was gathered
announces : (limit : ℕ) (bytes held more : List ℕ) (found : List (List ℕ)) → Gathered limit bytes found held → 16 ≤ length (held ++ more) → IsGoodHeader limit (header_of (held ++ more)) → AnnouncesMore limit (bytes ++ more)
announces limit bytes held more found g long good = record {
  messages = g.messages;
  front = joined found;
  behind = held ++ more;
  spelled = each_joined (SpellsWithin limit) g.messages found g.spelled;
  parts = ap (λ (x : List ℕ). x ++ more) g.parts ∙ append_assoc (joined found) held more;
  long = long;
  good = good;
}

cut_at : (bytes piece : List ℕ) (at : ℕ) → (bytes ++ take at piece) ++ drop at piece ≡ bytes ++ piece
cut_at bytes piece at = append_assoc bytes (take at piece) (drop at piece) ∙ ap (λ (x : List ℕ). bytes ++ x) (take-append-drop at piece)

-- there was no memory for a message
pub none_for_message : (l limit : ℕ) (bytes held piece : List ℕ) (found : List (List ℕ)) (at : ℕ) → l ≡ limit → Gathered limit (bytes ++ take at piece) found held → CompletesHeader l held (take (length piece - at) (drop at piece)) → AnnouncesMore limit (bytes ++ piece)
none_for_message l limit bytes held piece found at e g h =
    let c : CompletesHeader limit held (drop at piece) = subst (λ (x : List ℕ). CompletesHeader limit held x) (tail_is at piece) (subst (λ (k : ℕ). CompletesHeader k held (take (length piece - at) (drop at piece))) e h) in
    subst (AnnouncesMore limit) (cut_at bytes piece at) (announces limit (bytes ++ take at piece) held (drop at piece) found g c.after c.good)

-- there was no memory for the list of messages
pub none_for_list : (limit : ℕ) (bytes held m piece : List ℕ) (found : List (List ℕ)) (at : ℕ) → Gathered limit (bytes ++ take at piece) found held → m ≡ held → IsMessage limit m → AnnouncesMore limit (bytes ++ piece)
none_for_list limit bytes held m piece found at g same i =
    let more : List ℕ = drop at piece in
    let w : IsWhole limit (held ++ more) i.1.0 more = record { front = m; parts = ap (λ (x : List ℕ). x ++ more) (sym same); spelled = i.1.1; within = i.0 } in
    let r = whole_read limit (held ++ more) more i.1.0 w in
    subst (AnnouncesMore limit) (cut_at bytes piece at) (announces limit (bytes ++ take at piece) held more found g (omega (arith, r.least, r.sum)) r.good)

-- the header is still there if more bytes follow
announces_longer : (limit : ℕ) (bytes more : List ℕ) → AnnouncesMore limit bytes → AnnouncesMore limit (bytes ++ more)
announces_longer limit bytes more a = record {
  messages = a.messages;
  front = a.front;
  behind = a.behind ++ more;
  spelled = a.spelled;
  parts = ap (λ (x : List ℕ). x ++ more) a.parts ∙ append_assoc a.front a.behind more;
  long = omega (arith, a.long, length-append a.behind more);
  good = subst (IsGoodHeader limit) (sym (header_front a.behind more a.long)) a.good;
}

-- ---- pieces

abbrev Piece : Type 0
Piece = Bor (List ℕ)

-- the bytes of the pieces, joined
abbrev told : List Piece → List ℕ
told pieces = flat_map (λ piece. piece.now) pieces

-- the pieces up to and with one
up_to : (pieces : List Piece) (i : ℕ) (d : Piece) → i < length pieces → told (take (i + 1) pieces) ≡ told (take i pieces) ++ (get_or pieces i d).now
up_to pieces i d lt = ap told (take_more pieces i d lt) ∙ flat_map-append (λ piece. piece.now) (take i pieces) (get_or pieces i d ∷ []) ∙ ap (λ (q : List ℕ). told (take i pieces) ++ q) (append-nil (get_or pieces i d).now)

-- the pieces before it and some of it, the rest of it, and the pieces after it
around : (pieces : List Piece) (i n : ℕ) (d : Piece) → i < length pieces → told pieces ≡ (told (take i pieces) ++ take n (get_or pieces i d).now) ++ (drop n (get_or pieces i d).now ++ told (drop (i + 1) pieces))
around pieces i n d lt =
    let before : List ℕ = told (take i pieces) in
    let x : List ℕ = (get_or pieces i d).now in
    let behind : List ℕ = told (drop (i + 1) pieces) in
    ap told (sym (take-append-drop i pieces)) ∙ flat_map-append (λ piece. piece.now) (take i pieces) (drop i pieces)
    ∙ ap (λ (q : List Piece). before ++ told q) (drop_more pieces i d lt)
    ∙ ap (λ (q : List ℕ). before ++ (q ++ behind)) (sym (take-append-drop n x))
    ∙ ap (λ (q : List ℕ). before ++ q) (append_assoc (take n x) (drop n x) behind)
    ∙ sym (append_assoc before (take n x) (drop n x ++ behind))

-- a piece was taken whole
pub whole_piece : (l limit : ℕ) (pieces : List Piece) (i : ℕ) (d : Piece) (found more : List (List ℕ)) (held new : List ℕ) (fed : Fed) → l ≡ limit → i < length pieces → Gathered limit (told (take i pieces)) found held → Gathers l found held (get_or pieces i d).now more new fed → fed.state ≡ Need → Gathered limit (told (take (i + 1) pieces)) more new
whole_piece l limit pieces i d found more held new fed e lt before g need =
    let x : List ℕ = (get_or pieces i d).now in
    let on : Gathered limit (told (take i pieces) ++ take fed.taken x) more new = (subst (λ (k : ℕ). Gathers k found held x more new fed) e g).gathered (told (take i pieces)) before in
    let whole : take fed.taken x ≡ x = ap (λ (k : ℕ). take k x) (g.all need) ∙ take-length x in
    subst (λ (b : List ℕ). Gathered limit b more new) (ap (λ (q : List ℕ). told (take i pieces) ++ q) whole ∙ sym (up_to pieces i d lt)) on

-- then the reader needs more
pub wants_on : (l limit : ℕ) (found more : List (List ℕ)) (held piece new : List ℕ) (fed : Fed) → l ≡ limit → Gathers l found held piece more new fed → fed.state ≡ Need → IsOpen limit new
wants_on l limit found more held piece new fed e g need = subst (λ (k : ℕ). IsOpen k new) e (subst (StandsAt l new) need g.state)

stands_bad : (limit : ℕ) (b : List ℕ) (s : ReaderState) → StandsAt limit b s → s ≢ Need → s ≢ Ready → (f : MsgFault) × IsBad limit b f
stands_bad limit b Need at wants ready = absurd (wants refl)
stands_bad limit b Ready at wants ready = absurd (ready refl)
stands_bad limit b (Bad f) at wants ready = (f, at)

-- in a piece the bytes turn out to be bad
pub bad_piece : (l limit : ℕ) (pieces : List Piece) (i : ℕ) (d : Piece) (found more : List (List ℕ)) (held new : List ℕ) (fed : Fed) → l ≡ limit → i < length pieces → Gathered limit (told (take i pieces)) found held → Gathers l found held (get_or pieces i d).now more new fed → fed.state ≢ Need → Cuts limit (told pieces) more new
bad_piece l limit pieces i d found more held new fed e lt before g wants =
    let x : List ℕ = (get_or pieces i d).now in
    let g' : Gathers limit found held x more new fed = subst (λ (k : ℕ). Gathers k found held x more new fed) e g in
    let at = stands_bad limit new fed.state g'.state wants g'.no_message in
    cuts_bad limit (told pieces) (told (take i pieces) ++ take fed.taken x) (drop fed.taken x ++ told (drop (i + 1) pieces)) new more at.0 (around pieces i fed.taken d lt) (g'.gathered (told (take i pieces)) before) at.1 g'.no_more

-- no piece is left
pub no_more_pieces : (limit : ℕ) (pieces : List Piece) (i : ℕ) (found : List (List ℕ)) (held : List ℕ) → length pieces ≤ i → Gathered limit (told (take i pieces)) found held → IsOpen limit held → Cuts limit (told pieces) found held
no_more_pieces limit pieces i found held le g o = cuts_open limit (told pieces) held found (subst (λ (x : List Piece). Gathered limit (told x) found held) (take_all i pieces le) g) o

-- memory ran out in a piece
pub none_in_piece : (l limit : ℕ) (pieces : List Piece) (i : ℕ) (d : Piece) (found : List (List ℕ)) (held : List ℕ) → l ≡ limit → i < length pieces → Gathered limit (told (take i pieces)) found held → ((bytes : List ℕ) → Gathered l bytes found held → AnnouncesMore l (bytes ++ (get_or pieces i d).now)) → AnnouncesMore limit (told pieces)
none_in_piece l limit pieces i d found held e lt before refused =
    let x : List ℕ = (get_or pieces i d).now in
    let here : AnnouncesMore limit (told (take i pieces) ++ x) = subst (λ (k : ℕ). (bytes : List ℕ) → Gathered k bytes found held → AnnouncesMore k (bytes ++ x)) e refused (told (take i pieces)) before in
    let parts : told pieces ≡ (told (take i pieces) ++ x) ++ told (drop (i + 1) pieces) =
    ap told (sym (take-append-drop (i + 1) pieces)) ∙ flat_map-append (λ piece. piece.now) (take (i + 1) pieces) (drop (i + 1) pieces)
    ∙ ap (λ (q : List ℕ). q ++ told (drop (i + 1) pieces)) (up_to pieces i d lt) in
    subst (AnnouncesMore limit) (sym parts) (announces_longer limit (told (take i pieces) ++ x) (told (drop (i + 1) pieces)) here)
