-- The bytes that a reader holds, and its state.
use Rattle.std.proofs.Common.{◌≡◌, ◌≢◌, ℕ, ◌+◌, ◌-◌, ◌<◌, ◌≤◌, inl, inr, List, [], ◌++◌, Option, Some, None, IfNone, IfSome, Result, Ok, Err, OnErr, Vec, length, take, drop, min, vec_capacity, refl, sym, ap, subst, ◌∙◌, arith, append_assoc, append-nil, length-append, length-take, length-drop, take-append-drop, take-add}
use Rattle.std.specs.declared.alloc.Global.{Global}
use Rattle.std.proofs.Math.Seq.{take-length}
use Rattle.std.proofs.lemmas.List.{take-append-le, take-take}
use Rattle.wire_msg.specs.declared.fault.MsgFault.{MsgFault}
use Rattle.wire_msg.specs.declared.header.MsgHeader.{MsgHeader}
use Rattle.wire_msg.specs.Standing.{bad_header, bad_message, in_header}
use Rattle.wire_msg.specs.{FaultMsg, HeaderFault, IsBad, IsGoodHeader, IsMessage, IsOpen, header_of, number_at}
use Rattle.wire_msg.proofs.Lemmas.{header_front, least_length, open_not_whole, open_not_bad, bad_not_whole, msg_are_bytes}
use Rattle.wire_stream.specs.declared.reader_state.Fed.{Fed}
use Rattle.wire_stream.specs.declared.reader_state.ReaderState.{ReaderState}
use Rattle.wire_stream.specs.declared.reader_state.ReaderState.TheVariants.{Need, Ready, Bad}
use Rattle.wire_stream.specs.Holding.{IsBegun, IsKept, held_of}
use Rattle.wire_stream.specs.Readers.{CompletesHeader, Feeds, IsRoom, announced, bad_header as no_room_bad, in_header as no_room, StandsAt}

-- what holds in any case holds for an error
pub on_err : {A E : Type 0} (r : Result A E) (P : Type 0) → P → OnErr r P
on_err (Ok x) P p = tt
on_err (Err e) P p = p

abbrev IsThere : Option (Vec ℕ Global) → Type 0
IsThere None = ⊥
IsThere (Some v) = Unit {0}

-- ---- one state

pub message_not_open : (limit : ℕ) (b : List ℕ) → IsMessage limit b → IsOpen limit b → ⊥
message_not_open limit b i o = open_not_whole limit b [] i.1.0 o (record { front = b; parts = sym (append-nil b); spelled = i.1.1; within = i.0 })

pub message_not_bad : (limit : ℕ) (b : List ℕ) (f : MsgFault) → IsMessage limit b → IsBad limit b f → ⊥
message_not_bad limit b f i d = bad_not_whole limit b [] i.1.0 f (msg_are_bytes i.1.0 b i.1.1) d (record { front = b; parts = sym (append-nil b); spelled = i.1.1; within = i.0 })

pub not_ready : (limit : ℕ) (b : List ℕ) (s : ReaderState) → StandsAt limit b s → s ≢ Ready → IsMessage limit b → ⊥
not_ready limit b Need at ne i = message_not_open limit b i at
not_ready limit b Ready at ne i = ne refl
not_ready limit b (Bad f) at ne i = message_not_bad limit b f i at

pub not_need : (limit : ℕ) (b : List ℕ) (s : ReaderState) → StandsAt limit b s → s ≢ Need → IsOpen limit b → ⊥
not_need limit b Need at ne o = ne refl
not_need limit b Ready at ne o = message_not_open limit b at o
not_need limit b (Bad f) at ne o = open_not_bad limit b f o at

pub need_not_bad : (limit : ℕ) (b : List ℕ) (s : ReaderState) (f : MsgFault) → StandsAt limit b s → s ≡ Need → IsBad limit b f → ⊥
need_not_bad limit b Need f at is d = open_not_bad limit b f at d
need_not_bad limit b Ready f at is d = message_not_bad limit b f at d
need_not_bad limit b (Bad g) f at is d = open_not_bad limit b f (subst (StandsAt limit b) is at) d

pub need_no_message : (limit : ℕ) (b : List ℕ) (s : ReaderState) → StandsAt limit b s → s ≡ Need → IsMessage limit b → ⊥
need_no_message limit b s at is i = message_not_open limit b i (subst (StandsAt limit b) is at)

-- a message is longer than a header
pub long_message : (limit : ℕ) (b : List ℕ) → IsMessage limit b → 26 ≤ length b
long_message limit b i = least_length i.1.0 b i.1.1

-- ---- a message that is begun

pub whole_is_bad : (limit : ℕ) (b : List ℕ) (f : MsgFault) → 16 ≤ length b → IsGoodHeader limit (header_of b) → number_at b 0 ≤ length b → length b ≤ number_at b 0 → FaultMsg b limit f → IsBad limit b f
whole_is_bad limit b f long good least most fault =
    let n : number_at b 0 ≡ length b = omega (arith, least, most) in
    let all : b ≡ take (number_at b 0) b = sym (ap (λ (k : ℕ). take k b) n ∙ take-length b) in
    bad_message long good least (subst (λ (x : List ℕ). FaultMsg x limit f) all fault)

pub number_front : (a rest : List ℕ) → 16 ≤ length a → number_at (a ++ rest) 0 ≡ number_at a 0
number_front a rest long = ap (λ (h : MsgHeader). h.length) (header_front a rest long)

pub good_front : (limit : ℕ) (a rest : List ℕ) → 16 ≤ length a → IsGoodHeader limit (header_of a) → IsGoodHeader limit (header_of (a ++ rest))
good_front limit a rest long good = subst (IsGoodHeader limit) (sym (header_front a rest long)) good

pub begun_on : (limit : ℕ) (old new : Vec ℕ Global) (more : List ℕ) → IsBegun limit old → new.items ≡ old.items ++ more → length old.items + length more ≤ number_at old.items 0 → vec_capacity old ≤ vec_capacity new → IsBegun limit new
begun_on limit old new more b is fits room =
    let n : number_at new.items 0 ≡ number_at old.items 0 = ap (λ (x : List ℕ). number_at x 0) is ∙ number_front old.items more b.header in
    record {
      header = omega (arith, b.header, ap length is, length-append old.items more);
      good = subst (λ (x : List ℕ). IsGoodHeader limit (header_of x)) (sym is) (good_front limit old.items more b.header b.good);
      within = omega (arith, n, fits, ap length is, length-append old.items more);
      room = omega (arith, n, b.room, room);
    }

-- ---- the header

abbrev IsNeed : ReaderState → Type 0
IsNeed Need = Unit {0}
IsNeed Ready = ⊥
IsNeed (Bad f) = ⊥

bad_not_need : (f : MsgFault) → Bad f ≡ Need → ⊥
bad_not_need f e = subst IsNeed (sym e) tt

-- the bytes that a header has stay when more of it is filled
pub front_kept : (old new piece : List ℕ) (len n : ℕ) → len ≤ length old → take (len + n) new ≡ take len old ++ take n piece → take len new ≡ take len old
front_kept old new piece len n le is =
    let size : length (take len old) ≡ len = omega (arith, length-take len old, le) in
    let a : take len (take (len + n) new) ≡ take len new = take-take len (len + n) new (omega arith) in
    let b : take len (take len old ++ take n piece) ≡ take len old = take-append-le len (take len old) (take n piece) (omega (arith, size)) ∙ take-take len len old (omega arith) in
    sym a ∙ ap (take len) is ∙ b

-- a header that was filled whole is at the front of what was there and the piece
pub header_in_front : (old new piece : List ℕ) (len n : ℕ) → length new ≡ 16 → len + n ≡ 16 → take (len + n) new ≡ take len old ++ take n piece → new ++ drop n piece ≡ take len old ++ piece
header_in_front old new piece len n size sum is =
    let whole : take (len + n) new ≡ new = ap (λ (k : ℕ). take k new) (omega (arith, sum, size)) ∙ take-length new in
    ap (λ (x : List ℕ). x ++ drop n piece) (sym whole ∙ is) ∙ append_assoc (take len old) (take n piece) (drop n piece) ∙ ap (λ (x : List ℕ). take len old ++ x) (take-append-drop n piece)

pub completes : (limit : ℕ) (old new piece : List ℕ) (len n : ℕ) → length (take len old) < 16 → length new ≡ 16 → len + n ≡ 16 → take (len + n) new ≡ take len old ++ take n piece → IsGoodHeader limit (header_of new) → CompletesHeader limit (take len old) piece
completes limit old new piece len n before size sum is good =
    let e = header_in_front old new piece len n size sum is in
    record {
      before = before;
      after = omega (arith, size, ap length e, length-append new (drop n piece), length-append (take len old) piece);
      good = subst (λ (x : List ℕ). IsGoodHeader limit (header_of x)) e (good_front limit new (drop n piece) (omega (arith, size)) good);
    }

-- a piece that leaves the header incomplete
pub feeds_short : (limit : ℕ) (old new piece : List ℕ) (len n : ℕ) → len + n < 16 → n ≡ min (length piece) (16 - len) → take (len + n) new ≡ take len old ++ take n piece → Feeds limit (take len old) piece (take (len + n) new) (record { taken = n; state = Need })
feeds_short limit old new piece len n short count is =
    let size : length (take (len + n) new) < 16 = omega (arith, length-take (len + n) new) in
    record {
      taken = omega (arith, count);
      held = is;
      state = in_header size;
      no_more = inl (omega (arith, size));
      all = λ _. omega (arith, count, short);
    }

-- a piece that completes a bad header
pub feeds_bad : (limit : ℕ) (old new piece : List ℕ) (len n : ℕ) (f : MsgFault) → length new ≡ 16 → len + n ≡ 16 → n ≡ min (length piece) (16 - len) → take (len + n) new ≡ take len old ++ take n piece → HeaderFault limit (header_of new) f → Feeds limit (take len old) piece (take (len + n) new) (record { taken = n; state = Bad f })
feeds_bad limit old new piece len n f size sum count is fault =
    let whole : take (len + n) new ≡ new = ap (λ (k : ℕ). take k new) (omega (arith, sum, size)) ∙ take-length new in
    record {
      taken = omega (arith, count);
      held = is;
      state = subst (λ (x : List ℕ). IsBad limit x f) (sym whole) (bad_header (omega (arith, size)) fault);
      no_more = inl (omega (arith, length-take (len + n) new));
      all = λ e. absurd (bad_not_need f e);
    }

-- a piece that completes a good header, and goes on
pub feeds_on : (limit : ℕ) (old header piece new : List ℕ) (len n : ℕ) (fed : Fed) → length header ≡ 16 → len + n ≡ 16 → n ≡ min (length piece) (16 - len) → take (len + n) header ≡ take len old ++ take n piece → Feeds limit header (drop n piece) new fed → Feeds limit (take len old) piece new (record { taken = n + fed.taken; state = fed.state })
feeds_on limit old header piece new len n fed size sum count is f =
    let whole : take (len + n) header ≡ header = ap (λ (k : ℕ). take k header) (omega (arith, sum, size)) ∙ take-length header in
    record {
      taken = omega (arith, count, f.taken, length-drop n piece);
      held = f.held ∙ ap (λ (x : List ℕ). x ++ take fed.taken (drop n piece)) (sym whole ∙ is) ∙ append_assoc (take len old) (take n piece) (take fed.taken (drop n piece)) ∙ ap (λ (x : List ℕ). take len old ++ x) (sym (take-add n fed.taken piece));
      state = f.state;
      no_more = f.no_more;
      all = λ e. omega (arith, f.all e, count, length-drop n piece);
    }

-- ---- how a header that is fed is kept

bad_long : (limit : ℕ) (b : List ℕ) (f : MsgFault) → IsBad limit b f → 16 ≤ length b
bad_long limit b f (bad_header long fault) = long
bad_long limit b f (bad_message long good all fault) = long

pub still_open : (limit : ℕ) (b x : List ℕ) (s : ReaderState) → StandsAt limit b s → length b < 16 → IsOpen limit x → StandsAt limit x s
still_open limit b x Need at le o = o
still_open limit b x Ready at le o = absurd (omega (arith, long_message limit b at, le))
still_open limit b x (Bad f) at le o = absurd (omega (arith, bad_long limit b f at, le))

-- after a piece, where the reader keeps these from then on
pub record IsFed (limit : ℕ) (old piece : List ℕ) (header : List ℕ) (len : ℕ) (message : Option (Vec ℕ Global)) (fed : Fed) : Type 0 where
  pub kept : IsKept limit header len message
  pub state : StandsAt limit (held_of header len message) fed.state
  pub feeds : Feeds limit old piece (held_of header len message) fed

pub short_fed : (limit : ℕ) (old new piece : List ℕ) (len n : ℕ) (message : Option (Vec ℕ Global)) → IsKept limit old len message → length (held_of old len message) < 16 → len + n < 16 → n ≡ min (length piece) (16 - len) → take (len + n) new ≡ take len old ++ take n piece → IsFed limit (held_of old len message) piece new (len + n) message (record { taken = n; state = Need })
short_fed limit old new piece len n None kept le short count is = record {
  kept = inl short;
  state = in_header (omega (arith, short, length-take (len + n) new));
  feeds = feeds_short limit old new piece len n short count is;
}
short_fed limit old new piece len n (Some message) kept le short count is = absurd (omega (arith, kept.header, le))

filled_up : (limit : ℕ) (old piece : List ℕ) (len n : ℕ) → IsKept limit old len None → 16 ≤ len + n → n ≡ min (length piece) (16 - len) → len + n ≡ 16
filled_up limit old piece len n (inl lt) full count = omega (arith, lt, full, count)
filled_up limit old piece len n (inr e) full count = omega (arith, e.0, full, count)

pub bad_fed : (limit : ℕ) (old new piece : List ℕ) (len n : ℕ) (message : Option (Vec ℕ Global)) (f : MsgFault) → IsKept limit old len message → length (held_of old len message) < 16 → length new ≡ 16 → 16 ≤ len + n → n ≡ min (length piece) (16 - len) → take (len + n) new ≡ take len old ++ take n piece → HeaderFault limit (header_of new) f → IsFed limit (held_of old len message) piece new (len + n) message (record { taken = n; state = Bad f })
bad_fed limit old new piece len n None f kept le size full count is fault =
    let sum = filled_up limit old piece len n kept full count in
    let feeds = feeds_bad limit old new piece len n f size sum count is fault in
    record { kept = inr (sum, (f, fault)); state = feeds.state; feeds = feeds }
bad_fed limit old new piece len n (Some message) f kept le size full count is fault = absurd (omega (arith, kept.header, le))

-- if memory runs out, the same bytes are held
pub record IsRefused (limit : ℕ) (old new piece : List ℕ) (len : ℕ) (message : Option (Vec ℕ Global)) : Type 0 where
  pub kept : IsKept limit new len message
  pub same : held_of new len message ≡ held_of old len message
  pub completes : CompletesHeader limit (held_of old len message) piece

pub refused_fed : (limit : ℕ) (old new piece : List ℕ) (len n : ℕ) (message : Option (Vec ℕ Global)) → IsKept limit old len message → length (held_of old len message) < 16 → length old ≡ 16 → length new ≡ 16 → 16 ≤ len + n → n ≡ min (length piece) (16 - len) → take (len + n) new ≡ take len old ++ take n piece → IsGoodHeader limit (header_of new) → IsRefused limit old new piece len message
refused_fed limit old new piece len n None kept le before size full count is good =
    let sum = filled_up limit old piece len n kept full count in
    let short : len < 16 = omega (arith, le, before, length-take len old) in
    record {
      kept = inl short;
      same = front_kept old new piece len n (omega (arith, short, before)) is;
      completes = completes limit old new piece len n le size sum is good;
    }
refused_fed limit old new piece len n (Some message) kept le before size full count is good = absurd (omega (arith, kept.header, le))

-- the bytes from an offset on
pub tail_is : (n : ℕ) (xs : List ℕ) → take (length xs - n) (drop n xs) ≡ drop n xs
tail_is n xs = ap (λ (k : ℕ). take k (drop n xs)) (sym (length-drop n xs)) ∙ take-length (drop n xs)

pub good_fed : (limit : ℕ) (old new piece items : List ℕ) (len n : ℕ) (message : Option (Vec ℕ Global)) (fed : Fed) → IsKept limit old len message → length (held_of old len message) < 16 → length new ≡ 16 → 16 ≤ len + n → n ≡ min (length piece) (16 - len) → take (len + n) new ≡ take len old ++ take n piece → Feeds limit new (take (length piece - n) (drop n piece)) items fed → Feeds limit (held_of old len message) piece items (record { taken = n + fed.taken; state = fed.state })
good_fed limit old new piece items len n None fed kept le size full count is f =
    feeds_on limit old new piece items len n fed size (filled_up limit old piece len n kept full count) count is (subst (λ (x : List ℕ). Feeds limit new x items fed) (tail_is n piece) f)
good_fed limit old new piece items len n (Some message) fed kept le size full count is f = absurd (omega (arith, kept.header, le))

-- ---- a message that goes on

pub goes_on : (limit : ℕ) (old new : Vec ℕ Global) (piece : List ℕ) (n : ℕ) (s : ReaderState) → IsBegun limit old → n ≡ min (length piece) (number_at old.items 0 - length old.items) → new.items ≡ old.items ++ take n piece → StandsAt limit new.items s → (s ≡ Need → length new.items < number_at old.items 0) → Feeds limit old.items piece new.items (record { taken = n; state = s })
goes_on limit old new piece n s b count is at short =
    let m : number_at new.items 0 ≡ number_at old.items 0 = ap (λ (x : List ℕ). number_at x 0) is ∙ number_front old.items (take n piece) b.header in
    let size : length new.items ≡ length old.items + n = ap length is ∙ length-append old.items (take n piece) ∙ ap (λ (k : ℕ). length old.items + k) (omega (arith, length-take n piece, count)) in
    record {
      taken = omega (arith, count);
      held = is;
      state = at;
      no_more = inr (subst (λ (x : List ℕ). IsGoodHeader limit (header_of x)) (sym is) (good_front limit old.items (take n piece) b.header b.good), omega (arith, m, size, count, b.within));
      all = λ e. omega (arith, short e, size, count, b.within);
    }

-- ---- what is told of the bytes that are held

some_not_none : (v : Vec ℕ Global) → Some v ≡ None → ⊥
some_not_none v e = subst IsThere e tt

held_in_header : (limit : ℕ) (header : List ℕ) (len : ℕ) (message : Option (Vec ℕ Global)) → IsKept limit header len message → message ≡ None → len ≤ 16
held_in_header limit header len None (inl lt) is = omega (arith, lt)
held_in_header limit header len None (inr e) is = omega (arith, e.0)
held_in_header limit header len (Some message) kept is = absurd (some_not_none message is)

pub header_len : (limit : ℕ) (header : List ℕ) (len : ℕ) (message : Option (Vec ℕ Global)) → IsKept limit header len message → length header ≡ 16 → message ≡ None → length (held_of header len message) ≡ len
header_len limit header len None (inl lt) size is = omega (arith, lt, size, length-take len header)
header_len limit header len None (inr e) size is = omega (arith, e.0, size, length-take len header)
header_len limit header len (Some message) kept size is = absurd (some_not_none message is)

pub header_room : (limit : ℕ) (header : List ℕ) (len : ℕ) (message : Option (Vec ℕ Global)) → IsKept limit header len message → length header ≡ 16 → message ≡ None → IsRoom limit (held_of header len message) 0
header_room limit header len None (inl lt) size is = no_room (omega (arith, lt, size, length-take len header)) refl
header_room limit header len None (inr e) size is =
    let whole : take len header ≡ header = ap (λ (k : ℕ). take k header) (omega (arith, e.0, size)) ∙ take-length header in
    no_room_bad e.1.0 (omega (arith, size, ap length whole)) (subst (λ (x : List ℕ). HeaderFault limit (header_of x) e.1.0) (sym whole) e.1.1) refl
header_room limit header len (Some message) kept size is = absurd (some_not_none message is)

pub message_room : (limit : ℕ) (header : List ℕ) (len : ℕ) (message : Option (Vec ℕ Global)) (v : Vec ℕ Global) (n : ℕ) → IsKept limit header len message → message ≡ Some v → n ≡ number_at v.items 0 → IsRoom limit (held_of header len message) n
message_room limit header len None v n kept is e = absurd (some_not_none v (sym is))
message_room limit header len (Some message) v n kept is e =
    announced kept.header kept.good (e ∙ ap (λ (x : Option (Vec ℕ Global)). number_at (held_of header len x) 0) (sym is))

-- no message is ready if there are no more bytes than a header
pub header_no_message : (limit : ℕ) (header : List ℕ) (len : ℕ) (message : Option (Vec ℕ Global)) → IsKept limit header len message → length header ≡ 16 → message ≡ None → IsMessage limit (held_of header len message) → ⊥
header_no_message limit header len message kept size is i =
    absurd (omega (arith, long_message limit (held_of header len message) i, header_len limit header len message kept size is, held_in_header limit header len message kept is))

-- the header isn't complete if more bytes are needed and there is no message
pub header_open : (limit : ℕ) (header : List ℕ) (len : ℕ) (message : Option (Vec ℕ Global)) (s : ReaderState) → IsKept limit header len message → length header ≡ 16 → StandsAt limit (held_of header len message) s → s ≡ Need → message ≡ None → length (held_of header len message) < 16
header_open limit header len None s (inl lt) size at is none = omega (arith, lt, size, length-take len header)
header_open limit header len None s (inr e) size at is none =
    let whole : take len header ≡ header = ap (λ (k : ℕ). take k header) (omega (arith, e.0, size)) ∙ take-length header in
    absurd (open_not_bad limit (take len header) e.1.0 (subst (StandsAt limit (take len header)) is at) (subst (λ (x : List ℕ). IsBad limit x e.1.0) (sym whole) (bad_header (omega (arith, size)) e.1.1)))
header_open limit header len (Some message) s kept size at is none = absurd (some_not_none message none)

-- nothing is dropped if no message is ready
pub kept_all : (limit : ℕ) (held : List ℕ) (r : Option (List ℕ)) (Same Gone : Type 0) → IfSome r (λ m. (m ≡ held) × IsMessage limit m × Gone) → IfNone r Same → (IsMessage limit held → ⊥) → Same
kept_all limit held None Same Gone some none unready = none
kept_all limit held (Some m) Same Gone some none unready = absurd (unready (subst (IsMessage limit) some.0 some.1))

pub ready_is : (limit : ℕ) (b : List ℕ) (s : ReaderState) → StandsAt limit b s → s ≡ Ready → IsMessage limit b
ready_is limit b s at is = subst (StandsAt limit b) is at

pub nothing_held : (limit : ℕ) (header : List ℕ) (message : Option (Vec ℕ Global)) → message ≡ None → IsOpen limit (held_of header 0 message) × IsKept limit header 0 message
nothing_held limit header None is = (in_header (omega arith), inl (omega arith))
nothing_held limit header (Some message) is = absurd (some_not_none message is)
