-- A server never runs out of memory for bytes that it has room for.
use Rattle.std.proofs.Common.{◌≡◌, ℕ, ◌+◌, ◌-◌, ◌<◌, ◌≤◌, ◌⊎◌, List, [], ◌∷◌, ◌++◌, length, take, sym, ◌∙◌, ap, subst, arith, length-append, length-take, Some, inl, inr}
use Rattle.std.specs.Prelude.{Err}
use Rattle.std.proofs.lemmas.List.{append-nil, take_all}
use Rattle.std.proofs.lemmas.Option.{same_Some}
use Rattle.wire_msg.specs.{IsGoodHeader, IsMessage, IsWhole, header_of, number_at}
use Rattle.wire_stream.specs.{CompletesHeader, IsRoom, StandsAt}
use Rattle.wire_stream.specs.Readers.{announced, in_header, bad_header}
use Rattle.wire_stream.specs.declared.reader_state.ReaderState.{ReaderState}
use Rattle.wire_stream.specs.declared.reader_state.ReaderState.TheVariants.{Need, Ready, Bad}
use Rattle.wire_peer.specs.{Does, ServerView, Stops}
use Rattle.wire_peer.specs.Servers.{holding}
use Rattle.wire_msg.proofs.Lemmas.{header_front, least_length, whole_read}
use Rattle.wire_model.specs.declared.events.Event.TheVariants.{Up}
use Rattle.wire_model.specs.declared.limits.WorldLimits.{WorldLimits}
use Rattle.wire_model.specs.declared.refusals.WorldRefusal.TheVariants.{OutOfMemory}
use Rattle.wire_model.specs.Conns.{Conn, World, conn_at}
use Rattle.wire_model.specs.Moves.{ServerTakesAll, joined}
use Rattle.wire_model.specs.Rooms.{HasRoomFor}
use Rattle.wire_model.specs.Happening.{Happens, PartDone, WantsRoom}

-- n more bytes end before the header does, or inside the message that the header announces
abbrev EndsInside : (limit : ℕ) → List ℕ → ℕ → Type 0
EndsInside limit held n = (length held + n < 16) ⊎ ((16 ≤ length held) × IsGoodHeader limit (header_of held) × (length held + n ≤ number_at held 0))

announced_room : (limit n room : ℕ) (held : List ℕ) → 16 ≤ length held → IsRoom limit held room → length held + n ≤ room → EndsInside limit held n
announced_room limit n room held long (announced l good is) within = inr (long, good, omega (arith, is, within))
announced_room limit n room held long (in_header short is) within = absurd (omega (arith, long, short))
announced_room limit n room held long (bad_header f l fault is) within = absurd (omega (arith, long, is, within))

inside_of : (s : ServerView) (n : ℕ) → HasRoomFor s n → EndsInside s.limit s.held n
inside_of s n (inl short) = inl short
inside_of s n (inr (room, long, is, within)) = announced_room s.limit n room s.held long is within

-- no header is completed
completes_none : (limit n : ℕ) (held piece : List ℕ) → EndsInside limit held n → length piece ≤ n → CompletesHeader limit held piece → ⊥
completes_none limit n held piece (inl short) le c = omega (arith, short, le, c.after, length-append held piece)
completes_none limit n held piece (inr i) le c = omega (arith, i.0, c.before)

-- bytes that end inside leave less to come
fewer_left : (limit n : ℕ) (held piece : List ℕ) → EndsInside limit held n → length piece ≤ n → EndsInside limit (held ++ piece) (n - length piece)
fewer_left limit n held piece (inl short) le = inl (omega (arith, short, le, length-append held piece))
fewer_left limit n held piece (inr (long, good, within)) le =
    let same = header_front held piece long in
    let size : number_at (held ++ piece) 0 ≡ number_at held 0 = ap (λ h. h.length) same in
    inr (omega (arith, long, length-append held piece), subst (IsGoodHeader limit) (sym same) good, omega (arith, size, within, le, length-append held piece))

-- a message that becomes whole leaves nothing to come
none_left : (limit n : ℕ) (held piece : List ℕ) → EndsInside limit held n → length piece ≤ n → IsMessage limit (held ++ piece) → n ≡ length piece
none_left limit n held piece (inl short) le message = absurd (omega (arith, short, le, length-append held piece, least_length message.1.0 (held ++ piece) message.1.1))
none_left limit n held piece (inr (long, good, within)) le message =
    let w : IsWhole limit (held ++ piece) message.1.0 [] = record { front = held ++ piece; parts = sym (append-nil (held ++ piece)); spelled = message.1.1; within = message.0 } in
    let r = whole_read limit (held ++ piece) [] message.1.0 w in
    let size : number_at (held ++ piece) 0 ≡ number_at held 0 = ap (λ h. h.length) (header_front held piece long) in
    omega (arith, r.announced, size, within, le, length-append held piece)

-- what a server that took a piece may still be given
after_piece : (s mid : ServerView) (n : ℕ) (p bytes : List ℕ) (found : ReaderState) → EndsInside s.limit s.held n → length p ≤ n → bytes ≡ s.held ++ p → StandsAt s.limit bytes found → mid ≡ holding s bytes found → EndsInside mid.limit mid.held (n - length p)
after_piece s mid n p bytes Need inside le are stands is = rw (is, are) (fewer_left s.limit n s.held p inside le)
after_piece s mid n p bytes (Bad f) inside le are stands is = rw (is, are) (fewer_left s.limit n s.held p inside le)
after_piece s mid n p bytes Ready inside le are stands is =
    let none = none_left s.limit n s.held p inside le (subst (IsMessage s.limit) are stands) in
    rw is (inl (omega (arith, none)))

-- over pieces
wants_none : (pieces : List (List ℕ)) (s server : ServerView) (n : ℕ) (piece : List ℕ) → EndsInside s.limit s.held n → ServerTakesAll s pieces server → length piece + length (joined pieces) ≤ n → WantsRoom server piece → ⊥
wants_none [] s server n piece inside took le wants = completes_none s.limit n s.held piece inside (omega (arith, le)) (let w = (rw took at wants) in w.header)
wants_none (p ∷ ps) s server n piece inside took le wants =
    let one = took.1.takes in
    let le' : length p ≤ n = omega (arith, le, length-append p (joined ps)) in
    let are : one.bytes ≡ s.held ++ p = one.fed.held ∙ ap (λ x. s.held ++ x) (take_all (length p) p (omega arith)) in
    wants_none ps took.0 server (n - length p) piece (after_piece s took.0 n p one.bytes one.found inside le' are one.fed.state one.is) took.2 (omega (arith, le, length-append p (joined ps))) wants

-- memory doesn't run out for what is moved up
pub up_wants_none : {H : Type 0} (does : Does H) (stops : Stops H) (l : WorldLimits) (old new : World H) (c n : ℕ) (k : Conn) → conn_at old.conns c ≡ Some k → HasRoomFor k.server n → Happens does stops l old (Up c n) (Err OutOfMemory) new → ⊥
up_wants_none does stops l old new c n k at room (before, inl (same, making)) = making
up_wants_none {H} does stops l old new c n k at room (before, inr out) =
    by out.done out.part
  where
    by : (done : World H) → PartDone l old (Up c n) done → ⊥
    by done (s, more) =
        let same : k ≡ s.k = same_Some k s.k (sym at ∙ s.at) in
        wants_none s.pieces s.k.server s.server n (take more.0 s.rest) (inside_of s.k.server n (subst (λ (z : Conn). HasRoomFor z.server n) same room)) s.takes (omega (arith, more.1, length-take more.0 s.rest)) more.2
