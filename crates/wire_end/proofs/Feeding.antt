-- What a client made of bytes that came.
use Rattle.std.proofs.Common.{◌≡◌, ◌≢◌, ℕ, suc, ◌+◌, ◌-◌, ◌<◌, List, [], ◌∷◌, ◌++◌, length, take, drop, Option, None, Some, ap, refl, sym, subst, ◌∙◌, take-append-drop, length-append, arith}
use Rattle.std.specs.Prelude.{ℤ, Result, Ok, Err}
use Rattle.std.proofs.Math.Seq.{take-length}
use Rattle.bson_elem.specs.{IsBytes}
use Rattle.bson_elem.proofs.Lemmas.{IsBytes-take}
use Rattle.wire_msg.specs.{IsOpen, Message}
use Rattle.wire_msg.specs.Standing.{in_header, in_message}
use Rattle.wire_peer.specs.{ClientSeen, MayTake, Settles, Takes, allowed, holding, owner}
use Rattle.wire_peer.specs.ClientSteps.{is_bad, is_message, is_open, received, state_after}
use Rattle.wire_peer.specs.declared.call_table.Outstanding.{Outstanding}
use Rattle.wire_peer.specs.declared.call_table.ReadyReply.{ReadyReply}
use Rattle.wire_peer.specs.declared.client_state.ClientCause.{ClientCause}
use Rattle.wire_peer.specs.declared.client_state.ClientCause.TheVariants as causes
use Rattle.wire_peer.specs.declared.client_state.ClientState.{ClientState}
use Rattle.wire_peer.specs.declared.client_state.ClientState.TheVariants.{Closed, Open}
use Rattle.wire_peer.proofs.Lemmas.{client_own}
use Rattle.wire_end.specs.Steps.{HoldsMore, IsFed}

-- a beginning of a message is shorter than the limit, or than a header
open_short : (limit : ℕ) (bytes : List ℕ) → IsOpen limit bytes → length bytes < 16 + limit
open_short limit bytes (in_header short) = omega arith
open_short limit bytes (in_message long good short) =
    let most = good.most in
    omega (arith, short, most)

-- a message that belongs to a call is ready, and one that doesn't closes the client
taken_up : (k : ClientSeen) (m : Message) (r : Result (ℤ × Outstanding) ClientCause) → MayTake (received k m r)
    → k.state ≡ Open → ⊥
taken_up k m (Ok o) may live = let none = may.0 in cc
taken_up k m (Err cause) may live =
    let shut : state_after k.state cause ≡ Closed cause = ap (λ (s : ClientState). state_after s cause) live in
    let open' : state_after k.state cause ≡ Open = may.1 in
    cc

longer : (a b : List ℕ) → b ≢ [] → length a < length (a ++ b)
longer a [] some = absurd (some refl)
longer a (x ∷ b) some = omega (arith, length-append a (x ∷ b))

all_of : (piece : List ℕ) (n : ℕ) → n ≡ length piece → take n piece ≡ piece
all_of piece n e = ap (λ (k : ℕ). take k piece) e ∙ take-length piece

holds_more : (old new : ClientSeen) (piece : List ℕ) (n : ℕ) → old.state ≡ Open → piece ≢ []
    → Takes old piece n new → HoldsMore old new
holds_more old new piece n live some t may = by t.settles
  where
    by : Settles (holding old (old.held ++ take n piece)) new
        → (length old.held < length new.held) × (length new.held < 16 + new.requests.limit)
        × (new.requests.limit ≡ old.requests.limit)
    by (is_open o e) =
        let held : new.held ≡ old.held ++ take n piece = ap (λ (k : ClientSeen). k.held) e in
        let limit : new.requests.limit ≡ old.requests.limit = ap (λ (k : ClientSeen). k.requests.limit) e in
        let whole : take n piece ≡ piece = all_of piece n (t.all o) in
        let more : length old.held < length (old.held ++ take n piece) =
        longer old.held (take n piece) (λ none. some (sym whole ∙ none)) in
        let short = open_short old.requests.limit (old.held ++ take n piece) o in
        (rw held more, rw (held, limit) short, limit)
    by (is_message m s w e) =
        absurd (taken_up (holding old (old.held ++ take n piece)) m
        (allowed m.flags.more_to_come (owner old.requests.outstanding m.response_to)) (subst MayTake e may) live)
    by (is_bad f b e) =
        let shut : new.state ≡ Closed (causes.Message f) = ap (λ (k : ClientSeen). k.state) e
        ∙ ap (λ (s : ClientState). state_after s (causes.Message f)) live in
        let is_open' : new.state ≡ Open = may.1 in
        absurd cc

-- a client that still takes bytes holds those that it took behind what it held
holds_them : (old new : ClientSeen) (piece : List ℕ) (n : ℕ) → old.state ≡ Open → Takes old piece n new → MayTake new
    → new.held ≡ old.held ++ take n piece
holds_them old new piece n live t may = by t.settles
  where
    by : Settles (holding old (old.held ++ take n piece)) new → new.held ≡ old.held ++ take n piece
    by (is_open o e) = ap (λ (k : ClientSeen). k.held) e
    by (is_message m s w e) =
        absurd (taken_up (holding old (old.held ++ take n piece)) m
        (allowed m.flags.more_to_come (owner old.requests.outstanding m.response_to)) (subst MayTake e may) live)
    by (is_bad f b e) = ap (λ (k : ClientSeen). k.held) e

-- the bytes that it took are a piece of their own
pub fed_of : (old new : ClientSeen) (piece : List ℕ) (n : ℕ) → MayTake old → piece ≢ [] → IsBytes piece
    → Takes old piece n new → IsFed old piece new (drop n piece)
fed_of old new piece n may some are t = record {
  bytes = take n piece;
  takes = record { may = may; takes = client_own old piece n new t };
  parts = sym (take-append-drop n piece);
  are_bytes = IsBytes-take n piece are;
  more = holds_more old new piece n may.1 some t;
  held = holds_them old new piece n may.1 t;
}

-- ---- how much of a message may still come

-- what a client may still take of it: nothing, where it takes no bytes
abbrev pub left_of : Option ReadyReply → ClientState → ℕ → ℕ
left_of None Open n = suc n
left_of None (Closed cause) n = 0
left_of (Some reply) state n = 0

abbrev pub left : ClientSeen → ℕ
left k = left_of k.reply k.state (16 + k.requests.limit - length k.held)

left_taking : (k : ClientSeen) → MayTake k → left k ≡ suc (16 + k.requests.limit - length k.held)
left_taking k may = rw (may.0, may.1) refl

left_by : (reply : Option ReadyReply) (state : ClientState) (n m : ℕ)
    → ((reply ≡ None) × (state ≡ Open) → n < m) → left_of reply state n < suc m
left_by None Open n m h = let lt = h (refl, refl) in omega arith
left_by None (Closed cause) n m h = omega arith
left_by (Some reply) state n m h = omega arith

pub less_left : (old new : ClientSeen) → MayTake old → HoldsMore old new → left new < left old
less_left old new may more =
    rw (left_taking old may) (left_by new.reply new.state (16 + new.requests.limit - length new.held)
    (16 + old.requests.limit - length old.held) fewer)
  where
    fewer : (new.reply ≡ None) × (new.state ≡ Open)
        → 16 + new.requests.limit - length new.held < 16 + old.requests.limit - length old.held
    fewer may' = let m = more may' in omega (arith, m.0, m.1, m.2)
