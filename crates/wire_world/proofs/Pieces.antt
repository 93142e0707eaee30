-- What a server, or a client, does with one piece.
use Rattle.std.proofs.Common.{◌≡◌, ℕ, zero, suc, ◌+◌, ◌<◌, ◌≤◌, inl, inr, Bool, true, false, true≢false, List, [], ◌∷◌, ◌++◌, length, take, drop, ap, refl, sym, subst, ◌∙◌, arith, append_assoc}
use Rattle.std.proofs.lemmas.Bool.{cases_lt}
use Rattle.std.specs.Prelude.{min, Result, Ok, Err, IfOk, MatchResult, OnErr}
use Rattle.std.proofs.lemmas.List.{append-nil, take-append-drop}
use Rattle.std.proofs.lemmas.List.Concat.{flat_map-append}
use Rattle.wire_stream.specs.{CompletesHeader, StandsAt}
use Rattle.wire_stream.specs.declared.reader_state.ReaderState.{ReaderState}
use Rattle.wire_stream.specs.declared.reader_state.ReaderState.TheVariants.{Need, Ready, Bad}
use Rattle.wire_msg.specs.{IsOpen}
use Rattle.wire_msg.proofs.Lemmas.{open_not_bad, open_not_whole}
use Rattle.wire_peer.specs.{ClientSeen, MayTake, ServerView, Takes, TakesBytes, released}
use Rattle.wire_peer.specs.declared.server_state.ServerState.TheVariants as servers
use Rattle.wire_peer.proofs.Lemmas.{client_own, server_own}
use Rattle.wire_model.specs.{Record}
use Rattle.wire_model.specs.Moves.{ClientTakes, CopiesReply, ServerTakesAll, TakesNone, joined}
use Rattle.wire_model.specs.Happening.{WantsRoom}
use Rattle.wire_world.specs.Moving.{FedClient, FedServer}

pub joined_more : (ps qs : List (List ℕ)) → joined (ps ++ qs) ≡ joined ps ++ joined qs
joined_more ps qs = flat_map-append (λ p. p) ps qs

pub joined_one : (p : List ℕ) → joined (p ∷ []) ≡ p
joined_one p = append-nil p

-- the first bytes of a piece that is the first bytes of the output
pub take_front : (n m : ℕ) (xs : List ℕ) → n ≤ length (take m xs) → take n (take m xs) ≡ take n xs
take_front zero m xs le = refl
take_front (suc n) zero xs le = absurd (omega (arith, le))
take_front (suc n) (suc m) [] le = absurd (omega (arith, le))
take_front (suc n) (suc m) (x ∷ xs) le = ap (λ ys. x ∷ ys) (take_front n m xs (omega (arith, le)))

no_front : (m : ℕ) (xs : List ℕ) → 0 < m → take m xs ≡ [] → xs ≡ []
no_front zero xs lt e = absurd (omega (arith, lt))
no_front (suc m) [] lt e = refl
no_front (suc m) (x ∷ xs) lt e = absurd (let z : length (take (suc m) (x ∷ xs)) ≡ 0 = ap length e in omega (arith, z))

pub length_more : (xs ys : List ℕ) (n : ℕ) → length ys ≡ n → length xs + n ≡ length (xs ++ ys)
length_more [] ys n same = omega (arith, same)
length_more (x ∷ xs) ys n same = let less = length_more xs ys n same in omega (arith, less)

-- the first bytes of the output, and the others
pub split_output : (output ps rest : List ℕ) (a : List ℕ) (m n : ℕ) → a ≡ ps ++ output → n ≤ length (take m output) → a ≡ (ps ++ take n (take m output)) ++ drop n output
split_output output ps rest a m n e le = e ∙ ap (λ (b : List ℕ). ps ++ b) (sym (take-append-drop n output) ∙ ap (λ (b : List ℕ). b ++ drop n output) (sym (take_front n m output le)))
    ∙ sym (append_assoc ps (take n (take m output)) (drop n output))

-- if a piece of the output is empty and more may move, the output is empty
pub left_none : (out piece : List ℕ) (m room : ℕ) → m ≡ min (length out) room → 0 < room → piece ≡ take m out → piece ≡ [] → out ≡ []
left_none [] piece m room least lt is e = refl
left_none (x ∷ out) piece m room least lt is e = no_front m (x ∷ out) (omega (arith, least, lt)) (sym is ∙ e)

pub length_take_within : (m : ℕ) (xs : List ℕ) → length (take m xs) ≤ m
length_take_within zero xs = omega arith
length_take_within (suc m) [] = omega arith
length_take_within (suc m) (x ∷ xs) = let le = length_take_within m xs in omega (arith, le)

pub takes_after : (ps qs : List (List ℕ)) (old mid new : ServerView) → ServerTakesAll old ps mid → ServerTakesAll mid qs new → ServerTakesAll old (ps ++ qs) new
takes_after [] qs old mid new all more = subst (λ (s : ServerView). ServerTakesAll s qs new) all more
takes_after (p ∷ ps) qs old mid new all more = (all.0, all.1, takes_after ps qs all.0 mid new all.2 more)

-- open bytes stay open if no more come
stays_open : (limit : ℕ) (held : List ℕ) (found : ReaderState) → IsOpen limit held → StandsAt limit held found → found ≡ Need
stays_open limit held Need live at = refl
stays_open limit held Ready live at = absurd (open_not_whole limit held [] at.1.0 live (record { front = held; parts = sym (append-nil held); spelled = at.1.1; within = at.0 }))
stays_open limit held (Bad f) live at = absurd (open_not_bad limit held f live at)

pub none_found : (limit : ℕ) (held piece : List ℕ) (found : ReaderState) → IsOpen limit held → (bytes : List ℕ) → bytes ≡ held ++ take 0 piece → StandsAt limit bytes found → found ≡ Need
none_found limit held piece found live bytes e at = stays_open limit held found live (subst (λ (b : List ℕ). StandsAt limit b found) (e ∙ append-nil held) at)

empty : (xs : List ℕ) → 0 ≡ length xs → xs ≡ []
empty [] e = refl
empty (x ∷ xs) e = absurd (omega (arith, e))

-- an open server with room took n bytes
pub fed_open : (s : ServerView) (piece : List ℕ) (n : ℕ) (new : ServerView) → s.state ≡ servers.Open → IsOpen s.limit s.held → length s.waiting < s.window → TakesBytes s piece n new → FedServer s piece n new
fed_open s piece n new is live lt t = record {
  within = t.fed.taken;
  pieces = take n piece ∷ [];
  are = joined_one (take n piece);
  takes = (new, record { is_open = is; has_room = lt; takes = server_own s piece n new t }, refl);
  none = λ e. inl (nothing n e t);
}
  where
    nothing : (m : ℕ) → m ≡ 0 → TakesBytes s piece m new → piece ≡ []
    nothing zero e u = empty piece (u.fed.all (none_found s.limit s.held piece u.found live u.bytes u.fed.held u.fed.state))
    nothing (suc m) e u = absurd (omega (arith, e))

-- a server that takes no more took none
pub fed_none : (s : ServerView) (piece : List ℕ) (n : ℕ) (new : ServerView) → TakesNone s → n ≡ 0 → new ≡ s → FedServer s piece n new
fed_none s piece n new none e same = record {
  within = omega (arith, e);
  pieces = [];
  are = sym (ap (λ (k : ℕ). take k piece) e);
  takes = same;
  none = λ z. inr (subst TakesNone (sym same) none);
}

abbrev value_of : {E : Type 0} → Result ℕ E → ℕ
value_of (Ok n) = n
value_of (Err e) = 0

abbrev is_ok : {E : Type 0} → Result ℕ E → Bool
is_ok (Ok n) = true
is_ok (Err e) = false

err_not_ok : {E : Type 0} (e : E) (n : ℕ) → Err e ≡ Ok n → ⊥
err_not_ok e n same = true≢false (sym (ap is_ok same))

-- what a server does with a piece, by its clauses
pub fed_server : {E : Type 0} (s : ServerView) (piece : List ℕ) (new : ServerView) (r : Result ℕ E) → s.state ≡ servers.Open → IsOpen s.limit s.held
    → (s.window ≤ length s.waiting → (r ≡ Ok 0) × (new ≡ s)) → (s.state ≡ servers.Open → length s.waiting < s.window → IfOk r (λ n. TakesBytes s piece n new))
    → OnErr r (CompletesHeader s.limit s.held piece) → MatchResult r (λ n. FedServer s piece n new) (λ e. WantsRoom s piece)
fed_server s piece new (Err e) is live full taken refused = elim (cases_lt (length s.waiting) s.window) [
  | inl lt ↦ record { is_open = is; has_room = lt; header = refused }
  | inr none ↦ let w : s.window ≤ length s.waiting = omega (arith, none) in absurd (err_not_ok e 0 (full w).0)
]
fed_server s piece new (Ok n) is live full taken refused = elim (cases_lt (length s.waiting) s.window) [
  | inl lt ↦ fed_open s piece n new is live lt (taken is lt)
  | inr none ↦ let w : s.window ≤ length s.waiting = omega (arith, none) in fed_none s piece n new (inr w) (ap value_of (full w).0) (full w).1
]

pub client_takes : (k : ClientSeen) (piece : List ℕ) (n : ℕ) (new : ClientSeen) → MayTake k → Takes k piece n new → ClientTakes k (take n piece) new
client_takes k piece n new may t = record { may = may; takes = client_own k piece n new t }

pub took_none : (k : ClientSeen) (piece : List ℕ) (n : ℕ) (new : ClientSeen) → IsOpen k.requests.limit k.held → Takes k piece n new → n ≡ 0 → piece ≡ []
took_none k piece zero new live t e = empty piece (t.all (subst (IsOpen k.requests.limit) (sym (append-nil k.held)) live))
took_none k piece (suc n) new live t e = absurd (omega (arith, e))

pub fed_client : (indexes : List ℕ) (k : ClientSeen) (calls calls' : List Record) (piece : List ℕ) (n : ℕ) (mid new : ClientSeen) → MayTake k → IsOpen k.requests.limit k.held → Takes k piece n mid
    → CopiesReply indexes mid.held mid.reply calls calls' → new ≡ released mid → FedClient indexes k calls piece n new calls'
fed_client indexes k calls calls' piece n mid new may live t copies e = record {
  within = t.within;
  mid = mid;
  takes = client_takes k piece n mid may t;
  copies = copies;
  after = e;
  none = took_none k piece n mid live t;
}
