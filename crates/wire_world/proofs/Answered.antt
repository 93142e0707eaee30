-- A request that is answered, or isn't because memory ran out.
use Rattle.std.specs.Prelude.{◌≡◌, ℕ, zero, suc, ◌-◌, ◌<◌, Bool, true, false, if◌then◌else◌, nat_le, List, [], ◌∷◌, length, Option, None, Some, Result, Err, slice_set}
use Rattle.std.proofs.Common.{◌∙◌, ap, arith, refl, subst, sym}
use Rattle.std.proofs.lemmas.Bool.Decides.{nat_tests}
use Rattle.std.proofs.lemmas.Option.{none-some, same_Some}
use Rattle.wire_peer.specs.{AnswerStep, Does, LogEntry, ServerView, Stops, log_of}
use Rattle.wire_peer.specs.declared.log.Entry.{Entry}
use Rattle.wire_peer.specs.declared.server_state.AnswerRefusal.{AnswerRefusal}
use Rattle.wire_peer.specs.declared.server_state.AnswerRefusal.TheVariants as answers
use Rattle.wire_peer.specs.declared.server_state.ServerState.{ServerState}
use Rattle.wire_peer.specs.declared.server_state.ServerState.TheVariants.{Open, Closed}
use Rattle.wire_model.specs.{Answers, Conn, World, answer_reason, conn_at, conn_set, first_reason, no_needs, reason_at}
use Rattle.wire_model.specs.declared.events.Event.TheVariants.{Answer}
use Rattle.wire_model.specs.declared.refusals.WorldRefusal.{WorldRefusal}
use Rattle.wire_model.specs.declared.refusals.WorldRefusal.TheVariants as refusals
use Rattle.wire_model.proofs.Lemmas.{log_contents}
use Rattle.wire_world.specs.Worlds.{WorldSeen}
use Rattle.wire_world.proofs.Found.{numbered}
use Rattle.wire_world.proofs.Numbered.{conn_set_place}

waits : (r : WorldRefusal) (w i : ℕ) → (if nat_le w i then Some r else None) ≡ None → i < w
waits r w i e = by (nat_le w i) refl e
  where
    by : (b : Bool) → nat_le w i ≡ b → (if b then Some r else None) ≡ None → i < w
    by true q p = absurd (none-some r (sym p))
    by false q p = grind (arith, nat_tests, q)

is_open : (s : ServerState) (w i : ℕ) → answer_reason s w i ≡ None → (s ≡ Open) × (i < w)
is_open Open w i e = (refl, waits (refusals.Answer answers.NoSuchRequest) w i e)
is_open (Closed cause) w i e = absurd (none-some (refusals.Answer answers.Closed) (sym e))

-- the server is open, and the request waits
pub answer_passes : {H : Type 0} {v now : WorldSeen H} (c i : ℕ) (k : Conn) → v ≡ now → first_reason now.state (Answer c i) ≡ None → conn_at v.state.conns c ≡ Some k → (k.server.state ≡ Open) × (i < length k.server.waiting)
answer_passes {v = v} c i k seen passes at =
    is_open k.server.state (length k.server.waiting) i (subst (λ (o : Option Conn). reason_at v.state (Answer c i) (no_needs c) o ≡ None) at
    (subst (λ (u : WorldSeen _). first_reason u.state (Answer c i) ≡ None) (sym seen) passes))

module _ {H : Type 0} (does : Does H) (stops : Stops H) {v now : WorldSeen H} (c i : ℕ) (k k' : Conn) (h : H) (entries : List Entry) (seen : v ≡ now) (at : conn_at v.state.conns c ≡ Some k) (others : k' ≡ record k { server = k'.server }) where
  -- the world after it
  abbrev after : World H
  after = record (v.state) { conns = slice_set v.state.conns (c - 1) k'; log = log_of entries; handler = h }

  pub is_answered : (r : Result ℕ AnswerRefusal) → AnswerStep does stops i r k.server v.state.handler v.state.log k'.server h (log_of entries) → Answers does stops now.state c i r after
  is_answered r step = subst (λ (u : WorldSeen H). Answers does stops u.state c i r after) seen (record {
    k = k;
    at = at;
    server = k'.server;
    handler = h;
    log = log_of entries;
    step = step;
    contents = log_contents entries;
    after = ap (λ (ks : List Conn). record (v.state) { conns = ks; log = log_of entries; handler = h }) (sym (conn_set_place v.state.conns c k' (numbered v.state.conns c k at).0) ∙ ap (conn_set v.state.conns c) others);
  })

-- a connection that is set as it was
pub conn_set_same : (ks : List Conn) (c : ℕ) (k : Conn) → conn_at ks c ≡ Some k → conn_set ks c k ≡ ks
conn_set_same ks zero k at = refl
conn_set_same [] (suc i) k at = refl
conn_set_same (z ∷ zs) (suc zero) k at = ap (λ (y : Conn). y ∷ zs) (sym (same_Some z k at))
conn_set_same (z ∷ zs) (suc (suc i)) k at = ap (λ ys. z ∷ ys) (conn_set_same zs (suc i) k at)

-- the world is as before
pub is_unanswered : {H : Type 0} (does : Does H) (stops : Stops H) {v now : WorldSeen H} (c i : ℕ) (k k' : Conn) (h : H) (entries : List Entry) → v ≡ now → conn_at v.state.conns c ≡ Some k → k' ≡ record k { server = k'.server }
    → AnswerStep does stops i (Err answers.OutOfMemory) k.server v.state.handler v.state.log k'.server h (log_of entries)
    → record (v.state) { conns = slice_set v.state.conns (c - 1) k'; log = log_of entries; handler = h } ≡ now.state
is_unanswered does stops {v = v} c i k k' h entries seen at others (live, less, same, kept, log) =
    let conn : k' ≡ k = others ∙ ap (λ s. record k { server = s }) same in
    let conns : slice_set v.state.conns (c - 1) k' ≡ v.state.conns = sym (conn_set_place v.state.conns c k' (numbered v.state.conns c k at).0) ∙ ap (conn_set v.state.conns c) conn ∙ conn_set_same v.state.conns c k at in
    rw (conns, log, kept) (ap (λ (u : WorldSeen _). u.state) seen)

-- an open server at which the request waits refuses only if memory runs out
pub not_closed : {H : Type 0} (does : Does H) (stops : Stops H) (i : ℕ) (s s' : ServerView) (h h' : H) (log log' : List LogEntry) → s.state ≡ Open → AnswerStep does stops i (Err answers.Closed) s h log s' h' log' → ⊥
not_closed does stops i s s' h h' log log' live told = told.0 live

pub not_missing : {H : Type 0} (does : Does H) (stops : Stops H) (i : ℕ) (s s' : ServerView) (h h' : H) (log log' : List LogEntry) → i < length s.waiting → AnswerStep does stops i (Err answers.NoSuchRequest) s h log s' h' log' → ⊥
not_missing does stops i s s' h h' log log' more told = let less = told.1 in absurd (omega (arith, more, less))
