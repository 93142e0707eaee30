-- What holds of every system that a trace leads to: each record is that of a call of its pair's client,
-- and an end that was told that no more bytes come is closed.
use Rattle.std.proofs.Common.{◌≡◌, ℕ, zero, suc, true, List, [], length, map, refl, sym, ◌∙◌, ap, Option, Some, None, ◌⊎◌, inl, inr, Result, Ok, Err}
use Rattle.std.specs.Prelude.{slice_get, slice_set}
use Rattle.std.proofs.lemmas.Option.{none-some, same_Some}
use Rattle.wire_msg.specs.{Content}
use Rattle.wire_peer.specs.{AnswerStep, ClientSeen, Does, LogEntry, ServerView, Stops, closed_for, content_of, released}
use Rattle.wire_peer.specs.ClientSteps.{after_release, state_after}
use Rattle.wire_peer.specs.declared.call_table.ReadyReply.{ReadyReply}
use Rattle.wire_peer.specs.declared.client_state.ClientCause.{ClientCause}
use Rattle.wire_peer.specs.declared.client_state.ClientState.{ClientState}
use Rattle.wire_peer.specs.declared.client_state.ClientState.TheVariants as clients
use Rattle.wire_peer.specs.declared.server_state.AnswerRefusal.{AnswerRefusal}
use Rattle.wire_peer.specs.declared.server_state.AnswerRefusal.TheVariants as refusals
use Rattle.wire_peer.specs.declared.server_state.ServerCause.{ServerCause}
use Rattle.wire_peer.specs.declared.server_state.ServerState.{ServerState}
use Rattle.wire_peer.specs.declared.server_state.ServerState.TheVariants as servers
use Rattle.wire_model.specs.Conns.{Record, given_record, new_record}
use Rattle.wire_model.specs.Machines.{asked_as}
use Rattle.wire_model.specs.Moves.{put_at, put_part}
use Rattle.wire_model.proofs.Lists.{get-map_back, get-push_cases, get-push_new, get-push_old, get-set_other, get-set_same, same_or_not}
use Rattle.wire_model.specs.Channels.{Pair, Step, Steps, System, client_ended, client_sent, lost_at, new_pair, no_pairs, pair_at, pair_set, server_ended, server_sent}
use Rattle.wire_model.specs.Channels as channels
use Rattle.wire_model.proofs.Pairs.{pair_push-cases, pair_push-old, pair_set-other, pair_set-same}

-- an end that was told isn't open
abbrev pub ToldIsShut : Pair → Type 0
ToldIsShut p =
    (p.server_told ≡ true → p.server.state ≡ servers.Open → ⊥)
    × (p.client_told ≡ true → p.client.state ≡ clients.Open → ⊥)

pub record Sound {H : Type 0} (s : System H) : Type 0 where
  pub covered : (i : ℕ) (x : Record) → slice_get s.calls i ≡ Some x → (p : Pair)
      × (pair_at s.pairs x.connection ≡ Some p) × (n : ℕ) × (slice_get p.calls n ≡ Some i)
  pub told : (c : ℕ) (p : Pair) → pair_at s.pairs c ≡ Some p → ToldIsShut p

-- each record was there already, of the same connection, or is a new one of the pair that is changed
abbrev Comes : List Record → List Record → ℕ → Pair → Type 0
Comes xs ys c q =
    (i : ℕ) (y : Record) → slice_get ys i ≡ Some y
    → ((x : Record) × (slice_get xs i ≡ Some x) × (x.connection ≡ y.connection))
    ⊎ ((c ≡ y.connection) × (n : ℕ) × (slice_get q.calls n ≡ Some i))

still_comes : (xs : List Record) (c : ℕ) (q : Pair) → Comes xs xs c q
still_comes xs c q i y at = inl (y, at, refl)

-- a part is put in
given_comes : (xs : List Record) (o : Option ℕ) (part : Content) (last : _) (c : ℕ) (q : Pair)
    → Comes xs (put_at o part last xs) c q
given_comes xs None part last c q i y at = inl (y, at, refl)
given_comes xs (Some j) part last c q i y at = by (slice_get xs j) refl at
  where
    by : (z : Option Record) → slice_get xs j ≡ z
        → slice_get (put_part z j part last xs) i ≡ Some y
        → ((x : Record) × (slice_get xs i ≡ Some x) × (x.connection ≡ y.connection))
        ⊎ ((c ≡ y.connection) × (n : ℕ) × (slice_get q.calls n ≡ Some i))
    by None e g = inl (y, g, refl)
    by (Some x) e g = elim (same_or_not i j) [
      | inl is ↦ inl (
        x,
        ap (slice_get xs) is ∙ e,
        ap (λ (r : Record). r.connection) (same_Some (given_record x part last) y
            (sym (get-set_same xs j x (given_record x part last) e)
            ∙ ap (slice_get (slice_set xs j (given_record x part last))) (sym is) ∙ g)),
      )
      | inr n ↦ inl (y, sym (get-set_other xs j i (given_record x part last) n) ∙ g, refl)
    ]

lost_comes : (xs : List Record) (c d : ℕ) (q : Pair) → Comes xs (map (lost_at d) xs) c q
lost_comes xs c d q i y at = let b = get-map_back (lost_at d) xs i y at in inl (
  b.0,
  b.1,
  ap (λ (r : Record). r.connection) b.2,
)

-- ---- an end that was told is closed

shut_client : (s : ClientState) (cause : ClientCause) → state_after s cause ≡ clients.Open → ⊥
shut_client clients.Open cause e = cc
shut_client (clients.Closed first) cause e = cc

shut_server : (cause : ServerCause) (s : ServerState) → closed_for cause s ≡ servers.Open → ⊥
shut_server cause servers.Open e = cc
shut_server cause (servers.Closed first) e = cc

released_state : (k : ClientSeen) → (released k).state ≡ k.state
released_state k = by k.reply
  where
    by : (o : Option ReadyReply) → (after_release o k).state ≡ k.state
    by None = refl
    by (Some reply) = refl

answered_shut : {H : Type 0} (does : Does H) (stops : Stops H) (i : ℕ) (r : Result ℕ AnswerRefusal)
    (s s' : ServerView) (h h' : H) (log log' : List LogEntry)
    → AnswerStep does stops i r s h log s' h' log' → (s.state ≡ servers.Open → ⊥)
    → s'.state ≡ servers.Open → ⊥
answered_shut does stops i (Ok n) s s' h h' log log' a shut live = shut a.0
answered_shut does stops i (Err (refusals.NowClosed cause)) s s' h h' log log' a shut live =
    shut a.0
answered_shut does stops i (Err refusals.Closed) s s' h h' log log' a shut live =
    shut (ap (λ (z : ServerView). z.state) (sym a.1) ∙ live)
answered_shut does stops i (Err refusals.NoSuchRequest) s s' h h' log log' a shut live = shut a.0
answered_shut does stops i (Err refusals.OutOfMemory) s s' h h' log log' a shut live = shut a.0

-- ---- step after step

module _ (H : Type 0) (does : Does H) (stops : Stops H) (limit : ℕ) where
  -- one pair is changed
  sound_set : (s s' : System H) (c : ℕ) (p q : Pair) → Sound s → pair_at s.pairs c ≡ Some p
      → s'.pairs ≡ pair_set s.pairs c q
      → ((n i : ℕ) → slice_get p.calls n ≡ Some i → slice_get q.calls n ≡ Some i)
      → Comes s.calls s'.calls c q → ToldIsShut q → Sound s'
  sound_set s s' c p q a at is kept comes shut = record {
    covered = λ i y g. by i y (comes i y g);
    told = λ d o g. elim (same_or_not d c) [
      | inl e ↦
          let same : q ≡ o = same_Some q o (sym (here d e) ∙ g) in
          rw (← same) shut
      | inr n ↦ a.told d o (sym (there d n) ∙ g)
    ];
  }
    where
      here : (d : ℕ) → d ≡ c → pair_at s'.pairs d ≡ Some q
      here d e =
          ap (λ ps. pair_at ps d) is ∙ ap (pair_at (pair_set s.pairs c q)) e
          ∙ pair_set-same s.pairs c p q at

      there : (d : ℕ) → (d ≡ c → ⊥) → pair_at s'.pairs d ≡ pair_at s.pairs d
      there d n = ap (λ ps. pair_at ps d) is ∙ pair_set-other s.pairs c d q n

      by : (i : ℕ) (y : Record)
          → ((x : Record) × (slice_get s.calls i ≡ Some x) × (x.connection ≡ y.connection))
          ⊎ ((c ≡ y.connection) × (n : ℕ) × (slice_get q.calls n ≡ Some i))
          → (o : Pair) × (pair_at s'.pairs y.connection ≡ Some o) × (n : ℕ)
          × (slice_get o.calls n ≡ Some i)
      by i y (inr w) = (q, here y.connection (sym w.0), w.1, w.2)
      by i y (inl w) =
          let v = a.covered i w.0 w.1 in
          let at_y : pair_at s.pairs y.connection ≡ Some v.0 = ap (pair_at s.pairs) (sym w.2)
          ∙ v.1 in
          elim (same_or_not y.connection c) [
            | inl e ↦
                let same : v.0 ≡ p = same_Some v.0 p (sym at_y ∙ ap (pair_at s.pairs) e ∙ at) in (
                  q,
                  here y.connection e,
                  v.2,
                  kept v.2 i (ap (λ (z : Pair). slice_get z.calls v.2)
                      (sym same) ∙ v.3),
                )
            | inr n ↦ (v.0, there y.connection n ∙ at_y, v.2, v.3)
          ]

  sound_step : (s s' : System H) → Step H does stops limit s s' → Sound s → Sound s'
  sound_step s s' (channels.pairs first_id cw sw least fits e) a = rw e (record {
    covered = λ i x g.
        let v = a.covered i x g in
        (v.0, pair_push-old s.pairs x.connection v.0 made v.1, v.2, v.3);
    told = λ c p g. elim (pair_push-cases s.pairs c p made g) [
      | inl old ↦ a.told c p old
      | inr new ↦ rw (← new) ((λ told live. cc), (λ told live. cc))
    ];
  })
    where
      made : Pair
      made = new_pair (suc (length s.pairs)) limit first_id cw sw
  sound_step s s' (channels.calls c p kind payload number at is e) a =
      rw e (sound_set s _ c p _ a at refl
      (λ n i g. get-push_old p.calls n i (length s.calls) g)
      (λ i y g. elim (get-push_cases s.calls i y r g) [
        | inl old ↦ inl (y, old, refl)
        | inr new ↦ inr (
          ap (λ (z : Record). z.connection) new.1,
          length p.calls,
          get-push_new
              p.calls (length s.calls) ∙ ap (λ z. Some z) (sym new.0),
        )
      ]) (a.told c p at))
    where
      r : Record
      r = new_record c (asked_as kind (content_of payload))
  sound_step s s' (channels.sends_up c p n at le e) a =
      rw e (sound_set s _ c p (client_sent p n) a at refl (λ n i g. g)
      (still_comes s.calls c (client_sent p n)) (a.told c p at))
  sound_step s s' (channels.feeds_up c p piece n server way at live room takes t e) a =
      let q : Pair = record p { server = server; up = way } in
      rw e (sound_set s _ c p q a at refl (λ n i g. g)
      (still_comes s.calls c q)
      ((λ told live'. (a.told c p at).0 told live), (a.told c p at).1))
  sound_step s s' (channels.answers c p i result server handler log at step contents e) a =
      let q : Pair = record p { server = server } in
      rw e (sound_set s _ c p q a at refl (λ n i g. g)
      (still_comes s.calls c q) (
        (λ told live. answered_shut does stops i result p.server server s.handler handler s.log log
            step ((a.told c p at).0 told) live),
        (a.told c p at).1,
      ))
  sound_step s s' (channels.sends_down c p n at le e) a =
      rw e (sound_set s _ c p (server_sent p n) a at refl (λ n i g. g)
      (still_comes s.calls c (server_sent p n)) (a.told c p at))
  sound_step s s' (channels.feeds_down c p piece n client way at may takes t e) a =
      let q : Pair = record p { client = client; down = way } in
      rw e (sound_set s _ c p q a at refl (λ n i g. g)
      (still_comes s.calls c q)
      ((a.told c p at).0, (λ told live. (a.told c p at).1 told may.1)))
  sound_step s s' (channels.collects c p reply m at ready spells e) a =
      let q : Pair = record p { client = released p.client } in
      rw e (sound_set s _ c p q a at refl (λ n i g. g)
      (given_comes s.calls (slice_get p.calls reply.call) m.content reply.last c q) (
        (a.told c p at).0,
        (λ told live. (a.told c p at).1 told (sym (released_state p.client)
            ∙ live)),
      ))
  sound_step s s' (channels.ends_up c p at e) a =
      rw e (sound_set s _ c p (server_ended p) a at refl (λ n i g. g)
      (still_comes s.calls c (server_ended p))
      ((λ told live. shut_server _ p.server.state live), (a.told c p at).1))
  sound_step s s' (channels.ends_down c p at e) a =
      rw e (sound_set s _ c p (client_ended p) a at refl (λ n i g. g)
      (lost_comes s.calls c c (client_ended p))
      ((a.told c p at).0, (λ told live. shut_client p.client.state _ live)))
  sound_step s s' (channels.cuts_up c p n way at t e) a =
      let q : Pair = record p { up = way } in
      rw e (sound_set s _ c p q a at refl (λ n i g. g) (still_comes s.calls c q) (a.told c p at))
  sound_step s s' (channels.cuts_down c p n way at t e) a =
      let q : Pair = record p { down = way } in
      rw e (sound_set s _ c p q a at refl (λ n i g. g) (still_comes s.calls c q) (a.told c p at))

  pub all_sound : (first : H) (s : System H) → Steps H does stops limit (no_pairs first) s
      → Sound s
  all_sound first s channels.stay = record {
    covered = λ i x g. absurd (none-some x g);
    told = λ c p g. absurd (nowhere c p g);
  }
    where
      nowhere : (c : ℕ) (p : Pair) → pair_at [] c ≡ Some p → ⊥
      nowhere zero p at = none-some p at
      nowhere (suc c) p at = none-some p at
  all_sound first s (channels.go {mid = mid} more one) =
      sound_step mid s one (all_sound first mid more)
