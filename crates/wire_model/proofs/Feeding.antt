-- An open end takes the next byte that is in flight to it.
use Rattle.std.proofs.Common.{◌≡◌, ◌≢◌, ℕ, ◌+◌, ◌<◌, ◌≤◌, ◌^◌, List, [], ◌∷◌, ◌++◌, length, take, drop, refl, sym, ◌∙◌, ap, subst, append_assoc, arith, ◌⊎◌, inl, inr, length-append}
use Rattle.std.specs.List.{flat_map}
use Rattle.std.proofs.lemmas.Bool.{cases_lt}
use Rattle.std.proofs.lemmas.List.{append-nil, take-append-drop, take-append-le, take_at}
use Rattle.wire_msg.specs.{IsOpen, Message, SpellsMsg, canonical}
use Rattle.wire_msg.specs.Standing.{in_header, in_message}
use Rattle.wire_msg.proofs.Lemmas.{open_inside, open_not_whole}
use Rattle.wire_stream.specs.{HoldsNoMore, StandsAt}
use Rattle.wire_stream.specs.declared.reader_state.ReaderState.{ReaderState}
use Rattle.wire_stream.specs.declared.reader_state.ReaderState.TheVariants.{Need, Ready}
use Rattle.wire_peer.specs.{ClientSeen, ServerView, Takes, TakesBytes, after_message, holding, written}
use Rattle.wire_peer.specs.ClientSteps.{is_message, is_open}
use Rattle.wire_peer.specs.Servers as server_steps
use Rattle.wire_model.proofs.Numbers.{Each}
use Rattle.wire_model.proofs.Acts.{whole_no_more}

-- ---- what is in flight begins with a message

pub up_first : {T : Type 0} {Q : T → Type 0} (ts : List T) (msg : T → Message) (bytes : List ℕ)
    → Each Q ts → bytes ≡ flat_map (λ t. canonical (msg t)) ts → bytes ≢ []
    → (t : T) × (rest : List ℕ) × Q t × (bytes ≡ canonical (msg t) ++ rest)
up_first [] msg bytes each is some = absurd (some is)
up_first (t ∷ ts) msg bytes each is some =
    (t, flat_map (λ t. canonical (msg t)) ts, each.0, is)

written_first : {Q : Message → Type 0} (ms : List Message) (bytes rest : List ℕ) → Each Q ms
    → bytes ≡ written ms ++ rest
    → (bytes ≡ rest) ⊎ ((m : Message) × (more : List ℕ) × Q m × (bytes ≡ canonical m ++ more))
written_first [] bytes rest each is = inl is
written_first (m ∷ ms) bytes rest each is =
    inr (m, written ms ++ rest, each.0, is ∙ append_assoc (canonical m) (written ms) rest)

pub down_first : {T : Type 0} {Q : Message → Type 0} (ts : List T) (msgs : T → List Message)
    (bytes : List ℕ) → Each (λ t. Each Q (msgs t)) ts
    → bytes ≡ flat_map (λ t. written (msgs t)) ts → bytes ≢ []
    → (m : Message) × (rest : List ℕ) × Q m × (bytes ≡ canonical m ++ rest)
down_first [] msgs bytes each is some = absurd (some is)
down_first {T} {Q} (t ∷ ts) msgs bytes each is some =
    elim (written_first (msgs t) bytes (flat_map (λ t. written (msgs t)) ts) each.0 is) [
      | inl same ↦ down_first ts msgs bytes each.1 same some
      | inr first ↦ first
    ]

-- ---- one byte more

module _ (limit : ℕ) (short : limit < 2 ^ 31) (held : List ℕ) (b : ℕ) (rest d : List ℕ)
    (m : Message) (o : IsOpen limit held)
    (is : held ++ (b ∷ rest) ≡ canonical m ++ d) (le : length (canonical m) ≤ limit) where
  abbrev next : List ℕ
  next = held ++ b ∷ []

  next_is : next ++ rest ≡ canonical m ++ d
  next_is = append_assoc held (b ∷ []) rest ∙ is

  long : length next ≡ length held + 1
  long = length-append held (b ∷ [])

  -- the next byte is the message's last one, or more of the message come
  one_byte : SpellsMsg m (canonical m)
      → IsOpen limit next ⊎ (SpellsMsg m next × (length next ≤ limit))
  one_byte s = elim (cases_lt (length next) (length (canonical m))) [
    | inl fewer ↦
        let front : take (length next) (canonical m) ≡ next =
        sym (take-append-le (length next) (canonical m) d (omega (arith, fewer)))
        ∙ ap (take (length next)) (sym next_is) ∙ take_at next rest (length next) refl in
        let whole : next ++ drop (length next) (canonical m) ≡ canonical m =
        ap (λ z. z ++ drop (length next) (canonical m)) (sym front)
        ∙ take-append-drop (length next) (canonical m) in
        inl (open_inside limit m next (drop (length next) (canonical m))
        (subst (SpellsMsg m) (sym whole) s) (subst (λ z. length z ≤ limit) (sym whole) le)
        (λ none. (let all = ap length (sym whole ∙ ap (λ z. next ++ z) none ∙ append-nil next) in
        omega (arith, all, fewer))))
    | inr enough ↦ elim (cases_lt (length held) (length (canonical m))) [
      | inl last ↦
          let many : length next ≡ length (canonical m) = omega (arith, enough, last, long) in
          let same : canonical m ≡ next = sym (take_at (canonical m) d (length next) (sym many))
          ∙ ap (take (length next)) (sym next_is) ∙ take_at next rest (length next) refl in
          inr (subst (SpellsMsg m) same s, subst (λ z. length z ≤ limit) same le)
      | inr past ↦
          let front : take (length (canonical m)) held ≡ canonical m =
          sym (take-append-le (length (canonical m)) held (b ∷ rest) past)
          ∙ ap (take (length (canonical m))) is
          ∙ take_at (canonical m) d (length (canonical m)) refl in
          absurd (open_not_whole limit held (drop (length (canonical m)) held) m o (record {
            front = canonical m;
            parts = sym (take-append-drop (length (canonical m)) held)
                ∙ ap (λ z. z ++ drop (length (canonical m)) held) front;
            spelled = s;
            within = le;
          }))
    ]
  ]

  open_no_more : (x : List ℕ) → IsOpen limit x → HoldsNoMore limit x
  open_no_more x (in_header lt) = inl (omega (arith, lt))
  open_no_more x (in_message room good lt) = inr (good, omega (arith, lt))

  -- a server takes it
  pub server_feeds : (s : ServerView) → s.limit ≡ limit → s.held ≡ held → SpellsMsg m (canonical m)
      → (server : ServerView) × TakesBytes s (b ∷ []) 1 server
  server_feeds s lim same spelled =
      by (one_byte spelled)
    where
      so : (found : ReaderState) → StandsAt s.limit (s.held ++ b ∷ []) found
          → HoldsNoMore s.limit (s.held ++ b ∷ [])
          → (server : ServerView) × TakesBytes s (b ∷ []) 1 server
      so found stands no_more = (
        server_steps.holding s (s.held ++ b ∷ []) found,
        record {
          bytes = s.held ++ b ∷ [];
          found = found;
          fed = record {
            taken = omega arith;
            held = refl;
            state = stands;
            no_more = no_more;
            all = λ e. refl;
          };
          is = refl;
        },
      )

      by : IsOpen limit next ⊎ (SpellsMsg m next × (length next ≤ limit))
          → (server : ServerView) × TakesBytes s (b ∷ []) 1 server
      by (inl x) =
          let y : IsOpen s.limit (s.held ++ b ∷ []) = rw (lim, same) x in
          so Need y (rw (lim, same) (open_no_more next x))
      by (inr x) =
          so Ready (rw (lim, same) (x.1, (m, x.0)))
          (rw (lim, same) (whole_no_more limit m next x.0 x.1))

  -- and a client
  pub client_feeds : (k : ClientSeen) → k.requests.limit ≡ limit → k.held ≡ held
      → SpellsMsg m (canonical m) → (client : ClientSeen) × Takes k (b ∷ []) 1 client
  client_feeds k lim same spelled = by (one_byte spelled)
    where
      by : IsOpen limit next ⊎ (SpellsMsg m next × (length next ≤ limit))
          → (client : ClientSeen) × Takes k (b ∷ []) 1 client
      by (inl x) = (
        holding k (k.held ++ b ∷ []),
        record {
          within = omega arith;
          no_more = rw (lim, same) (open_no_more next x);
          all = λ o. refl;
          settles = is_open (rw (lim, same) x) refl;
        },
      )
      by (inr x) = (
        after_message (holding k (k.held ++ b ∷ [])) m,
        record {
          within = omega arith;
          no_more = rw (lim, same) (whole_no_more limit m next x.0 x.1);
          all = λ o. refl;
          settles = is_message m (rw same x.0) (rw (lim, same) x.1) refl;
        },
      )
