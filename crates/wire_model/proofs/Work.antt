-- The work that is left falls with each step that does some of it, and some of it can be done.
use Rattle.std.proofs.Common.{◌≡◌, ◌≢◌, ℕ, suc, zero, ◌+◌, ◌<◌, ◌≤◌, ◌^◌, ℤ, pos, true, false, List, [], ◌∷◌, ◌++◌, length, take, drop, refl, sym, ◌∙◌, ap, subst, arith, Option, Some, None, ◌⊎◌, inl, inr, Result, Ok, Err, length-append, length-drop, length-take}
use Rattle.std.specs.Prelude.{remove, slice_get}
use Rattle.std.proofs.lemmas.List.{append-nil}
use Rattle.std.proofs.lemmas.Option.{none-some, same_Some}
use mathlib.Core.Logic.{∥∥₁_elim, ∥∥₁_prop}
use Rattle.wire_msg.specs.{IsOpen, Message, SpellsMsg}
use Rattle.wire_msg.proofs.Lemmas.{canonical_spelled, length-canonical, open_not_bad, open_not_whole}
use Rattle.wire_stream.specs.{StandsAt}
use Rattle.wire_stream.specs.declared.reader_state.ReaderState.{ReaderState}
use Rattle.wire_stream.specs.declared.reader_state.ReaderState.TheVariants.{Need, Ready, Bad}
use Rattle.wire_peer.specs.{AnswerStep, ClientSeen, chain, Does, LogEntry, MayTake, ServerView, Stops, Takes, TakesBytes, released}
use Rattle.wire_peer.specs.Servers as server_steps
use Rattle.wire_peer.specs.declared.call_table.ReadyReply.{ReadyReply}
use Rattle.wire_peer.specs.declared.client_state.ClientState.TheVariants as clients
use Rattle.wire_peer.specs.declared.server_state.AnswerRefusal.{AnswerRefusal}
use Rattle.wire_peer.specs.declared.server_state.AnswerRefusal.TheVariants as refusals
use Rattle.wire_peer.specs.declared.server_state.ServerState.TheVariants as servers
use Rattle.wire_model.specs.Conns.{Record}
use Rattle.wire_model.proofs.Return.{released_none}
use Rattle.wire_model.specs.Channels.{Comes, Pair, Step, System, Taken, Trace, Way, client_sent, fewer, no_pairs, pair_at, pair_set, server_sent}
use Rattle.wire_model.specs.Channels as channels
use Rattle.wire_model.specs.Seen.{Agree, IsQuietPair, seen_as}
use Rattle.wire_model.specs.Work.{CanGoOn, Falls, IsAnswered, IsLess, IsLive, IsWork, MayAnswer, ready_work}
use Rattle.wire_model.proofs.Feeding.{client_feeds, down_first, server_feeds, up_first}
use Rattle.wire_model.proofs.Ends.{took_output}
use Rattle.wire_model.proofs.Knows.{not_told, open_not_stopped}
use Rattle.wire_model.proofs.PairHeadline.{Holds, all_hold}
use Rattle.wire_model.proofs.Pairs.{pair_set-other, pair_set-same, seen_at}
use Rattle.wire_model.proofs.Sound.{all_sound}

-- the id that the next reply of a call answers: that of its last part, or of its request
abbrev to_last : Option ℤ → ℤ → ℤ
to_last None id = id
to_last (Some last) id = last

-- ---- lists

some_length : (xs : List ℕ) → xs ≢ [] → 0 < length xs
some_length [] n = absurd (n refl)
some_length (x ∷ xs) n = omega arith

fewer_there : {A : Type 0} (xs : List A) (i : ℕ) (x : A) → slice_get xs i ≡ Some x
    → length (remove xs i) + 1 ≡ length xs
fewer_there [] i x at = absurd (none-some x at)
fewer_there (a ∷ xs) zero x at = omega arith
fewer_there (a ∷ xs) (suc i) x at = let e = fewer_there xs i x at in omega (arith, e)

-- ---- an end that is fed takes a byte at least

takes_some : (limit : ℕ) (held : List ℕ) (state : ReaderState) → IsOpen limit held
    → StandsAt limit held state → state ≡ Need
takes_some limit held Need o at = refl
takes_some limit held Ready o (le, (m, s)) = absurd (open_not_whole limit held [] m o (record {
  front = held;
  parts = sym (append-nil held);
  spelled = s;
  within = le;
}))
takes_some limit held (Bad f) o at = absurd (open_not_bad limit held f o at)

server_takes_some : (s : ServerView) (piece : List ℕ) (n : ℕ) (new : ServerView)
    → IsOpen s.limit s.held → piece ≢ [] → TakesBytes s piece n new → 0 < n
server_takes_some s piece zero new o some t =
    let same : t.bytes ≡ s.held = t.fed.held ∙ append-nil s.held in
    let need = takes_some s.limit s.held t.found o (subst (λ b. StandsAt s.limit b t.found) same
    t.fed.state) in
    let all = t.fed.all need in
    let lt = some_length piece some in
    absurd (omega (arith, all, lt))
server_takes_some s piece (suc n) new o some t = omega arith

client_takes_some : (k : ClientSeen) (piece : List ℕ) (n : ℕ) (new : ClientSeen)
    → IsOpen k.requests.limit k.held → piece ≢ [] → Takes k piece n new → 0 < n
client_takes_some k piece zero new o some t =
    let all = t.all (subst (IsOpen k.requests.limit) (sym (append-nil k.held)) o) in
    let lt = some_length piece some in
    absurd (omega (arith, all, lt))
client_takes_some k piece (suc n) new o some t = omega arith

-- ---- what a step leaves

-- n bytes fewer are in flight
fewer_in_flight : (w way : Way) (piece : List ℕ) (n : ℕ) → Taken w piece n way
    → length way.bytes + n ≡ length w.bytes
fewer_in_flight w way piece n t =
    let after = ap (λ (z : Way). length z.bytes) t.after in
    let parts = length-append (drop n piece) t.rest in
    let cut = length-drop n piece in
    let first = ap length t.first ∙ length-append piece t.rest in
    let within = t.within in
    omega (arith, after, parts, cut, first, within)

-- at most one more waits
one_more : (s : ServerView) (bytes : List ℕ) (found : ReaderState)
    → length (server_steps.holding s bytes found).waiting ≤ length s.waiting + 1
one_more s bytes Need = omega arith
one_more s bytes Ready = let e = length-append s.waiting (bytes ∷ []) in omega (arith, e)
one_more s bytes (Bad f) = omega arith

ready_one : (o : Option ReadyReply) → ready_work o ≤ 1
ready_one None = omega arith
ready_one (Some reply) = omega arith

module _ (H : Type 0) (does : Does H) (stops : Stops H) (limit : ℕ) where
  -- one pair is changed
  falls_set : (s s' : System H) (c d : ℕ) (p q o : Pair) → d ≡ c → pair_at s.pairs d ≡ Some q
      → pair_at s.pairs c ≡ Some p → s'.pairs ≡ pair_set s.pairs d o → IsLess o q
      → Falls H does stops limit s s' c p
  falls_set s s' c d p q o here at_d at is less =
      let same : q ≡ p = same_Some q p (sym at_d ∙ ap (pair_at s.pairs) here ∙ at) in
      record {
        q = o;
        at = ap (pair_at s'.pairs) (sym here) ∙ ap (λ ps. pair_at ps d) is
            ∙ pair_set-same s.pairs d q o at_d;
        less = subst (IsLess o) same less;
        others = λ e n. ap (λ ps. pair_at ps e) is
            ∙ pair_set-other s.pairs d e o (λ z. n (z ∙ here));
      }

  sends_less : (p : Pair) (n : ℕ) → 0 < n → n ≤ length p.client.requests.output
      → IsLess (client_sent p n) p
  sends_less p n some le =
      let o : List ℕ = p.client.requests.output in
      let cut = length-drop n o in
      let flight = length-append p.up.bytes (take n o) in
      let gone = length-take n o in
      inl (omega (arith, some, le, cut, flight, gone))

  sends_down_less : (p : Pair) (n : ℕ) → 0 < n → n ≤ length p.server.output
      → IsLess (server_sent p n) p
  sends_down_less p n some le =
      let o : List ℕ = p.server.output in
      let cut = length-drop n o in
      let flight = length-append p.down.bytes (take n o) in
      let gone = length-take n o in
      inr (refl, omega (arith, some, le, cut, flight, gone))

  feeds_less : (p : Pair) (piece : List ℕ) (n : ℕ) (server : ServerView) (way : Way)
      → IsOpen p.server.limit p.server.held → piece ≢ [] → TakesBytes p.server piece n server
      → Taken p.up piece n way → IsLess (record p { server = server; up = way }) p
  feeds_less p piece n server way o some takes t =
      let lt = server_takes_some p.server piece n server o some takes in
      let fewer = fewer_in_flight p.up way piece n t in
      let same = ap (λ (z : ServerView). length z.waiting) takes.is in
      let more = one_more p.server takes.bytes takes.found in
      inl (omega (arith, lt, fewer, same, more))

  feeds_down_less : (p : Pair) (piece : List ℕ) (n : ℕ) (client : ClientSeen) (way : Way)
      → IsOpen p.client.requests.limit p.client.held → piece ≢ [] → Takes p.client piece n client
      → Taken p.down piece n way → IsLess (record p { client = client; down = way }) p
  feeds_down_less p piece n client way o some takes t =
      let lt = client_takes_some p.client piece n client o some takes in
      let fewer = fewer_in_flight p.down way piece n t in
      let same = ap length (took_output p.client piece n client takes) in
      let one = ready_one client.reply in
      inr (omega (arith, same), omega (arith, lt, fewer, one))

  answers_less : (p : Pair) (i : ℕ) (result : Result ℕ AnswerRefusal) (server : ServerView)
      (h h' : H) (log log' : List LogEntry) → IsAnswered result
      → AnswerStep does stops i result p.server h log server h' log'
      → IsLess (record p { server = server }) p
  answers_less p i (Ok n) server h h' log log' is (live, many, (m, waits, (r, step, e))) =
      let same = ap (λ (z : ServerView). length z.waiting) e in
      let gone = fewer_there p.server.waiting i waits.bytes waits.at in
      inl (omega (arith, same, gone))
  answers_less p i (Err (refusals.NowClosed cause)) server h h' log log' is
      (live, e, (m, waits, why)) =
      let same = ap (λ (z : ServerView). length z.waiting) e in
      let gone = fewer_there p.server.waiting i waits.bytes waits.at in
      inl (omega (arith, same, gone))
  answers_less p i (Err refusals.Closed) server h h' log log' is step = absurd is
  answers_less p i (Err refusals.NoSuchRequest) server h h' log log' is step = absurd is
  answers_less p i (Err refusals.OutOfMemory) server h h' log log' is step = absurd is

  collects_less : (p : Pair) (reply : ReadyReply) → p.client.reply ≡ Some reply
      → IsLess (record p { client = released p.client }) p
  collects_less p reply ready = by p.client.reply ready
    where
      by : (o : Option ReadyReply) → o ≡ Some reply
          → IsLess (record p { client = released (record p.client { reply = o }) })
          (record p { client = record p.client { reply = o } })
      by None none = absurd (none-some reply none)
      by (Some other) is = inr (refl, omega arith)

  module _ (short : limit < 2 ^ 31) (first : H) (s : System H)
      (trace : Trace does stops limit (no_pairs first) s) where
    holds : Holds H does stops limit short first s
    holds = all_hold H does stops limit short first s trace

    -- what an open end holds is the beginning of a message
    server_holds : (c : ℕ) (p : Pair) → pair_at s.pairs c ≡ Some p
        → p.server.state ≡ servers.Open → IsOpen p.server.limit p.server.held
    server_holds c p at live =
        let here = holds.stands.ways.conns c (seen_as p) (seen_at s.pairs c p at) in
        let fits = here.fits in
        let alive : holds.m.server_lives c ≡ true = rw (← fits.server_is) (rw live refl) in
        subst (λ n. IsOpen n p.server.held) (sym fits.made.limit_up) (fits.up alive refl).still_open

    client_holds : (c : ℕ) (p : Pair) → pair_at s.pairs c ≡ Some p → MayTake p.client
        → IsOpen p.client.requests.limit p.client.held
    client_holds c p at may =
        let here = holds.stands.ways.conns c (seen_as p) (seen_at s.pairs c p at) in
        let fits = here.fits in
        let same : released p.client ≡ p.client = released_none p.client may.0 in
        let open_ : (released p.client).state ≡ clients.Open = ap (λ (k : ClientSeen). k.state) same
        ∙ may.1 in
        let alive : holds.m.client_lives c ≡ true = rw (← fits.client_is) (rw open_ refl) in
        let o : IsOpen limit (released p.client).held = (fits.down alive).still_open in
        let is : (released p.client).requests.limit ≡ limit = fits.made.limit_down in
        subst (λ (k : ClientSeen). IsOpen k.requests.limit k.held) same
        (subst (λ n. IsOpen n (released p.client).held) (sym is) o)

    -- the message of a reply that is ready
    ready_spelled : (c : ℕ) (p : Pair) → pair_at s.pairs c ≡ Some p → (reply : ReadyReply)
        → p.client.reply ≡ Some reply → (m : Message) × SpellsMsg m p.client.held
    ready_spelled c p at reply ready =
        let i = holds.kept.to c p at reply ready in
        let x = holds.kept.own c p at reply.call i.0 i.1 in
        let a = holds.kept.agree i.0 x.0 x.1 in
        by i.0 x.0 x.2 a.0 i.1 a.2
      where
        by : (i : ℕ) (x : Record) → x.connection ≡ c → (y : Record)
            → slice_get p.calls reply.call ≡ Some i → Agree s.pairs i x y
            → (m : Message) × SpellsMsg m p.client.held
        by i x conn y index (inl e) = absurd (e.1 (record {
          p = p;
          at = ap (pair_at s.pairs) conn ∙ at;
          reply = reply;
          ready = ready;
          index = index;
        }))
        by i x conn y index (inr a) =
            let same : a.is.p ≡ p = same_Some a.is.p p (sym a.is.at ∙ ap (pair_at s.pairs) conn
            ∙ at) in
            (a.m, subst (λ (z : Pair). SpellsMsg a.m z.client.held) same a.spells)

    -- ---- less is left

    pub falls : (s' : System H) (c : ℕ) (p : Pair) → pair_at s.pairs c ≡ Some p
        → (step : Step H does stops limit s s') → IsWork H does stops limit c s s' step
        → Falls H does stops limit s s' c p
    falls s' c p at (channels.pairs first_id cw sw least fits e) w = absurd w
    falls s' c p at (channels.calls d q kind payload number at_d is e) w = absurd w
    falls s' c p at (channels.sends_up d q n at_d le e) w =
        falls_set s s' c d p q (client_sent q n) w.0 at_d at (ap (λ (z : System H). z.pairs) e)
        (sends_less q n w.1 le)
    falls s' c p at (channels.feeds_up d q piece n server way at_d live room takes t e) w =
        falls_set s s' c d p q (record q { server = server; up = way }) w.0 at_d at
        (ap (λ (z : System H). z.pairs) e)
        (feeds_less q piece n server way (server_holds d q at_d live) w.1 takes t)
    falls s' c p at (channels.answers d q i result server handler log at_d step contents e) w =
        falls_set s s' c d p q (record q { server = server }) w.0 at_d at
        (ap (λ (z : System H). z.pairs) e)
        (answers_less q i result server s.handler handler s.log log w.1 step)
    falls s' c p at (channels.sends_down d q n at_d le e) w =
        falls_set s s' c d p q (server_sent q n) w.0 at_d at (ap (λ (z : System H). z.pairs) e)
        (sends_down_less q n w.1 le)
    falls s' c p at (channels.feeds_down d q piece n client way at_d may takes t e) w =
        falls_set s s' c d p q (record q { client = client; down = way }) w.0 at_d at
        (ap (λ (z : System H). z.pairs) e)
        (feeds_down_less q piece n client way (client_holds d q at_d may) w.1 takes t)
    falls s' c p at (channels.collects d q reply m at_d ready spells e) w =
        falls_set s s' c d p q (record q { client = released q.client }) w at_d at
        (ap (λ (z : System H). z.pairs) e) (collects_less q reply ready)
    falls s' c p at (channels.ends_up d q at_d e) w = absurd w
    falls s' c p at (channels.ends_down d q at_d e) w = absurd w
    falls s' c p at (channels.cuts_up d q n way at_d t e) w = absurd w
    falls s' c p at (channels.cuts_down d q n way at_d t e) w = absurd w

    -- ---- some can be done

    is_none : (o : Option ReadyReply) → (o ≡ None) ⊎ ((reply : ReadyReply) × (o ≡ Some reply))
    is_none None = inl refl
    is_none (Some reply) = inr (reply, refl)

    is_nil : {A : Type 0} (xs : List A) → (xs ≡ []) ⊎ ((x : A) × (rest : List A) × (xs ≡ x ∷ rest))
    is_nil [] = inl refl
    is_nil (x ∷ xs) = inr (x, xs, refl)

    abbrev Nil : {A : Type 0} → List A → Type 0
    Nil {A} xs = (xs ≡ []) ⊎ ((x : A) × (rest : List A) × (xs ≡ x ∷ rest))

    some_behind : (xs ys zs : List ℕ) (y : ℕ) → xs ++ ((y ∷ ys) ++ zs) ≢ []
    some_behind [] ys zs y e = cc
    some_behind (x ∷ xs) ys zs y e = cc

    -- one byte of those in flight arrives
    one_came : (way : Way) (b : ℕ) (rest : List ℕ) → way.bytes ≡ b ∷ rest → way.left ≡ None
        → Taken way (b ∷ []) 1 (record { bytes = rest; left = fewer way.left 1 })
    one_came way b rest is uncut = record {
      rest = rest;
      first = is;
      comes = subst (λ o. Comes o 1) (sym uncut) tt;
      within = omega arith;
      after = refl;
    }

    abbrev Some_step : ℕ → Type 0
    Some_step c =
        ∥ ((s' : System H) × (step : Step H does stops limit s s')
        × IsWork H does stops limit c s s' step) ∥₁

    module _ (c : ℕ) (p : Pair) (at : pair_at s.pairs c ≡ Some p) (live : IsLive p) where
      feeds_the_server : (b : ℕ) (tail : List ℕ) → p.up.bytes ≡ b ∷ tail
          → p.server.waiting ≡ [] → Some_step c
      feeds_the_server b tail some none =
          let here = holds.stands.ways.conns c (seen_as p) (seen_at s.pairs c p at) in
          let fits = here.fits in
          let alive : holds.m.server_lives c ≡ true = rw (← fits.server_is) (rw live.server_open
          refl) in
          let up = fits.up alive refl in
          let out : List ℕ = p.client.requests.output in
          let f = up_first here.route.onway (λ t. record {
            id = t.id;
            response_to = pos 0;
            flags = record {
              more_to_come = t.asked.more_to_come;
              exhaust_allowed = t.asked.exhaust_allowed;
            };
            content = t.asked.payload;
          }) (p.server.held ++ (p.up.bytes ++ out)) up.fit up.bytes
          (λ e. some_behind p.server.held tail out b
          (ap (λ z. p.server.held ++ (z ++ out)) (sym some) ∙ e)) in
          ∥∥₁_elim f.2.content ∥∥₁_prop (λ is.
          let m : Message = record {
            id = f.0.id;
            response_to = pos 0;
            flags = record {
              more_to_come = f.0.asked.more_to_come;
              exhaust_allowed = f.0.asked.exhaust_allowed;
            };
            content = f.0.asked.payload;
          } in
          let few = f.2.within in
          let g = server_feeds limit short p.server.held b (tail ++ out) f.1 m up.still_open
          (ap (λ z. p.server.held ++ (z ++ out)) (sym some) ∙ f.3)
          (omega (arith, few, length-canonical m)) p.server fits.made.limit_up refl
          (canonical_spelled m f.2.id f.2.response_to is (omega (arith, few, short))) in
          let many = ap length none in
          let room = live.room in
          ∣ (
            _,
            channels.feeds_up c p (b ∷ []) 1 g.0 (record {
              bytes = tail;
              left = fewer p.up.left 1;
            }) at live.server_open (omega (arith, many, room)) g.1
                (one_came p.up b tail some live.up_uncut) refl,
            (refl, λ e. cc),
          ) ∣₁)

      feeds_the_client : (b : ℕ) (tail : List ℕ) → p.down.bytes ≡ b ∷ tail
          → p.client.reply ≡ None → Some_step c
      feeds_the_client b tail some none =
          let here = holds.stands.ways.conns c (seen_as p) (seen_at s.pairs c p at) in
          let fits = here.fits in
          let same : released p.client ≡ p.client = released_none p.client none in
          let open_ : (released p.client).state ≡ clients.Open = ap (λ (k : ClientSeen). k.state)
          same ∙ live.client_open in
          let alive : holds.m.client_lives c ≡ true = rw (← fits.client_is) (rw open_ refl) in
          let down = fits.down alive in
          let k : ClientSeen = released p.client in
          let out : List ℕ = p.server.output in
          let f = down_first here.route.due (λ d. chain d.next (to_last d.last d.tag.id) d.left)
          (k.held ++ (p.down.bytes ++ out)) down.fit down.bytes
          (λ e. some_behind k.held tail out b
          (ap (λ z. k.held ++ (z ++ out)) (sym some) ∙ e)) in
          ∥∥₁_elim f.2.content ∥∥₁_prop (λ is.
          let m : Message = f.0 in
          let few = f.2.within in
          let g = client_feeds limit short k.held b (tail ++ out) f.1 m down.still_open
          (ap (λ z. k.held ++ (z ++ out)) (sym some) ∙ f.3)
          (omega (arith, few, length-canonical m)) p.client
          (ap (λ (z : ClientSeen). z.requests.limit) (sym same) ∙ fits.made.limit_down)
          (ap (λ (z : ClientSeen). z.held) (sym same))
          (canonical_spelled m f.2.id f.2.response_to is (omega (arith, few, short))) in
          ∣ (
            _,
            channels.feeds_down c p (b ∷ []) 1 g.0 (record {
              bytes = tail;
              left = fewer p.down.left 1;
            }) at (none, live.client_open) g.1
                (one_came p.down b tail some live.down_uncut) refl,
            (refl, λ e. cc),
          ) ∣₁)

      answers : p.server.waiting ≢ [] → MayAnswer H does stops limit s p
      answers some = record {
        is_open = live.server_open;
        some_wait = some;
        comes = comes;
      }
        where
          comes : (i : ℕ) (result : Result ℕ AnswerRefusal) (server : ServerView) (handler : H)
              (log : List LogEntry) → i < length p.server.waiting
              → AnswerStep does stops i result p.server s.handler s.log server handler log
              → IsAnswered result ⊎ (result ≡ Err refusals.OutOfMemory)
          comes i (Ok n) server handler log lt step = inl tt
          comes i (Err (refusals.NowClosed cause)) server handler log lt step = inl tt
          comes i (Err refusals.Closed) server handler log lt step =
              absurd (step.0 live.server_open)
          comes i (Err refusals.NoSuchRequest) server handler log lt step =
              absurd (let le = step.1 in omega (arith, le, lt))
          comes i (Err refusals.OutOfMemory) server handler log lt step = inr refl

      told : (p.server_told ≡ false) × (p.client_told ≡ false)
      told =
          let t = (all_sound H does stops limit first s trace).told c p at in (
            not_told p.server_told (λ e. t.0 e live.server_open),
            not_told p.client_told (λ e. t.1 e live.client_open),
          )

      pub goes_on : (IsQuietPair s.pairs c → ⊥) → CanGoOn H does stops limit s c p
      goes_on busy =
          by (is_none p.client.reply) (is_nil p.client.requests.output) (is_nil p.server.output)
          (is_nil p.server.waiting) (is_nil p.up.bytes) (is_nil p.down.bytes)
        where
          some_of : {A : Type 0} (xs : List A) (x : A) (rest : List A) → xs ≡ x ∷ rest → xs ≢ []
          some_of xs x rest e none = let no_ : x ∷ rest ≡ [] = sym e ∙ none in cc

          by : (p.client.reply ≡ None) ⊎ ((reply : ReadyReply) × (p.client.reply ≡ Some reply))
              → Nil p.client.requests.output → Nil p.server.output → Nil p.server.waiting
              → Nil p.up.bytes → Nil p.down.bytes → CanGoOn H does stops limit s c p
          by (inr r) o out w up down =
              let m = ready_spelled c p at r.0 r.1 in
              inl ∣ (_, channels.collects c p r.0 m.0 at r.1 m.1 refl, refl) ∣₁
          by (inl none) (inr some) out w up down = inl ∣ (
            _,
            channels.sends_up c p (length p.client.requests.output) at (omega arith) refl,
            (refl, some_length p.client.requests.output (some_of _ some.0 some.1 some.2)),
          ) ∣₁
          by (inl none) (inl no_) (inr some) w up down = inl ∣ (
            _,
            channels.sends_down c p (length p.server.output) at (omega arith) refl,
            (refl, some_length p.server.output (some_of _ some.0 some.1 some.2)),
          ) ∣₁
          by (inl none) (inl no_) (inl no_out) (inr some) up down =
              inr (answers (some_of _ some.0 some.1 some.2))
          by (inl none) (inl no_) (inl no_out) (inl no_one) (inr some) down =
              inl (feeds_the_server some.0 some.1 some.2 no_one)
          by (inl none) (inl no_) (inl no_out) (inl no_one) (inl no_up) (inr some) =
              inl (feeds_the_client some.0 some.1 some.2 none)
          by (inl none) (inl no_) (inl no_out) (inl no_one) (inl no_up) (inl no_down) =
              absurd (busy (record {
                p = p;
                at = at;
                server_untold = told.0;
                client_untold = told.1;
                not_stopped = open_not_stopped p.server.state live.server_open;
                none_up = no_up;
                none_down = no_down;
                client_empty = no_;
                server_empty = no_out;
                none_waits = no_one;
                none_ready = none;
              }))
