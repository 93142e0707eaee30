-- The law.
use Rattle.std.proofs.Common.{length, ◌≡◌, ℕ, zero, suc, ◌<◌, ◌^◌, Bool, false, List, [], ◌∷◌, ◌++◌, map, refl, sym, ◌∙◌, ap, subst, arith, Option, Some, None, inl, inr, Result, Ok, Err}
use Rattle.std.specs.Prelude.{pos, slice_get, slice_set}
use Rattle.std.proofs.lemmas.Option.{none-some, same_Some}
use Rattle.wire_peer.specs.{IsLimit, AnswerStep, Does, LogEntry, ServerView, Stops, content_of}
use Rattle.wire_peer.specs.declared.call_table.ReadyReply.{ReadyReply}
use Rattle.wire_peer.specs.declared.server_state.AnswerRefusal.{AnswerRefusal}
use Rattle.wire_peer.specs.declared.server_state.AnswerRefusal.TheVariants as refusals
use Rattle.wire_model.specs.declared.limits.WorldLimits.{WorldLimits}
use Rattle.wire_model.specs.Happening.{AreContents}
use Rattle.wire_model.specs.Conns.{Conn, Record, conn_at, given_record, new_record}
use Rattle.wire_model.specs.Moves.{CopiesReply}
use Rattle.wire_model.specs.Machines.{Done, Lost, Machine, Pending, asked_as, empty}
use Rattle.wire_model.specs.Shown.{Headline, IsQuiet, is_raw, raws}
use Rattle.wire_model.specs.Machines as machine
use Rattle.wire_model.proofs.Agreeing.{Agrees}
use Rattle.wire_model.proofs.Begun.{agrees_opening}
use Rattle.wire_model.proofs.Main.{headline_of}
use Rattle.wire_model.proofs.Promises.{ok_empty, ok_steps}
use Rattle.wire_model.proofs.Quiet.{quiet_of}
use Rattle.wire_model.proofs.Grows.{raw_steps}
use Rattle.wire_model.proofs.Reaches.{steps_then}
use Rattle.wire_model.specs.Channels.{Pair, System, Trace, Way, client_sent, collected, given_up, issued, no_pairs, pair_at, paired, new_pair, server_ended, server_sent, with_pair}
use Rattle.wire_model.specs.Channels as channels
use Rattle.wire_model.specs.Knowing.{Owned}
use Rattle.wire_model.specs.Seen.{Agree, Channelled, IsQuietPair, seen_as, world_of}
use Rattle.wire_model.proofs.Ends.{let_go, sent_down, sent_up, took_spelled}
use Rattle.wire_model.proofs.Goes
use Rattle.wire_model.proofs.Goes.{nothing}
use Rattle.wire_model.proofs.Owns.{owned_calls}
use Rattle.wire_model.proofs.Pairs.{seen_at, seen_raw}
use Rattle.wire_model.proofs.Records.{Kept, kept_alike, kept_calls, kept_collected, kept_ended, kept_fed, kept_pairs, kept_ready, put_is}

-- a message's length fits an int32
pub short_limit : (limit : ℕ) → IsLimit limit → limit < 2 ^ 31
short_limit limit is = let most = is.1 in omega arith

module _ (H : Type 0) (does : Does H) (stops : Stops H) (limit : ℕ) (short : limit < 2 ^ 31)
    (first : H) where
  -- limits of a world, with this limit on messages
  abbrev no_limits : WorldLimits
  no_limits = record { first_id = pos 1; window = 1; connections = 1; limit = limit }

  abbrev start : Machine H
  start = empty first (λ c. false)

  -- the system shows a state of the machine, with the world's records
  pub record Holds (s : System H) : Type 0 where
    pub ys : List Record
    pub m : Machine H
    pub steps : machine.Steps H does stops start m
    pub stands : Agrees limit nothing nothing (world_of s ys) m
    pub kept : Kept s.pairs s.calls ys

  -- the machine goes on from there
  onward : (s s' : System H) (h : Holds s) (ys' : List Record)
      → Goes.Goes H does stops limit short h.m s' ys' → Kept s'.pairs s'.calls ys' → Holds s'
  onward s s' h ys' g k = record {
    ys = ys';
    m = g.next;
    steps = steps_then H does stops start h.m
        g.next h.steps g.steps;
    stands = g.agrees;
    kept = k;
  }

  -- what is seen stays, and no record changes
  unseen : (s : System H) (c : ℕ) (p q : Pair) → Holds s → pair_at s.pairs c ≡ Some p
      → seen_as q ≡ seen_as p → q.calls ≡ p.calls → q.client.reply ≡ p.client.reply
      → q.client.held ≡ p.client.held → Holds (with_pair s c q)
  unseen s c p q h at same calls reply held = onward s (with_pair s c q) h h.ys
      (Goes.unseen H does stops limit short s (with_pair s c q) h.ys h.m c p q h.stands at same
      refl refl refl)
      (kept_alike s.pairs s.calls h.ys c p q at calls reply held h.kept)

  answered : (s : System H) (c : ℕ) (p : Pair) (i : ℕ) (result : Result ℕ AnswerRefusal)
      (server : ServerView) (handler : H) (log : List LogEntry) → Holds s → pair_at s.pairs c
      ≡ Some p
      → AnswerStep does stops i result p.server s.handler s.log server handler log
      → AreContents log → Holds (channels.answered s c p server handler log)
  answered s c p i result server handler log h at step contents =
      onward s (channels.answered s c p server handler log) h h.ys (by result step)
      (kept_alike s.pairs s.calls h.ys c p (record p { server = server }) at refl refl refl
      h.kept)
    where
      same : server ≡ p.server → handler ≡ s.handler → log ≡ s.log
          → Goes.Goes H does stops limit short h.m (channels.answered s c p server handler log)
          h.ys
      same e f g =
          Goes.unseen H does stops limit short s (channels.answered s c p server handler log) h.ys
          h.m c p (record p { server = server }) h.stands at
          (ap (λ (z : ServerView). seen_as (record p { server = z })) e) refl g f

      by : (r : Result ℕ AnswerRefusal)
          → AnswerStep does stops i r p.server s.handler s.log server handler log
          → Goes.Goes H does stops limit short h.m (channels.answered s c p server handler log)
          h.ys
      by (Ok n) x =
          Goes.goes_answers H does stops limit short s h.ys h.m c p i n server handler log h.stands
          at x contents
      by (Err (refusals.NowClosed cause)) x = Goes.goes_closes H does stops limit short s h.ys h.m
          c p i cause server handler log h.stands at x
      by (Err refusals.Closed) x = same x.1 x.2 x.3
      by (Err refusals.NoSuchRequest) x = same x.2 x.3 x.4
      by (Err refusals.OutOfMemory) x = same x.2 x.3 x.4

  step_holds : (s s' : System H) → Holds s → channels.Step H does stops limit s s' → Holds s'
  step_holds s s' h (channels.pairs first_id cw sw least fits e) =
      rw e (onward s (paired s (new_pair (suc (length s.pairs)) limit first_id cw sw)) h h.ys
      (Goes.goes_pairs H does stops limit short s h.ys h.m first_id cw sw h.stands
      (λ c. raw_steps does stops no_limits start h.m h.steps c) least fits)
      (kept_pairs s.pairs s.calls h.ys (new_pair _ limit first_id cw sw) refl refl h.kept))
  step_holds s s' h (channels.calls c p kind payload number at is e) =
      rw e (onward s (issued s c p kind (content_of payload) number) h
      (h.ys ++ new_record c (asked_as kind (content_of payload)) ∷ [])
      (Goes.goes_calls H does stops limit short s h.ys h.m c p kind payload number h.stands
      h.kept.as_many at is)
      (kept_calls s.pairs s.calls h.ys c p _ (new_record c (asked_as kind (content_of payload))) at
      refl refl refl refl h.kept))
  step_holds s s' h (channels.sends_up c p n at le e) = rw e (unseen s c p (client_sent p n) h at
      (sent_up p n) refl refl refl)
  step_holds s s' h (channels.feeds_up c p piece n server way at live room takes t e) =
      rw e (onward s (with_pair s c (record p { server = server; up = way })) h h.ys
      (Goes.goes_up H does stops limit short s h.ys h.m c p piece n server way h.stands at live
      room takes t)
      (kept_alike s.pairs s.calls h.ys c p (record p { server = server; up = way }) at refl refl
      refl h.kept))
  step_holds s s' h (channels.answers c p i result server handler log at step contents e) =
      rw e (answered s c p i result server handler log h at step contents)
  step_holds s s' h (channels.sends_down c p n at le e) = rw e (unseen s c p (server_sent p n) h at
      (sent_down p n) refl refl refl)
  step_holds s s' h (channels.feeds_down c p piece n client way at may takes t e) =
      rw e (by client.reply refl)
    where
      by : (o : Option ReadyReply) → client.reply ≡ o
          → Holds (with_pair s c (record p { client = client; down = way }))
      by None is = onward s (with_pair s c (record p { client = client; down = way })) h h.ys
          (Goes.goes_down H does stops limit short s h.ys h.ys h.m c p piece n client way h.stands
          at may takes t (subst (λ (o : Option ReadyReply). CopiesReply p.calls client.held o
          h.ys h.ys) (sym is) refl))
          (kept_fed s.pairs s.calls h.ys c p (record p { client = client; down = way }) at refl
          may.0 is h.kept)
      by (Some reply) is =
          let r =
          Goes.ready_down H does stops limit short s h.ys h.m c p piece n client way reply h.stands
          at may takes t is in
          let spelled = took_spelled p.client piece n client reply may.0 takes is in
          let at_y : slice_get h.ys r.index ≡ Some r.record_ = ap (λ cs. slice_get cs r.index)
          (sym h.stands.calls) ∙ r.is in
          onward s (with_pair s c (record p { client = client; down = way })) h
          (slice_set h.ys r.index (given_record r.record_ spelled.0.content reply.last))
          (Goes.goes_down H does stops limit short s h.ys
          (slice_set h.ys r.index (given_record r.record_ spelled.0.content reply.last)) h.m c
          p piece n client way h.stands at may takes t
          (subst (λ (o : Option ReadyReply). CopiesReply p.calls client.held o h.ys
          (slice_set h.ys r.index (given_record r.record_ spelled.0.content reply.last)))
          (sym is) (
            spelled.0,
            spelled.1,
            sym (put_is h.ys (slice_get p.calls reply.call) r.index r.record_
                spelled.0.content reply.last r.at at_y),
          )))
          (kept_ready s.pairs s.calls h.ys c p (record p { client = client; down = way }) reply
          spelled.0 r.index r.record_ at refl may.0 is spelled.1 r.at at_y r.pending h.kept)
  step_holds s s' h (channels.collects c p reply m at ready spells e) =
      rw e (onward s (collected s c p reply m.content) h h.ys
      (Goes.unseen H does stops limit short s (collected s c p reply m.content) h.ys h.m c p
      (record p { client = _ }) h.stands at (let_go p) refl refl refl)
      (kept_collected s.pairs s.calls h.ys c p reply m at ready spells h.kept))
  step_holds s s' h (channels.ends_up c p at e) = rw e (onward s (with_pair s c (server_ended p)) h
      h.ys
      (Goes.goes_ends_up H does stops limit short s h.ys h.m c p h.stands at)
      (kept_alike s.pairs s.calls h.ys c p (server_ended p) at refl refl refl h.kept))
  step_holds s s' h (channels.ends_down c p at e) = rw e (onward s (given_up s c p) h _
      (Goes.goes_ends_down H does stops limit short s h.ys h.m c p h.stands at)
      (kept_ended s.pairs s.calls h.ys c p at h.kept))
  step_holds s s' h (channels.cuts_up c p n way at t e) =
      rw e (unseen s c p (record p { up = way }) h at
      (ap (λ (w : Way). seen_as (record p { up = w })) t.after) refl refl refl)
  step_holds s s' h (channels.cuts_down c p n way at t e) =
      rw e (unseen s c p (record p { down = way }) h at
      (ap (λ (w : Way). seen_as (record p { down = w })) t.after) refl refl refl)

  -- nothing has happened
  begins : Holds (no_pairs first)
  begins = record {
    ys = [];
    m = start;
    steps = machine.stay;
    stands =
        let a = agrees_opening no_limits first (λ c. false) in record
        { ways = a.ways; calls = a.calls; log = a.log; handler = a.handler };
    kept = record {
      own = λ c p at n i is. absurd (nowhere c p at);
      to = λ c p at reply is. absurd (nowhere c p at);
      as_many = refl;
      agree = λ i x is. absurd (none-some x is);
    };
  }
    where
      nowhere : (c : ℕ) (p : Pair) → pair_at [] c ≡ Some p → ⊥
      nowhere zero p at = none-some p at
      nowhere (suc c) p at = none-some p at

  pub all_hold : (s : System H) → channels.Steps H does stops limit (no_pairs first) s → Holds s
  all_hold s channels.stay = begins
  all_hold s (channels.go {mid = mid} more one) = step_holds mid s (all_hold mid more) one

  -- ---- what follows

  pub raws_are : (s : System H) (ys : List Record) (c : ℕ) → raws (world_of s ys) c ≡ false
  raws_are s ys c = by (conn_at (map seen_as s.pairs) c) refl
    where
      by : (o : Option Conn) → conn_at (map seen_as s.pairs) c ≡ o → raws (world_of s ys) c ≡ false
      by None e = ap is_raw e
      by (Some k) e = ap is_raw e ∙ seen_raw s.pairs c k e

  world_headline : (s : System H) (h : Holds s) → Headline does stops first (world_of s h.ys)
  world_headline s h =
      let none : (λ c. false) ≡ raws (world_of s h.ys) = (λ i c. sym (raws_are s h.ys c) i) in
      headline_of H does stops limit nothing nothing first (world_of s h.ys) short (record {
        next = h.m;
        steps =
            subst (λ (r : ℕ → Bool). machine.Steps H does stops (empty first r) h.m) none h.steps;
        agrees = h.stands;
      })

  done_same : (s : System H) (h : Holds s) (i : ℕ) (x : Record) → slice_get s.calls i ≡ Some x
      → x.state ≡ Done → slice_get h.ys i ≡ Some x
  done_same s h i x at done = let o = h.kept.agree i x at in o.1 ∙ ap (λ z. Some z) (by o.0 o.2)
    where
      by : (y : Record) → Agree s.pairs i x y → y ≡ x
      by y (inl e) = e.0
      by y (inr a) = absurd (elim a.not_done [
        | inl p ↦ (let no_ : Done ≡ Pending = sym done ∙ p in cc)
        | inr q ↦ (let no_ : Done ≡ Lost = sym done ∙ q in cc)
      ])

  -- the owners' records keep the headline, as calls of the machine that the world shows
  world_owned : (s : System H) (h : Holds s)
      → Owned (world_headline s h).m (λ (i : ℕ) (x : Record). slice_get s.calls i ≡ Some x)
  world_owned s h =
      let w = world_headline s h in
      owned_calls w.m
      (ok_steps H does stops (empty first (raws (world_of s h.ys))) w.m
      (ok_empty first (raws (world_of s h.ys))) w.reached)
      (λ c. raw_steps does stops no_limits (empty first (raws (world_of s h.ys))) w.m w.reached c
      ∙ raws_are s h.ys c)
      s.pairs s.calls h.ys h.kept.as_many (sym w.shows.calls) h.kept.agree

  quiet_done : (s : System H) (h : Holds s) (c : ℕ) → IsQuietPair s.pairs c → (i : ℕ) (x : Record)
      → slice_get s.calls i ≡ Some x → x.connection ≡ c → x.asked.more_to_come ≡ false → x.state ≡ Done
  quiet_done s h c q i x at conn loud = let o = h.kept.agree i x at in by o.0 o.1 o.2
    where
      up : q.p.up.bytes ++ q.p.client.requests.output ≡ []
      up = rw (q.none_up, q.client_empty) refl

      down : q.p.down.bytes ++ q.p.server.output ≡ []
      down = rw (q.none_down, q.server_empty) refl

      seen : IsQuiet (world_of s h.ys) c
      seen = record {
        k = seen_as q.p;
        at = seen_at s.pairs c q.p q.at;
        up_uncut = q.server_untold;
        down_uncut = q.client_untold;
        not_stopped = q.not_stopped;
        up_empty = up;
        down_empty = down;
        none_waits = q.none_waits;
      }

      by : (y : Record) → slice_get h.ys i ≡ Some y → Agree s.pairs i x y → x.state ≡ Done
      by y at_y (inl e) =
          ap (λ (z : Record). z.state) (sym e.0)
          ∙ quiet_of limit nothing nothing (world_of s h.ys) h.m short h.stands c seen i y at_y
          (ap (λ (z : Record). z.connection) e.0 ∙ conn) (ap (λ (z : Record). z.asked.more_to_come) e.0
          ∙ loud)
      by y at_y (inr a) =
          let is_p : a.is.p ≡ q.p = same_Some a.is.p q.p (sym a.is.at ∙ ap (pair_at s.pairs) conn
          ∙ q.at) in
          absurd (none-some a.is.reply (sym q.none_ready ∙ ap (λ (z : Pair). z.client.reply)
          (sym is_p) ∙ a.is.ready))

  pub channelled : (s : System H) → Trace does stops limit (no_pairs first) s
      → Channelled does stops first s
  channelled s trace = let h = all_hold s trace in record {
    calls = h.ys;
    headline = world_headline s h;
    as_many = h.kept.as_many;
    agree = h.kept.agree;
    done = done_same s h;
    owned = world_owned s h;
    quiet = quiet_done s h;
  }
