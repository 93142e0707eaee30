-- What the owner of the servers does, done by one whose limit is greater.
use Rattle.std.proofs.Common.{◌≡◌, ◌≢◌, ℕ, List, [], ◌∷◌, ◌++◌, map, refl, sym, ◌∙◌, ap, subst, Some, ◌⊎◌, inl, inr}
use Rattle.std.proofs.lemmas.Option.{same_Some}
use Rattle.wire_peer.specs.{Does, ServerView, Stops, end_cause}
use Rattle.wire_peer.specs.Servers as server_steps
use Rattle.wire_peer.specs.declared.server_state.ServerState.{ServerState}
use Rattle.wire_peer.specs.declared.server_state.ServerState.TheVariants.{Open, Closed}
use Rattle.wire_model.specs.Cuts.{ended_server}
use Rattle.wire_model.proofs.Lists.{same_or_not}
use Rattle.wire_model.specs.Owners.{Answers, EndsUp, SendsDown, ServerAct, ServerDoes, ServerEnds, ServersDo, TakesUp, bytes_sent_down, bytes_taken_up, sent_down_by, server_at, server_set, taken_up_by}
use Rattle.wire_model.specs.Deeds.{AtServer, Deed, ServersRun, at_one}
use Rattle.wire_model.proofs.Asking.{asking}
use Rattle.wire_model.proofs.Fits.{server_set-other, server_set-same}
use Rattle.wire_model.proofs.WiderActs.{Arrives, arrive_server}
use Rattle.wire_model.proofs.WiderServer.{AsOpen, Took, Within, answers, as_ended, as_open, fed_limit, took, widened, within_on}

module _ (wide : ℕ) where
  -- the server of a connection, and the one with the greater limit
  pub record ServerLike {H : Type 0} (ss0 : ServerEnds H) (c : ℕ) (s : ServerView) : Type 0 where
    pub state : ServerState
    pub at : server_at ss0.servers c ≡ Some (widened wide s state)
    pub alike : AsOpen s.state state
    pub within : Within wide s

  pub record ServersLike {H : Type 0} (ss ss0 : ServerEnds H) : Type 0 where
    pub log : ss0.log ≡ ss.log
    pub handler : ss0.handler ≡ ss.handler
    pub each : (c : ℕ) (s : ServerView) → server_at ss.servers c ≡ Some s → ServerLike ss0 c s

  module _ (H : Type 0) (does : Does H) (stops : Stops H) (c : ℕ) where
    pub record ServerGoes (act : ServerAct) (mid ss0 : ServerEnds H) : Type 0 where
      pub more : List ServerAct
      pub mid0 : ServerEnds H
      pub run : ServersRun does stops ss0 (map (AtServer c) more) mid0
      pub like : ServersLike mid mid0
      pub sent : bytes_sent_down more ≡ sent_down_by act ++ []
      pub taken : bytes_taken_up more ≡ taken_up_by act ++ []
      pub arrive : (ds ds' : List Deed) → Arrives ds ds'
          → Arrives (AtServer c act ∷ ds) (map (AtServer c) more ++ ds')

    module _ (ss ss0 mid : ServerEnds H) (like : ServersLike ss ss0) (s s' : ServerView)
        (at : server_at ss.servers c ≡ Some s) (after : mid.servers ≡ server_set ss.servers c s')
      where
        abbrev l : ServerLike ss0 c s
        l = like.each c s at

        like_on : (new0 : ServerEnds H) (state' : ServerState)
            → server_at new0.servers c ≡ Some (widened wide s' state')
            → ((d : ℕ) → (d ≡ c → ⊥) → server_at new0.servers d ≡ server_at ss0.servers d)
            → new0.log ≡ mid.log → new0.handler ≡ mid.handler → AsOpen s'.state state'
            → s'.limit ≡ s.limit → ServersLike mid new0
        like_on new0 state' here far log handler alike lim = record {
          log = log;
          handler = handler;
          each = λ d o is. elim (same_or_not d c) [
            | inl e ↦
                let same : s' ≡ o = same_Some s' o (sym (server_set-same ss.servers c s s' at)
                ∙ ap (server_at (server_set ss.servers c s')) (sym e)
                ∙ sym (ap (λ zs. server_at zs d) after) ∙ is) in
                subst (ServerLike new0 d) same (record {
                  state = state';
                  at = ap (server_at new0.servers) e ∙ here;
                  alike = alike;
                  within = within_on wide s s' lim l.within;
                })
            | inr n ↦
                let old = like.each d o (sym (ap (λ zs. server_at zs d) after
                ∙ server_set-other ss.servers c d s' n) ∙ is) in
                record {
                  state = old.state;
                  at = far d n ∙ old.at;
                  alike = old.alike;
                  within = old.within;
                }
          ];
        }

        -- the servers with this one, and the log and the handler as they are now
        abbrev next : ServerState → ServerEnds H
        next state' = record {
          servers = server_set ss0.servers c (widened wide s' state');
          log = mid.log;
          handler = mid.handler;
        }

        -- one act
        one : (act act' : ServerAct) (state' : ServerState)
            → ServerDoes does stops act' (widened wide s l.state) ss0.log ss0.handler
            (widened wide s' state') mid.log mid.handler
            → AsOpen s'.state state' → s'.limit ≡ s.limit
            → sent_down_by act' ≡ sent_down_by act → taken_up_by act' ≡ taken_up_by act
            → ((ds ds' : List Deed) → Arrives ds ds'
            → Arrives (AtServer c act ∷ ds) (AtServer c act' ∷ ds'))
            → ServerGoes act mid ss0
        one act act' state' does' alike lim sent taken arrive = record {
          more = act' ∷ [];
          mid0 = next state';
          run = (
            next state',
            record {
              s = widened wide s l.state;
              at = l.at;
              s' = widened wide s' state';
              does_ = does';
              after = refl;
            },
            refl,
          );
          like = like_on (next state') state'
              (server_set-same ss0.servers c (widened wide s l.state) (widened wide s' state') l.at)
              (λ d n. server_set-other ss0.servers c d (widened wide s' state') n) refl refl alike lim;
          sent = ap (λ z. z ++ []) sent;
          taken = ap (λ z. z ++ []) taken;
          arrive = arrive;
        }

        -- bytes are taken, and then the end is told
        two : (bytes : List ℕ) (middle : ServerState)
            → ServerDoes does stops (TakesUp bytes) (widened wide s l.state) ss0.log ss0.handler
            (widened wide s' middle) mid.log mid.handler
            → (state' : ServerState)
            → ended_server (widened wide s' middle) ≡ widened wide s' state'
            → AsOpen s'.state state' → s'.limit ≡ s.limit → ServerGoes (TakesUp bytes) mid ss0
        two bytes middle does' state' e alike lim =
            let here = server_set-same ss0.servers c (widened wide s l.state)
            (widened wide s' middle) l.at in
            let last : ServerEnds H = record {
              servers = server_set (next middle).servers c (widened wide s' state');
              log = mid.log;
              handler = mid.handler;
            } in
            record {
              more = TakesUp bytes ∷ EndsUp ∷ [];
              mid0 = last;
              run = (
                next middle,
                record {
                  s = widened wide s l.state;
                  at = l.at;
                  s' = widened wide s' middle;
                  does_ = does';
                  after = refl;
                },
                (
                  last,
                  record {
                    s = widened wide s' middle;
                    at = here;
                    s' = widened wide s' state';
                    does_ = (sym e, refl, refl);
                    after = refl;
                  },
                  refl,
                ),
              );
              like = like_on last state'
                  (server_set-same (next middle).servers c (widened wide s' middle)
                  (widened wide s' state') here)
                  (λ d n. server_set-other (next middle).servers c d (widened wide s' state') n
                  ∙ server_set-other ss0.servers c d (widened wide s' middle) n) refl refl alike lim;
              sent = refl;
              taken = refl;
              arrive = λ ds ds' f up down (rest, first, a). (rest, first, f (at_one up c rest) down a);
            }

        -- what stays of the log and of the handler
        log_is : mid.log ≡ ss.log → mid.log ≡ ss0.log
        log_is e = e ∙ sym like.log

        handler_is : mid.handler ≡ ss.handler → mid.handler ≡ ss0.handler
        handler_is e = e ∙ sym like.handler

        goes : (act : ServerAct) → ServerDoes does stops act s ss.log ss.handler s' mid.log mid.handler
            → ServerGoes act mid ss0
        goes (TakesUp bytes) (t, log, handler) = by g.alike
          where
            g : Took wide s bytes t.is_open l.within s'
            g = took wide s bytes t.is_open l.within s' t.has_room t.takes

            lim : s'.limit ≡ s.limit
            lim = ap (λ (z : ServerView). z.limit) t.takes.is
                ∙ fed_limit wide s t.takes.bytes t.takes.found

            does' : ServerDoes does stops (TakesUp bytes) (widened wide s l.state) ss0.log ss0.handler
                (widened wide s' g.state) mid.log mid.handler
            does' = subst (λ z. ServerDoes does stops (TakesUp bytes) (widened wide s z) ss0.log
                ss0.handler (widened wide s' g.state) mid.log mid.handler)
                (sym (as_open s.state l.state l.alike t.is_open))
                (g.takes, log_is log, handler_is handler)

            by : AsOpen s'.state g.state ⊎ ((s'.state ≢ Open) × (g.state ≡ Open))
                → ServerGoes (TakesUp bytes) mid ss0
            by (inl a) = one (TakesUp bytes) (TakesUp bytes) g.state does' a lim refl refl
                (arrive_server c (TakesUp bytes))
            by (inr shut) = two bytes g.state does' (Closed (end_cause s'.held))
                (ap (λ z. widened wide s' (server_steps.closed_for (end_cause s'.held) z)) shut.1)
                (closed_too s'.state shut.0 (end_cause s'.held)) lim
              where
                closed_too : (st : ServerState) → st ≢ Open → (cause : _) → AsOpen st (Closed cause)
                closed_too Open n cause = absurd (n refl)
                closed_too (Closed a) n cause = tt
        goes (Answers i result) (step, contents) =
            let a = answers wide does stops i s s' l.state ss.handler mid.handler ss.log mid.log
            l.within l.alike result step in
            one (Answers i result) (Answers i a.result) a.state'
            (subst (λ z. ServerDoes does stops (Answers i a.result) (widened wide s l.state) z
            ss0.handler (widened wide s' a.state') mid.log mid.handler) (sym like.log)
            (subst (λ z. ServerDoes does stops (Answers i a.result) (widened wide s l.state) ss.log
            z (widened wide s' a.state') mid.log mid.handler) (sym like.handler)
            (a.step, contents))) a.alike' lim refl refl (λ ds ds' f. f)
          where
            lim : s'.limit ≡ s.limit
            lim = elim (asking does stops i result s s' ss.handler mid.handler ss.log mid.log step) [
              | inl same ↦ ap (λ (z : ServerView). z.limit) same.server
              | inr was ↦ was.limit
            ]
        goes (SendsDown bytes) ((rest, output, e), log, handler) =
            one (SendsDown bytes) (SendsDown bytes) l.state
            ((rest, output, ap (λ z. widened wide z l.state) e), log_is log, handler_is handler)
            (subst (λ z. AsOpen z l.state) (sym (ap (λ (z : ServerView). z.state) e)) l.alike)
            (ap (λ (z : ServerView). z.limit) e) refl refl (arrive_server c (SendsDown bytes))
        goes EndsUp (e, log, handler) =
            one EndsUp EndsUp (server_steps.closed_for (end_cause s.held) l.state) (
              ap (λ z. widened wide z (server_steps.closed_for (end_cause s.held) l.state)) e,
              log_is log,
              handler_is handler,
            )
            (subst (λ z. AsOpen z (server_steps.closed_for (end_cause s.held) l.state))
            (sym (ap (λ (z : ServerView). z.state) e))
            (as_ended s.state l.state (end_cause s.held) l.alike))
            (ap (λ (z : ServerView). z.limit) e) refl refl (arrive_server c EndsUp)

    pub server_goes : (act : ServerAct) (ss ss0 mid : ServerEnds H) → ServersLike ss ss0
        → ServersDo does stops c act ss mid → ServerGoes act mid ss0
    server_goes act ss ss0 mid like a =
        goes ss ss0 mid like a.s a.s' a.at a.after act a.does_
