-- What the owner of an end does is a step of the system, after which it still fits.
use Rattle.std.proofs.Common.{◌≡◌, ℕ, suc, ◌≤◌, Bool, List, [], ◌∷◌, ◌++◌, length, take, drop, refl, sym, ◌∙◌, ap, subst, arith, Option, Some, None, ◌⊎◌, inl, inr}
use Rattle.std.specs.Prelude.{if◌then◌else◌, slice_get, slice_set}
use Rattle.std.proofs.Math.Seq.{drop-append_seam, take-append_seam}
use lib.ListN.{length-map}
use Rattle.std.proofs.lemmas.Option.{none-some, same_Some, slice_get_within}
use Rattle.wire_msg.specs.{Message, SpellsMsg}
use Rattle.wire_msg.specs.declared.payloads.Payload.{Payload}
use Rattle.wire_peer.specs.{AnswerStep, ClientSeen, Does, IsCalled, ServerView, Stops, called, content_of, ended, released}
use Rattle.wire_peer.specs.declared.call_table.ReadyReply.{ReadyReply}
use Rattle.wire_peer.specs.declared.calls.CallKind.{CallKind}
use Rattle.wire_peer.specs.declared.calls.CallNo.{CallNo}
use Rattle.wire_model.specs.Moves.{ClientTakes, ServerTakes, put_at, put_part, with_client_output, with_server_output}
use Rattle.wire_model.specs.Conns.{Record, given_record, lost_record, new_record}
use Rattle.wire_model.specs.Machines.{asked_as, lost_state}
use Rattle.wire_model.specs.Cuts.{ended_server}
use Rattle.wire_model.proofs.Lists.{get-map, get-push_cases, get-push_new, get-push_old, get-set_other, get-set_same, same_or_not}
use Rattle.wire_model.proofs.ConnCalls.{is_elsewhere, is_here}
use Rattle.wire_model.proofs.Places.{length-push, length-slice_set}
use Rattle.wire_model.specs.Channels.{Comes, Pair, Step, System, Way, client_ended, client_sent, collected, fewer, given_up, issued, lost_at, pair_at, pair_set, server_ended, server_sent, with_pair}
use Rattle.wire_model.specs.Channels as channels
use Rattle.wire_model.specs.Owners.{Answers, Calls, Collects, EndsDown, EndsUp, SendsDown, SendsUp, TakesDown, TakesUp, ClientAct, ClientDoes, ClientEnd, ServerEnds, ServersDo, server_at, server_set}
use Rattle.wire_model.specs.Deeds.{at_one}
use Rattle.wire_model.proofs.Fits.{Fit, FitStep, PairFits, Stay, end_far, end_here, end_one, free_way, get_within, goes, one_far, one_here, server_set-other, server_set-same}

-- the reply is released, and these are the records
abbrev taken_with : {H : Type 0} → System H → ℕ → Pair → List Record → System H
taken_with s c p calls = record {
  pairs = pair_set s.pairs c (record p { client = released p.client });
  calls = calls;
  log =
      s.log;
  handler = s.handler;
}

module _ (H : Type 0) (does : Does H) (stops : Stops H) (limit : ℕ) where
  comes_free : (w : Way) (bytes : List ℕ) (n : ℕ) → w ≡ free_way bytes → Comes w.left n
  comes_free w bytes n e = subst (λ (z : Way). Comes z.left n) (sym e) tt

  left_free : (w : Way) (bytes : List ℕ) (n : ℕ) → w ≡ free_way bytes → fewer w.left n ≡ None
  left_free w bytes n e = ap (λ (z : Way). fewer z.left n) e

  drop_all : (xs : List ℕ) → drop (length xs) xs ≡ []
  drop_all [] = refl
  drop_all (x ∷ xs) = drop_all xs

  module _ (s : System H) (ends : ℕ → ClientEnd) (ss : ServerEnds H) (up down : ℕ
      → List ℕ) (f : Fit s ends ss up down) (c : ℕ) (p : Pair) (at : pair_at s.pairs c ≡ Some p)
    where
      fits : PairFits s.calls c p (ends c) (server_at ss.servers c) (up c) (down c)
      fits = f.pairs c p at

      -- ---- what the owner of the client does

      client_goes : (act : ClientAct) (mid : ClientEnd) (up' down' : ℕ
          → List ℕ) (s' : System H) (q : Pair) → s'.pairs ≡ pair_set s.pairs c q
          → PairFits s'.calls c q mid (server_at ss.servers c) (up' c) (down' c)
          → ((d : ℕ) → (d ≡ c → ⊥) → (up' d ≡ up d) × (down' d ≡ down d)) → Stay c s.calls s'.calls
          → s'.log ≡ s.log → s'.handler ≡ s.handler → Step H does stops limit s s'
          → FitStep H does stops limit s (end_one ends c mid) ss up' down'
      client_goes act mid up' down' s' q is here far stay log handler step =
          goes H does stops limit s s' ends (end_one ends c mid) ss ss up down up' down' c p q f at
          is
          (subst (λ (z : ClientEnd). PairFits s'.calls c q z (server_at ss.servers c) (up' c)
          (down' c)) (sym (end_here ends c mid)) here)
          (λ d n. (end_far ends c d mid n, refl, (far d n).0, (far d n).1)) stay (log
          ∙ f.log) (handler ∙ f.handler) step

      pub client_calls : (kind : CallKind) (payload : Payload) (number : CallNo) (mid : ClientEnd)
          → ClientDoes c (Calls kind payload number) (ends c) mid
          → FitStep H does stops limit s (end_one ends c mid) ss up down
      client_calls kind payload number mid (is, e) = rw e (client_goes (Calls kind payload number) _
          up down (issued s c p kind (content_of payload) number) q refl (record {
            client = ap (λ (k : ClientSeen). called k kind (content_of payload) number) fits.client;
            server_is = fits.server_is;
            up_is = fits.up_is;
            down_is = fits.down_is;
            own = λ n i g. elim (get-push_cases p.calls n i (length s.calls) g) [
              | inl old ↦ (let w = fits.own n i old in (
                w.0,
                get-push_old s.calls i w.0 r w.1,
                w.2,
                get-push_old (ends c).records n w.0 r w.3,
              ))
              | inr new ↦ (
                r,
                ap (slice_get (s.calls ++ r ∷ [])) (sym new.1) ∙ get-push_new s.calls r,
                refl,
                ap (slice_get ((ends c).records ++ r ∷ [])) (new.0 ∙ sym fits.many)
                    ∙ get-push_new (ends c).records r,
              )
            ];
            many =
                length-push (ends c).records r ∙ ap suc fits.many
                ∙ sym (length-push p.calls (length s.calls));
            once =
                λ n n' i g g'. once_more n n' i (get-push_cases p.calls n i (length s.calls) g)
                (get-push_cases p.calls n' i (length s.calls) g');
          }) (λ d n. (refl, refl)) (λ i x g n. get-push_old s.calls i x r g) refl refl
          (channels.calls c p kind payload number at
          (subst (λ (k : ClientSeen). IsCalled k kind (content_of payload) number) fits.client
          is) refl))
        where
          r : Record
          r = new_record c (asked_as kind (content_of payload))

          q : Pair
          q =
              record p {
                client = called p.client kind (content_of payload) number;
                calls = p.calls
                    ++ length s.calls ∷ [];
              }

          fresh : (n i : ℕ) → slice_get p.calls n ≡ Some i → length s.calls ≡ i → ⊥
          fresh n i g e' =
              let w = fits.own n i g in let lt = slice_get_within s.calls i w.0 w.1 in omega
              (arith, lt, e')

          once_more : (n n' i : ℕ) → (slice_get p.calls n ≡ Some i)
              ⊎ ((n ≡ length p.calls) × (length s.calls ≡ i)) → (slice_get p.calls n' ≡ Some i)
              ⊎ ((n' ≡ length p.calls) × (length s.calls ≡ i)) → n ≡ n'
          once_more n n' i (inl a) (inl b) = fits.once n n' i a b
          once_more n n' i (inl a) (inr b) = absurd (fresh n i a b.1)
          once_more n n' i (inr a) (inl b) = absurd (fresh n' i b a.1)
          once_more n n' i (inr a) (inr b) = a.0 ∙ sym b.0

      pub client_sends : (bytes : List ℕ) (mid : ClientEnd)
          → ClientDoes c (SendsUp bytes) (ends c) mid
          → FitStep H does stops limit s (end_one ends c mid) ss (at_one up c (up c ++ bytes)) down
      client_sends bytes mid (rest, output, e) = rw e (client_goes (SendsUp bytes) _
          (at_one up c (up c ++ bytes)) down (with_pair s c (client_sent p (length bytes)))
          (client_sent p (length bytes)) refl (record {
            client =
                ap (λ (k : ClientSeen). with_client_output k rest) fits.client
                ∙ ap (with_client_output p.client)
                (sym (ap (drop (length bytes)) is ∙ drop-append_seam bytes rest));
            server_is = fits.server_is;
            up_is =
                ap (λ b. record { bytes = p.up.bytes ++ b; left = p.up.left })
                (ap (take (length bytes)) is ∙ take-append_seam bytes rest)
                ∙ ap (λ (w : Way). record { bytes = w.bytes ++ bytes; left = w.left }) fits.up_is
                ∙ ap free_way (sym (one_here up c (up c ++ bytes)));
            down_is = fits.down_is;
            own = fits.own;
            many = fits.many;
            once = fits.once;
          }) (λ d n. (one_far up c d (up c ++ bytes) n, refl)) (λ i x g n. g) refl refl
          (channels.sends_up c p (length bytes) at within refl))
        where
          is : p.client.requests.output ≡ bytes ++ rest
          is = ap (λ (k : ClientSeen). k.requests.output) (sym fits.client) ∙ output

          length_append : (xs ys : List ℕ) → length xs ≤ length (xs ++ ys)
          length_append [] ys = omega arith
          length_append (x ∷ xs) ys = let le = length_append xs ys in omega (arith, le)

          within : length bytes ≤ length p.client.requests.output
          within = subst (λ b. length bytes ≤ length b) (sym is) (length_append bytes rest)

      pub client_takes : (bytes rest : List ℕ) (mid : ClientEnd) → down c ≡ bytes ++ rest
          → ClientDoes c (TakesDown bytes) (ends c) mid
          → FitStep H does stops limit s (end_one ends c mid) ss up (at_one down c rest)
      client_takes bytes rest mid first (client, takes, e) = rw e (client_goes (TakesDown bytes) _ up
          (at_one down c rest) (with_pair s c (record p { client = client; down = free_way rest }))
          (record p { client = client; down = free_way rest }) refl (record {
            client = refl;
            server_is = fits.server_is;
            up_is = fits.up_is;
            down_is = ap free_way (sym (one_here down c rest));
            own = fits.own;
            many = fits.many;
            once = fits.once;
          }) (λ d n. (refl, one_far down c d rest n)) (λ i x g n. g) refl refl
          (let t : ClientTakes p.client bytes client = subst (λ (k : ClientSeen). ClientTakes k bytes
          client) fits.client takes in
          channels.feeds_down c p bytes (length bytes) client (free_way rest) at t.may t.takes
          (record {
            rest = rest;
            first = ap (λ (w : Way). w.bytes) fits.down_is ∙ first;
            comes = comes_free p.down (down c) (length bytes) fits.down_is;
            within = omega arith;
            after =
                ap (λ b. record { bytes = b ++ rest; left = None }) (sym (drop_all bytes))
                ∙ ap (λ z. record { bytes = drop (length bytes) bytes ++ rest; left = z })
                (sym (left_free p.down (down c) (length bytes) fits.down_is));
          }) refl))

      pub client_ends : (mid : ClientEnd) → ClientDoes c EndsDown (ends c) mid
          → FitStep H does stops limit s (end_one ends c mid) ss up down
      client_ends mid e =
          rw e (client_goes EndsDown _ up down (given_up s c p) (client_ended p) refl (record {
            client = ap ended fits.client;
            server_is = fits.server_is;
            up_is = fits.up_is;
            down_is = fits.down_is;
            own = λ n i g. let w = fits.own n i g in (
              lost_at c w.0,
              get-map (lost_at c) s.calls i w.0 w.1,
              w.2,
              get-map lost_record (ends c).records n w.0 w.3
                  ∙ ap (λ z. Some z) (sym (lost_here w.0 w.2)),
            );
            many = length-map (ends c).records lost_record ∙ fits.many;
            once = fits.once;
          }) (λ d n. (refl, refl)) (λ i x g n. get-map (lost_at c) s.calls i x g
          ∙ ap (λ z. Some z) (lost_there x n)) refl refl
          (channels.ends_down c p at refl))
        where
          lost_here : (x : Record) → x.connection ≡ c → lost_at c x ≡ lost_record x
          lost_here x is =
              ap (λ (b : Bool). let y : Record = record {
                connection = x.connection;
                asked = x.asked;
                parts = x.parts;
                state = if b then lost_state x.state else x.state;
              } in y)
              (is_here c x.connection is)

          lost_there : (x : Record) → (x.connection ≡ c → ⊥) → lost_at c x ≡ x
          lost_there x n =
              ap (λ (b : Bool). let y : Record = record {
                connection = x.connection;
                asked = x.asked;
                parts = x.parts;
                state = if b then lost_state x.state else x.state;
              } in y)
              (is_elsewhere c x.connection n)

      -- a reply is to a call that was made, or to none
      pub client_collects : (reply : ReadyReply) (m : Message) (mid : ClientEnd)
          → ClientDoes c (Collects reply m) (ends c) mid
          → FitStep H does stops limit s (end_one ends c mid) ss up down
      client_collects reply m mid (ready, spells, e) = rw e (by (slice_get p.calls reply.call) refl)
        where
          q : Pair
          q = record p { client = released p.client }

          new : ClientEnd
          new = record {
            client = released (ends c).client;
            records = put_at (Some reply.call)
                m.content reply.last (ends c).records;
          }

          step : (s' : System H) → s' ≡ collected s c p reply m.content
              → Step H does stops limit s s'
          step s' is =
              channels.collects c p reply m at (ap (λ (k : ClientSeen). k.reply) (sym fits.client)
              ∙ ready) (subst (λ (k : ClientSeen). SpellsMsg m k.held) fits.client spells) is

          none_there : slice_get p.calls reply.call ≡ None
              → slice_get (ends c).records reply.call ≡ None
          none_there none = check (slice_get (ends c).records reply.call) refl
            where
              check : (o : Option Record) → slice_get (ends c).records reply.call ≡ o
                  → slice_get (ends c).records reply.call ≡ None
              check None is = is
              check (Some x) is =
                  let lt = slice_get_within (ends c).records reply.call x is in
                  let same = fits.many in
                  let i = get_within p.calls reply.call (omega (arith, lt, same)) in
                  absurd (none-some i.0 (sym none ∙ i.1))

          by : (o : Option ℕ) → slice_get p.calls reply.call ≡ o
              → FitStep H does stops limit s (end_one ends c new) ss up down
          by None none =
              client_goes (Collects reply m) new up down (taken_with s c p s.calls) q refl (record {
                client = ap released fits.client;
                server_is = fits.server_is;
                up_is = fits.up_is;
                down_is = fits.down_is;
                own =
                    λ n i g. let w = fits.own n i g in (
                      w.0,
                      w.1,
                      w.2,
                      ap (λ z. slice_get z n) same
                          ∙ w.3,
                    );
                many = ap length same ∙ fits.many;
                once = fits.once;
              }) (λ d n. (refl, refl)) (λ i x g n. g) refl refl (step (taken_with s c p s.calls)
              (ap (taken_with s c p)
              (sym (ap (λ o. put_at o m.content reply.last s.calls) none))))
            where
              same : new.records ≡ (ends c).records
              same =
                  ap (λ o. put_part o reply.call m.content reply.last (ends c).records)
                  (none_there none)
          by (Some index) to =
              client_goes (Collects reply m) new up down (taken_with s c p xs) q refl (record {
                client = ap released fits.client;
                server_is = fits.server_is;
                up_is = fits.up_is;
                down_is = fits.down_is;
                own = λ n i g. owns n i g (same_or_not n reply.call);
                many = ap length same ∙ length-slice_set (ends c).records reply.call _ ∙ fits.many;
                once = fits.once;
              }) (λ d n. (refl, refl))
              (λ i x g n. get-set_other s.calls index i _
              (λ is. n (ap (λ (z : Record). z.connection)
              (same_Some x w.0 (sym g ∙ ap (slice_get s.calls) is ∙ w.1)) ∙ w.2)) ∙ g)
              refl refl (step (taken_with s c p xs)
              (ap (taken_with s c p) (sym (ap (λ o. put_at o m.content reply.last s.calls) to
              ∙ ap (λ o. put_part o index m.content reply.last s.calls) w.1))))
            where
              w : (x : Record) × (slice_get s.calls index ≡ Some x) × (x.connection ≡ c)
                  × (slice_get (ends c).records reply.call ≡ Some x)
              w = fits.own reply.call index to

              given : Record
              given = given_record w.0 m.content reply.last

              xs : List Record
              xs = slice_set s.calls index given

              same : new.records ≡ slice_set (ends c).records reply.call given
              same = ap (λ o. put_part o reply.call m.content reply.last (ends c).records) w.3

              owns : (n i : ℕ) → slice_get p.calls n ≡ Some i → (n ≡ reply.call)
                  ⊎ (n ≡ reply.call → ⊥) → (x : Record) × (slice_get xs i ≡ Some x)
                  × (x.connection ≡ c) × (slice_get new.records n ≡ Some x)
              owns n i g (inl is) =
                  let there : i ≡ index = same_Some i index (sym g ∙ ap (slice_get p.calls) is
                  ∙ to) in (
                    given,
                    ap (slice_get xs) there
                        ∙ get-set_same s.calls index w.0 given w.1,
                    w.2,
                    ap (slice_get new.records) is
                        ∙ ap (λ z. slice_get z reply.call) same
                        ∙ get-set_same (ends c).records reply.call w.0 given w.3,
                  )
              owns n i g (inr no_) =
                  let v = fits.own n i g in (
                    v.0,
                    get-set_other s.calls index i given
                        (λ is. no_ (fits.once n reply.call i g (to ∙ ap (λ z. Some z) (sym is))))
                        ∙ v.1,
                    v.2,
                    ap (λ z. slice_get z n) same ∙ get-set_other (ends c).records
                        reply.call n given no_ ∙ v.3,
                  )

      -- ---- what the owner of the servers does

      server_goes : (sv sv' : ServerView) (ss' : ServerEnds H) (way_up way_down : Way)
          (up' down' : ℕ → List ℕ) (s' : System H) → server_at ss.servers c ≡ Some sv
          → ss'.servers ≡ server_set ss.servers c sv'
          → s'.pairs ≡ pair_set s.pairs c (record p { server = sv'; up = way_up; down = way_down })
          → s'.calls ≡ s.calls → way_up ≡ free_way (up' c) → way_down ≡ free_way (down' c)
          → ((d : ℕ) → (d ≡ c → ⊥) → (up' d ≡ up d) × (down' d ≡ down d)) → s'.log ≡ ss'.log
          → s'.handler ≡ ss'.handler → Step H does stops limit s s'
          → FitStep H does stops limit s ends ss' up' down'
      server_goes sv sv' ss' way_up way_down up' down' s' at_s set is calls up_is down_is far log
          handler step =
          goes H does stops limit s s' ends ends ss ss' up down up' down' c p
          (record p { server = sv'; up = way_up; down = way_down }) f at is
          (record {
            client = fits.client;
            server_is = ap (λ z. server_at z c) set ∙ server_set-same ss.servers c sv sv' at_s;
            up_is = up_is;
            down_is = down_is;
            own =
                λ n i g. let w = fits.own n i g in (
                  w.0,
                  ap (λ z. slice_get z i) calls
                      ∙ w.1,
                  w.2,
                  w.3,
                );
            many = fits.many;
            once = fits.once;
          })
          (λ d n. (
            refl,
            ap (λ z. server_at z d) set ∙ server_set-other ss.servers c d sv' n,
            (far d n).0,
            (far d n).1,
          ))
          (λ i x g n. ap (λ z. slice_get z i) calls ∙ g) log handler step

      same_server : (sv : ServerView) → server_at ss.servers c ≡ Some sv → sv ≡ p.server
      same_server sv at_s = same_Some sv p.server (sym at_s ∙ fits.server_is)

      pub server_takes : (bytes rest : List ℕ) (ss' : ServerEnds H) → up c ≡ bytes ++ rest
          → ServersDo does stops c (TakesUp bytes) ss ss'
          → FitStep H does stops limit s ends ss' (at_one up c rest) down
      server_takes bytes rest ss' first a =
          let t : ServerTakes p.server bytes a.s' = subst (λ z. ServerTakes z bytes a.s')
          (same_server a.s a.at) a.does_.0 in
          server_goes a.s a.s' ss' (free_way rest) p.down (at_one up c rest) down
          (with_pair s c (record p { server = a.s'; up = free_way rest })) a.at a.after refl refl
          (ap free_way (sym (one_here up c rest))) fits.down_is
          (λ d n. (one_far up c d rest n, refl)) (f.log ∙ sym a.does_.1) (f.handler ∙ sym a.does_.2)
          (channels.feeds_up c p bytes (length bytes) a.s' (free_way rest) at t.is_open t.has_room
          t.takes (record {
            rest = rest;
            first = ap (λ (w : Way). w.bytes) fits.up_is ∙ first;
            comes = comes_free p.up (up c) (length bytes) fits.up_is;
            within = omega arith;
            after =
                ap (λ b. record { bytes = b ++ rest; left = None }) (sym (drop_all bytes))
                ∙ ap (λ z. record { bytes = drop (length bytes) bytes ++ rest; left = z })
                (sym (left_free p.up (up c) (length bytes) fits.up_is));
          }) refl)

      pub server_answers : (i : ℕ) (result : _) (ss' : ServerEnds H)
          → ServersDo does stops c (Answers i result) ss ss'
          → FitStep H does stops limit s ends ss' up down
      server_answers i result ss' a =
          server_goes a.s a.s' ss' p.up p.down up down
          (record {
            pairs = pair_set s.pairs c (record p { server = a.s' });
            calls = s.calls;
            log = ss'.log;
            handler = ss'.handler;
          }) a.at a.after refl refl fits.up_is fits.down_is
          (λ d n. (refl, refl)) refl refl
          (channels.answers c p i result a.s' ss'.handler ss'.log at
          (subst (λ z. AnswerStep does stops i result z s.handler s.log a.s' ss'.handler ss'.log)
          (same_server a.s a.at)
          (subst (λ z. AnswerStep does stops i result a.s z s.log a.s' ss'.handler ss'.log)
          (sym f.handler)
          (subst (λ z. AnswerStep does stops i result a.s ss.handler z a.s' ss'.handler ss'.log)
          (sym f.log) a.does_.0))) a.does_.1 refl)

      pub server_sends : (bytes : List ℕ) (ss' : ServerEnds H)
          → ServersDo does stops c (SendsDown bytes) ss ss'
          → FitStep H does stops limit s ends ss' up (at_one down c (down c ++ bytes))
      server_sends bytes ss' a =
          server_goes a.s a.s' ss' p.up
          (record {
            bytes = p.down.bytes ++ take (length bytes) p.server.output;
            left =
                p.down.left;
          }) up (at_one down c (down c ++ bytes))
          (with_pair s c (server_sent p (length bytes))) a.at a.after
          (ap (λ z. pair_set s.pairs c
          (record p {
            server = z;
            down = record {
              bytes = p.down.bytes ++ take (length bytes)
                  p.server.output;
              left = p.down.left;
            };
          })) (sym sent)) refl fits.up_is
          (ap (λ b. record { bytes = p.down.bytes ++ b; left = p.down.left })
          (ap (take (length bytes)) is ∙ take-append_seam bytes rest)
          ∙ ap (λ (w : Way). record { bytes = w.bytes ++ bytes; left = w.left }) fits.down_is
          ∙ ap free_way (sym (one_here down c (down c ++ bytes))))
          (λ d n. (refl, one_far down c d (down c ++ bytes) n)) (f.log ∙ sym a.does_.1) (f.handler
          ∙ sym a.does_.2)
          (channels.sends_down c p (length bytes) at within refl)
        where
          rest : List ℕ
          rest = a.does_.0.0

          is : p.server.output ≡ bytes ++ rest
          is = ap (λ (z : ServerView). z.output) (sym (same_server a.s a.at)) ∙ a.does_.0.1

          sent : a.s' ≡ with_server_output p.server (drop (length bytes) p.server.output)
          sent =
              a.does_.0.2 ∙ ap (λ (z : ServerView). with_server_output z rest) (same_server a.s a.at)
              ∙ ap (with_server_output p.server)
              (sym (ap (drop (length bytes)) is ∙ drop-append_seam bytes rest))

          length_append : (xs ys : List ℕ) → length xs ≤ length (xs ++ ys)
          length_append [] ys = omega arith
          length_append (x ∷ xs) ys = let le = length_append xs ys in omega (arith, le)

          within : length bytes ≤ length p.server.output
          within = subst (λ b. length bytes ≤ length b) (sym is) (length_append bytes rest)

      pub server_ends : (ss' : ServerEnds H) → ServersDo does stops c EndsUp ss ss'
          → FitStep H does stops limit s ends ss' up down
      server_ends ss' a =
          goes H does stops limit s (with_pair s c (server_ended p)) ends ends ss ss' up down up down
          c p (server_ended p) f at refl
          (record {
            client = fits.client;
            server_is =
                ap (λ z. server_at z c) a.after ∙ server_set-same ss.servers c a.s a.s' a.at
                ∙ ap (λ z. Some z) (a.does_.0 ∙ ap ended_server (same_server a.s a.at));
            up_is = fits.up_is;
            down_is = fits.down_is;
            own = fits.own;
            many = fits.many;
            once = fits.once;
          })
          (λ d n. (
            refl,
            ap (λ z. server_at z d) a.after ∙ server_set-other ss.servers c d a.s' n,
            refl,
            refl,
          ))
          (λ i x g n. g) (f.log ∙ sym a.does_.1) (f.handler
          ∙ sym a.does_.2) (channels.ends_up c p at refl)
