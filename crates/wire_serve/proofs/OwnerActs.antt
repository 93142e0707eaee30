-- What is done with connections is what an owner of servers does: act after act.
use Rattle.std.proofs.Common.{◌≡◌, ℕ, zero, suc, ◌⊎◌, inl, inr, List, [], ◌∷◌, ◌++◌, length, map, Option, None, Some, ap, arith, refl, sym, subst, ◌∙◌, append_assoc, append-nil}
use Rattle.std.proofs.lemmas.Option.{none-some, same_Some}
use Rattle.slab.specs.Slab.{Slab, Updates, get}
use Rattle.wire_peer.specs.{Asked, Does, LogEntry, RunOf, ServerView, Stops, log_of, new_server}
use Rattle.wire_peer.specs.declared.log.Logged.{Logged}
use Rattle.wire_serve.specs.Connections.{Acts, AreNewConns, Closes, ConnsAct, ConnsDo, ConnsRun, ConnsSeen, Forgets, IsActed, IsForgotten, IsOpened, Opens, Stays, told_in, turns_of}
use Rattle.wire_serve.specs.Slots.{SlotAct, SlotSeen, SlotTurns, Tells, new_slot}
use Rattle.wire_serve.specs.Serving.{SlotServed, made_by, of_acts, of_turns, received_by, sent_by, taken_by}
use Rattle.wire_serve.proofs.Served.{none_served, turns_serve}
use Rattle.wire_model.specs.{AreContents, Made, ServerAct, ServerEnd, ServerEnds, ServersGrow, ServersRun, Turn, among, at_server, bytes_sent_down, bytes_taken_up, deeds_of, first_servers_of, server_acts_at, server_at, server_set}
use Rattle.wire_model.specs.Hostile.{entries_of}
use Rattle.wire_model.proofs.Lemmas.{get-push_new, grows_on, length-push, log_contents, run_among, run_grows, same_or_not, sent_down_on, server_set-other, server_set-same, taken_up_on}
use Rattle.wire_model.specs.Deeds.{opened}
use Rattle.wire_model.specs.Deeds as owners
use Rattle.wire_serve.specs.Owning.{HasServer, OwnsServers, all_put_out, link_at, links_in, none_came, none_given}
use Rattle.wire_serve.proofs.Acts.{Fits, Owned, acts_owned, end_of, same_fits}
use Rattle.wire_serve.proofs.Places.{at_cases, at_one, at_push, found_or_not, none_past, not_past, one_far, one_here}
use Rattle.wire_serve.proofs.Told.{contents_behind, contents_front}
use Rattle.wire_serve.proofs.Counted.{acts_with_far, acts_with_here, deeds_on, link-push, many_set, no_link, no_turn, none_told, of_turns-push, one_link, slot_turns-push, these_told, turn_far, turn_here, with_acts}
use Rattle.wire_msg.specs.declared.header.TheConstants.{MAX_MESSAGE_LEN}

abbrev number_of : {L : Type 0} → SlotSeen L → ℕ
number_of slot = slot.conn.server.connection

module _ {H L : Type 0} (does : Does H) (stops : Stops H) (t : Tells L) where
  -- the slot of a connection, and its server
  record Has (c : ℕ) (links : List L) (turns : List (List SlotAct)) (acts : List ServerAct) (entries : List LogEntry) (server : ServerView) (slot : SlotSeen L) : Type 0 where
    link : L
    over : link_at links c ≡ Some link
    had : SlotTurns does stops t (new_slot c link) turns slot
    is : server ≡ slot.conn.server
    fits : Fits c (of_turns taken_by turns) (of_turns sent_by turns) (bytes_taken_up acts) (bytes_sent_down acts) slot.conn
    made : entries ≡ of_turns made_by turns

  same_has : (c : ℕ) (links links' : List L) (turns turns' : List (List SlotAct)) (acts acts' : List ServerAct) (entries entries' : List LogEntry) (s s' : ServerView)
      (slot slot' : SlotSeen L) → links' ≡ links → turns' ≡ turns → acts' ≡ acts → entries' ≡ entries → s' ≡ s → slot' ≡ slot → Has c links turns acts entries s slot
      → Has c links' turns' acts' entries' s' slot'
  same_has c links links' turns turns' acts acts' entries entries' s s' slot slot' l a b d e f h = rw (l, a, b, d, e, f) h

  -- the same where one more is opened
  has_more : (c : ℕ) (links : List L) (x : L) (turns : List (List SlotAct)) (acts : List ServerAct) (entries : List LogEntry) (s : ServerView)
      (slot : SlotSeen L) → Has c links turns acts entries s slot → Has c (links ++ x ∷ []) turns acts entries s slot
  has_more c links x turns acts entries s slot h =
      record { link = h.link; over = link-push links c h.link x h.over; had = h.had; is = h.is; fits = h.fits; made = h.made }

  new_has : (c : ℕ) (links : List L) (link : L) → link_at links c ≡ Some link
      → Has c links [] [] [] (new_server c 1 MAX_MESSAGE_LEN) (new_slot c link)
  new_has c links link over = record {
    link = link;
    over = over;
    had = refl;
    is = refl;
    fits = record {
      number = refl;
      limit = refl;
      taken_over = refl;
      one = omega arith;
      is_fed = record { came_whole = []; fed_whole = []; requests = none_came; came_is = refl; fed_is = refl };
      is_given = all_put_out none_given;
    };
    made = refl;
  }

  to_server : (c : ℕ) (links : List L) (turns : List (List SlotAct)) (acts : List ServerAct) (entries : List LogEntry) (s : ServerView)
      (slot : SlotSeen L) (h : Has c links turns acts entries s slot) → HasServer t c h.link turns entries slot acts s
  to_server c links turns acts entries s slot h = record {
    served = subst (λ (es : List LogEntry). SlotServed t c h.link (of_turns received_by turns) es (of_turns sent_by turns) slot) (sym h.made)
        (turns_serve t does stops turns c h.link [] [] [] (new_slot c h.link) slot h.had (none_served t c h.link));
    is = h.is;
    fed = h.fits.is_fed;
    given = h.fits.is_given;
  }

  -- no other act was done
  record Unused (c : ℕ) (acts : List (ConnsAct L)) (deeds : List ServerAct) (entries : List LogEntry) : Type 0 where
    turns : turns_of c acts ≡ []
    none_done : deeds ≡ []
    no_entries : entries ≡ []

  module _ (made : ℕ → Made) (first : H) (one_each : (c : ℕ) → (made c).server_window ≡ 1) where
    abbrev begun : ServerEnds H
    begun = first_servers_of MAX_MESSAGE_LEN made 0 first

    -- Connections and their servers, after these acts.
    record Holds (acts : List (ConnsAct L)) (conns : ConnsSeen H L) : Type 0 where
      turns : List Turn
      servers : ServerEnds H
      grown : ServersGrow does stops MAX_MESSAGE_LEN made begun turns servers
      opens : conns.next ≡ suc (length servers.servers)
      many : length (links_in acts) ≡ length servers.servers
      log : servers.log ≡ told_in acts ++ log_of conns.logged.entries.items
      handler : servers.handler ≡ conns.logged.handler
      asked : List Asked
      run : RunOf does stops first asked servers.log servers.handler
      known : AreContents (told_in acts)
      last : ℕ → Option (SlotSeen L)
      connections : (c : ℕ) (s : ServerView) → server_at servers.servers c ≡ Some s
          → (slot : SlotSeen L) × (last c ≡ Some slot)
          × Has c (links_in acts) (turns_of c acts) (server_acts_at c (deeds_of turns)) (entries_of c servers.log) s slot
      slots : (key : ℕ) (slot : SlotSeen L) → get conns.slots key ≡ Some slot
          → (server_at servers.servers (number_of slot) ≡ Some slot.conn.server) × (last (number_of slot) ≡ Some slot)
      apart : (key other : ℕ) (slot another : SlotSeen L) → get conns.slots key ≡ Some slot → get conns.slots other ≡ Some another
          → number_of slot ≡ number_of another → key ≡ other
      no_other : (c : ℕ) → server_at servers.servers c ≡ None
          → Unused c acts (server_acts_at c (deeds_of turns)) (entries_of c servers.log)

    starts : (conns : ConnsSeen H L) → AreNewConns first conns → Holds [] conns
    starts conns n = record {
      turns = [];
      servers = begun;
      grown = refl;
      opens = n.next;
      many = refl;
      log = sym n.empty;
      handler = sym n.handler;
      asked = [];
      run = refl;
      known = log_contents [];
      last = λ c. None;
      connections = λ c s at. absurd (none_there c s at);
      slots = λ key slot at. absurd (none-some slot (sym (n.slots key) ∙ at));
      apart = λ key other slot another at there is. absurd (none-some slot (sym (n.slots key) ∙ at));
      no_other = λ c none. record { turns = refl; none_done = refl; no_entries = refl };
    }
      where
        none_there : (c : ℕ) (s : ServerView) → server_at begun.servers c ≡ Some s → ⊥
        none_there zero s at = none-some s at
        none_there (suc i) s at = none-some s at

    -- ---- acts that leave the servers

    leaves : (acts : List (ConnsAct L)) (act : ConnsAct L) (old new : ConnsSeen H L)
        → ((c : ℕ) → turns_of c (act ∷ []) ≡ []) → links_in (act ∷ []) ≡ []
        → told_in (acts ++ act ∷ []) ++ log_of new.logged.entries.items ≡ told_in acts ++ log_of old.logged.entries.items
        → AreContents (told_in (acts ++ act ∷ [])) → new.logged.handler ≡ old.logged.handler → new.next ≡ old.next
        → ((key : ℕ) (slot : SlotSeen L) → get new.slots key ≡ Some slot → get old.slots key ≡ Some slot)
        → Holds acts old → Holds (acts ++ act ∷ []) new
    leaves acts act old new none unlinked told known handler next there h = record {
      turns = h.turns;
      servers = h.servers;
      grown = h.grown;
      opens = next ∙ h.opens;
      many = ap length (no_link acts act unlinked) ∙ h.many;
      log = h.log ∙ sym told;
      handler = h.handler ∙ sym handler;
      asked = h.asked;
      run = h.run;
      known = known;
      last = h.last;
      connections = λ c s at.
          let one = h.connections c s at in (
            one.0,
            one.1,
            same_has c (links_in acts) (links_in (acts ++ act ∷ [])) (turns_of c acts) (turns_of c (acts ++ act ∷ [])) (server_acts_at c (deeds_of h.turns))
                (server_acts_at c (deeds_of h.turns)) (entries_of c h.servers.log) (entries_of c h.servers.log) s s one.0 one.0
                (no_link acts act unlinked) (no_turn c acts act (none c)) refl refl refl refl one.2,
          );
      slots = λ key slot at. h.slots key slot (there key slot at);
      apart = λ key other slot another at also is. h.apart key other slot another (there key slot at) (there other another also) is;
      no_other = λ c at.
          let u = h.no_other c at in
          record { turns = no_turn c acts act (none c) ∙ u.turns; none_done = u.none_done; no_entries = u.no_entries };
    }

    -- the same where the log stays
    leaves_log : (acts : List (ConnsAct L)) (act : ConnsAct L) (old new : ConnsSeen H L)
        → ((c : ℕ) → turns_of c (act ∷ []) ≡ []) → links_in (act ∷ []) ≡ [] → told_in (act ∷ []) ≡ [] → new.logged ≡ old.logged → new.next ≡ old.next
        → ((key : ℕ) (slot : SlotSeen L) → get new.slots key ≡ Some slot → get old.slots key ≡ Some slot)
        → Holds acts old → Holds (acts ++ act ∷ []) new
    leaves_log acts act old new none unlinked told logged next there h =
        let same = none_told acts act told in
        leaves acts act old new none unlinked
        (ap (λ (es : List LogEntry). es ++ log_of new.logged.entries.items) same
        ∙ ap (λ (l : Logged H). told_in acts ++ log_of l.entries.items) logged)
        (subst AreContents (sym same) h.known) (ap (λ (l : Logged H). l.handler) logged) next there h

    -- a slot that is still there was there
    still_there : (old new : Slab (SlotSeen L)) (key : ℕ) → Updates old new key None → (other : ℕ) (slot : SlotSeen L)
        → get new other ≡ Some slot → get old other ≡ Some slot
    still_there old new key u other slot at = elim (same_or_not other key) [
      | inl is ↦ absurd (none-some slot (sym (subst (λ (k : ℕ). get new k ≡ None) (sym is) u.changed) ∙ at))
      | inr not_ ↦ sym (u.others other not_) ∙ at
    ]

    forgets : (acts : List (ConnsAct L)) (told : List LogEntry) (old new : ConnsSeen H L) → IsForgotten told old new → Holds acts old
        → Holds (acts ++ Forgets told ∷ []) new
    forgets acts told old new f h =
        let all : told_in (acts ++ Forgets told ∷ []) ++ log_of new.logged.entries.items ≡ told_in acts ++ log_of old.logged.entries.items =
        ap (λ (es : List LogEntry). es ++ log_of new.logged.entries.items) (these_told acts told)
        ∙ append_assoc (told_in acts) told (log_of new.logged.entries.items)
        ∙ ap (λ (es : List LogEntry). told_in acts ++ es) (sym f.entries) in
        leaves acts (Forgets told) old new (λ c. refl) refl all
        (subst AreContents (sym (these_told acts told))
        (contents_behind (told_in acts) told h.known (contents_front told (log_of new.logged.entries.items) (subst AreContents f.entries (log_contents old.logged.entries.items)))))
        f.handler f.next (λ key slot at. ap (λ (s : Slab (SlotSeen L)). get s key) (sym f.slots) ∙ at) h

    -- ---- a connection is opened

    module _ (acts : List (ConnsAct L)) (key : ℕ) (link : L) (old new : ConnsSeen H L) (o : IsOpened key link old new) (h : Holds acts old) where
      abbrev ss : List ServerView
      ss = h.servers.servers

      abbrev number : ℕ
      number = suc (length ss)

      abbrev act : ConnsAct L
      act = Opens key link

      abbrev more : ServerEnds H
      more = opened MAX_MESSAGE_LEN made h.servers

      -- the server and the slot that are made
      abbrev server : ServerView
      server = new_server number (made number).server_window MAX_MESSAGE_LEN

      server_is : server ≡ new_server number 1 MAX_MESSAGE_LEN
      server_is = ap (λ (w : ℕ). new_server number w MAX_MESSAGE_LEN) (one_each number)

      slot_is : new_slot old.next link ≡ new_slot number link
      slot_is = ap (λ (n : ℕ). new_slot n link) h.opens

      with_more : deeds_of (h.turns ++ owners.Opens ∷ []) ≡ deeds_of h.turns
      with_more = deeds_on h.turns (owners.Opens ∷ []) ∙ append-nil (deeds_of h.turns)

      no_more : (c : ℕ) → turns_of c (acts ++ act ∷ []) ≡ turns_of c acts
      no_more c = no_turn c acts act refl

      log_stays : told_in (acts ++ act ∷ []) ++ log_of new.logged.entries.items ≡ told_in acts ++ log_of old.logged.entries.items
      log_stays =
          ap (λ (es : List LogEntry). es ++ log_of new.logged.entries.items) (none_told acts act refl)
          ∙ ap (λ (l : Logged H). told_in acts ++ log_of l.entries.items) o.logged

      done_at : (c : ℕ) → server_acts_at c (deeds_of (h.turns ++ owners.Opens ∷ [])) ≡ server_acts_at c (deeds_of h.turns)
      done_at c = ap (server_acts_at c) with_more

      unused : Unused number acts (server_acts_at number (deeds_of h.turns)) (entries_of number h.servers.log)
      unused = h.no_other number (none_past ss)

      link_is : link_at (links_in (acts ++ act ∷ [])) number ≡ Some link
      link_is =
          ap (λ (ls : List L). link_at ls number) (one_link acts key link)
          ∙ ap (λ (n : ℕ). link_at (links_in acts ++ link ∷ []) (suc n)) (sym h.many) ∙ get-push_new (links_in acts) link

      has_own : Has number (links_in (acts ++ act ∷ [])) (turns_of number (acts ++ act ∷ [])) (server_acts_at number (deeds_of (h.turns ++ owners.Opens ∷ [])))
          (entries_of number h.servers.log) server (new_slot number link)
      has_own = same_has number (links_in (acts ++ act ∷ [])) _ [] _ [] _ [] _ (new_server number 1 MAX_MESSAGE_LEN) server (new_slot number link)
          (new_slot number link) refl (no_more number ∙ unused.turns) (done_at number ∙ unused.none_done) unused.no_entries server_is refl (new_has number (links_in (acts ++ act ∷ [])) link link_is)

      abbrev last_of : ℕ → Option (SlotSeen L)
      last_of = at_one h.last number (new_slot number link)

      connects : (c : ℕ) (s : ServerView) → server_at more.servers c ≡ Some s
          → (slot : SlotSeen L) × (last_of c ≡ Some slot)
          × Has c (links_in (acts ++ act ∷ [])) (turns_of c (acts ++ act ∷ [])) (server_acts_at c (deeds_of (h.turns ++ owners.Opens ∷ [])))
          (entries_of c h.servers.log) s slot
      connects c s at = elim (at_cases ss c s server at) [
        | inl there ↦ (
            let one = h.connections c s there in (
              one.0,
              one_far h.last number c (new_slot number link) (not_past ss c s there) ∙ one.1,
              same_has c (links_in acts ++ link ∷ []) _ (turns_of c acts) _ (server_acts_at c (deeds_of h.turns)) _ (entries_of c h.servers.log) _ s s one.0
                  one.0 (one_link acts key link) (no_more c) (done_at c) refl refl refl
                  (has_more c (links_in acts) link (turns_of c acts) (server_acts_at c (deeds_of h.turns)) (entries_of c h.servers.log) s one.0 one.2),
            ))
        | inr new_one ↦ (
          new_slot number link,
          one_here h.last number c (new_slot number link) new_one.0,
          subst (λ (k : ℕ). Has k (links_in (acts ++ act ∷ [])) (turns_of k (acts ++ act ∷ [])) (server_acts_at k (deeds_of (h.turns ++ owners.Opens ∷ [])))
              (entries_of k h.servers.log) s (new_slot number link)) (sym new_one.0)
              (subst (λ (z : ServerView). Has number (links_in (acts ++ act ∷ [])) (turns_of number (acts ++ act ∷ [])) (server_acts_at number (deeds_of (h.turns ++ owners.Opens ∷ [])))
              (entries_of number h.servers.log) z (new_slot number link)) new_one.1 has_own),
        )
      ]

      -- the slot of a key: the new one, or one that was there
      slot_at : (other : ℕ) (slot : SlotSeen L) → get new.slots other ≡ Some slot
          → ((other ≡ key) × (slot ≡ new_slot number link)) ⊎ (get old.slots other ≡ Some slot)
      slot_at other slot at = elim (same_or_not other key) [
        | inl is ↦ inl (is, sym (same_Some (new_slot old.next link) slot (sym (subst (λ (k : ℕ). get new.slots k ≡ Some (new_slot old.next link)) (sym is) o.slots.changed) ∙ at)) ∙ slot_is)
        | inr not_ ↦ inr (sym (o.slots.others other not_) ∙ at)
      ]

      old_number : (other : ℕ) (slot : SlotSeen L) → get old.slots other ≡ Some slot → number_of slot ≡ number → ⊥
      old_number other slot at = not_past ss (number_of slot) slot.conn.server (h.slots other slot at).0

      slots_are : (other : ℕ) (slot : SlotSeen L) → get new.slots other ≡ Some slot
          → (server_at more.servers (number_of slot) ≡ Some slot.conn.server) × (last_of (number_of slot) ≡ Some slot)
      slots_are other slot at = elim (slot_at other slot at) [
        | inl new_one ↦ rw new_one.1 (
          get-push_new ss server ∙ ap (λ (z : ServerView). Some z) server_is,
          one_here h.last number number (new_slot number link) refl,
        )
        | inr there ↦ (
          at_push ss (number_of slot) slot.conn.server server (h.slots other slot there).0,
          one_far h.last number (number_of slot) (new_slot number link) (old_number other slot there) ∙ (h.slots other slot there).1,
        )
      ]

      slots_apart : (one two : ℕ) (slot another : SlotSeen L) → get new.slots one ≡ Some slot → get new.slots two ≡ Some another
          → number_of slot ≡ number_of another → one ≡ two
      slots_apart one two slot another at also is = elim (slot_at one slot at) [
        | inl new_one ↦ (elim (slot_at two another also) [
          | inl new_two ↦ new_one.0 ∙ sym new_two.0
          | inr there ↦ absurd (old_number two another there (sym is ∙ ap (λ (s : SlotSeen L). number_of s) new_one.1))
        ])
        | inr there ↦ (elim (slot_at two another also) [
          | inl new_two ↦ absurd (old_number one slot there (is ∙ ap (λ (s : SlotSeen L). number_of s) new_two.1))
          | inr also_there ↦ h.apart one two slot another there also_there is
        ])
      ]

      none_else : (c : ℕ) → server_at more.servers c ≡ None
          → Unused c (acts ++ act ∷ []) (server_acts_at c (deeds_of (h.turns ++ owners.Opens ∷ []))) (entries_of c h.servers.log)
      none_else c at = elim (found_or_not (server_at ss c)) [
        | inl found ↦ absurd (none-some found.0 (sym at ∙ at_push ss c found.0 server found.1))
        | inr none ↦ (
            let u = h.no_other c none in
            record { turns = no_more c ∙ u.turns; none_done = done_at c ∙ u.none_done; no_entries = u.no_entries })
      ]

      opens_one : Holds (acts ++ Opens key link ∷ []) new
      opens_one = record {
        turns = h.turns ++ owners.Opens ∷ [];
        servers = more;
        grown = grows_on does stops MAX_MESSAGE_LEN made h.turns (owners.Opens ∷ []) begun h.servers more h.grown refl;
        opens = omega (arith, o.next, h.opens, length-push ss server);
        many = ap length (one_link acts key link) ∙ length-push (links_in acts) link ∙ ap suc h.many ∙ sym (length-push ss server);
        log = h.log ∙ sym log_stays;
        handler = h.handler ∙ ap (λ (l : Logged H). l.handler) (sym o.logged);
        asked = h.asked;
        run = h.run;
        known = subst AreContents (sym (none_told acts act refl)) h.known;
        last = last_of;
        connections = connects;
        slots = slots_are;
        apart = slots_apart;
        no_other = none_else;
      }

    -- ---- a slot has a turn

    module _ (acts : List (ConnsAct L)) (key c : ℕ) (turn : List SlotAct) (old new : ConnsSeen H L) (a : IsActed does stops t key c turn old new)
        (h : Holds acts old) where
      abbrev ss_ : List ServerView
      ss_ = h.servers.servers

      abbrev turned : ConnsAct L
      turned = Acts key c turn

      abbrev told : List LogEntry
      told = told_in acts

      -- its server is that of the connection
      server_there : server_at ss_ c ≡ Some a.slot.conn.server
      server_there = subst (λ (k : ℕ). server_at ss_ k ≡ Some a.slot.conn.server) a.number (h.slots key a.slot a.at).0

      has : Has c (links_in acts) (turns_of c acts) (server_acts_at c (deeds_of h.turns)) (entries_of c h.servers.log) a.slot.conn.server a.slot
      has =
          let one = h.connections c a.slot.conn.server server_there in
          let last_is : h.last c ≡ Some a.slot = subst (λ (k : ℕ). h.last k ≡ Some a.slot) a.number (h.slots key a.slot a.at).1 in
          subst (λ (s : SlotSeen L). Has c (links_in acts) (turns_of c acts) (server_acts_at c (deeds_of h.turns)) (entries_of c h.servers.log) a.slot.conn.server s)
          (same_Some one.0 a.slot (sym one.1 ∙ last_is)) one.2

      owned : Owned does stops t told h.known c (of_turns taken_by (turns_of c acts)) (of_turns sent_by (turns_of c acts))
          (bytes_taken_up (server_acts_at c (deeds_of h.turns))) (bytes_sent_down (server_acts_at c (deeds_of h.turns)))
          (of_acts taken_by turn) (of_acts sent_by turn) (of_acts made_by turn) a.slot.conn old.logged a.after.conn new.logged
      owned = acts_owned does stops t told h.known turn c _ _ _ _ a.slot a.after old.logged new.logged a.run has.fits

      abbrev more_turns : List Turn
      more_turns = with_acts h.turns c owned.acts

      abbrev after_server : ServerEnd H
      after_server = end_of does stops t told h.known a.after.conn.server new.logged

      abbrev then_servers : ServerEnds H
      then_servers = among (server_set ss_ c a.after.conn.server) after_server

      servers_are : among ss_ (end_of does stops t told h.known a.slot.conn.server old.logged) ≡ h.servers
      servers_are =
          ap (λ (es : List LogEntry). record { servers = ss_; log = es; handler = old.logged.handler }) (sym h.log)
          ∙ ap (λ (x : H). record { servers = ss_; log = h.servers.log; handler = x }) (sym h.handler)

      grows : ServersGrow does stops MAX_MESSAGE_LEN made begun more_turns then_servers
      grows =
          grows_on does stops MAX_MESSAGE_LEN made h.turns (map owners.Is (at_server c owned.acts)) begun h.servers then_servers h.grown
          (run_grows does stops MAX_MESSAGE_LEN made (at_server c owned.acts) h.servers then_servers
          (subst (λ (z : ServerEnds H). ServersRun does stops z (at_server c owned.acts) then_servers) servers_are
          (run_among does stops owned.acts c ss_ (end_of does stops t told h.known a.slot.conn.server old.logged) after_server server_there owned.run)))

      log_goes : then_servers.log ≡ h.servers.log ++ of_acts made_by turn
      log_goes =
          ap (λ (es : List LogEntry). told ++ es) owned.logged
          ∙ sym (append_assoc told (log_of old.logged.entries.items) (of_acts made_by turn))
          ∙ ap (λ (es : List LogEntry). es ++ of_acts made_by turn) (sym h.log)

      none_more_told : told_in (acts ++ turned ∷ []) ≡ told
      none_more_told = none_told acts turned refl

      ran : (all : List Asked) × RunOf does stops first all then_servers.log then_servers.handler
      ran =
          let more = owned.adds.run first h.asked h.servers.log (subst (λ (x : H). RunOf does stops first h.asked h.servers.log x) h.handler h.run) in
          (more.0, subst (λ (es : List LogEntry). RunOf does stops first more.0 es new.logged.handler) (sym log_goes) more.1)

      same_links : links_in (acts ++ turned ∷ []) ≡ links_in acts
      same_links = no_link acts turned refl

      has_here : Has c (links_in (acts ++ turned ∷ [])) (turns_of c (acts ++ turned ∷ [])) (server_acts_at c (deeds_of more_turns)) (entries_of c then_servers.log) a.after.conn.server a.after
      has_here = record {
        link = has.link;
        over = ap (λ (ls : List L). link_at ls c) same_links ∙ has.over;
        had = subst (λ (ts : List (List SlotAct)). SlotTurns does stops t (new_slot c has.link) ts a.after) (sym (turn_here c key acts turn))
            (slot_turns-push does stops t (turns_of c acts) turn (new_slot c has.link) a.slot a.after old.logged new.logged has.had a.run);
        is = refl;
        fits = same_fits c _ _ _ _ _ _ _ _ a.after.conn a.after.conn
            (ap (of_turns taken_by) (turn_here c key acts turn) ∙ of_turns-push taken_by (turns_of c acts) turn)
            (ap (of_turns sent_by) (turn_here c key acts turn) ∙ of_turns-push sent_by (turns_of c acts) turn)
            (ap bytes_taken_up (acts_with_here h.turns c owned.acts) ∙ taken_up_on (server_acts_at c (deeds_of h.turns)) owned.acts)
            (ap bytes_sent_down (acts_with_here h.turns c owned.acts) ∙ sent_down_on (server_acts_at c (deeds_of h.turns)) owned.acts)
            refl owned.fits;
        made = ap (entries_of c) log_goes ∙ owned.adds.own h.servers.log
            ∙ ap (λ (es : List LogEntry). es ++ of_acts made_by turn) has.made
            ∙ sym (ap (of_turns made_by) (turn_here c key acts turn) ∙ of_turns-push made_by (turns_of c acts) turn);
      }

      abbrev last_then : ℕ → Option (SlotSeen L)
      last_then = at_one h.last c a.after

      entries_far : (d : ℕ) → (c ≡ d → ⊥) → entries_of d then_servers.log ≡ entries_of d h.servers.log
      entries_far d n = ap (entries_of d) log_goes ∙ owned.adds.others d n h.servers.log

      connects_then : (d : ℕ) (s : ServerView) → server_at then_servers.servers d ≡ Some s
          → (slot : SlotSeen L) × (last_then d ≡ Some slot)
          × Has d (links_in (acts ++ turned ∷ [])) (turns_of d (acts ++ turned ∷ [])) (server_acts_at d (deeds_of more_turns)) (entries_of d then_servers.log)
          s slot
      connects_then d s at = elim (same_or_not d c) [
        | inl is ↦ (
          a.after,
          one_here h.last c d a.after is,
          subst (λ (k : ℕ). Has k (links_in (acts ++ turned ∷ [])) (turns_of k (acts ++ turned ∷ [])) (server_acts_at k (deeds_of more_turns))
              (entries_of k then_servers.log) s a.after) (sym is)
              (subst (λ (z : ServerView). Has c (links_in (acts ++ turned ∷ [])) (turns_of c (acts ++ turned ∷ [])) (server_acts_at c (deeds_of more_turns))
              (entries_of c then_servers.log) z a.after)
              (same_Some a.after.conn.server s
              (sym (server_set-same ss_ c a.slot.conn.server a.after.conn.server server_there)
              ∙ subst (λ (k : ℕ). server_at then_servers.servers k ≡ Some s) is at)) has_here),
        )
        | inr n ↦ (
            let one = h.connections d s (sym (server_set-other ss_ c d a.after.conn.server n) ∙ at) in
            let far : c ≡ d → ⊥ = λ e. n (sym e) in (
              one.0,
              one_far h.last c d a.after n ∙ one.1,
              same_has d (links_in acts) _ (turns_of d acts) _ (server_acts_at d (deeds_of h.turns)) _ (entries_of d h.servers.log) _ s s one.0 one.0
                  same_links (turn_far d c key acts turn far) (acts_with_far h.turns c d owned.acts far) (entries_far d far) refl refl one.2,
            ))
      ]

      -- the slot of a key: the one that had the turn, or one of another connection
      slot_then : (other : ℕ) (slot : SlotSeen L) → get new.slots other ≡ Some slot
          → ((other ≡ key) × (slot ≡ a.after)) ⊎ ((get old.slots other ≡ Some slot) × (number_of slot ≡ c → ⊥))
      slot_then other slot at = elim (same_or_not other key) [
        | inl is ↦ inl (is, sym (same_Some a.after slot (sym (subst (λ (k : ℕ). get new.slots k ≡ Some a.after) (sym is) a.slots.changed) ∙ at)))
        | inr n ↦ (
            let there : get old.slots other ≡ Some slot = sym (a.slots.others other n) ∙ at in
            inr (there, λ e. n (h.apart other key slot a.slot there a.at (e ∙ sym a.number))))
      ]

      after_number : number_of a.after ≡ c
      after_number = owned.fits.number

      slots_then : (other : ℕ) (slot : SlotSeen L) → get new.slots other ≡ Some slot
          → (server_at then_servers.servers (number_of slot) ≡ Some slot.conn.server) × (last_then (number_of slot) ≡ Some slot)
      slots_then other slot at = elim (slot_then other slot at) [
        | inl one ↦ subst (λ (s : SlotSeen L). (server_at then_servers.servers (number_of s) ≡ Some s.conn.server) × (last_then (number_of s) ≡ Some s))
            (sym one.1) (
              subst (λ (k : ℕ). server_at then_servers.servers k ≡ Some a.after.conn.server) (sym after_number)
                  (server_set-same ss_ c a.slot.conn.server a.after.conn.server server_there),
              one_here h.last c (number_of a.after) a.after after_number,
            )
        | inr there ↦ (
          server_set-other ss_ c (number_of slot) a.after.conn.server there.1 ∙ (h.slots other slot there.0).0,
          one_far h.last c (number_of slot) a.after there.1 ∙ (h.slots other slot there.0).1,
        )
      ]

      apart_then : (one two : ℕ) (slot another : SlotSeen L) → get new.slots one ≡ Some slot → get new.slots two ≡ Some another
          → number_of slot ≡ number_of another → one ≡ two
      apart_then one two slot another at also is = elim (slot_then one slot at) [
        | inl here ↦ (elim (slot_then two another also) [
          | inl there ↦ here.0 ∙ sym there.0
          | inr there ↦ absurd (there.1 (sym is ∙ ap (λ (s : SlotSeen L). number_of s) here.1 ∙ after_number))
        ])
        | inr here ↦ (elim (slot_then two another also) [
          | inl there ↦ absurd (here.1 (is ∙ ap (λ (s : SlotSeen L). number_of s) there.1 ∙ after_number))
          | inr there ↦ h.apart one two slot another here.0 there.0 is
        ])
      ]

      none_then : (d : ℕ) → server_at then_servers.servers d ≡ None
          → Unused d (acts ++ turned ∷ []) (server_acts_at d (deeds_of more_turns)) (entries_of d then_servers.log)
      none_then d at = elim (same_or_not d c) [
        | inl is ↦ absurd (none-some a.after.conn.server
            (sym (subst (λ (k : ℕ). server_at then_servers.servers k ≡ None) is at)
            ∙ server_set-same ss_ c a.slot.conn.server a.after.conn.server server_there))
        | inr n ↦ (
            let u = h.no_other d (sym (server_set-other ss_ c d a.after.conn.server n) ∙ at) in
            let far : c ≡ d → ⊥ = λ e. n (sym e) in
            record {
              turns = turn_far d c key acts turn far ∙ u.turns;
              none_done = acts_with_far h.turns c d owned.acts far ∙ u.none_done;
              no_entries = entries_far d far ∙ u.no_entries;
            })
      ]

      turns_one : Holds (acts ++ Acts key c turn ∷ []) new
      turns_one = record {
        turns = more_turns;
        servers = then_servers;
        grown = grows;
        opens = a.next ∙ h.opens ∙ ap suc (sym (many_set ss_ c a.after.conn.server));
        many = ap length same_links ∙ h.many ∙ sym (many_set ss_ c a.after.conn.server);
        log = ap (λ (es : List LogEntry). es ++ log_of new.logged.entries.items) (sym none_more_told);
        handler = refl;
        asked = ran.0;
        run = ran.1;
        known = subst AreContents (sym none_more_told) h.known;
        last = last_then;
        connections = connects_then;
        slots = slots_then;
        apart = apart_then;
        no_other = none_then;
      }

    -- ---- all acts

    one_act : (acts : List (ConnsAct L)) (act : ConnsAct L) (old new : ConnsSeen H L) → ConnsDo does stops t act old new → Holds acts old
        → Holds (acts ++ act ∷ []) new
    one_act acts (Opens key link) old new o h = opens_one acts key link old new o h
    one_act acts (Acts key c turn) old new a h = turns_one acts key c turn old new a h
    one_act acts (Closes key) old new d h =
        leaves_log acts (Closes key) old new (λ c. refl) refl refl d.logged d.next (still_there old.slots new.slots key d.slots) h
    one_act acts (Forgets told) old new f h = forgets acts told old new f h
    one_act acts Stays old new s h =
        leaves_log acts Stays old new (λ c. refl) refl refl s.logged s.next (λ key slot at. sym (s.slots key) ∙ at) h

    holds_on : (acts more : List (ConnsAct L)) (old new : ConnsSeen H L) → ConnsRun does stops t old more new → Holds acts old → Holds (acts ++ more) new
    holds_on acts [] old new same h =
        subst (λ (z : List (ConnsAct L)). Holds z new) (sym (append-nil acts)) (subst (λ (z : ConnsSeen H L). Holds acts z) (sym same) h)
    holds_on acts (act ∷ more) old new (mid, one, rest) h =
        subst (λ (z : List (ConnsAct L)). Holds z new) (append_assoc acts (act ∷ []) more)
        (holds_on (acts ++ act ∷ []) more mid new rest (one_act acts act old mid one h))

    pub owns : (acts : List (ConnsAct L)) (old new : ConnsSeen H L) → AreNewConns first old → ConnsRun does stops t old acts new
        → OwnsServers does stops t made first acts new
    owns acts old new begins run =
        let h = holds_on [] acts old new run (starts old begins) in record {
          turns = h.turns;
          servers = h.servers;
          grown = h.grown;
          opened = h.opens;
          log = h.log;
          handler = h.handler;
          asked = h.asked;
          run = h.run;
          last = h.last;
          connections = λ c s at.
              let one = h.connections c s at in
              (one.0, one.2.link, one.1, one.2.over, to_server c (links_in acts) (turns_of c acts) (server_acts_at c (deeds_of h.turns)) (entries_of c h.servers.log) s one.0 one.2);
          slots = h.slots;
          no_other = λ c none. let u = h.no_other c none in record { turns = u.turns; entries = u.no_entries };
        }
