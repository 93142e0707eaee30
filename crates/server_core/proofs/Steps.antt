-- What the server does next goes on what it did.
use Rattle.std.proofs.Common.{◌≡◌, ◌+◌, ◌++◌, ℕ, suc, Bool, true, false, List, [], Option, None, Some, Result, Ok, Err, refl, sym, ap, subst, ◌∙◌, append_assoc, append-nil, inl, inr, arith}
use Rattle.std.specs.Prelude.{◌⊎◌, OnOk, flat_map, min}
use Rattle.std.specs.Io.KnownBytes.{Appends, Keeps}
use Rattle.std.proofs.KnownBytes.{Appends-trans}
use Rattle.slab.specs.Slab.{Slab, Updates, get}
use Rattle.wire_serve.specs.{IsGated, IsTurned, SlotSeen, Tells, new_slot}
use Rattle.wire_serve.specs.declared.turned.Leave.{Leave}
use Rattle.wire_serve.specs.declared.turned.Turned.{Turned}
use Rattle.wire_serve.specs.declared.turned.Turned.TheVariants as turns
use Rattle.wire_serve.specs.declared.gated_link.Gate.{Gate}
use Rattle.wire_serve.specs.declared.gated_link.Gate.TheVariants as gates
use Rattle.wire_peer.specs.{Does, Stops, log_of}
use Rattle.wire_peer.specs.declared.log.Logged.{Logged}
use Rattle.script_rules.specs.{RuleView}
use Rattle.script_rules.specs.declared.action.Flow.{Flow}
use Rattle.server_core.specs.Replies.{last_flow, rules_after}
use Rattle.server_core.specs.Serving.{EndsTurn, IsForgotten, IsSteered, IsStepped, Serves, ServesOn, TakesTurn, counted_after, ended_after, gate_after, opened, reply_flow, took}
use Rattle.server_core.specs.Transcript.{end_text, new_text, told_text}
use Rattle.server_core.specs.declared.serving.Serving.{Serving}

-- one connection more is counted, up to a greatest number
one_more_ended : (n : ℕ) → min (min n 18446744073709551615 + 1) 18446744073709551615 ≡ min (suc n) 18446744073709551615
one_more_ended n = grind arith

-- bytes that stay as they were grow by none
kept_bytes : (a b : Option (List ℕ)) → Keeps a b → Appends a b []
kept_bytes None b keeps = tt
kept_bytes (Some x) None keeps = absurd keeps
kept_bytes (Some x) (Some y) keeps = keeps ∙ sym (append-nil x)

-- what holds in any case holds where the result is good
pub on_any : {T E : Type 0} {P : Type 0} (r : Result T E) → P → OnOk r P
on_any (Ok x) p = p
on_any (Err e) p = tt

-- the connection goes on after this turn
abbrev pub GoesOn : Turned → Type 0
GoesOn turned = (turned ≡ turns.Again) ⊎ (turned ≡ turns.Waits)

-- none ended where the connection goes on
counted_on : (how : Turned) (old new : ℕ) → GoesOn how → new ≡ old → new ≡ counted_after how old
counted_on how old new (inl is) same = subst (λ w. new ≡ counted_after w old) (sym is) same
counted_on how old new (inr is) same = subst (λ w. new ≡ counted_after w old) (sym is) same

-- what is counted after a turn is what ended, up to a greatest number
counts_turn : (how : Turned) (n old new : ℕ) → old ≡ min n 18446744073709551615 → new ≡ counted_after how old → new ≡ min (ended_after how n) 18446744073709551615
counts_turn (turns.Over leave) n old new is counted = counted ∙ (ap (λ e. min (e + 1) 18446744073709551615) is ∙ one_more_ended n)
counts_turn turns.Again n old new is counted = counted ∙ is
counts_turn turns.Waits n old new is counted = counted ∙ is

module _ {H L : Type 0} (does : Does H) (stops : Stops H) (t : Tells L) (gate : L → Gate) where
  -- the rules by which a server says what becomes of replies
  abbrev rules_of : Serving L H → List RuleView
  rules_of s = s.replies.script.rules.items

  -- the connection goes on, and its link was steered
  steers_on : (how : Turned) (key : ℕ) (flow : Option Flow) (old new : Slab (SlotSeen L)) → GoesOn how → IsSteered t gate (reply_flow (get old key) flow) key old new
      → EndsTurn t gate key how flow old new []
  steers_on how key flow old new (inl is) steered = subst (λ w. EndsTurn t gate key w flow old new []) (sym is) (steered, refl)
  steers_on how key flow old new (inr is) steered = subst (λ w. EndsTurn t gate key w flow old new []) (sym is) (steered, refl)

  -- it is the same server with this log, this next number and these rules
  next_is : (first : H) (script : List RuleView) (ended : ℕ) (slots : Slab (SlotSeen L)) (logged logged' : Logged H) (next next' : ℕ) (rules rules' : List RuleView) (text : List ℕ)
      → logged ≡ logged' → next ≡ next' → rules ≡ rules' → Serves does stops t gate first script ended slots logged next rules text
      → Serves does stops t gate first script ended slots logged' next' rules' text
  next_is first script ended slots logged logged' next next' rules rules' text e e' e'' s =
      subst (λ rs. Serves does stops t gate first script ended slots logged' next' rs text) e''
      (subst (λ n. Serves does stops t gate first script ended slots logged' n rules text) e'
      (subst (λ l. Serves does stops t gate first script ended slots l next rules text) e s))

  -- a connection was opened
  pub opens : (old new : Serving L H) (key : ℕ) (link : L) (before after : Option (List ℕ)) → gate link ≡ gates.Open → get old.conns.slots key ≡ None
      → Updates old.conns.slots new.conns.slots key (Some (new_slot old.conns.next link)) → new.conns.next ≡ old.conns.next + 1
      → new.conns.logged ≡ old.conns.logged → rules_of new ≡ rules_of old → new.ended ≡ old.ended → Appends before after (new_text old.conns.next)
      → ServesOn does stops t gate old new before after
  opens old new key link before after is_open free updates next logged rules ended written first script n text is = (
    n,
    new_text old.conns.next,
    record {
      serves = next_is first script n new.conns.slots old.conns.logged new.conns.logged (suc old.conns.next) new.conns.next (rules_of old) (rules_of new) _ (sym logged) (omega (arith, next)) (sym rules)
          (opened key link is.serves is_open free updates);
      counts = ended ∙ is.counts;
    },
    written,
  )

  -- a connection took a turn, and goes on
  pub turns_on : (old new : Serving L H) (mid : Slab (SlotSeen L)) (made : Logged H) (key steps : ℕ) (how : Turned) (before after : Option (List ℕ)) → GoesOn how → IsStepped (rules_of old) steps
      → IsTurned does stops t key steps (Some how) old.conns.slots old.conns.logged mid made → IsForgotten made new.conns.logged
      → IsSteered t gate (reply_flow (get mid key) (last_flow None (rules_of old) (log_of made.entries.items))) key mid new.conns.slots
      → rules_of new ≡ rules_after (log_of made.entries.items) (rules_of old)
      → new.conns.next ≡ old.conns.next → new.ended ≡ old.ended → Appends before after (flat_map told_text (log_of made.entries.items))
      → TakesTurn does stops t gate key how old new before after
  turns_on old new mid made key steps how before after goes stepped is_turned forgotten steered rules next ended written = record {
    told = flat_map told_text (log_of made.entries.items);
    turn = record {
      steps = steps;
      few = stepped;
      mid = mid;
      made = made;
      turned = is_turned;
      forgotten = forgotten;
      line = [];
      ends = steers_on how key _ mid new.conns.slots goes steered;
      moved = rules;
      text = sym (append-nil _);
    };
    next = next;
    ended = counted_on how old.ended new.ended goes ended;
    written = written;
  }

  -- a connection took its last turn
  pub turns_over : (old new : Serving L H) (mid : Slab (SlotSeen L)) (made : Logged H) (key steps : ℕ) (how : Turned) (leave : Leave) (slot : SlotSeen L) (a b c : Option (List ℕ)) → IsStepped (rules_of old) steps
      → how ≡ turns.Over leave → IsTurned does stops t key steps (Some how) old.conns.slots old.conns.logged mid made → IsForgotten made new.conns.logged
      → get mid key ≡ Some slot → Updates mid new.conns.slots key None → rules_of new ≡ rules_after (log_of made.entries.items) (rules_of old)
      → new.conns.next ≡ old.conns.next → new.ended ≡ min (old.ended + 1) 18446744073709551615
      → Appends a b (flat_map told_text (log_of made.entries.items)) → Appends b c (end_text slot.conn.server.connection leave)
      → TakesTurn does stops t gate key how old new a c
  turns_over old new mid made key steps how leave slot a b c stepped is is_turned forgotten there updates rules next ended told written = record {
    told = flat_map told_text (log_of made.entries.items) ++ end_text slot.conn.server.connection leave;
    turn = record {
      steps = steps;
      few = stepped;
      mid = mid;
      made = made;
      turned = is_turned;
      forgotten = forgotten;
      line = end_text slot.conn.server.connection leave;
      ends = subst (λ w. EndsTurn t gate key w (last_flow None (rules_of old) (log_of made.entries.items)) mid new.conns.slots (end_text slot.conn.server.connection leave)) (sym is) (slot, there, updates, refl);
      moved = rules;
      text = refl;
    };
    next = next;
    ended = subst (λ w. new.ended ≡ counted_after w old.ended) (sym is) ended;
    written = Appends-trans _ _ _ _ _ told written;
  }

  -- a turn goes on what the server did
  pub serves_turn : (old new : Serving L H) (key : ℕ) (how : Turned) (before after : Option (List ℕ)) → TakesTurn does stops t gate key how old new before after
      → ServesOn does stops t gate old new before after
  serves_turn old new key how before after turn first script n text is = (
    ended_after how n,
    turn.told,
    record {
      serves = next_is first script (ended_after how n) new.conns.slots new.conns.logged new.conns.logged old.conns.next new.conns.next (rules_of new) (rules_of new) _ refl (sym turn.next) refl
          (took key how is.serves turn.turn);
      counts = counts_turn how n old.ended new.ended is.counts turn.ended;
    },
    turn.written,
  )

  -- the link of a connection that put out a reply has the gate that this wants
  pub steered_by : (flow : Option Flow) (f : Flow) (key : ℕ) (s : SlotSeen L) (is_there : Bool) (old new : Slab (SlotSeen L)) → flow ≡ Some f → get old key ≡ Some s
      → IsGated t gate key (gate_after f (gate s.link)) is_there old new → IsSteered t gate flow key old new
  steered_by flow f key s true old new is at gated = subst (λ o. IsSteered t gate o key old new) (sym is) (s, at, gated)
  steered_by flow f key s false old new is at gated = let none = gated.0 in absurd cc

  -- nothing was done
  pub serves_none : (s : Serving L H) (before after : Option (List ℕ)) → Keeps before after → ServesOn does stops t gate s s before after
  serves_none s before after keeps first script n text is = (
    n,
    [],
    record {
      serves = subst (λ x. Serves does stops t gate first script n s.conns.slots s.conns.logged s.conns.next (rules_of s) x) (sym (append-nil text)) is.serves;
      counts = is.counts;
    },
    kept_bytes before after keeps,
  )

  -- it served on, and then on
  pub serves_twice : (old mid new : Serving L H) (a b c : Option (List ℕ)) → ServesOn does stops t gate old mid a b → ServesOn does stops t gate mid new b c → ServesOn does stops t gate old new a c
  serves_twice old mid new a b c before then first script n text is =
      let one = before first script n text is in
      let two = then first script one.0 (text ++ one.1) one.2 in (
        two.0,
        one.1 ++ two.1,
        record {
          serves = subst (λ x. Serves does stops t gate first script two.0 new.conns.slots new.conns.logged new.conns.next (rules_of new) x) (append_assoc text one.1 two.1) two.2.serves;
          counts = two.2.counts;
        },
        Appends-trans _ _ _ _ _ one.3 two.3,
      )
