-- What acts with connections add to the turns of each connection, and deeds to the acts at each server.
use Rattle.std.proofs.Common.{◌≡◌, ℕ, zero, suc, Bool, true, false, List, [], ◌∷◌, ◌++◌, length, map, Some, ap, refl, sym, subst, ◌∙◌, append_assoc, append-nil}
use Rattle.std.specs.Prelude.{◌==◌, if◌then◌else◌}
use Rattle.wire_peer.specs.{Does, LogEntry, ServerView, Stops}
use Rattle.wire_peer.specs.declared.log.Logged.{Logged}
use Rattle.wire_serve.specs.Connections.{Acts, Closes, ConnsAct, Forgets, Opens, Stays, told_in, turns_of}
use Rattle.wire_serve.specs.Slots.{SlotAct, SlotRun, SlotSeen, SlotTurns, Tells}
use Rattle.wire_serve.specs.Serving.{of_acts, of_turns}
use Rattle.std.proofs.lemmas.Option.{none-some}
use Rattle.wire_serve.specs.Owning.{link_at, links_in}
use Rattle.wire_model.proofs.Lemmas.{get-push_old, is_elsewhere, is_here, length-slice_set}
use Rattle.wire_model.specs.{Deed, ServerAct, Turn, at_server, deeds_of, server_acts_at, server_set}
use Rattle.wire_model.specs.Deeds.{AtClient, AtServer, Is}
use Rattle.wire_model.specs.Deeds as owners

-- ---- acts with connections

module _ {L : Type 0} where
  pub turns_on : (c : ℕ) (acts more : List (ConnsAct L)) → turns_of c (acts ++ more) ≡ turns_of c acts ++ turns_of c more
  turns_on c [] more = refl
  turns_on c (Opens key link ∷ acts) more = turns_on c acts more
  turns_on c (Acts key d turn ∷ acts) more = by (d == c) (turns_on c acts more)
    where
      by : (b : Bool) → turns_of c (acts ++ more) ≡ turns_of c acts ++ turns_of c more
          → (if b then turn ∷ turns_of c (acts ++ more) else turns_of c (acts ++ more))
          ≡ (if b then turn ∷ turns_of c acts else turns_of c acts) ++ turns_of c more
      by true e = ap (λ (z : List (List SlotAct)). turn ∷ z) e
      by false e = e
  turns_on c (Closes key ∷ acts) more = turns_on c acts more
  turns_on c (Forgets told ∷ acts) more = turns_on c acts more
  turns_on c (Stays ∷ acts) more = turns_on c acts more

  -- an act that is no turn
  pub no_turn : (c : ℕ) (acts : List (ConnsAct L)) (act : ConnsAct L) → turns_of c (act ∷ []) ≡ [] → turns_of c (acts ++ act ∷ []) ≡ turns_of c acts
  no_turn c acts act none = turns_on c acts (act ∷ []) ∙ ap (λ (z : List (List SlotAct)). turns_of c acts ++ z) none ∙ append-nil (turns_of c acts)

  pub turn_here : (c key : ℕ) (acts : List (ConnsAct L)) (turn : List SlotAct)
      → turns_of c (acts ++ Acts key c turn ∷ []) ≡ turns_of c acts ++ turn ∷ []
  turn_here c key acts turn =
      turns_on c acts (Acts key c turn ∷ []) ∙ ap (λ (b : Bool). turns_of c acts ++ (if b then turn ∷ [] else [])) (is_here c c refl)

  pub turn_far : (c d key : ℕ) (acts : List (ConnsAct L)) (turn : List SlotAct) → (d ≡ c → ⊥)
      → turns_of c (acts ++ Acts key d turn ∷ []) ≡ turns_of c acts
  turn_far c d key acts turn n = no_turn c acts (Acts key d turn) (ap (λ (b : Bool). if b then turn ∷ [] else []) (is_elsewhere c d n))

  pub told_on : (acts more : List (ConnsAct L)) → told_in (acts ++ more) ≡ told_in acts ++ told_in more
  told_on [] more = refl
  told_on (Opens key link ∷ acts) more = told_on acts more
  told_on (Acts key d turn ∷ acts) more = told_on acts more
  told_on (Closes key ∷ acts) more = told_on acts more
  told_on (Forgets told ∷ acts) more =
      ap (λ (z : List LogEntry). told ++ z) (told_on acts more) ∙ sym (append_assoc told (told_in acts) (told_in more))
  told_on (Stays ∷ acts) more = told_on acts more

  pub none_told : (acts : List (ConnsAct L)) (act : ConnsAct L) → told_in (act ∷ []) ≡ [] → told_in (acts ++ act ∷ []) ≡ told_in acts
  none_told acts act none = told_on acts (act ∷ []) ∙ ap (λ (z : List LogEntry). told_in acts ++ z) none ∙ append-nil (told_in acts)

  pub these_told : (acts : List (ConnsAct L)) (told : List LogEntry) → told_in (acts ++ Forgets told ∷ []) ≡ told_in acts ++ told
  these_told acts told = told_on acts (Forgets told ∷ []) ∙ ap (λ (z : List LogEntry). told_in acts ++ z) (append-nil told)

  links_on : (acts more : List (ConnsAct L)) → links_in (acts ++ more) ≡ links_in acts ++ links_in more
  links_on [] more = refl
  links_on (Opens key link ∷ acts) more = ap (λ (z : List L). link ∷ z) (links_on acts more)
  links_on (Acts key d turn ∷ acts) more = links_on acts more
  links_on (Closes key ∷ acts) more = links_on acts more
  links_on (Forgets told ∷ acts) more = links_on acts more
  links_on (Stays ∷ acts) more = links_on acts more

  pub one_link : (acts : List (ConnsAct L)) (key : ℕ) (link : L) → links_in (acts ++ Opens key link ∷ []) ≡ links_in acts ++ link ∷ []
  one_link acts key link = links_on acts (Opens key link ∷ [])

  pub no_link : (acts : List (ConnsAct L)) (act : ConnsAct L) → links_in (act ∷ []) ≡ [] → links_in (acts ++ act ∷ []) ≡ links_in acts
  no_link acts act none = links_on acts (act ∷ []) ∙ ap (λ (z : List L). links_in acts ++ z) none ∙ append-nil (links_in acts)

  -- the link of a connection, among one more
  pub link-push : (links : List L) (c : ℕ) (l x : L) → link_at links c ≡ Some l → link_at (links ++ x ∷ []) c ≡ Some l
  link-push links zero l x at = absurd (none-some l at)
  link-push links (suc i) l x at = get-push_old links i l x at

-- ---- turns of a slot

pub of_turns-push : {X : Type 0} (by : SlotAct → List X) (turns : List (List SlotAct)) (turn : List SlotAct)
    → of_turns by (turns ++ turn ∷ []) ≡ of_turns by turns ++ of_acts by turn
of_turns-push by [] turn = append-nil (of_acts by turn)
of_turns-push {X} by (first ∷ turns) turn =
    ap (λ (z : List X). of_acts by first ++ z) (of_turns-push by turns turn) ∙ sym (append_assoc (of_acts by first) (of_turns by turns) (of_acts by turn))

module _ {H L : Type 0} (does : Does H) (stops : Stops H) (t : Tells L) where
  pub slot_turns-push : (turns : List (List SlotAct)) (turn : List SlotAct) (old mid new : SlotSeen L) (from to : Logged H)
      → SlotTurns does stops t old turns mid → SlotRun does stops t mid from turn new to → SlotTurns does stops t old (turns ++ turn ∷ []) new
  slot_turns-push [] turn old mid new from to is run =
      (new, from, to, subst (λ (s : SlotSeen L). SlotRun does stops t s from turn new to) is run, refl)
  slot_turns-push (first ∷ turns) turn old mid new from to (next, start, stop, one, rest) run =
      (next, start, stop, one, slot_turns-push turns turn next mid new from to rest run)

-- ---- deeds

pub deeds_on : (turns more : List Turn) → deeds_of (turns ++ more) ≡ deeds_of turns ++ deeds_of more
deeds_on [] more = refl
deeds_on (owners.Opens ∷ turns) more = deeds_on turns more
deeds_on (Is deed ∷ turns) more = ap (λ (z : List Deed). deed ∷ z) (deeds_on turns more)

pub deeds_are : (deeds : List Deed) → deeds_of (map Is deeds) ≡ deeds
deeds_are [] = refl
deeds_are (deed ∷ deeds) = ap (λ (z : List Deed). deed ∷ z) (deeds_are deeds)

acts_on : (c : ℕ) (deeds more : List Deed) → server_acts_at c (deeds ++ more) ≡ server_acts_at c deeds ++ server_acts_at c more
acts_on c [] more = refl
acts_on c (AtClient d act ∷ deeds) more = acts_on c deeds more
acts_on c (AtServer d act ∷ deeds) more = by (d == c) (acts_on c deeds more)
  where
    by : (b : Bool) → server_acts_at c (deeds ++ more) ≡ server_acts_at c deeds ++ server_acts_at c more
        → (if b then act ∷ server_acts_at c (deeds ++ more) else server_acts_at c (deeds ++ more))
        ≡ (if b then act ∷ server_acts_at c deeds else server_acts_at c deeds) ++ server_acts_at c more
    by true e = ap (λ (z : List ServerAct). act ∷ z) e
    by false e = e

acts_here : (c : ℕ) (acts : List ServerAct) → server_acts_at c (at_server c acts) ≡ acts
acts_here c [] = refl
acts_here c (act ∷ acts) =
    ap (λ (b : Bool). if b then act ∷ server_acts_at c (at_server c acts) else server_acts_at c (at_server c acts)) (is_here c c refl)
    ∙ ap (λ (z : List ServerAct). act ∷ z) (acts_here c acts)

acts_far : (c d : ℕ) (acts : List ServerAct) → (c ≡ d → ⊥) → server_acts_at d (at_server c acts) ≡ []
acts_far c d [] n = refl
acts_far c d (act ∷ acts) n =
    ap (λ (b : Bool). if b then act ∷ server_acts_at d (at_server c acts) else server_acts_at d (at_server c acts)) (is_elsewhere d c n)
    ∙ acts_far c d acts n

abbrev pub with_acts : List Turn → ℕ → List ServerAct → List Turn
with_acts turns c acts = turns ++ map Is (at_server c acts)

deeds_with : (turns : List Turn) (c : ℕ) (acts : List ServerAct) → deeds_of (with_acts turns c acts) ≡ deeds_of turns ++ at_server c acts
deeds_with turns c acts = deeds_on turns (map Is (at_server c acts)) ∙ ap (λ (z : List Deed). deeds_of turns ++ z) (deeds_are (at_server c acts))

pub acts_with_here : (turns : List Turn) (c : ℕ) (acts : List ServerAct)
    → server_acts_at c (deeds_of (with_acts turns c acts)) ≡ server_acts_at c (deeds_of turns) ++ acts
acts_with_here turns c acts =
    ap (server_acts_at c) (deeds_with turns c acts) ∙ acts_on c (deeds_of turns) (at_server c acts)
    ∙ ap (λ (z : List ServerAct). server_acts_at c (deeds_of turns) ++ z) (acts_here c acts)

pub acts_with_far : (turns : List Turn) (c d : ℕ) (acts : List ServerAct) → (c ≡ d → ⊥)
    → server_acts_at d (deeds_of (with_acts turns c acts)) ≡ server_acts_at d (deeds_of turns)
acts_with_far turns c d acts n =
    ap (server_acts_at d) (deeds_with turns c acts) ∙ acts_on d (deeds_of turns) (at_server c acts)
    ∙ ap (λ (z : List ServerAct). server_acts_at d (deeds_of turns) ++ z) (acts_far c d acts n)
    ∙ append-nil (server_acts_at d (deeds_of turns))

-- ---- servers

pub many_set : (ss : List ServerView) (c : ℕ) (s : ServerView) → length (server_set ss c s) ≡ length ss
many_set ss zero s = refl
many_set ss (suc i) s = length-slice_set ss i s
