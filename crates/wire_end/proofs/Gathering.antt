-- What a server's end has of the next request while it comes.
use Rattle.std.proofs.Common.{◌≡◌, ◌≢◌, ℕ, List, [], ◌∷◌, ◌++◌, length, take, drop, Option, ap, refl, sym, subst, ◌∙◌, append_assoc, append-nil, inr}
use Rattle.std.specs.Prelude.{Err, Ok, Result}
use Rattle.std.proofs.Math.Seq.{drop-append_seam, take-append_seam}
use Rattle.std.specs.Io.KnownBytes.{Appends, Keeps}
use Rattle.bson_elem.specs.{IsBytes}
use Rattle.bson_elem.proofs.Lemmas.{IsBytes-drop, IsBytes-take}
use Rattle.wire_msg.specs.{IsOpen}
use Rattle.wire_msg.specs.declared.fault.MsgFault.{MsgFault}
use Rattle.wire_stream.specs.{AddsTurns, CompletesHeader, Rose, StandsAt, Turn}
use Rattle.wire_stream.specs.declared.link.LinkFault.{LinkFault}
use Rattle.wire_stream.specs.declared.reader_state.ReaderState.{ReaderState}
use Rattle.wire_stream.specs.declared.reader_state.ReaderState.TheVariants.{Bad, Need, Ready}
use Rattle.wire_model.specs.{ServerAct, bytes_taken_up, ended_server}
use Rattle.wire_peer.specs.{ServerView, closed_for, end_cause}
use Rattle.wire_peer.specs.Servers.{holding}
use Rattle.wire_peer.specs.declared.server_state.ServerCause.{ServerCause}
use Rattle.wire_peer.specs.declared.server_state.ServerCause.TheVariants.{Message}
use Rattle.wire_peer.specs.declared.server_state.ServerState.{ServerState}
use Rattle.wire_peer.specs.declared.server_state.ServerState.TheVariants.{Closed}
use Rattle.wire_model.specs.Owners.{EndsUp, TakesUp}
use Rattle.wire_model.proofs.Lemmas.{taken_up_on}
use Rattle.wire_end.specs.declared.next.NextRequest.{NextRequest}
use Rattle.wire_end.specs.declared.next.NextRequest.TheVariants.{Waits}
use Rattle.wire_end.specs.declared.next.RequestFault.{RequestFault}
use Rattle.wire_end.specs.declared.next.RequestFault.TheVariants as faults
use Rattle.wire_end.specs.NextRequests.{Closes, HasGoodHeader, RequestComes, StillHolds, TakesMore}
use Rattle.wire_end.specs.Turns.{AreBetween}
use Rattle.wire_end.specs.ServerEnds.{ServerEndMoves, ServerEndSeen, parts}
use Rattle.wire_end.specs.ServerFeeds.{IsFedAs}
use Rattle.wire_end.proofs.ServerFeeds.{holding_on}
use Rattle.wire_end.proofs.Turns.{pulled_turns}
use Rattle.wire_end.proofs.ServerRuns.{end_moves_on, nothing_done, only_came, took_some, was_ended}

-- the bytes of the next request, by the acts so far
abbrev so_far : ServerView → List ServerAct → List ℕ
so_far s acts = s.held ++ bytes_taken_up acts

took_one : (s : ServerView) (acts : List ServerAct) (bytes : List ℕ)
    → so_far s (acts ++ TakesUp bytes ∷ []) ≡ so_far s acts ++ bytes
took_one s acts bytes =
    ap (λ b. s.held ++ b) (taken_up_on acts (TakesUp bytes ∷ [])
    ∙ ap (λ b. bytes_taken_up acts ++ b) (append-nil bytes))
    ∙ sym (append_assoc s.held (bytes_taken_up acts) bytes)

took_none : (s : ServerView) (acts : List ServerAct) → so_far s (acts ++ EndsUp ∷ []) ≡ so_far s acts
took_none s acts =
    ap (λ b. s.held ++ b) (taken_up_on acts (EndsUp ∷ []) ∙ append-nil (bytes_taken_up acts))

-- The end took bytes of a message that isn't whole yet, and did nothing else.
pub record Gathers {L : Type 0} (sent received : L → Option (List ℕ)) (old new : ServerEndSeen L) : Type 0 where
  pub acts : List ServerAct
  pub moves : ServerEndMoves sent received old acts new
  pub same : new.server ≡ record (old.server) { held = so_far old.server acts }
  pub still : IsOpen old.server.limit (so_far old.server acts)

-- what is held of it, and what is held behind that, are what was held before and what came
pub stood : {L : Type 0} (sent received : L → Option (List ℕ)) (old new : ServerEndSeen L)
    → (g : Gathers sent received old new)
    → new.server.held ++ new.inlet ≡ (old.server.held ++ old.inlet) ++ g.moves.bytes.came
stood sent received old new g =
    ap (λ (z : ServerView). z.held ++ new.inlet) g.same
    ∙ append_assoc old.server.held (bytes_taken_up g.acts) new.inlet
    ∙ ap (λ b. old.server.held ++ b) (sym g.moves.bytes.taken)
    ∙ sym (append_assoc old.server.held old.inlet g.moves.bytes.came)

pub held_open : {L : Type 0} (sent received : L → Option (List ℕ)) (old new : ServerEndSeen L)
    → Gathers sent received old new → IsOpen old.server.limit new.server.held
held_open sent received old new g =
    subst (IsOpen old.server.limit) (sym (ap (λ (z : ServerView). z.held) g.same)) g.still

pub takes_still : {L : Type 0} (sent received : L → Option (List ℕ)) (old new : ServerEndSeen L)
    → TakesMore old.server → Gathers sent received old new → TakesMore new.server
takes_still sent received old new more g = subst TakesMore (sym g.same) more

module _ {L : Type 0} (sent received : L → Option (List ℕ)) where
  pub gathers_none : (s : ServerView) (link : L) (inlet : List ℕ) → IsOpen s.limit s.held
      → Gathers sent received (parts s link inlet) (parts s link inlet)
  gathers_none s link inlet still = record {
    acts = [];
    moves = nothing_done sent received (parts s link inlet);
    same = ap (λ (b : List ℕ). record s { held = b }) (sym (append-nil s.held));
    still = subst (IsOpen s.limit) (sym (append-nil s.held)) still;
  }

  -- bytes came
  pub gathers_came : (old mid : ServerEndSeen L) (link : L) (inlet more : List ℕ) → Gathers sent received old mid
      → Keeps (sent mid.link) (sent link) → Appends (received mid.link) (received link) more → inlet ≡ mid.inlet ++ more
      → Gathers sent received old (parts mid.server link inlet)
  gathers_came old mid link inlet more g kept grew held = record {
    acts = g.acts;
    moves = subst (λ (acts : List ServerAct). ServerEndMoves sent received old acts (parts mid.server link inlet))
        (append-nil g.acts)
        (end_moves_on sent received old mid (parts mid.server link inlet) g.acts [] g.moves
        (only_came sent received mid (parts mid.server link inlet) more refl kept grew held));
    same = g.same;
    still = g.still;
  }

  -- what the server stands with once it was fed
  pub record Stands (found : ReaderState) (old new : ServerEndSeen L) : Type 0 where
    pub acts : List ServerAct
    pub moves : ServerEndMoves sent received old acts new
    pub stands : StandsAt old.server.limit (so_far old.server acts) found
    pub is : new.server ≡ holding old.server (so_far old.server acts) found

  front_bytes : (there bytes left : List ℕ) → there ≡ bytes ++ left → IsBytes there → IsBytes bytes
  front_bytes there bytes left are is =
      subst IsBytes (ap (take (length bytes)) are ∙ take-append_seam bytes left) (IsBytes-take (length bytes) there is)

  pub left_bytes : (found : ReaderState) (s s' : ServerView) (there left : List ℕ) → IsFedAs found s there s' left → IsBytes there → IsBytes left
  left_bytes found s s' there left f are =
      subst IsBytes (ap (drop (length f.bytes)) f.parts ∙ drop-append_seam f.bytes left) (IsBytes-drop (length f.bytes) there are)

  pub fed_on : (found : ReaderState) (old : ServerEndSeen L) (s s' : ServerView) (link : L) (there left : List ℕ)
      → Gathers sent received old (parts s link there) → IsFedAs found s there s' left → IsBytes there
      → Stands found old (parts s' link left)
  fed_on found old s s' link there left g f are = record {
    acts = g.acts ++ TakesUp f.bytes ∷ [];
    moves = end_moves_on sent received old (parts s link there) (parts s' link left) g.acts (TakesUp f.bytes ∷ []) g.moves
        (took_some sent received s s' link there left f.bytes f.takes f.parts (front_bytes there f.bytes left f.parts are));
    stands = subst (λ (n : ℕ). StandsAt n (so_far old.server (g.acts ++ TakesUp f.bytes ∷ [])) found) limit
        (subst (λ (b : List ℕ). StandsAt s.limit b found) held f.stands);
    is = f.is ∙ ap (λ (b : List ℕ). holding s b found) held
        ∙ ap (λ (z : ServerView). holding z (so_far old.server (g.acts ++ TakesUp f.bytes ∷ [])) found) g.same
        ∙ holding_on found old.server (so_far old.server g.acts) (so_far old.server (g.acts ++ TakesUp f.bytes ∷ []));
  }
    where
      limit : s.limit ≡ old.server.limit
      limit = ap (λ (z : ServerView). z.limit) g.same

      held : s.held ++ f.bytes ≡ so_far old.server (g.acts ++ TakesUp f.bytes ∷ [])
      held = ap (λ (z : ServerView). z.held ++ f.bytes) g.same ∙ sym (took_one old.server g.acts f.bytes)

  pub gathers_fed : (old new : ServerEndSeen L) → Stands Need old new → Gathers sent received old new
  gathers_fed old new t = record { acts = t.acts; moves = t.moves; same = t.is; still = t.stands }

  -- ---- what came of it

  module _ (ends : L → ℕ) where
    abbrev Comes : Result NextRequest RequestFault → ServerEndSeen L → ServerEndSeen L → Type 0
    Comes result old new = (acts : List ServerAct) × ServerEndMoves sent received old acts new
        × RequestComes ends result (so_far old.server acts) old new

    pub still_holds : (old new : ServerEndSeen L) → TakesMore old.server → (g : Gathers sent received old new)
        → ends new.link ≡ ends old.link → StillHolds ends (so_far old.server g.acts) old new
    still_holds old new more g told = record { takes = more; is_open = g.still; same = g.same; told = told }

    pub comes_whole : (old new : ServerEndSeen L) → TakesMore old.server → Stands Ready old new
        → ends new.link ≡ ends old.link → Comes (Ok Waits) old new
    comes_whole old new more t told = (t.acts, t.moves, (more, t.stands, t.is, told))

    pub comes_bad : (fault : MsgFault) (old new : ServerEndSeen L) → TakesMore old.server → Stands (Bad fault) old new
        → IsBytes new.inlet → ends new.link ≡ ends old.link → Comes (Err (faults.Closed (Message fault))) old new
    comes_bad fault old new more t are told = (t.acts, t.moves, inr (more, (t.stands, are, t.is, told)))

    closes : (bytes : List ℕ) (cause : ServerCause) (old new : ServerEndSeen L) → IsOpen old.server.limit bytes
        → cause ≡ end_cause bytes → new.inlet ≡ []
        → new.server ≡ record (old.server) { held = bytes; state = Closed (end_cause bytes) }
        → Rose (ends old.link) (ends new.link) → Closes ends cause bytes old new
    closes [] cause old new still is none same told =
        subst (λ (c : ServerCause). Closes ends c [] old new) (sym is) (still, refl, none, same, told)
    closes (b ∷ bytes) cause old new still is none same told =
        subst (λ (c : ServerCause). Closes ends c (b ∷ bytes) old new) (sym is) (still, refl, none, same, told)

    pub comes_end : (old : ServerEndSeen L) (s s' : ServerView) (link : L) (inlet : List ℕ) (cause : ServerCause)
        → TakesMore old.server → Gathers sent received old (parts s link inlet) → inlet ≡ []
        → s' ≡ ended_server s → s'.state ≡ Closed cause → Rose (ends old.link) (ends link)
        → Comes (Err (faults.Closed cause)) old (parts s' link inlet)
    comes_end old s s' link inlet cause more g none is shut told = (
      g.acts ++ EndsUp ∷ [],
      end_moves_on sent received old (parts s link inlet) (parts s' link inlet) g.acts (EndsUp ∷ []) g.moves
          (was_ended sent received s s' link inlet is),
      inr (
        more,
        subst (λ (b : List ℕ). Closes ends cause b old (parts s' link inlet)) (sym (took_none old.server g.acts))
            (closes bytes cause old (parts s' link inlet) g.still for none after told),
      ),
    )
      where
        bytes : List ℕ
        bytes = so_far old.server g.acts

        after : s' ≡ record (old.server) { held = bytes; state = Closed (end_cause bytes) }
        after = is ∙ ap ended_server g.same
            ∙ ap (λ (z : ServerState). record (old.server) { held = bytes; state = closed_for (end_cause bytes) z }) more.0

        for : cause ≡ end_cause bytes
        for = let is_so : Closed cause ≡ Closed (end_cause bytes) = sym shut ∙ ap (λ (z : ServerView). z.state) after in cc

    -- memory is wanting for a message whose header came
    whole_header : (limit : ℕ) (held bytes inlet : List ℕ) (n : ℕ) → held ≡ bytes → n ≡ limit
        → CompletesHeader n held inlet → HasGoodHeader limit (bytes ++ inlet)
    whole_header limit held bytes inlet n is same x =
        subst (λ (b : List ℕ). HasGoodHeader limit (b ++ inlet)) is
        (subst (λ (k : ℕ). HasGoodHeader k (held ++ inlet)) same (x.after, x.good))

    pub comes_refused : (old : ServerEndSeen L) (s s' : ServerView) (link : L) (inlet : List ℕ) → TakesMore old.server
        → Gathers sent received old (parts s link inlet) → s' ≡ s → CompletesHeader s.limit s.held inlet
        → ends link ≡ ends old.link → Comes (Err faults.OutOfMemory) old (parts s' link inlet)
    comes_refused old s s' link inlet more g same x told =
        subst (λ (z : ServerView). Comes (Err faults.OutOfMemory) old (parts z link inlet)) (sym same) (
          g.acts,
          g.moves,
          (
            still_holds old (parts s link inlet) more g told,
            whole_header old.server.limit s.held (so_far old.server g.acts) inlet s.limit (ap (λ (z : ServerView). z.held) g.same)
                (ap (λ (z : ServerView). z.limit) g.same) x,
          ),
        )

    pub comes_cut : (fault : LinkFault) (old new : ServerEndSeen L) → TakesMore old.server → Gathers sent received old new
        → ends new.link ≡ ends old.link → Comes (Err (faults.Link fault)) old new
    comes_cut fault old new more g told = (g.acts, g.moves, still_holds old new more g told)

  -- the calls of the link up to a pull
  pub turned : (turns : L → Option (List Turn)) (old now : ServerEndSeen L) (link : L) → Gathers sent received old now
      → Keeps (sent old.link) (sent now.link)
      → ((ts : List Turn) × AddsTurns (turns old.link) (turns now.link) ts
      × AreBetween old.server.limit (received old.link) (sent old.link) (old.server.held ++ old.inlet) ts)
      → (now.inlet ≢ [] → turns link ≡ turns now.link)
      → (now.inlet ≡ [] → AddsTurns (turns now.link) (turns link) (record { received = received now.link; sent = sent now.link } ∷ []))
      → (ts : List Turn) × AddsTurns (turns old.link) (turns link) ts
      × AreBetween old.server.limit (received old.link) (sent old.link) (old.server.held ++ old.inlet) ts
  turned turns old now link g kept were stays turn =
      pulled_turns old.server.limit (turns old.link) (turns now.link) (turns link) (received old.link) (received now.link) (sent old.link) (sent now.link)
      now.server.held now.inlet (old.server.held ++ old.inlet) g.moves.bytes.came were.0 were.1 were.2 g.moves.bytes.receives (stood sent received old now g) kept
      (held_open sent received old now g) stays turn
