-- What answering the only request that waits came to, by what the end of the server did.
use Rattle.std.proofs.Common.{◌≡◌, ℕ, List, [], ◌∷◌, ◌++◌, Option, Result, Ok, Err, ap, sym, subst, ◌∙◌, append-nil}
use Rattle.std.specs.Io.KnownBytes.{Appends}
use Rattle.std.proofs.KnownBytes.{Appends-nil}
use Rattle.wire_msg.specs.{Message, SpellsMsg}
use Rattle.wire_stream.specs.{Turn}
use Rattle.wire_peer.specs.{AnswerStep, Does, Stops, log_of}
use Rattle.wire_peer.specs.declared.log.Logged.{Logged}
use Rattle.wire_peer.specs.declared.server_state.AnswerRefusal.{AnswerRefusal}
use Rattle.wire_peer.specs.declared.server_state.ServerState.TheVariants.{Open}
use Rattle.wire_model.specs.{ServerAct}
use Rattle.wire_model.specs.Owners.{Answers, SendsDown}
use Rattle.wire_end.specs.Answering.{AnswersAs, SentPart, StandsAfter, WaitsAlone, end_of}
use Rattle.wire_end.specs.ServerEnds.{ServerEndMoves, ServerEndRuns, ServerEndSeen, with_logged}
use Rattle.wire_end.specs.Serving.{Seen, seen}
use Rattle.wire_end.proofs.OneAnswer.{answered_open, flushed, no_replies, refused_stands, replies_cut, replies_sent, step_of}
use Rattle.wire_end.proofs.ServerRuns.{end_runs_on, moves_runs}

module _ {H L : Type 0} (does : Does H) (stops : Stops H) (received sent : L → Option (List ℕ)) (turns : L → Option (List Turn)) (failures ends waits : L → ℕ) where
  abbrev at : Logged H → ServerEndSeen L → Seen H
  at logged e = seen received sent turns failures ends waits logged e.link

  answer_step : (old mid : ServerEndSeen L) (from to : Logged H) (result : Result ℕ AnswerRefusal) → ServerEndRuns does stops sent received old from (Answers 0 result ∷ []) mid to
      → AnswerStep does stops 0 result old.server from.handler (log_of from.entries.items) mid.server to.handler (log_of to.entries.items)
  answer_step old mid from to result r = step_of does stops 0 result (with_logged old.server from) (with_logged mid.server to) r.run

  -- no replies were put out
  pub was_refused : (old mid : ServerEndSeen L) (from to : Logged H) (refusal : AnswerRefusal) → ServerEndRuns does stops sent received old from (Answers 0 (Err refusal) ∷ []) mid to
      → mid.link ≡ old.link → (request : List ℕ) → WaitsAlone old.server request
      → (m : Message) × SpellsMsg m request × AnswersAs does stops old.server.connection old.server.limit m (Err (end_of refusal)) old.server.next_id mid.server.next_id (at from old) (at to mid)
  was_refused old mid from to refusal r stays request alone =
      no_replies does stops refusal old.server mid.server request mid.server.next_id (at from old) (at to mid) alone.is_open alone.one alone.whole (answer_step old mid from to (Err refusal) r)
      (ap failures stays) (subst (λ l. Appends (sent old.link) (sent l) []) (sym stays) (Appends-nil (sent old.link)))

  -- how the server stands then
  pub stands_refused : (old mid : ServerEndSeen L) (from to : Logged H) (refusal : AnswerRefusal) → ServerEndRuns does stops sent received old from (Answers 0 (Err refusal) ∷ []) mid to
      → old.server.state ≡ Open → StandsAfter (end_of refusal) mid.server.state
  stands_refused old mid from to refusal r is_open = refused_stands does stops refusal old.server mid.server (at from old) (at to mid) is_open (answer_step old mid from to (Err refusal) r)

  module _ (n : ℕ) (old mid new : ServerEndSeen L) (from to : Logged H) (answered : ServerEndRuns does stops sent received old from (Answers 0 (Ok n) ∷ []) mid to) (stays : mid.link ≡ old.link)
      (gone : List ℕ) (moves : ServerEndMoves sent received mid (SendsDown gone ∷ []) new) where
    went : Appends (sent old.link) (sent new.link) gone
    went = subst (Appends (sent old.link) (sent new.link)) (append-nil gone) (subst (λ l. Appends (sent l) (sent new.link) (gone ++ [])) stays moves.bytes.sends)

    -- the end answered, and sent some of the replies
    pub answered_runs : (acts : List ServerAct) × ServerEndRuns does stops sent received old from acts new to
    answered_runs = (
      Answers 0 (Ok n) ∷ SendsDown gone ∷ [],
      end_runs_on sent received does stops old mid new from to to (Answers 0 (Ok n) ∷ []) (SendsDown gone ∷ []) answered
          (moves_runs sent received does stops mid new (SendsDown gone ∷ []) to moves),
    )

    -- all of them were sent
    pub were_sent : new.server.output ≡ [] → failures new.link ≡ failures mid.link → (request : List ℕ) → WaitsAlone old.server request
        → (m : Message) × SpellsMsg m request × AnswersAs does stops old.server.connection old.server.limit m (Ok tt) old.server.next_id new.server.next_id (at from old) (at to new)
    were_sent all works request alone =
        let f = flushed mid.server new.server gone moves.moves in
        replies_sent does stops n old.server mid.server new.server request gone (at from old) (at to new) alone.one (answer_step old mid from to (Ok n) answered) alone.sent went f.0 f.1 all
        (works ∙ ap failures stays)

    -- not all of them
    pub were_cut : (request : List ℕ) → WaitsAlone old.server request → (m : Message) × SpellsMsg m request × SentPart does stops old.server.connection m old.server.next_id (at from old) (at to new)
    were_cut request alone =
        let f = flushed mid.server new.server gone moves.moves in
        replies_cut does stops n old.server mid.server new.server request gone (at from old) (at to new) alone.one (answer_step old mid from to (Ok n) answered) alone.sent went f.0

    -- the server is open, however many of them were sent
    pub stays_open : old.server.state ≡ Open → new.server.state ≡ Open
    stays_open is_open =
        let f = flushed mid.server new.server gone moves.moves in
        answered_open does stops n old.server mid.server new.server (at from old) (at to new) is_open (answer_step old mid from to (Ok n) answered) f.1
