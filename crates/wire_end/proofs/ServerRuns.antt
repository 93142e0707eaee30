-- What a server's end did, and what it did from there on.
use Rattle.std.proofs.Common.{◌≡◌, ℕ, List, [], ◌∷◌, ◌++◌, Option, ap, arith, refl, sym, subst, ◌∙◌, append_assoc, append-nil}
use Rattle.std.specs.Prelude.{Result}
use Rattle.std.specs.Io.KnownBytes.{Appends, Keeps}
use Rattle.std.proofs.KnownBytes.{Appends-kept, Appends-nil, Appends-trans}
use Rattle.std.proofs.lemmas.Grind.{common_steps}
use Rattle.bson_elem.specs.{IsBytes}
use Rattle.wire_msg.proofs.Lemmas.{bytes_append}
use Rattle.wire_model.proofs.Lemmas.{log_contents, moves_on, moves_run, sent_down_on, server_on, taken_up_on}
use Rattle.wire_model.specs.{ServerAct, ServerTakes, bytes_sent_down, bytes_taken_up, ended_server, with_server_output}
use Rattle.wire_peer.specs.{AnswerStep, Does, ServerView, Stops, log_of}
use Rattle.wire_peer.specs.declared.log.Logged.{Logged}
use Rattle.wire_peer.specs.declared.server_state.AnswerRefusal.{AnswerRefusal}
use Rattle.wire_model.specs.Owners.{Answers, EndsUp, SendsDown, TakesUp}
use Rattle.wire_end.specs.ServerEnds.{GoesOver, ServerEndMoves, ServerEndRuns, ServerEndSeen, parts, with_logged}

pub no_bytes : IsBytes []
no_bytes = λ i. grind (arith, common_steps)

module _ {L : Type 0} (sent received : L → Option (List ℕ)) where
  goes_on : (old mid new : ServerEndSeen L) (acts more : List ServerAct) → GoesOver sent received old acts mid
      → GoesOver sent received mid more new → GoesOver sent received old (acts ++ more) new
  goes_on old mid new acts more r s = record {
    sends = subst (Appends (sent old.link) (sent new.link)) (sym (sent_down_on acts more))
        (Appends-trans (sent old.link) (sent mid.link) (sent new.link) (bytes_sent_down acts)
        (bytes_sent_down more) r.sends s.sends);
    came = r.came ++ s.came;
    receives = Appends-trans (received old.link) (received mid.link) (received new.link) r.came s.came
        r.receives s.receives;
    taken = sym (append_assoc old.inlet r.came s.came)
        ∙ ap (λ (x : List ℕ). x ++ s.came) r.taken
        ∙ append_assoc (bytes_taken_up acts) mid.inlet s.came
        ∙ ap (λ (x : List ℕ). bytes_taken_up acts ++ x) s.taken
        ∙ sym (append_assoc (bytes_taken_up acts) (bytes_taken_up more) new.inlet)
        ∙ ap (λ (x : List ℕ). x ++ new.inlet) (sym (taken_up_on acts more));
    are_bytes = subst IsBytes (sym (taken_up_on acts more))
        (bytes_append (bytes_taken_up acts) (bytes_taken_up more) r.are_bytes s.are_bytes);
  }

  pub end_moves_on : (old mid new : ServerEndSeen L) (acts more : List ServerAct)
      → ServerEndMoves sent received old acts mid → ServerEndMoves sent received mid more new
      → ServerEndMoves sent received old (acts ++ more) new
  end_moves_on old mid new acts more r s = record {
    moves = moves_on acts more old.server mid.server new.server r.moves s.moves;
    bytes = goes_on old mid new acts more r.bytes s.bytes;
  }

  -- ---- no act, and one

  -- bytes may have come, and nothing else happened
  pub only_came : (old new : ServerEndSeen L) (more : List ℕ) → new.server ≡ old.server
      → Keeps (sent old.link) (sent new.link) → Appends (received old.link) (received new.link) more
      → new.inlet ≡ old.inlet ++ more → ServerEndMoves sent received old [] new
  only_came old new more same kept grew held = record {
    moves = same;
    bytes = record {
      sends = Appends-kept (sent old.link) (sent old.link) (sent new.link) [] (Appends-nil (sent old.link)) kept;
      came = more;
      receives = grew;
      taken = sym held;
      are_bytes = no_bytes;
    };
  }

  pub nothing_done : (e : ServerEndSeen L) → ServerEndMoves sent received e [] e
  nothing_done e = record {
    moves = refl;
    bytes = record {
      sends = Appends-nil (sent e.link);
      came = [];
      receives = Appends-nil (received e.link);
      taken = append-nil e.inlet;
      are_bytes = no_bytes;
    };
  }

  pub took_some : (s s' : ServerView) (link : L) (inlet left bytes : List ℕ) → ServerTakes s bytes s'
      → inlet ≡ bytes ++ left → IsBytes bytes
      → ServerEndMoves sent received (parts s link inlet) (TakesUp bytes ∷ []) (parts s' link left)
  took_some s s' link inlet left bytes takes are is = record {
    moves = (s', takes, refl);
    bytes = record {
      sends = Appends-nil (sent link);
      came = [];
      receives = Appends-nil (received link);
      taken = append-nil inlet ∙ are ∙ ap (λ (x : List ℕ). x ++ left) (sym (append-nil bytes));
      are_bytes = subst IsBytes (sym (append-nil bytes)) is;
    };
  }

  pub was_ended : (s s' : ServerView) (link : L) (inlet : List ℕ) → s' ≡ ended_server s
      → ServerEndMoves sent received (parts s link inlet) (EndsUp ∷ []) (parts s' link inlet)
  was_ended s s' link inlet is = record {
    moves = (s', is, refl);
    bytes = record {
      sends = Appends-nil (sent link);
      came = [];
      receives = Appends-nil (received link);
      taken = append-nil inlet;
      are_bytes = no_bytes;
    };
  }

  pub was_sent : (s s' : ServerView) (link link' : L) (inlet gone : List ℕ) → s.output ≡ gone ++ s'.output
      → s' ≡ with_server_output s s'.output → Appends (sent link) (sent link') gone
      → Keeps (received link) (received link')
      → ServerEndMoves sent received (parts s link inlet) (SendsDown gone ∷ []) (parts s' link' inlet)
  was_sent s s' link link' inlet gone are is went kept = record {
    moves = (s', (s'.output, are, is), refl);
    bytes = record {
      sends = subst (Appends (sent link) (sent link')) (sym (append-nil gone)) went;
      came = [];
      receives = Appends-kept (received link) (received link) (received link') []
          (Appends-nil (received link)) kept;
      taken = append-nil inlet;
      are_bytes = no_bytes;
    };
  }

  -- ---- with a handler and its log

  module _ {H : Type 0} (does : Does H) (stops : Stops H) where
    pub end_runs_on : (old mid new : ServerEndSeen L) (a b c : Logged H) (acts more : List ServerAct)
        → ServerEndRuns does stops sent received old a acts mid b
        → ServerEndRuns does stops sent received mid b more new c
        → ServerEndRuns does stops sent received old a (acts ++ more) new c
    end_runs_on old mid new a b c acts more r s = record {
      run = server_on does stops acts more (with_logged old.server a) (with_logged mid.server b)
          (with_logged new.server c) r.run s.run;
      bytes = goes_on old mid new acts more r.bytes s.bytes;
    }

    -- what the end did by itself is a run with any handler and its log, which stay
    pub moves_runs : (old new : ServerEndSeen L) (acts : List ServerAct) (l : Logged H)
        → ServerEndMoves sent received old acts new
        → ServerEndRuns does stops sent received old l acts new l
    moves_runs old new acts l m = record {
      run = moves_run does stops acts old.server new.server (log_of l.entries.items) l.handler m.moves;
      bytes = m.bytes;
    }

    pub was_answered : (s s' : ServerView) (link : L) (inlet : List ℕ) (k : ℕ)
        (result : Result ℕ AnswerRefusal) (a b : Logged H)
        → AnswerStep does stops k result s a.handler (log_of a.entries.items) s' b.handler
        (log_of b.entries.items)
        → ServerEndRuns does stops sent received (parts s link inlet) a (Answers k result ∷ [])
        (parts s' link inlet) b
    was_answered s s' link inlet k result a b step = record {
      run = (with_logged s' b, (step, log_contents b.entries.items), refl);
      bytes = record {
        sends = Appends-nil (sent link);
        came = [];
        receives = Appends-nil (received link);
        taken = append-nil inlet;
        are_bytes = no_bytes;
      };
    }
