-- What is done with one server is done with all of them.
use Rattle.std.proofs.Common.{◌≡◌, ℕ, zero, suc, List, [], ◌∷◌, ◌++◌, length, map, refl, sym, ◌∙◌, ap, subst, append_assoc, Some}
use Rattle.std.specs.Prelude.{slice_get, slice_set}
use Rattle.std.proofs.lemmas.Option.{same_Some}
use Rattle.wire_peer.specs.{Does, LogEntry, ServerView, Stops, new_server}
use Rattle.wire_model.proofs.Lists.{get-push_new}
use Rattle.wire_model.specs.Owners.{Answers, EndsUp, Made, SendsDown, ServerAct, ServerDoes, ServerEnd, ServerEnds, ServerMoves, ServerMovesOn, ServerRun, TakesUp, among, bytes_sent_down, bytes_taken_up, sent_down_by, server_at, server_set, taken_up_by}
use Rattle.wire_model.specs.Deeds.{AtClient, AtServer, Deed, Is, Opens, ServersGrow, ServersRun, Turn, at_server, opened, served_turns}
use Rattle.wire_model.proofs.Fits.{server_set-same}

-- ---- one server

pub moves_on : (acts more : List ServerAct) (old mid new : ServerView) → ServerMovesOn old acts mid
    → ServerMovesOn mid more new → ServerMovesOn old (acts ++ more) new
moves_on [] more old mid new same run = subst (λ z. ServerMovesOn z more new) same run
moves_on (act ∷ acts) more old mid new (next, one, rest) run =
    (next, one, moves_on acts more next mid new rest run)

pub sent_down_on : (acts more : List ServerAct)
    → bytes_sent_down (acts ++ more) ≡ bytes_sent_down acts ++ bytes_sent_down more
sent_down_on [] more = refl
sent_down_on (act ∷ acts) more =
    ap (λ z. sent_down_by act ++ z) (sent_down_on acts more)
    ∙ sym (append_assoc (sent_down_by act) (bytes_sent_down acts) (bytes_sent_down more))

pub taken_up_on : (acts more : List ServerAct)
    → bytes_taken_up (acts ++ more) ≡ bytes_taken_up acts ++ bytes_taken_up more
taken_up_on [] more = refl
taken_up_on (act ∷ acts) more =
    ap (λ z. taken_up_by act ++ z) (taken_up_on acts more)
    ∙ sym (append_assoc (taken_up_by act) (bytes_taken_up acts) (bytes_taken_up more))

module _ {H : Type 0} (does : Does H) (stops : Stops H) where
  pub server_on : (acts more : List ServerAct) (old mid new : ServerEnd H)
      → ServerRun does stops old acts mid → ServerRun does stops mid more new
      → ServerRun does stops old (acts ++ more) new
  server_on [] more old mid new same run = subst (λ z. ServerRun does stops z more new) same run
  server_on (act ∷ acts) more old mid new (next, one, rest) run =
      (next, one, server_on acts more next mid new rest run)

  abbrev with_log : ServerView → List LogEntry → H → ServerEnd H
  with_log s log h = record { server = s; log = log; handler = h }

  moved : (act : ServerAct) (s s' : ServerView) (log : List LogEntry) (h : H) → ServerMoves act s s'
      → ServerDoes does stops act s log h s' log h
  moved (TakesUp bytes) s s' log h m = (m, refl, refl)
  moved (Answers i result) s s' log h m = absurd m
  moved (SendsDown bytes) s s' log h m = (m, refl, refl)
  moved EndsUp s s' log h m = (m, refl, refl)

  -- what a server does by itself is a run with any log and handler
  pub moves_run : (acts : List ServerAct) (s s' : ServerView) (log : List LogEntry) (h : H)
      → ServerMovesOn s acts s' → ServerRun does stops (with_log s log h) acts (with_log s' log h)
  moves_run [] s s' log h same = ap (λ z. with_log z log h) same
  moves_run (act ∷ acts) s s' log h (mid, one, rest) =
      (with_log mid log h, moved act s mid log h one, moves_run acts mid s' log h rest)

  -- ---- among others

  set-own : {A : Type 0} (xs : List A) (i : ℕ) (x : A) → slice_get xs i ≡ Some x
      → slice_set xs i x ≡ xs
  set-own [] i x at = refl
  set-own (a ∷ xs) zero x at = ap (λ z. z ∷ xs) (sym (same_Some a x at))
  set-own (a ∷ xs) (suc i) x at = ap (λ z. a ∷ z) (set-own xs i x at)

  set-twice : {A : Type 0} (xs : List A) (i : ℕ) (x y : A)
      → slice_set (slice_set xs i x) i y ≡ slice_set xs i y
  set-twice [] i x y = refl
  set-twice (a ∷ xs) zero x y = refl
  set-twice (a ∷ xs) (suc i) x y = ap (λ z. a ∷ z) (set-twice xs i x y)

  server_set-own : (ss : List ServerView) (c : ℕ) (s : ServerView) → server_at ss c ≡ Some s
      → server_set ss c s ≡ ss
  server_set-own ss zero s at = refl
  server_set-own ss (suc i) s at = set-own ss i s at

  server_set-twice : (ss : List ServerView) (c : ℕ) (s t : ServerView)
      → server_set (server_set ss c s) c t ≡ server_set ss c t
  server_set-twice ss zero s t = refl
  server_set-twice ss (suc i) s t = set-twice ss i s t

  pub run_among : (acts : List ServerAct) (c : ℕ) (ss : List ServerView) (old new : ServerEnd H)
      → server_at ss c ≡ Some old.server → ServerRun does stops old acts new
      → ServersRun does stops (among ss old) (at_server c acts)
      (among (server_set ss c new.server) new)
  run_among [] c ss old new at same =
      ap (λ (e : ServerEnd H). among (server_set ss c e.server) e) same
      ∙ ap (λ (zs : List ServerView). among zs old) (server_set-own ss c old.server at)
  run_among (act ∷ acts) c ss old new at (mid, one, rest) =
      let ss' : List ServerView = server_set ss c mid.server in (
        among ss' mid,
        record { s = old.server; at = at; s' = mid.server; does_ = one; after = refl },
        subst (λ (zs : List ServerView). ServersRun does stops (among ss' mid) (at_server c acts) (among zs new))
            (server_set-twice ss c mid.server new.server)
            (run_among acts c ss' mid new (server_set-same ss c old.server mid.server at) rest),
      )

  -- ---- servers that are made one after the other

  module _ (limit : ℕ) (made : ℕ → Made) where
    pub grows_on : (turns more : List Turn) (old mid new : ServerEnds H)
        → ServersGrow does stops limit made old turns mid
        → ServersGrow does stops limit made mid more new
        → ServersGrow does stops limit made old (turns ++ more) new
    grows_on [] more old mid new same run =
        subst (λ z. ServersGrow does stops limit made z more new) same run
    grows_on (Opens ∷ turns) more old mid new rest run =
        grows_on turns more (opened limit made old) mid new rest run
    grows_on (Is (AtClient c act) ∷ turns) more old mid new rest run =
        grows_on turns more old mid new rest run
    grows_on (Is (AtServer c act) ∷ turns) more old mid new (next, one, rest) run =
        (next, one, grows_on turns more next mid new rest run)

    pub run_grows : (deeds : List Deed) (old new : ServerEnds H) → ServersRun does stops old deeds new
        → ServersGrow does stops limit made old (map Is deeds) new
    run_grows [] old new same = same
    run_grows (AtClient c act ∷ deeds) old new rest = run_grows deeds old new rest
    run_grows (AtServer c act ∷ deeds) old new (mid, one, rest) =
        (mid, one, run_grows deeds mid new rest)

    -- the server that is made next, when there are so many
    abbrev next : ℕ → ServerView
    next n = new_server (suc n) (made (suc n)).server_window limit

    pub one_more : (turns : List Turn) (acts : List ServerAct) (old mid : ServerEnds H)
        (new : ServerEnd H) → ServersGrow does stops limit made old turns mid
        → ServerRun does stops (with_log (next (length mid.servers)) mid.log mid.handler) acts new
        → ServersGrow does stops limit made old
        (turns ++ served_turns (suc (length mid.servers)) acts)
        (among (server_set (opened limit made mid).servers (suc (length mid.servers)) new.server) new)
    one_more turns acts old mid new grown run =
        let c : ℕ = suc (length mid.servers) in
        let from : ServerEnd H = with_log (next (length mid.servers)) mid.log mid.handler in
        grows_on turns (served_turns c acts) old mid
        (among (server_set (opened limit made mid).servers c new.server) new) grown
        (run_grows (at_server c acts) (opened limit made mid)
        (among (server_set (opened limit made mid).servers c new.server) new)
        (run_among acts c (opened limit made mid).servers from new
        (get-push_new mid.servers (next (length mid.servers))) run))
