-- Servers that are made one after the other, as connections come, are as if all were there from the start.
use Rattle.std.proofs.Common.{◌≡◌, ℕ, zero, suc, ◌+◌, List, [], ◌∷◌, ◌++◌, length, refl, sym, ◌∙◌, ap, subst, append_assoc, arith, Some}
use Rattle.std.specs.Prelude.{slice_get, slice_set}
use Rattle.std.proofs.lemmas.List.{append-nil}
use Rattle.std.proofs.lemmas.Option.{none-some}
use Rattle.wire_peer.specs.{Does, ServerView, Stops, new_server}
use Rattle.wire_model.proofs.Places.{length-push, length-slice_set}
use Rattle.wire_model.specs.Owners.{Made, ServerEnds, first_servers, first_servers_of, server_at, server_set}
use Rattle.wire_model.specs.Deeds.{AtClient, AtServer, Is, Opens, ServersGrow, ServersRun, Turn, deeds_of, opened, opened_in, server_turns}

get_front : {A : Type 0} (xs more : List A) (i : ℕ) (x : A) → slice_get xs i ≡ Some x
    → slice_get (xs ++ more) i ≡ Some x
get_front [] more i x at = absurd (none-some x at)
get_front (a ∷ xs) more zero x at = at
get_front (a ∷ xs) more (suc i) x at = get_front xs more i x at

set_front : {A : Type 0} (xs more : List A) (i : ℕ) (x y : A) → slice_get xs i ≡ Some x
    → slice_set xs i y ++ more ≡ slice_set (xs ++ more) i y
set_front [] more i x y at = absurd (none-some x at)
set_front (a ∷ xs) more zero x y at = refl
set_front (a ∷ xs) more (suc i) x y at = ap (λ z. a ∷ z) (set_front xs more i x y at)

at_front : (ss more : List ServerView) (c : ℕ) (s : ServerView) → server_at ss c ≡ Some s
    → server_at (ss ++ more) c ≡ Some s
at_front ss more zero s at = absurd (none-some s at)
at_front ss more (suc i) s at = get_front ss more i s at

put_front : (ss more : List ServerView) (c : ℕ) (s t : ServerView) → server_at ss c ≡ Some s
    → server_set ss c t ++ more ≡ server_set (ss ++ more) c t
put_front ss more zero s t at = absurd (none-some s at)
put_front ss more (suc i) s t at = set_front ss more i s t at

set_length : (ss : List ServerView) (c : ℕ) (t : ServerView) → length (server_set ss c t) ≡ length
    ss
set_length ss zero t = refl
set_length ss (suc i) t = length-slice_set ss i t

-- one more server is made, and any of them is another one
pub grown_length : {H : Type 0} (limit : ℕ) (made : ℕ → Made) (mid : ServerEnds H) (c : ℕ)
    (s : ServerView)
    → length (server_set (opened limit made mid).servers c s) ≡ suc (length mid.servers)
grown_length limit made mid c s =
    set_length (opened limit made mid).servers c s
    ∙ length-push mid.servers (new_server (suc (length mid.servers)) (made (suc (length mid.servers))).server_window limit)

module _ (H : Type 0) (does : Does H) (stops : Stops H) (limit : ℕ) (made : ℕ → Made) where
  -- m servers, from the one after n on
  abbrev later : ℕ → ℕ → List ServerView
  later n zero = []
  later n (suc m) = new_server (suc n) (made (suc n)).server_window limit ∷ later (suc n) m

  abbrev filled : ServerEnds H → ℕ → ℕ → ServerEnds H
  filled old n m = record {
    servers = old.servers ++ later n m;
    log = old.log;
    handler =
        old.handler;
  }

  first_later : (n m : ℕ)
      → first_servers limit made n ++ later n m ≡ first_servers limit made (n + m)
  first_later n zero =
      let same : n ≡ n + zero = omega arith in
      append-nil (first_servers limit made n) ∙ ap (first_servers limit made) same
  first_later n (suc m) =
      let same : suc n + m ≡ n + suc m = omega arith in
      sym (append_assoc (first_servers limit made n)
      (new_server (suc n) (made (suc n)).server_window limit ∷ []) (later (suc n) m))
      ∙ first_later (suc n) m ∙ ap (first_servers limit made) same

  grow : (turns : List Turn) (old new : ServerEnds H) (n : ℕ) → length old.servers ≡ n
      → ServersGrow does stops limit made old turns new
      → ServersRun does stops (filled old n (opened_in turns)) (deeds_of turns) new
  grow [] old new n many same =
      same ∙ ap (λ ss. record { servers = ss; log = old.log; handler = old.handler })
      (sym (append-nil old.servers))
  grow (Opens ∷ turns) old new n many run =
      subst (λ (z : ServerEnds H). ServersRun does stops z (deeds_of turns) new)
      (ap (λ ss. record { servers = ss; log = old.log; handler = old.handler })
      (append_assoc old.servers (next (length old.servers) ∷ []) (later (suc n) (opened_in turns))
      ∙ ap (λ k. old.servers ++ next k ∷ later (suc n) (opened_in turns)) many))
      (grow turns (opened limit made old) new (suc n)
      (length-push old.servers (next (length old.servers)) ∙ ap suc many) run)
    where
      next : ℕ → ServerView
      next k = new_server (suc k) (made (suc k)).server_window limit
  grow (Is (AtClient c act) ∷ turns) old new n many run = grow turns old new n many run
  grow (Is (AtServer c act) ∷ turns) old new n many (mid, a, run) = (
    filled mid n (opened_in turns),
    record {
      s = a.s;
      at = at_front old.servers (later n (opened_in turns)) c a.s a.at;
      s' = a.s';
      does_ = a.does_;
      after = ap (λ ss. ss ++ later n (opened_in turns)) a.after
          ∙ put_front old.servers (later n (opened_in turns)) c a.s a.s' a.at;
    },
    grow turns mid new n (ap length a.after ∙ set_length old.servers c a.s' ∙ many) run,
  )

  pub grown : (first : H) (turns : List Turn) (new : ServerEnds H)
      → ServersGrow does stops limit made (first_servers_of limit made 0 first) turns new
      → ServersRun does stops (first_servers_of limit made (opened_in turns) first)
      (deeds_of turns) new
  grown first turns new run =
      let none : 0 + opened_in turns ≡ opened_in turns = omega arith in
      subst (λ ss. ServersRun does stops (record { servers = ss; log = []; handler = first })
      (deeds_of turns) new)
      (first_later 0 (opened_in turns) ∙ ap (first_servers limit made) none)
      (grow turns (first_servers_of limit made 0 first) new 0 refl run)

  -- what was done at the clients meanwhile changes nothing
  pub grown_beside : (turns : List Turn) (old new : ServerEnds H)
      → ServersGrow does stops limit made old (server_turns turns) new
      → ServersGrow does stops limit made old turns new
  grown_beside [] old new run = run
  grown_beside (Opens ∷ turns) old new run = grown_beside turns (opened limit made old) new run
  grown_beside (Is (AtClient c act) ∷ turns) old new run = grown_beside turns old new run
  grown_beside (Is (AtServer c act) ∷ turns) old new (mid, a, run) =
      (mid, a, grown_beside turns mid new run)
