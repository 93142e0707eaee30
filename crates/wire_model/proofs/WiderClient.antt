-- A client, and one with a greater limit that does as it does.
use Rattle.std.proofs.Common.{◌≡◌, ◌≢◌, ℕ, zero, suc, ◌≤◌, ℤ, Bool, true, false, List, [], ◌∷◌, ◌++◌, length, take, map, refl, sym, ◌∙◌, ap, subst, arith, Option, Some, None, ◌⊎◌, inl, inr, Result, Ok, Err}
use Rattle.std.specs.Prelude.{slice_get, slice_set}
use Rattle.wire_msg.specs.{Content, Message}
use Rattle.wire_peer.specs.{ClientSeen, IsCalled, Settles, allowed, holding, owner, released}
use Rattle.wire_peer.specs.ClientSteps.{after_release, is_bad, is_message, is_open, received, state_after}
use Rattle.wire_peer.specs.declared.call_table.Outstanding.{Outstanding}
use Rattle.wire_peer.specs.declared.call_table.ReadyReply.{ReadyReply}
use Rattle.wire_peer.specs.declared.calls.CallKind.{CallKind}
use Rattle.wire_peer.specs.declared.calls.CallNo.{CallNo}
use Rattle.wire_peer.specs.declared.client_state.ClientCause.{ClientCause}
use Rattle.wire_peer.specs.declared.client_state.ClientCause.TheVariants as causes
use Rattle.wire_peer.specs.declared.client_state.ClientState.{ClientState}
use Rattle.wire_peer.specs.declared.client_state.ClientState.TheVariants.{Open, Closed}
use Rattle.wire_model.specs.Moves.{ClientTakes, put_at, put_part}
use Rattle.wire_model.specs.Machines.{Done, Foreign, Lost, Pending, Sent, State, lost_state}
use Rattle.wire_model.specs.Conns.{Record, given_record, lost_record}
use Rattle.wire_model.proofs.Wider.{bad_wider, no_more_wider, open_wider}

-- both are open, or both closed
abbrev pub BothOpen : ClientState → ClientState → Type 0
BothOpen Open Open = Unit {0}
BothOpen Open (Closed b) = ⊥
BothOpen (Closed a) Open = ⊥
BothOpen (Closed a) (Closed b) = Unit {0}

pub open_too : (s t : ClientState) → BothOpen s t → s ≡ Open → t ≡ Open
open_too Open Open a e = refl
open_too Open (Closed b) a e = absurd a
open_too (Closed a) t x e = absurd (let no_ : Closed a ≡ Open = e in cc)

pub both_open : (s t : ClientState) → s ≡ Open → t ≡ Open → BothOpen s t
both_open Open Open a b = tt
both_open Open (Closed d) a b = absurd (let no_ : Closed d ≡ Open = b in cc)
both_open (Closed c) t a b = absurd (let no_ : Closed c ≡ Open = a in cc)

pub both_ended : (s t : ClientState) (a b : ClientCause) → BothOpen s t
    → BothOpen (state_after s a) (state_after t b)
both_ended Open Open a b x = tt
both_ended Open (Closed d) a b x = absurd x
both_ended (Closed c) Open a b x = absurd x
both_ended (Closed c) (Closed d) a b x = tt

-- a client that is closed, and one that is told the end, are both closed
pub shut_ended : (s t : ClientState) (b : ClientCause) → s ≢ Open
    → BothOpen s (state_after t b)
shut_ended Open t b n = absurd (n refl)
shut_ended (Closed a) Open b n = tt
shut_ended (Closed a) (Closed d) b n = tt

-- ---- records

-- the record is the other one, or that one lost
abbrev pub Like : Record → Record → Type 0
Like x y = (y ≡ x) ⊎ (y ≡ lost_record x)

abbrev pub AreLike : List Record → List Record → Type 0
AreLike [] [] = Unit {0}
AreLike [] (y ∷ ys) = ⊥
AreLike (x ∷ xs) [] = ⊥
AreLike (x ∷ xs) (y ∷ ys) = Like x y × AreLike xs ys

pub like_last : (xs ys : List Record) (x : Record) → AreLike xs ys
    → AreLike (xs ++ x ∷ []) (ys ++ x ∷ [])
like_last [] [] x a = (inl refl, tt)
like_last [] (y ∷ ys) x a = absurd a
like_last (z ∷ xs) [] x a = absurd a
like_last (z ∷ xs) (y ∷ ys) x a = (a.0, like_last xs ys x a.1)

lost_twice : (s : State) → lost_state (lost_state s) ≡ lost_state s
lost_twice Pending = refl
lost_twice Done = refl
lost_twice Sent = refl
lost_twice Lost = refl
lost_twice Foreign = refl

abbrev with_state : Record → State → Record
with_state x s = record {
  connection = x.connection;
  asked = x.asked;
  parts = x.parts;
  state = s;
}

-- the other one is told the end, or both are
pub like_lost : (xs ys : List Record) → AreLike xs ys → AreLike xs (map lost_record ys)
like_lost [] [] a = tt
like_lost [] (y ∷ ys) a = absurd a
like_lost (x ∷ xs) [] a = absurd a
like_lost (x ∷ xs) (y ∷ ys) a = (
  inr (elim a.0 [
    | inl e ↦ ap lost_record e
    | inr e ↦ ap lost_record e ∙ ap (with_state x) (lost_twice x.state)
  ]),
  like_lost xs ys a.1,
)

pub both_lost : (xs ys : List Record) → AreLike xs ys
    → AreLike (map lost_record xs) (map lost_record ys)
both_lost [] [] a = tt
both_lost [] (y ∷ ys) a = absurd a
both_lost (x ∷ xs) [] a = absurd a
both_lost (x ∷ xs) (y ∷ ys) a = (
  inl (elim a.0 [
    | inl e ↦ ap lost_record e
    | inr e ↦ ap lost_record e ∙ ap (with_state x) (lost_twice x.state)
  ]),
  both_lost xs ys a.1,
)

like_given : (x y : Record) (part : Content) (last : Bool) → Like x y
    → Like (given_record x part last) (given_record y part last)
like_given x y part last (inl e) = inl (ap (λ z. given_record z part last) e)
like_given x y part true (inr e) = inl (ap (λ z. given_record z part true) e)
like_given x y part false (inr e) = inr (ap (λ z. given_record z part false) e)

abbrev LikeOf : Option Record → Option Record → Type 0
LikeOf None None = Unit {0}
LikeOf None (Some y) = ⊥
LikeOf (Some x) None = ⊥
LikeOf (Some x) (Some y) = Like x y

-- for each record of one list there is one in the other
pub like_at : (xs ys : List Record) (i : ℕ) → AreLike xs ys
    → LikeOf (slice_get xs i) (slice_get ys i)
like_at [] [] i a = tt
like_at [] (y ∷ ys) i a = absurd a
like_at (x ∷ xs) [] i a = absurd a
like_at (x ∷ xs) (y ∷ ys) zero a = a.0
like_at (x ∷ xs) (y ∷ ys) (suc i) a = like_at xs ys i a.1

pub like_there : (xs ys : List Record) (i : ℕ) (x : Record) → AreLike xs ys
    → slice_get xs i ≡ Some x → (y : Record) × (slice_get ys i ≡ Some y) × Like x y
like_there xs ys i x a at = by (slice_get ys i) refl
  where
    by : (q : Option Record) → slice_get ys i ≡ q
        → (y : Record) × (slice_get ys i ≡ Some y) × Like x y
    by None e = absurd (subst (λ o. LikeOf o None) at (subst (LikeOf (slice_get xs i)) e
        (like_at xs ys i a)))
    by (Some y) e = (
      y,
      e,
      subst (λ o. LikeOf o (Some y)) at (subst (LikeOf (slice_get xs i)) e
          (like_at xs ys i a)),
    )

pub like_back : (xs ys : List Record) (i : ℕ) (y : Record) → AreLike xs ys
    → slice_get ys i ≡ Some y → (x : Record) × (slice_get xs i ≡ Some x) × Like x y
like_back xs ys i y a at = by (slice_get xs i) refl
  where
    by : (q : Option Record) → slice_get xs i ≡ q
        → (x : Record) × (slice_get xs i ≡ Some x) × Like x y
    by None e = absurd (subst (LikeOf None) at (subst (λ o. LikeOf o (slice_get ys i)) e
        (like_at xs ys i a)))
    by (Some x) e = (
      x,
      e,
      subst (LikeOf (Some x)) at (subst (λ o. LikeOf o (slice_get ys i)) e
          (like_at xs ys i a)),
    )

set_like : (xs ys : List Record) (i : ℕ) (part : Content) (last : Bool) → AreLike xs ys
    → (x y : Record) → Like x y
    → AreLike (slice_set xs i (given_record x part last)) (slice_set ys i (given_record y part last))
set_like [] [] i part last a x y l = tt
set_like [] (w ∷ ys) i part last a x y l = absurd a
set_like (z ∷ xs) [] i part last a x y l = absurd a
set_like (z ∷ xs) (w ∷ ys) zero part last a x y l = (like_given x y part last l, a.1)
set_like (z ∷ xs) (w ∷ ys) (suc i) part last a x y l =
    (a.0, set_like xs ys i part last a.1 x y l)

pub like_put : (xs ys : List Record) (n : ℕ) (part : Content) (last : Bool) → AreLike xs ys
    → AreLike (put_at (Some n) part last xs) (put_at (Some n) part last ys)
like_put xs ys n part last a = by (slice_get xs n) (slice_get ys n) (like_at xs ys n a)
  where
    by : (o q : Option Record) → LikeOf o q
        → AreLike (put_part o n part last xs) (put_part q n part last ys)
    by None None l = a
    by None (Some y) l = absurd l
    by (Some x) None l = absurd l
    by (Some x) (Some y) l = set_like xs ys n part last a x y l

-- ---- the client

module _ (wide : ℕ) where
  -- the client with the greater limit, in this state
  abbrev pub widened : ClientSeen → ClientState → ClientSeen
  widened k state = record {
    requests = record {
      limit = wide;
      window = k.requests.window;
      output = k.requests.output;
      outstanding = k.requests.outstanding;
      next_id = k.requests.next_id;
      next_number = k.requests.next_number;
    };
    held = k.held;
    reply = k.reply;
    state = state;
  }

  pub record Within (k : ClientSeen) : Type 0 where
    pub least : 26 ≤ k.requests.limit
    pub most : k.requests.limit ≤ wide

  pub calls : (k : ClientSeen) (state : ClientState) (kind : CallKind) (c : Content)
      (number : CallNo) → Within k → BothOpen k.state state → IsCalled k kind c number
      → IsCalled (widened k state) kind c number
  calls k state kind c number w b is =
      let within = is.1.within in
      let most = w.most in (
        open_too k.state state b is.0,
        record {
          next = record { number = is.1.next.number; id = is.1.next.id };
          window = is.1.window;
          within = omega (arith, within, most);
        },
      )

  received_wide : (k : ClientSeen) (state : ClientState) (m : Message)
      (r : Result (ℤ × Outstanding) ClientCause) → BothOpen k.state state
      → (state' : ClientState) × (received (widened k state) m r ≡ widened (received k m r) state')
      × BothOpen (received k m r).state state'
  received_wide k state m (Ok o) b = (state, refl, b)
  received_wide k state m (Err cause) b =
      (state_after state cause, refl, both_ended k.state state cause cause b)

  module _ (k : ClientSeen) (bytes : List ℕ) (w : Within k) where
    abbrev b : List ℕ
    b = k.held ++ take (length bytes) bytes

    -- the client with the greater limit took them, in this state
    pub record Took (new : ClientSeen) : Type 0 where
      pub state : ClientState
      pub takes : ClientTakes (widened k Open) bytes (widened new state)
      pub alike : BothOpen new.state state ⊎ ((new.state ≢ Open) × (state ≡ Open))

    pub took : (new : ClientSeen) → ClientTakes k bytes new → Took new
    took new t = by t.takes.settles
      where
        live : k.state ≡ Open
        live = t.may.1

        so : (state : ClientState) → Settles (holding (widened k Open) b) (widened new state)
            → BothOpen new.state state ⊎ ((new.state ≢ Open) × (state ≡ Open)) → Took new
        so state settles alike = record {
          state = state;
          takes = record {
            may = (t.may.0, refl);
            takes = record {
              within = t.takes.within;
              no_more = no_more_wider k.requests.limit wide w.least w.most b t.takes.no_more;
              all = λ o. refl;
              settles = settles;
            };
          };
          alike = alike;
        }

        by : Settles (holding k b) new → Took new
        by (is_open o e) =
            so Open (is_open (open_wider k.requests.limit wide w.least w.most b o)
            (ap (λ z. widened z Open) e))
            (inl (both_open new.state Open (ap (λ (z : ClientSeen). z.state) e ∙ live) refl))
        by (is_message m s le e) =
            let most = w.most in
            let r = received_wide (holding k b) Open m
            (allowed m.flags.more_to_come (owner k.requests.outstanding m.response_to))
            (both_open k.state Open live refl) in
            so r.0 (is_message m s (omega (arith, le, most)) (ap (λ z. widened z r.0) e ∙ sym r.1))
            (inl (subst (λ (z : ClientSeen). BothOpen z.state r.0) (sym e) r.2))
        by (is_bad f bad e) =
            let shut : new.state ≡ Closed (causes.Message f) = ap (λ (z : ClientSeen). z.state) e
            ∙ ap (λ s. state_after s (causes.Message f)) live in
            elim (bad_wider k.requests.limit wide w.least w.most b f bad t.takes.no_more) [
              | inl o ↦ so Open (is_open o (ap (λ z. widened z Open) e)) (inr (
                (λ is.
                    (let no_ : Closed (causes.Message f) ≡ Open = sym shut ∙ is in cc)),
                refl,
              ))
              | inr g ↦ so (Closed (causes.Message g.0)) (is_bad g.0 g.1
                  (ap (λ z. widened z (Closed (causes.Message g.0))) e))
                  (inl (subst (λ z. BothOpen z (Closed (causes.Message g.0))) (sym shut) tt))
            ]

  -- the reply is released
  pub lets_go : (k : ClientSeen) (state : ClientState)
      → released (widened k state) ≡ widened (released k) state
  lets_go k state = by k.reply refl
    where
      by : (o : Option ReadyReply) → k.reply ≡ o
          → after_release o (widened k state) ≡ widened (after_release o k) state
      by None e = refl
      by (Some reply) e = refl

  pub still : (k : ClientSeen) → (released k).state ≡ k.state
  still k = by k.reply
    where
      by : (o : Option ReadyReply) → (after_release o k).state ≡ k.state
      by None = refl
      by (Some reply) = refl
