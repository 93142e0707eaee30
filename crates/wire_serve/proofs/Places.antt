-- The servers of connections, where there is one more, and a function that is changed at one place.
use Rattle.std.proofs.Common.{◌≡◌, ℕ, zero, suc, ◌⊎◌, inl, inr, Bool, List, [], ◌∷◌, ◌++◌, length, Option, None, Some, ap, refl, sym, subst, ◌∙◌}
use Rattle.std.specs.Prelude.{◌==◌, if◌then◌else◌}
use Rattle.std.proofs.lemmas.Option.{none-some}
use Rattle.wire_peer.specs.{ServerView}
use Rattle.wire_model.proofs.Lemmas.{get-push_cases, get-push_old, is_elsewhere, is_here}
use Rattle.wire_model.specs.{server_at}

-- the server of a connection behind one more
pub at_push : (ss : List ServerView) (d : ℕ) (s x : ServerView) → server_at ss d ≡ Some s → server_at (ss ++ x ∷ []) d ≡ Some s
at_push ss zero s x at = absurd (none-some s at)
at_push ss (suc i) s x at = get-push_old ss i s x at

pub at_cases : (ss : List ServerView) (d : ℕ) (s x : ServerView) → server_at (ss ++ x ∷ []) d ≡ Some s
    → (server_at ss d ≡ Some s) ⊎ ((d ≡ suc (length ss)) × (x ≡ s))
at_cases ss zero s x at = absurd (none-some s at)
at_cases ss (suc i) s x at = elim (get-push_cases ss i s x at) [ inl old ↦ inl old | inr new ↦ inr (ap suc new.0, new.1) ]

pub none_past : (ss : List ServerView) → server_at ss (suc (length ss)) ≡ None
none_past [] = refl
none_past (s ∷ ss) = none_past ss

-- the server of this connection is there, so that of the next one is another
pub not_past : (ss : List ServerView) (d : ℕ) (s : ServerView) → server_at ss d ≡ Some s → d ≡ suc (length ss) → ⊥
not_past ss d s at is = none-some s (sym (subst (λ (k : ℕ). server_at ss k ≡ None) (sym is) (none_past ss)) ∙ at)

-- a server at a connection, or none
pub found_or_not : (o : Option ServerView) → ((s : ServerView) × (o ≡ Some s)) ⊎ (o ≡ None)
found_or_not None = inr refl
found_or_not (Some s) = inl (s, refl)

module _ {X : Type 0} where
  abbrev pub at_one : (ℕ → Option X) → ℕ → X → ℕ → Option X
  at_one f c x d = if d == c then Some x else f d

  pub one_here : (f : ℕ → Option X) (c d : ℕ) (x : X) → d ≡ c → at_one f c x d ≡ Some x
  one_here f c d x is = ap (λ (b : Bool). if b then Some x else f d) (is_here c d is)

  pub one_far : (f : ℕ → Option X) (c d : ℕ) (x : X) → (d ≡ c → ⊥) → at_one f c x d ≡ f d
  one_far f c d x n = ap (λ (b : Bool). if b then Some x else f d) (is_elsewhere c d n)
