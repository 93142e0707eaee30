-- The parts of a world still belong together after a connection has changed, or a call was made.
use Rattle.std.specs.Prelude.{◌≡◌, ℕ, zero, suc, ◌-◌, ◌≤◌, Bool, false, All, if◌then◌else◌, List, [], ◌∷◌, ◌++◌, length, map, Some, slice_set}
use Rattle.std.proofs.Common.{◌∙◌, ap, arith, refl, subst, sym}
use Rattle.std.proofs.lemmas.Option.{none-some}
use Rattle.std.proofs.lemmas.List.Elements.{All-push}
use Rattle.wire_pool.specs.{PoolSeen, id_after}
use Rattle.wire_peer.specs.declared.client_state.ClientState.{ClientState}
use Rattle.wire_peer.specs.declared.client_state.ClientState.TheVariants.{Open}
use Rattle.wire_model.specs.{Conn, Record, conn_at, conn_set, has_closed_client, is_closed, lost_record, settled_record}
use Rattle.wire_model.specs.declared.limits.WorldLimits.{WorldLimits}
use Rattle.wire_world.specs.Worlds.{AreParts}
use Rattle.wire_world.proofs.Found.{numbered}
use Rattle.wire_world.proofs.Numbered.{conn_set_place}

-- the same clients are closed
abbrev HaveSameClosed : List Conn → List Conn → Type 0
HaveSameClosed ks ks' = (d : ℕ) → has_closed_client (conn_at ks' d) ≡ has_closed_client (conn_at ks d)

same_closed : (ks : List Conn) (c : ℕ) (k k' : Conn) → conn_at ks c ≡ Some k → is_closed k'.client.state ≡ is_closed k.client.state → HaveSameClosed ks (conn_set ks c k')
same_closed ks zero k k' at same d = absurd (none-some k at)
same_closed [] (suc i) k k' at same d = absurd (none-some k at)
same_closed (z ∷ zs) (suc i) k k' at same zero = refl
same_closed (z ∷ zs) (suc zero) k k' at same (suc zero) = same ∙ sym (ap has_closed_client at)
same_closed (z ∷ zs) (suc zero) k k' at same (suc (suc j)) = refl
same_closed (z ∷ zs) (suc (suc i)) k k' at same (suc zero) = refl
same_closed (z ∷ zs) (suc (suc i)) k k' at same (suc (suc j)) = same_closed zs (suc i) k k' at same (suc j)

same_settled : (ks ks' : List Conn) → HaveSameClosed ks ks' → (xs : List Record) → map (settled_record ks') xs ≡ map (settled_record ks) xs
same_settled ks ks' same [] = refl
same_settled ks ks' same (x ∷ xs) =
    ap (λ (b : Bool). (if b then lost_record x else x) ∷ map (settled_record ks') xs) (same x.connection) ∙ ap (λ ys. settled_record ks x ∷ ys) (same_settled ks ks' same xs)

pub length-conn_set : (ks : List Conn) (c : ℕ) (k : Conn) → length (conn_set ks c k) ≡ length ks
length-conn_set ks zero k = refl
length-conn_set [] (suc i) k = refl
length-conn_set (z ∷ zs) (suc zero) k = refl
length-conn_set (z ∷ zs) (suc (suc i)) k = ap suc (length-conn_set zs (suc i) k)

-- a connection changes, and its client is closed or open as before
pub parts_changed : (l : WorldLimits) (p : PoolSeen) (ks : List Conn) (xs : List Record) (c : ℕ) (k k' : Conn) → conn_at ks c ≡ Some k → is_closed k'.client.state ≡ is_closed k.client.state → AreParts l p ks xs → AreParts l p (conn_set ks c k') xs
parts_changed l p ks xs c k k' at same a = record {
  limits_are = a.limits_are;
  is_open = a.is_open;
  next_is = a.next_is ∙ ap id_after (sym (length-conn_set ks c k'));
  made = subst (λ n. All (λ (x : Record). x.connection ≤ n) xs) (sym (length-conn_set ks c k')) a.made;
  settled_are = same_settled ks (conn_set ks c k') (same_closed ks c k k' at same) xs ∙ a.settled_are;
}

pub map_push : {A B : Type 0} (f : A → B) (xs : List A) (x : A) → map f (xs ++ x ∷ []) ≡ map f xs ++ f x ∷ []
map_push f [] x = refl
map_push f (y ∷ xs) x = ap (λ ys. f y ∷ ys) (map_push f xs x)

is_open : (s : ClientState) → s ≡ Open → is_closed s ≡ false
is_open s e = ap is_closed e

-- a call of an open client stays as it is
open_settled : (ks : List Conn) (x : Record) (k : Conn) → conn_at ks x.connection ≡ Some k → k.client.state ≡ Open → settled_record ks x ≡ x
open_settled ks x k at live = ap (λ (b : Bool). if b then lost_record x else x) (ap has_closed_client at ∙ is_open k.client.state live)

within : (ks : List Conn) (c : ℕ) (k : Conn) → conn_at ks c ≡ Some k → c ≤ length ks
within ks zero k at = omega arith
within [] (suc i) k at = absurd (none-some k at)
within (z ∷ zs) (suc zero) k at = omega arith
within (z ∷ zs) (suc (suc i)) k at = let less = within zs (suc i) k at in omega (arith, less)

-- a call is made over a connection whose client is open
pub parts_called : (l : WorldLimits) (p : PoolSeen) (ks : List Conn) (xs : List Record) (x : Record) (k : Conn) → conn_at ks x.connection ≡ Some k → k.client.state ≡ Open → AreParts l p ks xs → AreParts l p ks (xs ++ x ∷ [])
parts_called l p ks xs x k at live a = record {
  limits_are = a.limits_are;
  is_open = a.is_open;
  next_is = a.next_is;
  made = All-push (λ (y : Record). y.connection ≤ length ks) xs x a.made (within ks x.connection k at);
  settled_are = map_push (settled_record ks) xs x ∙ ap (λ ys. ys ++ settled_record ks x ∷ []) a.settled_are ∙ ap (λ y. xs ++ y ∷ []) (open_settled ks x k at live);
}

-- the connection that was set is found
pub conn_at_set : (ks : List Conn) (c : ℕ) (k k' : Conn) → conn_at ks c ≡ Some k → conn_at (conn_set ks c k') c ≡ Some k'
conn_at_set ks zero k k' at = absurd (none-some k at)
conn_at_set [] (suc i) k k' at = absurd (none-some k at)
conn_at_set (z ∷ zs) (suc zero) k k' at = refl
conn_at_set (z ∷ zs) (suc (suc i)) k k' at = conn_at_set zs (suc i) k k' at

-- the same, where the connection is written at its index
pub parts_placed : (l : WorldLimits) (p : PoolSeen) (ks : List Conn) (xs : List Record) (c : ℕ) (k k' : Conn) → conn_at ks c ≡ Some k → is_closed k'.client.state ≡ is_closed k.client.state → AreParts l p ks xs → AreParts l p (slice_set ks (c - 1) k') xs
parts_placed l p ks xs c k k' at same a = subst (λ (ys : List Conn). AreParts l p ys xs) (conn_set_place ks c k' (numbered ks c k at).0) (parts_changed l p ks xs c k k' at same a)
