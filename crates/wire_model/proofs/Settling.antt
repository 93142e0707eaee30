-- The records of a world whose clients close, and the calls of a machine whose client halves are lost.
use Rattle.std.proofs.Common.{◌≡◌, ℕ, zero, suc, Bool, true, false, List, [], ◌∷◌, map, refl, sym, ◌∙◌, ap, arith}
use Rattle.std.specs.Prelude.{◌==◌, if◌then◌else◌}
use Rattle.std.proofs.lemmas.Bool.Decides.{nat_tests}
use Rattle.wire_model.specs.Conns.{Conn, Record, conn_at, has_closed_client, lost_record, settled_record}
use Rattle.wire_model.specs.Machines.{Call, CallIs, State, Pending, Done, Sent, Lost, Foreign, is_ours, lost, lost_state}
use Rattle.wire_model.specs.Shown.{shown, shown_calls}
use Rattle.wire_model.proofs.Ranks.{ours-lost}

-- the client of this connection is closed
abbrev pub IsShut : List Conn → ℕ → Type 0
IsShut ks c = has_closed_client (conn_at ks c) ≡ true

-- ---- one record

lost_twice : (s : State) → lost_state (lost_state s) ≡ lost_state s
lost_twice Pending = refl
lost_twice Done = refl
lost_twice Sent = refl
lost_twice Lost = refl
lost_twice Foreign = refl

lost_stays : (s : State) → (s ≡ Pending → ⊥) → lost_state s ≡ s
lost_stays Pending n = absurd (n refl)
lost_stays Done n = refl
lost_stays Sent n = refl
lost_stays Lost n = refl
lost_stays Foreign n = refl

abbrev in_state : Record → State → Record
in_state x s = record { connection = x.connection; asked = x.asked; parts = x.parts; state = s }

-- a record whose client isn't closed, or that isn't pending, stays
settled_stays : (ks : List Conn) (x : Record) → (x.state ≡ Pending → IsShut ks x.connection → ⊥) → settled_record ks x ≡ x
settled_stays ks x n = by (has_closed_client (conn_at ks x.connection)) refl
  where
    by : (b : Bool) → has_closed_client (conn_at ks x.connection) ≡ b → settled_record ks x ≡ x
    by true e = ap (λ b. if b then lost_record x else x) e ∙ ap (in_state x) (lost_stays x.state (λ p. n p e))
    by false e = ap (λ b. if b then lost_record x else x) e

-- the record of a call that is lost with its client is settled as before
settled_lost : (ks : List Conn) (c : ℕ) (x : Call) → IsShut ks c → settled_record ks (shown (lost c x)) ≡ settled_record ks (shown x)
settled_lost ks c x shut = by (x.connection == c) refl
  where
    by : (b : Bool) → (x.connection == c) ≡ b → settled_record ks (shown (lost c x)) ≡ settled_record ks (shown x)
    by true e =
        let same : x.connection ≡ c = grind (arith, nat_tests) in
        let here : IsShut ks x.connection = ap (λ d. has_closed_client (conn_at ks d)) same ∙ shut in
        ap (λ b. settled_record ks (in_state (shown x) (if b then lost_state x.state else x.state))) e
        ∙ ap (λ b. if b then in_state (shown x) (lost_state (lost_state x.state)) else in_state (shown x) (lost_state x.state)) here
        ∙ ap (in_state (shown x)) (lost_twice x.state)
        ∙ sym (ap (λ b. if b then in_state (shown x) (lost_state x.state) else shown x) here)
    by false e = ap (λ b. settled_record ks (in_state (shown x) (if b then lost_state x.state else x.state))) e

-- ---- all of them

abbrev shown_by : Bool → Record → List Record → List Record
shown_by b r rs = if b then r ∷ rs else rs

-- if no pending call has a closed client, nothing is left to settle
pub settled_are : (ks : List Conn) (calls : List Call) → ((i : ℕ) (x : Call) → CallIs calls i x → x.state ≡ Pending → IsShut ks x.connection → ⊥) → map (settled_record ks) (shown_calls calls) ≡ shown_calls calls
settled_are ks [] n = refl
settled_are ks (x ∷ calls) n = elim (is_ours x.state) as (λ b. map (settled_record ks) (shown_by b (shown x) (shown_calls calls)) ≡ shown_by b (shown x) (shown_calls calls)) [
  | true ↦ (λ i. settled_stays ks (shown x) (λ p s. n zero x refl p s) i ∷ settled_are ks calls (λ j y g. n (suc j) y g) i)
  | false ↦ settled_are ks calls (λ j y g. n (suc j) y g)
]

-- it makes no difference if the calls of a closed client are lost before
pub settled_shut : (ks : List Conn) (c : ℕ) (calls : List Call) → IsShut ks c → map (settled_record ks) (shown_calls (map (lost c) calls)) ≡ map (settled_record ks) (shown_calls calls)
settled_shut ks c [] shut = refl
settled_shut ks c (x ∷ calls) shut =
    ap (λ b. map (settled_record ks) (shown_by b (shown (lost c x)) (shown_calls (map (lost c) calls)))) (ours-lost c x)
    ∙ (elim (is_ours x.state) as (λ b. map (settled_record ks) (shown_by b (shown (lost c x)) (shown_calls (map (lost c) calls))) ≡ map (settled_record ks) (shown_by b (shown x) (shown_calls calls))) [
      | true ↦ (λ i. settled_lost ks c x shut i ∷ settled_shut ks c calls shut i)
      | false ↦ settled_shut ks c calls shut
    ])
