-- Each recorded request is given once, in order, to the connection of its own number.
use Rattle.std.proofs.Common.{◌≡◌, ◌++◌, ◌∙◌, ◌==◌, ℕ, Bool, true, false, cond, if◌then◌else◌, List, [], ◌∷◌, Option, None, Some, ap, append-nil, append_assoc, refl, sym}
use Rattle.std.specs.Prelude.{find}
use Rattle.std.proofs.lemmas.Bool.{both_ways, eq-eqb, eqb-true}
use Rattle.replay.specs.Takes.{Lane, Take, after_takes, given_of, given_to, requests_in, requests_of, taken}

-- one record adds its request to its connection, and nothing to the others
given_taken : (n : ℕ) (t : Take) (lanes : List Lane) → given_to n (taken t lanes) ≡ given_to n lanes ++ requests_in n t
given_taken n t [] = by (t.number == n)
  where
    by : (b : Bool) → given_of (cond b (Some (record { number = t.number; given = t.requests })) None) ≡ [] ++ (if b then t.requests else [])
    by true = refl
    by false = refl
given_taken n t (lane ∷ lanes) = by (lane.number == t.number) refl (given_taken n t lanes)
  where
    is_same : lane.number ≡ t.number → (lane.number == n) ≡ (t.number == n)
    is_same e = ap (λ (m : ℕ). m == n) e

    here : (b : Bool) → given_of (cond b (Some (record lane { given = lane.given ++ t.requests })) (find (λ (l : Lane). l.number == n) lanes))
        ≡ given_of (cond b (Some lane) (find (λ (l : Lane). l.number == n) lanes)) ++ (if b then t.requests else [])
    here true = refl
    here false = sym (append-nil _)

    there : (b c : Bool) → (lane.number == n) ≡ b → (t.number == n) ≡ c → (lane.number == t.number) ≡ false → given_to n (taken t lanes) ≡ given_to n lanes ++ (if c then t.requests else [])
        → given_of (cond b (Some lane) (find (λ (l : Lane). l.number == n) (taken t lanes)))
        ≡ given_of (cond b (Some lane) (find (λ (l : Lane). l.number == n) lanes)) ++ (if c then t.requests else [])
    there true true e f g k = absurd (both_ways (lane.number == t.number) g (eq-eqb lane.number t.number (eqb-true lane.number n e ∙ sym (eqb-true t.number n f))))
    there true false e f g k = sym (append-nil lane.given)
    there false c e f g k = k

    by : (b : Bool) → (lane.number == t.number) ≡ b → given_to n (taken t lanes) ≡ given_to n lanes ++ requests_in n t
        → given_to n (if b then record lane { given = lane.given ++ t.requests } ∷ lanes else lane ∷ taken t lanes) ≡ given_to n (lane ∷ lanes) ++ requests_in n t
    by true e k =
        let same : (lane.number == n) ≡ (t.number == n) = is_same (eqb-true lane.number t.number e) in
        here (lane.number == n) ∙ ap (λ (b : Bool). given_to n (lane ∷ lanes) ++ (if b then t.requests else [])) same
    by false e k = there (lane.number == n) (t.number == n) refl refl e k

given_after : (n : ℕ) (lanes : List Lane) (ts : List Take) → given_to n (after_takes lanes ts) ≡ given_to n lanes ++ requests_of n ts
given_after n lanes [] = sym (append-nil (given_to n lanes))
given_after n lanes (t ∷ ts) =
    given_after n (taken t lanes) ts ∙ ap (λ (l : List (List ℕ)). l ++ requests_of n ts) (given_taken n t lanes) ∙ append_assoc (given_to n lanes) (requests_in n t) (requests_of n ts)

pub sent_once : (n : ℕ) (ts : List Take) → given_to n (after_takes [] ts) ≡ requests_of n ts
sent_once n ts = given_after n [] ts
