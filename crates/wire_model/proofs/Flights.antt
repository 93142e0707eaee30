-- What was sent on a way is what was taken from it, followed by what is in flight.
use Rattle.std.proofs.Common.{◌≡◌, ℕ, Bool, true, false, List, [], ◌∷◌, ◌++◌, refl, sym, ◌∙◌, ap, append_assoc, inl, inr}
use Rattle.std.specs.Prelude.{◌==◌, if◌then◌else◌}
use Rattle.wire_model.proofs.ConnCalls.{is_elsewhere, is_here}
use Rattle.wire_model.proofs.Lists.{same_or_not}
use Rattle.wire_model.specs.Owners.{ClientAct, ServerAct, SendsDown, SendsUp, TakesDown, TakesUp, bytes_sent, bytes_sent_down, bytes_taken, bytes_taken_up, sent_by, sent_down_by, taken_by, taken_up_by}
use Rattle.wire_model.specs.Deeds.{AtClient, AtServer, Deed, acts_at, at_one, server_acts_at}
use Rattle.wire_model.proofs.Fits.{one_far, one_here}

-- for each connection: from these bytes in flight up and down to those
abbrev pub Balanced : (up down up' down' : ℕ → List ℕ) → List Deed → Type 0
Balanced up down up' down' deeds =
    (c : ℕ) → (up c ++ bytes_sent (acts_at c deeds)
    ≡ bytes_taken_up (server_acts_at c deeds) ++ up' c)
    × (down c ++ bytes_sent_down (server_acts_at c deeds)
    ≡ bytes_taken (acts_at c deeds) ++ down' c)

if_of : {A B : Type 0} (g : A → B) (b : Bool) (x y : A)
    → g (if b then x else y) ≡ (if b then g x else g y)
if_of g true x y = refl
if_of g false x y = refl

if_same : {A : Type 0} (b : Bool) (x : A) → (if b then x else x) ≡ x
if_same true x = refl
if_same false x = refl

-- ---- one way of connection d, while something is done at c

sends_way : (f : ℕ → List ℕ) (c d : ℕ) (bytes sent after : List ℕ)
    → at_one f c (f c ++ bytes) d ++ sent ≡ after
    → f d ++ (if c == d then bytes ++ sent else sent) ≡ after
sends_way f c d bytes sent after e = elim (same_or_not d c) [
  | inl is ↦
      ap (λ b. f d ++ (if b then bytes ++ sent else sent)) (is_here d c (sym is))
      ∙ sym (append_assoc (f d) bytes sent) ∙ ap (λ z. (f z ++ bytes) ++ sent) is
      ∙ ap (λ z. z ++ sent) (sym (one_here f c (f c ++ bytes)) ∙ ap (at_one f c (f c ++ bytes))
      (sym is))
      ∙ e
  | inr n ↦
      ap (λ b. f d ++ (if b then bytes ++ sent else sent)) (is_elsewhere d c (λ is. n (sym is)))
      ∙ ap (λ z. z ++ sent) (sym (one_far f c d (f c ++ bytes) n)) ∙ e
]

takes_way : (f : ℕ → List ℕ) (c d : ℕ) (bytes rest sent taken after : List ℕ)
    → f c ≡ bytes ++ rest → at_one f c rest d ++ sent ≡ taken ++ after
    → f d ++ sent ≡ (if c == d then bytes ++ taken else taken) ++ after
takes_way f c d bytes rest sent taken after first e = elim (same_or_not d c) [
  | inl is ↦
      ap (λ z. f z ++ sent) is ∙ ap (λ z. z ++ sent) first ∙ append_assoc bytes rest sent
      ∙ ap (λ z. bytes ++ (z ++ sent)) (sym (one_here f c rest) ∙ ap (at_one f c rest) (sym is))
      ∙ ap (λ z. bytes ++ z) e ∙ sym (append_assoc bytes taken after)
      ∙ ap (λ b. (if b then bytes ++ taken else taken) ++ after) (sym (is_here d c (sym is)))
  | inr n ↦
      ap (λ z. z ++ sent) (sym (one_far f c d rest n)) ∙ e
      ∙ ap (λ b. (if b then bytes ++ taken else taken) ++ after)
      (sym (is_elsewhere d c (λ is. n (sym is))))
]

-- ---- deed after deed

-- the bytes that the acts at connection d send and take, with one more act at connection c
sent_at : (c d : ℕ) (act : ClientAct) (acts : List ClientAct)
    → bytes_sent (if c == d then act ∷ acts else acts)
    ≡ (if c == d then sent_by act ++ bytes_sent acts else bytes_sent acts)
sent_at c d act acts = if_of bytes_sent (c == d) (act ∷ acts) acts

taken_at : (c d : ℕ) (act : ClientAct) (acts : List ClientAct)
    → bytes_taken (if c == d then act ∷ acts else acts)
    ≡ (if c == d then taken_by act ++ bytes_taken acts else bytes_taken acts)
taken_at c d act acts = if_of bytes_taken (c == d) (act ∷ acts) acts

sent_down_at : (c d : ℕ) (act : ServerAct) (acts : List ServerAct)
    → bytes_sent_down (if c == d then act ∷ acts else acts)
    ≡ (if c == d then sent_down_by act ++ bytes_sent_down acts else bytes_sent_down acts)
sent_down_at c d act acts = if_of bytes_sent_down (c == d) (act ∷ acts) acts

taken_up_at : (c d : ℕ) (act : ServerAct) (acts : List ServerAct)
    → bytes_taken_up (if c == d then act ∷ acts else acts)
    ≡ (if c == d then taken_up_by act ++ bytes_taken_up acts else bytes_taken_up acts)
taken_up_at c d act acts = if_of bytes_taken_up (c == d) (act ∷ acts) acts

-- the same, if the act sends or takes nothing
none_by : (b : Bool) (by bytes : List ℕ) → by ≡ [] → (if b then by ++ bytes else bytes) ≡ bytes
none_by b by bytes e = ap (λ z. if b then z ++ bytes else bytes) e ∙ if_same b bytes

module _ (deeds : List Deed) (up down up' down' : ℕ → List ℕ) where
  pub client_still : (c : ℕ) (act : ClientAct) → sent_by act ≡ [] → taken_by act ≡ []
      → Balanced up down up' down' deeds → Balanced up down up' down' (AtClient c act ∷ deeds)
  client_still c act sends takes b d = (
    ap (λ z. up d ++ z) (sent_at c d act (acts_at d deeds) ∙ none_by (c == d) (sent_by act) _
        sends)
        ∙ (b d).0,
    (b d).1 ∙ ap (λ z. z ++ down' d) (sym (taken_at c d act (acts_at d deeds)
        ∙ none_by (c == d) (taken_by act) _ takes)),
  )

  pub client_sent_on : (c : ℕ) (bytes : List ℕ)
      → Balanced (at_one up c (up c ++ bytes)) down up' down' deeds
      → Balanced up down up' down' (AtClient c (SendsUp bytes) ∷ deeds)
  client_sent_on c bytes b d = (
    ap (λ z. up d ++ z) (sent_at c d (SendsUp bytes) (acts_at d deeds))
        ∙ sends_way up c d bytes (bytes_sent (acts_at d deeds)) _ (b d).0,
    (b d).1 ∙ ap (λ z. z ++ down' d) (sym (taken_at c d (SendsUp bytes) (acts_at d deeds)
        ∙ if_same (c == d) _)),
  )

  pub client_took_on : (c : ℕ) (bytes rest : List ℕ) → down c ≡ bytes ++ rest
      → Balanced up (at_one down c rest) up' down' deeds
      → Balanced up down up' down' (AtClient c (TakesDown bytes) ∷ deeds)
  client_took_on c bytes rest first b d = (
    ap (λ z. up d ++ z) (sent_at c d (TakesDown bytes) (acts_at d deeds) ∙ if_same (c == d) _)
        ∙ (b d).0,
    takes_way down c d bytes rest (bytes_sent_down (server_acts_at d deeds))
        (bytes_taken (acts_at d deeds)) (down' d) first (b d).1
        ∙ ap (λ z. z ++ down' d) (sym (taken_at c d (TakesDown bytes) (acts_at d deeds))),
  )

  pub server_still : (c : ℕ) (act : ServerAct) → sent_down_by act ≡ [] → taken_up_by act ≡ []
      → Balanced up down up' down' deeds → Balanced up down up' down' (AtServer c act ∷ deeds)
  server_still c act sends takes b d = (
    (b d).0 ∙ ap (λ z. z ++ up' d) (sym (taken_up_at c d act (server_acts_at d deeds)
        ∙ none_by (c == d) (taken_up_by act) _ takes)),
    ap (λ z. down d ++ z) (sent_down_at c d act (server_acts_at d deeds)
        ∙ none_by (c == d) (sent_down_by act) _ sends) ∙ (b d).1,
  )

  pub server_sent_on : (c : ℕ) (bytes : List ℕ)
      → Balanced up (at_one down c (down c ++ bytes)) up' down' deeds
      → Balanced up down up' down' (AtServer c (SendsDown bytes) ∷ deeds)
  server_sent_on c bytes b d = (
    (b d).0 ∙ ap (λ z. z ++ up' d) (sym (taken_up_at c d (SendsDown bytes) (server_acts_at d deeds)
        ∙ if_same (c == d) _)),
    ap (λ z. down d ++ z) (sent_down_at c d (SendsDown bytes) (server_acts_at d deeds))
        ∙ sends_way down c d bytes (bytes_sent_down (server_acts_at d deeds)) _ (b d).1,
  )

  pub server_took_on : (c : ℕ) (bytes rest : List ℕ) → up c ≡ bytes ++ rest
      → Balanced (at_one up c rest) down up' down' deeds
      → Balanced up down up' down' (AtServer c (TakesUp bytes) ∷ deeds)
  server_took_on c bytes rest first b d = (
    takes_way up c d bytes rest (bytes_sent (acts_at d deeds))
        (bytes_taken_up (server_acts_at d deeds)) (up' d) first (b d).0
        ∙ ap (λ z. z ++ up' d) (sym (taken_up_at c d (TakesUp bytes) (server_acts_at d deeds))),
    ap (λ z. down d ++ z) (sent_down_at c d (TakesUp bytes) (server_acts_at d deeds)
        ∙ if_same (c == d) _) ∙ (b d).1,
  )
