-- The calls of a link while the next message comes over it.
use Rattle.std.proofs.Common.{◌≡◌, ◌≢◌, ℕ, List, [], ◌∷◌, ◌++◌, Option, ap, append-nil, append_assoc, refl, subst, sym, ◌∙◌}
use Rattle.std.specs.Io.KnownBytes.{Appends, Keeps}
use Rattle.std.proofs.KnownBytes.{Appends-nil, Appends-trans}
use Rattle.wire_msg.specs.{IsOpen}
use Rattle.wire_stream.specs.{AddsTurns, Turn}
use Rattle.wire_stream.proofs.Lemmas.{AddsTurns-trans}
use Rattle.wire_end.specs.Ends.{EndSeen}
use Rattle.wire_end.specs.Steps.{Grows}
use Rattle.wire_end.specs.Turns.{AreBetween}

between_push : (limit : ℕ) (r s : Option (List ℕ)) (held : List ℕ) (ts : List Turn) (t : Turn) → AreBetween limit r s held ts
    → Keeps s t.sent → (more : List ℕ) → Appends r t.received more → IsOpen limit (held ++ more) → AreBetween limit r s held (ts ++ t ∷ [])
between_push limit r s held [] t b keeps more came wants = (keeps, (more, came, wants), tt)
between_push limit r s held (u ∷ ts) t b keeps more came wants = (b.0, b.1, between_push limit r s held ts t b.2 keeps more came wants)

-- a pull behind what came before, in the clauses of the calls: it receives where nothing is held behind the server
pub pulled_turns : (limit : ℕ) (t0 ta tb : Option (List Turn)) (r0 ra s0 sa : Option (List ℕ)) (held piece start more : List ℕ) (ts : List Turn)
    → AddsTurns t0 ta ts → AreBetween limit r0 s0 start ts → Appends r0 ra more → held ++ piece ≡ start ++ more → Keeps s0 sa → IsOpen limit held
    → (piece ≢ [] → tb ≡ ta) → (piece ≡ [] → AddsTurns ta tb (record { received = ra; sent = sa } ∷ []))
    → (us : List Turn) × AddsTurns t0 tb us × AreBetween limit r0 s0 start us
pulled_turns limit t0 ta tb r0 ra s0 sa held [] start more ts adds between came parts keeps wants stays turn =
    let whole : held ≡ start ++ more = sym (append-nil held) ∙ parts in (
      ts ++ record { received = ra; sent = sa } ∷ [],
      AddsTurns-trans t0 ta tb ts (record { received = ra; sent = sa } ∷ []) adds (turn refl),
      between_push limit r0 s0 start ts (record { received = ra; sent = sa }) between keeps more came (subst (IsOpen limit) whole wants),
    )
pulled_turns limit t0 ta tb r0 ra s0 sa held (x ∷ piece) start more ts adds between came parts keeps wants stays turn =
    (ts, subst (λ (q : Option (List Turn)). AddsTurns t0 q ts) (sym (stays (λ none. cc))) adds, between)

-- ---- of a client's end

pub grows_none : {L : Type 0} (received : L → Option (List ℕ)) (e : EndSeen L) → Grows received e e
grows_none received e = record {
  came = [];
  receives = Appends-nil (received e.link);
  held = sym (append-nil (e.own.client.held ++ e.inlet));
  limit = refl;
}

pub grows_on : {L : Type 0} (received : L → Option (List ℕ)) (old mid new : EndSeen L) → Grows received old mid → Grows received mid new
    → Grows received old new
grows_on received old mid new g h = record {
  came = g.came ++ h.came;
  receives = Appends-trans (received old.link) (received mid.link) (received new.link) g.came h.came g.receives h.receives;
  held = h.held
      ∙ ap (λ (x : List ℕ). x ++ h.came) g.held
      ∙ append_assoc (old.own.client.held ++ old.inlet) g.came h.came;
  limit = h.limit ∙ g.limit;
}

-- what came lies behind what was held, and the client took the first of both
pub grown : (held held' inlet inlet' bytes more : List ℕ) → inlet ++ more ≡ bytes ++ inlet' → held' ≡ held ++ bytes
    → held' ++ inlet' ≡ (held ++ inlet) ++ more
grown held held' inlet inlet' bytes more parts took =
    ap (λ (x : List ℕ). x ++ inlet') took
    ∙ append_assoc held bytes inlet'
    ∙ ap (λ (x : List ℕ). held ++ x) (sym parts)
    ∙ sym (append_assoc held inlet more)

-- a step behind what came before, by which the link went from that of the one end to this
pub stepped : {L : Type 0} (sent received : L → Option (List ℕ)) (turns : L → Option (List Turn)) (old now : EndSeen L) (link : L)
    → Grows received old now → Keeps (sent old.link) (sent now.link)
    → ((ts : List Turn) × AddsTurns (turns old.link) (turns now.link) ts
    × AreBetween old.own.client.requests.limit (received old.link) (sent old.link) (old.own.client.held ++ old.inlet) ts)
    → IsOpen now.own.client.requests.limit now.own.client.held
    → (now.inlet ≢ [] → turns link ≡ turns now.link)
    → (now.inlet ≡ [] → AddsTurns (turns now.link) (turns link) (record { received = received now.link; sent = sent now.link } ∷ []))
    → (ts : List Turn) × AddsTurns (turns old.link) (turns link) ts
    × AreBetween old.own.client.requests.limit (received old.link) (sent old.link) (old.own.client.held ++ old.inlet) ts
stepped sent received turns old now link g kept were wants stays turn =
    pulled_turns old.own.client.requests.limit (turns old.link) (turns now.link) (turns link) (received old.link) (received now.link) (sent old.link) (sent now.link)
    now.own.client.held now.inlet (old.own.client.held ++ old.inlet) g.came were.0 were.1 were.2 g.receives g.held kept
    (subst (λ (n : ℕ). IsOpen n now.own.client.held) g.limit wants) stays turn
