-- The request that waits, as a message.
use Rattle.std.proofs.Common.{◌≡◌, ℕ, refl, ap, sym, ◌∙◌, List, [], ◌∷◌, length, All, arith}
use Rattle.std.specs.Prelude.{Option, None, Some, IfSome, slice_get}
use Rattle.wire_msg.specs.{IsMessage, Message}
use Rattle.wire_peer.specs.{ServerView, WaitsAt, asked, asked_by}
use Rattle.wire_peer.specs.declared.requests.Request.{Request}

-- the first of the messages that wait
first : (limit : ℕ) (ws : List (List ℕ)) → (length ws ≡ 0 → ⊥) → All (IsMessage limit) ws → (bytes : List ℕ) × (slice_get ws 0 ≡ Some bytes) × IsMessage limit bytes
first limit [] some each = absurd (some refl)
first limit (w ∷ ws) some each = (w, refl, each 0 w (omega arith))

-- what is shown of the request that waits in s, and so in t, is what its message asks
pub shown : (result : Option Request) (s t : ServerView) → s.waiting ≡ t.waiting → (length s.waiting ≡ 0 → ⊥) → All (IsMessage s.limit) s.waiting
    → ((m : Message) → WaitsAt s 0 m → IfSome result (λ r. asked r ≡ asked_by m)) → IfSome result (λ r. (m : Message) × WaitsAt t 0 m × (asked r ≡ asked_by m))
shown None s t same some each asks = tt
shown (Some r) s t same some each asks =
    let found = first s.limit s.waiting some each in
    let m : Message = found.2.1.0 in (
      m,
      record {
        bytes = found.0;
        at = ap (λ (ws : List (List ℕ)). slice_get ws 0) (sym same) ∙ found.1;
        spelled = found.2.1.1;
      },
      asks m (record { bytes = found.0; at = found.1; spelled = found.2.1.1 }),
    )
