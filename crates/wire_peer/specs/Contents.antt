-- The content of a payload. Its bytes carry one, and no other.
use Rattle.std.specs.Prelude.{◌≡◌, []}
use mathlib.Core.HLevel.{Σ_prop_path}
use mathlib.Core.Logic.{∥∥₁_elim, ∥∥₁_prop}
use Rattle.bson_raw.specs.{document_bytes}
use Rattle.wire_msg.specs.{BufCarries, Carries, Content}
use Rattle.wire_msg.specs.declared.payloads.Payload.{Payload}
use Rattle.wire_msg.specs.declared.payload_buf.PayloadBuf.{PayloadBuf}
use Rattle.wire_msg.proofs.Lemmas.{one_content}
use Rattle.wire_peer.specs.ContentSets.{content_set}

-- where a fact holds of one content and of no other, that content
the_content : {P : Content → Type 0} → ((c d : Content) → P c → P d → c ≡ d)
    → ∥ ((c : Content) × P c) ∥₁ → ((c : Content) × ∥ P c ∥₁)
the_content {P} same known = ∥∥₁_elim known one (λ k. (k.0, ∣ k.1 ∣₁))
  where
    alike : (x y : ((c : Content) × ∥ P c ∥₁)) → x.0 ≡ y.0
    alike x y =
        ∥∥₁_elim x.1 (content_set x.0 y.0)
        (λ p. ∥∥₁_elim y.1 (content_set x.0 y.0) (λ q. same x.0 y.0 p q))

    one : IsProp ((c : Content) × ∥ P c ∥₁)
    one x y = Σ_prop_path (λ c. ∥∥₁_prop) (alike x y)

-- the content that a borrowed payload carries
pub carried : (p : Payload) → ((c : Content) × ∥ Carries p c ∥₁)
carried p = the_content (one_content p.before.now (document_bytes p.body) p.after.now) p.valid

-- the content that an owned payload carries
pub carried_by_buf : (b : PayloadBuf) → ((c : Content) × ∥ BufCarries b c ∥₁)
carried_by_buf b = the_content (one_content [] b.body.items b.sequences.items) b.valid

abbrev pub content_of : Payload → Content
content_of p = (carried p).0

abbrev pub buf_content : PayloadBuf → Content
buf_content b = (carried_by_buf b).0
