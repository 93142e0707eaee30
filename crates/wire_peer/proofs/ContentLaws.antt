-- What a payload carries is its content.
use Rattle.std.specs.Prelude.{◌≡◌, ℕ, List, [], Result, Ok, Err, IfOk}
use Rattle.std.specs.Coded.{coded_ℕ}
use base.Stored.{Coded-set}
use mathlib.Core.Logic.{∥∥₁_elim}
use Rattle.bson_raw.specs.{document_bytes}
use Rattle.wire_msg.specs.{BufCarries, Carries, Content}
use Rattle.wire_msg.specs.declared.payloads.Payload.{Payload}
use Rattle.wire_msg.specs.declared.payload_buf.PayloadBuf.{PayloadBuf}
use Rattle.wire_msg.proofs.Lemmas.{one_content}
use Rattle.bson_elem.specs.{coded_text}
use Rattle.wire_peer.specs.ContentSets.{content_set}
use Rattle.wire_peer.specs.Contents.{buf_content, carried, carried_by_buf, content_of}

pub content_is : (p : Payload) (c : Content) → Carries p c → content_of p ≡ c
content_is p c k = ∥∥₁_elim (carried p).1 (content_set _ _) (λ own. one_content p.before.now (document_bytes p.body) p.after.now (content_of p) c own k)

pub buf_content_is : (b : PayloadBuf) (c : Content) → BufCarries b c → buf_content b ≡ c
buf_content_is b c k = ∥∥₁_elim (carried_by_buf b).1 (content_set _ _) (λ own. one_content [] b.body.items b.sequences.items (buf_content b) c own k)

-- what holds of each content that a payload carries holds of its content, where it is a proposition
pub of_content : (p : Payload) {P : Content → Type 0} → IsProp (P (content_of p)) → ((c : Content) → Carries p c → P c) → P (content_of p)
of_content p one all = ∥∥₁_elim (carried p).1 one (all (content_of p))

pub of_buf_content : (b : PayloadBuf) {P : Content → Type 0} → IsProp (P (buf_content b)) → ((c : Content) → BufCarries b c → P c) → P (buf_content b)
of_buf_content b one all = ∥∥₁_elim (carried_by_buf b).1 one (all (buf_content b))

-- a copy of a payload has its content
pub copied_content : (p : Payload) (b : PayloadBuf) → ((c : Content) → Carries p c → BufCarries b c) → buf_content b ≡ content_of p
copied_content p b all = ∥∥₁_elim (carried p).1 (content_set _ _) (λ k. buf_content_is b (content_of p) (all (content_of p) k))

pub copied_if : {E : Type 0} (p : Payload) (r : Result PayloadBuf E) → ((c : Content) → Carries p c → IfOk r (λ b. BufCarries b c)) → IfOk r (λ b. buf_content b ≡ content_of p)
copied_if p (Ok b) all = copied_content p b all
copied_if p (Err e) all = tt

-- what is so of each content that a payload carries, and is a number or bytes, is so of its content
pub number_of_content : (p : Payload) (n : ℕ) (f : Content → ℕ) → ((c : Content) → Carries p c → n ≡ f c) → n ≡ f (content_of p)
number_of_content p n f all = ∥∥₁_elim (carried p).1 (Coded-set coded_ℕ n (f (content_of p))) (λ k. all (content_of p) k)

pub bytes_of_content : (p : Payload) (bytes : List ℕ) (f : Content → List ℕ) → ((c : Content) → Carries p c → bytes ≡ f c) → bytes ≡ f (content_of p)
bytes_of_content p bytes f all = ∥∥₁_elim (carried p).1 (Coded-set coded_text bytes (f (content_of p))) (λ k. all (content_of p) k)
