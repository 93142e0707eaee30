-- Calls and raw bytes: operands name at most one, wherever its bytes are borrowed from.
use Rattle.std.proofs.Common.{◌≡◌, ◌∙◌, ℕ, List, [], ◌∷◌, Bor, refl, sym, ap, subst, append-nil}
use Rattle.bson_elem.specs.{Spells, Tree}
use Rattle.bson_elem.proofs.Lemmas.{same_front}
use Rattle.wire_model.specs.declared.events.Event.{Event}
use Rattle.wire_model.specs.declared.events.Event.TheVariants as events
use Rattle.wire_msg.specs.{Carries, Content, body_alone}
use Rattle.wire_msg.specs.declared.payloads.Payload.{Payload}
use Rattle.wire_msg.proofs.Lemmas.{one_content}
use Rattle.wire_peer.specs.declared.calls.CallKind.{CallKind}
use Rattle.bson_raw.specs.{document_bytes}
use Rattle.script_lines.specs.{IsHex}
use Rattle.wire_play.specs.declared.keyword.Keyword.TheVariants as keywords
use Rattle.wire_play.specs.Naming.{AreEventOperands, HasHex, IsCall, IsRaw, event, event_kind}
use Rattle.wire_play.specs.Same.{IsSame}
use Rattle.wire_play.specs.Words.{IsDocumentHex}
use Rattle.wire_play.proofs.BareEvents.{first_value}

-- ---- calls

-- an event of a call's keyword is a call
call_of : (e : Event) (kind : CallKind) → keywords.Call kind ≡ event_kind e → (c : ℕ) × (p : Payload) × (e ≡ events.Call c kind p)
call_of (events.Call c kind' p) kind same = (c, p, cc)
call_of e kind same = absurd cc

same_hex : (operands : List (List ℕ)) (c d : ℕ) (hex hex' : List ℕ) → HasHex operands c hex → HasHex operands d hex' → (d ≡ c) × (hex ≡ hex')
same_hex operands c d hex hex' are are' =
    let words : are.connection ∷ hex ∷ [] ≡ are'.connection ∷ hex' ∷ [] = sym are.words ∙ are'.words in
    (are'.connection_is.value ∙ (sym (ap first_value words) ∙ sym are.connection_is.value), cc)

same_bytes : (hex : List ℕ) (a b : List ℕ) → IsHex hex a → IsHex hex b → a ≡ b
same_bytes hex a b is is' = cc

same_tree : (t u : Tree) (bytes : List ℕ) → Spells t bytes → Spells u bytes → t ≡ u
same_tree t u bytes s s' = (same_front bytes t u bytes bytes [] [] s s' (sym (append-nil bytes)) (sym (append-nil bytes))).0

same_document : (hex : List ℕ) (t u : Tree) → IsDocumentHex hex t → IsDocumentHex hex u → t ≡ u
same_document hex t u is is' =
    let bytes : is'.bytes ≡ is.bytes = same_bytes hex is'.bytes is.bytes is'.hex is.hex in
    same_tree t u is.bytes is.spelled (subst (λ (b : List ℕ). Spells u b) bytes is'.spelled)

-- two calls by the same operands carry the same
same_carried : (operands : List (List ℕ)) (c d : ℕ) (p q : Payload) → IsCall operands c p → IsCall operands d q → (d ≡ c) × ((content : Content) → Carries p content → Carries q content)
same_carried operands c d p q is is' =
    let words = same_hex operands c d is.hex is'.hex is.words is'.words in
    let body : is'.body ≡ is.body = same_document is.hex is'.body is.body (rw words.1 is'.hex_is) is.hex_is in
    let alone : Carries q (body_alone is.body) = subst (λ (t : Tree). Carries q (body_alone t)) body is'.carried in (
      words.0,
      λ content carried.
          let same : body_alone is.body ≡ content = one_content p.before.now (document_bytes p.body) p.after.now (body_alone is.body) content is.carried carried in
          subst (λ (k : Content). Carries q k) same alone,
    )

pub same_call : (operands : List (List ℕ)) (c : ℕ) (kind : CallKind) (p : Payload) (f : Event) → keywords.Call kind ≡ event_kind f → IsCall operands c p → AreEventOperands operands f → IsSame (event (events.Call c kind p)) (event f)
same_call operands c kind p f kinds is are =
    let g = call_of f kind kinds in
    let is' : IsCall operands g.0 g.1 = subst (λ (e : Event). AreEventOperands operands e) g.2 are in
    let same = same_carried operands c g.0 p g.1 is is' in
    (g.1, ap event (g.2 ∙ ap (λ (n : ℕ). events.Call n kind g.1) same.0), same.1)

-- ---- raw bytes

raw_of : (e : Event) → keywords.Raw ≡ event_kind e → (c : ℕ) × (b : Bor (List ℕ)) × (e ≡ events.Raw c b)
raw_of (events.Raw c b) same = (c, b, refl)
raw_of e same = absurd cc

pub same_raw : (operands : List (List ℕ)) (c : ℕ) (b : Bor (List ℕ)) (f : Event) → keywords.Raw ≡ event_kind f → IsRaw operands c b.now → AreEventOperands operands f → IsSame (event (events.Raw c b)) (event f)
same_raw operands c b f kinds is are =
    let g = raw_of f kinds in
    let is' : IsRaw operands g.0 g.1.now = subst (λ (e : Event). AreEventOperands operands e) g.2 are in
    let words = same_hex operands c g.0 is.hex is'.hex is.words is'.words in
    (g.1, ap event (g.2 ∙ ap (λ (n : ℕ). events.Raw n g.1) words.0), same_bytes is.hex g.1.now b.now (rw words.1 is'.hex_is) is.hex_is)
