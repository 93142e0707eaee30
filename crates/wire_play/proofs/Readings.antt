-- A line names one thing at most.
use Rattle.std.proofs.Common.{◌≡◌, ◌∙◌, ℕ, List, ◌∷◌, sym, ap, subst}
use Rattle.wire_model.specs.declared.events.Event.{Event}
use Rattle.wire_model.specs.declared.events.Event.TheVariants as events
use Rattle.wire_peer.specs.declared.calls.CallKind.{CallKind}
use Rattle.wire_play.specs.declared.keyword.Keyword.TheVariants as keywords
use Rattle.wire_play.specs.Naming.{AreEventOperands, AreOperands, Named, Names, event, event_kind, keyword_of, keyword_text, kind_of, setup}
use Rattle.wire_play.specs.Reading.{IsBare}
use Rattle.wire_play.proofs.Keywords.{one_keyword}
use Rattle.wire_play.specs.Same.{IsSame}
use Rattle.wire_play.proofs.BareEvents.{same_bare}
use Rattle.wire_play.proofs.BytesEvents.{same_call, same_raw}
use Rattle.wire_play.proofs.Setups.{same_setup}

-- an event with the keyword of one without bytes names no bytes
bare_too : (e f : Event) → IsBare e → event_kind e ≡ event_kind f → IsBare f
bare_too e (events.Call c kind p) none kinds = bytes_kind e none kind kinds
  where
    bytes_kind : (e : Event) → IsBare e → (kind : CallKind) → event_kind e ≡ keywords.Call kind → ⊥
    bytes_kind (events.Call c k p) none kind kinds = none
    bytes_kind e none kind kinds = absurd cc
bare_too e (events.Raw c b) none kinds = raw_kind e none kinds
  where
    raw_kind : (e : Event) → IsBare e → event_kind e ≡ keywords.Raw → ⊥
    raw_kind (events.Raw c b) none kinds = none
    raw_kind e none kinds = absurd cc
bare_too e f none kinds = tt

same_event : (operands : List (List ℕ)) (e f : Event) → event_kind e ≡ event_kind f → AreEventOperands operands e → AreEventOperands operands f → IsSame (event e) (event f)
same_event operands (events.Call c kind p) f kinds are are' = same_call operands c kind p f kinds are are'
same_event operands (events.Raw c b) f kinds are are' = same_raw operands c b f kinds are are'
same_event operands e f kinds are are' = ap event (same_bare operands e f tt (bare_too e f tt kinds) kinds are are')

no_world : (e : Event) → event_kind e ≡ keywords.World → ⊥
no_world events.Open same = cc
no_world e same = cc

same_named : (operands : List (List ℕ)) (m n : Named) → kind_of m ≡ kind_of n → AreOperands operands m → AreOperands operands n → IsSame m n
same_named operands (setup s) (setup t) kinds are are' = ap setup (same_setup operands s t are are')
same_named operands (setup s) (event f) kinds are are' = absurd (no_world f (sym kinds))
same_named operands (event e) (setup t) kinds are are' = absurd (no_world e kinds)
same_named operands (event e) (event f) kinds are are' = same_event operands e f kinds are are'

-- a line names one thing at most
pub one_named : (line : List ℕ) (m n : Named) → Names line m → Names line n → IsSame m n
one_named line m n names names' =
    let words : keyword_of m ∷ names.0 ≡ keyword_of n ∷ names'.0 = sym names.1 ∙ names'.1 in
    let texts : keyword_text (kind_of m) ≡ keyword_text (kind_of n) = cc words in
    let operands : names'.0 ≡ names.0 = cc words in
    same_named names.0 m n (one_keyword (kind_of m) (kind_of n) texts) names.2 (subst (λ (o : List (List ℕ)). AreOperands o n) operands names'.2)
