-- Events that name no bytes: a keyword and operands name at most one.
use Rattle.std.proofs.Common.{◌≡◌, ◌∙◌, ℕ, List, [], ◌∷◌, refl, sym, ap}
use Rattle.std.specs.Str.Parse.{digits_value}
use Rattle.wire_model.specs.declared.events.Event.{Event}
use Rattle.wire_model.specs.declared.events.Event.TheVariants as events
use Rattle.wire_play.specs.declared.keyword.Keyword.{Keyword}
use Rattle.wire_play.specs.declared.keyword.Keyword.TheVariants as keywords
use Rattle.wire_play.specs.Naming.{AreEventOperands, AreTwoNumbers, IsOneNumber, event_kind}
use Rattle.wire_play.specs.Reading.{IsBare}

-- the value of the first operand, and of the second
abbrev pub first_value : List (List ℕ) → ℕ
first_value [] = 0
first_value (word ∷ words) = digits_value 10 word

abbrev second_value : List (List ℕ) → ℕ
second_value [] = 0
second_value (word ∷ words) = first_value words

-- the event of a keyword and these values
abbrev bare : Keyword → ℕ → ℕ → Event
bare keywords.Open c n = events.Open
bare keywords.Return c n = events.Return c
bare keywords.Up c n = events.Up c n
bare keywords.Down c n = events.Down c n
bare keywords.Answer c n = events.Answer c n
bare keywords.CutUp c n = events.CutUp c
bare keywords.CutDown c n = events.CutDown c
bare keywords.Clear c n = events.Clear
bare keywords.Restart c n = events.Restart
bare keywords.RawOpen c n = events.RawOpen
bare keywords.RawTake c n = events.RawTake c n
bare k c n = events.Open

one_value : (operands : List (List ℕ)) (c : ℕ) → IsOneNumber operands c → c ≡ first_value operands
one_value operands c is = is.connection_is.value ∙ sym (ap first_value is.words)

two_values : (operands : List (List ℕ)) (c n : ℕ) → AreTwoNumbers operands c n → (c ≡ first_value operands) × (n ≡ second_value operands)
two_values operands c n are = (are.connection_is.value ∙ sym (ap first_value are.words), are.count_is.value ∙ sym (ap second_value are.words))

-- the operands say which event it is
bare_is : (operands : List (List ℕ)) (e : Event) → IsBare e → AreEventOperands operands e → e ≡ bare (event_kind e) (first_value operands) (second_value operands)
bare_is operands events.Open none are = refl
bare_is operands (events.Return c) none are = ap events.Return (one_value operands c are)
bare_is operands (events.Call c kind payload) none are = absurd none
bare_is operands (events.Up c n) none are = let v = two_values operands c n are in rw (← v.0, ← v.1) refl
bare_is operands (events.Down c n) none are = let v = two_values operands c n are in rw (← v.0, ← v.1) refl
bare_is operands (events.Answer c n) none are = let v = two_values operands c n are in rw (← v.0, ← v.1) refl
bare_is operands (events.CutUp c) none are = ap events.CutUp (one_value operands c are)
bare_is operands (events.CutDown c) none are = ap events.CutDown (one_value operands c are)
bare_is operands events.Clear none are = refl
bare_is operands events.Restart none are = refl
bare_is operands events.RawOpen none are = refl
bare_is operands (events.Raw c bytes) none are = absurd none
bare_is operands (events.RawTake c n) none are = let v = two_values operands c n are in rw (← v.0, ← v.1) refl

-- two events of one keyword that name no bytes
pub same_bare : (operands : List (List ℕ)) (e f : Event) → IsBare e → IsBare f → event_kind e ≡ event_kind f → AreEventOperands operands e → AreEventOperands operands f → f ≡ e
same_bare operands e f none none' kinds are are' =
    bare_is operands f none' are' ∙ (ap (λ (k : Keyword). bare k (first_value operands) (second_value operands)) (sym kinds) ∙ sym (bare_is operands e none are))
