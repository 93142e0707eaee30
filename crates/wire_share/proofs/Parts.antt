-- The one reply to a call, among those that were handed out.
use Rattle.std.proofs.Common.{◌≡◌, ℕ, Bool, true, List, [], ◌∷◌, ◌++◌, refl, sym, ◌∙◌, ap, inl, inr}
use Rattle.std.specs.Prelude.{if◌then◌else◌}
use Rattle.wire_msg.specs.{Content, Message}
use Rattle.wire_peer.specs.declared.call_table.ReadyReply.{ReadyReply}
use Rattle.wire_model.proofs.Lemmas.{is_elsewhere, is_here}
use Rattle.wire_model.specs.{ClientAct, handed}
use Rattle.wire_model.specs.Alone.{HasLast, NoneBehind, NoneTo, parts_to}
use Rattle.wire_model.specs.Owners.{Calls, Collects, EndsDown, SendsUp, TakesDown}

abbrev pub Handed : Type 0
Handed = ReadyReply × Message

-- each reply is the last one of its call
abbrev pub AllLast : List Handed → Type 0
AllLast [] = Unit {0}
AllLast (r ∷ rs) = (r.0.last ≡ true) × AllLast rs

pub none_front : (xs ys : List Handed) → NoneBehind (xs ++ ys) → NoneBehind xs
none_front [] ys none = tt
none_front (x ∷ xs) ys none = (λ last. to_front xs (none.0 last), none_front xs ys none.1)
  where
    to_front : (zs : List Handed) → NoneTo x.0.call (zs ++ ys) → NoneTo x.0.call zs
    to_front [] to = tt
    to_front (z ∷ zs) to = (to.0, to_front zs to.1)

-- a reply that is among others is to no call to which none of them is
pub not_among : (call : ℕ) (before after : List Handed) (r : Handed) → NoneTo call (before ++ r ∷ after) → r.0.call ≡ call → ⊥
not_among call [] after r none same = none.0 same
not_among call (x ∷ before) after r none same = not_among call before after r none.1 same

no_parts : (call : ℕ) (rs : List Handed) → NoneTo call rs → parts_to call rs ≡ []
no_parts call [] none = refl
no_parts call (r ∷ rs) none =
    ap (λ (b : Bool). if b then r.1.content ∷ parts_to call rs else parts_to call rs) (is_elsewhere call r.0.call none.0) ∙ no_parts call rs none.1

-- a call of which each reply is the last has one
pub only_part : (before after : List Handed) (r : Handed) → AllLast (before ++ r ∷ after) → NoneBehind (before ++ r ∷ after) → parts_to r.0.call (before ++ r ∷ after) ≡ r.1.content ∷ []
only_part [] after r last none =
    ap (λ (b : Bool). if b then r.1.content ∷ parts_to r.0.call after else parts_to r.0.call after) (is_here r.0.call r.0.call refl)
    ∙ ap (λ (cs : List Content). r.1.content ∷ cs) (no_parts r.0.call after (none.0 last.0))
only_part (x ∷ before) after r last none =
    ap (λ (b : Bool). if b then x.1.content ∷ parts_to r.0.call (before ++ r ∷ after) else parts_to r.0.call (before ++ r ∷ after))
    (is_elsewhere r.0.call x.0.call (λ same. not_among x.0.call before after r (none.0 last.0) (sym same)))
    ∙ only_part before after r last.1 none.1

-- no reply behind it is to its call
pub none_later : (before after : List Handed) (r : Handed) → AllLast (before ++ r ∷ after) → NoneBehind (before ++ r ∷ after) → NoneTo r.0.call after
none_later [] after r last none = none.0 last.0
none_later (x ∷ before) after r last none = none_later before after r last.1 none.1

-- ---- what acts hand out

pub handed_on : (xs ys : List ClientAct) → handed (xs ++ ys) ≡ handed xs ++ handed ys
handed_on [] ys = refl
handed_on (Calls kind payload number ∷ xs) ys = handed_on xs ys
handed_on (SendsUp bytes ∷ xs) ys = handed_on xs ys
handed_on (TakesDown bytes ∷ xs) ys = handed_on xs ys
handed_on (Collects reply m ∷ xs) ys = ap (λ (rs : List Handed). (reply, m) ∷ rs) (handed_on xs ys)
handed_on (EndsDown ∷ xs) ys = handed_on xs ys

pub has_last : (before after : List Handed) (r : Handed) → r.0.last ≡ true → HasLast r.0.call (before ++ r ∷ after)
has_last [] after r last = inl (refl, last)
has_last (x ∷ before) after r last = inr (has_last before after r last)
