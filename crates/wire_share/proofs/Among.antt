-- Acts among others, and what they are at each end.
use Rattle.std.proofs.Common.{◌≡◌, ℕ, Bool, true, false, List, [], ◌∷◌, ◌++◌, refl, sym, ◌∙◌, ap, subst, Option, Some, None, ◌⊎◌, inl, inr}
use Rattle.std.specs.Prelude.{◌==◌, if◌then◌else◌}
use Rattle.std.proofs.lemmas.Bool.{eqb-true}
use Rattle.std.proofs.lemmas.Option.{none-some}
use Rattle.wire_msg.specs.{Message}
use Rattle.wire_msg.specs.declared.payloads.Payload.{Payload}
use Rattle.wire_peer.specs.{LogEntry}
use Rattle.wire_peer.specs.declared.call_table.ReadyReply.{ReadyReply}
use Rattle.wire_peer.specs.declared.calls.CallNo.{CallNo}
use Rattle.wire_model.proofs.Lemmas.{is_here}
use Rattle.wire_model.specs.{ClientAct, handed}
use Rattle.wire_model.specs.Owners as owners
use Rattle.wire_share.specs.declared.awaited.Awaited.{Awaited}
use Rattle.wire_share.specs.Acts.{Answers, AreFit, DownAct, EndsUp, Gives, IsFit, LetsGo, Moves, MovesDown, Passes, PassesOn, SendsUp, ShareAct, TakesUp, act_at, act_of, acts_at, acts_of, with_act}
use Rattle.wire_share.specs.Sharing.{kind_by}
use Rattle.wire_peer.specs.Calls.{allows_more}
use Rattle.wire_share.proofs.Lasts.{ActsOnce}
use Rattle.wire_share.proofs.Parts.{handed_on}

-- ---- lists

abbrev pub Inside : {A : Type 0} → A → List A → Type 0
Inside a [] = ⊥
Inside a (x ∷ xs) = (x ≡ a) ⊎ Inside a xs

pub inside : {A : Type 0} (a : A) (before after : List A) → Inside a (before ++ a ∷ after)
inside a [] after = inl refl
inside a (x ∷ before) after = inr (inside a before after)

pub split_at_act : {A : Type 0} (a : A) (xs : List A) → Inside a xs → (before after : List A) × (xs ≡ before ++ a ∷ after)
split_at_act a [] i = absurd i
split_at_act a (x ∷ xs) (inl same) = ([], xs, ap (λ y. y ∷ xs) same)
split_at_act a (x ∷ xs) (inr i) =
    let s = split_at_act a xs i in
    (x ∷ s.0, s.1, ap (λ ys. x ∷ ys) s.2)

-- ---- an act in front of others

later : {A : Type 0} (a : A) (o : Option A) (xs : List A) → Inside a xs → Inside a (with_act o xs)
later a None xs i = i
later a (Some x) xs i = inr i

now : {A : Type 0} (a : A) (o : Option A) (xs : List A) → o ≡ Some a → Inside a (with_act o xs)
now a o xs is = subst (λ z. Inside a (with_act z xs)) (sym is) (inl refl)

with_on : {A : Type 0} (o : Option A) (xs ys : List A) → with_act o (xs ++ ys) ≡ with_act o xs ++ ys
with_on None xs ys = refl
with_on (Some x) xs ys = refl

-- ---- at each end

here : {A : Type 0} (d : ℕ) (a : A) → (if d == d then Some a else None) ≡ Some a
here d a = ap (λ (b : Bool). if b then Some a else None) (is_here d d refl)

pub inside_down : (act : ShareAct) (acts : List ShareAct) (d : ℕ) (a : DownAct) → act_at act d ≡ Some a → Inside act acts → Inside a (acts_at acts d)
inside_down act [] d a is i = absurd i
inside_down act (x ∷ acts) d a is (inl same) = now a (act_at x d) (acts_at acts d) (ap (λ (y : ShareAct). act_at y d) same ∙ is)
inside_down act (x ∷ acts) d a is (inr i) = later a (act_at x d) (acts_at acts d) (inside_down act acts d a is i)

pub given_here : (d u : ℕ) (m answer : Message) (reply : ReadyReply) (made : List LogEntry)
    → act_at (Gives d u m reply answer made) d ≡ Some (Answers m (record { upstream = u; call = reply.call }) answer.content made)
given_here d u m answer reply made = here d (Answers m (record { upstream = u; call = reply.call }) answer.content made)

pub inside_up : (act : ShareAct) (acts : List ShareAct) (u : ℕ) (a : ClientAct) → act_of act u ≡ Some a → Inside act acts → Inside a (acts_of acts u)
inside_up act [] u a is i = absurd i
inside_up act (x ∷ acts) u a is (inl same) = now a (act_of x u) (acts_of acts u) (ap (λ (y : ShareAct). act_of y u) same ∙ is)
inside_up act (x ∷ acts) u a is (inr i) = later a (act_of x u) (acts_of acts u) (inside_up act acts u a is i)

pub passed_here : (d u : ℕ) (m : Message) (payload : Payload) (number : CallNo) (made : List LogEntry)
    → act_of (Passes d u m payload number made) u ≡ Some (owners.Calls (kind_by m.flags.more_to_come) payload number)
passed_here d u m payload number made = here u (owners.Calls (kind_by m.flags.more_to_come) payload number)

pub of_on : (before after : List ShareAct) (u : ℕ) → acts_of (before ++ after) u ≡ acts_of before u ++ acts_of after u
of_on [] after u = refl
of_on (x ∷ before) after u = ap (λ (xs : List ClientAct). with_act (act_of x u) xs) (of_on before after u) ∙ with_on (act_of x u) (acts_of before u) (acts_of after u)

-- what an upstream hands out before, at and after an answer
pub handed_at : (before after : List ShareAct) (d u : ℕ) (m answer : Message) (reply : ReadyReply) (made : List LogEntry)
    → handed (acts_of (before ++ Gives d u m reply answer made ∷ after) u) ≡ handed (acts_of before u) ++ (reply, answer) ∷ handed (acts_of after u)
handed_at before after d u m answer reply made =
    ap handed (of_on before (Gives d u m reply answer made ∷ after) u) ∙ handed_on (acts_of before u) (acts_of (Gives d u m reply answer made ∷ after) u)
    ∙ ap (λ (o : Option ClientAct). handed (acts_of before u) ++ handed (with_act o (acts_of after u))) (here u (owners.Collects reply answer))

-- ---- acts that fit

pub fits : (act : ShareAct) (acts : List ShareAct) → AreFit acts → Inside act acts → IsFit act
fits act [] fit i = absurd i
fits act (x ∷ acts) fit (inl same) = subst IsFit same fit.0
fits act (x ∷ acts) fit (inr i) = fits act acts fit.1 i

-- ---- what is asked of an upstream

-- the calls of an act allow one reply
abbrev AsksOnce : Option ClientAct → Type 0
AsksOnce None = Unit {0}
AsksOnce (Some (owners.Calls kind payload number)) = allows_more kind ≡ false
AsksOnce (Some (owners.Collects reply m)) = Unit {0}
AsksOnce (Some (owners.SendsUp bytes)) = Unit {0}
AsksOnce (Some (owners.TakesDown bytes)) = Unit {0}
AsksOnce (Some owners.EndsDown) = Unit {0}

once_if : (b : Bool) (a : ClientAct) → AsksOnce (Some a) → AsksOnce (if b then Some a else None)
once_if true a once = once
once_if false a once = tt

kind_once : (more : Bool) → allows_more (kind_by more) ≡ false
kind_once true = refl
kind_once false = refl

asks_once : (act : ShareAct) (u : ℕ) → AsksOnce (act_of act u)
asks_once (MovesDown d move) u = tt
asks_once (SendsUp v bytes) u = once_if (v == u) (owners.SendsUp bytes) tt
asks_once (TakesUp v bytes) u = once_if (v == u) (owners.TakesDown bytes) tt
asks_once (EndsUp v) u = once_if (v == u) owners.EndsDown tt
asks_once (Passes d v m payload number made) u = once_if (v == u) (owners.Calls (kind_by m.flags.more_to_come) payload number) (kind_once m.flags.more_to_come)
asks_once (Gives d v m reply answer made) u = once_if (v == u) (owners.Collects reply answer) tt
asks_once (LetsGo v reply answer) u = once_if (v == u) (owners.Collects reply answer) tt

with_once : (o : Option ClientAct) (acts : List ClientAct) → AsksOnce o → ActsOnce acts → ActsOnce (with_act o acts)
with_once None acts once all = all
with_once (Some (owners.Calls kind payload number)) acts once all = (once, all)
with_once (Some (owners.Collects reply m)) acts once all = all
with_once (Some (owners.SendsUp bytes)) acts once all = all
with_once (Some (owners.TakesDown bytes)) acts once all = all
with_once (Some owners.EndsDown) acts once all = all

pub acts_once : (acts : List ShareAct) (u : ℕ) → ActsOnce (acts_of acts u)
acts_once [] u = tt
acts_once (act ∷ acts) u = with_once (act_of act u) (acts_of acts u) (asks_once act u) (acts_once acts u)

-- ---- where a request was passed on

-- a request of this downstream was passed on as this call of some upstream
abbrev pub WasPassed : ℕ → Message → Awaited → List ShareAct → Type 0
WasPassed d m call acts =
    (u : ℕ) × (payload : Payload) × (number : CallNo) × (made : List LogEntry) × Inside (Passes d u m payload number made) acts
    × (record { upstream = u; call = number.number } ≡ call)

was_later : (d : ℕ) (m : Message) (call : Awaited) (x : ShareAct) (acts : List ShareAct) → WasPassed d m call acts → WasPassed d m call (x ∷ acts)
was_later d m call x acts p = (p.0, p.1, p.2, p.3, inr p.4, p.5)

-- the message and the call of an act, if it passes a request on
abbrev passing : DownAct → Option (Message × Awaited)
passing (Moves move) = None
passing (PassesOn m call made) = Some (m, call)
passing (Answers m call answer made) = None

not_that : (b : Bool) (a : DownAct) (m : Message) (call : Awaited) (made : List LogEntry) (acts : List DownAct) → passing a ≡ None
    → Inside (PassesOn m call made) (with_act (if b then Some a else None) acts) → Inside (PassesOn m call made) acts
not_that true a m call made acts none (inl same) = absurd (none-some (m, call) (sym none ∙ ap passing same))
not_that true a m call made acts none (inr i) = i
not_that false a m call made acts none i = i

message_same : (n m : Message) (c call : Awaited) (told made : List LogEntry) → PassesOn n c told ≡ PassesOn m call made → n ≡ m
message_same n m c call told made same = cc

call_same : (n m : Message) (c call : Awaited) (told made : List LogEntry) → PassesOn n c told ≡ PassesOn m call made → c ≡ call
call_same n m c call told made same = cc

-- one of the downstream e, if that is d
one_passed : (b : Bool) (d e u : ℕ) (n m : Message) (payload : Payload) (number : CallNo) (call : Awaited) (told made : List LogEntry) (acts : List ShareAct)
    → (b ≡ true → e ≡ d) → (Inside (PassesOn m call made) (acts_at acts d) → WasPassed d m call (Passes e u n payload number told ∷ acts))
    → Inside (PassesOn m call made) (with_act (if b then Some (PassesOn n (record { upstream = u; call = number.number }) told) else None) (acts_at acts d))
    → WasPassed d m call (Passes e u n payload number told ∷ acts)
one_passed true d e u n m payload number call told made acts is later_on (inl same) =
    let c : Awaited = record { upstream = u; call = number.number } in
    let at : Passes e u n payload number told ≡ Passes d u m payload number told =
    ap (λ (k : ℕ). Passes k u n payload number told) (is refl) ∙ ap (λ (x : Message). Passes d u x payload number told) (message_same n m c call told made same) in
    (u, payload, number, told, inl at, call_same n m c call told made same)
one_passed true d e u n m payload number call told made acts is later_on (inr j) = later_on j
one_passed false d e u n m payload number call told made acts is later_on j = later_on j

pub was_passed : (acts : List ShareAct) (d : ℕ) (m : Message) (call : Awaited) (made : List LogEntry) → Inside (PassesOn m call made) (acts_at acts d) → WasPassed d m call acts
was_passed [] d m call made i = absurd i
was_passed (MovesDown e move ∷ acts) d m call made i =
    was_later d m call _ acts (was_passed acts d m call made (not_that (e == d) (Moves move) m call made (acts_at acts d) refl i))
was_passed (SendsUp u bytes ∷ acts) d m call made i = was_later d m call _ acts (was_passed acts d m call made i)
was_passed (TakesUp u bytes ∷ acts) d m call made i = was_later d m call _ acts (was_passed acts d m call made i)
was_passed (EndsUp u ∷ acts) d m call made i = was_later d m call _ acts (was_passed acts d m call made i)
was_passed (LetsGo u reply answer ∷ acts) d m call made i = was_later d m call _ acts (was_passed acts d m call made i)
was_passed (Gives e u n reply answer told ∷ acts) d m call made i =
    was_later d m call _ acts
    (was_passed acts d m call made (not_that (e == d) (Answers n (record { upstream = u; call = reply.call }) answer.content told) m call made (acts_at acts d) refl i))
was_passed (Passes e u n payload number told ∷ acts) d m call made i =
    one_passed (e == d) d e u n m payload number call told made acts (eqb-true e d) (λ j. was_later d m call (Passes e u n payload number told) acts (was_passed acts d m call made j)) i

-- ---- the acts before one

-- the acts at a downstream, before an act and from it on
pub at_on : (before after : List ShareAct) (d : ℕ) → acts_at (before ++ after) d ≡ acts_at before d ++ acts_at after d
at_on [] after d = refl
at_on (x ∷ before) after d = ap (λ (xs : List DownAct). with_act (act_at x d) xs) (at_on before after d) ∙ with_on (act_at x d) (acts_at before d) (acts_at after d)
