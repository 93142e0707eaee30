-- What a call does to the requests.
use Rattle.std.proofs.Common.{◌≡◌, ℕ, ◌+◌, ◌^◌, ◌<◌, ◌≤◌, Bool, true, false, [], ◌∷◌, ◌++◌, length, length-append, Option, None, SomeIff, refl, if◌then◌else◌, arith}
use Rattle.std.proofs.Math.Decide.{dec_lt}
use Rattle.wire_peer.specs.declared.calls.CallKind.{CallKind}
use Rattle.wire_peer.specs.declared.calls.CallNo.{CallNo}
use Rattle.wire_peer.specs.Calls.{awaits_reply}
use Rattle.wire_peer.specs.CallTables.{Table}
use Rattle.wire_peer.specs.Requesting.{awaiting, number_after}

-- where there was room, no more calls are outstanding than the window allows
pub awaiting_fits : (t : Table) (kind : CallKind) (call : CallNo) (window : ℕ) → length t ≤ window
    → ((awaits_reply kind ≡ true) × (window ≤ length t) → ⊥) → length (awaiting t kind call) ≤ window
awaiting_fits t kind call window fits room = by (awaits_reply kind) refl
  where
    by : (b : Bool) → awaits_reply kind ≡ b → length (if b then t ++ (call.id, record { call = call.number; kind = kind; last = None }) ∷ [] else t) ≤ window
    by true e =
        elim (dec_lt (length t) window) [
          | yes lt ↦ omega (arith, length-append t ((call.id, record { call = call.number; kind = kind; last = None }) ∷ []))
          | no le ↦ absurd (room (e, omega arith))
        ]
    by false e = fits

-- a sum that is checked is the number after, if there is one
pub number_told : (n : ℕ) (r : Option ℕ) → n < 2 ^ 64 → SomeIff r (n + 1 < 2 ^ 64) (n + 1) → r ≡ number_after n
number_told n r lt told = grind (arith, told)
