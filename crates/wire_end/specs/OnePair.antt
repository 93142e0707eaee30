-- One client and one server: what was done at both, in one order, and what is known of the calls.
use Rattle.std.specs.Prelude.{◌≡◌, ℕ, ◌==◌, if◌then◌else◌, Some, List, [], ◌∷◌, slice_get}
use Rattle.wire_peer.specs.{Does, LogEntry, Stops}
use Rattle.wire_model.specs.{ClientAct, ClientEnd, Deed, Done, Made, OwnersKnow, Record, ServerAct}
use Rattle.wire_model.specs.{ServerEnd, among, first_end}
use Rattle.wire_model.specs.Deeds.{AtClient, AtServer}
use Rattle.wire_model.specs.Knowing.{IsEntry}

-- These deeds are these acts of the client and these of the server, in one order. Their connection
-- is number 1.
abbrev pub AreInOrder : List ClientAct → List ServerAct → List Deed → Type 0
AreInOrder acts served [] = (acts ≡ []) × (served ≡ [])
AreInOrder acts served (AtClient c act ∷ deeds) =
    (c ≡ 1) × ((more : List ClientAct) × (acts ≡ act ∷ more) × AreInOrder more served deeds)
AreInOrder acts served (AtServer c act ∷ deeds) =
    (c ≡ 1) × ((more : List ServerAct) × (served ≡ act ∷ more) × AreInOrder acts more deeds)

-- the client of connection 1 and its records; no other client made a call
abbrev pub only_client : (limit : ℕ) → Made → ClientEnd → ℕ → ClientEnd
only_client limit made own c = if 1 == c then own else first_end limit (λ _. made) c

-- the owners of the two ends know of their calls what owners do
abbrev pub PairKnows : {H : Type 0} → Does H → Stops H → (limit : ℕ) → Made → H → List Deed
    → ClientEnd → ServerEnd H → Type 0
PairKnows does stops limit made first deeds client server =
    OwnersKnow does stops 1 first deeds (only_client limit made client)
    (among (server.server ∷ []) server)

-- Each call that is done has an entry of its own in the log, with its payload, and holds exactly
-- the answers of this entry.
pub record AreAnswered (records : List Record) (log : List LogEntry) : Type 0 where
  pub entry : ℕ → ℕ
  pub answered : (n : ℕ) (x : Record) → slice_get records n ≡ Some x → x.state ≡ Done
      → (is : IsEntry log (entry n) x) × (is.entry.answers ≡ Some x.parts)
  pub own : (n k : ℕ) (x y : Record) → slice_get records n ≡ Some x → x.state ≡ Done
      → slice_get records k ≡ Some y → y.state ≡ Done → entry n ≡ entry k → n ≡ k
