-- What a client puts out, and which call it refuses.
use Rattle.std.specs.Prelude.{◌≡◌, ◌≢◌, ℕ, ◌+◌, ◌-◌, ◌^◌, ◌<◌, ◌≤◌, ℤ, true, if◌then◌else◌, ◌==◌}
use Rattle.std.specs.Prelude.{List, [], ◌∷◌, ◌++◌, length, Option, Some, None}
use Rattle.wire_msg.specs.{Content, canonical, message_len}
use Rattle.wire_peer.specs.declared.calls.CallKind.{CallKind}
use Rattle.wire_peer.specs.declared.calls.CallNo.{CallNo}
use Rattle.wire_peer.specs.declared.calls.CallRefusal.{CallRefusal}
use Rattle.wire_peer.specs.declared.calls.CallRefusal.TheVariants.{Closed, WindowFull, TooLarge}
use Rattle.wire_peer.specs.declared.calls.CallRefusal.TheVariants.{NumbersSpent, OutOfMemory}
use Rattle.wire_peer.specs.Calls.{awaits_reply, request}
use Rattle.wire_peer.specs.FreeIds.{IsFirstFree, id_following}
use Rattle.wire_peer.specs.CallTables.{Table, ids}

-- The limit of a message and the window, the bytes that weren't sent yet, the outstanding calls,
-- the id from which the next request's is looked for, and the next call's number, if there is one.
pub record RequestState : Type 0 where
  pub limit : ℕ
  pub window : ℕ
  pub output : List ℕ
  pub outstanding : Table
  pub next_id : ℤ
  pub next_number : Option ℕ

-- the number after this one; the greatest is 18,446,744,073,709,551,615
abbrev pub number_after : ℕ → Option ℕ
number_after n = if n == 2 ^ 64 - 1 then None else Some (n + 1)

-- a call that awaits a reply goes behind the others
abbrev pub awaiting : Table → CallKind → CallNo → Table
awaiting t kind call =
    if awaits_reply kind
    then t ++ (call.id, record { call = call.number; kind = kind; last = None }) ∷ [] else t

-- the call has the next number, and the first id from the next one on that no outstanding call
-- bears
pub record IsNextCall (r : RequestState) (call : CallNo) : Type 0 where
  pub number : r.next_number ≡ Some call.number
  pub id : IsFirstFree r.next_id (ids r.outstanding) call.id

-- the request is put out and its call outstanding, if it awaits a reply
abbrev pub after_call : RequestState → CallKind → Content → CallNo → RequestState
after_call r kind c call = record r {
  output = r.output ++ canonical (request call.id kind c);
  outstanding = awaiting r.outstanding kind call;
  next_id = id_following call.id;
  next_number = number_after call.number;
}

-- as many calls are outstanding as the window allows, and this one would be too
abbrev pub IsFull : RequestState → CallKind → Type 0
IsFull r kind = (awaits_reply kind ≡ true) × (r.window ≤ length r.outstanding)

-- the first check that the call fails: the window, the length, the number, the memory
abbrev pub IsRefused : RequestState → CallKind → Content → CallRefusal → Type 0
IsRefused r kind c WindowFull = IsFull r kind
IsRefused r kind c TooLarge = (IsFull r kind → ⊥) × (r.limit < message_len c)
IsRefused r kind c NumbersSpent =
    (IsFull r kind → ⊥) × (message_len c ≤ r.limit) × (r.next_number ≡ None)
IsRefused r kind c OutOfMemory =
    (IsFull r kind → ⊥) × (message_len c ≤ r.limit) × (r.next_number ≢ None)
IsRefused r kind c Closed = ⊥

-- none of them fails
pub record IsAccepted (r : RequestState) (kind : CallKind) (c : Content) (call : CallNo) :
    Type 0 where
  pub next : IsNextCall r call
  pub window : IsFull r kind → ⊥
  pub within : message_len c ≤ r.limit
