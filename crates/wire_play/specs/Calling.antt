-- How the end of a client stands that makes one call after another, each of which is complete
-- before the next one.
use Rattle.std.specs.Prelude.{◌≡◌, ℕ, zero, suc, ◌+◌, pos, List, [], ◌∷◌, ◌++◌, codes, None, Some}
use Rattle.bson_elem.specs.{Tree, leaf_pair, no_pairs, number_value}
use Rattle.bson_elem.specs.declared.kinds.Kind.TheVariants.{Int32}
use Rattle.wire_msg.specs.{body_alone}
use Rattle.wire_peer.specs.{ClientSeen}
use Rattle.wire_peer.specs.declared.calls.CallKind.TheVariants.{Plain}
use Rattle.wire_peer.specs.declared.client_state.ClientState.TheVariants.{Open}
use Rattle.wire_model.specs.{Done, Record, asked_as}
use Rattle.wire_end.specs.{EndSeen}

-- the body of the call of this number: {"n": number}, an int32
abbrev pub call_body : ℕ → Tree
call_body k = leaf_pair (codes "n") Int32 (number_value (pos k)) no_pairs

-- the record of this call, over connection 1: it is done, and was given back what it asked
abbrev pub done_call : ℕ → Record
done_call k = record {
  connection = 1;
  asked = asked_as Plain (body_alone (call_body k));
  parts = body_alone (call_body k) ∷ [];
  state = Done;
}

-- the records of the first k calls, in order
abbrev pub done_calls : ℕ → List Record
done_calls zero = []
done_calls (suc k) = done_calls k ++ done_call k ∷ []

-- An open client has made k calls, whose requests were sent. No call is outstanding, and no reply
-- is ready; the next call has the number k, and the id after it.
pub record IsIdle (k : ℕ) (client : ClientSeen) : Type 0 where
  pub number : client.requests.next_number ≡ Some k
  pub id : client.requests.next_id ≡ pos (k + 1)
  pub outstanding : client.requests.outstanding ≡ []
  pub ready : client.reply ≡ None
  pub state : client.state ≡ Open
  pub sent : client.requests.output ≡ []

-- the first k calls over this end are done, and the next one may be made
pub record AreComplete {L : Type 0} (k : ℕ) (end : EndSeen L) : Type 0 where
  pub connection : end.connection ≡ 1
  pub idle : IsIdle k end.own.client
  pub records : end.own.records ≡ done_calls k
