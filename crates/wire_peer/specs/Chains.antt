-- The replies to requests, as messages.
use Rattle.std.specs.Prelude.{ℕ, ℤ, pos, ◌+◌, nat_lt, List, [], ◌∷◌, ◌++◌, Bool, true, false}
use Rattle.std.specs.Prelude.{if◌then◌else◌}
use Rattle.wire_msg.specs.{Content, Message, canonical, message_len}
use Rattle.wire_peer.specs.Requests.{Asked}

-- the reply id after this one: round after 2,147,483,647 to 1
abbrev pub id_after_one : ℕ → ℕ
id_after_one id = if nat_lt id 2147483647 then id + 1 else 1

abbrev pub are_left : List Content → Bool
are_left [] = false
are_left (a ∷ answers) = true

-- a reply with this id to this id: whether another one follows it, and the answer
abbrev pub reply : ℕ → ℤ → Bool → Content → Message
reply id to more answer =
    record {
      id = pos id;
      response_to = to;
      flags = record { more_to_come = more; exhaust_allowed = false };
      content = answer;
    }

-- The replies with these answers, with ids from one on: the first to this id, each later one to the
-- reply before it.
abbrev pub chain : ℕ → ℤ → List Content → List Message
chain id to [] = []
chain id to (a ∷ answers) =
    reply id to (are_left answers) a ∷ chain (id_after_one id) (pos id) answers

-- the reply id that is next after replies with these answers
abbrev pub id_after : ℕ → List Content → ℕ
id_after id [] = id
id_after id (a ∷ answers) = id_after (id_after_one id) answers

-- the replies to a request of this id: none where none is wanted
abbrev pub replies : ℕ → ℤ → Asked → List Content → List Message
replies id to a answers = if a.more_to_come then [] else chain id to answers

abbrev pub next_id : ℕ → Asked → List Content → ℕ
next_id id a answers = if a.more_to_come then id else id_after id answers

-- the messages, each in its canonical spelling, joined
abbrev pub written : List Message → List ℕ
written [] = []
written (m ∷ ms) = canonical m ++ written ms

-- whether one of the messages is longer than the limit
abbrev pub is_longer : ℕ → List Message → Bool
is_longer limit [] = false
is_longer limit (m ∷ ms) = if nat_lt limit (message_len m.content) then true else is_longer limit ms

-- the replies that wait to be sent, as bytes, the id of the next reply, and the limit on a reply's
-- length
pub record ReplyState : Type 0 where
  pub output : List ℕ
  pub next : ℕ
  pub limit : ℕ
