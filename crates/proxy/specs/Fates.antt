-- What becomes of a message that a client sends through a proxy, by the rules of a script.
use Rattle.std.specs.Prelude.{◌≡◌, ◌≢◌, ◌⊎◌, ◌≤◌, ℕ, ℤ, List, [], length, Bool, true}
use Rattle.std.specs.Prelude.{false, not, Option, Some, None, if◌then◌else◌}
use Rattle.bson_elem.specs.{Tree}
use Rattle.bson_doc.specs.{IsUnwritable, tree_of}
use Rattle.bson_doc.specs.declared.refusal.DocRefusal.{DocRefusal}
use Rattle.bson_doc.specs.declared.refusal.DocRefusal.TheVariants as documents
use Rattle.wire_msg.specs.{Content, IsBodyRefusal, IsWriteRefusal, Message, SpellsMsg, body_alone}
use Rattle.wire_msg.specs.{canonical, message_len, msg_bytes}
use Rattle.wire_msg.specs.declared.refusal.MsgRefusal.{MsgRefusal}
use Rattle.wire_msg.specs.declared.refusal.MsgRefusal.TheVariants as messages
use Rattle.wire_query.specs.{Query, SpellsQuery, message_of, raw_query_bytes, reply_bytes}
use Rattle.wire_query.specs.{reply_len}
use Rattle.wire_query.specs.Replies.{command_head}
use Rattle.script_rules.specs.{RuleView, after, met}
use Rattle.script_rules.specs.declared.action.Action.{Action}
use Rattle.script_rules.specs.declared.action.Action.TheVariants as actions
use Rattle.script_rules.specs.declared.action.Flow.{Flow}
use Rattle.script_rules.specs.declared.action.Flow.TheVariants as flows
use Rattle.proxy.specs.declared.fate.Fate.{Fate}
use Rattle.proxy.specs.declared.fate.Fate.TheVariants as fates
use Rattle.proxy.specs.declared.fate.Request.{Request}
use Rattle.proxy.specs.declared.fate.Request.TheVariants as requests
use Rattle.wire_msg.specs.declared.header.TheConstants.{MAX_MESSAGE_LEN}

-- a request of a command, by OP_MSG or by OP_QUERY
pub data Asked : Type 0 where
  by_message : Message → Asked
  by_query : Query → Asked

-- the bytes are this request, within the limit of messages
abbrev pub IsAsked : List ℕ → Asked → Type 0
IsAsked bytes (by_message m) = (length bytes ≤ MAX_MESSAGE_LEN) × SpellsMsg m bytes
IsAsked bytes (by_query q) = (length bytes ≤ MAX_MESSAGE_LEN) × SpellsQuery q bytes

-- what it carries, as rules see it
abbrev pub asked_content : Asked → Content
asked_content (by_message m) = m.content
asked_content (by_query q) = (message_of q).content

-- whether a reply to it is wanted
abbrev pub wants_reply : Asked → Bool
wants_reply (by_message m) = not m.flags.more_to_come
wants_reply (by_query q) = true

-- ---- the reply of a rule

-- the message that answers the one with this id by this body
abbrev pub answering : ℤ → Tree → Message
answering id t =
    record {
      id = id;
      response_to = id;
      flags = record { more_to_come = false; exhaust_allowed = false };
      content = body_alone t;
    }

-- the bytes of the reply with this body: none if no reply is wanted
abbrev pub reply_to : Asked → Tree → List ℕ
reply_to (by_message m) t = if m.flags.more_to_come then [] else canonical (answering m.id t)
reply_to (by_query q) t = reply_bytes (command_head q.id q.id) t

-- how many bytes that are
abbrev pub reply_size : Asked → Tree → ℕ
reply_size (by_message m) t = if m.flags.more_to_come then 0 else message_len (body_alone t)
reply_size (by_query q) t = reply_len t

-- why the reply with this body isn't written
abbrev pub IsReplyRefusal : Asked → Tree → MsgRefusal → Type 0
IsReplyRefusal (by_message m) t e =
    IsBodyRefusal t e ⊎ IsWriteRefusal MAX_MESSAGE_LEN (message_len (body_alone t)) e
IsReplyRefusal (by_query q) t e = IsWriteRefusal MAX_MESSAGE_LEN (reply_len t) e

-- no reply has this body, be there memory or not: it has no spelling, or none within the limit
abbrev pub IsUnanswerable : Asked → Tree → Type 0
IsUnanswerable a t =
    ((e : DocRefusal) × (e ≢ documents.OutOfMemory) × IsUnwritable t e)
    ⊎ ((e : MsgRefusal) × (e ≢ messages.OutOfMemory) × IsReplyRefusal a t e)

-- What becomes of a request that a rule answers with this body: it has the reply, if that is within
-- the limit.
abbrev pub IsReplied : Asked → Tree → Fate → Type 0
IsReplied a t (fates.Reply bytes) =
    (bytes.items ≡ reply_to a t) × (reply_size a t ≤ MAX_MESSAGE_LEN)
IsReplied a t fates.HangUp = IsUnanswerable a t
IsReplied a t fate = ⊥

-- ---- what becomes of a message

-- it goes on, and this becomes of its reply, if one is wanted
abbrev pub passes : Asked → Flow → Fate
passes a flow = fates.Pass (if wants_reply a then flow else flows.Whole)

-- what becomes of a request, by what the rule does that it meets
abbrev pub IsFate : Asked → Option Action → Fate → Type 0
IsFate a None fate = fate ≡ fates.Pass flows.Whole
IsFate a (Some actions.Pass) fate = fate ≡ fates.Pass flows.Whole
IsFate a (Some (actions.Reply pairs)) fate = IsReplied a (tree_of pairs) fate
IsFate a (Some (actions.Delay millis)) fate = fate ≡ fates.Delay millis
IsFate a (Some actions.HangUp) fate = fate ≡ fates.HangUp
IsFate a (Some (actions.CutUp count)) fate = fate ≡ fates.CutUp count
IsFate a (Some (actions.Cut count)) fate = fate ≡ passes a (flows.Cut count)
IsFate a (Some actions.NoReply) fate = fate ≡ passes a flows.Dropped

-- What becomes of a message by these rules, and the rules after it: a request meets the first live
-- one that is for it, and what is no request goes on.
abbrev pub Becomes : (bytes : List ℕ) → (rules : List RuleView) → Fate → (left : List RuleView)
    → Type 0
Becomes bytes rules fate left =
    ((a : Asked) × IsAsked bytes a × IsFate a (met (asked_content a) rules) fate
    × (left ≡ after (asked_content a) rules))
    ⊎ (((a : Asked) → IsAsked bytes a → ⊥) × (fate ≡ fates.Pass flows.Whole) × (left ≡ rules))

-- The rules where memory ran out for a message: as they were, or as they are after the request.
abbrev pub IsLeft : (bytes : List ℕ) → (rules left : List RuleView) → Type 0
IsLeft bytes rules left =
    (left ≡ rules)
    ⊎ ((a : Asked) × IsAsked bytes a × (left ≡ after (asked_content a) rules))

-- ---- a request that was read

-- the request is this one
abbrev pub IsRequest : Request → Asked → Type 0
IsRequest (requests.Message r) (by_message m) = IsAsked (msg_bytes r) (by_message m)
IsRequest (requests.Query r) (by_query q) = IsAsked (raw_query_bytes r) (by_query q)
IsRequest r a = ⊥
