-- How a handler with a script answers requests, and when it stops.
use Rattle.std.specs.Prelude.{◌≡◌, ◌⊎◌, List, [], ◌∷◌, Option, Some}
use Rattle.bson_doc.specs.{tree_of}
use Rattle.wire_msg.specs.{Content, body_alone}
use Rattle.wire_peer.specs.{Asked, Does, Stops}
use Rattle.wire_peer.specs.declared.handlers.HandlerStop.{HandlerStop}
use Rattle.wire_peer.specs.declared.handlers.HandlerStop.TheVariants as stopped
use Rattle.command_parts.specs.{IsUnanswerable}
use Rattle.script_rules.specs.declared.action.Action.{Action}
use Rattle.script_rules.specs.declared.action.Action.TheVariants as actions
use Rattle.script_rules.specs.declared.scripted.Scripted.{Scripted}
use Rattle.script_rules.specs.Meeting.{after, met}

-- What a rule does with a request, or no rule: a reply is the one answer, and the handler inside
-- isn't asked; at a hang-up, or where the request is cut, there is no answer; and else the handler
-- inside answers.
abbrev pub AnswersBy : {H : Type 0} → Does H → Option Action → H → Asked → List Content → H
    → Type 0
AnswersBy does (Some (actions.Reply d)) h a answers h' =
    (answers ≡ body_alone (tree_of d) ∷ []) × (h' ≡ h)
AnswersBy does (Some actions.HangUp) h a answers h' = ⊥
AnswersBy does (Some (actions.CutUp n)) h a answers h' = ⊥
AnswersBy does _ h a answers h' = does h a answers h'

-- How it stops: a reply only if it can't be written, or memory runs out; a hang-up and a request
-- that is cut always, as failed; and else as the handler inside does.
abbrev pub StopsBy : {H : Type 0} → Stops H → Option Action → H → Asked → HandlerStop → H
    → Type 0
StopsBy stops (Some (actions.Reply d)) h a stop h' =
    (stop ≡ stopped.Failed → IsUnanswerable (tree_of d)) × (h' ≡ h)
StopsBy stops (Some actions.HangUp) h a stop h' = (stop ≡ stopped.Failed) × (h' ≡ h)
StopsBy stops (Some (actions.CutUp n)) h a stop h' = (stop ≡ stopped.Failed) × (h' ≡ h)
StopsBy stops _ h a stop h' = stops h a stop h'

-- the request met the first live rule that it is for, which was used once more, and was answered as
-- that rule says
abbrev pub IsAnswered : {H : Type 0} → Does H → Scripted H → Asked → List Content → Scripted H
    → Type 0
IsAnswered does s a answers s' =
    AnswersBy does (met a.payload s.script.rules.items) s.inner a answers s'.inner
    × (s'.script.rules.items ≡ after a.payload s.script.rules.items)

-- the same of a stop; or memory ran out before a rule was met, and nothing changed
abbrev pub IsStopped : {H : Type 0} → Stops H → Scripted H → Asked → HandlerStop → Scripted H
    → Type 0
IsStopped stops s a stop s' =
    (StopsBy stops (met a.payload s.script.rules.items) s.inner a stop s'.inner
    × (s'.script.rules.items ≡ after a.payload s.script.rules.items))
    ⊎ ((stop ≡ stopped.OutOfMemory) × (s'.script.rules.items ≡ s.script.rules.items)
    × (s'.inner ≡ s.inner))
