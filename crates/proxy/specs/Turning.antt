-- What a turn of a pair of connections comes to.
use Rattle.std.specs.Prelude.{◌≡◌, ◌==◌, ◌||◌, ◌&&◌, ℕ, List, Bool, true, false, not, nat_lt}
use Rattle.std.specs.Prelude.{Option, None, Some, Result, Ok, Err, if◌then◌else◌}
use Rattle.std.specs.declared.io.ErrorKind.{ErrorKind}
use Rattle.std.specs.declared.io.ErrorKind.TheVariants.{OutOfMemory}
use Rattle.wire_msg.specs.{header_of}
use Rattle.script_rules.specs.{RuleView}
use Rattle.sockets.specs.declared.turned.RelayFault.{RelayFault}
use Rattle.sockets.specs.declared.turned.RelayFault.TheVariants.{Receiving, Sending}
use Rattle.sockets.specs.declared.turned.Turned.{Turned}
use Rattle.sockets.specs.declared.turned.Turned.TheVariants as turns
use Rattle.proxy.specs.declared.direction.Direction.{Direction}
use Rattle.proxy.specs.declared.direction.Direction.TheVariants as directions
use Rattle.proxy.specs.declared.ending.Ending.{Ending}
use Rattle.proxy.specs.declared.ending.Ending.TheVariants as endings
use Rattle.proxy.specs.declared.ending.Side.{Side}
use Rattle.proxy.specs.declared.ending.Side.TheVariants as sides
use Rattle.proxy.specs.declared.fate.Fate.{Fate}
use Rattle.proxy.specs.declared.held_link.HeldLink.{HeldLink}
use Rattle.proxy.specs.declared.marks.Mark.{Mark}
use Rattle.proxy.specs.declared.outcome.Outcome.{Outcome}
use Rattle.proxy.specs.declared.outcome.Outcome.TheVariants as outcomes
use Rattle.proxy.specs.Fates.{Becomes}
use Rattle.proxy.specs.Steering.{comes_to, delays, marks_by}

-- how many bytes a link gave, if no more may be given because of a cut
abbrev pub cut_at : {L : Type 0} → HeldLink L → Option ℕ
cut_at link = if link.held.left == 0 then Some link.held.given else None

-- A connection was cut on this way, if the sending on it was ended behind so many bytes, and no
-- more may go there.
abbrev pub cut_way : (has_ended : Bool) → Direction → Option ℕ → Option Ending
cut_way true direction (Some count) = Some (endings.Cut direction count)
cut_way has_ended direction count = None

-- the first of two endings, if there is one
abbrev pub first_of : Option Ending → Option Ending → Option Ending
first_of (Some ending) other = Some ending
first_of None other = other

-- how a connection was cut, by its links to the client and to the server
abbrev pub cut_of : {N F : Type 0} → HeldLink N → HeldLink F → Option Ending
cut_of near far =
    first_of (cut_way far.has_ended directions.There (cut_at near))
    (cut_way near.has_ended directions.Back (cut_at far))

-- whose link failed, once one did
abbrev pub failed_side : {N : Type 0} → HeldLink N → Side
failed_side near = if nat_lt 0 near.failures then sides.Client else sides.Server

-- what steps came to
abbrev pub outcome_of : (cut : Option Ending) → Side → Result Turned RelayFault → Outcome
outcome_of (Some ending) side turned = outcomes.Over ending
outcome_of None side (Ok turns.Again) = outcomes.Again
outcome_of None side (Ok turns.Waits) = outcomes.Waits
outcome_of None side (Ok turns.Over) = outcomes.Over endings.Ended
outcome_of None side (Err fault) = outcomes.Over (endings.Failed side fault)

-- what it comes to, if there may be more to do at once
abbrev pub or_again : Outcome → Bool → Outcome
or_again outcome more = if more then outcomes.Again else outcome

-- why a link failed
abbrev pub failed_by : RelayFault → ErrorKind
failed_by (Receiving fault) = fault.kind
failed_by (Sending fault) = fault.kind

-- a link failed since memory ran out
abbrev pub LacksMemory : Outcome → Type 0
LacksMemory (outcomes.Over (endings.Failed side fault)) = failed_by fault ≡ OutOfMemory
LacksMemory outcome = ⊥

-- What a turn comes to before the connection to the server stands, which is then still being made;
-- or it stands.
abbrev pub IsConnecting : Option Outcome → (connecting : Bool) → Type 0
IsConnecting None connecting = connecting ≡ false
IsConnecting (Some outcomes.Waits) connecting = connecting ≡ true
IsConnecting (Some (outcomes.Over (endings.Unconnected failure))) connecting = connecting ≡ true
IsConnecting outcome connecting = ⊥

-- A request may be answered or go on: none is delayed, and what was to be given to the client was
-- given, or can't be any more.
abbrev pub may_steer : (delayed owes ended : Bool) → Bool
may_steer delayed owes ended = not delayed && (not owes || ended)

-- What the rules make of a request with these bytes, which came whole: what the turn comes to, the
-- rules that are left, the marks of replies, and whether a request is delayed then.
pub record IsMet (message : List ℕ) (rules left : List RuleView) (outcome : Option Outcome)
    (marks marks' : List Mark) (delayed delayed' : Bool) : Type 0 where
  pub fate : Fate
  pub becomes : Becomes message rules fate left
  pub comes : outcome ≡ comes_to (header_of message).id fate
  pub marked : marks' ≡ marks_by (header_of message).id fate marks
  pub delays_it : delayed' ≡ (delays fate || delayed)
