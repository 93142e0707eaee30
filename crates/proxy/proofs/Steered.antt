-- What is done with a message that is held, by its header.
use Rattle.std.proofs.Common.{◌≡◌, ◌∙◌, ◌||◌, ℕ, ℤ, FitsSigned, of_z, to_z, List, Bool, Option, Result, Ok, Err, IfOk, OnOk, ap, subst, sym}
use Rattle.std.specs.Int.{w32}
use Rattle.std.proofs.lemmas.Int.{to_z-of_z}
use Rattle.wire_msg.specs.declared.header.MsgHeader.{MsgHeader}
use Rattle.wire_msg.specs.{header_of}
use Rattle.script_rules.specs.{RuleView}
use Rattle.proxy.specs.declared.fate.Fate.{Fate}
use Rattle.proxy.specs.declared.marks.Mark.{Mark}
use Rattle.proxy.specs.declared.outcome.Outcome.{Outcome}
use Rattle.proxy.specs.declared.held_link.HeldLink.{HeldLink}
use Rattle.proxy.specs.Fates.{Becomes}
use Rattle.proxy.specs.Holding.{Holds}
use Rattle.proxy.specs.Marks.{index_of, without}
use Rattle.proxy.specs.Steering.{comes_to, delays, marks_by}
use Rattle.proxy.specs.Turning.{IsMet}

pub taken_by : (bytes message : List ℕ) (h : MsgHeader) (to : ℤ) (ms new : List Mark) → FitsSigned w32 h.response_to → to ≡ to_z w32 (of_z w32 h.response_to) → bytes ≡ message → h ≡ header_of bytes
    → new ≡ without (index_of to ms) ms
    → new ≡ without (index_of (header_of message).response_to ms) ms
taken_by bytes message h to ms new fits same_to same is taken =
    taken ∙ ap (λ (x : ℤ). without (index_of x ms) ms) (same_to ∙ to_z-of_z w32 h.response_to fits) ∙ ap (λ (x : MsgHeader). without (index_of x.response_to ms) ms) (is ∙ ap header_of same)

pub met_by : {E : Type 0} (r : Result (Option Outcome) E) (bytes message : List ℕ) (h : MsgHeader) (id : ℤ) (fate : Fate) (rules left : List RuleView) (ms new : List Mark) (delayed delayed' : Bool)
    → FitsSigned w32 h.id → id ≡ to_z w32 (of_z w32 h.id) → bytes ≡ message → h ≡ header_of bytes → Becomes bytes rules fate left → IfOk r (λ o. o ≡ comes_to id fate) → OnOk r (new ≡ marks_by id fate ms) → OnOk r (delayed' ≡ (delays fate || delayed))
    → IfOk r (λ o. IsMet message rules left o ms new delayed delayed')
met_by (Err e) bytes message h id fate rules left ms new delayed delayed' fits same_id same is becomes comes marks delays_it = tt
met_by (Ok o) bytes message h id fate rules left ms new delayed delayed' fits same_id same is becomes comes marks delays_it = record {
  fate = fate;
  becomes = subst (λ (b : List ℕ). Becomes b rules fate left) same becomes;
  comes = comes ∙ ap (λ (x : ℤ). comes_to x fate) (same_id ∙ to_z-of_z w32 h.id fits) ∙ ap (λ (x : MsgHeader). comes_to x.id fate) (is ∙ ap header_of same);
  marked = marks ∙ ap (λ (x : ℤ). marks_by x fate ms) (same_id ∙ to_z-of_z w32 h.id fits) ∙ ap (λ (x : MsgHeader). marks_by x.id fate ms) (is ∙ ap header_of same);
  delays_it = delays_it;
}

-- a link that is another one holds what that one does
pub holds_by : {L : Type 0} (a b : HeldLink L) (message : List ℕ) → a ≡ b → Holds b.held message → Holds a.held message
holds_by {L} a b message is holds = subst (λ (l : HeldLink L). Holds l.held message) (sym is) holds
