use Rattle.std.proofs.Common.{◌≡◌, ◌++◌, ◌∷◌, [], ◌∙◌, ◌==◌, ℕ, Bool, false, if◌then◌else◌, List, Option, None, Some, ap, sym}
use Rattle.replay.specs.declared.answers.Answer.{Answer}
use Rattle.replay.specs.declared.finding.Finding.{Finding}
use Rattle.replay.specs.declared.finding.Finding.TheVariants.{Late}
use Rattle.replay.specs.Matchings.{Seen, first_to, has_id, is_to, matched, seen, without_first_to, without_id}
use Rattle.replay.proofs.FirstOnes.{untouched, untouched_where_none}
use Rattle.replay.proofs.matching.Matching.meet.Goals as goal

pub returns-in_ok-push-in-Some-clause-state : goal.returns-in_ok-push-in-Some-clause-state
returns-in_ok-push-in-Some-clause-state c =
    let b : Answer = c.args.received in
    let s : Seen = seen c.args.self.now in
    let made : List Answer → List Answer → List ℕ → Seen = λ x y g. record { awaited = x; early = y; open_ids = s.open_ids; given_up_ids = g } in
    let absent : has_id b.request s.given_up_ids ≡ false = sym c.take.ensures.found ∙ c.if-take.false in
    let kept : c.take.new.self.ids.items ≡ s.given_up_ids = c.take.ensures.rest ∙ untouched_where_none (λ (other : ℕ). other == b.request) s.given_up_ids absent in
    let first : first_to b.request s.awaited ≡ Some c.in-Some.recorded = sym c.take-2.ensures.found ∙ c.in-Some.is in
    let met_by : Bool → Seen × List Finding = λ h. if h then (record s { given_up_ids = without_id b.request s.given_up_ids }, Late b ∷ []) else matched b s (first_to b.request s.awaited) in
    ap (λ (x : List Answer). made x s.early c.take.new.self.ids.items) c.take-2.ensures.rest
    ∙ ap (λ (g : List ℕ). made (without_first_to b.request s.awaited) s.early g) kept
    ∙ ap (λ (o : Option Answer). (matched b s o).0) (sym first)
    ∙ ap (λ (h : Bool). (met_by h).0) (sym absent)

pub returns-in_ok-push-in-None-clause-state : goal.returns-in_ok-push-in-None-clause-state
returns-in_ok-push-in-None-clause-state c =
    let b : Answer = c.args.received in
    let s : Seen = seen c.args.self.now in
    let made : List Answer → List Answer → List ℕ → Seen = λ x y g. record { awaited = x; early = y; open_ids = s.open_ids; given_up_ids = g } in
    let absent : has_id b.request s.given_up_ids ≡ false = sym c.take.ensures.found ∙ c.if-take.false in
    let kept : c.take.new.self.ids.items ≡ s.given_up_ids = c.take.ensures.rest ∙ untouched_where_none (λ (other : ℕ). other == b.request) s.given_up_ids absent in
    let none : first_to b.request s.awaited ≡ None = sym c.take-2.ensures.found ∙ c.in-None.is in
    let same : c.take-2.new.self.list.items ≡ s.awaited = c.take-2.ensures.rest ∙ untouched (is_to b.request) s.awaited none in
    let met_by : Bool → Seen × List Finding = λ h. if h then (record s { given_up_ids = without_id b.request s.given_up_ids }, Late b ∷ []) else matched b s (first_to b.request s.awaited) in
    ap (λ (x : List Answer). made x c.push-in-None.new.self.list.items c.take.new.self.ids.items) same
    ∙ ap (λ (y : List Answer). made s.awaited y c.take.new.self.ids.items) c.in_ok-push-in-None.ensures
    ∙ ap (λ (g : List ℕ). made s.awaited (s.early ++ b ∷ []) g) kept
    ∙ ap (λ (o : Option Answer). (matched b s o).0) (sym none)
    ∙ ap (λ (h : Bool). (met_by h).0) (sym absent)
