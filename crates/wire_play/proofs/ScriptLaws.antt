-- The lines alone decide which of them is at fault.
use Rattle.std.proofs.Common.{◌≡◌, inl, inr, ◌++◌, [], ◌∷◌, ℕ, List, codes, Option, None, Some, Result, refl, sym, ap, ◌∙◌}
use Rattle.std.specs.Prelude.{flat_map}
use Rattle.wire_peer.specs.{Does, Stops}
use Rattle.wire_model.specs.declared.limits.WorldLimits.{WorldLimits}
use Rattle.wire_model.specs.declared.refusals.WorldRefusal.{WorldRefusal}
use Rattle.wire_model.specs.declared.reports.Report.{Report}
use Rattle.wire_model.specs.{World}
use Rattle.wire_play.specs.declared.named.HandlerName.{HandlerName}
use Rattle.wire_play.specs.declared.named.HandlerName.TheVariants.{Echo, Count}
use Rattle.wire_play.specs.Closing.{closing_text}
use Rattle.wire_play.specs.Reports.{result_line}
use Rattle.wire_play.specs.Scripts.{LinesText, Plays, PlaysBy, ending, world_text}

-- the same line is at fault, in whatever worlds lines are played
pub plays_fault : {H K : Type 0} (does : Does H) (stop : Stops H) (does' : Does K) (stop' : Stops K) (l l' : WorldLimits) (lines : List (ℕ × List ℕ))
    (old new : World H) (old' new' : World K) (results results' : List (Result Report WorldRefusal)) (fault fault' : Option ℕ)
    → Plays does stop l old lines results new fault → Plays does' stop' l' old' lines results' new' fault' → fault ≡ fault'
plays_fault does stop does' stop' l l' [] old new old' new' results results' fault fault' p q = p.2 ∙ sym q.2
plays_fault does stop does' stop' l l' (line ∷ lines) old new old' new' results results' fault fault' (inl p) (inl q) =
    plays_fault does stop does' stop' l l' lines p.0 new q.0 new' p.2 q.2 fault fault' p.4 q.4
plays_fault does stop does' stop' l l' (line ∷ lines) old new old' new' results results' fault fault' (inl p) (inr q) = absurd (q.0 p.3.what p.3.named)
plays_fault does stop does' stop' l l' (line ∷ lines) old new old' new' results results' fault fault' (inr p) (inl q) = absurd (p.0 q.3.what q.3.named)
plays_fault does stop does' stop' l l' (line ∷ lines) old new old' new' results results' fault fault' (inr p) (inr q) = p.3 ∙ sym q.3

-- and over whatever handlers
played_fault : (name name' : HandlerName) (l l' : WorldLimits) (lines : List (ℕ × List ℕ)) (text text' : List ℕ) (fault fault' : Option ℕ)
    → PlaysBy name l lines text fault → PlaysBy name' l' lines text' fault' → fault ≡ fault'
played_fault Echo Echo l l' lines text text' fault fault' p q = plays_fault _ _ _ _ l l' lines _ _ _ _ _ _ fault fault' p.1.2 q.1.2
played_fault Echo Count l l' lines text text' fault fault' p q = plays_fault _ _ _ _ l l' lines _ _ _ _ _ _ fault fault' p.1.2 q.1.2
played_fault Count Echo l l' lines text text' fault fault' p q = plays_fault _ _ _ _ l l' lines _ _ _ _ _ _ fault fault' p.1.2 q.1.2
played_fault Count Count l l' lines text text' fault fault' p q = plays_fault _ _ _ _ l l' lines _ _ _ _ _ _ fault fault' p.1.2 q.1.2

pub lines_fault : (lines : List (ℕ × List ℕ)) (text text' : List ℕ) (fault fault' : Option ℕ) → LinesText lines text fault → LinesText lines text' fault' → fault ≡ fault'
lines_fault [] text text' fault fault' p q = p.1 ∙ sym q.1
lines_fault (line ∷ lines) text text' fault fault' (inl p) (inl q) = played_fault p.0.handler q.0.handler p.0.limits q.0.limits lines text text' fault fault' p.2 q.2
lines_fault (line ∷ lines) text text' fault fault' (inl p) (inr q) = absurd (q.0 p.0 p.1)
lines_fault (line ∷ lines) text text' fault fault' (inr p) (inl q) = absurd (p.0 q.0 q.1)
lines_fault (line ∷ lines) text text' fault fault' (inr p) (inr q) = p.2 ∙ sym q.2

-- the lists at the end are those of the last world
same_ending : {H : Type 0} (new new' : World H) (fault : Option ℕ) → closing_text new ≡ closing_text new' → ending new fault ≡ ending new' fault
same_ending new new' None same = same
same_ending new new' (Some line) same = refl

pub same_text : {H : Type 0} (results : List (Result Report WorldRefusal)) (new new' : World H) (fault fault' : Option ℕ) → fault ≡ fault'
    → closing_text new ≡ closing_text new' → world_text results new fault ≡ world_text results new' fault'
same_text results new new' fault fault' same closing =
    ap (λ (x : List ℕ). codes "world\n" ++ (flat_map result_line results ++ x)) (same_ending new new' fault closing)
    ∙ ap (λ (f : Option ℕ). world_text results new' f) same
