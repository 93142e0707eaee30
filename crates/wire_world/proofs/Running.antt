-- A run that goes on by one event.
use Rattle.std.specs.Prelude.{List, [], ◌∷◌, ◌++◌, Result}
use Rattle.std.proofs.Common.{refl, subst}
use Rattle.wire_peer.specs.{Does, Stops}
use Rattle.wire_model.specs.{Happens, Run, World}
use Rattle.wire_model.specs.declared.events.Event.{Event}
use Rattle.wire_model.specs.declared.limits.WorldLimits.{WorldLimits}
use Rattle.wire_model.specs.declared.refusals.WorldRefusal.{WorldRefusal}
use Rattle.wire_model.specs.declared.reports.Report.{Report}

pub run_more : {H : Type 0} (does : Does H) (stops : Stops H) (l : WorldLimits) (es : List Event) (e : Event) (r : Result Report WorldRefusal) (old mid new : World H)
    → Run does stops l old es mid → Happens does stops l mid e r new → Run does stops l old (es ++ e ∷ []) new
run_more does stops l [] e r old mid new run h = (new, (r, subst (λ (w : World _). Happens does stops l w e r new) run h), refl)
run_more does stops l (a ∷ es) e r old mid new run h = (run.0, run.1, run_more does stops l es e r run.0 mid new run.2 h)
