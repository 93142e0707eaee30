-- A line names at most one setup or event.
use Rattle.std.proofs.Common.{◌≡◌, ℕ, List}
use Rattle.wire_model.specs.declared.events.Event.{Event}
use Rattle.wire_play.specs.declared.named.Setup.{Setup}
use Rattle.wire_play.specs.Naming.{Names, event, setup}
use Rattle.wire_play.proofs.Readings.{one_named}

-- no line names both a setup and an event
pub setup_or_event : (line : List ℕ) (s : Setup) (e : Event) → Names line (setup s) → Names line (event e) → ⊥
setup_or_event line s e names names' =
    let same : event e ≡ setup s = one_named line (setup s) (event e) names names' in cc

one_inside : (s t : Setup) → setup s ≡ setup t → s ≡ t
one_inside s t same = cc

-- a line names at most one setup
pub one_setup : (line : List ℕ) (s t : Setup) → Names line (setup s) → Names line (setup t) → t ≡ s
one_setup line s t names names' = one_inside t s (one_named line (setup s) (setup t) names names')
