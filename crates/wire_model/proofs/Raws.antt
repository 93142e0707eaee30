-- Raw connections of a world: a new one, and one that is told the end.
use Rattle.std.proofs.Common.{◌≡◌, ℕ, [], refl, sym, ◌∙◌, ap}
use Rattle.std.proofs.lemmas.Option.{same_Some}
use Rattle.wire_peer.specs.{LogEntry}
use Rattle.wire_model.specs.declared.limits.WorldLimits.{WorldLimits}
use Rattle.wire_model.specs.Conns.{new_raw_conn}
use Rattle.wire_model.specs.Machines.{Call, CallIs, Machine}
use Rattle.wire_model.proofs.Promises.{Ok}
use Rattle.wire_model.proofs.ConnCalls.{calls_none, entries_none}
use Rattle.wire_model.proofs.RawFits.{RawFits, raw_opened}
pub use Rattle.wire_model.proofs.RawFits.{IsLeft, RawFits, StandsFor, raw_apart, raw_opened, raw_split}
pub use Rattle.wire_model.proofs.RawChanges.{raw_bad, raw_ended, raw_gone, raw_kept, raw_lost, raw_need, raw_same, raw_server, raw_still, raw_taken, raw_whole}
pub use Rattle.wire_model.proofs.RawAnswers.{raw_gives, raw_silent, raw_stops, raw_entry_fits}

-- it is new
pub raw_new : {H : Type 0} (l : WorldLimits) (c : ℕ) (m : Machine H) → Ok m → ((i : ℕ) (x : Call) → CallIs m.calls i x → x.connection ≡ c → ⊥) → RawFits l.limit c (new_raw_conn l c) m [] [] []
raw_new l c m ok none = raw_opened l.limit c (new_raw_conn l c) m (calls_none c m.calls none)
    (entries_none c m.log (λ e en g here. let by = ok.named e en g in
    let of = (ok.each by.0 by.1 by.2).entry e by.3 in
    none by.0 by.1 by.2 (sym of.2 ∙ ap (λ (z : LogEntry). z.connection) (same_Some of.0 en (sym of.1 ∙ g)) ∙ here)))
    refl refl refl
