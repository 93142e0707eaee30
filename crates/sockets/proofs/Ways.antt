-- A step on a way, by what its link did.
use Rattle.std.proofs.Common.{◌≡◌, ◌≢◌, ℕ, ◌+◌, ◌-◌, ◌<◌, ◌≤◌, List, [], length, take, drop, Option, ap, refl, inl, inr}
use Rattle.std.proofs.KnownBytes.{Appends-kept, Appends-nil}
use Rattle.std.specs.Io.KnownBytes.{Appends, Keeps}
use Rattle.std.specs.Prelude.{Result, Ok, Err}
use Rattle.sockets.specs.declared.turned.RelayFault.{RelayFault}
use Rattle.sockets.specs.declared.turned.RelayFault.TheVariants.{Receiving, Sending}
use Rattle.sockets.specs.declared.turned.Turned.{Turned}
use Rattle.sockets.specs.declared.turned.Turned.TheVariants.{Again, Waits, Over}
use Rattle.wire_stream.specs.declared.link.Moved.TheVariants.{Bytes}
use Rattle.sockets.specs.declared.way.Stage.{Stage}
use Rattle.sockets.specs.declared.way.Stage.TheVariants.{Open, Ending}
use Rattle.sockets.specs.RelayActs.{Comes, Ends, EndsSending, Goes, Tells, WayView}
use Rattle.sockets.specs.RelaySteps.{Finishes, Receives, Sends, WaySteps}
use Rattle.sockets.specs.WayParts.{view_of}
use Rattle.sockets.proofs.Windows.{sent_part, some_first}

module _ {F T : Type 0} (f : Tells F) (t : Tells T) where
  pub sends : (result : Result Turned RelayFault) (old new : WayView) (from : F) (to to' : T) (seen : Option (List ℕ)) → old.held ≢ [] → Sends t result old new to to'
      → WaySteps f t result old new from from to to' seen seen
  sends (Ok Again) old new from to to' seen some (bytes, any, first, stage, over) = (Goes bytes, refl, (any, first, stage, over, refl), Appends-nil seen)
  sends (Ok Waits) old new from to to' seen some (same, counted) = ((same, inr (some, counted, refl)), refl)
  sends (Ok Over) old new from to to' seen some x = absurd x
  sends (Err (Sending e)) old new from to to' seen some (same, failed) = ((same, failed, refl), refl)
  sends (Err (Receiving e)) old new from to to' seen some x = absurd x

  pub receives : (result : Result Turned RelayFault) (old new : WayView) (from from' : F) (to : T) (seen seen' : Option (List ℕ)) → old.stage ≡ Open → old.held ≡ []
      → Receives f result old new from from' seen seen' → WaySteps f t result old new from from' to to seen seen'
  receives (Ok Again) old new from from' to seen seen' is_open none (inl (some, is, over, saw)) = (Comes new.held, refl, (is_open, none, some, is, over, refl), saw)
  receives (Ok Again) old new from from' to seen seen' is_open none (inr (is, counted, same)) = (Ends, refl, (is_open, none, is, counted, refl), rw same (Appends-nil seen))
  receives (Ok Waits) old new from from' to seen seen' is_open none (same, counted, saw) = ((same, inl (none, counted, refl)), saw)
  receives (Ok Over) old new from from' to seen seen' is_open none x = absurd x
  receives (Err (Receiving e)) old new from from' to seen seen' is_open none (same, failed, saw) = ((same, failed, refl), saw)
  receives (Err (Sending e)) old new from from' to seen seen' is_open none x = absurd x

  pub finishes : (result : Result Turned RelayFault) (old new : WayView) (from : F) (to to' : T) (seen : Option (List ℕ)) → old.stage ≡ Ending → old.held ≡ []
      → Finishes t result old new to to' → WaySteps f t result old new from from to to' seen seen
  finishes (Ok Again) old new from to to' seen ending none (is, counted) = (EndsSending, refl, (ending, none, is, counted, refl), Appends-nil seen)
  finishes (Ok Waits) old new from to to' seen ending none x = absurd x
  finishes (Ok Over) old new from to to' seen ending none x = absurd x
  finishes (Err (Sending e)) old new from to to' seen ending none (same, failed) = ((same, failed, refl), refl)
  finishes (Err (Receiving e)) old new from to to' seen ending none x = absurd x

-- The link took the first n of the bytes that are held.
pub has_sent : {T : Type 0} (t : Tells T) (piece : List ℕ) (start end n : ℕ) (stage : Stage) (to to' : T) (bytes : List ℕ) → bytes ≡ take (end - start) (drop start piece)
    → bytes ≢ [] → n ≤ length bytes → (0 < length bytes → Bytes n ≢ Bytes 0) → Keeps (t.received to) (t.received to') → Appends (t.sent to) (t.sent to') (take n bytes)
    → t.ends to' ≡ t.ends to → t.waits to' ≡ t.waits to → t.failures to' ≡ t.failures to
    → Sends t (Ok Again) (view_of piece start end stage) (view_of piece (start + n) end stage) to to'
has_sent t piece start end n stage to to' bytes is held within some keeps sent ends waits works = (
  take n bytes,
  some_first n bytes within (λ there none. some there (ap Bytes none)) held,
  rw is (sent_part piece start end n (rw is at within)),
  refl,
  record { received = Appends-kept (t.received to) (t.received to) (t.received to') [] (Appends-nil (t.received to)) keeps; sent = sent; ends = ends; waits = waits; works = works },
)
