-- Why no world is made.
use Rattle.std.specs.Prelude.{◌≡◌, pos, ◌<ℤ◌, ◌≤ℤ◌, Result, Ok, Err}
use Rattle.wire_pool.specs.{IsPoolMax}
use Rattle.wire_peer.specs.{IsLimit, IsWindow}
use Rattle.wire_model.specs.{AreGood, opening}
use Rattle.wire_model.specs.declared.limits.WorldLimits.{WorldLimits}
use Rattle.wire_model.specs.declared.refusals.SetupRefusal.{SetupRefusal}
use Rattle.wire_model.specs.declared.refusals.SetupRefusal.TheVariants.{BadFirstId, BadWindow}
use Rattle.wire_model.specs.declared.refusals.SetupRefusal.TheVariants.{BadLimit, BadMax}
use Rattle.wire_model.specs.declared.refusals.SetupRefusal.TheVariants.{OutOfMemory}
use Rattle.wire_world.specs.Worlds.{WorldSeen}

-- the limits of the ends of a connection are within their ranges
abbrev pub AreGoodForEnds : WorldLimits → Type 0
AreGoodForEnds l = (pos 1 ≤ℤ l.first_id) × IsWindow l.window × IsLimit l.limit

-- the first limit that is outside its range; or memory ran out, and each limit is within its range
abbrev pub IsSetupRefusal : WorldLimits → SetupRefusal → Type 0
IsSetupRefusal l BadFirstId = l.first_id <ℤ pos 1
IsSetupRefusal l BadWindow = (pos 1 ≤ℤ l.first_id) × (IsWindow l.window → ⊥)
IsSetupRefusal l BadLimit = (pos 1 ≤ℤ l.first_id) × IsWindow l.window × (IsLimit l.limit → ⊥)
IsSetupRefusal l BadMax = AreGoodForEnds l × (IsPoolMax l.connections → ⊥)
IsSetupRefusal l OutOfMemory = AreGood l

-- the result of making a world
abbrev pub IsNewWorld : {H : Type 0} → WorldLimits → H → Result (WorldSeen H) SetupRefusal → Type 0
IsNewWorld l h (Ok w) = AreGood l × (w ≡ record { limits = l; state = opening l h })
IsNewWorld l h (Err refusal) = IsSetupRefusal l refusal
