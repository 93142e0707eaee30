-- Why nothing is written, by number.
use Rattle.std.specs.Prelude.{ℕ}
use Rattle.byte_views.specs.declared.build.refusal.BuildRefusal.{BuildRefusal}
use Rattle.byte_views.specs.declared.build.refusal.BuildRefusal.TheVariants as refusals

abbrev pub refusal_number : BuildRefusal → ℕ
refusal_number refusals.Kind = 1
refusal_number refusals.Name = 2
refusal_number refusals.Value = 3
refusal_number refusals.Depth = 4
refusal_number refusals.Room = 5
refusal_number refusals.TooLarge = 253
refusal_number refusals.OutOfRange = 255
