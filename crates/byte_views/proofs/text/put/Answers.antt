use Rattle.std.proofs.Common.{List, ◌++◌, length, drop, refl, ap, ℕ}
use Rattle.byte_views.specs.Texts.{fits, too_long}
use Rattle.byte_views.proofs.text.put.Goals as goal

pub returns-then-length-room : goal.returns-then-length-room
returns-then-length-room c = too_long c.if-length-room.true c.of_length.ensures refl

pub returns : goal.returns
returns c = fits c.if-length-room.false c.of_length-2.ensures (ap (λ (x : List ℕ). x ++ drop (length c.args.text.now) c.args.room.now) c.copy_from_slice.ensures.after)
