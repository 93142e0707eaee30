use Rattle.std.proofs.Common.{ℕ, List, ◌++◌, drop, length, refl, ap}
use Rattle.core_handles.specs.Requesting.{fits, too_long}
use Rattle.core_handles.proofs.server_requests.put_request.Goals as goal

pub returns-then-length-room : goal.returns-then-length-room
returns-then-length-room c = too_long c.if-length-room.true refl refl

pub returns : goal.returns
returns c = fits c.if-length-room.false refl (ap (λ (x : List ℕ). x ++ drop (length c.args.message.now) c.args.room.now) c.copy_from_slice.ensures.after)
