use Rattle.std.proofs.Common.{ℕ, ◌+◌, List, length, ap, ◌∙◌, arith}
use Rattle.bson_elem.specs.Spelling.{little}
use Rattle.byte_views.specs.Placing.{placed}
use Rattle.byte_views.proofs.BuildPlaces.{and_then}
use Rattle.byte_views.proofs.build.value.put_timestamp.Goals as goal

pub returns : goal.returns
returns c =
    let room = c.args.room.now in let at = c.args.at in let first = c.to_le_bytes.ensures in let second = c.to_le_bytes-2.ensures in
    and_then room (little c.args.increment) (little c.args.seconds) c.put-at.new.room c.put.new.room at c.put-at.result (omega (arith, c.requires))
    (c.put-at.ensures.placed ∙ ap (λ (x : List ℕ). placed at x room) first) (c.put-at.ensures.after ∙ ap (λ (x : List ℕ). at + length x) first)
    (c.put.ensures.placed ∙ ap (λ (x : List ℕ). placed c.put-at.result x c.put-at.new.room) second)
