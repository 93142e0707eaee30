use Rattle.std.proofs.Common.{◌≡◌, Bool}
use Rattle.wire_peer.specs.Counting.{small_number}
use Rattle.std.proofs.Common.{ap, ◌∙◌}
use Rattle.std.specs.Prelude.{codes, if◌then◌else◌}
use Rattle.std.proofs.Math.Nat.{ℕ_set}
use Rattle.bson_elem.specs.{Tree}
use Rattle.bson_raw.specs.{first_named}
use Rattle.wire_peer.specs.Contents.{content_of}
use Rattle.wire_peer.proofs.ContentLaws.{of_content}
use Rattle.wire_peer.proofs.counting.wanted_count.Goals as goal

-- src/counting.rt:32:1
pub returns-then-takes_more-clause-wanted : goal.returns-then-takes_more-clause-wanted
returns-then-takes_more-clause-wanted c =
    let body : Tree = (content_of c.args.request.now.payload).body in
    let number : c.small_number.result ≡ small_number (first_named (codes "s") body) =
    of_content c.args.request.now.payload {P = λ k. c.small_number.result ≡ small_number (first_named (codes "s") k.body)} (ℕ_set _ _)
    (λ k held. c.small_number.ensures.number (first_named (codes "s") k.body) (c.get.ensures k.body (c.body.ensures k held))) in
    number ∙ ap (λ (b : Bool). if b then small_number (first_named (codes "s") body) else 0) c.if-takes_more.ensures
