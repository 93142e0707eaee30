use Rattle.std.proofs.Common.{◌≡◌, ℕ, ◌+◌, List, [], ◌∷◌, ◌++◌, length, refl, ap, ◌∙◌, arith}
use Rattle.byte_views.specs.Placing.{placed}
use Rattle.byte_views.specs.Sequences.{section_of}
use Rattle.byte_views.proofs.BuildPlaces.{five_parts}
use Rattle.byte_views.proofs.Sequences.{section_parts}
use Rattle.byte_views.proofs.build.sequence.put_section.Goals as goal

pub returns : goal.returns
returns c =
    let room = c.args.room.now in let at = c.args.at in let identifier = c.args.identifier.now in let documents = c.args.documents.now in let four = c.to_le_bytes.result in
    let parts : (1 ∷ []) ++ (four ++ (identifier ++ ((0 ∷ []) ++ documents))) ≡ section_of identifier documents =
    section_parts four identifier documents (length identifier + length documents + 5) c.to_le_bytes.ensures refl in
    five_parts room (1 ∷ []) four identifier (0 ∷ []) documents c.put-at.new.room c.put-at-2.new.room c.put-at-3.new.room c.put-at-4.new.room c.put.new.room at c.put-at.result c.put-at-2.result c.put-at-3.result c.put-at-4.result
    (omega (arith, c.requires.within, ap length parts)) c.put-at.ensures.placed c.put-at.ensures.after c.put-at-2.ensures.placed c.put-at-2.ensures.after c.put-at-3.ensures.placed c.put-at-3.ensures.after
    c.put-at-4.ensures.placed c.put-at-4.ensures.after c.put.ensures.placed
    ∙ ap (λ (x : List ℕ). placed at x room) parts
