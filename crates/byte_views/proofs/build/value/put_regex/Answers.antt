use Rattle.std.proofs.Common.{◌≡◌, ℕ, List, [], ◌∷◌, ◌++◌, length, sym, ap, ◌∙◌, arith, append_assoc}
use Rattle.bson_elem.specs.Spelling.{cstring}
use Rattle.byte_views.specs.Placing.{placed}
use Rattle.byte_views.proofs.BuildPlaces.{four_parts}
use Rattle.byte_views.proofs.build.value.put_regex.Goals as goal

pub returns : goal.returns
returns c =
    let room = c.args.room.now in let at = c.args.at in let pattern = c.args.pattern.now in let options = c.args.options.now in
    let parts : pattern ++ ((0 ∷ []) ++ (options ++ (0 ∷ []))) ≡ cstring pattern ++ cstring options = sym (append_assoc pattern (0 ∷ []) (cstring options)) in
    four_parts room pattern (0 ∷ []) options (0 ∷ []) c.put-at.new.room c.put-at-2.new.room c.put-at-3.new.room c.put.new.room at c.put-at.result c.put-at-2.result c.put-at-3.result
    (omega (arith, c.requires.within, ap length parts)) c.put-at.ensures.placed c.put-at.ensures.after c.put-at-2.ensures.placed c.put-at-2.ensures.after c.put-at-3.ensures.placed c.put-at-3.ensures.after c.put.ensures.placed
    ∙ ap (λ (x : List ℕ). placed at x room) parts
