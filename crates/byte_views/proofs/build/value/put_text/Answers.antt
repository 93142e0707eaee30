use Rattle.std.proofs.Common.{◌≡◌, ℕ, ◌+◌, List, [], ◌∷◌, ◌++◌, length, sym, ap, ◌∙◌, arith, append_assoc}
use Rattle.bson_elem.specs.Spelling.{little, string}
use Rattle.byte_views.specs.Placing.{placed}
use Rattle.byte_views.proofs.BuildPlaces.{four_parts}
use Rattle.byte_views.proofs.build.value.put_text.Goals as goal

pub returns : goal.returns
returns c =
    let room = c.args.room.now in let at = c.args.at in let text = c.args.text.now in let behind = c.args.behind.now in let four = c.to_le_bytes.result in
    let parts : four ++ (text ++ ((0 ∷ []) ++ behind)) ≡ string text ++ behind =
    ap (λ (x : List ℕ). x ++ (text ++ ((0 ∷ []) ++ behind))) c.to_le_bytes.ensures ∙ ap (λ (x : List ℕ). little (length text + 1) ++ x) (sym (append_assoc text (0 ∷ []) behind)) in
    four_parts room four text (0 ∷ []) behind c.put-at.new.room c.put-at-2.new.room c.put-at-3.new.room c.put.new.room at c.put-at.result c.put-at-2.result c.put-at-3.result
    (omega (arith, c.requires.within, ap length parts)) c.put-at.ensures.placed c.put-at.ensures.after c.put-at-2.ensures.placed c.put-at-2.ensures.after c.put-at-3.ensures.placed c.put-at-3.ensures.after c.put.ensures.placed
    ∙ ap (λ (x : List ℕ). placed at x room) parts
