use Rattle.std.proofs.Common.{◌≡◌, ℕ, ◌+◌, List, [], ◌∷◌, ◌++◌, length, refl, sym, ap, ◌∙◌, arith}
use Rattle.std.proofs.lemmas.Bool.{ne_eqb}
use Rattle.bson_elem.specs.Spelling.{binary, little}
use Rattle.byte_views.specs.Placing.{placed}
use Rattle.byte_views.proofs.BuildPlaces.{four_parts, three_parts}
use Rattle.byte_views.proofs.build.value.put_binary.Goals as goal

-- a binary of subtype 02, and one of another
old : (subtype : ℕ) (bytes : List ℕ) → subtype ≡ 2 → little (length bytes + 4) ++ (2 ∷ (little (length bytes) ++ bytes)) ≡ binary subtype bytes
old subtype bytes is = ap (λ (s : ℕ). binary s bytes) (sym is)

other : (subtype : ℕ) (bytes : List ℕ) → (subtype ≡ 2 → ⊥) → little (length bytes) ++ (subtype ∷ bytes) ≡ binary subtype bytes
other subtype bytes apart = rw (ne_eqb subtype 2 apart) refl

pub returns-then-subtype-eq2 : goal.returns-then-subtype-eq2
returns-then-subtype-eq2 c =
    let room = c.args.room.now in let at = c.args.at in let bytes = c.args.bytes.now in let all = c.to_le_bytes.result in let inner = c.to_le_bytes-then-subtype-eq2.result in
    let parts : all ++ ((2 ∷ []) ++ (inner ++ bytes)) ≡ binary c.args.subtype bytes =
    ap (λ (x : List ℕ). x ++ (2 ∷ (inner ++ bytes))) c.to_le_bytes.ensures ∙ ap (λ (x : List ℕ). little (length bytes + 4) ++ (2 ∷ (x ++ bytes))) c.to_le_bytes-then-subtype-eq2.ensures ∙ old c.args.subtype bytes c.if-subtype-eq2.true in
    four_parts room all (2 ∷ []) inner bytes c.put-at.new.room c.put-at-then-subtype-eq2.new.room c.put-at-then-subtype-eq2-2.new.room c.put.new.room at c.put-at.result c.put-at-then-subtype-eq2.result c.put-at-then-subtype-eq2-2.result
    (omega (arith, c.requires.within, ap length parts)) c.put-at.ensures.placed c.put-at.ensures.after c.put-at-then-subtype-eq2.ensures.placed c.put-at-then-subtype-eq2.ensures.after
    c.put-at-then-subtype-eq2-2.ensures.placed c.put-at-then-subtype-eq2-2.ensures.after c.put.ensures.placed
    ∙ ap (λ (x : List ℕ). placed at x room) parts

pub returns-else-subtype-eq2 : goal.returns-else-subtype-eq2
returns-else-subtype-eq2 c =
    let room = c.args.room.now in let at = c.args.at in let bytes = c.args.bytes.now in let four = c.to_le_bytes-else-subtype-eq2.result in
    let parts : four ++ ((c.args.subtype ∷ []) ++ bytes) ≡ binary c.args.subtype bytes =
    ap (λ (x : List ℕ). x ++ (c.args.subtype ∷ bytes)) c.to_le_bytes-else-subtype-eq2.ensures ∙ other c.args.subtype bytes c.if-subtype-eq2.false in
    three_parts room four (c.args.subtype ∷ []) bytes c.put-at-else-subtype-eq2.new.room c.put-at-else-subtype-eq2-2.new.room c.put-else-subtype-eq2.new.room at c.put-at-else-subtype-eq2.result c.put-at-else-subtype-eq2-2.result
    (omega (arith, c.requires.within, ap length parts)) c.put-at-else-subtype-eq2.ensures.placed c.put-at-else-subtype-eq2.ensures.after c.put-at-else-subtype-eq2-2.ensures.placed c.put-at-else-subtype-eq2-2.ensures.after
    c.put-else-subtype-eq2.ensures.placed
    ∙ ap (λ (x : List ℕ). placed at x room) parts
