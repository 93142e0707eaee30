use Rattle.std.proofs.Common.{◌≡◌, ℕ, ◌+◌, ◌-◌, List, [], ◌∷◌, ◌++◌, length, refl, sym, ap, ◌∙◌, subst, arith, append_assoc}
use Rattle.byte_views.specs.declared.build.built.Built.{Built}
use Rattle.byte_views.specs.Appends.{IsPushed, too_large}
use Rattle.byte_views.specs.Builders.{longer, pair_bytes}
use Rattle.byte_views.specs.BuildFilling.{filled}
use Rattle.byte_views.specs.Placing.{placed}
use Rattle.byte_views.proofs.Building.{length-pair, put_behind, short_room}
use Rattle.byte_views.proofs.BuildPlaces.{four_parts}
use Rattle.byte_views.proofs.build.builder.Builder.push_head.Goals as goal

pub returns-then-name-gt-MAX_LEN-clause-pushed : goal.returns-then-name-gt-MAX_LEN-clause-pushed
returns-then-name-gt-MAX_LEN-clause-pushed c = λ value is.
    too_large (omega (arith, c.if-name-gt-MAX_LEN.true, length-pair c.args.kind c.args.name.now value)) c.refused.ensures (ap (λ (w : Built). filled w c.args.self.now value c.args.room.now) c.refused.ensures) refl

pub returns-then-wanted-gt-MAX_LEN-clause-pushed : goal.returns-then-wanted-gt-MAX_LEN-clause-pushed
returns-then-wanted-gt-MAX_LEN-clause-pushed c = λ value is.
    too_large (omega (arith, is, c.if-wanted-gt-MAX_LEN.true, length-pair c.args.kind c.args.name.now value)) c.refused-then-wanted-gt-MAX_LEN.ensures
    (ap (λ (w : Built). filled w c.args.self.now value c.args.room.now) c.refused-then-wanted-gt-MAX_LEN.ensures) refl

pub returns-then-wanted-room-clause-pushed : goal.returns-then-wanted-room-clause-pushed
returns-then-wanted-room-clause-pushed c = λ value is.
    let b = c.args.self.now in let room = c.args.room.now in let size = length c.args.name.now + 2 + c.args.len in let part = pair_bytes c.args.kind c.args.name.now value in
    let size-is : size ≡ length part = omega (arith, is, c.if-wanted-gt-MAX_LEN.false, length-pair c.args.kind c.args.name.now value) in
    subst (λ (r : List ℕ). IsPushed room b part r b c.no_room.result) (sym (ap (λ (w : Built). filled w b value room) c.no_room.ensures))
    (short_room room b part (b.end + size + b.depth) size _ size-is refl c.if-wanted-room.true (omega (arith, c.if-wanted-gt-MAX_LEN.false)) c.no_room.ensures)

pub returns-clause-pushed : goal.returns-clause-pushed
returns-clause-pushed c = λ value is.
    let b = c.args.self.now in let name = c.args.name.now in let room = c.args.room.now in
    let size = length name + 2 + c.args.len in let part = pair_bytes c.args.kind name value in let head = c.put-self.new.room in let after = longer b size in
    let len-is : c.args.len ≡ length value = omega (arith, is, c.if-wanted-gt-MAX_LEN.false) in
    let size-is : size ≡ length part = omega (arith, len-is, length-pair c.args.kind name value) in
    let byte : (c.byte.result ∷ []) ++ (name ++ ((0 ∷ []) ++ value)) ≡ part =
    ap (λ (x : List ℕ). c.byte.result ∷ x) (sym (append_assoc name (0 ∷ []) value)) ∙ ap (λ (k : ℕ). k ∷ ((name ++ 0 ∷ []) ++ value)) c.byte.ensures in
    let place : after.end - length value ≡ c.put-at-2.result + 1 = omega (arith, len-is, c.put-at.ensures.after, c.put-at-2.ensures.after) in
    let filled-is : filled c.done.result after value head ≡ placed (c.put-at-2.result + 1) value head =
    ap (λ (w : Built). filled w after value head) c.done.ensures ∙ ap (λ (n : ℕ). placed n value head) place in
    let placed-is =
    four_parts room (c.byte.result ∷ []) name (0 ∷ []) value c.put-at.new.room c.put-at-2.new.room head (filled c.done.result after value head) b.end c.put-at.result c.put-at-2.result (c.put-at-2.result + 1)
    (omega (arith, size-is, c.if-wanted-room.false, ap length byte)) c.put-at.ensures.placed c.put-at.ensures.after c.put-at-2.ensures.placed c.put-at-2.ensures.after c.put-self.ensures.placed refl filled-is in
    put_behind room (filled c.done.result after value head) b after part (b.end + size + b.depth) size _ size-is refl c.if-wanted-room.false (omega (arith, c.if-wanted-gt-MAX_LEN.false)) c.done.ensures
    (placed-is ∙ ap (λ (x : List ℕ). placed b.end x room) byte) refl
