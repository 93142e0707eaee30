use Rattle.std.proofs.Common.{◌≡◌, ℕ, List, length, subst, arith}
use Rattle.byte_views.specs.Appends.{IsPushedNamed}
use Rattle.byte_views.specs.Values.{value_bytes}
use Rattle.byte_views.proofs.Fillings.{filled_put, not_filled}
use Rattle.byte_views.proofs.build.builder.Builder.push_named.Goals as goal

pub returns-then-built-eq0 : goal.returns-then-built-eq0
returns-then-built-eq0 c =
    let value = value_bytes c.args.value.now in let w = c.push_named_head-built.result in let after = c.push_named_head-built.new.self in
    let place = c.push_named_head-built.ensures.has_place c.if-built-eq0.true in
    let len-is : c.len-len.result ≡ length value = omega (arith, c.len-len.ensures, place.2) in
    subst (λ (r : List ℕ). IsPushedNamed c.args.room.now c.args.self.now c.args.kind c.args.name.now value r after w) (filled_put w after value c.push_named_head-built.new.room c.put.new.room c.len-len.result c.if-built-eq0.true len-is c.put.ensures)
    (c.push_named_head-built.ensures.pushed value c.len-len.ensures)

pub returns-else-built-eq0 : goal.returns-else-built-eq0
returns-else-built-eq0 c =
    let value = value_bytes c.args.value.now in let w = c.push_named_head-built.result in let after = c.push_named_head-built.new.self in
    subst (λ (r : List ℕ). IsPushedNamed c.args.room.now c.args.self.now c.args.kind c.args.name.now value r after w) (not_filled w after value c.push_named_head-built.new.room c.if-built-eq0.false)
    (c.push_named_head-built.ensures.pushed value c.len-len.ensures)
