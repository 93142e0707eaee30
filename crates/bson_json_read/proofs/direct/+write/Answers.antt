use Rattle.std.proofs.Common.{◌≡◌, ◌∙◌, ◌∷◌, ◌-◌, ◌<◌, ℕ, List, arith, decimal, length, refl, subst, sym}
use Rattle.json.specs.Token as json
use Rattle.bson_json_read.specs.Sources.{left_of}
use Rattle.bson_json_read.specs.Direct.{ReadsValue}
use Rattle.bson_json_read.specs.Seen.{IsSeen, code_of}
use Rattle.bson_json_read.proofs.Codes.{seen_on, some_code}
use Rattle.bson_json_read.proofs.Progress.{items_end, items_grow, members_end, members_grow}
use Rattle.bson_json_read.proofs.direct.+write.Goals as goal

pub write_items-returns-then-take-clause-reads : goal.write_items-returns-then-take-clause-reads
write_items-returns-then-take-clause-reads t c =
    let some : 0 < c.args.room = omega arith in
    let at : c.len-start.result ≡ length c.args.out.now.items = omega (arith, c.args.out.now.ok.0) in
    λ is. items_end c.args.room (left_of c.args.left.now) (left_of c.loop-index.left) (left_of c.take.new.self) c.loop-index.index c.len-start.result c.args.out.now.items c.loop-index.out.items c.finish.new.out.items some c.loop-index.invariant.0
    c.if-take.ensures at (c.finish.ensures.bytes is)

pub write_items-loop-index-preserved : goal.write_items-loop-index-preserved
write_items-loop-index-preserved t c =
    let reads =
    subst (λ (tokens : List json.Token). ReadsValue (c.args.room - 1) (decimal c.loop-index.index) tokens (left_of c.write_item.new.left) c.loop-index.out.items c.write_item.new.out.items) (c.pass_comma.ensures ∙ c.if-take.ensures)
    (c.if-not-write_item.ensures.reads refl) in (
      items_grow (c.args.room - 1) (left_of c.args.left.now) (left_of c.loop-index.left) (left_of c.write_item.new.left) c.loop-index.index c.args.out.now.items c.loop-index.out.items c.write_item.new.out.items c.loop-index.invariant.0 reads,
      λ x some has. c.if-not-write_item.ensures.kept refl x some (c.loop-index.invariant.1 x some has),
    )

pub write_member-returns-then-put-clause-code : goal.write_member-returns-then-put-clause-code
write_member-returns-then-put-clause-code t c =
    let put = subst (λ (code : ℕ). IsSeen c.args.seen.now c.put.new.self code) c.code_of.ensures.code (c.if-put.ensures refl) in
    λ is. seen_on c.args.seen.now c.put.new.self c.write_value.new.seen (code_of c.args.offset c.args.name.now) put (some_code c.args.offset c.args.name.now) (c.write_value.ensures.kept is)

pub write_members-returns-then-take-clause-reads : goal.write_members-returns-then-take-clause-reads
write_members-returns-then-take-clause-reads t c =
    let one = c.if-not-write_member.ensures in
    let name = c.loop.name.now in
    let some : 0 < c.args.room = omega arith in
    let at : c.len-start.result ≡ length c.args.out.now.items = omega (arith, c.args.out.now.ok.0) in
    let tokens = json.key c.args.first.now ∷ (left_of c.args.left.now) in
    let so =
    members_grow (c.args.room - 1) c.offset-offset.result tokens (json.key name ∷ (left_of c.loop.left)) (left_of c.loop.left) (left_of c.write_member.new.left) c.loop.seen c.write_member.new.seen c.args.out.now.items c.loop.out.items
    c.write_member.new.out.items name c.loop.invariant.0 refl (one.free refl) (one.formless refl) (one.reads refl) (one.code refl) in
    λ is. members_end c.args.room c.offset-offset.result tokens (left_of c.write_member.new.left) (left_of c.take.new.self) c.len-start.result c.write_member.new.seen c.args.out.now.items c.write_member.new.out.items
    c.finish.new.out.items some so c.if-take.ensures at (c.finish.ensures.bytes is)

pub write_members-returns-then-take-clause-kept : goal.write_members-returns-then-take-clause-kept
write_members-returns-then-take-clause-kept t c =
    λ _ x some has. (c.if-not-write_member.ensures.code refl).kept x some (c.loop.invariant.2 x some has)

pub write_members-loop-preserved : goal.write_members-loop-preserved
write_members-loop-preserved t c =
    let one = c.if-not-write_member.ensures in
    let name = c.loop.name.now in
    let after = json.key c.in-Some.next.now ∷ (left_of c.name.new.self) in
    let is = sym c.if-take.ensures ∙ sym c.pass_comma.ensures ∙ c.in-Some.ensures.token in
    let reads = subst (λ (tokens : List json.Token). ReadsValue (c.args.room - 1) name (left_of c.loop.left) tokens c.loop.out.items c.write_member.new.out.items) is (one.reads refl) in (
      members_grow (c.args.room - 1) c.offset-offset.result (json.key c.args.first.now ∷ (left_of c.args.left.now)) (json.key name ∷ (left_of c.loop.left)) (left_of c.loop.left) after c.loop.seen c.write_member.new.seen c.args.out.now.items c.loop.out.items
          c.write_member.new.out.items name c.loop.invariant.0 refl (one.free refl) (one.formless refl) reads (one.code refl),
      c.in-Some.ensures.utf8,
      λ x some has. (one.code refl).kept x some (c.loop.invariant.2 x some has),
    )
