use Rattle.std.proofs.Common.{◌*◌, ◌<◌, ◌^◌, ◌∙◌, arith, ap, Some}
use Rattle.bson_json_read.proofs.Tens.{no_room_for, raised_near, room_for}
use Rattle.bson_json_read.proofs.decimal.raised.Goals as goal

pub returns-then-c-room : goal.returns-then-c-room
returns-then-c-room c =
    no_room_for c.args.negative c.args.c c.args.k c.ten_to-room.result (omega arith) c.ten_to-room.ensures.value c.if-c-room.true

pub overflow_mul-c : goal.overflow_mul-c
overflow_mul-c c =
    let small : c.args.c * c.ten_to-unit.result < 10 ^ 34 = room_for c.args.c c.args.k c.ten_to-room.result c.ten_to-unit.result (omega arith) c.ten_to-room.ensures.value c.ten_to-unit.ensures.value c.if-c-room.false in
    record { fits = omega (arith, small) }

pub finite_bits-requires : goal.finite_bits-requires
finite_bits-requires c =
    let small : c.args.c * c.ten_to-unit.result < 10 ^ 34 = room_for c.args.c c.args.k c.ten_to-room.result c.ten_to-unit.result (omega arith) c.ten_to-room.ensures.value c.ten_to-unit.ensures.value c.if-c-room.false in
    (small, omega arith)

pub returns : goal.returns
returns c =
    let small : c.args.c * c.ten_to-unit.result < 10 ^ 34 = room_for c.args.c c.args.k c.ten_to-room.result c.ten_to-unit.result (omega arith) c.ten_to-room.ensures.value c.ten_to-unit.ensures.value c.if-c-room.false in
    ap (λ b. Some b) c.finite_bits.ensures ∙ raised_near c.args.negative c.args.c c.args.k c.ten_to-unit.result c.ten_to-unit.ensures.value small
