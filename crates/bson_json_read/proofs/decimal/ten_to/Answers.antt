use Rattle.std.proofs.Common.{◌<◌, arith}
use Rattle.bson_json_read.proofs.Tens.{power_fits}
use Rattle.bson_json_read.proofs.decimal.ten_to.Goals as goal

pub overflow_mul-power : goal.overflow_mul-power
overflow_mul-power c =
    let before : c.loop.counter < c.args.k = omega (arith, c.loop-test.true, c.loop.auto.counter-end) in
    record { fits = power_fits c.loop.power c.loop.counter c.args.k c.loop.invariant before c.requires }
