use Rattle.std.proofs.Common.{sym, subst, arith}
use Rattle.std.proofs.lemmas.Bool.{iff_false}
use Rattle.bson_stream.specs.Standing.{IsLength}
use Rattle.bson_stream.proofs.Salvages.{bad_decided, inside_undecided, short_undecided, whole_decided}
use Rattle.bson_stream.proofs.seek.lead_of.Goals as goal

pub returns-then-bytes-lt4-clause-open : goal.returns-then-bytes-lt4-clause-open
returns-then-bytes-lt4-clause-open c = λ e. short_undecided c.args.limit c.args.bytes.now c.if-bytes-lt4.true

pub returns-then-not-is_length-clause-decided : goal.returns-then-not-is_length-clause-decided
returns-then-not-is_length-clause-decided c = λ e.
    bad_decided c.args.limit c.args.bytes.now c.if-bytes-lt4.false (λ good. iff_false c.is_length.ensures c.if-not-is_length.true (subst IsLength (sym c.little_u32-announced.ensures) good))

pub returns-then-announced-limit-clause-long : goal.returns-then-announced-limit-clause-long
returns-then-announced-limit-clause-long c = λ e. record {
  complete = c.if-bytes-lt4.false;
  good = subst IsLength c.little_u32-announced.ensures (c.is_length.ensures.0 c.if-not-is_length.false);
  more = omega (arith, c.little_u32-announced.ensures, c.if-announced-limit.true);
}

pub returns-then-bytes-announced-clause-open : goal.returns-then-bytes-announced-clause-open
returns-then-bytes-announced-clause-open c = λ e.
    inside_undecided c.args.limit c.args.bytes.now c.if-bytes-lt4.false (subst IsLength c.little_u32-announced.ensures (c.is_length.ensures.0 c.if-not-is_length.false))
    (omega (arith, c.little_u32-announced.ensures, c.if-announced-limit.false)) (omega (arith, c.little_u32-announced.ensures, c.if-bytes-announced.true))

pub returns-clause-decided : goal.returns-clause-decided
returns-clause-decided c = λ e.
    whole_decided c.args.limit c.args.bytes.now c.if-bytes-lt4.false (omega (arith, c.little_u32-announced.ensures, c.if-announced-limit.false)) (omega (arith, c.little_u32-announced.ensures, c.if-bytes-announced.false))
