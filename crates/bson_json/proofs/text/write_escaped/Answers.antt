use Rattle.std.proofs.Common.{arith}
use Rattle.json.specs.Print.{escape_byte}
use Rattle.bson_json.proofs.Escaped.{no_letter}
use Rattle.bson_json.proofs.text.write_escaped.Goals as goal

pub returns-in-34 : goal.returns-in-34
unfolding escape_byte
returns-in-34 g c = rw c.in-34.is c.write_all.ensures.bytes

pub returns-in-92 : goal.returns-in-92
unfolding escape_byte
returns-in-92 g c = rw c.in-92.is c.write_all-in-92.ensures.bytes

pub returns-in-8 : goal.returns-in-8
unfolding escape_byte
returns-in-8 g c = rw c.in-8.is c.write_all-in-8.ensures.bytes

pub returns-in-12 : goal.returns-in-12
unfolding escape_byte
returns-in-12 g c = rw c.in-12.is c.write_all-in-12.ensures.bytes

pub returns-in-10 : goal.returns-in-10
unfolding escape_byte
returns-in-10 g c = rw c.in-10.is c.write_all-in-10.ensures.bytes

pub returns-in-13 : goal.returns-in-13
unfolding escape_byte
returns-in-13 g c = rw c.in-13.is c.write_all-in-13.ensures.bytes

pub returns-in-9 : goal.returns-in-9
unfolding escape_byte
returns-in-9 g c = rw c.in-9.is c.write_all-in-9.ensures.bytes

pub returns-in_default : goal.returns-in_default
returns-in_default g c =
    c.write_unnamed.ensures (no_letter c.args.b (λ e. omega (arith, e)) (λ e. omega (arith, e)) (λ e. omega (arith, e)) (λ e. omega (arith, e)) (λ e. omega (arith, e)) (λ e. omega (arith, e)) (λ e. omega (arith, e)))
