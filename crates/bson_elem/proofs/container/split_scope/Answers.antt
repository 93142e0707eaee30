use Rattle.std.proofs.Common.{rules, ◌≡◌, ℕ, ◌+◌, ◌-◌, ◌∙◌, Ok, length, take, ap, arith}
use Rattle.std.specs.Int.{w32, from_le_bytes}
use Rattle.bson_elem.specs.Trees.{with_code}
use Rattle.bson_elem.specs.Checks.{opens}
use Rattle.bson_elem.specs.Documents.{elements_of}
use Rattle.bson_elem.proofs.ScopeLaws.{scope_read}
use Rattle.bson_elem.proofs.container.split_scope.Goals as goal

pub returns-clause-read : goal.returns-clause-read
returns-clause-read c =
    let total = c.in-Ok.read.0 in
    let n = c.in-Ok-read_length.read.0 in
    let rest = c.in-Ok-read_text.read.1.now in
    let same : from_le_bytes w32 (take 4 rest) ≡ total - 8 - n = search rules in
    let offset : c.args.from + 8 + n ≡ c.args.from + length c.args.bytes.now - length c.in_ok-scope.rest.now - length c.in_ok-scope.scope.now =
    omega (arith, c.in-Ok.ensures.parts, c.in-Ok-read_length.ensures.parts, c.in-Ok-read_text.ensures.parts, c.in_ok-scope.ensures.parts) in
    scope_read c.args.at c.args.from c.args.bytes.now total c.in-Ok.read.1.now n c.in-Ok-read_length.read.1.now c.in-Ok-read_text.read.0.now rest (elements_of c.in_ok-scope.scope.now) c.in_ok-scope.rest.now
    c.in-Ok.ensures.read (omega arith) c.in-Ok-read_length.ensures.read (omega arith) c.in-Ok-read_text.ensures.read same c.in_ok-scope.ensures.read
    ∙ ap (λ (k : ℕ). Ok (opens k (with_code c.in-Ok-read_text.read.0.now) (elements_of c.in_ok-scope.scope.now), c.in_ok-scope.rest.now)) offset
