use Rattle.std.proofs.Common.{◌≤◌, ◌^◌, length, arith}
use Rattle.std.proofs.lemmas.Grind.{not_there}
use Rattle.bson_raw.proofs.document.RawDocument.as_bytes.Goals as goal

pub returns-clause-short : goal.returns-clause-short
returns-clause-short c =
    let no : 2 ^ 31 ≤ length c.args.self.bytes.now → ⊥ = λ le. not_there c.args.self.spelled (λ s. omega (arith, le, s.1.short)) in
    omega (arith, no)
