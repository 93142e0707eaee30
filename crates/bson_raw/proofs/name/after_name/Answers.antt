use Rattle.std.proofs.Common.{◌+◌, ◌-◌, ◌≡◌, length, drop, take, Ok, sym, ap, ◌∙◌, arith, List, ℕ, length-drop}
use Rattle.std.proofs.lemmas.List.{take_all}
use Rattle.std.specs.Fmt.{decimal}
use Rattle.bson_elem.specs.Checks.{Read}
use Rattle.bson_raw.proofs.DigitLaws.{read_decimal}
use Rattle.bson_raw.proofs.name.after_name.Goals as goal

abbrev then : ℕ → List ℕ → Read (List ℕ)
then index rest = Ok (decimal index, rest)

pub returns-then-is_index-clause-read : goal.returns-then-is_index-clause-read
returns-then-is_index-clause-read c =
    let n : ℕ = c.args.n in
    let rest : List ℕ = drop (n + 1) c.args.bytes.now in
    let whole : take (length c.args.bytes.now - (n + 1)) rest ≡ rest = take_all _ rest (omega (arith, length-drop (n + 1) c.args.bytes.now)) in
    read_decimal c.args.bytes.now n c.args.index c.if-bytes-n.true c.ranges.index.fits c.if-bytes-n-eq0.true (sym c.is_index.ensures ∙ c.if-is_index.true) ∙ ap (then c.args.index) (sym whole)
