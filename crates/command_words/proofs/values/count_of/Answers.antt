use Rattle.std.proofs.Common.{subst, Option, ℕ}
use Rattle.clap.specs.Words.{found_of, one_of, rows_of}
use Rattle.command_words.specs.Values.{AsksFor}
use Rattle.command_words.proofs.Lemmas.{asks_for, asks_for_all}
use Rattle.command_words.proofs.values.count_of.Goals as goal

pub returns-in-Some : goal.returns-in-Some
returns-in-Some c =
    let o = one_of c.args.name.now (rows_of (found_of c.args.matches.now)) in
    asks_for o c.in-Some.count (subst (λ (n : Option ℕ). AsksFor n o) c.in-Some.is c.number_of.ensures)

pub returns-in-None : goal.returns-in-None
returns-in-None c =
    let o = one_of c.args.name.now (rows_of (found_of c.args.matches.now)) in
    asks_for_all o (subst (λ (n : Option ℕ). AsksFor n o) c.in-None.is c.number_of.ensures)
