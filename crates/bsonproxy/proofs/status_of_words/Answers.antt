use Rattle.std.proofs.Common.{inl, inr}
use Rattle.clap.specs.Words.{kind_of}
use Rattle.bsonproxy.proofs.status_of_words.Goals as goal

pub returns-in-Ok : goal.returns-in-Ok
returns-in-Ok c = inl (c.in-Ok.choice, c.in-Ok.ensures.chosen, c.in-Ok.ensures.kinds, c.run.ensures)

pub returns-in-Err : goal.returns-in-Err
returns-in-Err c =
    let told = c.tell_unchosen.ensures in
    inr (kind_of c.in-Err.error, told.0, c.in-Err.ensures.kinds, told.1)
