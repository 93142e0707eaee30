use Rattle.std.proofs.Common.{refl}
use Rattle.replay.proofs.carrying.cursor_of.Goals as goal

pub returns-in-Some : goal.returns-in-Some
returns-in-Some c = record {
  body = λ t rest has. c.cursor_in.ensures t (c.in-Some.ensures.some t rest has).0;
  none = λ no. absurd (no c.in-Some.ensures.only.0 _ c.in-Some.ensures.only.1);
}

pub returns-in-None : goal.returns-in-None
returns-in-None c = record {
  body = λ t rest has. absurd (c.in-None.ensures.some t rest has);
  none = λ no. refl;
}
