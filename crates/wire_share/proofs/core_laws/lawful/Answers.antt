use Rattle.wire_share.proofs.Alone.{alone}
use Rattle.wire_share.proofs.Losing.{kept_all, told}
use Rattle.wire_share.proofs.Routing.{routed}
use Rattle.wire_share.proofs.core_laws.lawful.Goals as goal

pub returns : goal.returns
returns c = λ acts now run. record {
  acts = acts;
  run = run;
  alone = alone acts now run;
  kept = kept_all acts now run;
  told = told acts now run;
  unmixed = c.unmixed.ensures acts now run;
  routed = routed acts now run;
}
