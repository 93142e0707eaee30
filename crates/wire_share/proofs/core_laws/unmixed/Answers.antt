use Rattle.std.proofs.Common.{refl}
use Rattle.wire_share.specs.Cores.{new_core}
use Rattle.wire_share.specs.Core_laws.{own_made, shared_in}
use Rattle.wire_share.proofs.Ends.{are_ends, bytes_all, downs_of, ends_of}
use Rattle.wire_share.proofs.core_laws.unmixed.Goals as goal

pub returns : goal.returns
returns c = λ acts now run.
    let ends = are_ends acts now run in
    record {
      downs = downs_of acts now run;
      ends = ends_of acts now run;
      are_ends = ends;
      never =
          c.answers_are_never_mixed.ensures (shared_in acts) (downs_of acts now run) own_made (ends_of acts now run) ends.fit (λ u. (refl, refl)) ends.below ends.above
          (λ u. bytes_all u acts new_core now run);
    }
