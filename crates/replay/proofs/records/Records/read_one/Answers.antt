use Rattle.std.proofs.Common.{◌++◌, ◌∙◌, List, ℕ, [], ap, append-nil, refl, take}
use Rattle.std.proofs.KnownBytes.{Consumes-nil, Consumes-trans}
use Rattle.replay.proofs.Feeding.{fed, pulled}
use Rattle.replay.proofs.records.Records.read_one.Goals as goal

pub loop-init : goal.loop-init
loop-init g c = record { bytes = ([], Consumes-nil _, append-nil _); fault = refl; offset = refl }

pub loop-preserved : goal.loop-preserved
loop-preserved g c =
    let i = c.loop.invariant in
    let f = c.fill.ensures.read in
    record {
      bytes = (
        i.bytes.0 ++ f.0,
        Consumes-trans _ _ _ _ _ i.bytes.1 f.1,
        fed _ _ _ _ _ _ _ _ c.in_ok-n.n i.bytes.2 f.2 (c.in_ok-n.ensures.held.1 ∙ ap (λ (l : List ℕ). c.loop.self.reading.held ++ take c.in_ok-n.n l) c.bytes.ensures) c.used.ensures,
      );
      fault = i.fault;
      offset = i.offset;
    }

pub returns-then-not-branch-clause-bytes : goal.returns-then-not-branch-clause-bytes
returns-then-not-branch-clause-bytes g c =
    let i = c.loop.invariant in
    let f = c.fill.ensures.read in
    (i.bytes.0 ++ f.0, Consumes-trans _ _ _ _ _ i.bytes.1 f.1, pulled _ _ _ _ _ _ i.bytes.2 f.2)
