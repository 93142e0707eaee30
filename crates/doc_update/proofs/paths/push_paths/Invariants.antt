use Rattle.std.proofs.Common.{◌≡◌, ◌++◌, map}
use Rattle.doc_update.specs.Paths.{paths_of}
use Rattle.doc_update.proofs.paths.push_paths.Given as goal

abbrev pub invariant-loop-path : goal.invariant-loop-path
invariant-loop-path l =
    map (λ p. p.now) l.paths.items ++ paths_of l.path-iterator
    ≡ map (λ p. p.now) l.fn.paths.items ++ paths_of l.fn.fields
