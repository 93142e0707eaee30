use Rattle.std.proofs.Common.{Some, refl, ap, ◌∙◌}
use Rattle.core_handles.specs.declared.cores.Core.{Core}
use Rattle.core_handles.specs.Making.{has_it, no_memory}
use Rattle.core_handles.proofs.handle.CoreHandle.put_new.Goals as goal

pub returns-in_default : goal.returns-in_default
returns-in_default c = no_memory c.requires refl

pub returns : goal.returns
returns c = has_it (c.put.ensures ∙ ap (λ (core : Core). Some core) c.in-Ok.ensures.ok) refl
