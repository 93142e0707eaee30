use Rattle.std.proofs.Common.{◌≡◌, Bool, true, false, Option, Some, None, IsSomeAnd, is_some}
use Rattle.shared_proxy.proofs.line.Line.idle.Goals as goal

none_held : {A : Type 0} (o : Option A) (b : Bool) (P : A → Type 0) → b ≡ is_some o → b ≡ false → IsSomeAnd o P → ⊥
none_held None b P e f h = h
none_held (Some x) b P e f h = let no : true ≡ false = cc in cc

pub returns-then-has_more-clause-held : goal.returns-then-has_more-clause-held
returns-then-has_more-clause-held c = λ message holds. absurd (none_held _ _ _ c.is_some.ensures c.if-is_some.false (c.message.ensures.all message holds))

pub returns-else-has_more-clause-held : goal.returns-else-has_more-clause-held
returns-else-has_more-clause-held c = λ message holds. absurd (none_held _ _ _ c.is_some.ensures c.if-is_some.false (c.message.ensures.all message holds))
