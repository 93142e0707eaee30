use Rattle.std.proofs.Common.{refl}
use Rattle.byte_views.specs.Splits.{no_document, not_within}
use Rattle.byte_views.proofs.SplitLaws.{split_read}
use Rattle.byte_views.proofs.split.split.Goals as goal

pub returns-then-not-is_within : goal.returns-then-not-is_within
returns-then-not-is_within c = not_within (λ is. absurd (let no = c.if-not-is_within.ensures.1 is in cc)) refl refl

pub returns-in-Ok : goal.returns-in-Ok
returns-in-Ok c = split_read c.args.bytes.now c.args.left c.in-Ok.document.now c.in-Ok.rest.now c.new.result c.new-in-Ok.result (c.if-not-is_within.ensures.0 refl) c.in-Ok.ensures.read c.in-Ok.ensures.lent c.new.ensures c.new-in-Ok.ensures

pub returns-in-Err : goal.returns-in-Err
returns-in-Err c = no_document c.in-Err.field-0 (c.if-not-is_within.ensures.0 refl) c.in-Err.ensures.read refl refl
