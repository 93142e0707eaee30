-- How a run of `bson` ends, by why it wrote no more documents.
use Rattle.std.proofs.Common.{◌≡◌, ◌∙◌, inl, inr, ℕ, List, Bool, true, false, Option, Some, None, Result, Ok, Err, refl, ap, length, sym, subst, true≢false}
use Rattle.std.specs.Prelude.{IfErr, IfOk, IfSome, OnOk, is_some}
use Rattle.bson_json_read.specs.{Left}
use Rattle.file_commands.specs.declared.bson.TextStop.{TextStop}
use Rattle.file_commands.specs.declared.bson.TextStop.TheVariants.{Fault, Refused}
use Rattle.command_run.specs.declared.run.RunEnd.{RunEnd}
use Rattle.file_commands.specs.BsonOf.{BsonText, EndsAt, StopsAt, WritesTexts, bytes_of_each}
use Rattle.command_run.specs.{AppendsText, is_done, is_fault}

-- the end that tells what `bson` returned
abbrev pub Tells : Result (Option TextStop) RunEnd → RunEnd → Type 0
Tells ended end = IfOk ended (λ stop. (is_done end ≡ true) × (is_fault end ≡ is_some stop))

pub done_ok : {P : Type 0} (ended : Result (Option TextStop) RunEnd) (end : RunEnd) → IfErr ended (λ e. end ≡ e) → IfErr ended (λ e. is_done e ≡ false) → OnOk ended P → is_done end ≡ true → P
done_ok (Ok stop) end told cut p done = p
done_ok (Err e) end told cut p done = absurd (true≢false (sym done ∙ ap is_done told ∙ cut))

ends : (count : ℕ) (left : Left) (stop : Option TextStop) → StopsAt stop count left → EndsAt (is_some stop) left
ends count left None why = why
ends count left (Some (Fault f)) why = inl (f.cause, why)
ends count left (Some (Refused refusal number)) (same, why) = inr (refusal, why)

text_of : (input : List ℕ) (stop : Option TextStop) (fault : Bool) (old new : Option (List ℕ)) → fault ≡ is_some stop → WritesTexts input (StopsAt stop) old new → AppendsText (BsonText input) fault old new
text_of input stop fault old new same (ds, left, reads, why, appends) = (bytes_of_each ds, (ds, left, reads, subst (λ (b : Bool). EndsAt b left) (sym same) (ends (length ds) left stop why), refl), appends)

-- the whole text was written, where the run is done
pub written_whole : (from old new : Option (List ℕ)) (ended : Result (Option TextStop) RunEnd) (end : RunEnd) → Tells ended end → IfErr ended (λ e. end ≡ e) → IfErr ended (λ e. is_done e ≡ false)
    → IfSome from (λ input. IfOk ended (λ stop. WritesTexts input (StopsAt stop) old new)) → IfSome from (λ input. is_done end ≡ true → AppendsText (BsonText input) (is_fault end) old new)
written_whole None old new ended end tells told cut written = tt
written_whole (Some input) old new (Ok stop) end tells told cut written = λ done. text_of input stop (is_fault end) old new tells.1 written
written_whole (Some input) old new (Err e) end tells told cut written = λ done. absurd (true≢false (sym done ∙ ap is_done told ∙ cut))

-- what `bson` returned, where the run ended otherwise than done
pub ended_so : (ended : Result (Option TextStop) RunEnd) (end cut : RunEnd) → Tells ended end → IfErr ended (λ e. end ≡ e) → is_done cut ≡ false → end ≡ cut → ended ≡ Err cut
ended_so (Ok stop) end cut tells told short is = absurd (true≢false (sym tells.0 ∙ ap is_done is ∙ short))
ended_so (Err e) end cut tells told short is = ap Err (sym told ∙ is)
