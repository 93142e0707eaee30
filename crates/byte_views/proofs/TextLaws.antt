-- A text in the room of a C program.
use Rattle.std.proofs.Common.{◌≡◌, ◌+◌, ℕ, List, refl, sym, ap, subst, ◌∙◌, arith}
use Rattle.std.specs.Prelude.{Some}
use Rattle.bson_elem.specs.declared.fault.BsonFault.{BsonFault}
use Rattle.bson_elem.specs.Checks.{fault}
use Rattle.bson_elem.specs.Spelling.{Spells}
use Rattle.bson_elem.specs.Trees.{Tree}
use Rattle.bson_raw.specs.Spelled.{IsSpelled, WholeFault}
use Rattle.byte_views.specs.declared.fault.FirstFault.{FirstFault}
use Rattle.byte_views.specs.declared.text.TextWritten.{TextWritten}
use Rattle.byte_views.specs.Fault.{first_fault}
use Rattle.byte_views.specs.Texts.{IsCanonicalWritten, IsPut, IsTextWritten, has_fault, is_put, no_form}
use Rattle.byte_views.specs.Texts.{no_text, too_large, wants_memory}
use Rattle.byte_views.proofs.Told.{counted_from_0}
use Rattle.bson_doc.specs.{canonical_len}
use Rattle.bson_doc.specs.Refusals.{IsLengthRefusal}
use Rattle.bson_doc.specs.declared.refusal.DocRefusal.{DocRefusal}
use Rattle.bson_doc.specs.declared.refusal.DocRefusal.TheVariants.{Depth, OutOfMemory, RepeatedName}
use Rattle.bson_doc.specs.declared.refusal.DocRefusal.TheVariants.{TooLarge, ZeroInName}

pub told_put : (bytes held old new items slice : List ℕ) (IsText : Tree → List ℕ → Type 0) (w : TextWritten) → held ≡ bytes → IsSpelled bytes → ((t : Tree) → Spells t held → IsText t items) → slice ≡ items → IsPut slice old new w → IsTextWritten bytes IsText old new w
told_put bytes held old new items slice IsText w same spelled is_text value put =
    is_put spelled.0 items spelled.1 (is_text spelled.0 (subst (Spells spelled.0) (sym same) spelled.1)) (subst (λ (x : List ℕ). IsPut x old new w) value put)

pub told_fault : (bytes room : List ℕ) (IsText : Tree → List ℕ → Type 0) (f : BsonFault) (a : FirstFault) (w : TextWritten) → WholeFault bytes f → a ≡ first_fault (Some (fault (0 + f.at) f.cause)) → w ≡ no_text a → IsTextWritten bytes IsText room room w
told_fault bytes room IsText f a w bad is told = has_fault f bad (told ∙ ap no_text (is ∙ counted_from_0 f)) refl

pub told_refusal : (bytes room : List ℕ) (t : Tree) (e : DocRefusal) (w : TextWritten) → Spells t bytes → IsLengthRefusal 2147483647 (canonical_len t) e → w ≡ no_form e → IsCanonicalWritten bytes room room w
told_refusal bytes room t OutOfMemory w spells least told = wants_memory t spells (omega (arith, least)) told refl
told_refusal bytes room t TooLarge w spells over told = too_large t spells (omega (arith, over)) told refl
told_refusal bytes room t (RepeatedName d) w spells never told = elim never [ ]
told_refusal bytes room t ZeroInName w spells never told = elim never [ ]
told_refusal bytes room t Depth w spells never told = elim never [ ]
