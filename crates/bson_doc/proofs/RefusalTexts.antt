-- What most refusals display as.
use Rattle.std.proofs.Common.{◌≡◌, ℕ, refl}
use Rattle.bson_doc.specs.declared.refusal.DocRefusal.{DocRefusal}
use Rattle.bson_doc.specs.declared.refusal.DocRefusal.TheVariants.{RepeatedName, OutOfMemory, TooLarge, ZeroInName, Depth}
use Rattle.bson_doc.specs.Refusals.{refusal_text, refusal_words}

pub plain_text : (e : DocRefusal) → ((depth : ℕ) → e ≡ RepeatedName depth → ⊥) → refusal_text e ≡ refusal_words e
plain_text (RepeatedName depth) other = absurd (other depth refl)
plain_text OutOfMemory other = refl
plain_text TooLarge other = refl
plain_text ZeroInName other = refl
plain_text Depth other = refl
