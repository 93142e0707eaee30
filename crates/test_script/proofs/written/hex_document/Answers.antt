use Rattle.std.proofs.Common.{◌≡◌, ◌∙◌, ℕ, List, Result, Ok, sym, subst}
use Rattle.hex.specs.declared.error.FromHexError.{FromHexError}
use Rattle.test_script.specs.Written.{IsSpelledBy}
use Rattle.test_script.proofs.written.hex_document.Goals as goal

one_ok : (x y : List ℕ) → let l : Result (List ℕ) FromHexError = Ok x in let r : Result (List ℕ) FromHexError = Ok y in l ≡ r → x ≡ y
one_ok x y e = cc

pub returns-clause-none : goal.returns-clause-none
returns-clause-none c = λ e d is.
    c.document_of.ensures.none e d (subst (λ (b : List ℕ). IsSpelledBy b d) (one_ok _ _ (sym is.1 ∙ c.in_ok-bytes.ensures.spelled) ∙ sym c.deref.ensures.value) is.2)
