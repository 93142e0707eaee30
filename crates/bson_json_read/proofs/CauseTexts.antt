-- What a cause displays as, where that has no form.
use Rattle.std.proofs.Common.{◌≡◌, ◌≢◌, refl}
use Rattle.bson_json_read.specs.declared.fault.Cause.{Cause}
use Rattle.bson_json_read.specs.declared.fault.Cause.TheVariants as causes
use Rattle.bson_json_read.specs.declared.form.Form.{Form}
use Rattle.bson_json_read.specs.Causes.{cause_text, cause_words}

pub plain_text : (c : Cause) → ((form : Form) → c ≢ causes.WrongForm form) → cause_text c ≡ cause_words c
plain_text causes.NotJson n = refl
plain_text causes.NotAnObject n = refl
plain_text causes.RepeatedName n = refl
plain_text causes.ZeroInName n = refl
plain_text causes.Depth n = refl
plain_text causes.NumberTooLarge n = refl
plain_text (causes.WrongForm form) n = absurd (n form refl)
plain_text causes.OutOfMemory n = refl
