-- The numbers of causes, and their words.
use Rattle.std.specs.Prelude.{ℕ, List, ◌++◌, Option, Some, codes}
use Rattle.std.specs.Fmt.{decimal}
use Rattle.bson_json_read.specs.declared.fault.Cause.{Cause}
use Rattle.bson_json_read.specs.declared.fault.Cause.TheVariants as causes
use Rattle.bson_json_read.specs.declared.texts.TextFault.{TextFault}
use Rattle.bson_json_read.specs.Forms.{form_name}

abbrev pub cause_number : Cause → ℕ
cause_number causes.NotJson = 1
cause_number causes.NotAnObject = 2
cause_number causes.RepeatedName = 3
cause_number causes.ZeroInName = 4
cause_number causes.Depth = 5
cause_number causes.NumberTooLarge = 6
cause_number (causes.WrongForm form) = 7
cause_number causes.OutOfMemory = 8

-- what a cause displays as, without the name of a form
abbrev pub cause_words : Cause → List ℕ
cause_words causes.NotJson = codes "the text is no JSON"
cause_words causes.NotAnObject = codes "the text is no object"
cause_words causes.RepeatedName = codes "a name is repeated"
cause_words causes.ZeroInName = codes "a name has a 00 in it"
cause_words causes.Depth = codes "a document or an array is too deep"
cause_words causes.NumberTooLarge = codes "a number is too large"
cause_words (causes.WrongForm form) = codes "an object is not of the form "
cause_words causes.OutOfMemory = codes "out of memory"

-- what a cause displays as
abbrev pub cause_text : Cause → List ℕ
cause_text (causes.WrongForm form) = codes "an object is not of the form " ++ form_name form
cause_text cause = cause_words cause

abbrev pub shown_cause : Cause → Option (List ℕ)
shown_cause cause = Some (cause_text cause)

-- what the fault of a text among several displays as
abbrev pub text_fault_text : TextFault → List ℕ
text_fault_text f =
    codes "fault " ++ (decimal (cause_number f.cause) ++ (codes " at line "
    ++ (decimal f.place.line ++ (codes ", column " ++ (decimal f.place.column
    ++ (codes ": " ++ cause_text f.cause))))))

abbrev pub shown_text_fault : TextFault → Option (List ℕ)
shown_text_fault f = Some (text_fault_text f)
