-- What the faults of scripts display as.
use Rattle.std.specs.Prelude.{ℕ, List, ◌++◌, codes}
use Rattle.test_script.specs.declared.fault.Cause.{Cause}
use Rattle.test_script.specs.declared.fault.Cause.TheVariants as causes

-- the text of a cause; of Extended JSON, what stands before its place
abbrev pub cause_text : Cause → List ℕ
cause_text causes.Start = codes "a rule begins with 'on' and the name of a command, or '*'"
cause_text causes.Filter =
    codes "what follows the command is no action, no 'times' and no filter, "
    ++ codes "which is a document as Extended JSON or as hexadecimal text"
cause_text (causes.Json cause column) =
    codes "the document is no Extended JSON, at its character "
cause_text causes.Operator =
    codes "the filter asks for what is not carried out: it takes values, "
    ++ codes "$eq, $ne, $gt, $gte, $lt, $lte, $in, $nin, $exists, $and and $or"
cause_text causes.Times = codes "a whole number below 2^64 follows 'times'"
cause_text causes.Action =
    codes "a rule ends with reply DOCUMENT, error CODE \"NAME\", delay MS, hangup, "
    ++ codes "cut BYTES, cutup BYTES, drop or pass, with whole numbers, CODE below 2^31, "
    ++ codes "and nothing behind"
cause_text causes.OutOfMemory = codes "out of memory"
