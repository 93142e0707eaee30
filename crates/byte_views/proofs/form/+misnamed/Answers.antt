use Rattle.std.proofs.Common.{◌≡◌, ◌≤◌, ◌<◌, ◌+◌, ◌∙◌, ◌^◌, Some, true, length, sym, ap, arith}
use Rattle.bson_elem.specs.Spelling.{elements}
use Rattle.bson_elem.proofs.Lemmas.{length-document}
use Rattle.bson_raw.specs.Naming.{is_named}
use Rattle.byte_views.specs.Forms.{bytes_from, misnamed_in}
use Rattle.byte_views.proofs.FormLaws.{misnamed_le, told_within}
use Rattle.byte_views.proofs.form.+misnamed.Goals as goal

pub misnamed-returns-in-Some-misnamed_in : goal.misnamed-returns-in-Some-misnamed_in
misnamed-returns-in-Some-misnamed_in t c = λ whole spelled.
    let left = c.loop-name.invariant.so_far whole spelled in
    let pair = c.in-Some.ensures.steps.1.0 left.0 left.1 in
    let v = pair.tree_value in
    let named : is_named c.args.in_array c.loop-name.index c.in-Some.name.now ≡ true = cc in
    let within : Some c.in-Some-misnamed_in.within ≡ misnamed_in v = c.in-Some-misnamed_in.ensures v pair.shown in
    let size : c.bytes_left-left-in-Some.result ≡ bytes_from pair.others = c.bytes_left-left-in-Some.ensures.pairs pair.others pair.left in
    let told = told_within c.args.in_array c.loop-name.index c.in-Some.name.now v pair.others whole left.0 c.in-Some-misnamed_in.within named pair.is_first left.2 (sym within) in
    let low : bytes_from pair.others + c.in-Some-misnamed_in.within ≤ bytes_from whole = rw told at (misnamed_le c.args.in_array 0 whole) in
    let short : bytes_from whole < 2 ^ 31 = omega (arith, ap length spelled.parts, length-document (elements whole), spelled.short) in
    ap Some (omega (arith, c.saturating_add.ensures, size, low, short)) ∙ sym told
