use Rattle.std.proofs.Common.{[], sym}
use Rattle.std.proofs.lemmas.List.{append-nil}
use Rattle.bson_elem.proofs.FrontLaws.{same_front}
use Rattle.bson_elem.proofs.laws.one_tree.Goals as goal

pub returns : goal.returns
returns c = λ t u bytes s s'. (same_front bytes t u bytes bytes [] [] s s' (sym (append-nil bytes)) (sym (append-nil bytes))).0
