use Rattle.std.proofs.Common.{[], ◌++◌, refl, sym}
use Rattle.std.proofs.lemmas.List.{append-nil}
use Rattle.bson_elem.proofs.FrontLaws.{same_front}
use Rattle.bson_elem.proofs.laws.no_spelling_begins_another.Goals as goal

pub returns : goal.returns
returns c = λ t u a rest s s'. (same_front (a ++ rest) t u a (a ++ rest) rest [] s s' refl (sym (append-nil (a ++ rest)))).1
