-- The body of a request and its sequences, put together.
use Rattle.std.proofs.Common.{◌≡◌, List, [], ◌∷◌, Option, Some, None, Ok, Err, refl, sym, ap, ◌∙◌}
use Rattle.std.specs.Prelude.{option_map}
use Rattle.bson_elem.specs.{Tree}
use Rattle.bson_doc.proofs.Lemmas.{pairs_of_tree}
use Rattle.bson_doc.specs.{Pairs, pairs_of, tree_of}
use Rattle.doc_query.specs.declared.failure.CommandError.{CommandError}
use Rattle.doc_query.specs.{body_of, or_error, owned}
use Rattle.wire_msg.specs.{Content, Sequence}
use Rattle.script_rules.specs.Asked.{asked_value, document_of, with_sequences}

by_owned : (e : CommandError) (o : Option Tree) (u : Tree) → or_error e o ≡ Ok u → o ≡ Some u
by_owned e None u is = absurd cc
by_owned e (Some t) u is = cc

by_none : (e f : CommandError) (o : Option Tree) → or_error e o ≡ Err f → o ≡ None
by_none e f None is = refl
by_none e f (Some t) is = absurd cc

pub none_left : (qs : List Sequence) → with_sequences qs None ≡ None
none_left [] = refl
none_left (q ∷ qs) = none_left qs

-- a body that was read has these fields
pub read_body : (c : Content) (ps : Pairs) → body_of c.body ≡ Ok (tree_of ps)
    → asked_value c ≡ option_map document_of (with_sequences c.sequences (Some ps))
read_body c ps is =
    ap (λ (o : Option Tree). option_map document_of (with_sequences c.sequences (option_map pairs_of o)))
    (by_owned _ (owned c.body) (tree_of ps) is)
    ∙ ap (λ (l : Pairs). option_map document_of (with_sequences c.sequences (Some l)))
    (pairs_of_tree ps)

-- and one that was refused is none
pub no_body : (c : Content) (f : CommandError) → body_of c.body ≡ Err f → None ≡ asked_value c
no_body c f is =
    sym (ap (λ (o : Option Tree). option_map document_of (with_sequences c.sequences (option_map pairs_of o)))
    (by_none _ f (owned c.body) is)
    ∙ ap (option_map document_of) (none_left c.sequences))
