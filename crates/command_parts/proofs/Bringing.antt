-- Documents that are appended one after another.
use Rattle.std.proofs.Common.{◌≡◌, ◌++◌, ℕ, List, [], ◌∷◌, Option, Some, None, Err, refl, sym, ap, ◌∙◌, append_assoc, append-nil}
use Rattle.bson_elem.specs.{Tree}
use Rattle.bson_raw.specs.{TreeValue, document_value, leaf_value, with_first}
use Rattle.doc_query.specs.declared.failure.Failure.{Failure}
use Rattle.doc_query.specs.declared.failure.Failure.TheVariants.{OutOfMemory, Refused}
use Rattle.doc_query.specs.{IsFailure}
use Rattle.command_parts.specs.Brought.{Appended, alone, followed_by, if_count_allowed, in_array, joined, kept_value, with_others}

-- the values of a first pair and the others
pub in_array-with_first : (name : List ℕ) (v : TreeValue) (others : Tree) → in_array (with_first name v others) ≡ with_others (kept_value v) (in_array others)
in_array-with_first name (leaf_value k v) others = refl
in_array-with_first name (document_value k b t) others = refl

pub more : (now new : List TreeValue) (v : Option TreeValue) (rest : Option (List TreeValue)) → followed_by now (alone v) ≡ Some new → followed_by now (with_others v rest) ≡ followed_by new rest
more now new None rest e = absurd cc
more now new (Some v) None e = refl
more now new (Some v) (Some vs) e =
    let is : now ++ v ∷ [] ≡ new = cc in
    ap Some (sym (append_assoc now (v ∷ []) vs) ∙ ap (λ (l : List TreeValue). l ++ vs) is)

pub more_joined : (now new : List TreeValue) (vs rest : Option (List TreeValue)) → followed_by now vs ≡ Some new → followed_by now (joined vs rest) ≡ followed_by new rest
more_joined now new None rest e = absurd cc
more_joined now new (Some vs) None e = refl
more_joined now new (Some vs) (Some ws) e =
    let is : now ++ vs ≡ new = cc in
    ap Some (sym (append_assoc now vs ws) ∙ ap (λ (l : List TreeValue). l ++ ws) is)

no_more : (old : List TreeValue) (all : Option (List TreeValue)) → followed_by old all ≡ None → all ≡ None
no_more old None e = refl
no_more old (Some vs) e = absurd cc

none_before : (v : Option TreeValue) (rest : Option (List TreeValue)) → alone v ≡ None → with_others v rest ≡ None
none_before None rest e = refl
none_before (Some v) rest e = absurd cc

-- one of the documents wasn't appended, so all of them weren't
pub stops : (old now last end : List TreeValue) (all rest : Option (List TreeValue)) (v : Option TreeValue) (e : Failure)
    → followed_by old all ≡ followed_by now (with_others v rest) → Appended now (alone v) (Err e) last → Appended old all (Err e) end
stops old now last end all rest v OutOfMemory is a = tt
stops old now last end all rest v (Refused e) is a = (no_more old all (is ∙ ap (followed_by now) (none_before v rest a.0)), a.1)

none_joined : (vs rest : Option (List TreeValue)) → vs ≡ None → joined vs rest ≡ None
none_joined None rest e = refl
none_joined (Some vs) rest e = absurd cc

pub stops_joined : (old now last end : List TreeValue) (all vs rest : Option (List TreeValue)) (e : Failure)
    → followed_by old all ≡ followed_by now (joined vs rest) → Appended now vs (Err e) last → Appended old all (Err e) end
stops_joined old now last end all vs rest OutOfMemory is a = tt
stops_joined old now last end all vs rest (Refused e) is a = (no_more old all (is ∙ ap (followed_by now) (none_joined vs rest a.0)), a.1)

-- none are left
pub all_appended : (old now : List TreeValue) (all : Option (List TreeValue)) → followed_by old all ≡ followed_by now (Some []) → followed_by old all ≡ Some now
all_appended old now all is = is ∙ ap Some (append-nil now)

-- what wasn't appended wasn't inserted
pub none_inserted : (old new : List TreeValue) (given : Option (List TreeValue)) (e : Failure) → Appended old given (Err e) new → IsFailure (if_count_allowed given) e
none_inserted old new given OutOfMemory a = tt
none_inserted old new given (Refused e) a = rw (a.0, a.1) refl
