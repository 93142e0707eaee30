-- What the statements of delete leave of the documents (MongoDB manual, Database Commands: delete).
use Rattle.std.specs.Prelude.{ℕ, ◌+◌, List, [], ◌∷◌, ◌++◌, ◌==◌, Bool, true, false, ◌&&◌, Option}
use Rattle.std.specs.Prelude.{Some, None, Result, Ok, Err, codes, if◌then◌else◌, length, map}
use Rattle.bson_elem.specs.declared.kinds.Kind.TheVariants as kinds
use Rattle.bson_elem.specs.{Tree}
use Rattle.bson_raw.specs.{TreeValue, document_value, first_named, names_of}
use Rattle.bson_doc.specs.{tree_of, value_of}
use Rattle.doc_update.specs.declared.deletes.Delete.{Delete}
use Rattle.doc_update.specs.declared.deletes.Deletes.{Deletes}
use Rattle.doc_query.specs.declared.failure.CommandError.{CommandError}
use Rattle.doc_query.specs.declared.failure.CommandError.TheVariants as errors
use Rattle.doc_query.specs.{and_then, code_of, compared, count_of, filter_value, matches, words_of}
use Rattle.doc_update.specs.WriteErrors.{has_error, write_error}

pub record DeleteView : Type 0 where
  pub filter : Tree
  -- the first document that matches is deleted alone
  pub is_single : Bool

abbrev pub delete_view : Delete → DeleteView
delete_view d = record { filter = tree_of d.filter.now; is_single = d.is_single }

-- ---- what a statement asks for

-- the filter of a statement is in its field `q`
abbrev pub filter_at : Tree → Result Tree CommandError
filter_at t = filter_value (first_named (codes "q") t)

-- 0 is for all documents that match, and 1 for the first of them
abbrev pub single_of : Option ℕ → Result Bool CommandError
single_of None = Err errors.Deletes
single_of (Some n) = if n == 0 then Ok false else if n == 1 then Ok true else Err errors.Deletes

abbrev pub single_value : Option TreeValue → Result Bool CommandError
single_value None = Err errors.Deletes
single_value (Some v) = single_of (count_of v)

abbrev pub single_at : Tree → Result Bool CommandError
single_at t = single_value (first_named (codes "limit") t)

-- a statement has these two fields alone
abbrev pub delete_in : Tree → Result DeleteView CommandError
delete_in t =
    if length (names_of t) == 2
    then and_then (filter_at t) (λ f.
    and_then (single_at t) (λ single. Ok (record { filter = f; is_single = single })))
    else Err errors.Deletes

abbrev pub delete_of : TreeValue → Result DeleteView CommandError
delete_of (document_value kinds.Document b t) = delete_in t
delete_of _ = Err errors.Deletes

-- ---- what is left

abbrev pub survivors : DeleteView → List TreeValue → List TreeValue
survivors d [] = []
survivors d (v ∷ vs) =
    if matches d.filter v then (if d.is_single then vs else survivors d vs) else v ∷ survivors d vs

-- what a statement leaves of documents, or its error
abbrev pub deleted_by : TreeValue → List TreeValue → Result (List TreeValue) CommandError
deleted_by v vs =
    and_then (delete_of v) (λ d. and_then (compared d.filter vs) (λ all. Ok (survivors d all)))

-- ---- all statements

pub record DeletesView : Type 0 where
  -- those that are left
  pub documents : List TreeValue
  -- the errors of the statements that weren't carried out
  pub errors : List TreeValue

-- what the statements so far left of the documents
abbrev pub deletes_view : Deletes → DeletesView
deletes_view d =
    record { documents = map value_of d.documents.items; errors = map value_of d.errors.items }

-- the statement at this index isn't carried out, and deletes nothing
abbrev pub refused : ℕ → CommandError → DeletesView → DeletesView
refused i e s = record {
  documents = s.documents;
  errors = s.errors ++ write_error i (code_of e) (words_of e) ∷ [];
}

abbrev pub settled_by : ℕ → Result (List TreeValue) CommandError → DeletesView → DeletesView
settled_by i (Ok left) s = record { documents = left; errors = s.errors }
settled_by i (Err e) s = refused i e s

abbrev pub delete_by : ℕ → TreeValue → DeletesView → DeletesView
delete_by i v s = settled_by i (deleted_by v s.documents) s

-- the statements from this index on are carried out one after another; where they are ordered,
-- nothing follows the first error
abbrev pub delete_each : Bool → ℕ → List TreeValue → DeletesView → DeletesView
delete_each ordered i [] s = s
delete_each ordered i (v ∷ vs) s =
    if ordered && has_error s.errors then s
    else delete_each ordered (i + 1) vs (delete_by i v s)

-- what all statements leave of documents
abbrev pub after_deletes : Bool → List TreeValue → List TreeValue → DeletesView
after_deletes ordered vs documents =
    delete_each ordered 0 vs (record { documents = documents; errors = [] })
