-- What the statements of update make of the documents of a namespace (MongoDB manual, Database
-- Commands: update).
use Rattle.std.specs.Prelude.{ℕ, ◌+◌, List, [], ◌∷◌, ◌++◌, ◌==◌, Bool, true, false, ◌&&◌, ◌||◌}
use Rattle.std.specs.Prelude.{Option, Some, None, Result, Ok, Err, codes, map, option_map}
use Rattle.std.specs.Prelude.{is_some, if◌then◌else◌}
use Rattle.bson_elem.specs.declared.kinds.Kind.TheVariants as kinds
use Rattle.bson_elem.specs.{Tree, no_code}
use Rattle.bson_raw.specs.{TreeValue, document_value, first_named, names_of}
use Rattle.bson_doc.specs.{coded_value, pairs_of, same, tree_of, value_of}
use Rattle.doc_query.specs.declared.failure.CommandError.{CommandError}
use Rattle.doc_query.specs.declared.failure.CommandError.TheVariants as errors
use Rattle.doc_update.specs.declared.operators.Change.{Change}
use Rattle.doc_update.specs.declared.operators.Change.TheVariants.{Operate, Replace}
use Rattle.doc_update.specs.declared.updates.Update.{Update}
use Rattle.doc_update.specs.declared.updates.Outcome.{Outcome}
use Rattle.doc_update.specs.declared.updates.Updates.{Updates}
use Rattle.doc_query.specs.{and_then, asked_flag, code_of, compared, count_value, inner, matches}
use Rattle.doc_query.specs.{words_of}
use Rattle.doc_update.specs.Changing.{changed}
use Rattle.doc_update.specs.Deleting.{filter_at}
use Rattle.doc_update.specs.Identity.{free_number, id_fault, id_in, is_taken, with_id}
use Rattle.doc_update.specs.Operators.{change_in, is_one_of}
use Rattle.doc_update.specs.Upserts.{new_fields}
use Rattle.doc_update.specs.WriteErrors.{has_error, write_error}

pub record UpdateView : Type 0 where
  pub filter : Tree
  pub change : Change
  -- all documents that match are changed, and not the first alone
  pub is_multi : Bool
  -- a document is inserted where none matches
  pub is_upsert : Bool

abbrev pub update_view : Update → UpdateView
update_view u =
    record {
      filter = tree_of u.filter.now;
      change = u.change;
      is_multi = u.is_multi;
      is_upsert = u.is_upsert;
    }

-- ---- what a statement asks for

abbrev pub is_statement_field : List ℕ → Bool
is_statement_field name =
    is_one_of name (codes "q" ∷ codes "u" ∷ codes "multi" ∷ codes "upsert" ∷ [])

abbrev pub are_statement_fields : List (List ℕ) → Bool
are_statement_fields [] = true
are_statement_fields (n ∷ ns) = if is_statement_field n then are_statement_fields ns else false

abbrev pub change_value : Option TreeValue → Result Change CommandError
change_value (Some (document_value kinds.Document b t)) = change_in (pairs_of t)
change_value _ = Err errors.Updates

-- the update of a statement is in its field `u`
abbrev pub change_at : Tree → Result Change CommandError
change_at t = change_value (first_named (codes "u") t)

abbrev pub flag_at : List ℕ → Tree → Result Bool CommandError
flag_at name t = asked_flag false errors.Updates (first_named name t)

-- a document takes the place of one alone
abbrev pub if_allowed : Change → Bool → Result (Unit {0}) CommandError
if_allowed (Replace d) true = Err errors.Many
if_allowed (Replace d) false = Ok tt
if_allowed (Operate o) multi = Ok tt

-- whether all documents that match are changed, and whether one is inserted where none matches
abbrev pub flags_in : Change → Tree → Result (Bool × Bool) CommandError
flags_in c t =
    and_then (flag_at (codes "multi") t) (λ multi.
    and_then (flag_at (codes "upsert") t) (λ upsert.
    and_then (if_allowed c multi) (λ _. Ok (multi, upsert))))

abbrev pub update_in : Tree → Result UpdateView CommandError
update_in t =
    if are_statement_fields (names_of t)
    then and_then (filter_at t) (λ f.
    and_then (change_at t) (λ c.
    and_then (flags_in c t) (λ flags.
    Ok (record { filter = f; change = c; is_multi = flags.0; is_upsert = flags.1 }))))
    else Err errors.Updates

abbrev pub update_of : TreeValue → Result UpdateView CommandError
update_of (document_value kinds.Document b t) = update_in t
update_of _ = Err errors.Updates

-- ---- what it makes of documents

-- the documents so far, how many matched or were inserted, and how many became others
pub record OutcomeView : Type 0 where
  pub documents : List TreeValue
  pub matched : ℕ
  pub modified : ℕ
  -- the `_id` of the document that was inserted
  pub inserted : Option TreeValue

abbrev pub outcome_view : Outcome → OutcomeView
outcome_view u =
    record {
      documents = map value_of u.documents.items;
      matched = u.matched;
      modified = u.modified;
      inserted = option_map value_of u.inserted;
    }

abbrev pub nothing_updated : OutcomeView
nothing_updated = record { documents = []; matched = 0; modified = 0; inserted = None }

abbrev pub changed_value : Change → TreeValue → Result TreeValue CommandError
changed_value c (document_value kinds.Document b t) =
    and_then (changed c (pairs_of t)) (λ ps.
    Ok (document_value kinds.Document no_code (tree_of ps)))
changed_value c v = Ok v

abbrev pub with_changed : TreeValue → TreeValue → OutcomeView → OutcomeView
with_changed old new r = record {
  documents = r.documents ++ new ∷ [];
  matched = r.matched + 1;
  modified = r.modified + (if same coded_value old new then 0 else 1);
  inserted = r.inserted;
}

abbrev pub with_kept : TreeValue → OutcomeView → OutcomeView
with_kept v r =
    record {
      documents = r.documents ++ v ∷ [];
      matched = r.matched;
      modified = r.modified;
      inserted = r.inserted;
    }

-- a document that matches is changed, unless one was before and the statement is for one alone
abbrev pub update_one : UpdateView → TreeValue → OutcomeView → Result OutcomeView CommandError
update_one u v r =
    if matches u.filter v && (u.is_multi || (r.matched == 0))
    then and_then (changed_value u.change v) (λ w. Ok (with_changed v w r))
    else Ok (with_kept v r)

abbrev pub updated : UpdateView → List TreeValue → OutcomeView → Result OutcomeView CommandError
updated u [] r = Ok r
updated u (v ∷ vs) r = and_then (update_one u v r) (λ s. updated u vs s)

-- ---- what it inserts

-- a document isn't inserted if no document may have its `_id`, or if it is taken
abbrev pub insertable : TreeValue → List TreeValue → Result (Unit {0}) CommandError
insertable v vs =
    if is_some (id_fault (id_in v)) then Err errors.InvalidId else
    if is_taken (id_in v) vs then Err errors.Duplicate else Ok tt

-- a document is inserted behind others
abbrev pub inserted : TreeValue → List TreeValue → Result OutcomeView CommandError
inserted v vs =
    and_then (insertable v vs) (λ _.
    Ok (record {
      documents = vs ++ v ∷ [];
      matched = 1;
      modified = 0;
      inserted = id_in v;
    }))

-- what a statement makes of the fields in its filter is inserted, with an `_id`
abbrev pub inserted_by : UpdateView → List TreeValue → Result OutcomeView CommandError
inserted_by u vs =
    and_then (new_fields u.change (pairs_of u.filter)) (λ ps.
    inserted (inner (with_id (free_number vs []) ps)) vs)

-- a statement of upsert inserts a document where none matches
abbrev pub carried : UpdateView → List TreeValue → Result OutcomeView CommandError
carried u vs =
    and_then (updated u vs nothing_updated) (λ r.
    if u.is_upsert && (r.matched == 0) then inserted_by u vs else Ok r)

-- what a statement makes of documents that its filter can be compared with
abbrev pub applied : UpdateView → List TreeValue → Result OutcomeView CommandError
applied u vs = and_then (compared u.filter vs) (λ all. carried u all)

-- what a statement makes of documents, or its error
abbrev pub updated_by : TreeValue → List TreeValue → Result OutcomeView CommandError
updated_by v vs = and_then (update_of v) (λ u. applied u vs)

-- ---- all statements

pub record UpdatesView : Type 0 where
  pub documents : List TreeValue
  -- how many matched or were inserted, and how many became others, added up over the statements
  pub matched : ℕ
  pub modified : ℕ
  -- the index of each statement that inserted a document, and the `_id` of that
  pub upserted : List TreeValue
  -- the errors of the statements that weren't carried out
  pub errors : List TreeValue

-- what the statements so far made of the documents
abbrev pub updates_view : Updates → UpdatesView
updates_view u =
    record {
      documents = map value_of u.documents.items;
      matched = u.matched;
      modified = u.modified;
      upserted = map value_of u.upserted.items;
      errors = map value_of u.errors.items;
    }

abbrev pub upserted_pair : ℕ → TreeValue → TreeValue
upserted_pair i id = inner ((codes "index", count_value i) ∷ (codes "_id", id) ∷ [])

abbrev pub upserted_of : ℕ → Option TreeValue → List TreeValue
upserted_of i None = []
upserted_of i (Some id) = upserted_pair i id ∷ []

abbrev pub recorded : ℕ → OutcomeView → UpdatesView → UpdatesView
recorded i r s = record {
  documents = r.documents;
  matched = s.matched + r.matched;
  modified = s.modified + r.modified;
  upserted = s.upserted ++ upserted_of i r.inserted;
  errors = s.errors;
}

-- the statement at this index isn't carried out, and changes nothing
abbrev pub refused : ℕ → CommandError → UpdatesView → UpdatesView
refused i e s = record {
  documents = s.documents;
  matched = s.matched;
  modified = s.modified;
  upserted = s.upserted;
  errors = s.errors ++ write_error i (code_of e) (words_of e) ∷ [];
}

abbrev pub settled_by : ℕ → Result OutcomeView CommandError → UpdatesView → UpdatesView
settled_by i (Ok r) s = recorded i r s
settled_by i (Err e) s = refused i e s

abbrev pub update_by : ℕ → TreeValue → UpdatesView → UpdatesView
update_by i v s = settled_by i (updated_by v s.documents) s

-- the statements from this index on are carried out one after another; where they are ordered,
-- nothing follows the first error
abbrev pub update_each : Bool → ℕ → List TreeValue → UpdatesView → UpdatesView
update_each ordered i [] s = s
update_each ordered i (v ∷ vs) s =
    if ordered && has_error s.errors then s
    else update_each ordered (i + 1) vs (update_by i v s)

-- what all statements make of documents
abbrev pub after_updates : Bool → List TreeValue → List TreeValue → UpdatesView
after_updates ordered vs documents =
    update_each ordered 0 vs
    (record { documents = documents; matched = 0; modified = 0; upserted = []; errors = [] })
