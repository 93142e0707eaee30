-- Which documents of a collection a command selects.
use Rattle.std.specs.Prelude.{ℕ, List, ◌==◌, Result, Ok, codes, drop, take, if◌then◌else◌}
use Rattle.bson_elem.specs.{Tree}
use Rattle.bson_raw.specs.{TreeValue}
use Rattle.bson_doc.specs.{tree_of}
use Rattle.doc_query.specs.declared.failure.CommandError.{CommandError}
use Rattle.doc_query.specs.declared.failure.CommandError.TheVariants as errors
use Rattle.test_store.specs.declared.selection.Selection.{Selection}
use Rattle.doc_query.specs.{and_then, filter_field, found_in}
use Rattle.doc_stages.specs.{sort_field, sorted_in}
use Rattle.test_store.specs.Fields.{namespace_at, number_field}
use Rattle.test_store.specs.Held.{CollectionView, NamespaceView, documents_in, namespace_of}

pub record SelectionView : Type 0 where
  pub namespace : NamespaceView
  pub filter : Tree
  -- the keys that they are sorted by
  pub keys : Tree
  -- how many that match are passed over
  pub skip : ℕ
  -- the most after those, or 0 for all
  pub limit : ℕ

abbrev pub selection_of : Selection → SelectionView
selection_of q =
    record {
      namespace = namespace_of q.namespace;
      filter = tree_of q.filter;
      keys = tree_of q.keys;
      skip = q.skip;
      limit = q.limit;
    }

-- how many documents are passed over, and the most after those
abbrev pub bounds_in : Tree → Result (ℕ × ℕ) CommandError
bounds_in t =
    and_then (number_field (codes "skip") errors.Skip t) (λ skip.
    and_then (number_field (codes "limit") errors.Limit t) (λ limit. Ok (skip, limit)))

-- what a command asks for whose collection and filter are in the fields with these names
abbrev pub selection_in : List ℕ → CommandError → List ℕ → Tree → Result SelectionView CommandError
selection_in name error filter t =
    and_then (namespace_at name error t) (λ n.
    and_then (filter_field filter t) (λ f.
    and_then (sort_field t) (λ keys.
    and_then (bounds_in t) (λ b.
    Ok (record { namespace = n; filter = f; keys = keys; skip = b.0; limit = b.1 })))))

-- the first ones, at most this many, or all if the limit is 0
abbrev pub limited : {A : Type 0} → ℕ → List A → List A
limited n vs = if n == 0 then vs else take n vs

-- these documents sorted, without those that are passed over, and no more than the limit
abbrev pub arranged : SelectionView → List TreeValue → Result (List TreeValue) CommandError
arranged q vs = and_then (sorted_in q.keys vs) (λ ws. Ok (limited q.limit (drop q.skip ws)))

-- the documents that match, sorted, without those that are passed over, and no more than the limit
abbrev pub selected : SelectionView → List CollectionView → Result (List TreeValue) CommandError
selected q cs =
    and_then (found_in q.filter (documents_in q.namespace cs)) (λ vs. arranged q vs)
