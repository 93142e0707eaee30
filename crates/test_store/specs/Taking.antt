-- How batches are taken from cursors.
use Rattle.std.specs.Prelude.{◌≡◌, ℕ, ℤ, ◌<◌, List, Some, None, Result, Ok, Err, length, map}
use Rattle.std.specs.Prelude.{slice_get}
use Rattle.bson_raw.specs.{TreeValue}
use Rattle.bson_doc.specs.declared.bson_values.Bson.{Bson}
use Rattle.bson_doc.specs.{value_of}
use Rattle.std.specs.declared.alloc.Global.{Global}
use Rattle.std.specs.declared.vec.Vec.{Vec}
use Rattle.doc_stages.specs.{after_batch, next_batch}
use Rattle.doc_query.specs.declared.failure.CommandError.TheVariants as errors
use Rattle.doc_query.specs.declared.failure.Failure.{Failure}
use Rattle.doc_query.specs.declared.failure.Failure.TheVariants.{OutOfMemory, Refused}
use Rattle.test_store.specs.declared.store.Cursor.{Cursor}
use Rattle.test_store.specs.Held.{CursorView, NamespaceView, cursor_index, cursor_of, id_if_left}
use Rattle.test_store.specs.Held.{open_at, with_left}

-- the cursor with this id is open, has this namespace, and is at this index
abbrev pub IsOpenAt : NamespaceView → ℤ → List Cursor → ℕ → Type 0
IsOpenAt n id cs i =
    (cursor_index id ≡ Some i) × (i < length cs)
    × (open_at n (cursor_index id) (map cursor_of cs) ≡ slice_get (map cursor_of cs) i)

-- The next batch of the documents that were left, of at most this many, was removed from the cursor
-- with this id and this namespace.
pub record TakesFrom (n : NamespaceView) (id : ℤ) (count : ℕ) (old : List CursorView)
    (batch : List TreeValue) (after : ℤ) (new : List CursorView) : Type 0 where
  pub cursor : CursorView
  pub is_open : open_at n (cursor_index id) old ≡ Some cursor
  pub batch_is : batch ≡ next_batch count cursor.left
  pub id_is : after ≡ id_if_left id (after_batch count cursor.left)
  pub left : new ≡ with_left (cursor_index id) (after_batch count cursor.left) old

-- The next batch of what a cursor has left, of at most this many, was removed from it; or there is
-- no such open cursor, or memory ran out, and nothing changed.
abbrev pub IsNextBatch : NamespaceView → ℤ → ℕ → List CursorView
    → Result (Vec Bson Global × ℤ) Failure → List CursorView → Type 0
IsNextBatch n id count old (Ok x) new = TakesFrom n id count old (map value_of x.0.items) x.1 new
IsNextBatch n id count old (Err OutOfMemory) new = new ≡ old
IsNextBatch n id count old (Err (Refused e)) new =
    (e ≡ errors.CursorNotFound) × (open_at n (cursor_index id) old ≡ None) × (new ≡ old)
