-- What each command does: its answer, and what is held after it.
use Rattle.std.specs.Prelude.{◌≡◌, ℕ, ℤ, pos, List, [], ◌∷◌, ◌++◌, Bool, true, false, is_some, not}
use Rattle.std.specs.Prelude.{Result, Ok, Err}
use Rattle.std.specs.Prelude.{Option, Some, None, codes, length, map, ◌-◌}
use Rattle.std.specs.Prelude.{if◌then◌else◌, nat_eq}
use Rattle.std.specs.Str.{bytes_eq}
use Rattle.bson_elem.specs.{Tree}
use Rattle.bson_raw.specs.{TreeValue, first_named}
use Rattle.wire_msg.specs.{Content}
use Rattle.test_store.specs.declared.answer.Batch.TheVariants.{First, Next}
use Rattle.test_store.specs.declared.commands.Command.{Command}
use Rattle.test_store.specs.declared.commands.Command.TheVariants as commands
use Rattle.doc_query.specs.declared.failure.CommandError.{CommandError}
use Rattle.doc_query.specs.declared.failure.CommandError.TheVariants as errors
use Rattle.doc_query.specs.declared.failure.Failure.{Failure}
use Rattle.doc_query.specs.declared.failure.Failure.TheVariants.{OutOfMemory, Refused}
use Rattle.doc_query.specs.{and_then, array_in, body_of, filter_field, found, or_error}
use Rattle.doc_stages.specs.{after_batch, after_stages, next_batch, projected, projection_field}
use Rattle.doc_update.specs.{UpdatesView, after_deletes, after_updates}
use Rattle.command_parts.specs.{brought, build_pairs, error_pairs, first_name, hello_pairs}
use Rattle.command_parts.specs.{ok_alone, refusal_pairs}
use Rattle.test_store.specs.Adding.{AddingView, gathered}
use Rattle.test_store.specs.Answers.{counted_pairs, cursor_answer, dropped_pairs}
use Rattle.test_store.specs.Answers.{created_pairs, database_listing, databases_pairs}
use Rattle.test_store.specs.Answers.{dropped_database_pairs}
use Rattle.test_store.specs.Answers.{killed_pairs}
use Rattle.test_store.specs.Answers.{listing, updated_pairs, written_pairs}
use Rattle.test_store.specs.Fields.{first_batch_size, first_size, flag_field, id_field, list_size}
use Rattle.test_store.specs.Fields.{name_only_field}
use Rattle.test_store.specs.Fields.{namespace_at, next_batch_size, text_field}
use Rattle.test_store.specs.Held.{CollectionView, CursorView, NamespaceView, StoreView, closed_at}
use Rattle.test_store.specs.Held.{cursor_index, documents_in, id_if_left, index_of_value, is_open}
use Rattle.test_store.specs.Held.{held_indexes, indexes_in, with_indexes_of}
use Rattle.test_store.specs.Held.{database_names, has_database, namespace_text, open_at, opened}
use Rattle.test_store.specs.Held.{opened_id, with_any}
use Rattle.test_store.specs.Held.{with_left, with_replaced, without_collection, without_database}
use Rattle.test_store.specs.Indexes.{IndexView, index_listing, with_indexes}
use Rattle.test_store.specs.Options.{first_unread}
use Rattle.test_store.specs.Selecting.{SelectionView, selected, selection_in}

-- an answer, and what is held after it
pub record Reply : Type 0 where
  pub answer : List (List ℕ × TreeValue)
  pub held : StoreView

-- an answer that changes nothing
abbrev pub unchanged : StoreView → List (List ℕ × TreeValue) → Result Reply CommandError
unchanged s pairs = Ok (record { answer = pairs; held = s })

-- ---- insert

abbrev pub insert_reply : StoreView → NamespaceView → AddingView → Reply
insert_reply s n a = record {
  answer = written_pairs (length a.added) a.errors;
  held = record { collections = with_any n a.added s.collections; cursors = s.cursors };
}

abbrev pub insert_by : StoreView → NamespaceView → Bool → List TreeValue → Reply
insert_by s n ordered vs = insert_reply s n (gathered ordered n (documents_in n s.collections) vs)

-- the answer of insert and what is held after it, or its error
abbrev pub insert : StoreView → Content → Result Reply CommandError
insert s c =
    and_then (namespace_at (codes "insert") errors.Insert c.body) (λ n.
    and_then (flag_field (codes "ordered") true errors.Ordered c.body) (λ ordered.
    and_then (brought (codes "documents") c) (λ vs. Ok (insert_by s n ordered vs))))

-- ---- find

-- what find asks for beside the documents that are found
pub record ShapeView : Type 0 where
  -- of the first batch
  pub count : ℕ
  pub is_single : Bool
  pub projection : Tree

-- what find asks for
pub record QueryView : Type 0 where
  pub selection : SelectionView
  pub shape : ShapeView

abbrev pub shape_in : Tree → Result ShapeView CommandError
shape_in t =
    and_then (first_batch_size t) (λ count.
    and_then (flag_field (codes "singleBatch") false errors.SingleBatch t) (λ single.
    and_then (projection_field t) (λ p.
    Ok (record { count = count; is_single = single; projection = p }))))

abbrev pub query_in : Tree → Result QueryView CommandError
query_in t =
    and_then (selection_in (codes "find") errors.Find (codes "filter") t) (λ q.
    and_then (shape_in t) (λ shape. Ok (record { selection = q; shape = shape })))

-- what a cursor is opened over: what is left after the batch, unless that is to be the only one
abbrev pub left_of : {A : Type 0} → Bool → List A → List A
left_of true vs = []
left_of false vs = vs

-- the first documents that were found, and a cursor over the others
abbrev pub find_reply : StoreView → NamespaceView → List TreeValue → List TreeValue → Reply
find_reply s n batch left = record {
  answer = cursor_answer First batch (opened_id left s.cursors) (namespace_text n);
  held = record { collections = s.collections; cursors = opened n left s.cursors };
}

-- the first batch of these documents, of at most this many, and a cursor over the others
abbrev pub found_reply : StoreView → NamespaceView → List TreeValue → ℕ → Bool → Reply
found_reply s n vs count single =
    find_reply s n (next_batch count vs) (left_of single (after_batch count vs))

abbrev pub find_reply_to : StoreView → QueryView → Result Reply CommandError
find_reply_to s q =
    and_then (selected q.selection s.collections) (λ vs.
    Ok (found_reply s q.selection.namespace (map (projected q.shape.projection) vs)
    q.shape.count q.shape.is_single))

-- the answer of find and what is held after it, or its error
abbrev pub find : StoreView → Tree → Result Reply CommandError
find s t = and_then (query_in t) (λ q. find_reply_to s q)

-- ---- getMore

-- the next documents of a cursor
abbrev pub more_reply : StoreView → ℤ → NamespaceView → ℕ → CursorView → Reply
more_reply s id n count c = record {
  answer =
      cursor_answer Next (next_batch count c.left) (id_if_left id (after_batch count c.left))
      (namespace_text n);
  held =
      record {
        collections = s.collections;
        cursors = with_left (cursor_index id) (after_batch count c.left) s.cursors;
      };
}

abbrev pub next_answer : StoreView → ℤ → NamespaceView → ℕ → Result Reply CommandError
next_answer s id n count =
    and_then (or_error errors.CursorNotFound (open_at n (cursor_index id) s.cursors))
    (λ c. Ok (more_reply s id n count c))

-- the answer of getMore and what is held after it, or its error
abbrev pub get_more : StoreView → Tree → Result Reply CommandError
get_more s t =
    and_then (id_field t) (λ id.
    and_then (namespace_at (codes "collection") errors.Collection t) (λ n.
    and_then (next_batch_size t) (λ count. next_answer s id n count)))

-- ---- count

-- the answer of count, or its error
abbrev pub count : StoreView → Tree → Result Reply CommandError
count s t =
    and_then (selection_in (codes "count") errors.Count (codes "query") t) (λ q.
    and_then (selected q s.collections) (λ vs.
    Ok (record { answer = counted_pairs (length vs); held = s })))

-- ---- delete

-- this is left of the documents, and these are the errors of statements
abbrev pub delete_reply : StoreView → NamespaceView → List TreeValue → List TreeValue → Reply
delete_reply s n left errors = record {
  answer = written_pairs (length (documents_in n s.collections) - length left) errors;
  held = record { collections = with_replaced n left s.collections; cursors = s.cursors };
}

abbrev pub delete_by : StoreView → NamespaceView → Bool → List TreeValue → Reply
delete_by s n ordered vs =
    let d = after_deletes ordered vs (documents_in n s.collections) in
    delete_reply s n d.documents d.errors

-- the answer of delete and what is held after it, or its error
abbrev pub delete : StoreView → Content → Result Reply CommandError
delete s c =
    and_then (namespace_at (codes "delete") errors.Delete c.body) (λ n.
    and_then (flag_field (codes "ordered") true errors.Ordered c.body) (λ ordered.
    and_then (brought (codes "deletes") c) (λ vs. Ok (delete_by s n ordered vs))))

-- ---- update

abbrev pub update_reply : StoreView → NamespaceView → UpdatesView → Reply
update_reply s n u = record {
  answer = updated_pairs u.matched u.modified u.upserted u.errors;
  held = record { collections = with_replaced n u.documents s.collections; cursors = s.cursors };
}

abbrev pub update_by : StoreView → NamespaceView → Bool → List TreeValue → Reply
update_by s n ordered vs =
    update_reply s n (after_updates ordered vs (documents_in n s.collections))

-- the answer of update and what is held after it, or its error
abbrev pub update : StoreView → Content → Result Reply CommandError
update s c =
    and_then (namespace_at (codes "update") errors.Update c.body) (λ n.
    and_then (flag_field (codes "ordered") true errors.Ordered c.body) (λ ordered.
    and_then (brought (codes "updates") c) (λ vs. Ok (update_by s n ordered vs))))

-- ---- aggregate

abbrev pub aggregate_reply : StoreView → NamespaceView → Tree → Result Reply CommandError
aggregate_reply s n fields =
    and_then (or_error errors.Stage (array_in (first_named (codes "pipeline") fields))) (λ stages.
    and_then (first_size (first_named (codes "cursor") fields)) (λ count.
    and_then (after_stages stages (documents_in n s.collections)) (λ vs.
    Ok (found_reply s n vs count false))))

-- the answer of aggregate and what is held after it, or its error
abbrev pub aggregate : StoreView → Tree → Result Reply CommandError
aggregate s t =
    and_then (namespace_at (codes "aggregate") errors.Aggregate t) (λ n.
    and_then (body_of t) (λ fields. aggregate_reply s n fields))

-- ---- killCursors

-- the ids of cursors that were closed, the values that weren't such an id, and the cursors
pub record Killing : Type 0 where
  pub killed : List TreeValue
  pub missing : List TreeValue
  pub cursors : List CursorView

-- one more cursor is closed, if the value is the id of an open one
abbrev pub kill_one : NamespaceView → TreeValue → Killing → Killing
kill_one n v k =
    if is_open n (index_of_value v) k.cursors
    then record {
      killed = k.killed ++ v ∷ [];
      missing = k.missing;
      cursors = closed_at n (index_of_value v) k.cursors;
    }
    else record { killed = k.killed; missing = k.missing ++ v ∷ []; cursors = k.cursors }

abbrev pub kill_each : NamespaceView → List TreeValue → Killing → Killing
kill_each n [] k = k
kill_each n (v ∷ vs) k = kill_each n vs (kill_one n v k)

-- with these ids and values told so far
abbrev pub killing_so_far : StoreView → List TreeValue → List TreeValue → Killing
killing_so_far s killed missing =
    record { killed = killed; missing = missing; cursors = s.cursors }

abbrev pub killing : StoreView → NamespaceView → List TreeValue → Killing
killing s n vs = kill_each n vs (killing_so_far s [] [])

abbrev pub killed_reply : StoreView → Killing → Reply
killed_reply s k = record {
  answer = killed_pairs k.killed k.missing;
  held = record { collections = s.collections; cursors = k.cursors };
}

abbrev pub kill_reply : StoreView → NamespaceView → List TreeValue → Reply
kill_reply s n vs = killed_reply s (killing s n vs)

abbrev pub kill_in : StoreView → NamespaceView → Tree → Result Reply CommandError
kill_in s n fields =
    and_then (or_error errors.Cursors (array_in (first_named (codes "cursors") fields))) (λ vs.
    Ok (kill_reply s n vs))

-- the answer of killCursors and what is held after it, or its error
abbrev pub kill_cursors : StoreView → Tree → Result Reply CommandError
kill_cursors s t =
    and_then (namespace_at (codes "killCursors") errors.KillCursors t) (λ n.
    and_then (body_of t) (λ fields. kill_in s n fields))

-- ---- drop

abbrev pub drop_reply : StoreView → NamespaceView → List CollectionView → Reply
drop_reply s n others = record {
  answer = dropped_pairs (length (indexes_in n s.collections)) (namespace_text n);
  held = record { collections = others; cursors = s.cursors };
}

-- the answer of drop and what is held after it, or its error
abbrev pub drop_collection : StoreView → Tree → Result Reply CommandError
drop_collection s t =
    and_then (namespace_at (codes "drop") errors.Drop t) (λ n.
    and_then (or_error errors.NamespaceNotFound (without_collection n s.collections)) (λ others.
    Ok (drop_reply s n others)))

-- ---- dropDatabase

abbrev pub drop_database_reply : StoreView → List ℕ → Reply
drop_database_reply s db = record {
  answer = dropped_database_pairs db (has_database db s.collections);
  held = record { collections = without_database db s.collections; cursors = s.cursors };
}

-- the answer of dropDatabase and what is held after it, or its error
abbrev pub drop_database : StoreView → Tree → Result Reply CommandError
drop_database s t =
    and_then (text_field (codes "$db") errors.Database t) (λ db. Ok (drop_database_reply s db))

-- ---- listCollections

-- the listings of the collections of a database, in order
abbrev pub listings : Bool → List ℕ → List CollectionView → List TreeValue
listings name_only db [] = []
listings name_only db (c ∷ cs) =
    if bytes_eq c.namespace.database db
    then listing name_only c.namespace.collection ∷ listings name_only db cs
    else listings name_only db cs

-- the namespace of a cursor over listings of collections
abbrev pub listings_namespace : List ℕ → NamespaceView
listings_namespace db = record { database = db; collection = codes "$cmd.listCollections" }

abbrev pub list_reply : StoreView → List ℕ → Bool → Tree → ℕ → Reply
list_reply s db name_only f count =
    found_reply s (listings_namespace db) (found f (listings name_only db s.collections)) count
    false

-- the answer of listCollections and what is held after it, or its error
abbrev pub list_collections : StoreView → Tree → Result Reply CommandError
list_collections s t =
    and_then (text_field (codes "$db") errors.Database t) (λ db.
    and_then (name_only_field t) (λ name_only.
    and_then (list_size t) (λ count.
    and_then (filter_field (codes "filter") t) (λ f. Ok (list_reply s db name_only f count)))))

-- ---- listDatabases

-- the listing of each database, in the order of their first collections
abbrev pub database_listings : Bool → List CollectionView → List TreeValue
database_listings name_only cs = map (database_listing name_only) (database_names cs)

abbrev pub databases_answer : StoreView → Bool → Tree → List (List ℕ × TreeValue)
databases_answer s name_only f =
    databases_pairs name_only (found f (database_listings name_only s.collections))

abbrev pub databases_reply : StoreView → Bool → Tree → Reply
databases_reply s name_only f = record { answer = databases_answer s name_only f; held = s }

-- the answer of listDatabases and what is held after it, or its error
abbrev pub list_databases : StoreView → Tree → Result Reply CommandError
list_databases s t =
    and_then (name_only_field t) (λ name_only.
    and_then (filter_field (codes "filter") t) (λ f. Ok (databases_reply s name_only f)))

-- ---- createIndexes

abbrev pub created_reply : StoreView → NamespaceView → List IndexView → Reply
created_reply s n is = record {
  answer =
      created_pairs (length (indexes_in n s.collections)) (length is)
      (not (is_some (held_indexes n s.collections)));
  held = record { collections = with_indexes_of n is s.collections; cursors = s.cursors };
}

-- the error of createIndexes that asks for no index
abbrev pub no_index_pairs : List (List ℕ × TreeValue)
no_index_pairs =
    error_pairs (codes "Must specify at least one index to create") (pos 2) (codes "BadValue")

abbrev pub created_by : StoreView → NamespaceView → List TreeValue → Result Reply CommandError
created_by s n vs =
    if nat_eq (length vs) 0 then unchanged s no_index_pairs
    else and_then (with_indexes vs (indexes_in n s.collections)) (λ is.
    Ok (created_reply s n is))

abbrev pub created_in : StoreView → NamespaceView → Tree → Result Reply CommandError
created_in s n fields =
    and_then (or_error errors.Indexes (array_in (first_named (codes "indexes") fields))) (λ vs.
    created_by s n vs)

-- the answer of createIndexes and what is held after it, or its error
abbrev pub create_indexes : StoreView → Tree → Result Reply CommandError
create_indexes s t =
    and_then (namespace_at (codes "createIndexes") errors.CreateIndexes t) (λ n.
    and_then (body_of t) (λ fields. created_in s n fields))

-- ---- listIndexes

-- the answer of listIndexes and what is held after it, or its error
abbrev pub list_indexes : StoreView → Tree → Result Reply CommandError
list_indexes s t =
    and_then (namespace_at (codes "listIndexes") errors.ListIndexes t) (λ n.
    and_then (list_size t) (λ count.
    and_then (or_error errors.NamespaceNotFound (held_indexes n s.collections)) (λ is.
    Ok (found_reply s n (map index_listing is) count false))))

-- ---- all commands

-- the command with this name
abbrev pub command_of : List ℕ → Command
command_of name =
    if bytes_eq name (codes "hello") then commands.Hello else
    if bytes_eq name (codes "isMaster") then commands.LegacyHello else
    if bytes_eq name (codes "ismaster") then commands.LegacyHello else
    if bytes_eq name (codes "buildInfo") then commands.BuildInfo else
    if bytes_eq name (codes "buildinfo") then commands.BuildInfo else
    if bytes_eq name (codes "ping") then commands.Ping else
    if bytes_eq name (codes "endSessions") then commands.EndSessions else
    if bytes_eq name (codes "insert") then commands.Insert else
    if bytes_eq name (codes "find") then commands.Find else
    if bytes_eq name (codes "getMore") then commands.GetMore else
    if bytes_eq name (codes "delete") then commands.Delete else
    if bytes_eq name (codes "update") then commands.Update else
    if bytes_eq name (codes "count") then commands.Count else
    if bytes_eq name (codes "aggregate") then commands.Aggregate else
    if bytes_eq name (codes "killCursors") then commands.KillCursors else
    if bytes_eq name (codes "drop") then commands.Drop else
    if bytes_eq name (codes "dropDatabase") then commands.DropDatabase else
    if bytes_eq name (codes "listCollections") then commands.ListCollections else
    if bytes_eq name (codes "listDatabases") then commands.ListDatabases else
    if bytes_eq name (codes "createIndexes") then commands.CreateIndexes else
    if bytes_eq name (codes "listIndexes") then commands.ListIndexes else commands.Unknown

abbrev pub unknown_pairs : List ℕ → List (List ℕ × TreeValue)
unknown_pairs name =
    error_pairs (codes "no such command: '" ++ name ++ codes "'") (pos 59) (codes "CommandNotFound")

abbrev pub run : Command → StoreView → Content → Result Reply CommandError
run commands.Hello s c = unchanged s (hello_pairs false)
run commands.LegacyHello s c = unchanged s (hello_pairs true)
run commands.BuildInfo s c = unchanged s build_pairs
run commands.Ping s c = unchanged s ok_alone
run commands.EndSessions s c = unchanged s ok_alone
run commands.Insert s c = insert s c
run commands.Find s c = find s c.body
run commands.GetMore s c = get_more s c.body
run commands.Delete s c = delete s c
run commands.Update s c = update s c
run commands.Count s c = count s c.body
run commands.Aggregate s c = aggregate s c.body
run commands.KillCursors s c = kill_cursors s c.body
run commands.Drop s c = drop_collection s c.body
run commands.DropDatabase s c = drop_database s c.body
run commands.ListCollections s c = list_collections s c.body
run commands.ListDatabases s c = list_databases s c.body
run commands.CreateIndexes s c = create_indexes s c.body
run commands.ListIndexes s c = list_indexes s c.body
run commands.Unknown s c = unchanged s (unknown_pairs (first_name c.body))

-- an error is answered, too, and changes nothing
abbrev pub settled : StoreView → Result Reply CommandError → Reply
settled s (Ok r) = r
settled s (Err e) = record { answer = refusal_pairs e; held = s }

-- the error of a command with a field, or a sequence in its place, that isn't carried out
abbrev pub unread_pairs : List ℕ → List (List ℕ × TreeValue)
unread_pairs name =
    error_pairs (codes "the field '" ++ name ++ codes "' is not carried out") (pos 238)
    (codes "NotImplemented")

-- what a command is answered that has this field or sequence, which isn't carried out, or none
abbrev pub unless_unread : Option (List ℕ) → StoreView → Reply → Reply
unless_unread None s r = r
unless_unread (Some name) s r = record { answer = unread_pairs name; held = s }

abbrev pub reply_of : Command → StoreView → Content → Reply
reply_of k s c = unless_unread (first_unread k c) s (settled s (run k s c))

-- the answer to a request, and what is held after it
abbrev pub reply_to : StoreView → Content → Reply
reply_to s c = reply_of (command_of (first_name c.body)) s c

-- ---- carrying them out

-- A command was carried out as said; or it was refused, and nothing changed; or memory ran out.
abbrev pub IsCarriedOut : Result Reply CommandError → StoreView
    → Result (List (List ℕ × TreeValue)) Failure → StoreView → Type 0
IsCarriedOut step old (Ok answer) new = step ≡ Ok (record { answer = answer; held = new })
IsCarriedOut step old (Err (Refused e)) new = (step ≡ Err e) × (new ≡ old)
IsCarriedOut step old (Err OutOfMemory) new = Unit {0}
