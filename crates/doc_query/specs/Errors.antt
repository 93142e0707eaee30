-- The errors that commands are answered with.
use Rattle.std.specs.Prelude.{◌≡◌, ℕ, ℤ, pos, List, Option, Some, None, Result, Ok, Err, codes}
use Rattle.doc_query.specs.declared.failure.CommandError.{CommandError}
use Rattle.doc_query.specs.declared.failure.CommandError.TheVariants as errors
use Rattle.doc_query.specs.declared.failure.Failure.{Failure}
use Rattle.doc_query.specs.declared.failure.Failure.TheVariants.{OutOfMemory, Refused}

abbrev pub code_of : CommandError → ℤ
code_of errors.CursorNotFound = pos 43
code_of errors.NamespaceNotFound = pos 26
code_of errors.Direction = pos 15975
code_of errors.Inclusion = pos 31253
code_of errors.Exclusion = pos 31254
code_of errors.Conflict = pos 40
code_of errors.EmptyStep = pos 56
code_of errors.Steps = pos 15
code_of errors.NotViable = pos 28
code_of errors.Backfill = pos 34
code_of errors.Increment = pos 14
code_of errors.Overflow = pos 2
code_of errors.AndArray = pos 2
code_of errors.OrArray = pos 2
code_of errors.NoClauses = pos 2
code_of errors.Clause = pos 2
code_of errors.NestedOperator = pos 2
code_of errors.ImmutableId = pos 66
code_of errors.InvalidId = pos 53
code_of errors.Duplicate = pos 11000
code_of errors.Index = pos 67
code_of errors.IndexName = pos 86
code_of errors.IndexKey = pos 85
code_of _ = pos 9

abbrev pub code_name_of : CommandError → List ℕ
code_name_of errors.CursorNotFound = codes "CursorNotFound"
code_name_of errors.NamespaceNotFound = codes "NamespaceNotFound"
code_name_of errors.Direction = codes "Location15975"
code_name_of errors.Inclusion = codes "Location31253"
code_name_of errors.Exclusion = codes "Location31254"
code_name_of errors.Conflict = codes "ConflictingUpdateOperators"
code_name_of errors.EmptyStep = codes "EmptyFieldName"
code_name_of errors.Steps = codes "Overflow"
code_name_of errors.NotViable = codes "PathNotViable"
code_name_of errors.Backfill = codes "CannotBackfillArray"
code_name_of errors.Increment = codes "TypeMismatch"
code_name_of errors.Overflow = codes "BadValue"
code_name_of errors.AndArray = codes "BadValue"
code_name_of errors.OrArray = codes "BadValue"
code_name_of errors.NoClauses = codes "BadValue"
code_name_of errors.Clause = codes "BadValue"
code_name_of errors.NestedOperator = codes "BadValue"
code_name_of errors.ImmutableId = codes "ImmutableField"
code_name_of errors.InvalidId = codes "InvalidIdField"
code_name_of errors.Duplicate = codes "DuplicateKey"
code_name_of errors.Index = codes "CannotCreateIndex"
code_name_of errors.IndexName = codes "IndexKeySpecsConflict"
code_name_of errors.IndexKey = codes "IndexOptionsConflict"
code_name_of _ = codes "FailedToParse"

abbrev pub words_of : CommandError → List ℕ
words_of errors.Database = codes "the field '$db' must be a string"
words_of errors.Insert = codes "the field 'insert' must be a string"
words_of errors.Find = codes "the field 'find' must be a string"
words_of errors.Drop = codes "the field 'drop' must be a string"
words_of errors.GetMore = codes "the field 'getMore' must be an int64"
words_of errors.Collection = codes "the field 'collection' must be a string"
words_of errors.KillCursors = codes "the field 'killCursors' must be a string"
words_of errors.Cursors = codes "the field 'cursors' must be an array"
words_of errors.Repeated = codes "a document of the command has a name twice"
words_of errors.Delete = codes "the field 'delete' must be a string"
words_of errors.Aggregate = codes "the field 'aggregate' must be a string"
words_of errors.Stage =
    codes "the stages must be $match, $skip, $limit and {$group: {_id: 1, n: {$sum: 1}}}"
words_of errors.Cursor = codes "the field 'cursor' must be a document"
words_of errors.Count = codes "the field 'count' must be a string"
words_of errors.Deletes = codes "a statement must have a filter 'q' and a 'limit' of 0 or 1 alone"
words_of errors.Update = codes "the field 'update' must be a string"
words_of errors.Updates =
    codes "a statement must have a filter 'q', an update 'u', and 'multi' and 'upsert' alone"
words_of errors.Upsert =
    codes "a filter with $and, $or, $in, a path or a field without a name can't be upserted"
words_of errors.Duplicate = codes "E11000 duplicate key error index: _id_"
words_of errors.Many = codes "multi update is not supported for replacement-style update"
words_of errors.Modifiers =
    codes "an update must be a document, or have the operators $set, $unset and $inc alone"
words_of errors.Path = codes "a path of an update must have no '$' at the beginning of a step"
words_of errors.EmptyStep = codes "a path of an update must have no empty step"
words_of errors.Steps = codes "a path of an update must have at most 200 steps"
words_of errors.Conflict =
    codes "no path of an update may be another one, or the beginning of another one"
words_of errors.NotViable =
    codes "Cannot create a field in a value that is no document, or by a name in an array"
words_of errors.Backfill = codes "can't backfill more than 1500000 elements"
words_of errors.Increment = codes "$inc must add an int32, an int64 or a double to one"
words_of errors.Overflow = codes "the sum that $inc makes must be an int64"
words_of errors.ImmutableId = codes "an update must not change the immutable field '_id'"
words_of errors.InvalidId = codes "The '_id' value cannot be of type array, regex or undefined"
words_of errors.Documents =
    codes "the command must bring from 1 to 100000 documents, with no name twice in one"
words_of errors.Ordered = codes "the field 'ordered' must be a boolean"
words_of errors.Filter = codes "a filter must be a document with no name twice"
words_of errors.Operator =
    codes
    "a filter must ask for values or $eq, $ne, $gt, $gte, $lt, $lte, $in, $nin, $exists, $and, $or"
words_of errors.AndArray = codes "$and must be an array"
words_of errors.OrArray = codes "$or must be an array"
words_of errors.NoClauses = codes "$and/$or/$nor must be a nonempty array"
words_of errors.Clause = codes "$or/$and/$nor entries need to be full objects"
words_of errors.NestedOperator = codes "cannot nest $ under $in"
words_of errors.Decimal = codes "a filter must compare no decimal128"
words_of errors.Sort = codes "the field 'sort' must be a document with no name twice"
words_of errors.Direction =
    codes "$sort key ordering must be 1 (for ascending) or -1 (for descending)"
words_of errors.Unsorted =
    codes "documents are sorted by numbers, strings, booleans, dates, ObjectIds and null alone"
words_of errors.Projection =
    codes "the field 'projection' must be a document with no name twice"
words_of errors.Projected =
    codes "a projection must name fields of the document itself, each with 1, true, 0 or false"
words_of errors.Inclusion = codes "Cannot do inclusion on a field in exclusion projection"
words_of errors.Exclusion = codes "Cannot do exclusion on a field in inclusion projection"
words_of errors.Skip = codes "the field 'skip' must be a whole number"
words_of errors.Limit = codes "the field 'limit' must be a whole number"
words_of errors.SingleBatch = codes "the field 'singleBatch' must be a boolean"
words_of errors.NameOnly = codes "the field 'nameOnly' must be a boolean or a whole number"
words_of errors.CreateIndexes = codes "the field 'createIndexes' must be a string"
words_of errors.Indexes = codes "the field 'indexes' must be an array"
words_of errors.Index =
    codes "an index has 'key' with directions 1 and -1, 'name', 'v', 'ns' and 'background' alone"
words_of errors.IndexName = codes "another index has this name"
words_of errors.IndexKey = codes "another index has this key"
words_of errors.ListIndexes = codes "the field 'listIndexes' must be a string"
words_of errors.FirstBatchSize = codes "the field 'batchSize' must be a whole number"
words_of errors.NextBatchSize = codes "the field 'batchSize' must be a whole number from 1 on"
words_of errors.CursorNotFound = codes "no open cursor of this namespace has the id in 'getMore'"
words_of errors.NamespaceNotFound = codes "ns not found"

-- ---- steps that may fail

-- the value, or this error if there is none
abbrev pub or_error : {A : Type 0} → CommandError → Option A → Result A CommandError
or_error e None = Err e
or_error e (Some a) = Ok a

-- the next step with the result of the first, or the error of the first
abbrev pub and_then : {A B : Type 0} → Result A CommandError → (A → Result B CommandError)
    → Result B CommandError
and_then (Ok a) next = next a
and_then (Err e) next = Err e

-- a step with this error failed by it, or memory ran out
abbrev pub IsFailure : {A : Type 0} → Result A CommandError → Failure → Type 0
IsFailure step OutOfMemory = Unit {0}
IsFailure step (Refused e) = step ≡ Err e
