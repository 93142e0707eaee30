-- The fields of a command.
use Rattle.std.specs.Prelude.{ℕ, ℤ, ◌-◌, ◌^◌, List, Option, Some, None, Result, Ok, Err, codes}
use Rattle.std.specs.Prelude.{Bool, false, nat_lt}
use Rattle.bson_elem.specs.declared.kinds.Kind.TheVariants as kinds
use Rattle.bson_elem.specs.{Tree, boolean_value, number_value}
use Rattle.bson_raw.specs.{TreeValue, document_value, first_named, leaf_value}
use Rattle.doc_query.specs.declared.failure.CommandError.{CommandError}
use Rattle.doc_query.specs.declared.failure.CommandError.TheVariants as errors
use Rattle.doc_query.specs.{and_then, asked_flag, at_least, count_of, or_error, text_of}
use Rattle.test_store.specs.Held.{NamespaceView}

-- the number of an int64
abbrev pub id_of : Option TreeValue → Option ℤ
id_of (Some (leaf_value kinds.Int64 (number_value z))) = Some z
id_of _ = None

-- the text of the field with this name
abbrev pub text_field : List ℕ → CommandError → Tree → Result (List ℕ) CommandError
text_field name error t = or_error error (text_of (first_named name t))

-- the namespace that a command names, whose collection is in the field with this name
abbrev pub namespace_at : List ℕ → CommandError → Tree → Result NamespaceView CommandError
namespace_at name error t =
    and_then (text_field (codes "$db") errors.Database t) (λ d.
    and_then (text_field name error t) (λ n. Ok (record { database = d; collection = n })))

-- the id of the cursor
abbrev pub id_field : Tree → Result ℤ CommandError
id_field t = or_error errors.GetMore (id_of (first_named (codes "getMore") t))

-- the number in a field, or 0 if there is no such field
abbrev pub asked_number : CommandError → Option TreeValue → Result ℕ CommandError
asked_number error None = Ok 0
asked_number error (Some v) = or_error error (count_of v)

abbrev pub number_field : List ℕ → CommandError → Tree → Result ℕ CommandError
number_field name error t = asked_number error (first_named name t)

-- the truth value in a field, or this one if there is no such field
abbrev pub flag_field : List ℕ → Bool → CommandError → Tree → Result Bool CommandError
flag_field name otherwise error t = asked_flag otherwise error (first_named name t)

-- names alone are asked for: by true, or by a whole number that isn't 0
abbrev pub asks_names : Option TreeValue → Result Bool CommandError
asks_names None = Ok false
asks_names (Some (leaf_value kinds.Boolean (boolean_value truth))) = Ok truth
asks_names (Some v) = and_then (or_error errors.NameOnly (count_of v)) (λ k. Ok (nat_lt 0 k))

abbrev pub name_only_field : Tree → Result Bool CommandError
name_only_field t = asks_names (first_named (codes "nameOnly") t)

-- the batch size that a field asks for, or this one if there is no such field
abbrev pub asked_size : ℕ → ℕ → CommandError → Option TreeValue → Result ℕ CommandError
asked_size otherwise least error None = Ok otherwise
asked_size otherwise least error (Some v) = at_least least error (count_of v)

-- the size of the first batch that a command asks for, or 101 if it asks for none
abbrev pub first_batch_size : Tree → Result ℕ CommandError
first_batch_size t = asked_size 101 0 errors.FirstBatchSize (first_named (codes "batchSize") t)

-- the size of a later batch, which must be at least 1; the greatest if none is asked for
abbrev pub next_batch_size : Tree → Result ℕ CommandError
next_batch_size t =
    asked_size (2 ^ 63 - 1) 1 errors.NextBatchSize (first_named (codes "batchSize") t)

-- the size of the first batch, in the field `cursor`
abbrev pub first_size : Option TreeValue → Result ℕ CommandError
first_size (Some (document_value kinds.Document b t)) = first_batch_size t
first_size _ = Err errors.Cursor

abbrev pub asked_list_size : Option TreeValue → Result ℕ CommandError
asked_list_size None = Ok 101
asked_list_size (Some v) = first_size (Some v)

-- the size of the first batch of listings, which is 101 if there is no field `cursor`
abbrev pub list_size : Tree → Result ℕ CommandError
list_size t = asked_list_size (first_named (codes "cursor") t)
