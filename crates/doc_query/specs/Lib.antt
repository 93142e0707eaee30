pub mod Errors
pub mod Values
pub mod Owned
pub mod Numbers
pub mod Comparing
pub mod Equality
pub mod Decimals
pub mod Conditions
pub mod Criteria
pub mod Paths
pub mod Filters
-- the words that clauses of other crates cite
pub use Rattle.doc_query.specs.Errors.{IsFailure, and_then, code_name_of, code_of, or_error}
pub use Rattle.doc_query.specs.Errors.{words_of}
pub use Rattle.doc_query.specs.Values.{array, asked_flag, at_least, count_of, count_value, inner}
pub use Rattle.doc_query.specs.Values.{int32, int64, text, text_of, truth}
pub use Rattle.doc_query.specs.Owned.{array_in, body_of, owned, values_in}
pub use Rattle.doc_query.specs.Equality.{equal}
pub use Rattle.doc_query.specs.Comparing.{field_order, place}
pub use Rattle.doc_query.specs.Conditions.{is_number, null}
pub use Rattle.doc_query.specs.Paths.{left_len, single_at, steps, steps_left}
pub use Rattle.doc_query.specs.Filters.{begins_with_operator, compared, filter_field, filter_in}
pub use Rattle.doc_query.specs.Filters.{filter_value, found, found_in, has_operators, is_operator}
pub use Rattle.doc_query.specs.Filters.{is_plain_name, matches, unless_fault}
