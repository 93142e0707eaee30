pub mod Causes
pub mod FaultText
pub mod Kinds
pub mod Trees
pub mod Codes
pub mod Spelling
pub mod Checks
pub mod Elements
pub mod Faults
pub mod Results
pub mod Documents
pub mod Items
pub mod Extents
-- the words that clauses of other crates cite
pub use Rattle.bson_elem.specs.Causes.{cause_number}
pub use Rattle.bson_elem.specs.Checks.{Read, Value, a_leaf, cstring_at, document_at, fault, is_zero}
pub use Rattle.bson_elem.specs.Checks.{opens}
pub use Rattle.bson_elem.specs.Codes.{coded_beside, coded_kind, coded_leaf, coded_text, coded_tree}
pub use Rattle.bson_elem.specs.Documents.{elements_of}
pub use Rattle.bson_elem.specs.FaultText.{bson_fault_text}
pub use Rattle.bson_elem.specs.Faults.{FaultIn, FrontFault}
pub use Rattle.bson_elem.specs.Items.{item_kind, item_value}
pub use Rattle.bson_elem.specs.Kinds.{Form, binary_form, boolean_form, byte_of, form_of, int32_form}
pub use Rattle.bson_elem.specs.Kinds.{int64_form, kind_of, pointer_form, raw_form, regex_form}
pub use Rattle.bson_elem.specs.Kinds.{string_form, timestamp_form}
pub use Rattle.bson_elem.specs.Results.{Gives}
pub use Rattle.bson_elem.specs.Spelling.{AreBytes, Fits, HasNoZero, IsBytes, IsName, Spells}
pub use Rattle.bson_elem.specs.Spelling.{StandsIn, binary, cstring, document, elements, inner_bytes}
pub use Rattle.bson_elem.specs.Spelling.{leaf_bytes, little, string}
pub use Rattle.bson_elem.specs.Trees.{Beside, Leaf, Tree, binary_value, boolean_value, inner_pair}
pub use Rattle.bson_elem.specs.Trees.{leaf_pair, no_code, no_pairs, number_value, pointer_value}
pub use Rattle.bson_elem.specs.Trees.{raw_value, regex_value, text_value, timestamp_value}
pub use Rattle.bson_elem.specs.Trees.{with_code}
