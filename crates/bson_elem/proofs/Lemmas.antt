-- The lemmas that proofs of other crates use: of bytes and names, of an element and the bytes that spell it, of
-- pairs joined, and of the document at the front of some bytes.

-- ---- bytes

-- each number of a part of bytes is a byte
pub use Rattle.bson_elem.proofs.FieldLaws.{IsBytes-drop, IsBytes-take}
pub use Rattle.bson_elem.proofs.TreeLaws.{IsBytes-after}
-- what is before an index, the byte at it and what is behind it, joined
pub use Rattle.bson_elem.proofs.FieldLaws.{past_one}
-- equal results that are `Ok` hold equal values
pub use Rattle.bson_elem.proofs.FieldLaws.{ok_is}
-- ---- names, documents and elements: what is read begins with its spelling, and spellings are read
-- back

pub use Rattle.bson_elem.proofs.FieldLaws.{cstring_takes, cstring_again}
pub use Rattle.bson_elem.proofs.ContainerLaws.{length-document, document_takes}
pub use Rattle.bson_elem.proofs.ContainerLaws.{element_takes, element_again, made}
pub use Rattle.bson_elem.specs.Elements.{value_bytes, ValueFits, offset_beside, TellsOffset, element_bytes, IsElement}
-- the byte of a kind found among some is that kind's
pub use Rattle.bson_elem.proofs.ContainerLaws.{kind_is}
-- ---- an element read as `skip_value` reads it: whole, or with the first check that fails

pub use Rattle.bson_elem.proofs.ViewLaws.{IsSkipped, skipped, end_fault, kind_fault, name_fault, value_fault}
-- what follows an element is a part of the bytes that it was read from
pub use Rattle.bson_elem.proofs.ViewLaws.{part_after, rest_in}
-- ---- pairs joined

pub use Rattle.bson_elem.proofs.TreeLaws.{joined, elements-joined, Fits-joined}
-- ---- a tree or a fault, and never both

-- of the elements of a container
pub use Rattle.bson_elem.proofs.TreeLaws.{no_both, one_tree}
-- of the document at the front of some bytes
pub use Rattle.bson_elem.proofs.FrontLaws.{spelled_read, same_front, one_front, no_front}
