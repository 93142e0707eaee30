-- The lemmas that proofs of other crates stand on.

-- a length within bounds
pub use Rattle.framing.proofs.LengthLaws.{Within, is_within, outside, outside_is, within_is}
-- what bytes begin with
pub use Rattle.framing.proofs.ItemLaws.{one_item, refused_longer, refused_not_whole, refused_once, wants_not_refused, wants_not_whole, wants_once, WholeSize, whole_size}
-- items back to back
pub use Rattle.framing.proofs.Splits.{all-append, back_to_back-append, back_to_back_alone, each_is_spelled, each_joined, joined_is, spell_each-push, spellings_joined, split_once}
-- items and a rest
pub use Rattle.framing.proofs.Splits.{all_joined, split_items, split_of_all, split_parts, splits_along}
pub use Rattle.framing.proofs.Splits.{items-append, items_prefix_free, none_at_end, one_split, one_split_of, prefix_free_part, split_along, split_failed, split_passed}
