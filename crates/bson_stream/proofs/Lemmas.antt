-- The lemmas that proofs of other crates stand on: what a reader has read, and how bytes end.
pub use Rattle.bson_stream.proofs.Gatherings.{ends_bad, ends_inside, ends_whole, fed_more, let_go, nothing_read, passed}
pub use Rattle.bson_stream.proofs.Standings.{fault_longer, nothing_open, open_fault, open_front, spelled_not_open}
pub use Rattle.bson_stream.proofs.Salvagings.{all_told, ended_now, fed_on, fresh, released, told_first, told_so_far}
