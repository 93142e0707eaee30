-- The lemmas that proofs of other crates use.

-- what comes of the turns of a slot
pub use Rattle.wire_serve.proofs.Served.{none_served, turns_serve}
-- what each call of a server connection adds to what was served, and that its connection stays
pub use Rattle.wire_serve.proofs.Served.{answers, goes, takes}
pub use Rattle.wire_serve.proofs.Served.{SameServer, answer_number, ended_same, put_server, takes_same}
