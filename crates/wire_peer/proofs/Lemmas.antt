-- The lemmas that proofs of other crates stand on.

-- the content of a payload
pub use Rattle.wire_peer.proofs.ContentLaws.{buf_content_is, content_is, copied_content, of_buf_content, of_content}
-- a run of a log that goes on
pub use Rattle.wire_peer.proofs.LogLaws.{run_push, run_goes_on}
-- the bytes that an end took, as a piece of their own
pub use Rattle.wire_peer.proofs.OwnPieces.{client_own, server_own}
