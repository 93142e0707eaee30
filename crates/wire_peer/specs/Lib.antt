pub mod Limits
pub mod ContentSets
pub mod Contents
pub mod Requests
pub mod AnswerLists
pub mod Counting
pub mod Stopping
pub mod Logs
pub mod Chains
pub mod Replying
pub mod Refusals
pub mod Servers
pub mod ServerParts
pub mod ServerAnswers
pub mod FreeIds
pub mod Marking
pub mod Calls
pub mod ClientCauses
pub mod CallTables
pub mod Begun
pub mod Requesting
pub mod LentReplies
pub mod Standing
pub mod ClientSteps
-- the words that clauses of other crates cite
pub use Rattle.wire_peer.specs.AnswerLists.{answers_of}
pub use Rattle.wire_peer.specs.CallTables.{HasOneStream, Table, after_part, after_reply, allowed}
pub use Rattle.wire_peer.specs.CallTables.{bearer, ids, owner, reply_to, stream, without}
pub use Rattle.wire_peer.specs.Calls.{allows_more, awaits_reply, request, request_flags}
pub use Rattle.wire_peer.specs.Chains.{ReplyState, are_left, chain, id_after, id_after_one}
pub use Rattle.wire_peer.specs.Chains.{is_longer, next_id, replies, written}
pub use Rattle.wire_peer.specs.ClientCauses.{IsSetupRefusal}
pub use Rattle.wire_peer.specs.ClientSteps.{ClientSeen, IsCallRefusal, IsCalled, MayTake, Settles}
pub use Rattle.wire_peer.specs.ClientSteps.{Takes, after_message, called, closed, ended, holding}
pub use Rattle.wire_peer.specs.ClientSteps.{new_client, released}
pub use Rattle.wire_peer.specs.ContentSets.{coded_content}
pub use Rattle.wire_peer.specs.Contents.{buf_content, content_of}
pub use Rattle.wire_peer.specs.Counting.{numbers, wanted}
pub use Rattle.wire_peer.specs.FreeIds.{IsFirstFree, id_following, id_past, max_id}
pub use Rattle.wire_peer.specs.LentReplies.{ready_of}
pub use Rattle.wire_peer.specs.Limits.{IsLimit, IsWindow}
pub use Rattle.wire_peer.specs.Logs.{AskStep, Does, IsGrown, LogEntry, LogStep, RunOf, Stops}
pub use Rattle.wire_peer.specs.Logs.{entered, entry_of, log_of, outcome_of}
pub use Rattle.wire_peer.specs.Replying.{PushStep, ReplyStep, put}
pub use Rattle.wire_peer.specs.Requesting.{IsAccepted, IsFull, IsNextCall, IsRefused, RequestState}
pub use Rattle.wire_peer.specs.Requesting.{after_call, awaiting, number_after}
pub use Rattle.wire_peer.specs.Requests.{Asked, IsCount, asked, asked_by, takes_more}
pub use Rattle.wire_peer.specs.ServerAnswers.{AnswerStep, WaitsAt, answered, closed_at}
pub use Rattle.wire_peer.specs.ServerAnswers.{replies_of}
pub use Rattle.wire_peer.specs.Servers.{IsNewServer, ServerView, TakesBytes, closed_for, end_cause}
pub use Rattle.wire_peer.specs.Servers.{new_server}
