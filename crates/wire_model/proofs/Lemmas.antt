-- The lemmas that proofs of other crates use.

-- what holds of every run
pub use Rattle.wire_model.proofs.Main.{headline, headline_alone, own_entries}
pub use Rattle.wire_model.proofs.Ids.{ids_stay_apart}
pub use Rattle.wire_model.proofs.Later.{goes_on_from_each}
-- the answers of a log are contents of messages
pub use Rattle.wire_model.proofs.Contents.{log_contents}
-- lists, and connections by their numbers
pub use Rattle.wire_model.proofs.Lists.{get-map, get-map_back, get-push_cases, get-push_new, get-push_old, get-set_other, get-set_same, map-push, same_or_not}
pub use Rattle.wire_model.proofs.Places.{conn_set-same, conn_within, length-push, length-slice_set}
pub use Rattle.wire_model.proofs.ConnCalls.{is_elsewhere, is_here}
-- a message is spelled in one way
pub use Rattle.wire_model.proofs.Wires.{same_request}
-- that a world agrees with a state of the machine, and that the machine goes on when one of its connections
-- does
pub use Rattle.wire_model.proofs.Agreeing.{Agrees, Follows, Here, down_here, up_here}
pub use Rattle.wire_model.proofs.Reaches.{Reaches, steps_then}
pub use Rattle.wire_model.proofs.EachEvent.{follow, followed_calls}
pub use Rattle.wire_model.proofs.Begun.{agrees_opening, new_here, ways_opened}
pub use Rattle.wire_model.proofs.Grows.{raw_steps}
pub use Rattle.wire_model.proofs.Frames.{same_client_gone, same_server_gone}
-- what each move of one connection does
pub use Rattle.wire_model.proofs.Arrive.{conn_up}
pub use Rattle.wire_model.proofs.MovesUp.{take_all_up}
pub use Rattle.wire_model.proofs.Return.{conn_down, released_none}
pub use Rattle.wire_model.proofs.MovesDown.{take_all_down}
pub use Rattle.wire_model.proofs.Answered.{answered_reaches, closed_reaches}
pub use Rattle.wire_model.proofs.Readies.{ReadyTo, ready_to}
-- what the machine shows, and what holds of it
pub use Rattle.wire_model.proofs.Main.{headline_of}
pub use Rattle.wire_model.proofs.Promises.{CallOk, Early, Ok, beginnings, done_whole, holds_as, ok_empty, ok_steps, one_call, silent_none}
pub use Rattle.wire_model.proofs.Quiet.{quiet_of}
pub use Rattle.wire_model.proofs.Ranks.{lost_at, ours-lost, rank, shows-get_back, shows-map, shows_never}
-- a run of an owner, and one that goes on from where it ended, are one run
pub use Rattle.wire_model.proofs.GoingOn.{client_on, sent_on, servers_on, taken_on}
-- the same of one server, and what it is to the servers that it is one of
pub use Rattle.wire_model.proofs.OneServer.{grows_on, moves_on, moves_run, one_more, run_among, run_grows, sent_down_on, server_on, taken_up_on}
-- what the owners know, where the servers come one after the other
pub use Rattle.wire_model.proofs.ServersCome.{grown, grown_beside, grown_length}
pub use Rattle.wire_model.proofs.Knows.{know}
pub use Rattle.wire_model.proofs.PairHeadline.{short_limit}
-- the entries of one connection
pub use Rattle.wire_model.proofs.OwnEntries.{entries_push, entries_skip}
-- the server of one connection, where another one's changes
pub use Rattle.wire_model.proofs.Fits.{server_set-other, server_set-same}
