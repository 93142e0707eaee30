pub mod Machines
pub mod Facts
pub mod Conns
pub mod Moves
pub mod Cuts
pub mod Needing
pub mod Refusing
pub mod Happening
pub mod Rooms
pub mod Shown
pub mod Hostile
pub mod Lasting
pub mod Channels
pub mod Owners
pub mod Deeds
pub mod Knowing
pub mod Seen
pub mod Alone
pub mod Witness
pub mod Work
pub mod Strangers
pub mod Limits
-- the words that clauses of other crates cite
pub use Rattle.wire_model.specs.Conns.{AreGood, Conn, Record, World, conn_at, conn_set}
pub use Rattle.wire_model.specs.Conns.{given_record, has_closed_client, is_closed, lost_record}
pub use Rattle.wire_model.specs.Conns.{new_conn, new_raw_conn, new_record, no_client, opening}
pub use Rattle.wire_model.specs.Conns.{settled, settled_record, with_conn}
pub use Rattle.wire_model.specs.Cuts.{all_cut, change, cleared_world, cut_at, cut_both, cut_down}
pub use Rattle.wire_model.specs.Cuts.{cut_up, dropped, ended_server, is_empty, is_healthy}
pub use Rattle.wire_model.specs.Cuts.{restarted, restarted_world}
pub use Rattle.wire_model.specs.Happening.{Answers, AreContents, ClientWantsRoom, CutsDown, CutsUp}
pub use Rattle.wire_model.specs.Happening.{Happens, Opens, Returns, Run, Succeeds, WantsRoom}
pub use Rattle.wire_model.specs.Happening.{closed_now, opened, with_pool}
pub use Rattle.wire_model.specs.Hostile.{RawAnswerOwn, RawGiveOwn}
pub use Rattle.wire_model.specs.Lasting.{GoesOn, GoesOnFromEach}
pub use Rattle.wire_model.specs.Machines.{Done, Foreign, Lost, Machine, Pending, Sent, State}
pub use Rattle.wire_model.specs.Machines.{asked_as, lost_state}
pub use Rattle.wire_model.specs.Moves.{Calls, ClientTakes, ClientTakesAll, CopiesReply, ServerTakes}
pub use Rattle.wire_model.specs.Moves.{ServerTakesAll, TakesNone, joined, put_at, put_part}
pub use Rattle.wire_model.specs.Moves.{with_client_output, with_server_output}
pub use Rattle.wire_model.specs.Needing.{connection_of, needs_of, no_needs}
pub use Rattle.wire_model.specs.Refusing.{RefusesCall, answer_reason, core_reason, first_reason}
pub use Rattle.wire_model.specs.Refusing.{is_cut_for, is_full, is_full_for, is_lent, reason_at}
pub use Rattle.wire_model.specs.Refusing.{reason_of}
pub use Rattle.wire_model.specs.Shown.{Headline, IdsApart, IsQuiet, IsStopped, QuietIsDone}
pub use Rattle.wire_model.specs.Shown.{UncutIsOpen}
pub use Rattle.wire_model.specs.Channels.{Pair, System, Trace, Way, no_pairs, pair_at}
pub use Rattle.wire_model.specs.Owners.{AreMade, ClientAct, ClientDoes, ClientEnd, ClientRun, Made}
pub use Rattle.wire_model.specs.Owners.{ServerAct, ServerDoes, ServerEnd, ServerEnds, ServerMoves}
pub use Rattle.wire_model.specs.Owners.{ServerMovesOn, ServerRun, ServersDo, among, bytes_sent}
pub use Rattle.wire_model.specs.Owners.{bytes_sent_down, bytes_taken, bytes_taken_up, first_end}
pub use Rattle.wire_model.specs.Owners.{first_servers_of, server_at, server_set}
pub use Rattle.wire_model.specs.Deeds.{AreOf, Arrive, Common, Deed, ServersGrow, ServersRun, Turn}
pub use Rattle.wire_model.specs.Deeds.{acts_at, at_server, deeds_of, opened_in, served_turns}
pub use Rattle.wire_model.specs.Deeds.{server_acts_at, server_turns}
pub use Rattle.wire_model.specs.Knowing.{AreQuiet, IsCallOf, NoneInFlight, Owned, OwnersKnow}
pub use Rattle.wire_model.specs.Seen.{Agree, Channelled, IsQuietPair}
pub use Rattle.wire_model.specs.Alone.{Heard, Hearing, Hears, HoldsAlone, got, handed, hear_all}
pub use Rattle.wire_model.specs.Alone.{silence}
pub use Rattle.wire_model.specs.Witness.{GetDone}
pub use Rattle.wire_model.specs.Work.{CanGoOn, Falls, IsLive, IsWork}
pub use Rattle.wire_model.specs.Strangers.{OwnEntries, PairsKnow, Strayed, deeds_beside, log_beside}
pub use Rattle.wire_model.specs.Limits.{servers_with_limits}
