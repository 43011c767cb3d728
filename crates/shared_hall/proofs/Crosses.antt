-- A shared hall may go to another thread where its disk may, and a `&` to it too: its core holds trees, of which the checker finds this for no type round them. Who starts threads on a hall cites it.
use denote.RattleType.{RattleType}
use denote.Param.Send.{IsSend, IsSync, sendable, plain_send, enum_send, struct_send, struct_sync, recorded_send, recorded_sync}
use denote.Struct.Declared.{shape}
use denote.Enum.Declared.{shape as enum_shape}
use denote.Builtin.{u32}
use Rattle.std.proofs.result.Result.TheSendSync as result_sends
use Rattle.world_data.proofs.frames.Frames.TheSendSync as frames
use Rattle.world_model.proofs.asked_lists.AskedList.TheSendSync as asked
use Rattle.world_model.proofs.events.Answers.TheSendSync as answers
use Rattle.world_model.proofs.events.EnterFault.TheSendSync as fault
use Rattle.world_model.specs.contracts.events.EnterFault as fault_row
use Rattle.world_model.proofs.events.LogState.TheSendSync as state
use Rattle.world_model.proofs.events.Taken.TheSendSync as taken
use Rattle.world_model.proofs.touched.ChangedSessions.TheSendSync as touched
use denote.Struct.Tuple.{Tuple, tuple_field, tuple_type}
use Rattle.std.proofs.Common.{List, [], ◌∷◌}
use Rattle.std.proofs.option.Option.TheSendSync as option_sends
use Rattle.std.specs.contracts.option.Option as option
use Rattle.world_model.proofs.events.CallOutcome.TheSendSync as called
use Rattle.world_model.specs.contracts.events.CallOutcome as called_row
use Rattle.repl_stream.proofs.feeds.PartAnswer.TheSendSync as part_answer
use Rattle.repl_stream.proofs.part_bytes.PartBytes.TheSendSync as part_bytes
use Rattle.std.proofs.Crossing.{crosses}
use Rattle.rtree.proofs.Crosses.{tree_send}
use Rattle.collection.specs.contracts.collections.Collection as collection
use Rattle.keyspace.specs.contracts.keyspaces.Keyspace as keyspace
use Rattle.world_data.proofs.channels.Channel.TheSendSync as channel
use Rattle.fence_index.specs.contracts.indexes.FenceIndex as index
use Rattle.channel_hub.specs.contracts.hubs.Hub as hub
use Rattle.session_table.proofs.sessions.Session.TheSendSync as session
use Rattle.tile_core.specs.contracts.cores.Core as core
use Rattle.durable_core.specs.contracts.cores.DurableCore as durable
use Rattle.durable_core.proofs.tails.Tail.TheSendSync as tail
use Rattle.shared_hall.specs.contracts.places.Place as place
use Rattle.outside.specs.declared.disks.Disk.{Ghosts}
use Rattle.turn_lock.proofs.lock.TurnLock.TheSendSync as lock
use Rattle.shared_hall.specs.contracts.places.HallCore as hall_core
use Rattle.shared_hall.specs.contracts.halls.SharedHall as shared_hall
use Rattle.shared_hall.specs.contracts.places.Begun as begun
use Rattle.shared_hall.specs.contracts.works.HallWork as work
use Rattle.shared_hall.specs.contracts.works.HallAnswer as answer
use Rattle.shared_hall.specs.contracts.values.HallCoreTurned.TheImpl as turned
use Rattle.shared_hall.specs.contracts.answers.HallWorkWorkHallCore.TheImpl as done
use Rattle.world_model.specs.contracts.events.Entry as entry

collection_send : IsSend collection.the_row
collection_send = search (tree_send, crosses, sendable) depth 60 fits 20000

keyspace_send : IsSend keyspace.the_row
keyspace_send = search (collection_send, crosses, sendable) depth 60 fits 20000

index_send : IsSend index.the_row
index_send = search (tree_send, crosses, sendable) depth 60 fits 20000

hub_send : IsSend hub.the_row
hub_send = search (index_send, channel.the_send, crosses, sendable) depth 60 fits 20000

core_send : IsSend core.the_row
core_send = search (keyspace_send, hub_send, session.the_send, crosses, sendable) depth 60 fits 20000

durable_field_send : (D : RattleType) → IsSend D → IsSend (durable.the_field D).row
durable_field_send D s = search (s, core_send, tail.the_field_send, crosses, sendable) depth 60 fits 20000

place_field_send : (D : RattleType) → IsSend D → IsSend (place.the_field D).row
place_field_send D s = search (s, durable_field_send, crosses, sendable) depth 60 fits 20000

pub hall_core_field_send : (D : RattleType) → IsSend D → IsSend (hall_core.the_field D).row
hall_core_field_send D s = search (s, place_field_send, crosses, sendable) depth 60 fits 20000

pub hall_core_send : (D : RattleType) → IsSend D → IsSend (hall_core.the_row D)
hall_core_send D s = recorded_send (hall_core.the_field D).row _ _ (hall_core.the_type D).to_one (hall_core_field_send D s)

pub work_send : IsSend work.the_row
work_send = search (crosses, sendable) depth 60 fits 20000

-- a disk that is given out, and how that ended
abbrev given : RattleType → List RattleType
given D = D ∷ called_row.the_row ∷ []

given_send : (D : RattleType) → IsSend D → IsSend (option.the_field (Tuple (given D))).row
given_send D s = option_sends.the_field_send (Tuple (given D)) (recorded_send (tuple_field (given D)).row _ _ (tuple_type (given D)).to_one (struct_send (shape (tuple_type (given D))) (s, (called.the_send, tt))))

answer_field_send : (D : RattleType) → IsSend D → IsSend (answer.the_field D).row
answer_field_send D s =
    let entered = result_sends.the_field_send u32 fault_row.the_row (plain_send _ _ _ _ _) fault.the_send in
    enum_send (enum_shape (answer.the_type D)) (
      (entered, tt),
      (
        (answers.the_field_send, (asked.the_send, (touched.the_send, tt))),
        (
          (taken.the_field_send, (frames.the_send, tt)),
          ((called.the_field_send, (touched.the_send, tt)), ((called.the_field_send, (state.the_field_send, tt)), ((part_answer.the_field_send, (part_bytes.the_field_send, tt)), ((given_send D s, tt), (tt, tt))))),
        ),
      ),
    )

pub answer_send : (D : RattleType) → IsSend D → IsSend (answer.the_row D)
answer_send D s = recorded_send (answer.the_field D).row _ _ (answer.the_type D).to_one (answer_field_send D s)

shared_hall_field_send : (D : RattleType) (g : Ghosts D.Denot) → IsSend D → IsSend (shared_hall.the_field D g).row
shared_hall_field_send D g s = struct_send (shape (shared_hall.the_type D g)) (lock.the_field_send (hall_core.the_row D) (begun.the_row D) entry.the_row work.the_row (answer.the_row D) (turned.ghosts D g turned.no_dict turned.no_dict) (done.ghosts D g done.no_dict done.no_dict) (hall_core_send D s) work_send (answer_send D s), tt)

pub shared_hall_send : (D : RattleType) (g : Ghosts D.Denot) → IsSend D → IsSend (shared_hall.the_row D g)
shared_hall_send D g s = recorded_send (shared_hall.the_field D g).row _ _ (shared_hall.the_type D g).to_one (shared_hall_field_send D g s)

shared_hall_field_sync : (D : RattleType) (g : Ghosts D.Denot) → IsSend D → IsSync (shared_hall.the_field D g).row
shared_hall_field_sync D g s = struct_sync (shape (shared_hall.the_type D g)) (lock.the_field_sync (hall_core.the_row D) (begun.the_row D) entry.the_row work.the_row (answer.the_row D) (turned.ghosts D g turned.no_dict turned.no_dict) (done.ghosts D g done.no_dict done.no_dict) (hall_core_send D s) work_send (answer_send D s), tt)

pub shared_hall_sync : (D : RattleType) (g : Ghosts D.Denot) → IsSend D → IsSync (shared_hall.the_row D g)
shared_hall_sync D g s = recorded_sync (shared_hall.the_field D g).row _ _ (shared_hall.the_type D g).to_one (shared_hall_field_sync D g s)
