use Rattle.std.proofs.Common.{true, subst}
use Rattle.std.specs.Prelude.{filter, map}
use Rattle.std.proofs.lemmas.Result.{IfOk-weaker}
use Rattle.world_store.specs.Copies.{is_next_channel, name_in}
use Rattle.durable_core.specs.Pieces.{Took}
use Rattle.durable_core.specs.Rewriting.{Item, of_channel, of_object}
use Rattle.durable_core.proofs.Taking.{channel_taken, objects_behind}
use Rattle.durable_core.proofs.pieces.copy_behind.Goals as goal

pub returns-in-Some-clause-took : goal.returns-in-Some-clause-took
returns-in-Some-clause-took c =
    let cs = filter (is_next_channel (name_in c.args.after)) c.args.core.now.hall.world.channels in
    let os = filter (λ o. true) c.args.core.now.hall.world.objects in
    channel_taken cs (map of_object os) c.args.piece.now c.copy_channel.new.piece c.in-Some.copied (subst (Took of_channel cs c.args.piece.now c.copy_channel.new.piece) c.in-Some.is c.in_ok-copied.ensures.took)

pub returns-in-None-clause-took : goal.returns-in-None-clause-took
returns-in-None-clause-took c =
    let cs = filter (is_next_channel (name_in c.args.after)) c.args.core.now.hall.world.channels in
    let os = filter (λ o. true) c.args.core.now.hall.world.objects in
    let none = subst (Took of_channel cs c.args.piece.now c.copy_channel.new.piece) c.in-None.is c.in_ok-copied.ensures.took in
    IfOk-weaker c.copy_object.result (Took of_object os c.copy_channel.new.piece c.copy_object.new.piece) (Took (λ (item : Item). item) _ c.args.piece.now c.copy_object.new.piece)
    (λ r took. objects_behind cs os c.args.piece.now c.copy_channel.new.piece c.copy_object.new.piece r none.0 none.1 took) c.copy_object.ensures.took
