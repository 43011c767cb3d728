use Rattle.std.proofs.Common.{false, refl, subst, sym}
use Rattle.std.specs.Prelude.{IfOk, filter}
use Rattle.std.proofs.lemmas.Result.{IfOk-weaker}
use Rattle.world_data.specs.declared.channels.Channel.{Channel}
use Rattle.world_store.specs.Copies.{is_behind}
use Rattle.durable_core.specs.declared.rewritings.LastCopied.{LastCopied}
use Rattle.durable_core.specs.Pieces.{Took}
use Rattle.durable_core.specs.Rewriting.{Item, items_left, of_object}
use Rattle.ordered_lists.specs.Reading.{filter-nothing}
use Rattle.durable_core.proofs.Taking.{objects_behind}
use Rattle.durable_core.proofs.pieces.copy_next.Goals as goal

pub returns-in-Nothing-clause-took : goal.returns-in-Nothing-clause-took
returns-in-Nothing-clause-took c =
    subst (λ (l : LastCopied). IfOk c.copy_behind.result (Took (λ (item : Item). item) (items_left l c.args.core.now.hall.world) c.args.piece.now c.copy_behind.new.piece)) (sym c.in-Nothing.is) c.copy_behind.ensures.took

pub returns-in-Channel-clause-took : goal.returns-in-Channel-clause-took
returns-in-Channel-clause-took c =
    subst (λ (l : LastCopied). IfOk c.copy_behind-in-Channel.result (Took (λ (item : Item). item) (items_left l c.args.core.now.hall.world) c.args.piece.now c.copy_behind-in-Channel.new.piece)) (sym c.in-Channel.is) c.copy_behind-in-Channel.ensures.took

pub returns-in-Object-clause-took : goal.returns-in-Object-clause-took
returns-in-Object-clause-took c =
    let w = c.args.core.now.hall.world in
    let os = filter (is_behind c.in-Object.key c.in-Object.id) w.objects in
    let none = λ (x : Channel). false in
    subst (λ (l : LastCopied). IfOk c.copy_object.result (Took (λ (item : Item). item) (items_left l w) c.args.piece.now c.copy_object.new.piece)) (sym c.in-Object.is)
    (IfOk-weaker c.copy_object.result (Took of_object os c.args.piece.now c.copy_object.new.piece) (Took (λ (item : Item). item) _ c.args.piece.now c.copy_object.new.piece)
    (λ r took. objects_behind (filter none w.channels) os c.args.piece.now c.args.piece.now c.copy_object.new.piece r (filter-nothing w.channels) refl took) c.copy_object.ensures.took)
