use Rattle.std.proofs.Common.{rules}
use Rattle.std.specs.Prelude.{Some}
use Rattle.outside.specs.Causes.{Rose}
use Rattle.tile_top.specs.declared.stops.Stop.TheVariants.{DoorFault}
use Rattle.tile_top.proofs.Telling.{told_on, told_part, told_whole}
use Rattle.tile_top.proofs.follows.tell_and_ask.Goals as goal

pub returns-in-Err-clause-keeps : goal.returns-in-Err-clause-keeps
returns-in-Err-clause-keeps g c = λ first came told0 held0 t.
    told_part c.args.terms first came told0 held0 c.args.follower.now c.args.told.now (g.K.Sink.held c.args.sink.now)
    (g.K.Sink.held c.tell.new.sink) c.requires t c.in-Err.stop (Rose (g.K.Sink.faults c.args.sink.now) (g.K.Sink.faults c.tell.new.sink))
    c.in-Err.ensures.why (search rules)

pub returns-in-Err-wait-clause-keeps : goal.returns-in-Err-wait-clause-keeps
returns-in-Err-wait-clause-keeps g c = λ first came told0 held0 t.
    told_whole c.args.terms first came told0 held0 c.args.follower.now c.args.told.now (g.K.Sink.held c.args.sink.now)
    (g.K.Sink.held c.tell.new.sink) c.requires t DoorFault (Some c.published-place.result) (search rules) (search rules)

pub returns-clause-keeps : goal.returns-clause-keeps
returns-clause-keeps g c = λ first came told0 held0 t.
    told_on c.args.terms first came told0 held0 c.args.follower.now c.args.told.now (g.K.Sink.held c.args.sink.now)
    (g.K.Sink.held c.tell.new.sink) c.requires t c.ask_again.new.self (Some c.published-place.result) (search rules) (search rules)
    (search rules) c.ask_again.ensures.kept
