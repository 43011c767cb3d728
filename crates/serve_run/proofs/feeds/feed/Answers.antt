use Rattle.std.proofs.Common.{subst, ◌∷◌, []}
use Rattle.byte_text.specs.Names.{Bytes}
use Rattle.world_model.specs.declared.events.Outcome.TheVariants as outcome
use Rattle.repl_stream.specs.Feeds.{bytes_in}
use Rattle.repl_stream.specs.Texts.{part_text}
use Rattle.session_run.specs.Steps.{Takes}
use Rattle.serve_run.specs.Feeds.{FedBy}
use Rattle.serve_run.proofs.Stepping.{feeds_none, feeds_part}
use Rattle.serve_run.proofs.feeds.feed.Goals as goal

pub returns-in-Given-clause-steps : goal.returns-in-Given-clause-steps
returns-in-Given-clause-steps g c = λ told moment timely.
    feeds_part (FedBy (g.H.FeedApi.answers c.args.hall.now) c.args.terms) told moment timely (g.H.HallApi.knows c.args.seat.now)
    (g.H.HallApi.knows c.log_part-answer.new.seat) c.args.session.now c.on_answered.new.self c.args.asked c.args.ask c.log_part-answer.result.0
    (bytes_in c.log_part-answer.result.1) c.answers_of.result.served c.answers_of.result.end (c.requires.allowed, c.log_part-answer.ensures.part)
    c.requires.moved c.requires.ready c.requires.ask c.log_part-answer.ensures.entry c.answers_of.ensures.served c.answers_of.ensures.end
    c.on_answered.ensures.answered c.on_answered.ensures.fenced c.on_answered.ensures.demand
    c.on_part.new.self c.in-Given.part c.in-Given.is
    (subst (λ (l : Bytes). Takes c.on_answered.new.self c.on_part.new.self (outcome.Given (part_text c.in-Given.part l ∷ [])))
    c.bytes.ensures.bytes c.on_part.ensures.takes)

pub returns-in_default-clause-steps : goal.returns-in_default-clause-steps
returns-in_default-clause-steps g c = λ told moment timely.
    feeds_none (FedBy (g.H.FeedApi.answers c.args.hall.now) c.args.terms) told moment timely (g.H.HallApi.knows c.args.seat.now)
    (g.H.HallApi.knows c.log_part-answer.new.seat) c.args.session.now c.on_answered.new.self c.args.asked c.args.ask c.log_part-answer.result.0
    (bytes_in c.log_part-answer.result.1) c.answers_of.result.served c.answers_of.result.end (c.requires.allowed, c.log_part-answer.ensures.part)
    c.requires.moved c.requires.ready c.requires.ask c.log_part-answer.ensures.entry c.answers_of.ensures.served c.answers_of.ensures.end
    c.on_answered.ensures.answered c.on_answered.ensures.fenced c.on_answered.ensures.demand
    c.in_default.not-Given
