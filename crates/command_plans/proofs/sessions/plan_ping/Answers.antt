use Rattle.std.proofs.Common.{[], ◌∷◌, arith}
use Rattle.std.specs.Prelude.{codes}
use Rattle.byte_text.specs.declared.replies.Piece.TheVariants as piece
use Rattle.keyspace.specs.Entries.{objects_in}
use Rattle.object_plans.specs.ChannelWeights.{says_beside}
use Rattle.object_plans.specs.Moves.{world_with}
use Rattle.command_plans.proofs.SessionEffects.{answered}
use Rattle.command_plans.proofs.sessions.plan_ping.Goals as goal

pub returns : goal.returns
returns c =
    let os = objects_in c.args.context.objects.now in
    let cs = c.args.context.hub.now.channels in
    let pong = piece.Status (codes "PONG") ∷ [] in
    says_beside cs os c.args.context.total c.requires.kept (omega (arith, c.requires.light, c.requires.channels)) _ pong c.in_ok-say_frame.field-0
    (answered (world_with cs os) c.args.context.now c.args.context.subs.now) (c.in_ok-say_frame.ensures pong c.in_ok-frame.ensures)
