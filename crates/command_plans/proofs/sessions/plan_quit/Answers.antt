use Rattle.std.proofs.Common.{◌≡◌, ◌≤◌, true, lit≤, length, subst, sym, arith}
use Rattle.byte_text.specs.Names.{Bytes}
use Rattle.byte_text.specs.Replies.{fine, frame_text}
use Rattle.world_data.specs.Limits.{max_reply}
use Rattle.world_model.specs.Effects.{effect}
use Rattle.world_model.specs.declared.commands.Command.TheVariants as family
use Rattle.world_model.specs.declared.session_commands.SessionCommand.TheVariants as of_session
use Rattle.keyspace.specs.Entries.{objects_in}
use Rattle.object_plans.specs.Answering.{replies_alone}
use Rattle.object_plans.specs.Beside.{IsPlanBeside}
use Rattle.object_plans.specs.Moves.{world_with}
use Rattle.object_plans.specs.declared.plans.Plan.{Plan}
use Rattle.command_plans.proofs.SessionEffects.{left}
use Rattle.command_plans.proofs.sessions.plan_quit.Goals as goal

pub returns : goal.returns
returns c =
    let os = objects_in c.args.context.objects.now in
    let cs = c.args.context.hub.now.channels in
    let total = c.args.context.total in
    let frame = c.in_ok-frame.frame in
    let frame_is : frame ≡ frame_text fine = c.in_ok-frame.ensures in
    let short = subst (λ (f : Bytes). length f ≤ max_reply) (sym frame_is) (lit≤ tt) in
    let w = world_with cs os in
    let held = c.args.context.subs.now in
    let e = effect w c.args.context.now held (family.Session of_session.Quit) in
    let is = left w c.args.context.now held in
    subst (λ (p : Plan). IsPlanBeside cs os e p) (sym c.last_reply.ensures)
    (replies_alone os total c.requires.kept e fine frame true is frame_is short, omega (arith, c.requires.light, c.requires.channels))
