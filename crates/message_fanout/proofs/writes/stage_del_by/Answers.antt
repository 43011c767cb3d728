use Rattle.std.proofs.Common.{sym, subst, ◌∙◌, []}
use Rattle.std.specs.Prelude.{Bool, if◌then◌else◌}
use Rattle.std.proofs.lemmas.Result.{on_ok_weaker}
use Rattle.world_data.specs.declared.worlds.Change.TheVariants.{Del}
use Rattle.channel_hub.specs.MessageLaws.{messages_on}
use Rattle.session_table.specs.Fans.{AreBrought}
use Rattle.session_table.specs.FanLaws.{brought_none}
use Rattle.message_fanout.proofs.writes.stage_del_by.Goals as goal

pub returns-then-has_gone-clause-staged : goal.returns-then-has_gone-clause-staged
returns-then-has_gone-clause-staged c =
    let old = c.args.old.now in
    let a = c.args.sessions.now.items in
    λ w stands. subst (λ (b : Bool). AreBrought (if b then [] else messages_on w (Del old.key old.id) c.args.channel.now) a a) (sym c.if-has_gone.true ∙ c.has_gone.ensures) (brought_none a)

pub returns-clause-staged : goal.returns-clause-staged
returns-clause-staged c =
    let old = c.args.old.now in
    let a = c.args.sessions.now.items in
    let d = c.stage_del_on.new.sessions.items in
    on_ok_weaker c.stage_del_on.result
    (λ staged w stands. subst (λ (b : Bool). AreBrought (if b then [] else messages_on w (Del old.key old.id) c.args.channel.now) a d) (sym c.if-has_gone.false ∙ c.has_gone.ensures) (staged w stands))
    c.stage_del_on.ensures.staged
