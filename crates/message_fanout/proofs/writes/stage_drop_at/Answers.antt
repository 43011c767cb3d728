use Rattle.std.proofs.Common.{refl, ◌∙◌, arith}
use Rattle.world_data.specs.declared.worlds.Change.TheVariants.{Drop}
use Rattle.channel_hub.specs.MessageLaws.{messages_on}
use Rattle.session_table.specs.FanLaws.{brought_none}
use Rattle.message_fanout.proofs.Going.{all_channels, channel_more}
use Rattle.message_fanout.proofs.writes.stage_drop_at.Goals as goal

pub loop-i-init : goal.loop-i-init
loop-i-init c = record { same = refl; staged = λ w. brought_none c.args.sessions.now.items }

pub loop-i-preserved : goal.loop-i-preserved
loop-i-preserved c =
    let l = c.loop-i in
    record {
      same = c.stage_drop_on.ensures.same ∙ l.invariant.same;
      staged = λ w.
          channel_more (λ ch. messages_on w (Drop ch.fence.key) ch) c.args.sessions.now.items l.sessions.items c.stage_drop_on.new.sessions.items
          c.args.watching.now l.i c.at.result.now c.at.ensures (l.invariant.staged w) (c.in_ok-stage_drop_on.ensures.staged w);
    }

pub returns-clause-staged : goal.returns-clause-staged
returns-clause-staged c = λ w.
    all_channels (λ ch. messages_on w (Drop ch.fence.key) ch) c.args.sessions.now.items c.loop-i.sessions.items c.args.watching.now c.loop-i.i
    (omega (arith, c.loop-i-test.false, c.len-i-end.ensures)) (c.loop-i.invariant.staged w)
