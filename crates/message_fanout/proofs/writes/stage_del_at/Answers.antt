use Rattle.std.proofs.Common.{refl, ◌∙◌, arith}
use Rattle.world_data.specs.Sound.{is_sound_channel, is_sound_watch}
use Rattle.world_data.specs.declared.worlds.Change.TheVariants.{Del}
use Rattle.byte_text.specs.Globs.{is_sound_glob}
use Rattle.ordered_lists.specs.Reading.{both_of}
use Rattle.session_table.specs.FanLaws.{brought_none}
use Rattle.message_fanout.specs.Stagings.{messages_by}
use Rattle.message_fanout.proofs.Going.{all_channels, channel_more, passes_at}
use Rattle.message_fanout.proofs.writes.stage_del_at.Goals as goal

pub loop-i-init : goal.loop-i-init
loop-i-init c = record { same = refl; staged = λ w stands. brought_none c.args.sessions.now.items }

pub stage_del_by-requires : goal.stage_del_by-requires
stage_del_by-requires c =
    let ch = c.at.result.now in
    (both_of (is_sound_glob ch.fence.glob) (is_sound_watch ch.fence.watch) (passes_at is_sound_channel c.args.concerned.now c.loop-i.i ch c.requires c.at.ensures)).0

pub loop-i-preserved : goal.loop-i-preserved
loop-i-preserved c =
    let l = c.loop-i in
    record {
      same = c.stage_del_by.ensures.same ∙ l.invariant.same;
      staged = λ w stands.
          channel_more (messages_by c.args.gone_before w (Del c.args.old.now.key c.args.old.now.id)) c.args.sessions.now.items l.sessions.items c.stage_del_by.new.sessions.items
          c.args.concerned.now l.i c.at.result.now c.at.ensures (l.invariant.staged w stands) (c.in_ok-stage_del_by.ensures.staged w stands);
    }

pub returns-clause-staged : goal.returns-clause-staged
returns-clause-staged c = λ w stands.
    all_channels (messages_by c.args.gone_before w (Del c.args.old.now.key c.args.old.now.id)) c.args.sessions.now.items c.loop-i.sessions.items c.args.concerned.now c.loop-i.i
    (omega (arith, c.loop-i-test.false, c.len-i-end.ensures)) (c.loop-i.invariant.staged w stands)
