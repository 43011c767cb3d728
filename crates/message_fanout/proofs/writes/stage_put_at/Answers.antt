use Rattle.std.proofs.Common.{refl, sym, ◌∙◌, arith}
use Rattle.world_data.specs.Sound.{is_sound_channel, is_sound_watch}
use Rattle.world_data.specs.declared.worlds.Change.TheVariants.{Put}
use Rattle.byte_text.specs.Globs.{is_sound_glob}
use Rattle.ordered_lists.specs.Reading.{both_of}
use Rattle.channel_hub.specs.MessageLaws.{messages_on}
use Rattle.session_table.specs.FanLaws.{brought_none}
use Rattle.message_fanout.proofs.Going.{all_channels, channel_more, neither, passes_at}
use Rattle.message_fanout.proofs.writes.stage_put_at.Goals as goal

pub loop-i-init : goal.loop-i-init
loop-i-init g c = record { same = refl; staged = λ w is stands. brought_none c.args.sessions.now.items; quiet = λ is. refl }

pub stage_put_on-requires-clause-glob : goal.stage_put_on-requires-clause-glob
stage_put_on-requires-clause-glob g c =
    let ch = c.at.result.now in
    (both_of (is_sound_glob ch.fence.glob) (is_sound_watch ch.fence.watch) (passes_at is_sound_channel c.args.candidates.now c.loop-i.i ch c.requires c.at.ensures)).0

pub stage_put_on-requires-clause-pattern : goal.stage_put_on-requires-clause-pattern
stage_put_on-requires-clause-pattern g c =
    let ch = c.at.result.now in
    (both_of (is_sound_glob ch.fence.glob) (is_sound_watch ch.fence.watch) (passes_at is_sound_channel c.args.candidates.now c.loop-i.i ch c.requires c.at.ensures)).1

pub loop-i-preserved : goal.loop-i-preserved
loop-i-preserved g c =
    let l = c.loop-i in
    record {
      same = c.stage_put_on.ensures.same ∙ l.invariant.same;
      staged = λ w is stands.
          channel_more (messages_on w (Put c.args.new.now)) c.args.sessions.now.items l.sessions.items c.stage_put_on.new.sessions.items
          c.args.candidates.now l.i c.at.result.now c.at.ensures (l.invariant.staged w is stands) (c.in_ok-told.ensures.staged w is stands);
      quiet = λ is. let none = neither l.is_told c.in_ok-told.told (sym c.either-is_told.ensures ∙ is) in c.in_ok-told.ensures.quiet none.1 ∙ l.invariant.quiet none.0;
    }

pub returns-clause-staged : goal.returns-clause-staged
returns-clause-staged g c = λ w is stands.
    all_channels (messages_on w (Put c.args.new.now)) c.args.sessions.now.items c.loop-i.sessions.items c.args.candidates.now c.loop-i.i
    (omega (arith, c.loop-i-test.false, c.len-i-end.ensures)) (c.loop-i.invariant.staged w is stands)
