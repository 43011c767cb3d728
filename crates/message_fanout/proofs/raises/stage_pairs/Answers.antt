use Rattle.std.proofs.Common.{refl, sym, ◌∙◌, arith}
use Rattle.session_table.specs.FanLaws.{brought_none}
use Rattle.message_fanout.proofs.Going.{all_pairs, neither, pair_step}
use Rattle.message_fanout.proofs.raises.stage_pairs.Goals as goal

pub loop-i-init : goal.loop-i-init
loop-i-init c = record { same = refl; staged = λ list all is. brought_none c.args.sessions.now.items; quiet = λ is. refl }

pub loop-i-preserved : goal.loop-i-preserved
loop-i-preserved c =
    let l = c.loop-i in
    record {
      same = c.stage_near.ensures.same ∙ l.invariant.same;
      staged = pair_step c.args.channel.now c.args.new.now c.args.sessions.now.items l.sessions.items c.stage_near.new.sessions.items c.args.targets.now.objects c.args.pairs.now l.i c.id-id.result.now c.is_near-near.result
          (omega (arith, c.loop-i-test.true, c.len-i-end.ensures)) c.id-id.ensures c.is_near-near.ensures c.in_ok-told.ensures.staged l.invariant.staged;
      quiet = λ is. let none = neither l.is_told c.in_ok-told.told (sym c.either-is_told.ensures ∙ is) in c.in_ok-told.ensures.quiet none.1 ∙ l.invariant.quiet none.0;
    }

pub returns-clause-staged : goal.returns-clause-staged
returns-clause-staged c = all_pairs c.args.channel.now c.args.new.now c.args.sessions.now.items c.loop-i.sessions.items c.args.targets.now.objects c.args.pairs.now c.loop-i.i (omega (arith, c.loop-i-test.false, c.len-i-end.ensures)) c.loop-i.invariant.staged
