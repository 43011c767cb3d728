use Rattle.std.proofs.Common.{◌∙◌, sym, subst, List, []}
use Rattle.std.specs.Prelude.{option_map}
use Rattle.std.proofs.lemmas.Result.{on_ok_weaker}
use Rattle.byte_text.specs.Names.{Bytes}
use Rattle.keyspace.specs.Entries.{objects_in}
use Rattle.session_table.specs.Fans.{AreBrought}
use Rattle.session_table.specs.FanLaws.{brought_none}
use Rattle.message_fanout.specs.Raises.{sent}
use Rattle.message_fanout.proofs.Payloads.{put_over_area, put_roams, roams_over_none}
use Rattle.message_fanout.proofs.raises.stage_put_on.Goals as goal

pub returns-in-Some-clause-staged : goal.returns-in-Some-clause-staged
returns-in-Some-clause-staged g c =
    let ch = c.args.channel.now in
    on_ok_weaker c.stage_roams.result
    (λ staged w is stands. subst (λ (ps : List Bytes). AreBrought (sent ch ps) c.args.sessions.now.items c.stage_roams.new.sessions.items)
    (sym (put_roams w c.args.new.now ch c.in-Roam.key c.in-Roam.field-1 c.in-Roam.field-2 c.in-Roam.field-3 (option_map (λ o. o.now) c.args.old) (objects_in c.args.objects.now) c.in-Some.targets.now.objects c.in-Roam.is is stands (sym c.in-Some.ensures.some)))
    staged)
    c.stage_roams.ensures.staged

pub returns-in-None-clause-staged : goal.returns-in-None-clause-staged
returns-in-None-clause-staged g c =
    let ch = c.args.channel.now in
    let old = option_map (λ o. o.now) c.args.old in
    λ w is stands. subst (λ (ps : List Bytes). AreBrought (sent ch ps) c.args.sessions.now.items c.args.sessions.now.items)
    (sym (put_roams w c.args.new.now ch c.in-Roam.key c.in-Roam.field-1 c.in-Roam.field-2 c.in-Roam.field-3 old (objects_in c.args.objects.now) [] c.in-Roam.is is stands c.in-None.ensures.none ∙ roams_over_none ch old c.args.new.now))
    (brought_none c.args.sessions.now.items)

pub returns-in-Zone-clause-staged : goal.returns-in-Zone-clause-staged
returns-in-Zone-clause-staged g c =
    let ch = c.args.channel.now in
    on_ok_weaker c.stage_area.result
    (λ staged w is stands. subst (λ (ps : List Bytes). AreBrought (sent ch ps) c.args.sessions.now.items c.stage_area.new.sessions.items)
    (sym (put_over_area w c.args.new.now ch c.in-Zone.field-0 c.in-Zone.field-1 (option_map (λ o. o.now) c.args.old) c.in-Zone.is stands))
    staged)
    c.stage_area.ensures.staged
