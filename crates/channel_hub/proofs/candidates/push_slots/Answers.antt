use Rattle.std.proofs.Common.{◌++◌, ◌∙◌, List, [], take, ap, sym, append_assoc, get_or, arith}
use Rattle.std.specs.Prelude.{Option, filter_map}
use Rattle.std.specs.List.{cons_option}
use Rattle.std.proofs.lemmas.List.{take_all}
use Rattle.world_data.specs.declared.channels.Channel.{Channel}
use Rattle.slab.specs.Slab.{get}
use Rattle.channel_hub.proofs.Slots.{there_more}
use Rattle.channel_hub.proofs.candidates.push_slots.Goals as goal

pub loop-i-preserved : goal.loop-i-preserved
loop-i-preserved c =
    let f = get c.args.slots.now in
    let ns = c.args.numbers.now in
    let i = c.loop-i.i in
    c.in_ok-push.ensures
    ∙ ap (λ (o : Option Channel). c.loop-i.into ++ cons_option o []) (c.get.ensures ∙ ap f c.at.ensures)
    ∙ ap (λ (l : List Channel). l ++ cons_option (f (get_or ns i 0)) []) c.loop-i.invariant
    ∙ append_assoc c.args.into.now (filter_map f (take i ns)) (cons_option (f (get_or ns i 0)) [])
    ∙ ap (λ (l : List Channel). c.args.into.now ++ l) (sym (there_more f ns i 0 (omega arith)))

pub returns : goal.returns
returns c = c.loop-i.invariant ∙ ap (λ (l : List Channel). c.args.into.now ++ l) (ap (filter_map (get c.args.slots.now)) (take_all c.loop-i.i c.args.numbers.now (omega arith)))
