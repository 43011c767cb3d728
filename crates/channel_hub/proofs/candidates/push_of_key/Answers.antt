use Rattle.std.proofs.Common.{◌++◌, ◌∙◌, List, [], take, ap, sym, append_assoc, get_or, arith}
use Rattle.std.specs.Prelude.{Option, Some, filter, filter_map}
use Rattle.std.specs.List.{cons_option}
use Rattle.std.proofs.lemmas.List.{take_all}
use Rattle.std.proofs.lemmas.List.Elements.{filter-append}
use Rattle.world_data.specs.declared.channels.Channel.{Channel}
use Rattle.fence_model.specs.Messages.{watches}
use Rattle.slab.specs.Slab.{get}
use Rattle.channel_hub.proofs.Slots.{there_more}
use Rattle.channel_hub.proofs.candidates.push_of_key.Goals as goal

pub loop-i-preserved : goal.loop-i-preserved
loop-i-preserved c =
    let f = get c.args.slots.now in
    let q = watches (Some c.args.key.now) in
    let order = c.args.order.now.items in
    let i = c.loop-i.i in
    let slot = get_or order i 0 in
    c.in_ok-push.ensures
    ∙ ap (λ (l : List Channel). c.loop-i.into ++ l) (c.of_key.ensures ∙ ap (λ (o : Option Channel). filter q (cons_option o [])) (c.get.ensures ∙ ap f c.at.ensures))
    ∙ ap (λ (l : List Channel). l ++ filter q (cons_option (f slot) [])) c.loop-i.invariant
    ∙ append_assoc c.args.into.now (filter q (filter_map f (take i order))) (filter q (cons_option (f slot) []))
    ∙ ap (λ (l : List Channel). c.args.into.now ++ l) (sym (filter-append q (filter_map f (take i order)) (cons_option (f slot) [])) ∙ ap (filter q) (sym (there_more f order i 0 (omega arith))))

pub returns : goal.returns
returns c =
    let f = get c.args.slots.now in
    let q = watches (Some c.args.key.now) in
    c.loop-i.invariant ∙ ap (λ (l : List Channel). c.args.into.now ++ l) (ap (λ l. filter q (filter_map f l)) (take_all c.loop-i.i c.args.order.now.items (omega arith)))
