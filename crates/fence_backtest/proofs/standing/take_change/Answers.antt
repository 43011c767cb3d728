use Rattle.std.proofs.Common.{◌∙◌, true, Some, sym, ap}
use Rattle.fence_backtest.proofs.Tables.{if_ok_both, stood_as, stood_del, stood_del_else, stood_drop, stood_drop_else, stood_put, stood_put_else}
use Rattle.fence_backtest.proofs.standing.take_change.Goals as goal

pub returns-then-is_same : goal.returns-then-is_same
returns-then-is_same c = λ changes places w here placed.
    let old_named = c.args.named.now.entries in
    let named = c.put_there.new.named.entries in
    let emptied = c.args.emptied.now in
    if_ok_both c.put_there.result _ _ _
    (λ old found updates. stood_as c.args.key.now changes w places named emptied old _ c.args.change.now c.in-Put.is
    (stood_put c.args.key.now changes w places old_named named emptied c.args.at c.in-Put.object old (sym c.is_same.ensures ∙ c.if-is_same.true) (here ∙ ap Some c.in-Put.is) placed found updates.0))
    c.put_there.ensures.stood c.put_there.ensures.updates

pub returns-then-is_same-2 : goal.returns-then-is_same-2
returns-then-is_same-2 c = λ changes places w here placed.
    let old_named = c.args.named.now.entries in
    let named = c.put_there-then-is_same-2.new.named.entries in
    let emptied = c.args.emptied.now in
    if_ok_both c.put_there-then-is_same-2.result _ _ _
    (λ old found updates. stood_as c.args.key.now changes w places named emptied old _ c.args.change.now c.in-Del.is
    (stood_del c.args.key.now changes w places old_named named emptied c.in-Del.other c.in-Del.id old (sym c.is_same-in-Del.ensures ∙ c.if-is_same-2.true) placed found updates.0))
    c.put_there-then-is_same-2.ensures.stood c.put_there-then-is_same-2.ensures.updates

pub returns-else-is_same : goal.returns-else-is_same
returns-else-is_same c = λ changes places w here placed.
    let named = c.args.named.now.entries in
    stood_as c.args.key.now changes w places named c.args.emptied.now _ _ c.args.change.now c.in-Put.is
    (stood_put_else c.args.key.now changes w places named c.args.emptied.now c.in-Put.object (sym c.is_same.ensures ∙ c.if-is_same.false) placed)

pub returns-else-is_same-2 : goal.returns-else-is_same-2
returns-else-is_same-2 c = λ changes places w here placed.
    let named = c.args.named.now.entries in
    stood_as c.args.key.now changes w places named c.args.emptied.now _ _ c.args.change.now c.in-Del.is
    (stood_del_else c.args.key.now changes w places named c.args.emptied.now c.in-Del.other c.in-Del.id (sym c.is_same-in-Del.ensures ∙ c.if-is_same-2.false) placed)

pub returns-then-is_same-3 : goal.returns-then-is_same-3
returns-then-is_same-3 c = λ changes places w here placed.
    let named = c.clear.new.self.entries in
    stood_as c.args.key.now changes w places named true _ _ c.args.change.now c.in-Drop.is
    (stood_drop c.args.key.now changes w places named c.in-Drop.other (sym c.is_same-in-Drop.ensures ∙ c.if-is_same-3.true) c.clear.ensures.empty)

pub returns-else-is_same-3 : goal.returns-else-is_same-3
returns-else-is_same-3 c = λ changes places w here placed.
    let named = c.args.named.now.entries in
    stood_as c.args.key.now changes w places named c.args.emptied.now _ _ c.args.change.now c.in-Drop.is
    (stood_drop_else c.args.key.now changes w places named c.args.emptied.now c.in-Drop.other (sym c.is_same-in-Drop.ensures ∙ c.if-is_same-3.false) placed)
