use Rattle.std.proofs.Common.{◌≡◌, ◌∙◌, sym, ap, arith}
use Rattle.std.specs.Prelude.{Some, None, slice_get}
use Rattle.slab.specs.Slab.{get}
use Rattle.channel_hub.specs.Dues.{least_due}
use Rattle.channel_hub.specs.Hubs.{channels_in}
use Rattle.channel_hub.proofs.DuePlaces.{first_there, is_due, none_yet, some_due}
use Rattle.std.proofs.lemmas.Option.{slice_get_within}
use Rattle.channel_hub.proofs.indexed_channels.IndexedChannels.due_place.Goals as goal

pub place_of_due-requires-clause-within : goal.place_of_due-requires-clause-within
place_of_due-requires-clause-within c =
    let f = get c.self.inside.slots in
    let order = c.self.inside.order.items in
    let kept = c.self.invariant in
    let least : least_due (channels_in f order) ≡ Some c.in-Some.deadline = rw (← c.self.view_is) at (sym c.least_due.ensures ∙ c.in-Some.is) in
    some_due f order c.self.inside.dues.items kept.ordered kept.expire c.in-Some.deadline least

pub returns-in-Some-clause-within : goal.returns-in-Some-clause-within
returns-in-Some-clause-within c =
    let f = get c.self.inside.slots in
    let order = c.self.inside.order.items in
    let kept = c.self.invariant in
    let least : least_due (channels_in f order) ≡ Some c.in-Some.deadline = rw (← c.self.view_is) at (sym c.least_due.ensures ∙ c.in-Some.is) in
    let first = first_there f order c.self.inside.dues.items kept.ordered kept.expire c.in-Some.deadline least in
    let there = ap (slice_get (channels_in f order)) c.place_of_due.ensures ∙ first.1 in
    rw (← c.self.view_is) (slice_get_within (channels_in f order) c.place_of_due.result first.0 there)

pub returns-in-Some-clause-due : goal.returns-in-Some-clause-due
returns-in-Some-clause-due c =
    let f = get c.self.inside.slots in
    let order = c.self.inside.order.items in
    let kept = c.self.invariant in
    let least : least_due (channels_in f order) ≡ Some c.in-Some.deadline = rw (← c.self.view_is) at (sym c.least_due.ensures ∙ c.in-Some.is) in
    let first = first_there f order c.self.inside.dues.items kept.ordered kept.expire c.in-Some.deadline least in
    let there = ap (slice_get (channels_in f order)) c.place_of_due.ensures ∙ first.1 in
    rw (← c.self.view_is, there) (is_due c.args.now c.in-Some.deadline first.0 first.2 c.if-deadline-now.true)

pub returns-in_default-clause-none : goal.returns-in_default-clause-none
returns-in_default-clause-none c =
    none_yet c.args.now c.args.self.now.channels (λ d e.
    let same : Some c.in-Some.deadline ≡ Some d = sym c.in-Some.is ∙ c.least_due.ensures ∙ e in
    let one : c.in-Some.deadline ≡ d = cc in
    omega (arith, one, c.if-deadline-now.false))

pub returns-in_default-2-clause-none : goal.returns-in_default-2-clause-none
returns-in_default-2-clause-none c =
    none_yet c.args.now c.args.self.now.channels (λ d e.
    let clash : None ≡ Some d = sym c.in_default.is ∙ c.least_due.ensures ∙ e in
    absurd (cc))
