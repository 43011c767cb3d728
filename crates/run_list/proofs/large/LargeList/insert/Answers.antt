use Rattle.std.proofs.Common.{rules, ◌≡◌, length}
use Rattle.run_list.proofs.Flats.{all-last, all-left, flat-first}
use Rattle.run_list.proofs.RunEnds.{IsFirst, first-run}
use Rattle.run_list.proofs.large.LargeList.insert.Goals as goal

pub returns-then-is_empty-clause-items : goal.returns-then-is_empty-clause-items
returns-then-is_empty-clause-items c =
    let rs = c.self.inside.runs.items in
    let run = c.take_last-run.result in
    let none : length rs ≡ 0 = search rules in
    let within = rw (← c.self.view_is) at c.requires.within in
    let empty = all-last c.take_last-run.new.self.items run c.self.inside.spares.items c.take_last-run.ensures.items c.self.invariant.empty in
    rw (← c.self.view_is) (flat-first rs c.push_reserved.new.self.items run c.insert.new.self c.args.i c.args.number none empty c.insert.ensures c.push_reserved.ensures.items within)

pub invariant_of-self : goal.invariant_of-self
invariant_of-self c =
    let rs = c.self.inside.runs.items in
    let run = c.take_last-run.result in
    let none : length rs ≡ 0 = search rules in
    let empty = all-last c.take_last-run.new.self.items run c.self.inside.spares.items c.take_last-run.ensures.items c.self.invariant.empty in
    let spares = all-left c.take_last-run.new.self.items run c.self.inside.spares.items c.take_last-run.ensures.items c.self.invariant.empty in
    let first : IsFirst c.push_reserved.new.self.items c.push_reserved-then-is_empty.new.self.items = first-run rs c.push_reserved.new.self.items run c.insert.new.self c.self.inside.ends.items c.push_reserved-then-is_empty.new.self.items c.args.number c.self.invariant.counted none empty c.insert.ensures c.push_reserved.ensures.items c.push_reserved-then-is_empty.ensures.items in
    let filled = first.filled in
    let counted = first.ends in
    let count = first.count in
    search rules
