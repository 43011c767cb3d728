use Rattle.std.proofs.Common.{◌≡◌, ◌++◌, [], ap, sym, ◌∙◌, drop, arith, append-nil}
use Rattle.std.specs.Prelude.{option_map}
use Rattle.std.proofs.lemmas.List.{drop_all}
use Rattle.byte_text.specs.ListLaws.{one_more}
use Rattle.roam_fence.specs.Pairs.{noted, told, told_of_all}
use Rattle.roam_fence.proofs.pairs.push_found.Goals as goal

pub loop-i-preserved : goal.loop-i-preserved
loop-i-preserved c =
    let old = option_map (λ o. o.now) c.args.old in
    let r = c.args.reach in
    let read = c.args.targets.now in
    let made = c.in_ok-note.ensures ∙ ap (λ t. c.loop-i.into ++ noted c.at-target.result.now t) c.told.ensures in
    one_more (λ t. noted t (told r.pattern.now r.meters r.nodwell old c.args.new.now t)) read c.loop-i.i c.at-target.result.now
    c.loop-i.into c.note.new.into (c.args.into.now ++ told_of_all r.pattern.now r.meters r.nodwell old c.args.new.now read) c.at-target.ensures made c.loop-i.invariant

pub returns : goal.returns
returns c =
    let r = c.args.reach in
    let read = c.args.targets.now in
    let all = told_of_all r.pattern.now r.meters r.nodwell (option_map (λ o. o.now) c.args.old) c.args.new.now in
    let none : drop c.loop-i.i read ≡ [] = drop_all c.loop-i.i read (omega arith) in
    sym (append-nil c.loop-i.into) ∙ ap (λ l. c.loop-i.into ++ all l) (sym none) ∙ c.loop-i.invariant
