use Rattle.std.proofs.Common.{◌≡◌, ◌∙◌, ◌≤◌, ◌+◌, ◌*◌, List, Some, length, take, sym, ap, subst, arith}
use Rattle.std.specs.Prelude.{flat_map, slice_get}
use Rattle.std.proofs.lemmas.Option.{slice_get-get_or}
use Rattle.byte_text.specs.Names.{Bytes}
use Rattle.world_data.specs.Worlds.{empty_world}
use Rattle.world_data.specs.declared.worlds.Change.{Change}
use Rattle.log_record.specs.Folding.{folded}
use Rattle.fence_backtest.specs.Cuts.{front, part}
use Rattle.fence_backtest.specs.Outcomes.{IsTally}
use Rattle.fence_backtest.specs.Standing.{AreStood, Known, nowhere, places_behind}
use Rattle.fence_backtest.specs.Telling.{AreOutcomes}
use Rattle.fence_backtest.specs.declared.outcomes.Outcome.{Outcome}
use Rattle.fence_backtest.proofs.ReportLaws.{lines_are, told_is}
use Rattle.fence_backtest.proofs.Tables.{if_ok_three, placed, stretch_is_at}
use Rattle.fence_backtest.proofs.telling.tell.Goals as goal

pub outcomes-requires-clause-within : goal.outcomes-requires-clause-within
outcomes-requires-clause-within c =
    let list = c.args.stretches.now.list.items in
    let s = c.index-stretch.result.now in
    let here : slice_get list c.args.at ≡ Some s = slice_get-get_or list c.args.at s c.requires.here ∙ ap Some (sym c.index-stretch.ensures) in
    (stretch_is_at c.args.channel.now.fence.key c.args.changes.now c.args.stretches.now.size list c.args.at s c.requires.are.each here).within

pub outcomes-requires-clause-fits : goal.outcomes-requires-clause-fits
outcomes-requires-clause-fits c =
    let list = c.args.stretches.now.list.items in
    let s = c.index-stretch.result.now in
    let here : slice_get list c.args.at ≡ Some s = slice_get-get_or list c.args.at s c.requires.here ∙ ap Some (sym c.index-stretch.ensures) in
    (stretch_is_at c.args.channel.now.fence.key c.args.changes.now c.args.stretches.now.size list c.args.at s c.requires.are.each here).fits

pub told_of-requires-clause-within : goal.told_of-requires-clause-within
told_of-requires-clause-within c =
    let list = c.args.stretches.now.list.items in
    let s = c.index-stretch.result.now in
    let here : slice_get list c.args.at ≡ Some s = slice_get-get_or list c.args.at s c.requires.here ∙ ap Some (sym c.index-stretch.ensures) in
    let is = stretch_is_at c.args.channel.now.fence.key c.args.changes.now c.args.stretches.now.size list c.args.at s c.requires.are.each here in
    let long : length c.as_slice.result.now ≡ length s.olds = ap (λ l. length l) c.as_slice.ensures.value ∙ c.in_ok-found.ensures.long in
    omega (arith, is.within, c.from.ensures, long)

pub told_of-requires-clause-fits : goal.told_of-requires-clause-fits
told_of-requires-clause-fits c =
    let list = c.args.stretches.now.list.items in
    let s = c.index-stretch.result.now in
    let here : slice_get list c.args.at ≡ Some s = slice_get-get_or list c.args.at s c.requires.here ∙ ap Some (sym c.index-stretch.ensures) in
    let is = stretch_is_at c.args.channel.now.fence.key c.args.changes.now c.args.stretches.now.size list c.args.at s c.requires.are.each here in
    let long : length c.as_slice.result.now ≡ length s.olds = ap (λ l. length l) c.as_slice.ensures.value ∙ c.in_ok-found.ensures.long in
    omega (arith, is.fits, c.from.ensures, long)

pub returns : goal.returns
returns c =
    let channel = c.args.channel.now in
    let key = channel.fence.key in
    let area = c.args.area in
    let all = c.args.changes.now in
    let size = c.args.stretches.now.size in
    let list = c.args.stretches.now.list.items in
    let at = c.args.at in
    let s = c.index-stretch.result.now in
    let found = c.in_ok-found.found.items in
    let here : slice_get list at ≡ Some s = slice_get-get_or list at s c.requires.here ∙ ap Some (sym c.index-stretch.ensures) in
    let is = stretch_is_at key all size list at s c.requires.are.each here in
    let up : at ≤ length list = omega (arith, c.requires.here) in
    let w = folded empty_world (front all size at) in
    let went = is.goes (places_behind nowhere (take at list)) w (placed key all size list at c.requires.are.each up) in
    let stood = subst (λ (before : List Known). AreStood key all (places_behind nowhere before) w (part all s.from (length s.olds)) s.olds) (ap (take at) (sym c.deref.ensures.value)) went.olds_are in
    let are = subst (λ (l : List Change). AreOutcomes channel area w l found) is.part_is (c.in_ok-found.ensures.are w stood) in
    let lines = lines_are all c.from.result (at * size) size c.as_slice.result.now found s c.from.ensures c.as_slice.ensures.value c.in_ok-found.ensures.long is.from_is is.part_is in
    if_ok_three c.told_of.result _ _ _ _
    (λ t text total counts. told_is channel area (at * size + 1) w (part all (at * size) size) found t are
    (text ∙ ap (flat_map (λ (line : Bytes). line)) lines) (total ∙ ap (λ (l : List Bytes). length l) lines)
    (subst (λ (os : List Outcome). IsTally os t.counts.items) c.as_slice.ensures.value counts))
    c.told_of.ensures.text c.told_of.ensures.total c.told_of.ensures.counts
