use Rattle.std.proofs.Common.{◌≡◌, true, false, rules}
use Rattle.world_data.specs.declared.channels.Kind.TheVariants as kind
use Rattle.cmd_words.proofs.FenceAreas.{fenced, unfenced}
use Rattle.cmd_words.proofs.fence_areas.read_fence_area.Goals as goal

pub returns-then-not-options : goal.returns-then-not-options
returns-then-not-options c =
    let bare : c.args.options.now.fence ≡ false = search rules in
    unfenced c.args.kind c.args.options.now bare c.args.reader.now c.args.reader.now c.refusal.result c.refusal.ensures

pub returns-in-Within : goal.returns-in-Within
returns-in-Within c =
    let fence : c.args.options.now.fence ≡ true = search rules in
    rw c.in-Within.is (fenced kind.Within c.args.options.now fence c.args.reader.now c.read_given.new.reader c.read_given.result c.read_given.ensures)

pub returns-in-Intersects : goal.returns-in-Intersects
returns-in-Intersects c =
    let fence : c.args.options.now.fence ≡ true = search rules in
    rw c.in-Intersects.is (fenced kind.Intersects c.args.options.now fence c.args.reader.now c.read_given-in-Intersects.new.reader c.read_given-in-Intersects.result c.read_given-in-Intersects.ensures)

pub returns-in-Near : goal.returns-in-Near
returns-in-Near c =
    let fence : c.args.options.now.fence ≡ true = search rules in
    rw c.in-Near.is (fenced kind.Near c.args.options.now fence c.args.reader.now c.read_near.new.reader c.read_near.result c.read_near.ensures)
