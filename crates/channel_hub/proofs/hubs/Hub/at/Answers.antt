use Rattle.std.proofs.Common.{◌≤◌, ◌<◌, ◌+◌, ◌-◌, ◌∙◌, sym, ap, subst, ℕ, List, length, arith}
use Rattle.std.specs.Prelude.{slice_index}
use Rattle.channel_hub.specs.Dues.{left_of}
use Rattle.channel_hub.proofs.Places.{left_beside, left_count}
use Rattle.channel_hub.proofs.hubs.Hub.at.Goals as goal

pub gone_before-requires : goal.gone_before-requires
gone_before-requires c =
    let many = left_count c.self.inside.out c.self.inside.all.channels in
    let gone = ap length c.self.invariant.listed in
    let within : c.args.i < length (left_of c.self.inside.out c.self.inside.all.channels) = rw (← c.self.view_is) at c.requires in
    omega (arith, many, gone, within, c.len-count.ensures.count, c.len-count.type_inv)

pub overflow_add-i : goal.overflow_add-i
overflow_add-i c =
    let many = left_count c.self.inside.out c.self.inside.all.channels in
    let gone = ap length c.self.invariant.listed in
    let within : c.args.i < length (left_of c.self.inside.out c.self.inside.all.channels) = rw (← c.self.view_is) at c.requires in
    omega (arith, many, gone, within, c.len-count.ensures.count, c.len-count.type_inv, c.gone_before.ensures.within)

pub at-requires : goal.at-requires
at-requires c =
    let many = left_count c.self.inside.out c.self.inside.all.channels in
    let gone = ap length c.self.invariant.listed in
    let within : c.args.i < length (left_of c.self.inside.out c.self.inside.all.channels) = rw (← c.self.view_is) at c.requires in
    omega (arith, many, gone, within, c.gone_before.ensures.within)

pub returns : goal.returns
returns c =
    let out = c.self.inside.out in
    let xs = c.self.inside.all.channels in
    let i = c.args.i in
    let t = c.gone_before.result in
    let listed = c.self.invariant.listed in
    let few = subst (λ (l : List ℕ). t ≤ length l) listed c.gone_before.ensures.within in
    let front = subst (λ (l : List ℕ). 0 < t → slice_index l (t - 1) < i + t) listed c.gone_before.ensures.front in
    let behind = subst (λ (l : List ℕ). t < length l → i + t < slice_index l t) listed c.gone_before.ensures.behind in
    rw (← c.self.view_is) (sym (left_beside out xs i t few front behind) ∙ c.at.ensures)
