use Rattle.std.proofs.Common.{◌≡◌, ◌++◌, ◌∙◌, ap, ℕ, List, length, arith}
use Rattle.ordered_lists.specs.Reading.{stands_at}
use Rattle.fence_index.specs.Boxed.{found}
use Rattle.fence_index.proofs.KeyWeights.{found_there, found_missing}
use Rattle.fence_index.proofs.key_lists.numbers_near.Goals as goal

pub returns-in_ok-search-in-Ok-clause-found : goal.returns-in_ok-search-in-Ok-clause-found
returns-in_ok-search-in-Ok-clause-found g c =
    let xs = c.args.boxes.now in
    let s = c.index-boxes-at.result in
    let round = c.args.round.now in
    let put = c.args.put in
    let held = c.in-Ok.ensures.held in
    let is = stands_at xs c.in-Ok.at s held.within c.index-boxes-at.is in
    let made = c.in_ok-search-in-Ok.ensures.found
    ∙ ap (λ (l : List ℕ). l ++ found round put s) c.new-numbers.ensures in
    found_there c.args.key.now round put xs c.in-Ok.at s c.search.new.into c.requires held is made

pub returns-in_ok-search-in-Ok-clause-read : goal.returns-in_ok-search-in-Ok-clause-read
returns-in_ok-search-in-Ok-clause-read g c = λ lt.
    let none : length c.new-numbers.result ≡ 0 = ap length c.new-numbers.ensures in
    omega (arith, c.in_ok-search-in-Ok.ensures.read lt, none)

pub returns-in-Err-clause-found : goal.returns-in-Err-clause-found
returns-in-Err-clause-found g c = found_missing c.args.key.now c.args.round.now c.args.put c.args.boxes.now c.in-Err.field-0 c.new-numbers.result c.requires c.in-Err.ensures.free c.new-numbers.ensures
