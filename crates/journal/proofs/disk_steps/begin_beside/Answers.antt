use Rattle.std.proofs.Common.{◌≡◌, ◌∙◌, ◌+◌, ℕ, [], sym, ap, subst, arith, ⊎_elim}
use Rattle.outside.specs.Sides.{side_of, other_side}
use Rattle.log_sides.specs.Texts.{StandsFor}
use Rattle.log_sides.specs.Making.{WhileShut}
use Rattle.log_sides.specs.Torn.{new_heading}
use Rattle.log_rewrite.specs.NewSides.{IsNewSide}
use Rattle.journal.specs.Logs.{HoldsOf, IsBehind}
use Rattle.journal.specs.Standing.{holds_of, not_open_behind}
use Rattle.journal.proofs.Steps.{kept_begun, leaves_beside, read_beside, if_ok_three}
use Rattle.journal.proofs.disk_steps.begin_beside.Goals as goal

pub begin-requires : goal.begin-requires
begin-requires g c = new_heading (c.generation.result + 1) (omega arith) (omega (arith, c.generation.ensures, c.requires))

pub returns-clause-kept : goal.returns-clause-kept
returns-clause-kept g c batches copied kept =
    let D = g.D.Disk in
    let old = c.args.disk.now in
    let new = c.begin.new.disk in
    let log = c.args.log.now in
    let n = c.generation.result + 1 in
    let there = c.beside.result in
    let is : there ≡ other_side log.side = c.beside.ensures ∙ ap other_side c.side.ensures in
    let next : n ≡ log.generation + 1 = ap (λ (k : ℕ). k + 1) c.generation.ensures in
    let read = read_beside (D.crashes old) (D.seen old) (D.images old) log.side there log.generation is kept.beside in
    if_ok_three c.begin.result (λ r. IsNewSide (D.crashes new) (D.seen new) (D.images new) there n r.gate []) (λ r. r.side ≡ there) (λ r. r.generation ≡ n) _
    (λ r begun side_is generation_is. kept_begun D.crashes D.seen D.images D.moment D.left_since log.side there log.version log.generation n log.gate r batches old new (WhileShut read.bytes) c.begin.ensures.told is next kept.log
    (c.begin.ensures.either read.bytes read.short read.reads) begun side_is generation_is)
    (c.begin.ensures.begun read.bytes read.short read.reads) c.begin.ensures.side c.begin.ensures.generation

pub returns-clause-leaves : goal.returns-clause-leaves
returns-clause-leaves g c batches copied kept told =
    let D = g.D.Disk in
    let old = c.args.disk.now in
    let log = c.args.log.now in
    let there = c.beside.result in
    let is : there ≡ other_side log.side = c.beside.ensures ∙ ap other_side c.side.ensures in
    let read = read_beside (D.crashes old) (D.seen old) (D.images old) log.side there log.generation is kept.beside in
    leaves_beside D.crashes D.seen D.images D.moment D.left_since log.side there (WhileShut read.bytes) (StandsFor log.version log.generation batches) (HoldsOf log.version log.generation batches) old c.begin.new.disk told is kept.log.safe
    (c.begin.ensures.either read.bytes read.short read.reads)
    (λ x stands left. holds_of x log.side log.version log.generation batches stands
    (⊎_elim (λ same. subst (IsBehind log.generation) (sym same) read.behind) (λ closed. not_open_behind log.generation (side_of x (other_side log.side)) closed) left))
