use Rattle.std.proofs.Common.{◌≡◌, ◌∙◌, ◌-◌, ◌≤◌, ℕ, length, take, min, ap, arith, Some}
use Rattle.outside.specs.Sides.{Sides, side_of}
use Rattle.outside.specs.CrashLaws.{told_next, if_told}
use Rattle.append_log.specs.Heads.{head_in}
use Rattle.append_log.proofs.Heading.{first_read, head_short}
use Rattle.append_log.proofs.side_heads.look_at.Goals as goal

pub returns-in-Ok-read-clause-head : goal.returns-in-Ok-read-clause-head
returns-in-Ok-read-clause-head g c s told =
    let D = g.D.Disk in
    let side = side_of s c.args.side in
    let read = c.read.new.into in
    let count = c.in-Ok-read.field-0 in
    let len : c.in-Ok.len ≡ length side = if_told (D.seen c.args.disk.now) s (λ t. c.in-Ok.len ≡ length (side_of t c.args.side)) told c.in-Ok.ensures.length in
    let mid = told_next (D.seen c.args.disk.now) (D.seen c.len.new.self) s (λ s t. t ≡ s) told c.in-Ok.ensures.same in
    let told_mid : D.seen c.len.new.self ≡ Some s = mid.1 ∙ ap (λ (t : Sides). Some t) mid.2 in
    let many : count ≡ min 16 (length side - 0) = if_told (D.seen c.len.new.self) s (λ t. count ≡ min 16 (length (side_of t c.args.side) - 0)) told_mid c.in-Ok-read.ensures.count in
    let same : take count read ≡ take count side = if_told (D.seen c.len.new.self) s (λ t. take count read ≡ take count (side_of t c.args.side)) told_mid c.in-Ok-read.ensures.bytes in
    let first : 16 ≤ length side → read ≡ take 16 side = first_read count read side many c.read.auto.into same in
    (c.of.ensures.head ∙ ap (λ (n : ℕ). head_in n read) len ∙ head_short read side first, c.of.ensures.headed side len (λ enough. first (omega (arith, enough, len))))
