use Rattle.std.proofs.Common.{◌≡◌, ◌∙◌, ◌++◌, ◌-◌, ℕ, List, take, drop, length, min, arith, ap, length-take}
use Rattle.std.proofs.lemmas.List.{take-append-le}
use Rattle.outside.specs.Sides.{side_of}
use Rattle.outside.specs.CrashLaws.{if_told}
use Rattle.append_log.proofs.Scanning.{advances}
use Rattle.append_log.proofs.side_readers.Reader.next_piece.Goals as goal

pub returns-in-Ok-clause-piece : goal.returns-in-Ok-clause-piece
returns-in-Ok-clause-piece g c version generation batches part bytes safe reading =
    let D = g.D.Disk in
    let s = c.args.self.now in
    let count = c.in-Ok.count in
    let room = c.min-room.result in
    let into = c.args.into.now in
    let read = c.read.new.into in
    let told : count ≡ min (length (take room into)) (length (side_of safe.contents s.side) - s.at) = if_told (D.seen c.args.disk.now) safe.contents (λ t. count ≡ min (length (take room into)) (length (side_of t s.side) - s.at)) safe.told c.in-Ok.ensures.count in
    let copied : take count read ≡ take count (drop s.at bytes) =
    if_told (D.seen c.args.disk.now) safe.contents (λ t. take count read ≡ take count (drop s.at (side_of t s.side))) safe.told c.in-Ok.ensures.bytes ∙ ap (λ (l : List ℕ). take count (drop s.at l)) safe.has in
    let many : count ≡ min (length into) s.left = omega (arith, told, ap length safe.has, reading.whole, reading.within, c.min-room.ensures, length-take room into) in
    let whole : take count (read ++ drop room into) ≡ take count read = take-append-le count read (drop room into) (omega (arith, c.in-Ok.ensures.bound)) in (
      many,
      advances version generation batches part (take count (read ++ drop room into)) s.len s.left s.at count c.saturating_sub-self.result c.saturating_add-self.result bytes reading (omega (arith, many)) (whole ∙ copied)
          (omega (arith, c.saturating_sub-self.ensures)) (omega (arith, c.saturating_add-self.ensures, reading.within, s.short, many)),
    )
