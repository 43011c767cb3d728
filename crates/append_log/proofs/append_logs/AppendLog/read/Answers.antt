use Rattle.std.proofs.Common.{◌≡◌, ◌∙◌, ◌++◌, ◌-◌, ◌∷◌, ◌≤◌, ℕ, List, take, drop, length, min, arith, ap, sym, length-append, length-take}
use Rattle.std.specs.Prelude.{Option, Some, Result, Ok, Err, IfOk}
use Rattle.std.proofs.lemmas.List.{drop-append-le, take-append-le, length-drop, take_min}
use Rattle.byte_text.specs.Names.{Bytes}
use Rattle.outside.specs.Sides.{IfTold, Sides, side_of}
use Rattle.outside.specs.declared.sides.Side.{Side}
use Rattle.outside.specs.CrashLaws.{if_told}
use Rattle.log_sides.specs.Texts.{StandsFor, front_text}
use Rattle.append_log.proofs.append_logs.AppendLog.read.Goals as goal

-- what stands in front of the gate is read, as far as there is room
read_of : (front rest into read : Bytes) (from room count : ℕ) → from ≤ length front → room ≡ min (length into) (length front - from)
    → count ≡ min (length (take room into)) (length (front ++ rest) - from) → length read ≡ length (take room into) → take count read ≡ take count (drop from (front ++ rest))
    → take count (read ++ drop room into) ≡ take (length into) (drop from front)
read_of front rest into read from room count within is many long same =
    let left = length-drop from front in
    let all : count ≡ room = omega (arith, many, is, within, length-take room into, length-append front rest) in
    take-append-le count read (drop room into) (omega (arith, all, long, length-take room into, is))
    ∙ same ∙ ap (take count) (drop-append-le from front rest within)
    ∙ take-append-le count (drop from front) rest (omega (arith, all, is, left))
    ∙ ap (λ (n : ℕ). take n (drop from front)) (all ∙ is ∙ ap (min (length into)) (sym left))
    ∙ take_min (length into) (drop from front)

module _ (seen : Option Sides) (side : Side) (contents : Sides) (told : seen ≡ Some contents) (version generation : ℕ) (batches : List Bytes) (into read : Bytes) (from room : ℕ) where
  abbrev front : Bytes
  front = front_text version generation batches

  read_so : {E : Type 0} → (r : Result ℕ E) → from ≤ length front → room ≡ min (length into) (length front - from) → length read ≡ length (take room into) → StandsFor version generation batches (side_of contents side)
      → IfOk r (λ n. IfTold seen (λ s. n ≡ min (length (take room into)) (length (side_of s side) - from))) → IfOk r (λ n. IfTold seen (λ s. take n read ≡ take n (drop from (side_of s side))))
      → IfOk r (λ n. take n (read ++ drop room into) ≡ take (length into) (drop from front))
  read_so (Ok n) within is long stands count bytes =
      let many : n ≡ min (length (take room into)) (length (side_of contents side) - from) = if_told seen contents (λ t. n ≡ min (length (take room into)) (length (side_of t side) - from)) told count in
      let same : take n read ≡ take n (drop from (side_of contents side)) = if_told seen contents (λ t. take n read ≡ take n (drop from (side_of t side))) told bytes in
      read_of front (stands.gate ∷ stands.stale) into read from room n within is
      (many ∙ ap (λ (l : Bytes). min (length (take room into)) (length l - from)) stands.text) long (same ∙ ap (λ (l : Bytes). take n (drop from l)) stands.text)
  read_so (Err e) within is long stands count bytes = tt

pub returns-clause-bytes : goal.returns-clause-bytes
returns-clause-bytes g c batches is =
    let D = g.D.Disk in
    let log = c.args.self.now in
    let disk = c.args.disk.now in
    read_so (D.seen disk) log.side is.safe.contents is.safe.told log.version log.generation batches c.args.into.now c.read.new.into c.args.from c.min-room.result c.read.result
    (omega (arith, c.requires, is.place)) (omega (arith, c.min-room.ensures, is.place)) c.read.auto.into is.safe.has c.read.ensures.count c.read.ensures.bytes
