use Rattle.std.specs.Int.{w64, from_be_bytes}
use Rattle.std.proofs.Common.{◌≡◌, ◌∙◌, ℕ, List, take, drop, inr, arith, refl, sym, ap}
use Rattle.append_log.proofs.Scanning.{no_length, too_long, begins, nine}
use Rattle.append_log.proofs.side_readers.Reader.pass.Goals as goal

pub returns-then-count-lt9-clause-gate : goal.returns-then-count-lt9-clause-gate
returns-then-count-lt9-clause-gate c version generation batches bytes gate count same =
    let s = c.args.self.now in
    inr (no_length version generation batches s.len s.at c.args.count c.saturating_add-place.result c.args.head.now bytes gate count same (omega (arith, c.if-count-eq0.false)) c.if-count-lt9.true c.if-head-ne1.false
    (omega (arith, c.saturating_add-place.ensures, gate.whole, count, c.if-count-eq0.false)))

pub returns-then-n-saturating_sub-clause-gate : goal.returns-then-n-saturating_sub-clause-gate
returns-then-n-saturating_sub-clause-gate c version generation batches bytes gate count same =
    let s = c.args.self.now in
    let head = c.args.head.now in
    let whole : c.args.count ≡ 9 = omega arith in
    inr (too_long version generation batches s.len s.at c.saturating_add-place.result c.from_be_bytes-n.result head bytes gate (omega (arith, count, whole)) (ap (λ (j : ℕ). take j head) (sym whole) ∙ same ∙ ap (λ (j : ℕ). take j (drop s.at bytes)) whole)
    c.told-head c.if-head-ne1.false (c.from_be_bytes-n.ensures ∙ ap (λ (l : List ℕ). from_be_bytes w64 l) (nine head c.told-head)) (omega (arith, c.if-n-saturating_sub.true, c.saturating_sub.ensures, c.saturating_add-from.ensures, gate.whole, count, whole)) (omega (arith, c.saturating_add-place.ensures, gate.whole, count, whole)))

pub returns-clause-gate : goal.returns-clause-gate
returns-clause-gate c version generation batches bytes gate count same =
    let s = c.args.self.now in
    let head = c.args.head.now in
    let whole : c.args.count ≡ 9 = omega arith in (
      refl,
      begins version generation batches s.len s.at c.saturating_add-from.result c.from_be_bytes-n.result head bytes gate (omega (arith, count, whole)) (ap (λ (j : ℕ). take j head) (sym whole) ∙ same ∙ ap (λ (j : ℕ). take j (drop s.at bytes)) whole)
          c.told-head c.if-head-ne1.false c.fits-head (c.from_be_bytes-n.ensures ∙ ap (λ (l : List ℕ). from_be_bytes w64 l) (nine head c.told-head)) (omega (arith, c.if-n-saturating_sub.false, c.saturating_sub.ensures, c.saturating_add-from.ensures, gate.whole, count, whole)) (omega (arith, c.saturating_add-from.ensures, gate.whole, count, whole)),
    )
