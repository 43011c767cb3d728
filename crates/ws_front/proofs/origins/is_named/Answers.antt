use Rattle.std.proofs.Common.{◌≡◌, ℕ, ◌+◌, ◌-◌, ◌<◌, ◌≤◌, true, false, ◌==◌, length, get_or, take, drop, ◌∙◌, arith, length-drop, get_or-drop}
use Rattle.std.proofs.lemmas.List.{drop_more, take_more}
use Rattle.std.proofs.lemmas.Bool.Decides.{nat_tests}
use Rattle.std.specs.List.{list_any}
use Rattle.byte_text.specs.Names.{Bytes, same}
use Rattle.ws_front.specs.Origins.{parts_from}
use Rattle.ws_front.proofs.origins.is_named.Goals as goal
use Rattle.ws_front.proofs.origins.is_named.Goals.{then-named-i-eq44+else-eq, else-named-i-eq44}

-- at a comma a new part begins
at_comma : (origin part bs : Bytes) (i : ℕ) → i < length bs → (get_or bs i 0 == 44) ≡ true → same origin part ≡ false
    → list_any (same origin) (parts_from part (drop i bs)) ≡ list_any (same origin) (parts_from (take (i + 1 - (i + 1)) (drop (i + 1) bs)) (drop (i + 1) bs))
at_comma origin part bs i inside test other =
    let none : i + 1 - (i + 1) ≡ 0 = omega arith in rw (drop_more bs i 0 inside, test, other, none)

-- any other byte extends the part
in_part : (origin bs : Bytes) (start i : ℕ) → start ≤ i → i < length bs → (get_or bs i 0 == 44) ≡ false
    → list_any (same origin) (parts_from (take (i - start) (drop start bs)) (drop i bs))
    ≡ list_any (same origin) (parts_from (take (i + 1 - start) (drop start bs)) (drop (i + 1) bs))
in_part origin bs start i ordered inside test =
    let more : i + 1 - start ≡ i - start + 1 = omega arith in
    let back : start + (i - start) ≡ i = omega arith in
    rw (drop_more bs i 0 inside, test, more, take_more (drop start bs) (i - start) 0 (omega (arith, length-drop start bs)), get_or-drop, back)

pub loop-i-preserved : goal.loop-i-preserved
loop-i-preserved c =
    elim c.if-named-i-eq44.branch [
      | then-named-i-eq44+else-eq w ↦
          rw w.start-is (omega arith, c.loop-i.invariant.1 ∙ at_comma c.args.origin.now _ c.args.named.now c.loop-i.i (omega arith) (grind (arith, nat_tests)) (grind arith))
      | else-named-i-eq44 w ↦
          rw w.start-is (omega arith, c.loop-i.invariant.1 ∙ in_part c.args.origin.now c.args.named.now c.loop-i.start c.loop-i.i c.loop-i.invariant.0 (omega arith) (grind (arith, nat_tests)))
    ]
