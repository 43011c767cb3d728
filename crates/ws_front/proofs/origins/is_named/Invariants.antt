use Rattle.std.proofs.Common.{◌≡◌, ◌-◌, ◌≤◌, take, drop}
use Rattle.std.specs.List.{list_any}
use Rattle.byte_text.specs.Names.{same}
use Rattle.ws_front.specs.Origins.{is_named, parts_from}
use Rattle.ws_front.proofs.origins.is_named.Given as goal

abbrev pub invariant-loop-i : goal.invariant-loop-i
invariant-loop-i l =
    (l.start ≤ l.i)
    × (is_named l.origin l.named ≡ list_any (same l.origin) (parts_from (take (l.i - l.start) (drop l.start l.named)) (drop l.i l.named)))
