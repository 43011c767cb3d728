use Rattle.std.proofs.Common.{◌≡◌, ◌++◌, ◌∷◌, [], ◌+◌, true, false, sym, ◌∙◌, map, take, arith}
use Rattle.std.proofs.lemmas.List.{map-append}
use Rattle.std.proofs.lemmas.Result.{IfOk-weaker, IfErr-weaker}
use Rattle.byte_text.specs.Globs.{glob_meets}
use Rattle.byte_text.specs.Replies.{bulk}
use Rattle.object_plans.specs.Listings.{keys_met}
use Rattle.object_plans.proofs.KeysMet.{met, not_met, empty}
use Rattle.object_plans.specs.ListingLaws.{items_more, items_long, fault_of}
use Rattle.object_plans.proofs.listings.push_key.Goals as goal
use Rattle.object_plans.proofs.listings.push_key.Goals.{else-count-gt0-via-then-count-gt0+else-glob_meets, else-count-gt0-via-else-count-gt0}

step : (c : goal.After-push_name) → keys_met c.args.pattern.now (take (c.args.i + 1) c.args.objects.now) ≡ keys_met c.args.pattern.now (take c.args.i c.args.objects.now) ++ c.key-key.result.now ∷ []
step c =
    let meets : glob_meets c.args.pattern.now c.key-key.result.now ≡ true = rw (← c.bytes.ensures.same, ← c.bytes-then-count-gt0.ensures.same) (sym c.glob_meets.ensures ∙ c.if-glob_meets.true) in
    met c.args.pattern.now c.key-key.result.now c.args.objects.now c.args.i c.count.result c.requires.within c.key-key.ensures c.count.ensures (omega (arith, c.if-count-gt0.true)) meets

pub returns-then-glob_meets-clause-ok : goal.returns-then-glob_meets-clause-ok
returns-then-glob_meets-clause-ok c =
    let before = keys_met c.args.pattern.now (take c.args.i c.args.objects.now) in
    rw (step c, map-append bulk before (c.key-key.result.now ∷ [])) (IfOk-weaker c.push_name.result _ _ (λ u is. items_more (map bulk before) (bulk c.key-key.result.now) c.args.keys.now c.push_name.new.self c.requires.items is) c.push_name.ensures.ok)

pub returns-then-glob_meets-clause-too_long : goal.returns-then-glob_meets-clause-too_long
returns-then-glob_meets-clause-too_long c =
    let before = keys_met c.args.pattern.now (take c.args.i c.args.objects.now) in
    rw (step c, map-append bulk before (c.key-key.result.now ∷ [])) (IfErr-weaker c.push_name.result _ _ (λ f is. fault_of _ f (λ e. items_long (map bulk before) (bulk c.key-key.result.now) c.args.keys.now c.requires.items (is e))) c.push_name.ensures.too_long)

pub returns-else-count-gt0-clause-ok : goal.returns-else-count-gt0-clause-ok
returns-else-count-gt0-clause-ok c = elim c.else-count-gt0.branch [
  | else-count-gt0-via-then-count-gt0+else-glob_meets w ↦
      let meets : glob_meets c.args.pattern.now c.key-key.result.now ≡ false = rw (← w.bytes.ensures.same, ← w.bytes-then-count-gt0.ensures.same) (sym w.glob_meets.ensures ∙ w.if-glob_meets.false) in
      rw (not_met c.args.pattern.now c.key-key.result.now c.args.objects.now c.args.i c.count.result c.requires.within c.key-key.ensures c.count.ensures (omega (arith, w.if-count-gt0.true)) meets) c.requires.items
  | else-count-gt0-via-else-count-gt0 w ↦
      rw (empty c.args.pattern.now c.key-key.result.now c.args.objects.now c.args.i c.count.result c.requires.within c.key-key.ensures c.count.ensures (omega (arith, w.if-count-gt0.false))) c.requires.items
]
