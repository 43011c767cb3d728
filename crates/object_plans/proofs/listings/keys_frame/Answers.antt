use Rattle.std.proofs.Common.{map, take, drop, ◌+◌}
use Rattle.std.proofs.lemmas.Result.{err_from_is_err_and}
use Rattle.byte_text.specs.Replies.{bulk}
use Rattle.object_plans.specs.Listings.{keys_met}
use Rattle.object_plans.specs.ListingLaws.{long_whole}
use Rattle.object_plans.proofs.KeysMet.{met_first}
use Rattle.object_plans.proofs.listings.keys_frame.Goals as goal

pub returns-in_err-push_key-clause-too_long : goal.returns-in_err-push_key-clause-too_long
returns-in_err-push_key-clause-too_long c =
    let pattern = c.args.pattern.now in
    let entries = c.args.objects.now in
    let n = c.loop-i.i + 1 in
    let p = err_from_is_err_and c.from_residual.result c.from_residual.ensures.1 in
    let long = long_whole (map bulk (keys_met pattern (take n entries))) (map bulk (keys_met pattern (drop n entries))) _ c.in_err-push_key.ensures.too_long in
    rw (p.1, p.2, met_first pattern entries n) long
