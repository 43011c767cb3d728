use Rattle.std.proofs.Common.{ℕ, false, ◌∙◌, map}
use Rattle.byte_text.specs.Replies.{array, bulk}
use Rattle.keyspace.specs.Entries.{objects_in}
use Rattle.object_plans.specs.Moves.{world_in}
use Rattle.object_plans.specs.Listings.{keys_met}
use Rattle.object_plans.specs.Answering.{replies_alone}
use Rattle.object_plans.proofs.KeysMet.{keyed}
use Rattle.object_plans.proofs.listings.plan_keys.Goals as goal

pub returns : goal.returns
returns c = λ (now : ℕ).
    let entries = c.args.objects.now in
    let pattern = c.args.pattern.now in
    let r = c.in_ok-frame.ensures (array (map bulk (keys_met pattern entries))) c.keys_frame.ensures.ok c.keys_frame.ensures.too_long in
    rw c.reply.ensures (replies_alone (objects_in entries) c.args.total c.requires.kept _ r.reply c.in_ok-frame.frame false (keyed (world_in entries) now pattern _ c.keys-count.ensures.distinct ∙ r.is) r.frame_is r.short)
