use Rattle.std.proofs.Common.{◌≡◌, true, false, refl, sym, ◌∙◌}
use Rattle.std.specs.List.{list_any}
use Rattle.world_data.specs.Worlds.{has_key}
use Rattle.world_model.specs.Refusals.{refusal_reply}
use Rattle.world_model.specs.declared.faults.Refusal.TheVariants as refusal
use Rattle.keyspace.specs.Entries.{objects_in}
use Rattle.object_plans.specs.Moves.{world_in}
use Rattle.object_plans.specs.Answering.{answers}
use Rattle.object_plans.proofs.Changing.{lacks_id, lacks_key}
use Rattle.object_plans.proofs.changes.plan_missing.Goals as goal

pub returns-then-has_key : goal.returns-then-has_key
returns-then-has_key c =
    let some : list_any (has_key c.args.key.now) (objects_in c.args.objects.now) ≡ true = sym c.has_key.ensures ∙ c.if-has_key.true in
    answers (objects_in c.args.objects.now) c.args.total c.requires _ (refusal_reply refusal.IdNotFound) _ refl c.say_refusal.ensures _ (lacks_id (world_in c.args.objects.now) c.args.key.now some)

pub returns-else-has_key : goal.returns-else-has_key
returns-else-has_key c =
    let none : list_any (has_key c.args.key.now) (objects_in c.args.objects.now) ≡ false = sym c.has_key.ensures ∙ c.if-has_key.false in
    answers (objects_in c.args.objects.now) c.args.total c.requires _ (refusal_reply refusal.KeyNotFound) _ refl c.say_refusal-else-has_key.ensures _ (lacks_key (world_in c.args.objects.now) c.args.key.now none)
