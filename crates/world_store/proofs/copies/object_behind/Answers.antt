-- The next one of the key, or the first one of the next key.
use Rattle.std.proofs.Common.{sym, ◌∙◌}
use Rattle.keyspace.specs.Entries.{objects_in}
use Rattle.world_store.proofs.NextKeys.{behind_found, behind_next_key}
use Rattle.world_store.proofs.copies.object_behind.Goals as goal

pub returns-in-Some : goal.returns-in-Some
returns-in-Some c = sym (behind_found c.args.key.now c.args.id.now (objects_in c.args.objects.now) c.in-Some.object.now c.requires (sym c.in-Some.ensures))

pub returns-in-None : goal.returns-in-None
returns-in-None c = c.first_of_next.ensures ∙ sym (behind_next_key c.args.key.now c.args.id.now (objects_in c.args.objects.now) c.requires (sym c.in-None.ensures))
