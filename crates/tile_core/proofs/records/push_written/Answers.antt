use Rattle.world_data.specs.declared.worlds.Change.TheVariants as change
use Rattle.tile_core.proofs.Pushing.{pushed_one}
use Rattle.tile_core.proofs.records.push_written.Goals as goal

pub returns-in-Ok : goal.returns-in-Ok
returns-in-Ok g c = λ is_loud.
    pushed_one (record { change = change.Put c.args.object.now; announced = is_loud }) c.args.into.now c.push_object.new.into c.in-Ok.ensures.text c.in-Ok.ensures.recorded
