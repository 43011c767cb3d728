-- How far the log is rewritten behind deeds.
use Rattle.std.specs.Prelude.{◌≡◌, ℕ, false, List, [], ◌∷◌}
use Rattle.world_model.specs.Halls.{Hall}
use Rattle.world_model.specs.Histories.{Step, opening_hall}
use Rattle.durable_core.specs.Histories.{Writing, is_failed_step, written}
use Rattle.durable_core.specs.Upgrading.{upgraded}
use Rattle.durable_core.specs.declared.rewritings.Rewriting.TheVariants.{Idle}
use Rattle.replay_run.specs.Traces.{Deed, opens, does}

-- From a hall on, with a log so far, over deeds of it. Behind a step in which the log failed a log may stand at any place; the hall has stopped
-- then. The log of a disk that is opened again is not rewritten, and of the generation that was left, or of the next one where its version is an
-- older one.
abbrev pub Rewrites : Hall → Writing → List Deed → Hall → Writing → Type 0
Rewrites h w [] last end = (last ≡ h) × (end ≡ w)
Rewrites h w (does event outcome ∷ deeds) last end =
    (next : Hall) × (mid : Writing) × Step h event outcome next × (is_failed_step event outcome ≡ false → mid ≡ written h event outcome w)
    × Rewrites next mid deeds last end
Rewrites h w (opens world logged ∷ deeds) last end =
    (version : ℕ) × Rewrites (opening_hall world logged) (record { rewriting = Idle; generation = upgraded version w.generation }) deeds last end
