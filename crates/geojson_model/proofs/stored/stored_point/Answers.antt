use Rattle.std.proofs.Common.{[], ◌∷◌}
use Rattle.geojson_model.specs.Stored.{position_then}
use Rattle.geojson_model.proofs.stored.stored_point.Goals as goal

pub returns-in_default-clause-only : goal.returns-in_default-clause-only
returns-in_default-clause-only c = λ p inside is. (c.in_default.ensures.only (position_then p (125 ∷ [])) is).0
