use Rattle.geojson_model.specs.Stored.{ring_form}
use Rattle.geojson_model.proofs.stored.stored_bounds.Goals as goal

pub returns-in_default-clause-only : goal.returns-in_default-clause-only
returns-in_default-clause-only c = λ b inside is. (c.in_default.ensures.only (ring_form b) is).0
