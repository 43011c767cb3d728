use Rattle.std.proofs.Common.{rules}
use Rattle.serde_json.specs.View.{view}
use Rattle.geojson_model.proofs.Reading.{walked_json, no_json}
use Rattle.geojson_model.proofs.shapes.walked.Goals as goal

pub returns-in-Ok : goal.returns-in-Ok
returns-in-Ok c = walked_json c.args.text.now (view c.in-Ok.value) c.shape_of_value.result c.in-Ok.ensures.ok.0 c.in-Ok.ensures.ok.1 c.shape_of_value.ensures

pub returns-else-is_memory : goal.returns-else-is_memory
returns-else-is_memory c = no_json c.args.text.now (c.in-Err.ensures.err (search rules))
