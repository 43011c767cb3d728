use Rattle.geojson_model.proofs.StoredNumbers.{stripped, behind_piece}
use Rattle.geojson_model.proofs.stored.behind.Goals as goal

pub returns-clause-found : goal.returns-clause-found
returns-clause-found c = stripped c.args.piece.now c.args.text.now c.strip_prefix.result c.strip_prefix.ensures.cases

pub returns-clause-only : goal.returns-clause-only
returns-clause-only c = λ rest is. behind_piece c.args.piece.now c.args.text.now rest c.strip_prefix.result is c.strip_prefix.ensures.cases
