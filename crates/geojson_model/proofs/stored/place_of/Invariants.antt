use Rattle.geojson_model.proofs.StoredNumbers.{NoneBefore}
use Rattle.geojson_model.proofs.stored.place_of.Given as goal

abbrev pub invariant-loop-at : goal.invariant-loop-at
invariant-loop-at l = NoneBefore l.bytes l.end l.at
