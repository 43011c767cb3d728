-- What a reader of texts answers.
use Rattle.std.specs.Prelude.{◌≡◌, Result, Ok, Err}
use Rattle.geo_text.specs.declared.faults.GeoFault.{GeoFault}
use Rattle.geojson_model.specs.declared.faults.ShapeFault.{ShapeFault}
use Rattle.geojson_model.specs.declared.faults.ShapeFault.TheVariants.{Refused, Memory}

-- a fault of a reader is the fault that the text has, unless memory ran out
abbrev pub Fails : {Y : Type 0} → ShapeFault → Result Y GeoFault → Type 0
Fails (Refused fault) read = read ≡ Err fault
Fails Memory read = Unit {0}

-- an answer of a reader, seen by `view`, is what the text gives, unless memory ran out
abbrev pub Gives : {X Y : Type 0} → (X → Y) → Result X ShapeFault → Result Y GeoFault → Type 0
Gives view (Ok x) read = read ≡ Ok (view x)
Gives view (Err e) read = Fails e read
