-- A fault goes through whatever is done with what a walk finds.
use Rattle.std.proofs.Common.{◌≡◌, Result, Ok, Err, ap}
use Rattle.geo_text.specs.declared.faults.GeoFault.{GeoFault}
use Rattle.geo_text.specs.Walks.{◌>>=◌}
use Rattle.geojson_model.specs.declared.faults.ShapeFault.{ShapeFault}
use Rattle.geojson_model.specs.declared.faults.ShapeFault.TheVariants.{Refused, Memory}
use Rattle.geojson_model.specs.Answers.{Fails}

pub ok_is : {A : Type 0} {a b : A} → ◌≡◌ {A = Result A GeoFault} (Ok a) (Ok b) → a ≡ b
ok_is e = cc (e)

pub not_ok : {A : Type 0} {f : GeoFault} {a : A} → ◌≡◌ {A = Result A GeoFault} (Err f) (Ok a) → ⊥
not_ok e = absurd (cc (e))

pub not_err : {A : Type 0} {f : GeoFault} {a : A} → ◌≡◌ {A = Result A GeoFault} (Ok a) (Err f) → ⊥
not_err e = absurd (cc (e))

module _ {A B : Type 0} where
  pub carried : (e : ShapeFault) (r : Result A GeoFault) (s : Result B GeoFault) → ((f : GeoFault) → r ≡ Err f → s ≡ Err f) → Fails e r → Fails e s
  carried (Refused fault) r s go h = go fault h
  carried Memory r s go h = tt

  pub bound : (e : ShapeFault) (r : Result A GeoFault) (f : A → Result B GeoFault) → Fails e r → Fails e (r >>= f)
  bound e r f h = carried e r (r >>= f) (λ x is. ap (λ s. s >>= f) is) h
