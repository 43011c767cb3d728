use Rattle.std.proofs.Common.{length, refl}
use Rattle.std.specs.Fmt.{signed_decimal}
use Rattle.geojson_model.proofs.StoredNumbers.{without_number, number_found, not_there, the_number}
use Rattle.geojson_model.proofs.stored.number_until.Goals as goal

pub returns-in-None-clause-only : goal.returns-in-None-clause-only
returns-in-None-clause-only c = λ z rest fits e.
    absurd (not_there (length (signed_decimal z)) (c.in-None.ensures.first (signed_decimal z) rest (without_number c.args.end z c.requires fits) e))

pub returns-in-Ok-clause-only : goal.returns-in-Ok-clause-only
returns-in-Ok-clause-only c = λ z rest fits e.
    let h = number_found c.args.bytes.now c.split_at.result.0.now c.split_at.result.1.now c.args.end c.in-Some.at z rest (c.in-Some.ensures.first (signed_decimal z) rest (without_number c.args.end z c.requires fits) e) e c.split_at.ensures.front c.split_at.ensures.back in
    ((the_number c.in-Ok.z z fits (c.in-Ok.ensures.exact z fits h.0), h.1), refl)

pub returns-in-Err-clause-only : goal.returns-in-Err-clause-only
returns-in-Err-clause-only c = λ z rest fits e.
    let h = number_found c.args.bytes.now c.split_at.result.0.now c.split_at.result.1.now c.args.end c.in-Some.at z rest (c.in-Some.ensures.first (signed_decimal z) rest (without_number c.args.end z c.requires fits) e) e c.split_at.ensures.front c.split_at.ensures.back in
    absurd (cc (c.in-Err.ensures.exact z fits h.0))
