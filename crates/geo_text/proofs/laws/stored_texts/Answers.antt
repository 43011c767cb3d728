use Rattle.std.proofs.Common.{ap}
use Rattle.geo_text.specs.Texts.{point_text, bounds_text, walked, stored_or, shape_of}
use Rattle.geo_text.specs.StoredLaws.{point_back, bounds_back, others_none}
use Rattle.geo_text.proofs.laws.stored_texts.Goals as goal

pub returns-clause-points : goal.returns-clause-points
unfolding shape_of
returns-clause-points c = λ p h. ap (λ s. stored_or s (walked (point_text p))) (point_back p h)

pub returns-clause-bounds : goal.returns-clause-bounds
unfolding shape_of
returns-clause-bounds c = λ b h. ap (λ s. stored_or s (walked (bounds_text b))) (bounds_back b h)

pub returns-clause-others : goal.returns-clause-others
unfolding shape_of
returns-clause-others c = λ text points boxes. ap (λ s. stored_or s (walked text)) (others_none text points boxes)
