use Rattle.std.proofs.Common.{rules, ◌≡◌, [], ◌∷◌}
use Rattle.planar_geom.specs.Points.{pt}
use Rattle.geojson_model.proofs.StoredTexts.{corners_are, beside_in, above_in, behind_low, behind_beside, behind_high, behind_above, behind_last}
use Rattle.geojson_model.proofs.stored.ring_box.Goals as goal

pub returns-in_default-next_position-clause-only : goal.returns-in_default-next_position-clause-only
returns-in_default-next_position-clause-only c = λ b inside is.
    let low = c.in-Some.ensures.only b.min (behind_low b) inside.min_in_plane is in
    (c.in_default-next_position.ensures.only (pt b.max.x b.min.y) (behind_beside b) (beside_in b inside) (search (rules, low.1.1))).0

pub returns-in_default-next_position-2-clause-only : goal.returns-in_default-next_position-2-clause-only
returns-in_default-next_position-2-clause-only c = λ b inside is.
    let low = c.in-Some.ensures.only b.min (behind_low b) inside.min_in_plane is in
    let beside = c.in-Some-next_position.ensures.only (pt b.max.x b.min.y) (behind_beside b) (beside_in b inside) (search (rules, low.1.1)) in
    (c.in_default-next_position-2.ensures.only b.max (behind_high b) inside.max_in_plane (search (rules, beside.1.1))).0

pub returns-in_default-next_position-3-clause-only : goal.returns-in_default-next_position-3-clause-only
returns-in_default-next_position-3-clause-only c = λ b inside is.
    let low = c.in-Some.ensures.only b.min (behind_low b) inside.min_in_plane is in
    let beside = c.in-Some-next_position.ensures.only (pt b.max.x b.min.y) (behind_beside b) (beside_in b inside) (search (rules, low.1.1)) in
    let high = c.in-Some-next_position-2.ensures.only b.max (behind_high b) inside.max_in_plane (search (rules, beside.1.1)) in
    (c.in_default-next_position-3.ensures.only (pt b.min.x b.max.y) (behind_above b) (above_in b inside) (search (rules, high.1.1))).0

pub returns-in_default-next_position-4-clause-only : goal.returns-in_default-next_position-4-clause-only
returns-in_default-next_position-4-clause-only c = λ b inside is.
    let low = c.in-Some.ensures.only b.min (behind_low b) inside.min_in_plane is in
    let beside = c.in-Some-next_position.ensures.only (pt b.max.x b.min.y) (behind_beside b) (beside_in b inside) (search (rules, low.1.1)) in
    let high = c.in-Some-next_position-2.ensures.only b.max (behind_high b) inside.max_in_plane (search (rules, beside.1.1)) in
    let above = c.in-Some-next_position-3.ensures.only (pt b.min.x b.max.y) (behind_above b) (above_in b inside) (search (rules, high.1.1)) in
    (c.in_default-next_position-4.ensures.only b.min behind_last inside.min_in_plane (search (rules, above.1.1))).0

pub returns-then-is-clause-only : goal.returns-then-is-clause-only
returns-then-is-clause-only c = λ b inside is.
    let low = c.in-Some.ensures.only b.min (behind_low b) inside.min_in_plane is in
    let beside = c.in-Some-next_position.ensures.only (pt b.max.x b.min.y) (behind_beside b) (beside_in b inside) (search (rules, low.1.1)) in
    let high = c.in-Some-next_position-2.ensures.only b.max (behind_high b) inside.max_in_plane (search (rules, beside.1.1)) in
    let above = c.in-Some-next_position-3.ensures.only (pt b.min.x b.max.y) (behind_above b) (above_in b inside) (search (rules, high.1.1)) in
    let last = c.in-Some-next_position-4.ensures.only b.min behind_last inside.min_in_plane (search (rules, above.1.1)) in
    c.box_with.ensures.only b inside (corners_are b _ _ _ _ _ (search (rules, low.1.0)) (search (rules, beside.1.0)) (search (rules, high.1.0)) (search (rules, above.1.0)) (search (rules, last.1.0)))

pub returns-else-is-clause-only : goal.returns-else-is-clause-only
returns-else-is-clause-only c = λ b inside is.
    let low = c.in-Some.ensures.only b.min (behind_low b) inside.min_in_plane is in
    let beside = c.in-Some-next_position.ensures.only (pt b.max.x b.min.y) (behind_beside b) (beside_in b inside) (search (rules, low.1.1)) in
    let high = c.in-Some-next_position-2.ensures.only b.max (behind_high b) inside.max_in_plane (search (rules, beside.1.1)) in
    let above = c.in-Some-next_position-3.ensures.only (pt b.min.x b.max.y) (behind_above b) (above_in b inside) (search (rules, high.1.1)) in
    let last = c.in-Some-next_position-4.ensures.only b.min behind_last inside.min_in_plane (search (rules, above.1.1)) in
    let here : c.in-Some-next_position-4.rest.now ≡ 93 ∷ 93 ∷ 125 ∷ [] = search (rules, last.1.1) in
    search (rules, here)
