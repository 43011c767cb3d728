use Rattle.std.proofs.Common.{◌≡◌, ◌≤◌, ◌∙◌, ℕ, true, refl, sym, ap, subst, List, length, arith}
use Rattle.std.specs.Prelude.{Some}
use Rattle.world_data.specs.declared.objects.Object.{Object}
use Rattle.fence_model.specs.Queries.{near_matches, page_ids}
use Rattle.collection.specs.Nearing.{IsNext}
use Rattle.search_query.specs.Pages.{is_past}
use Rattle.search_query.specs.PageLaws.{ids_first, enough_first, count_all}
use Rattle.search_query.specs.Found.{is_reached, found_behind, found_so_far}
use Rattle.search_query.proofs.Nearest.{none_given, no_page, only_none, is_out, is_in, split_given, all_found, given_all, all_given, none_reached, next_given, fewer_left, few_given}
use Rattle.search_query.proofs.near_pages.list_nearest.Goals as goal

pub loop-nearest-init : goal.loop-nearest-init
loop-nearest-init g c =
    let q = c.args.query.now in
    let objects = c.args.collection.now.objects in
    record {
      objects = c.in_ok-walk.ensures.objects;
      from = c.in_ok-walk.ensures.from;
      count = rw (c.in_ok-walk.ensures.given, none_given q c.args.at c.args.reach objects) refl;
      ids = rw (c.in_ok-walk.ensures.given, none_given q c.args.at c.args.reach objects, no_page q) c.requires.empty;
    }

pub returns-then-is_beyond-clause-count : goal.returns-then-is_beyond-clause-count
returns-then-is_beyond-clause-count g c =
    let q = c.args.query.now in
    let objects = c.args.collection.now.objects in
    let l = c.loop-nearest in
    let next : IsNext c.in-Some.distance c.loop-nearest.walk c.next.new.self c.next.new.into = rw c.in-Some.is at c.in_ok-distance.ensures.ok in
    let least = rw (l.invariant.from, l.invariant.objects) at next.least in
    let out = is_out (is_reached c.args.reach c.in-Some.distance) (sym c.is_beyond.ensures ∙ c.if-is_beyond.true) in
    let all = given_all q c.args.at c.args.reach objects l.walk.given c.in_ok-walk.ensures.by_id (none_reached q c.args.at c.args.reach objects l.walk.given c.in-Some.distance out least) in
    count_all q (near_matches q c.args.at c.args.reach objects) l.found (l.invariant.count ∙ ap length all)

pub returns-then-is_beyond-clause-ids : goal.returns-then-is_beyond-clause-ids
returns-then-is_beyond-clause-ids g c =
    let q = c.args.query.now in
    let objects = c.args.collection.now.objects in
    let l = c.loop-nearest in
    let next : IsNext c.in-Some.distance c.loop-nearest.walk c.next.new.self c.next.new.into = rw c.in-Some.is at c.in_ok-distance.ensures.ok in
    let least = rw (l.invariant.from, l.invariant.objects) at next.least in
    let out = is_out (is_reached c.args.reach c.in-Some.distance) (sym c.is_beyond.ensures ∙ c.if-is_beyond.true) in
    let all = given_all q c.args.at c.args.reach objects l.walk.given c.in_ok-walk.ensures.by_id (none_reached q c.args.at c.args.reach objects l.walk.given c.in-Some.distance out least) in
    l.invariant.ids ∙ ap (page_ids q) all

pub note_all-requires-clause-seen : goal.note_all-requires-clause-seen
note_all-requires-clause-seen g c = (found_so_far c.args.query.now c.args.at c.args.reach c.loop-nearest.walk.given c.args.collection.now.objects, c.loop-nearest.invariant.count)

pub note_all-requires-clause-room : goal.note_all-requires-clause-room
note_all-requires-clause-room g c =
    let q = c.args.query.now in
    let objects = c.args.collection.now.objects in
    let l = c.loop-nearest in
    let d = c.in-Some.distance in
    let next : IsNext c.in-Some.distance c.loop-nearest.walk c.next.new.self c.next.new.into = rw c.in-Some.is at c.in_ok-distance.ensures.ok in
    let least = rw (l.invariant.from, l.invariant.objects) at next.least in
    let listed = rw (l.invariant.from, l.invariant.objects) at next.listed in
    let few = few_given q c.args.at c.args.reach objects l.walk.given d next.farther least in
    let long = ap length listed in
    omega (arith, few, long, l.invariant.count, c.len-count.ensures.count)

pub loop-nearest-preserved : goal.loop-nearest-preserved
loop-nearest-preserved g c =
    let q = c.args.query.now in
    let objects = c.args.collection.now.objects in
    let l = c.loop-nearest in
    let d = c.in-Some.distance in
    let next : IsNext c.in-Some.distance c.loop-nearest.walk c.next.new.self c.next.new.into = rw c.in-Some.is at c.in_ok-distance.ensures.ok in
    let least = rw (l.invariant.from, l.invariant.objects) at next.least in
    let listed = rw (l.invariant.from, l.invariant.objects) at next.listed in
    let seen = found_so_far q c.args.at c.args.reach l.walk.given objects in
    let near = is_in (is_reached c.args.reach d) (sym c.is_beyond.ensures ∙ c.if-is_beyond.false) in
    let step = next_given q c.args.at c.args.reach objects l.walk.given d next.farther least near in
    record {
      objects = c.next.ensures.objects ∙ l.invariant.objects;
      from = c.next.ensures.from ∙ l.invariant.from;
      count = rw next.given (c.in_ok-found.ensures.count seen l.invariant.count ∙ ap (λ (os : List Object). length (found_behind q seen os)) listed ∙ ap length (sym step));
      ids = rw next.given (c.in_ok-found.ensures.ids seen l.invariant.count l.invariant.ids ∙ ap (λ (os : List Object). page_ids q (found_behind q seen os)) listed ∙ ap (page_ids q) (sym step));
    }

pub returns-then-is_past-clause-count : goal.returns-then-is_past-clause-count
returns-then-is_past-clause-count g c =
    let q = c.args.query.now in
    let objects = c.args.collection.now.objects in
    let l = c.loop-nearest in
    let d = c.in-Some.distance in
    let next : IsNext c.in-Some.distance c.loop-nearest.walk c.next.new.self c.next.new.into = rw c.in-Some.is at c.in_ok-distance.ensures.ok in
    let least = rw (l.invariant.from, l.invariant.objects) at next.least in
    let listed = rw (l.invariant.from, l.invariant.objects) at next.listed in
    let seen = found_so_far q c.args.at c.args.reach l.walk.given objects in
    let near = is_in (is_reached c.args.reach d) (sym c.is_beyond.ensures ∙ c.if-is_beyond.false) in
    let step = next_given q c.args.at c.args.reach objects l.walk.given d next.farther least near in
    let count = c.in_ok-found.ensures.count seen l.invariant.count ∙ ap (λ (os : List Object). length (found_behind q seen os)) listed ∙ ap length (sym step) in
    let are = sym (all_found q c.args.at c.args.reach objects c.in_ok-walk.ensures.by_id) ∙ split_given q c.args.at c.args.reach objects (Some d) in
    enough_first q (near_matches q c.args.at c.args.reach objects) _ _ c.in_ok-found.found are count (sym c.is_past.ensures ∙ c.if-is_past.true)

pub returns-then-is_past-clause-ids : goal.returns-then-is_past-clause-ids
returns-then-is_past-clause-ids g c =
    let q = c.args.query.now in
    let objects = c.args.collection.now.objects in
    let l = c.loop-nearest in
    let d = c.in-Some.distance in
    let next : IsNext c.in-Some.distance c.loop-nearest.walk c.next.new.self c.next.new.into = rw c.in-Some.is at c.in_ok-distance.ensures.ok in
    let least = rw (l.invariant.from, l.invariant.objects) at next.least in
    let listed = rw (l.invariant.from, l.invariant.objects) at next.listed in
    let seen = found_so_far q c.args.at c.args.reach l.walk.given objects in
    let near = is_in (is_reached c.args.reach d) (sym c.is_beyond.ensures ∙ c.if-is_beyond.false) in
    let step = next_given q c.args.at c.args.reach objects l.walk.given d next.farther least near in
    let count = c.in_ok-found.ensures.count seen l.invariant.count ∙ ap (λ (os : List Object). length (found_behind q seen os)) listed ∙ ap length (sym step) in
    let are = sym (all_found q c.args.at c.args.reach objects c.in_ok-walk.ensures.by_id) ∙ split_given q c.args.at c.args.reach objects (Some d) in
    let past = subst (λ (n : ℕ). is_past q n ≡ true) count (sym c.is_past.ensures ∙ c.if-is_past.true) in
    c.in_ok-found.ensures.ids seen l.invariant.count l.invariant.ids ∙ ap (λ (os : List Object). page_ids q (found_behind q seen os)) listed ∙ ap (page_ids q) (sym step) ∙ ids_first q (near_matches q c.args.at c.args.reach objects) _ _ are past

pub loop-nearest-smaller : goal.loop-nearest-smaller
loop-nearest-smaller g c =
    let q = c.args.query.now in
    let objects = c.args.collection.now.objects in
    let l = c.loop-nearest in
    let d = c.in-Some.distance in
    let next : IsNext c.in-Some.distance c.loop-nearest.walk c.next.new.self c.next.new.into = rw c.in-Some.is at c.in_ok-distance.ensures.ok in
    let least = rw (l.invariant.from, l.invariant.objects) at next.least in
    let listed = rw (l.invariant.from, l.invariant.objects) at next.listed in
    let long = ap length listed in
    rw next.given (fewer_left q c.args.at c.args.reach objects l.walk.given d next.farther least (subst (λ (n : ℕ). 1 ≤ n) long next.some))

pub returns-clause-count : goal.returns-clause-count
returns-clause-count g c =
    let q = c.args.query.now in
    let objects = c.args.collection.now.objects in
    let l = c.loop-nearest in
    let left = rw (only_none _ c.in_default.not-Some) at c.in_ok-distance.ensures.ok in
    let none = rw (l.invariant.from, l.invariant.objects) at left.0 in
    let all = given_all q c.args.at c.args.reach objects l.walk.given c.in_ok-walk.ensures.by_id (all_given q c.args.at c.args.reach objects l.walk.given none) in
    count_all q (near_matches q c.args.at c.args.reach objects) l.found (l.invariant.count ∙ ap length all)

pub returns-clause-ids : goal.returns-clause-ids
returns-clause-ids g c =
    let q = c.args.query.now in
    let objects = c.args.collection.now.objects in
    let l = c.loop-nearest in
    let left = rw (only_none _ c.in_default.not-Some) at c.in_ok-distance.ensures.ok in
    let none = rw (l.invariant.from, l.invariant.objects) at left.0 in
    let all = given_all q c.args.at c.args.reach objects l.walk.given c.in_ok-walk.ensures.by_id (all_given q c.args.at c.args.reach objects l.walk.given none) in
    l.invariant.ids ∙ ap (page_ids q) all
