-- Pages of what a search found, and what searches answer.
use Rattle.std.proofs.Common.{◌≡◌, ◌≢◌, ◌+◌, ◌≤◌, ℕ, Bool, true, false, refl, sym, ◌∙◌, ap, List, [], ◌∷◌, ◌++◌, length, take, drop, map, length-append, arith}
use Rattle.std.specs.Prelude.{filter, find, reverse, slice_get, Option, Some, None, if◌then◌else◌}
use Rattle.std.proofs.lemmas.List.{reverse-append, append-nil, take-append-drop}
use Rattle.std.proofs.lemmas.Grind.{flat_map-append}
use Rattle.byte_text.specs.Names.{Bytes, before}
use Rattle.byte_text.specs.Replies.{piece_text, frame_text, array, number}
use Rattle.byte_text.specs.declared.replies.Piece.{Piece}
use Rattle.byte_text.specs.declared.replies.Piece.TheVariants as piece
use Rattle.reply_text.specs.declared.frames.ReplyFault.{ReplyFault}
use Rattle.reply_text.specs.declared.frames.ReplyFault.TheVariants as fault
use Rattle.std.specs.List.{All, AllByRecursion, list_all}
use Rattle.std.proofs.lemmas.List.Elements.{All-take, All-drop, All-filter, filter_map-append, All-append, All-cons, All-nil, All-from_recursion, recursion_from_All}
use Rattle.planar_geom.specs.Points.{Point}
use Rattle.planar_geom.specs.declared.shapes.Area.{Area}
use Rattle.planar_geom.specs.declared.shapes.Area.TheVariants.{Figure}
use Rattle.fence_model.specs.Queries.{matches, near_matches, nearer, within_reach, in_order, meets_query, page_items, page_cursor, is_count, IsPageOf}
use Rattle.world_data.specs.Worlds.{object_at, objects_of}
use Rattle.world_model.specs.Effects.{effect, missing, rule_over, says, within_reply}
use Rattle.world_model.specs.declared.search_commands.AreaWords.TheVariants.{Given, Of}
use Rattle.object_plans.specs.Answering.{missing_fits}
use Rattle.ordered_lists.specs.Lists.{insert_by, sorted_by}
use Rattle.world_model.specs.Replies.{item_reply, page_reply}
use Rattle.world_data.specs.declared.worlds.World.{World}
use Rattle.world_model.specs.declared.commands.Command.TheVariants as command
use Rattle.world_model.specs.declared.search_commands.SearchCommand.TheVariants as of_search
use Rattle.world_data.specs.declared.queries.Page.{Page}
use Rattle.world_data.specs.declared.queries.Shown.{Shown}
use Rattle.world_data.specs.declared.queries.Shown.TheVariants as shown
use Rattle.world_data.specs.declared.objects.Object.{Object}
use Rattle.world_data.specs.declared.queries.Query.{Query}
use Rattle.world_data.specs.declared.queries.Rule.{Rule}
use Rattle.world_data.specs.declared.queries.Rule.TheVariants as rule
use Rattle.collection.specs.Objects.{id_before, has_id, are_by_id}
use Rattle.byte_text.specs.ListLaws.{take_next}
use Rattle.byte_text.specs.ByteOrder.{other_before, same_refl}
use Rattle.ordered_lists.specs.Reading.{both_of}
use Rattle.object_plans.specs.ListingLaws.{first_shorter}
use Rattle.object_plans.specs.Listings.{joined, IsTooLong}
use Rattle.search_plans.specs.Pages.{listing, objects_of_ids, IsFirst}

-- the last item of a page is no longer than it
inner_shorter : (head reply : List Piece) → length (frame_text reply) ≤ length (frame_text (array (head ∷ reply ∷ [])))
inner_shorter head reply =
    let behind = flat_map-append piece_text head (reply ++ []) ∙ ap (λ r. frame_text head ++ frame_text r) (append-nil reply) in
    let long = ap length behind ∙ length-append (frame_text head) (frame_text reply) in
    let whole = length-append (piece_text (piece.List 2)) (frame_text (joined (head ∷ reply ∷ []))) in
    omega (long, whole, arith)

-- a page is too long where its first items are
pub long_page : (head : List Piece) (first rest : List (List Piece)) (f : ReplyFault) → IsTooLong (joined first) f → IsTooLong (array (head ∷ array (first ++ rest) ∷ [])) f
long_page head first rest fault.TooLong long = omega (arith, long, first_shorter first rest, inner_shorter head (array (first ++ rest)))
long_page head first rest fault.Memory long = tt

first_behind : (o : Object) (objects all : List Object) → list_all (id_before o) objects ≡ true → AllByRecursion (IsFirst all) objects → AllByRecursion (IsFirst (o ∷ all)) objects
first_behind o [] all below firsts = tt
first_behind o (p ∷ objects) all below firsts =
    let both = both_of (before o.id p.id) (list_all (id_before o) objects) below in
    (rw (other_before o.id p.id both.0) firsts.0, first_behind o objects all both.1 firsts.1)

-- of objects by id each is the first of its id
all_first : (objects : List Object) → are_by_id objects ≡ true → AllByRecursion (IsFirst objects) objects
all_first [] by_id = tt
all_first (o ∷ objects) by_id =
    let both = both_of (list_all (id_before o) objects) (are_by_id objects) by_id in
    (rw (same_refl o.id) refl, first_behind o objects objects both.0 (all_first objects both.1))

all_reverse : (P : Object → Type 0) (objects : List Object) → AllByRecursion P objects → All P (reverse objects)
all_reverse P [] all = All-nil P
all_reverse P (o ∷ objects) all = rw (reverse-append (o ∷ []) objects) (All-append P (reverse objects) (o ∷ []) (all_reverse P objects all.1) (All-cons P o [] all.0 (All-nil P)))

all_in_order : (P : Object → Type 0) (r : Rule) (objects : List Object) → All P objects → All P (in_order r objects)
all_in_order P rule.Descending objects all = all_reverse P objects (recursion_from_All P objects all)
all_in_order P rule.All objects all = all
all_in_order P (rule.InArea kind a) objects all = all
all_in_order P rule.Nearest objects all = all

-- each object that is found by id or by area is the first of its id
pub matches_first : (q : Query) (objects : List Object) → are_by_id objects ≡ true → All (IsFirst objects) (matches q objects)
matches_first q objects by_id = all_in_order (IsFirst objects) q.rule (filter (meets_query q) objects)
    (All-filter (meets_query q) (IsFirst objects) objects (All-from_recursion (IsFirst objects) objects (all_first objects by_id)))

all_insert_by : (P : Object → Type 0) (lt : Object → Object → Bool) (o : Object) (objects : List Object) → P o → AllByRecursion P objects → AllByRecursion P (insert_by lt o objects)
all_insert_by P lt o [] here all = (here, tt)
all_insert_by P lt o (p ∷ objects) here all = put (lt p o) (all_insert_by P lt o objects here all.1)
  where
    put : (b : Bool) → AllByRecursion P (insert_by lt o objects) → AllByRecursion P (if b then p ∷ insert_by lt o objects else o ∷ p ∷ objects)
    put true rest = (all.0, rest)
    put false rest = (here, all)

all_sorted_by : (P : Object → Type 0) (lt : Object → Object → Bool) (objects : List Object) → AllByRecursion P objects → AllByRecursion P (sorted_by lt objects)
all_sorted_by P lt [] all = tt
all_sorted_by P lt (o ∷ objects) all = all_insert_by P lt o (sorted_by lt objects) all.0 (all_sorted_by P lt objects all.1)

-- so is each that is found by distance
pub near_first : (q : Query) (p : Point) (reach : Option ℕ) (objects : List Object) → are_by_id objects ≡ true → All (IsFirst objects) (near_matches q p reach objects)
near_first q p reach objects by_id =
    let met = All-filter (meets_query q) (IsFirst objects) objects (All-from_recursion (IsFirst objects) objects (all_first objects by_id)) in
    let near = All-filter (within_reach p reach) (IsFirst objects) (filter (meets_query q) objects) met in
    let found = filter (within_reach p reach) (filter (meets_query q) objects) in
    All-from_recursion (IsFirst objects) (sorted_by (nearer p) found) (all_sorted_by (IsFirst objects) (nearer p) found (recursion_from_All (IsFirst objects) found near))

all_listed : (objects found : List Object) → AllByRecursion (IsFirst objects) found → objects_of_ids objects (map (λ o. o.id) found) ≡ found
all_listed objects [] firsts = refl
all_listed objects (o ∷ found) firsts = rw firsts.0 (ap (λ os. o ∷ os) (all_listed objects found firsts.1))

-- an id more
pub id_more : (objects : List Object) (ids : List Bytes) (i : ℕ) (id : Bytes) (o : Object) → slice_get ids i ≡ Some id → find (has_id id) objects ≡ Some o → objects_of_ids objects (take (i + 1) ids) ≡ objects_of_ids objects (take i ids) ++ o ∷ []
id_more objects ids i id o at there =
    let alone : objects_of_ids objects (id ∷ []) ≡ o ∷ [] = rw there refl in
    ap (objects_of_ids objects) (take_next ids i id at) ∙ filter_map-append (λ n. find (has_id n) objects) (take i ids) (id ∷ []) ∙ ap (λ os. objects_of_ids objects (take i ids) ++ os) alone

pub id_lost : (objects : List Object) (ids : List Bytes) (i : ℕ) (id : Bytes) → slice_get ids i ≡ Some id → find (has_id id) objects ≡ None → objects_of_ids objects (take (i + 1) ids) ≡ objects_of_ids objects (take i ids)
id_lost objects ids i id at absent =
    let alone : objects_of_ids objects (id ∷ []) ≡ [] = rw absent refl in
    ap (objects_of_ids objects) (take_next ids i id at) ∙ filter_map-append (λ n. find (has_id n) objects) (take i ids) (id ∷ []) ∙ ap (λ os. objects_of_ids objects (take i ids) ++ os) alone ∙ append-nil (objects_of_ids objects (take i ids))

-- the objects of the first ids come first
pub ids_first : (objects : List Object) (ids : List Bytes) (n : ℕ) → objects_of_ids objects ids ≡ objects_of_ids objects (take n ids) ++ objects_of_ids objects (drop n ids)
ids_first objects ids n = ap (objects_of_ids objects) (sym (take-append-drop n ids)) ∙ filter_map-append (λ id. find (has_id id) objects) (take n ids) (drop n ids)

not_count : (s : Shown) → s ≢ shown.Count → is_count s ≡ false
not_count shown.Count other = absurd (other refl)
not_count shown.Ids other = refl
not_count shown.Objects other = refl
not_count shown.Points other = refl
not_count shown.Bounds other = refl

-- the reply of a page that is no number
page_of : (q : Query) (objects : List Object) (s : Shown) → s ≢ shown.Count → let r : Query = record q { shown = s } in
    page_reply r objects ≡ array (number (page_cursor r objects) ∷ array (map (item_reply r) (page_items r objects)) ∷ [])
page_of q objects shown.Count other = absurd (other refl)
page_of q objects shown.Ids other = refl
page_of q objects shown.Objects other = refl
page_of q objects shown.Points other = refl
page_of q objects shown.Bounds other = refl

pub page_is : (q : Query) (objects : List Object) → q.shown ≢ shown.Count → page_reply q objects ≡ array (number (page_cursor q objects) ∷ array (map (item_reply q) (page_items q objects)) ∷ [])
page_is q objects other = page_of q objects q.shown other

-- the listing of a page that is no number is its reply
pub page_listed : (q : Query) (objects found : List Object) (page : Page) → All (IsFirst objects) found → IsPageOf q found page → q.shown ≢ shown.Count → listing q page.cursor (objects_of_ids objects page.ids) ≡ page_reply q found
page_listed q objects found page firsts paged other =
    let no = not_count q.shown other in
    let cursor : page.cursor ≡ page_cursor q found = paged.cursor ∙ rw no refl in
    let ids : page.ids ≡ map (λ o. o.id) (page_items q found) = paged.ids ∙ rw no refl in
    let on_page = All-take (IsFirst objects) q.limit (drop q.cursor found) (All-drop (IsFirst objects) q.cursor found firsts) in
    let items : objects_of_ids objects page.ids ≡ page_items q found = ap (objects_of_ids objects) ids ∙ all_listed objects (page_items q found) (recursion_from_All (IsFirst objects) (page_items q found) on_page) in
    ap (λ (n : ℕ). listing q n (objects_of_ids objects page.ids)) cursor ∙ ap (listing q (page_cursor q found)) items ∙ sym (page_is q found other)

-- the reply of a number
pub page_counted : (q : Query) (found : List Object) (page : Page) → IsPageOf q found page → q.shown ≡ shown.Count → number page.count ≡ page_reply q found
page_counted q found page paged is = counted q.shown is (paged.count)
  where
    counted : (s : Shown) → s ≡ shown.Count → page.count ≡ (if is_count s then length found else 0) → number page.count ≡ page_reply (record q { shown = s }) found
    counted shown.Count is e = ap number e
    counted shown.Ids is e = absurd (cc)
    counted shown.Objects is e = absurd (cc)
    counted shown.Points is e = absurd (cc)
    counted shown.Bounds is e = absurd (cc)

module _ (w : World) (now : ℕ) where
  pub scanned : (key : Bytes) (q : Query) → effect w now [] (command.Search (of_search.Scan key q)) ≡ within_reply (says (page_reply q (matches q (objects_of w key))))
  unfolding effect
  scanned key q = refl

  pub searched : (key : Bytes) (q : Query) (a : Area) → effect w now [] (command.Search (of_search.Area key q (Given a))) ≡ within_reply (says (page_reply q (matches (record q { rule = rule_over q.rule a }) (objects_of w key))))
  unfolding effect
  searched key q a = refl

  pub searched_figure : (key : Bytes) (q : Query) (of_key id : Bytes) (o : Object) → object_at w of_key id ≡ Some o
      → effect w now [] (command.Search (of_search.Area key q (Of of_key id))) ≡ within_reply (says (page_reply q (matches (record q { rule = rule_over q.rule (Figure o.shape) }) (objects_of w key))))
  unfolding effect
  searched_figure key q of_key id o e = rw e refl

  pub searched_nothing : (key : Bytes) (q : Query) (of_key id : Bytes) → object_at w of_key id ≡ None → effect w now [] (command.Search (of_search.Area key q (Of of_key id))) ≡ missing w of_key
  unfolding effect
  searched_nothing key q of_key id e = rw e (missing_fits w of_key)

  pub neared : (key : Bytes) (q : Query) (p : Point) (reach : Option ℕ) → effect w now [] (command.Search (of_search.Nearby key q p reach)) ≡ within_reply (says (page_reply q (near_matches q p reach (objects_of w key))))
  unfolding effect
  neared key q p reach = refl
