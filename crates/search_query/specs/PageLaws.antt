-- A page, told from the first objects that match.
use Rattle.std.proofs.Common.{◌≡◌, ◌+◌, ◌-◌, min, ◌<◌, ◌≤◌, ℕ, Bool, true, false, not, sym, ap, ◌∙◌, List, [], ◌++◌, length, map, take, drop, arith}
use Rattle.std.proofs.Common.{length-append}
use Rattle.std.specs.Prelude.{filter, nat_lt, if◌then◌else◌}
use Rattle.std.proofs.lemmas.Bool.Decides.{nat_tests}
use Rattle.std.proofs.lemmas.List.{length-drop, length-take, take-append-drop, take-append-le, drop-append-le}
use Rattle.std.proofs.lemmas.List.Elements.{filter-append}
use Rattle.ordered_lists.specs.Reading.{both_of}
use Rattle.fence_model.specs.Queries.{meets_query, page_items, page_ids, page_cursor, is_count}
use Rattle.world_data.specs.declared.objects.Object.{Object}
use Rattle.world_data.specs.declared.queries.Query.{Query}
use Rattle.search_query.specs.Pages.{is_past, IsEnough}

past_end : (q : Query) (n : ℕ) → is_past q n ≡ true → q.cursor + q.limit < n
past_end q n past = let t = (both_of (not (is_count q.shown)) (nat_lt (q.cursor + q.limit) n) past).1 in grind (arith, nat_tests)

items_seen : {A : Type 0} (q : Query) (xs ys : List A) → q.cursor + q.limit ≤ length xs → page_items q (xs ++ ys) ≡ page_items q xs
items_seen q xs ys long =
    let c : q.cursor ≤ length xs = omega (arith, long) in
    let rest : q.limit ≤ length (drop q.cursor xs) = rw (length-drop q.cursor xs) (omega (arith, long)) in
    ap (take q.limit) (drop-append-le q.cursor xs ys c) ∙ take-append-le q.limit (drop q.cursor xs) ys rest

ids_seen : (q : Query) (xs ys : List Object) → is_past q (length xs) ≡ true → page_ids q (xs ++ ys) ≡ page_ids q xs
ids_seen q xs ys past =
    let far = past_end q (length xs) past in
    ap (λ (l : List Object). if is_count q.shown then [] else map (λ o. o.id) l) (items_seen q xs ys (omega (arith, far)))

-- once one is found behind the page
pub ids_first : (q : Query) (all seen rest : List Object) → all ≡ seen ++ rest → is_past q (length seen) ≡ true → page_ids q seen ≡ page_ids q all
ids_first q all seen rest are past = sym (ap (page_ids q) are ∙ ids_seen q seen rest past)

pub enough_first : (q : Query) (all seen rest : List Object) (n : ℕ) → all ≡ seen ++ rest → n ≡ length seen → is_past q n ≡ true → IsEnough q all n
enough_first q all seen rest n are is past = record {
  within = at_most n (length seen) (length rest) (length all) is (ap length are ∙ length-append seen rest);
  exact = λ other. absurd (not_both (is_past q n) past other);
}
  where
    at_most : (n a b m : ℕ) → n ≡ a → m ≡ a + b → n ≤ m
    at_most n a b m p q = omega arith

    not_both : (b : Bool) → b ≡ true → b ≡ false → ⊥
    not_both b p q = absurd (cc)

-- of objects that were read in turn those that meet the query, and of the rest
pub read_first : (q : Query) (all read : List Object) (i : ℕ) → filter (meets_query q) read ≡ all → all ≡ filter (meets_query q) (take i read)
    ++ filter (meets_query q) (drop i read)
read_first q all read i are = sym are ∙ ap (filter (meets_query q)) (sym (take-append-drop i read))
    ∙ filter-append (meets_query q) (take i read) (drop i read)

pub count_all : (q : Query) (all : List Object) (n : ℕ) → n ≡ length all → IsEnough q all n
count_all q all n is = record {
  within = omega arith;
  exact = λ other. is;
}

-- where the next page begins, told from its cursor and limit
pub next_page : (q : Query) (all : List Object) (found : ℕ) → IsEnough q all found → is_count q.shown ≡ false
    → (if nat_lt (q.cursor + q.limit) found then q.cursor + q.limit else 0) ≡ page_cursor q all
next_page q all found enough paged =
    let exact : nat_lt (q.cursor + q.limit) found ≡ false → found ≡ length all = λ behind. enough.exact (rw paged behind) in
    next q.cursor q.limit found (length all) (length (page_items q all)) enough.within exact (length-take q.limit (drop q.cursor all)
    ∙ ap (min q.limit) (length-drop q.cursor all))
  where
    next : (cursor limit found all items : ℕ) → found ≤ all → (nat_lt (cursor + limit) found ≡ false → found ≡ all) → items ≡ min limit (all - cursor)
        → (if nat_lt (cursor + limit) found then cursor + limit else 0) ≡ (if nat_lt (cursor + items) all then cursor + items else 0)
    next cursor limit found all items within exact count = grind (arith, nat_tests)
