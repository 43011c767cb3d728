-- What is told of stretches, one behind another, is what is told of all changes.
use Rattle.std.proofs.Common.{◌≡◌, ◌∙◌, ◌<◌, ◌≤◌, ℕ, zero, suc, ◌+◌, ◌*◌, ◌==◌, ◌&&◌, Bool, true, false, List, [], ◌∷◌, ◌++◌, length, map, filter, take, drop, get_or, replicate, Option, Some, None, refl, sym, ap, subst, arith, append_assoc, append-nil, length-append}
use Rattle.std.specs.Prelude.{slice_get, if◌then◌else◌, flat_map}
use Rattle.std.specs.List.{All, AllZip, range_with_len}
use Rattle.std.proofs.lemmas.List.{drop_all, get_or-replicate, length-take-le, take_all}
use Rattle.std.proofs.lemmas.Option.{slice_get-get_or}
use Rattle.std.proofs.lemmas.Grind.{flat_map-append}
use Rattle.std.proofs.lemmas.List.Elements.{filter-append}
use Rattle.byte_text.specs.Names.{Bytes, same}
use Rattle.planar_geom.specs.Points.{Bounds, in_box}
use Rattle.world_data.specs.Worlds.{after, empty_world}
use Rattle.world_data.specs.declared.channels.Channel.{Channel}
use Rattle.world_data.specs.declared.channels.Raised.{Raised}
use Rattle.world_data.specs.declared.objects.Object.{Object}
use Rattle.world_data.specs.declared.worlds.Change.{Change}
use Rattle.world_data.specs.declared.worlds.Change.TheVariants.{Put, Del, Drop, Flush, SetChan, DelChan}
use Rattle.world_data.specs.declared.worlds.World.{World}
use Rattle.log_record.specs.Folding.{folded}
use Rattle.fence_model.specs.Fences.{place_of}
use Rattle.fence_backtest.specs.Cuts.{IsCut, front, part}
use Rattle.fence_backtest.specs.Reports.{eighth, grid_of, grid_text, is_put_in, item_line, lines_of, put_count, raised_by, raised_from, report, stood, total_line, watch_box}
use Rattle.fence_backtest.specs.Outcomes.{IsOutcome, IsTally, cell_at, cell_of, cells_in, count_at, is_cell, object_put, raised_in}
use Rattle.fence_backtest.specs.Standing.{AreStood, Known, old_of}
use Rattle.fence_backtest.specs.Telling.{AreAdded, AreCounts, AreOutcomes, AreTold, IsTold, IsToldAt, outcome_lines, told_lines}
use Rattle.fence_backtest.specs.declared.grids.Cell.{Cell}
use Rattle.fence_backtest.specs.declared.outcomes.Outcome.{Outcome}
use Rattle.fence_backtest.specs.declared.standing.Stood.{Stood}
use Rattle.fence_backtest.specs.declared.telling.Told.{Told}
use Rattle.fence_backtest.proofs.LineLaws.{take_more}
use Rattle.fence_backtest.proofs.Cutting.{front_all, front_more, front_none, zip_at, zip_count}
use Rattle.fence_backtest.proofs.TallyLaws.{same_grid}

-- as many as there are changes
pub as_many : (key : Bytes) (all : List Change) (places : Bytes → Option ℕ) (w : World) (changes : List Change) (olds : List Stood) → AreStood key all places w changes olds
    → length olds ≡ length changes
as_many key all places w [] [] are = refl
as_many key all places w [] (old ∷ olds) are = absurd are
as_many key all places w (change ∷ changes) [] are = absurd are
as_many key all places w (change ∷ changes) (old ∷ olds) are = ap suc (as_many key all places (after w change) changes olds are.1)

-- where the object of a change stood
stood_at : (key : Bytes) (all : List Change) (places : Bytes → Option ℕ) (w : World) (changes : List Change) (olds : List Stood) (i : ℕ) (change : Change) (old : Stood)
    → AreStood key all places w changes olds → slice_get changes i ≡ Some change → slice_get olds i ≡ Some old
    → object_put all (old_of places change old) ≡ stood key (folded w (take i changes)) change
stood_at key all places w [] olds i change old are c o = absurd (cc c)
stood_at key all places w (x ∷ changes) [] i change old are c o = absurd are
stood_at key all places w (x ∷ changes) (y ∷ olds) zero change old are c o =
    let here : x ≡ change = cc c in
    let there : y ≡ old = cc o in
    subst (λ (z : Change). object_put all (old_of places z old) ≡ stood key w z) here (subst (λ (z : Stood). object_put all (old_of places x z) ≡ stood key w x) there are.0)
stood_at key all places w (x ∷ changes) (y ∷ olds) (suc i) change old are c o = stood_at key all places (after w x) changes olds i change old are.1 c o

-- what changes raise, one behind another

raised-append : (c : Channel) (w : World) (xs ys : List Change) → raised_from c w (xs ++ ys) ≡ raised_from c w xs ++ raised_from c (folded w xs) ys
raised-append c w [] ys = refl
raised-append c w (x ∷ xs) ys = ap (λ (l : List (List Raised)). raised_by c (stood c.fence.key w x) x ∷ l) (raised-append c (after w x) xs ys)

raised_long : (c : Channel) (w : World) (xs : List Change) → length (raised_from c w xs) ≡ length xs
raised_long c w [] = refl
raised_long c w (x ∷ xs) = ap suc (raised_long c (after w x) xs)

map-append : {A B : Type 0} (f : A → B) (xs ys : List A) → map f (xs ++ ys) ≡ map f xs ++ map f ys
map-append f [] ys = refl
map-append f (x ∷ xs) ys = ap (λ l. f x ∷ l) (map-append f xs ys)

-- one more outcome
pub outcomes_more : (c : Channel) (area : Bounds) (all : List Change) (places : Bytes → Option ℕ) (w : World) (changes : List Change) (olds : List Stood) (i : ℕ)
    (outcomes : List Outcome) (change : Change) (old : Stood) (o : Outcome) → AreStood c.fence.key all places w changes olds → slice_get changes i ≡ Some change
    → slice_get olds i ≡ Some old → IsOutcome c area (object_put all (old_of places change old)) change o → AreOutcomes c area w (take i changes) outcomes
    → AreOutcomes c area w (take (i + 1) changes) (outcomes ++ o ∷ [])
outcomes_more c area all places w changes olds i outcomes change old o stood_are here there is are =
    let next : i + 1 ≡ suc i = omega arith in
    let more : take (i + 1) changes ≡ take i changes ++ change ∷ [] = ap (λ n. take n changes) next ∙ take_more changes i change here in
    let stood_is = stood_at c.fence.key all places w changes olds i change old stood_are here there in
    record {
      raised_are = map-append raised_in outcomes (o ∷ [])
          ∙ ap (λ (l : List (List Raised)). l ++ raised_in o ∷ []) are.raised_are
          ∙ ap (λ (l : List Raised). raised_from c w (take i changes) ++ l ∷ []) (is.raised_is ∙ ap (λ (x : Option Object). raised_by c x change) stood_is)
          ∙ sym (raised-append c w (take i changes) (change ∷ []))
          ∙ ap (raised_from c w) (sym more);
      cells_are = map-append (λ (p : Outcome). p.cell) outcomes (o ∷ [])
          ∙ ap (λ (l : List (Option Cell)). l ++ o.cell ∷ []) are.cells_are
          ∙ ap (λ (x : Option Cell). map (cell_at c.fence.key area) (take i changes) ++ x ∷ []) is.cell_is
          ∙ sym (map-append (cell_at c.fence.key area) (take i changes) (change ∷ []))
          ∙ ap (map (cell_at c.fence.key area)) (sym more);
    }

-- the grid

in_cell : (inside : Bool) (row column r k : ℕ) → is_cell row column (if inside then Some (record { row = r; column = k }) else None) ≡ (inside && (r == row && k == column))
in_cell true row column r k = refl
in_cell false row column r k = refl

by_key : (own : Bool) (row column : ℕ) (cell : Option Cell) (there : Bool) → is_cell row column cell ≡ there → is_cell row column (if own then cell else None) ≡ (own && there)
by_key true row column cell there is = is
by_key false row column cell there is = refl

is_put : (key : Bytes) (b : Bounds) (row column : ℕ) (change : Change) → is_cell row column (cell_at key b change) ≡ is_put_in key b row column change
is_put key b row column (Put o) =
    let p = place_of o in
    by_key (same o.key key) row column (cell_of b p) _ (in_cell (in_box b p) row column (eighth b.min.y b.max.y p.y) (eighth b.min.x b.max.x p.x))
is_put key b row column (Del other id) = refl
is_put key b row column (Drop other) = refl
is_put key b row column Flush = refl
is_put key b row column (SetChan d) = refl
is_put key b row column (DelChan name) = refl

-- items that pass two tests at the same places are as many
module _ {A B : Type 0} (p : A → Bool) (q : B → Bool) where
  counted : (s t : Bool) (a : A) (b : B) (xs : List A) (ys : List B) → s ≡ t → length (filter p xs) ≡ length (filter q ys)
      → length (if s then a ∷ filter p xs else filter p xs) ≡ length (if t then b ∷ filter q ys else filter q ys)
  counted true true a b xs ys e rest = ap suc rest
  counted false false a b xs ys e rest = rest
  counted true false a b xs ys e rest = absurd (cc e)
  counted false true a b xs ys e rest = absurd (cc e)

cells_told : (key : Bytes) (b : Bounds) (row column : ℕ) (outcomes : List Outcome) (changes : List Change) → map (λ (o : Outcome). o.cell) outcomes ≡ map (cell_at key b) changes
    → cells_in outcomes row column ≡ put_count key b changes row column
cells_told key b row column [] [] e = refl
cells_told key b row column [] (change ∷ changes) e = absurd (cc e)
cells_told key b row column (o ∷ outcomes) [] e = absurd (cc e)
cells_told key b row column (o ∷ outcomes) (change ∷ changes) e =
    let here : o.cell ≡ cell_at key b change = cc e in
    let rest : map (λ (p : Outcome). p.cell) outcomes ≡ map (cell_at key b) changes = cc e in
    counted (λ (p : Outcome). is_cell row column p.cell) (is_put_in key b row column) (is_cell row column o.cell) (is_put_in key b row column change) o change outcomes changes
    (ap (is_cell row column) here ∙ is_put key b row column change) (cells_told key b row column outcomes changes rest)

-- what is told of changes, by what they came to
pub told_is : (c : Channel) (area : Bounds) (number : ℕ) (w : World) (changes : List Change) (outcomes : List Outcome) (t : Told) → AreOutcomes c area w changes outcomes
    → t.text ≡ flat_map (λ line. line) (lines_of number changes (map raised_in outcomes)) → t.total ≡ length (lines_of number changes (map raised_in outcomes))
    → IsTally outcomes t.counts.items → IsTold c area number w changes t
told_is c area number w changes outcomes t are text total tally = record {
  text_is = text ∙ ap (λ (l : List (List Raised)). flat_map (λ (line : Bytes). line) (lines_of number changes l)) are.raised_are;
  total_is = total ∙ ap (λ (l : List (List Raised)). length (lines_of number changes l)) are.raised_are;
  counts_are = record {
    long = tally.long;
    counted = λ row column low narrow. tally.counted row column low narrow ∙ cells_told c.fence.key area row column outcomes changes are.cells_are;
  };
}

-- one behind another

lines-append : (number : ℕ) (xs ys : List Change) (first second : List (List Raised)) → length first ≡ length xs
    → lines_of number (xs ++ ys) (first ++ second) ≡ lines_of number xs first ++ lines_of (number + length xs) ys second
lines-append number [] ys [] second long = let same : number ≡ number + 0 = omega arith in ap (λ (n : ℕ). lines_of n ys second) same
lines-append number [] ys (y ∷ first) second long = absurd (cc long)
lines-append number (x ∷ xs) ys [] second long = absurd (cc long)
lines-append number (x ∷ xs) ys (y ∷ first) second long =
    let next : number + 1 + length xs ≡ number + suc (length xs) = omega arith in
    let rest : length first ≡ length xs = cc long in
    ap (λ (l : List Bytes). map (item_line number x) y ++ l) (lines-append (number + 1) xs ys first second rest
    ∙ ap (λ (n : ℕ). lines_of (number + 1) xs first ++ lines_of n ys second) next)
    ∙ sym (append_assoc (map (item_line number x) y) (lines_of (number + 1) xs first) (lines_of (number + suc (length xs)) ys second))

told-append : (c : Channel) (number : ℕ) (w : World) (xs ys : List Change) → told_lines c number w (xs ++ ys) ≡ told_lines c number w xs ++ told_lines c (number + length xs) (folded w xs) ys
told-append c number w xs ys =
    ap (lines_of number (xs ++ ys)) (raised-append c w xs ys) ∙ lines-append number xs ys (raised_from c w xs) (raised_from c (folded w xs) ys) (raised_long c w xs)

puts-append : (key : Bytes) (area : Bounds) (xs ys : List Change) (row column : ℕ)
    → put_count key area (xs ++ ys) row column ≡ put_count key area xs row column + put_count key area ys row column
puts-append key area xs ys row column =
    ap (λ (l : List Change). length l) (filter-append (is_put_in key area row column) xs ys)
    ∙ length-append (filter (is_put_in key area row column) xs) (filter (is_put_in key area row column) ys)

module _ (c : Channel) (area : Bounds) (xs ys : List Change) where
  pub text_joined : (text more : Bytes) → text ≡ flat_map (λ line. line) (told_lines c 1 empty_world xs)
      → more ≡ flat_map (λ line. line) (told_lines c (length xs + 1) (folded empty_world xs) ys) → text ++ more ≡ flat_map (λ line. line) (told_lines c 1 empty_world (xs ++ ys))
  text_joined text more is behind =
      let number : length xs + 1 ≡ 1 + length xs = omega arith in
      ap (λ (t : Bytes). t ++ more) is
      ∙ ap (λ (t : Bytes). flat_map (λ (line : Bytes). line) (told_lines c 1 empty_world xs) ++ t) (behind ∙ ap (λ (n : ℕ). flat_map (λ (line : Bytes). line) (told_lines c n (folded empty_world xs) ys)) number)
      ∙ sym (flat_map-append (λ (line : Bytes). line) (told_lines c 1 empty_world xs) (told_lines c (1 + length xs) (folded empty_world xs) ys))
      ∙ ap (flat_map (λ (line : Bytes). line)) (sym (told-append c 1 empty_world xs ys))

  pub total_joined : (total more : ℕ) → total ≡ length (told_lines c 1 empty_world xs) → more ≡ length (told_lines c (length xs + 1) (folded empty_world xs) ys)
      → total + more ≡ length (told_lines c 1 empty_world (xs ++ ys))
  total_joined total more is behind =
      let number : length xs + 1 ≡ 1 + length xs = omega arith in
      let rest = behind ∙ ap (λ (n : ℕ). length (told_lines c n (folded empty_world xs) ys)) number in
      let both = ap (λ (l : List Bytes). length l) (told-append c 1 empty_world xs ys) ∙ length-append (told_lines c 1 empty_world xs) (told_lines c (1 + length xs) (folded empty_world xs) ys) in
      omega (arith, is, rest, both)

  pub counts_joined : (counts more sums : List ℕ) → AreCounts c.fence.key area xs counts → AreCounts c.fence.key area ys more → AreAdded counts more sums
      → AreCounts c.fence.key area (xs ++ ys) sums
  counts_joined counts more sums are behind added = record {
    long = added.long ∙ are.long;
    counted = λ row column low narrow.
        let within : row * 8 + column < length counts = omega (arith, are.long, low, narrow) in
        let here = added.each (row * 8 + column) within in
        let first = are.counted row column low narrow in
        let second = behind.counted row column low narrow in
        let both = puts-append c.fence.key area xs ys row column in
        omega (arith, here, first, second, both);
  }

-- what is told of a stretch more
pub told_joined : (c : Channel) (area : Bounds) (all : List Change) (size k : ℕ) (t next sum : Told) → k * size ≤ length all → IsTold c area 1 empty_world (front all size k) t
    → IsToldAt c area all size k next → sum.text ≡ t.text ++ next.text → sum.total ≡ t.total + next.total → AreAdded t.counts.items next.counts.items sum.counts.items
    → IsTold c area 1 empty_world (front all size (k + 1)) sum
told_joined c area all size k t next sum within so_far is text total counts =
    let xs = front all size k in
    let ys = part all (k * size) size in
    let long : length xs ≡ k * size = length-take-le (k * size) all within in
    let behind : IsTold c area (length xs + 1) (folded empty_world xs) ys next = subst (λ (n : ℕ). IsTold c area (n + 1) (folded empty_world xs) ys next) (sym long) is in
    let step : k + 1 ≡ suc k = omega arith in
    let more : front all size (k + 1) ≡ xs ++ ys = ap (front all size) step ∙ front_more all size k in
    subst (λ (l : List Change). IsTold c area 1 empty_world l sum) (sym more) (record {
      text_is = text ∙ text_joined c area xs ys t.text next.text so_far.text_is behind.text_is;
      total_is = total ∙ total_joined c area xs ys t.total next.total so_far.total_is behind.total_is;
      counts_are = counts_joined c area xs ys t.counts.items next.counts.items sum.counts.items so_far.counts_are behind.counts_are counts;
    })

pub told_at : (c : Channel) (area : Bounds) (all : List Change) (size : ℕ) (told : List Told) (k : ℕ) (t : Told) → AreTold c area all size told → slice_get told k ≡ Some t
    → IsToldAt c area all size k t
told_at c area all size told k t are here =
    let none : 0 + k ≡ k = omega arith in
    subst (λ (n : ℕ). IsToldAt c area all size n t) none (zip_at (IsToldAt c area all size) 0 (length told) told k t are.each here)

pub told_long : (c : Channel) (area : Bounds) (all : List Change) (size : ℕ) (told : List Told) → AreTold c area all size told → All (λ (t : Told). length t.counts.items ≡ 64) told
told_long c area all size told are = λ k d within. (told_at c area all size told k (get_or told k d) are (slice_get-get_or told k d within)).counts_are.long

-- of all of them
pub told_whole : (c : Channel) (area : Bounds) (all : List Change) (size : ℕ) (told : List Told) (t : Told) (k : ℕ) → AreTold c area all size told → k ≡ length told
    → IsTold c area 1 empty_world (front all size k) t → IsTold c area 1 empty_world all t
told_whole c area all size told t k are is so_far =
    subst (λ (l : List Change). IsTold c area 1 empty_world l t) (ap (front all size) is ∙ front_all all size (length told) are.cut.whole) so_far

-- of none
pub told_none : (c : Channel) (area : Bounds) (all : List Change) (size : ℕ) (t : Told) → t.text ≡ [] → t.total ≡ 0 → length t.counts.items ≡ 64
    → ((row column : ℕ) → row < 8 → column < 8 → count_at t.counts.items row column ≡ 0) → IsTold c area 1 empty_world (front all size 0) t
told_none c area all size t text total long zeros =
    subst (λ (l : List Change). IsTold c area 1 empty_world l t) (sym (front_none all size)) (record {
      text_is = text;
      total_is = total;
      counts_are = record { long = long; counted = zeros };
    })

-- and what is told of all changes is their report
pub told_report : (c : Channel) (area : Bounds) (all : List Change) (t : Told) → watch_box c.fence.watch ≡ Some area → IsTold c area 1 empty_world all t
    → t.text ++ (total_line t.total ++ grid_text (count_at t.counts.items)) ≡ report c all
told_report c area all t box told =
    let lines = told_lines c 1 empty_world all in
    let grid : grid_text (count_at t.counts.items) ≡ grid_of c all (watch_box c.fence.watch) =
    same_grid (count_at t.counts.items) (put_count c.fence.key area all) told.counts_are.counted ∙ ap (grid_of c all) (sym box) in
    ap (λ (x : Bytes). x ++ (total_line t.total ++ grid_text (count_at t.counts.items))) told.text_is
    ∙ ap (λ (n : ℕ). flat_map (λ (line : Bytes). line) lines ++ (total_line n ++ grid_text (count_at t.counts.items))) told.total_is
    ∙ ap (λ (g : Bytes). flat_map (λ (line : Bytes). line) lines ++ (total_line (length lines) ++ g)) grid

-- the lines of what the changes of a stretch came to
pub lines_are : (all : List Change) (from place size : ℕ) (outcomes found : List Outcome) (s : Known) → from ≡ s.from → outcomes ≡ found → length found ≡ length s.olds
    → s.from ≡ place → part all s.from (length s.olds) ≡ part all place size → outcome_lines all from outcomes ≡ lines_of (place + 1) (part all place size) (map raised_in found)
lines_are all from place size outcomes found s is same long at part_is =
    let items = map raised_in found in
    ap (λ (f : ℕ). outcome_lines all f outcomes) is ∙ ap (outcome_lines all s.from) same ∙ ap (λ (n : ℕ). lines_of (s.from + 1) (part all s.from n) items) long
    ∙ ap (λ (l : List Change). lines_of (s.from + 1) l items) part_is ∙ ap (λ (f : ℕ). lines_of (f + 1) (part all place size) items) at

-- what is told of all stretches, by their cuts
pub are_told : (c : Channel) (area : Bounds) (all : List Change) (size count : ℕ) (told : List Told) → IsCut (length all) count size
    → AllZip (IsToldAt c area all size) (range_with_len 0 count) told → AreTold c area all size told
are_told c area all size count told cut each =
    let as_many : count ≡ length told = sym (zip_count (IsToldAt c area all size) 0 count told each) in
    record {
      cut = subst (λ (n : ℕ). IsCut (length all) n size) as_many cut;
      each = subst (λ (n : ℕ). AllZip (IsToldAt c area all size) (range_with_len 0 n) told) as_many each;
    }

-- what is written over all of some numbers
pub refilled : (long : ℕ) (before written : List ℕ) → long ≡ length before → length written ≡ length before → take long (written ++ drop (length written) before) ≡ written
refilled long before written is same =
    let most : length before ≤ length written = omega (arith, same) in
    let enough : length written ≤ long = omega (arith, is, same) in
    ap (λ (l : List ℕ). take long (written ++ l)) (drop_all (length written) before most) ∙ ap (take long) (append-nil written) ∙ take_all long written enough

pub zeros_at : (counts : List ℕ) → counts ≡ replicate 64 0 → (row column : ℕ) → row < 8 → column < 8 → count_at counts row column ≡ 0
zeros_at counts are row column low narrow =
    let small : row * 8 + column < 64 = omega (arith, low, narrow) in
    ap (λ (l : List ℕ). count_at l row column) are ∙ get_or-replicate 64 (row * 8 + column) 0 0 small
