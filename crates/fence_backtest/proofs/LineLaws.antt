-- The lines of one more change.
use Rattle.std.proofs.Common.{◌≡◌, ◌∙◌, ◌<◌, ◌≤◌, ℕ, zero, suc, ◌+◌, List, [], ◌∷◌, ◌++◌, length, map, Some, sym, ap, arith, append_assoc, append-nil, take, length-append}
use Rattle.std.specs.Prelude.{slice_get, slice_index, flat_map}
use Rattle.std.proofs.lemmas.Option.{slice_get-get_or}
use Rattle.std.proofs.Math.Numerals.{add-one}
use Rattle.std.proofs.lemmas.Grind.{flat_map-append}
use Rattle.std.proofs.lemmas.List.{length-map, take_all}
use Rattle.std.proofs.lemmas.List.Folds.{flat_map-map}
use Rattle.byte_text.specs.Names.{Bytes}
use Rattle.world_data.specs.declared.channels.Raised.{Raised}
use Rattle.world_data.specs.declared.worlds.Change.{Change}
use Rattle.fence_backtest.specs.Cuts.{part}
use Rattle.fence_backtest.specs.Reports.{item_line, lines_of}
use Rattle.fence_backtest.specs.Outcomes.{raised_in}
use Rattle.fence_backtest.specs.Telling.{outcome_lines}
use Rattle.fence_backtest.specs.declared.outcomes.Outcome.{Outcome}
use Rattle.fence_backtest.proofs.Cutting.{part_all}

-- one item more of a list
pub take_more : {A : Type 0} (xs : List A) (i : ℕ) (x : A) → slice_get xs i ≡ Some x → take (suc i) xs ≡ take i xs ++ x ∷ []
take_more [] i x e = absurd (cc e)
take_more (y ∷ xs) zero x e = ap (λ z. z ∷ []) (let same : y ≡ x = cc e in same)
take_more (y ∷ xs) (suc i) x e = ap (λ l. y ∷ l) (take_more xs i x e)

pub at_map : {A B : Type 0} (f : A → B) (xs : List A) (i : ℕ) (x : A) → slice_get xs i ≡ Some x → slice_get (map f xs) i ≡ Some (f x)
at_map f [] i x e = absurd (cc e)
at_map f (y ∷ xs) zero x e = ap (λ z. Some (f z)) (let same : y ≡ x = cc e in same)
at_map f (y ∷ xs) (suc i) x e = at_map f xs i x e

lines_more : (number i : ℕ) (changes : List Change) (items : List (List Raised)) (change : Change) (item : List Raised) → slice_get changes i ≡ Some change → slice_get items i ≡ Some item
    → lines_of number (take (suc i) changes) (take (suc i) items) ≡ lines_of number (take i changes) (take i items) ++ map (item_line (number + i) change) item
lines_more number i [] items change item c e = absurd (cc c)
lines_more number i (x ∷ changes) [] change item c e = absurd (cc e)
lines_more number zero (x ∷ changes) (y ∷ items) change item c e =
    let here : x ≡ change = cc c in
    let there : y ≡ item = cc e in
    let same : number ≡ number + 0 = omega arith in
    append-nil (map (item_line number x) y)
    ∙ ap (λ (k : ℕ). map (item_line k x) y) same ∙ ap (λ (z : Change). map (item_line (number + 0) z) y) here ∙ ap (map (item_line (number + 0) change)) there
lines_more number (suc i) (x ∷ changes) (y ∷ items) change item c e =
    let next : number + 1 + i ≡ number + suc i = omega arith in
    ap (λ (l : List Bytes). map (item_line number x) y ++ l)
    (lines_more (number + 1) i changes items change item c e ∙ ap (λ (k : ℕ). lines_of (number + 1) (take i changes) (take i items) ++ map (item_line k change) item) next)
    ∙ sym (append_assoc (map (item_line number x) y) (lines_of (number + 1) (take i changes) (take i items)) (map (item_line (number + suc i) change) item))

module _ (from i : ℕ) (changes : List Change) (outcomes : List Outcome) (change : Change) (o : Outcome) (here : slice_get changes i ≡ Some change) (there : slice_get outcomes i ≡ Some o) where
  abbrev lines : ℕ → List Bytes
  lines n = lines_of (from + 1) (take n changes) (take n (map raised_in outcomes))

  next_lines : lines (i + 1) ≡ lines i ++ map (item_line (from + i + 1) change) (raised_in o)
  next_lines =
      let number : from + 1 + i ≡ from + i + 1 = omega arith in
      ap lines (add-one i) ∙ lines_more (from + 1) i changes (map raised_in outcomes) change (raised_in o) here (at_map raised_in outcomes i o there)
      ∙ ap (λ (k : ℕ). lines i ++ map (item_line k change) (raised_in o)) number

  pub text_more : (first mid last : Bytes) → mid ≡ first ++ flat_map (λ line. line) (lines i) → last ≡ mid ++ flat_map (item_line (from + i + 1) change) (raised_in o)
      → last ≡ first ++ flat_map (λ line. line) (lines (i + 1))
  text_more first mid last is more =
      more ∙ ap (λ (t : Bytes). t ++ flat_map (item_line (from + i + 1) change) (raised_in o)) is
      ∙ append_assoc first (flat_map (λ line. line) (lines i)) (flat_map (item_line (from + i + 1) change) (raised_in o))
      ∙ ap (λ (t : Bytes). first ++ (flat_map (λ line. line) (lines i) ++ t)) (sym (flat_map-map (λ line. line) (item_line (from + i + 1) change) (raised_in o)))
      ∙ ap (λ (t : Bytes). first ++ t) (sym (flat_map-append (λ line. line) (lines i) (map (item_line (from + i + 1) change) (raised_in o))))
      ∙ ap (λ (l : List Bytes). first ++ flat_map (λ line. line) l) (sym next_lines)

  pub count_more : (total count : ℕ) → total ≡ length (lines i) → count ≡ length (raised_in o) → total + count ≡ length (lines (i + 1))
  count_more total count is more =
      let parts = length-append (lines i) (map (item_line (from + i + 1) change) (raised_in o)) in
      let size = length-map (raised_in o) (item_line (from + i + 1) change) in
      let all = ap (λ (l : List Bytes). length l) next_lines in
      omega (arith, is, more, parts, size, all)

-- all of them
pub lines_all : (all : List Change) (from at : ℕ) (outcomes : List Outcome) → at ≡ length outcomes
    → lines_of (from + 1) (take at (part all from (length outcomes))) (take at (map raised_in outcomes)) ≡ outcome_lines all from outcomes
lines_all all from at outcomes is =
    let long : length (map raised_in outcomes) ≤ at = omega (arith, is, length-map outcomes raised_in) in
    ap (λ (l : List Change). lines_of (from + 1) l (take at (map raised_in outcomes))) (part_all all from (length outcomes) at (length outcomes) is (sym is))
    ∙ ap (lines_of (from + 1) (part all from (length outcomes))) (take_all at (map raised_in outcomes) long)

-- the texts of one number more of a list
pub flat_more : (f : ℕ → Bytes) (xs : List ℕ) (i : ℕ) (first mid last : Bytes) → i < length xs → mid ≡ first ++ flat_map f (take i xs) → last ≡ mid ++ f (slice_index xs i)
    → last ≡ first ++ flat_map f (take (i + 1) xs)
flat_more f xs i first mid last some is more =
    let x = slice_index xs i in
    let one = ap (λ n. take n xs) (add-one i) ∙ take_more xs i x (slice_get-get_or xs i 0 some) in
    more ∙ ap (λ (t : Bytes). t ++ f x) is ∙ append_assoc first (flat_map f (take i xs)) (f x)
    ∙ ap (λ (t : Bytes). first ++ (flat_map f (take i xs) ++ t)) (sym (append-nil (f x)))
    ∙ ap (λ (t : Bytes). first ++ t) (sym (flat_map-append f (take i xs) (x ∷ [])))
    ∙ ap (λ (l : List ℕ). first ++ flat_map f l) (sym one)
