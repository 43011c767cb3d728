-- How many puts are in each part, and the grid of these numbers.
use Rattle.std.proofs.Common.{◌≡◌, ◌∙◌, ◌<◌, ◌≤◌, ℕ, zero, suc, ◌+◌, List, [], ◌∷◌, ◌++◌, take, length-take, refl, ap, arith}
use Rattle.std.specs.Prelude.{decimal, slice_index}
use Rattle.ordered_lists.specs.Reading.{filter-most}
use Rattle.fence_backtest.specs.Outcomes.{IsTally, count_at, is_cell}
use Rattle.fence_backtest.specs.Reports.{grid_text, row_text}
use Rattle.fence_backtest.specs.declared.outcomes.Outcome.{Outcome}

-- no more than were seen
pub few_counted : (outcomes : List Outcome) (counts : List ℕ) (seen row column : ℕ) → row < 8 → column < 8 → IsTally (take seen outcomes) counts → count_at counts row column ≤ seen
few_counted outcomes counts seen row column low narrow tally =
    let most = filter-most (λ (p : Outcome). is_cell row column p.cell) (take seen outcomes) in
    omega (arith, tally.counted row column low narrow, most, length-take seen outcomes)

-- the places of rows and columns
pub row_at : (i : ℕ) → i < 8 → slice_index (0 ∷ 1 ∷ 2 ∷ 3 ∷ 4 ∷ 5 ∷ 6 ∷ 7 ∷ []) i ≡ i
row_at zero small = refl
row_at (suc zero) small = refl
row_at (suc (suc zero)) small = refl
row_at (suc (suc (suc zero))) small = refl
row_at (suc (suc (suc (suc zero)))) small = refl
row_at (suc (suc (suc (suc (suc zero))))) small = refl
row_at (suc (suc (suc (suc (suc (suc zero)))))) small = refl
row_at (suc (suc (suc (suc (suc (suc (suc zero))))))) small = refl
row_at (suc (suc (suc (suc (suc (suc (suc (suc i)))))))) small = absurd (omega (arith, small))

pub later_at : (i : ℕ) → i < 7 → slice_index (1 ∷ 2 ∷ 3 ∷ 4 ∷ 5 ∷ 6 ∷ 7 ∷ []) i ≡ i + 1
later_at i small = row_at (suc i) (omega (arith, small)) ∙ omega arith

-- the same numbers make the same grid
pub same_row : (f g : ℕ → ℕ) → ((column : ℕ) → column < 8 → f column ≡ g column) → row_text f ≡ row_text g
same_row f g is =
    let at : (column : ℕ) → column < 8 → 32 ∷ decimal (f column) ≡ 32 ∷ decimal (g column) = λ column small. ap (λ n. 32 ∷ decimal n) (is column small) in
    λ i. decimal (is 0 (omega arith) i) ++ ((at 1 (omega arith) i ++ (at 2 (omega arith) i ++ (at 3 (omega arith) i ++ (at 4 (omega arith) i ++ (at 5 (omega arith) i ++ (at 6 (omega arith) i ++ (at 7 (omega arith) i ++ []))))))) ++ 10 ∷ [])

pub same_grid : (f g : ℕ → ℕ → ℕ) → ((row column : ℕ) → row < 8 → column < 8 → f row column ≡ g row column) → grid_text f ≡ grid_text g
same_grid f g is =
    let at : (row : ℕ) → row < 8 → row_text (f row) ≡ row_text (g row) = λ row low. same_row (f row) (g row) (λ column. is row column low) in
    λ i. at 0 (omega arith) i ++ (at 1 (omega arith) i ++ (at 2 (omega arith) i ++ (at 3 (omega arith) i ++ (at 4 (omega arith) i ++ (at 5 (omega arith) i ++ (at 6 (omega arith) i ++ (at 7 (omega arith) i ++ [])))))))
