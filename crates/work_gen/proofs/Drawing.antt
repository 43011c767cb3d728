-- The generator, step by step.
use Rattle.std.proofs.Common.{◌≡◌, ℕ, ◌+◌, ◌*◌, ◌/◌, ◌%◌, ◌^◌, List, [], ◌∷◌, refl, sym, ap, ◌∙◌}
use Rattle.std.proofs.Math.Nat.{mod-add-mod}
use Rattle.work_gen.specs.Draws.{next, drawn}
use Rattle.work_gen.specs.Workload.{count_square, find_nearest}
use Rattle.work_gen.specs.declared.words.Word.{Word}
use Rattle.work_gen.specs.declared.words.Word.TheVariants.{Intersects, Nearby, Bounds, Count, Limit, Ids, Fleet, Point, Number}

-- the product may be cut first
pub next_is : (x : ℕ) → next x ≡ ((x * 6364136223846793005) % 2 ^ 64 + 1442695040888963407) % 2 ^ 64
unfolding next
next_is x = sym (mod-add-mod (x * 6364136223846793005) (2 ^ 64) 1442695040888963407)

-- the words of a square and of a point are those that their draws give

abbrev pub square_words : ℕ → ℕ → List Word
square_words y x = Intersects ∷ Fleet ∷ Count ∷ Bounds ∷ Number y ∷ Number x ∷ Number (y + 10000) ∷ Number (x + 10000) ∷ []

abbrev pub point_words : ℕ → ℕ → List Word
point_words y x = Nearby ∷ Fleet ∷ Limit ∷ Number 10 ∷ Ids ∷ Point ∷ Number y ∷ Number x ∷ []

pub square_is : (a s y x : ℕ) → s ≡ a → y ≡ drawn 900000 a → x ≡ drawn 900000 (next s) → square_words y x ≡ (count_square a).words
square_is a s y x e ey ex =
    ap (λ (k : ℕ). square_words k x) ey
    ∙ ap (λ (k : ℕ). square_words (drawn 900000 a) k) (ex ∙ ap (λ (k : ℕ). drawn 900000 (next k)) e)

pub point_is : (a s y x : ℕ) → s ≡ a → y ≡ drawn 1000000 a → x ≡ drawn 1000000 (next s) → point_words y x ≡ (find_nearest a).words
point_is a s y x e ey ex =
    ap (λ (k : ℕ). point_words k x) ey
    ∙ ap (λ (k : ℕ). point_words (drawn 1000000 a) k) (ex ∙ ap (λ (k : ℕ). drawn 1000000 (next k)) e)

pub drawn_is : (bound x : ℕ) → drawn bound x ≡ (x / 2 ^ 33) % bound
unfolding drawn
drawn_is bound x = refl
