-- Products of whole numbers, multiplied out and in other orders.
use Rattle.std.proofs.Common.{◌≡◌, refl, ap, ◌∙◌, arith, ℤ, ◌-ℤ◌, ◌+ℤ◌, ◌*ℤ◌, neg_ℤ, ◌+◌, ◌*◌}
use Rattle.std.proofs.lemmas.Int.{ints}
use borrow.Author.Differences.{up, down, same_in, sum_is_lem, neg_is, product_is}

-- a product of a sum, multiplied out
pub mul-add : (a c d : ℤ) → a *ℤ (c +ℤ d) ≡ a *ℤ c +ℤ a *ℤ d
mul-add a c d =
    let sum = sum_is_lem c d in
    same_in _ _ (omega (arith, ints, ap (λ n. up a * n) sum, ap (λ n. down a * n) sum))

pub mul-neg : (a c : ℤ) → a *ℤ neg_ℤ c ≡ neg_ℤ (a *ℤ c)
mul-neg a c = same_in _ _ (rw ((product_is a (neg_ℤ c)).0, (product_is a (neg_ℤ c)).1, (neg_is c).0, (neg_is c).1, (neg_is (a *ℤ c)).0, (neg_is (a *ℤ c)).1, (product_is a c).0, (product_is a c).1) refl)

pub mul-sub : (a c d : ℤ) → a *ℤ (c -ℤ d) ≡ a *ℤ c -ℤ a *ℤ d
mul-sub a c d = mul-add a c (neg_ℤ d) ∙ ap (λ z. a *ℤ c +ℤ z) (mul-neg a d)

pub mul-comm : (a b : ℤ) → a *ℤ b ≡ b *ℤ a
mul-comm a b = same_in _ _ (rw ((product_is a b).0, (product_is a b).1, (product_is b a).0, (product_is b a).1) (omega arith))

pub add-mul : (a b c : ℤ) → (a +ℤ b) *ℤ c ≡ a *ℤ c +ℤ b *ℤ c
add-mul a b c = mul-comm (a +ℤ b) c ∙ mul-add c a b ∙ ap (λ z. z +ℤ c *ℤ b) (mul-comm c a) ∙ ap (λ z. a *ℤ c +ℤ z) (mul-comm c b)

pub sub-mul : (a b c : ℤ) → (a -ℤ b) *ℤ c ≡ a *ℤ c -ℤ b *ℤ c
sub-mul a b c = mul-comm (a -ℤ b) c ∙ mul-sub c a b ∙ ap (λ z. z -ℤ c *ℤ b) (mul-comm c a) ∙ ap (λ z. a *ℤ c -ℤ z) (mul-comm c b)

-- a product of two differences, multiplied out
pub mul-differences : (a b c d : ℤ) → (a -ℤ b) *ℤ (c -ℤ d) ≡ (a *ℤ c -ℤ b *ℤ c) -ℤ (a *ℤ d -ℤ b *ℤ d)
mul-differences a b c d = mul-sub (a -ℤ b) c d ∙ ap (λ z. z -ℤ (a -ℤ b) *ℤ d) (sub-mul a b c) ∙ ap (λ z. (a *ℤ c -ℤ b *ℤ c) -ℤ z) (sub-mul a b d)

up-three : (a b c : ℤ) → up ((a *ℤ b) *ℤ c) ≡ (up a * up b + down a * down b) * up c + (up a * down b + down a * up b) * down c
up-three a b c = (product_is (a *ℤ b) c).0 ∙ rw ((product_is a b).0, (product_is a b).1) refl

down-three : (a b c : ℤ) → down ((a *ℤ b) *ℤ c) ≡ (up a * up b + down a * down b) * down c + (up a * down b + down a * up b) * up c
down-three a b c = (product_is (a *ℤ b) c).1 ∙ rw ((product_is a b).0, (product_is a b).1) refl

-- the last two of three factors change places
pub mul-right-comm : (a b c : ℤ) → (a *ℤ b) *ℤ c ≡ (a *ℤ c) *ℤ b
mul-right-comm a b c = same_in _ _ (rw (up-three a b c, down-three a b c, up-three a c b, down-three a c b) (omega arith))
