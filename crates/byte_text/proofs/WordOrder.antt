-- Lists of bytes stand in the order of the numbers that they are in base 256, the first byte highest.
use Rattle.std.proofs.Common.{◌≡◌, ◌+◌, ◌*◌, ◌<◌, ℕ, suc, [], ◌∷◌, length, refl, sym, ap, subst, arith}
use Rattle.std.proofs.lemmas.Nat.{mul-le}
use Rattle.std.specs.Cmp.{nat_cmp_is, ranked}
use Rattle.std.specs.Cmp.Lexicographic.{slice_cmp}
use Rattle.std.specs.Int.{w64, from_be_bytes}
use Rattle.std.specs.List.{AllByRecursion}
use Rattle.std.specs.Ordering.{nat_cmp, ordering_then, MatchOrdering}
use Rattle.std.specs.declared.cmp.Ordering.{Ordering}
use Rattle.std.specs.declared.cmp.Ordering.TheVariants.{Less, Equal, Greater}
use Rattle.byte_text.specs.Names.{Bytes}

-- 256 to the number of bytes
abbrev pub scale : Bytes → ℕ
scale [] = 1
scale (x ∷ xs) = 256 * scale xs

abbrev pub worth : Bytes → ℕ
worth [] = 0
worth (x ∷ xs) = x * scale xs + worth xs

abbrev pub AreSmall : Bytes → Type 0
AreSmall bytes = AllByRecursion (λ b. b < 256) bytes

worth_below : (xs : Bytes) → AreSmall xs → worth xs < scale xs
worth_below [] small = omega arith
worth_below (x ∷ xs) small = omega (arith, worth_below xs small.1, mul-le x (scale xs) 255 (scale xs) (omega (arith, small.0)) (omega arith))

same_scale : (xs ys : Bytes) → length xs ≡ length ys → scale xs ≡ scale ys
same_scale [] [] e = refl
same_scale [] (y ∷ ys) e = absurd (omega (arith, e))
same_scale (x ∷ xs) [] e = absurd (omega (arith, e))
same_scale (x ∷ xs) (y ∷ ys) e = omega (arith, same_scale xs ys (omega (arith, e)))

lower : (x y s m n : ℕ) → x < y → m < s → x * s + m < y * s + n
lower x y s m n l small = omega (arith, small, mul-le (suc x) s y s l (omega arith))

first_decides : (x y s m n : ℕ) (first rest : Ordering) → MatchOrdering first (x < y) (x ≡ y) (y < x) → MatchOrdering rest (m < n) (m ≡ n) (n < m) → m < s → n < s
    → MatchOrdering (ordering_then first rest) (x * s + m < y * s + n) (x * s + m ≡ y * s + n) (y * s + n < x * s + m)
first_decides x y s m n Less rest f r p q = lower x y s m n f p
first_decides x y s m n Greater rest f r p q = lower y x s n m f q
first_decides x y s m n Equal Less f r p q = omega (arith, r, ap (λ k. k * s) f)
first_decides x y s m n Equal Equal f r p q = omega (arith, r, ap (λ k. k * s) f)
first_decides x y s m n Equal Greater f r p q = omega (arith, r, ap (λ k. k * s) f)

worths_decide : (xs ys : Bytes) → length xs ≡ length ys → AreSmall xs → AreSmall ys → MatchOrdering (slice_cmp nat_cmp xs ys) (worth xs < worth ys) (worth xs ≡ worth ys) (worth ys < worth xs)
worths_decide [] [] e p q = refl
worths_decide [] (y ∷ ys) e p q = absurd (omega (arith, e))
worths_decide (x ∷ xs) [] e p q = absurd (omega (arith, e))
worths_decide (x ∷ xs) (y ∷ ys) e p q =
    let long : length xs ≡ length ys = omega (arith, e) in
    let scales : scale xs ≡ scale ys = same_scale xs ys long in
    subst (λ s. MatchOrdering (ordering_then (nat_cmp x y) (slice_cmp nat_cmp xs ys)) (x * scale xs + worth xs < y * s + worth ys) (x * scale xs + worth xs ≡ y * s + worth ys) (y * s + worth ys < x * scale xs + worth xs)) scales
    (first_decides x y (scale xs) (worth xs) (worth ys) (nat_cmp x y) (slice_cmp nat_cmp xs ys) (ranked x y (nat_cmp x y) refl) (worths_decide xs ys long p.1 q.1) (worth_below xs p.1) (omega (arith, worth_below ys q.1, scales)))

eight : (xs : Bytes) → length xs ≡ 8 → from_be_bytes w64 xs ≡ worth xs
eight (a ∷ b ∷ c ∷ d ∷ e ∷ f ∷ g ∷ h ∷ []) long = omega arith
eight xs long = absurd (omega (arith, long))

pub order_of_eight_is : (xs ys : Bytes) → length xs ≡ 8 → length ys ≡ 8 → AreSmall xs → AreSmall ys → nat_cmp (from_be_bytes w64 xs) (from_be_bytes w64 ys) ≡ slice_cmp nat_cmp xs ys
order_of_eight_is xs ys p q small less =
    sym (nat_cmp_is (from_be_bytes w64 xs) (from_be_bytes w64 ys) (slice_cmp nat_cmp xs ys)
    (subst (λ m. MatchOrdering (slice_cmp nat_cmp xs ys) (m < from_be_bytes w64 ys) (m ≡ from_be_bytes w64 ys) (from_be_bytes w64 ys < m)) (sym (eight xs p))
    (subst (λ n. MatchOrdering (slice_cmp nat_cmp xs ys) (worth xs < n) (worth xs ≡ n) (n < worth xs)) (sym (eight ys q))
    (worths_decide xs ys (omega (arith, p, q)) small less))))
