-- Sessions by rising numbers.
use Rattle.std.proofs.Common.{◌≡◌, ℕ, ◌<◌, ◌==◌, false, List, [], ◌∷◌, arith}
use Rattle.std.specs.List.{AllByRecursion}
use Rattle.std.proofs.lemmas.Bool.Decides.{nat_tests}
use Rattle.world_model.specs.Halls.{Session, is_session}
use Rattle.delivery_model.specs.Staging.{HaveOwnNumbers, Rise}

greater : (n m : ℕ) → n < m → (m == n) ≡ false
greater n m lt = grind (arith, nat_tests)

above : (n low : ℕ) (ss : List Session) → n < low → Rise low ss → AllByRecursion (λ t. is_session n t ≡ false) ss
above n low [] lt r = tt
above n low (s ∷ ss) lt r = let next : low < s.number = r.0 in let more : n < s.number = omega (arith, lt, next) in
    (greater n s.number more, above n s.number ss more r.1)

behind : (n : ℕ) (ss : List Session) → Rise n ss → AllByRecursion (λ t. is_session n t ≡ false) ss
behind n [] r = tt
behind n (s ∷ ss) r = (greater n s.number r.0, above n s.number ss r.0 r.1)

pub rising : (low : ℕ) (ss : List Session) → Rise low ss → HaveOwnNumbers ss
rising low [] r = tt
rising low (s ∷ ss) r = (behind s.number ss r.1, rising s.number ss r.1)
