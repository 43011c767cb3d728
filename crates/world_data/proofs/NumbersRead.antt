-- What was read of a word is the number in it.
use Rattle.std.proofs.Common.{◌≡◌, refl}
use Rattle.std.specs.Prelude.{Option, Some, None}
use Rattle.std.specs.Result.{result_ok}
use Rattle.byte_text.specs.Numbers.{number_or_fault}

pub read_back : {A : Type 0} (o : Option A) → result_ok (number_or_fault o) ≡ o
read_back None = refl
read_back (Some n) = refl
