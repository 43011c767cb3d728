-- Of each of a list, so of the one that is found.
use Rattle.std.proofs.Common.{◌≡◌, Bool, sym, List}
use Rattle.std.specs.Prelude.{IfSome, Option, Some, None, find, option_map}
use Rattle.std.specs.Borrow.{Bor}
use Rattle.std.specs.List.{AllByRecursion}
use Rattle.world_store.specs.ListLaws.{found_holds}

pub found_if : {A : Type 0} (P : A → Type 0) (test : A → Bool) (xs : List A) (r : Option (Bor A)) → option_map (λ (b : Bor A). b.now) r ≡ find test xs → AllByRecursion P xs → IfSome r (λ b. P b.now)
found_if P test xs None e ps = tt
found_if P test xs (Some b) e ps = found_holds P test xs b.now (sym e) ps
