-- Lists whose items have rising numbers, such as deadlines, and which of two such lists goes on.
use Rattle.std.specs.Prelude.{ℕ, ◌≤◌, Bool, false, List, [], ◌∷◌}
use Rattle.std.specs.List.{AllByRecursion}
use Rattle.world_data.specs.Expiry.{goes_before}
use Rattle.world_data.specs.declared.channels.Channel.{Channel}
use Rattle.world_data.specs.declared.objects.Object.{Object}

-- no item has a greater number than one behind it
abbrev pub Rise : {A : Type 0} → (A → ℕ) → List A → Type 0
Rise key [] = Unit {0}
Rise key (x ∷ xs) = AllByRecursion (λ y. key x ≤ key y) xs × Rise key xs

-- the first of the channels, if there is one, goes before the object
abbrev pub first_goes : Object → List Channel → Bool
first_goes o [] = false
first_goes o (c ∷ channels) = goes_before o c
