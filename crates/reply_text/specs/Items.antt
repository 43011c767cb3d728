-- The items of an array while it is made.
use Rattle.std.specs.Prelude.{ℕ}
use Rattle.byte_text.specs.Names.{Bytes}

-- the texts of their frames, one behind another, and how many they are
pub record Items : Type 0 where
  pub text : Bytes
  pub count : ℕ
