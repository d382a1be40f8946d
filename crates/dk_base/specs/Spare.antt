-- A list together with the number of pushes that can't fail.
use Rattle.std.specs.Prelude.{ℕ, List}

pub record RoomValue (T : Type 0) : Type 0 where
  pub items : List T
  pub spare : ℕ
