-- Whether a list has some thread.
use Rattle.std.specs.Prelude.{Bool, true, false, List, [], ◌∷◌}
use Rattle.spec_kernel.specs.Types.{Tid}

abbrev pub is_any : List Tid → Bool
is_any [] = false
is_any (t ∷ ts) = true
