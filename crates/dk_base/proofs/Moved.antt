-- What a read from a list in memory moves.
use Rattle.std.proofs.Common.{◌≡◌, ℕ, ◌<◌, ◌≤◌, List, [], ◌++◌, length, take, drop, arith}
use Rattle.std.specs.Prelude.{min}
use Rattle.std.proofs.lemmas.Grind.{common_steps}
use Rattle.std.proofs.lemmas.List.{take-append-drop}

-- the first n of a list are what was copied from it, and the others follow
pub moved : (rest xs more : List ℕ) (n : ℕ) → n ≤ length rest → xs ≡ take n rest → rest ≡ take n (xs ++ more) ++ drop n rest
moved rest xs more n le e = grind (arith, common_steps, take-append-drop n rest)

-- nothing is left where nothing was moved into a buffer that is not empty
pub ended : (rest : List ℕ) (piece room n : ℕ) → 1 ≤ piece → n ≡ min (min piece room) (length rest) → n ≡ 0 → 0 < room → rest ≡ []
ended rest piece room n one is none some = let z : length rest ≡ 0 = omega arith in grind (arith, common_steps)
