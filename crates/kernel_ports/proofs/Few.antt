-- Of what has numbers that go up there is no more than has been made.
use Rattle.std.proofs.Common.{◌≡◌, ℕ, ◌+◌, ◌<◌, ◌≤◌, List, [], ◌∷◌, length, arith}
use Rattle.spec_records.specs.Words.{IsAscending}

numbers_few : {X : Type 0} (number : X → ℕ) (xs : List X) (low made : ℕ) → low ≤ made → IsAscending number low made xs → low + length xs ≤ made
numbers_few number [] low made l h = omega (arith, l)
numbers_few number (x ∷ xs) low made l h =
    let a : low < number x = h.0 in
    let rest = numbers_few number xs (number x) made h.1 h.2 in omega (arith, a, rest)

pub few_made : {X : Type 0} (number : X → ℕ) (xs : List X) (made : ℕ) → IsAscending number 0 made xs → length xs ≤ made
few_made number xs made h = let all = numbers_few number xs 0 made (omega arith) h in omega (arith, all)
