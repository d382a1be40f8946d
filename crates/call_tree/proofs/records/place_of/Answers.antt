use Rattle.std.proofs.Common.{◌≡◌, ◌≤◌, ◌+◌, Bool, not, List, [], ◌∷◌, None, length, position, cond, arith, true, false, sym, ◌==◌}
use Rattle.std.specs.List.{position_or_len}
use Rattle.std.proofs.lemmas.Bool.Decides.{nat_tests}
use Rattle.spec_records.proofs.Places.{position_is}
use Rattle.call_tree.proofs.records.place_of.Goals as goal

at_most : {X : Type 0} (p : X → Bool) (xs : List X) → position_or_len p xs ≤ length xs
at_most p [] = omega arith
at_most p (x ∷ xs) = elim (p x) as (λ b. cond (not b) (1 + position_or_len p xs) 0 ≤ length (x ∷ xs)) [ true ↦ omega arith | false ↦ omega (arith, at_most p xs) ]

none_there : {X : Type 0} (p : X → Bool) (xs : List X) → position p xs ≡ None → length xs ≤ position_or_len p xs
none_there p xs h = grind (arith, nat_tests)

pub returns-in-Some : goal.returns-in-Some
returns-in-Some c = position_is (λ k. k == c.args.key) c.args.order.now c.in-Some.place (sym c.in-Some.ensures)

pub returns-in-None : goal.returns-in-None
returns-in-None c = omega (arith, none_there (λ k. k == c.args.key) c.args.order.now (sym c.in-None.ensures), at_most (λ k. k == c.args.key) c.args.order.now)
