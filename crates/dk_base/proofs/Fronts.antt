-- The front of a text grows by what follows it.
use Rattle.std.proofs.Common.{◌≡◌, ℕ, ◌+◌, ◌-◌, List, ◌++◌, length, take, drop, subst, arith}
use Rattle.std.specs.Prelude.{Option}
use Rattle.std.specs.Io.KnownBytes.{Appends}
use Rattle.std.proofs.KnownBytes.{Appends-trans}
use Rattle.std.proofs.lemmas.Grind.{common_steps}
use Rattle.std.proofs.lemmas.List.{take-append-drop, drop-take}

pub front-add : (text : List ℕ) (at n : ℕ) → take at text ++ take n (drop at text) ≡ take (at + n) text
front-add text at n = grind (arith, common_steps, take-append-drop at (take (at + n) text), drop-take at n text)

-- what is held grew by the front of a text, and then by the first of the others
pub Appends-front : (first next last : Option (List ℕ)) (text : List ℕ) (at n : ℕ)
    → Appends first next (take at text) → Appends next last (take n (take (length text - at) (drop at text)))
    → Appends first last (take (at + n) text)
Appends-front first next last text at n before now =
    let whole : take (length text - at) (drop at text) ≡ drop at text = grind (arith, common_steps) in
    let then = subst (λ (xs : List ℕ). Appends next last (take n xs)) whole now in
    subst (λ (xs : List ℕ). Appends first last xs) (front-add text at n) (Appends-trans first next last (take at text) (take n (drop at text)) before then)
