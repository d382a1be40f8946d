-- Lists of objects that have changed, as code has them.
use Rattle.std.specs.Prelude.{◌≡◌, ◌+◌, ◌≤◌, ◌||◌, List, [], ◌∷◌, Bool, true, false, cond, count_by, map}
use Rattle.std.specs.List.{list_any}
use Rattle.std.proofs.Common.{refl, ap}
use native.Mathlib.Omega.{arith}
use Rattle.std.proofs.lemmas.List.Sums.{sum_by-cons}
use Rattle.spec_kernel.specs.Types.{Obj}
use Rattle.spec_kernel.specs.Words.{State}
use Rattle.spec_records.specs.declared.association.Association.{Association}
use Rattle.spec_records.specs.Words.{count_object, is_object, watches}
use Rattle.law_channels.specs.Changed.{ListsGone, is_gone}
use Rattle.law_channels.specs.Ends.{is_end}

-- by how often an object is listed

any_counted : {X : Type 0} (test : X → Bool) (xs : List X) → 1 ≤ count_by test xs → list_any test xs ≡ true
any_counted test [] h = absurd (omega arith)
any_counted test (x ∷ xs) h = go (test x) (sum_by-cons (λ y. cond (test y) 1 0) x xs) (any_counted test xs)
  where
    go :
        (b : Bool) → count_by test (x ∷ xs) ≡ cond b 1 0 + count_by test xs → (1 ≤ count_by test xs → list_any test xs ≡ true) →
        b || list_any test xs ≡ true
    go true e rest = refl
    go false e rest = rest (omega (arith, e, h))

pub lists_gone-counted :
    (before after : State) (gone : List Obj) →
    ((o : Obj) → is_end o ≡ true → is_gone before after o ≡ true → 1 ≤ count_object o gone) → ListsGone before after gone
lists_gone-counted before after gone h o e f = any_counted (is_object o) gone (h o e f)

-- and where it is listed with something else
pub watched-map :
    {X : Type 0} (object : X → Obj) (cs : List X) (a : Association) →
    list_any (λ c. watches (object c) a) cs ≡ list_any (λ o. watches o a) (map object cs)
watched-map object [] a = refl
watched-map object (c ∷ cs) a = ap (λ b. watches (object c) a || b) (watched-map object cs a)
