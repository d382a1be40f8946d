-- The list of doors after a change of one door, and the readers that see it.
use Rattle.std.proofs.Common.{◌≡◌, ℕ, ◌==◌, Bool, true, false, if◌then◌else◌, List, Option, None, Some, option_map, map, refl, ap, ◌∙◌, arith}
use Rattle.std.proofs.lemmas.Bool.Decides.{nat_tests}
use Rattle.spec_kernel.specs.Types.{Door}
use Rattle.dk_base.specs.ByNumber.{at_number}
use Rattle.spec_records.specs.Words.{change_door, change_door_in, end_owner, with_owner_ended}
use Rattle.spec_records.proofs.Lists.{at_number-renumbered_there, map-map_same, map-with_at_number}

-- a reader that does not see the change reads the same doors
pub map-change_door :
    {Y : Type 0} (f : Door → Y) (doors : List Door) (d : ℕ) (change : Door → Door) → ((x : Door) → f (change x) ≡ f x) →
    map f (change_door doors d change) ≡ map f doors
map-change_door f doors d change same = go (at_number doors d) refl
  where
    go : (o : Option Door) → at_number doors d ≡ o → map f (change_door_in doors d change o) ≡ map f doors
    go None e = refl
    go (Some x) e = map-with_at_number f doors d (change x) (λ y h. let k : x ≡ y = cc in same x ∙ ap f k)

pub at_number-change_door :
    (doors : List Door) (d k : ℕ) (change : Door → Door) →
    at_number (change_door doors d change) k ≡ (if k == d then option_map change (at_number doors d) else at_number doors k)
at_number-change_door doors d k change = go (at_number doors d) refl
  where
    there : (b : Bool) → (k == d) ≡ b → at_number doors d ≡ None → at_number doors k ≡ (if b then None else at_number doors k)
    there true f e = ap (at_number doors) (grind (arith, nat_tests)) ∙ e
    there false f e = refl

    go :
        (o : Option Door) → at_number doors d ≡ o →
        at_number (change_door_in doors d change o) k ≡ (if k == d then option_map change o else at_number doors k)
    go None e = there (k == d) refl e
    go (Some x) e = at_number-renumbered_there doors d k (change x) x e

-- doors after their owner ended

-- a reader that sees no end of an owner
pub with_owner_ended-same :
    {Y : Type 0} (f : Door → Y) → ((x : Door) → f (record x { owner_ended = true }) ≡ f x) → (p : ℕ) (x : Door) →
    f (with_owner_ended p x) ≡ f x
with_owner_ended-same f same p x = go (x.owner.0 == p)
  where
    go : (b : Bool) → f (if b then record x { owner_ended = true } else x) ≡ f x
    go true = same x
    go false = refl

pub map-end_owner :
    {Y : Type 0} (f : Door → Y) → ((x : Door) → f (record x { owner_ended = true }) ≡ f x) → (doors : List Door) (p : ℕ) →
    map f (end_owner doors p) ≡ map f doors
map-end_owner f same doors p = map-map_same f (with_owner_ended p) (with_owner_ended-same f same p) doors
