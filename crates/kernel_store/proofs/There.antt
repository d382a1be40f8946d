-- The doors are there that anything refers to.
use Rattle.std.proofs.Common.{◌≡◌, ℕ, ◌+◌, ◌≤◌, ◌==◌, Bool, true, false, cond, List, [], ◌∷◌, ◌++◌, Option, None, Some, is_some, length, length-append, refl, ap, ◌∙◌, arith}
use Rattle.std.proofs.lemmas.Bool.Decides.{nat_tests}
use Rattle.std.proofs.lemmas.List.Sums.{sum_by-cons}
use Rattle.std.specs.Prelude.{IfSome}
use Rattle.dk_base.specs.ByNumber.{at_number}
use Rattle.dk_base.specs.declared.object.Obj.TheVariants as obj
use Rattle.spec_records.specs.Words.{count_object, is_object}
use Rattle.spec_records.proofs.Lists.{is_some-at_number}
use Rattle.kernel_holdings.specs.Words.{HoldingsValue, references_of}
use Rattle.spec_kernel.specs.Types.{Door, Obj}
use Rattle.kernel_store.specs.Stored.{AreThere, ReferToDoors}

none_before : (doors after : List Door) (d : ℕ) → length doors ≤ length after → at_number after d ≡ None → at_number doors d ≡ None
none_before doors after d l none = none_is (at_number doors d) (grind (arith, nat_tests, is_some-at_number doors d, is_some-at_number after d, ap is_some none))
  where
    none_is : (o : Option Door) → is_some o ≡ false → o ≡ None
    none_is None h = refl
    none_is (Some x) h = cc

-- with no fewer doors
pub there_doors : (doors after : List Door) (held : HoldingsValue) → length doors ≤ length after → ReferToDoors doors held → ReferToDoors after held
there_doors doors after held l there d none = there d (none_before doors after d l none)

-- references go
pub there_fewer : (doors : List Door) (held now : HoldingsValue) → ReferToDoors doors held → ((o : Obj) → references_of now o ≤ references_of held o) → ReferToDoors doors now
there_fewer doors held now there fewer d none = omega (arith, there d none, fewer (obj.Door d))

-- or come, to doors that are there
pub there_more :
    (doors : List Door) (held now : HoldingsValue) (objects : List Obj) → ReferToDoors doors held → AreThere doors objects →
    ((o : Obj) → references_of now o ≤ references_of held o + count_object o objects) → ReferToDoors doors now
there_more doors held now objects there are more d none = omega (arith, there d none, are d none, more (obj.Door d))

-- what is held is there
pub held_there : (doors : List Door) (held : HoldingsValue) (objects : List Obj) → ReferToDoors doors held → ((o : Obj) → count_object o objects ≤ references_of held o) → AreThere doors objects
held_there doors held objects there within d none = omega (arith, there d none, within (obj.Door d))

pub found_there :
    (doors : List Door) (held : HoldingsValue) (x : Option Obj) → ReferToDoors doors held → IfSome x (λ y. (o : Obj) → count_object o (y ∷ []) ≤ references_of held o) →
    IfSome x (λ y. AreThere doors (y ∷ []))
found_there doors held None there within = tt
found_there doors held (Some y) there within = held_there doors held (y ∷ []) there within

-- the last door is there
pub last_there : (doors : List Door) (x : Door) (n : ℕ) → n ≡ length doors + 1 → AreThere (doors ++ x ∷ []) (obj.Door n ∷ [])
last_there doors x n last d none = go (d == n) refl
  where
    go : (b : Bool) → (d == n) ≡ b → count_object (obj.Door d) (obj.Door n ∷ []) ≡ 0
    go true e = absurd (grind (arith, nat_tests, is_some-at_number (doors ++ x ∷ []) d, ap is_some none, length-append doors (x ∷ []), last))
    go false e = sum_by-cons (λ o. cond (is_object (obj.Door d) o) 1 0) (obj.Door n) [] ∙ ap {B = ℕ} (λ b. cond b 1 0 + 0) e
