-- The doors that take notices are numbers that pass a test.
use Rattle.std.proofs.Common.{◌≡◌, ◌≢◌, ℕ, zero, suc, ◌+◌, ◌≤◌, ◌==◌, Bool, true, false, if◌then◌else◌, List, [], ◌∷◌, ◌++◌, Option, None, Some, IsSome, length, filter, map, take, slice_get, refl, sym, ap, ap₂, ◌∙◌, arith, true≢false}
use Rattle.std.proofs.lemmas.Bool.Decides.{nat_tests}
use Rattle.std.proofs.lemmas.List.Elements.{filter-append}
use Rattle.std.proofs.lemmas.List.{map-append}
use Rattle.std.proofs.Math.Seq.{take-length}
use Rattle.dk_base.specs.ByNumber.{at_number}
use Rattle.dk_base.specs.declared.set.Attrs.{Attrs}
use Rattle.spec_records.specs.declared.record.Door.{Door}
use Rattle.spec_records.proofs.Lists.{at_number-push, at_number-suc, numbered_there}
use Rattle.spec_records.specs.Words.{AreNumbered, is_notice_door, new_door, notice_doors, number_of_door, numbers_where, takes_notices_in, with_door}

take-next : {X : Type 0} (xs : List X) (n : ℕ) (x : X) → slice_get xs n ≡ Some x → take (suc n) xs ≡ take n xs ++ x ∷ []
take-next [] n x e = cc
take-next (y ∷ ys) zero x e = grind arith
take-next (y ∷ ys) (suc n) x e = ap (λ zs. y ∷ zs) (take-next ys n x e)

notice_doors_below :
    (doors : List Door) (n : ℕ) → AreNumbered doors → n ≤ length doors →
    map number_of_door (filter is_notice_door (take n doors)) ≡ numbers_where (λ d. takes_notices_in (at_number doors d)) n
notice_doors_below doors zero numbered h = refl
notice_doors_below doors (suc n) numbered h =
    go (notice_doors_below doors n numbered (omega arith)) (at_number doors (suc n)) refl (numbered_there doors (suc n) (omega arith) h)
  where
    one : (x : Door) → at_number doors (suc n) ≡ Some x → (b : Bool) →
        map number_of_door (if b then x ∷ [] else []) ≡ (if b then suc n ∷ [] else [])
    one x e true = ap (λ k. k ∷ []) (numbered (suc n) x e)
    one x e false = refl

    go :
        map number_of_door (filter is_notice_door (take n doors)) ≡ numbers_where (λ d. takes_notices_in (at_number doors d)) n →
        (o : Option Door) → at_number doors (suc n) ≡ o → IsSome o →
        map number_of_door (filter is_notice_door (take (suc n) doors)) ≡ numbers_where (λ d. takes_notices_in (at_number doors d)) n ++ (if takes_notices_in o then suc n ∷ [] else [])
    go ih None e s = absurd (true≢false (sym s))
    go ih (Some x) e s =
        ap (λ xs. map number_of_door (filter is_notice_door xs)) (take-next doors n x (sym (at_number-suc doors n) ∙ e))
        ∙ ap (map number_of_door) (filter-append is_notice_door (take n doors) (x ∷ []))
        ∙ map-append number_of_door (filter is_notice_door (take n doors)) (filter is_notice_door (x ∷ []))
        ∙ ap₂ (λ ds es. ds ++ es) ih (one x e (is_notice_door x))

pub notice_doors_numbered : (doors : List Door) → AreNumbered doors → notice_doors doors ≡ numbers_where (λ d. takes_notices_in (at_number doors d)) (length doors)
notice_doors_numbered doors numbered =
    ap (λ xs. map number_of_door (filter is_notice_door xs)) (sym (take-length doors))
    ∙ notice_doors_below doors (length doors) numbered (omega arith)

-- another door has the next number
pub AreNumbered-with_door : (doors : List Door) (p entry cookie : ℕ) (attrs : Attrs) → AreNumbered doors → AreNumbered (with_door doors p entry cookie attrs)
AreNumbered-with_door doors p entry cookie attrs numbered d x e =
    go (d == suc (length doors)) refl (sym (at_number-push doors (new_door (length doors + 1) p entry cookie attrs) d) ∙ e)
  where
    go : (b : Bool) → (d == suc (length doors)) ≡ b → (if b then Some (new_door (length doors + 1) p entry cookie attrs) else at_number doors d) ≡ Some x → x.number ≡ d
    go true k f =
        let number : length doors + 1 ≡ x.number = cc in
        let here : d ≡ suc (length doors) = grind (arith, nat_tests) in
        omega (arith, number, here)
    go false k f = numbered d x f
