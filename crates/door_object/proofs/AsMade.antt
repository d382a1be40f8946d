-- The doors as they were made stay the same as doors change, and what is kept beside the doors asks for no more of them.
use Rattle.std.proofs.Common.{◌≡◌, ◌∙◌, ℕ, ◌==◌, Bool, true, false, List, [], ◌∷◌, Option, None, Some, ◌++◌, cond, drop, filter, if◌then◌else◌, length, map, take, refl, sym, ap, arith}
use Rattle.std.proofs.Math.Seq.{take-append_seam}
use Rattle.dk_base.specs.declared.request.Param.{Param}
use Rattle.dk_base.specs.declared.request.Param.TheVariants as param
use Rattle.dk_base.specs.ByNumber.{at_number}
use Rattle.spec_records.specs.declared.record.Door.{Door}
use Rattle.spec_records.specs.Words.{change_door, change_door_in, end_owner, has_common_door, is_notice_door, notice_doors, number_of_door, revoke_door, revoked_door, set_param, with_owner_ended, with_param}
use Rattle.spec_records.proofs.Lists.{map-map_same, map-with_at_number, same_length}
use Rattle.door_object.specs.OwnerLists.{as_made, made}

changed : (change : Door → Door) → ((x : Door) → made (change x) ≡ made x) → (doors : List Door) (d : ℕ) → as_made (change_door doors d change) ≡ as_made doors
changed change same doors d = go (at_number doors d) refl
  where
    go : (o : Option Door) → at_number doors d ≡ o → as_made (change_door_in doors d change o) ≡ as_made doors
    go None e = refl
    go (Some x) e = map-with_at_number made doors d (change x) (λ y f. let here : x ≡ y = cc in same x ∙ ap made here)

pub as_made-revoked : (doors : List Door) (d : ℕ) → as_made (revoke_door doors d) ≡ as_made doors
as_made-revoked doors d = changed revoked_door (λ x. refl) doors d

pub as_made-set : (doors : List Door) (d : ℕ) (p : Param) (value : ℕ) → as_made (set_param doors d p value) ≡ as_made doors
as_made-set doors d p value = changed (with_param p value) (alike p) doors d
  where
    alike : (p : Param) (x : Door) → made (with_param p value x) ≡ made x
    alike param.DataMax x = refl
    alike param.DataMin x = refl
    alike param.DescMax x = refl

pub as_made-ended : (doors : List Door) (p : ℕ) → as_made (end_owner doors p) ≡ as_made doors
as_made-ended doors p = map-map_same made (with_owner_ended p) (λ x. alike x (x.owner.0 == p)) doors
  where
    alike : (x : Door) (b : Bool) → made (if b then record x { owner_ended = true } else x) ≡ made x
    alike x true = refl
    alike x false = refl

pub notice_doors-as_made : (doors : List Door) → notice_doors (as_made doors) ≡ notice_doors doors
notice_doors-as_made [] = refl
notice_doors-as_made (x ∷ xs) =
    elim (is_notice_door x) as (λ b. map number_of_door (cond b (made x ∷ filter is_notice_door (as_made xs)) (filter is_notice_door (as_made xs))) ≡ map number_of_door (cond b (x ∷ filter is_notice_door xs) (filter is_notice_door xs)))
    [ true ↦ ap (λ ns. x.number ∷ ns) (notice_doors-as_made xs) | false ↦ notice_doors-as_made xs ]

pub has_common_door-as_made : (doors : List Door) (p : ℕ) → has_common_door (as_made doors) p ≡ has_common_door doors p
has_common_door-as_made [] p = refl
has_common_door-as_made (x ∷ xs) p = grind (arith, has_common_door-as_made xs p)

-- doors that were changed in place
pub as_made-written :
    (old new : List Door) (n : ℕ) → n ≡ length old → as_made new ≡ as_made old →
    as_made (take n (new ++ drop (length new) old)) ≡ as_made old
as_made-written old new n e same =
    let long : n ≡ length new = e ∙ sym (same_length made new old same) in
    ap (λ k. as_made (take k (new ++ drop (length new) old))) long ∙ ap as_made (take-append_seam new (drop (length new) old)) ∙ same
