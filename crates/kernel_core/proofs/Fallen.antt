-- The doors whose references have fallen to one after an act are among those that were watched before it, in the same order.
use Rattle.std.proofs.Common.{◌≡◌, ℕ, ◌≤◌, Bool, true, false, if◌then◌else◌, true≢false, ◌==◌, ◌&&◌, nat_lt, List, [], ◌∷◌, Option, None, Some, IsSome, filter, length, refl, sym, ap, ◌∙◌, arith}
use Rattle.std.proofs.lemmas.Bool.Decides.{nat_tests}
use Rattle.spec_kernel.specs.Types.{Door}
use Rattle.spec_records.specs.Words.{AreNumbered, notice_doors, takes_notices, takes_notices_in}
use Rattle.spec_kernel.specs.Words.{State, door_of, falls_to_one, reference_count}
use Rattle.spec_records.proofs.Lists.{numbered_past, numbered_there, numbered_within}
use Rattle.unref_notice.specs.Words.{was_shared}
use Rattle.kernel_store.specs.Words.{HasBegun, StoreValue, has_fallen_since, stored_state}
use Rattle.kernel_core.specs.Watched.{BeganIn, IsKeptDoor, KeepsDoors, fallen, is_watched, watched}
use Rattle.dk_base.proofs.NumbersWhere.{filter-numbers_where, numbers_where-past, numbers_where-same}
use Rattle.spec_records.proofs.DoorNumbers.{notice_doors_numbered}
use Rattle.law_pools.proofs.WaitingLists.{same_filter}

filter-both : (p q : ℕ → Bool) (ds : List ℕ) → filter (λ d. p d && q d) ds ≡ filter q (filter p ds)
filter-both p q [] = refl
filter-both p q (d ∷ ds) = go (p d) (filter-both p q ds)
  where
    go :
        (b : Bool) → filter (λ d. p d && q d) ds ≡ filter q (filter p ds) →
        (if b && q d then d ∷ filter (λ d. p d && q d) ds else filter (λ d. p d && q d) ds) ≡ filter q (if b then d ∷ filter p ds else filter p ds)
    go true ih = ap (λ (es : List ℕ). if q d then d ∷ es else es) ih
    go false ih = ih

no_fewer : (m n : State) → KeepsDoors m n → length m.doors ≤ length n.doors
no_fewer m n h = go (nat_lt 0 (length m.doors)) refl
  where
    at : (o : Option Door) → door_of m (length m.doors) ≡ o → IsSome o → length m.doors ≤ length n.doors
    at None e s = absurd (true≢false (sym s))
    at (Some x) e s = let k : IsKeptDoor x (door_of n (length m.doors)) = h.kept (length m.doors) x e in (numbered_within n.doors (length m.doors) k.door k.there).1

    go : (b : Bool) → nat_lt 0 (length m.doors) ≡ b → length m.doors ≤ length n.doors
    go true e = at (door_of m (length m.doors)) refl (numbered_there m.doors (length m.doors) (grind (arith, nat_tests)) (omega arith))
    go false e = grind (arith, nat_tests)

abbrev pub has_one : State → ℕ → Bool
has_one n d = reference_count n d == 1

-- a door that was not there had no reference, and the others take notices as before
watched_at :
    (m : State) (s : StoreValue) (d : ℕ) → KeepsDoors m (stored_state s) → HasBegun s m →
    (takes_notices_in (door_of (stored_state s) d) && is_watched m d) ≡ (takes_notices_in (door_of m d) && is_watched m d)
watched_at m s d h o = go (door_of m d) refl
  where
    none : (b : Bool) → (b && false) ≡ false
    none true = refl
    none false = refl

    takes : Bool
    takes = takes_notices_in (door_of (stored_state s) d)

    go : (x : Option Door) → door_of m d ≡ x → (takes && is_watched m d) ≡ (takes_notices_in x && is_watched m d)
    go None e = ap (λ k. takes && nat_lt 1 k) (sym (o.counts d) ∙ o.none d e) ∙ none takes
    go (Some x) e =
        let k : IsKeptDoor x (door_of (stored_state s) d) = h.kept d x e in
        ap (λ b. b && is_watched m d) (ap takes_notices_in k.there ∙ ap takes_notices k.same.attrs)

module _ {m : State} {s : StoreValue} (w : BeganIn m s) where
  abbrev n : State
  n = stored_state s

  watched_after : AreNumbered n.doors → filter (is_watched m) (notice_doors n.doors) ≡ watched m
  watched_after numbered =
      ap (filter (is_watched m)) (notice_doors_numbered n.doors numbered)
      ∙ filter-numbers_where (is_watched m) (λ d. takes_notices_in (door_of n d)) (length n.doors)
      ∙ numbers_where-same (λ d. takes_notices_in (door_of n d) && is_watched m d) (λ d. takes_notices_in (door_of m d) && is_watched m d)
      (λ d. watched_at m s d w.doors w.opened) (length n.doors)
      ∙ numbers_where-past (λ d. takes_notices_in (door_of m d) && is_watched m d) (length m.doors) (length n.doors) (no_fewer m n w.doors)
      (λ d l. ap (λ x. takes_notices_in x && is_watched m d) (numbered_past m.doors d l))
      ∙ sym (filter-numbers_where (is_watched m) (λ d. takes_notices_in (door_of m d)) (length m.doors))
      ∙ ap (filter (is_watched m)) (sym (notice_doors_numbered m.doors w.doors.numbered))

  -- the doors that had more than one reference when the step began
  pub shared_after : AreNumbered n.doors → filter (was_shared s.opening) (notice_doors n.doors) ≡ watched m
  shared_after numbered =
      same_filter (was_shared s.opening) (is_watched m) (notice_doors n.doors) (λ i d e. ap (nat_lt 1) (w.opened.counts d)) ∙ watched_after numbered

  -- what the end of the step lists
  pub fallen_is : filter (has_fallen_since s.opening n) (notice_doors n.doors) ≡ fallen m n
  fallen_is =
      same_filter (has_fallen_since s.opening n) (falls_to_one m n) (notice_doors n.doors)
      (λ i d e. ap (λ k. nat_lt 1 k && (reference_count n d == 1)) (w.opened.counts d))

  pub fallen_watched : AreNumbered n.doors → fallen m n ≡ filter (has_one n) (watched m)
  fallen_watched numbered = filter-both (is_watched m) (has_one n) (notice_doors n.doors) ∙ ap (filter (has_one n)) (watched_after numbered)
