-- How many of the doors that fall in an event one pool serves: a private pool serves its own door alone.
use Rattle.std.proofs.Common.{◌≡◌, ℕ, suc, ◌+◌, ◌<◌, ◌≤◌, Bool, true, false, cond, if◌then◌else◌, List, [], ◌∷◌, Option, None, Some, count_by, drop, filter, length, map, slice_get, add-one, ap, refl, sym, subst, ◌∙◌, arith}
use Rattle.std.specs.List.{AllByRecursion}
use Rattle.std.proofs.lemmas.List.Sums.{count_by-le-length, sum_by-cons}
use Rattle.dk_base.specs.ByNumber.{at_number}
use Rattle.spec_records.specs.declared.pool.Pool.TheVariants.{Common, Private}
use Rattle.spec_records.specs.Words.{AreNumbered, is_notice_door, is_pool, is_private, notice_doors, number_of_door, pool_in}
use Rattle.spec_records.proofs.Lists.{at_number-suc}
use Rattle.spec_kernel.specs.Types.{Door, Pool}
use Rattle.server_pool.specs.Words.{IsAscending}
use Rattle.law_pools.proofs.Readers.{is_pool-self, same_number}
use Rattle.std.proofs.Math.ListN.{get_or}
use Rattle.std.proofs.Math.Seq.{drop-cons}
use Rattle.std.proofs.lemmas.List.Folds.{list_any_at}
use Rattle.spec_kernel.specs.Words.{State, pool_of}
use Rattle.kernel_store.specs.Words.{items_for, serves_any}

none_of : (p : ℕ → Bool) (k : ℕ) (xs : List ℕ) → ((d : ℕ) → p d ≡ true → d ≡ k) → AllByRecursion (λ d. k < d) xs → count_by p xs ≡ 0
none_of p k [] only a = refl
none_of p k (x ∷ xs) only a = sum_by-cons (λ d. cond (p d) 1 0) x xs ∙ go (p x) refl (none_of p k xs only a.1)
  where
    go : (b : Bool) → p x ≡ b → count_by p xs ≡ 0 → cond b 1 0 + count_by p xs ≡ 0
    go true e ih = let same : x ≡ k = only x e in let above : k < x = a.0 in absurd (omega arith)
    go false e ih = omega (arith, ih)

-- a test that only one number meets
one_of : (p : ℕ → Bool) (k : ℕ) (xs : List ℕ) → ((d : ℕ) → p d ≡ true → d ≡ k) → IsAscending xs → count_by p xs ≤ 1
one_of p k [] only o = omega arith
one_of p k (x ∷ xs) only o = subst (λ n. n ≤ 1) (sym (sum_by-cons (λ d. cond (p d) 1 0) x xs)) (go (p x) refl (one_of p k xs only o.1))
  where
    go : (b : Bool) → p x ≡ b → count_by p xs ≤ 1 → cond b 1 0 + count_by p xs ≤ 1
    go true e ih =
        let none : count_by p xs ≡ 0 = none_of p k xs only (subst (λ n. AllByRecursion (λ d. n < d) xs) (only x e) o.0) in omega (arith, none)
    go false e ih = omega (arith, ih)

-- doors are numbered by their places

abbrev IsNumberedFrom : ℕ → List Door → Type 0
IsNumberedFrom n xs = (i : ℕ) (x : Door) → slice_get xs i ≡ Some x → x.number ≡ n + i + 1

numbers_above :
    (keep : Door → Bool) (xs : List Door) (low n : ℕ) → low ≤ n → IsNumberedFrom n xs → AllByRecursion (λ d. low < d) (map number_of_door (filter keep xs))
numbers_above keep [] low n l h = tt
numbers_above keep (x ∷ xs) low n l h =
    go (keep x) (numbers_above keep xs low (n + 1) (omega arith) (λ i y e. let k : y.number ≡ n + suc i + 1 = h (suc i) y e in omega arith))
  where
    go :
        (b : Bool) → AllByRecursion (λ d. low < d) (map number_of_door (filter keep xs)) →
        AllByRecursion (λ d. low < d) (map number_of_door (if b then x ∷ filter keep xs else filter keep xs))
    go true rest = let k : x.number ≡ n + 0 + 1 = h 0 x refl in (omega arith, rest)
    go false rest = rest

numbers_ascend : (keep : Door → Bool) (xs : List Door) (n : ℕ) → IsNumberedFrom n xs → IsAscending (map number_of_door (filter keep xs))
numbers_ascend keep [] n h = tt
numbers_ascend keep (x ∷ xs) n h = go (keep x) (numbers_ascend keep xs (n + 1) next)
  where
    next : IsNumberedFrom (n + 1) xs
    next i y e = let k : y.number ≡ n + suc i + 1 = h (suc i) y e in omega arith

    first : x.number ≡ n + 1
    first = let k : x.number ≡ n + 0 + 1 = h 0 x refl in omega arith

    go : (b : Bool) → IsAscending (map number_of_door (filter keep xs)) → IsAscending (map number_of_door (if b then x ∷ filter keep xs else filter keep xs))
    go true rest = (numbers_above keep xs x.number (n + 1) (omega (arith, first)) next, rest)
    go false rest = rest

module _ (doors : List Door) (numbered : AreNumbered doors) where
  pub noticed_ascend : IsAscending (notice_doors doors)
  noticed_ascend =
      numbers_ascend is_notice_door doors 0 (λ i x e. let k : x.number ≡ suc i = numbered (suc i) x (at_number-suc doors i ∙ e) in omega arith)

  -- a private pool serves its own door alone
  serves_one : (k d : ℕ) → is_pool (Private k) (pool_in (at_number doors d)) ≡ true → d ≡ k
  serves_one k d e = go (at_number doors d) refl e
    where
      private : (x : Door) (b : Bool) → is_pool (Private k) (if b then Private x.number else Common x.owner) ≡ true → x.number ≡ k
      private x true f = sym (same_number k x.number f)
      private x false f = cc

      go : (o : Option Door) → at_number doors d ≡ o → is_pool (Private k) (pool_in o) ≡ true → d ≡ k
      go None g f = cc
      go (Some x) g f = sym (numbered d x g) ∙ private x (is_private x.attrs) f

  -- so an act that takes one place leaves the pool's room for them
  pub few_served :
      (q : Pool) (ds : List ℕ) → IsAscending ds → length ds ≤ 1280 → count_by (λ d. is_pool q (pool_in (at_number doors d))) ds < items_for q
  few_served (Common p) ds ascends few =
      let l : count_by (λ d. is_pool (Common p) (pool_in (at_number doors d))) ds ≤ length ds =
      count_by-le-length (λ d. is_pool (Common p) (pool_in (at_number doors d))) ds in omega (arith, l, few)
  few_served (Private k) ds ascends few =
      let l : count_by (λ d. is_pool (Private k) (pool_in (at_number doors d))) ds ≤ 1 =
      one_of (λ d. is_pool (Private k) (pool_in (at_number doors d))) k ds (serves_one k) ascends in omega (arith, l)

-- the door of a place in a list is among those that its pool serves
pub serves_place : (m : State) (ds : List ℕ) (i : ℕ) → i < length ds → serves_any m ds (pool_of m (get_or ds i 0)) ≡ true
serves_place m ds i l = list_any_at (λ d. is_pool (pool_of m d) (pool_of m (get_or ds i 0))) ds i 0 l (is_pool-self (pool_of m (get_or ds i 0)))

pub from_place : (ds : List ℕ) (i : ℕ) → i < length ds → drop i ds ≡ get_or ds i 0 ∷ drop (i + 1) ds
from_place ds i l = drop-cons ds i 0 l ∙ ap (λ k. get_or ds i 0 ∷ drop k ds) (sym (add-one i))
