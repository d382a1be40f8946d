-- The doors that are due after an act are those that take notices, whose references have fallen to one, and that may have a notice; and
-- what is made of them one by one is what the written kernel makes.
use Rattle.std.proofs.Common.{◌≡◌, ℕ, zero, suc, ◌+◌, ◌<◌, Bool, true, false, if◌then◌else◌, not, ◌==◌, ◌&&◌, ◌||◌, List, [], ◌∷◌, ◌++◌, Option, None, Some, length, filter, refl, sym, subst, ap, ap₂, ◌∙◌, arith, append-nil}
use Rattle.std.proofs.lemmas.Bool.Decides.{nat_tests}
use Rattle.std.specs.List.{list_any}
use Rattle.spec_kernel.specs.Types.{Door}
use Rattle.spec_records.specs.Words.{AreNumbered, has_notice, has_unref_multi, is_notice_of, is_valid_door, make_notice, new_notice, notice_doors, numbers_where, takes_notices, takes_notices_in}
use Rattle.spec_kernel.specs.Words.{State, door_of, falls_to_one, is_due, make_notices, now}
use Rattle.spec_kernel.proofs.Notices.{due_among, due_doors, is_number, list_any-append, make_notices-due, with_made}
use Rattle.spec_kernel.proofs.Settling.{with_notice_of}
use Rattle.dk_base.proofs.NumbersWhere.{filter-numbers_where, numbers_where-same}
use Rattle.spec_records.proofs.DoorNumbers.{notice_doors_numbered}
use Rattle.kernel_store.specs.Words.{may_have_notice_in}
use Rattle.kernel_core.specs.Watched.{fallen, make_of}

-- a door that is due takes notices, its references have fallen to one, and it may have a notice

abbrev pub may_have : State → ℕ → Bool
may_have n d = may_have_notice_in n d (door_of n d)

due_at : (m n : State) (d : ℕ) → is_due m n d (door_of n d) ≡ ((takes_notices_in (door_of n d) && falls_to_one m n d) && may_have n d)
due_at m n d = go (door_of n d)
  where
    parts : (u v w f : Bool) → (((u && v) && w) && f) ≡ ((u && f) && ((u && v) && w))
    parts u v w f = grind arith

    go : (o : Option Door) → is_due m n d o ≡ ((takes_notices_in o && falls_to_one m n d) && may_have_notice_in n d o)
    go None = refl
    go (Some x) =
        parts (takes_notices x.attrs) (is_valid_door x) (has_unref_multi x.attrs || not (has_notice n.notice_list d)) (falls_to_one m n d)

due_among-is : (m n : State) (k : ℕ) → due_among m n k ≡ numbers_where (λ d. is_due m n d (door_of n d)) k
due_among-is m n zero = refl
due_among-is m n (suc k) = ap (λ ds. ds ++ (if is_due m n (suc k) (door_of n (suc k)) then suc k ∷ [] else [])) (due_among-is m n k)

pub due_doors-fallen : (m n : State) → AreNumbered n.doors → due_doors m n ≡ filter (may_have n) (fallen m n)
due_doors-fallen m n numbered =
    due_among-is m n (length n.doors)
    ∙ numbers_where-same (λ d. is_due m n d (door_of n d)) (λ d. (takes_notices_in (door_of n d) && falls_to_one m n d) && may_have n d) (due_at m n) (length n.doors)
    ∙ sym (filter-numbers_where (may_have n) (λ d. takes_notices_in (door_of n d) && falls_to_one m n d) (length n.doors))
    ∙ ap (filter (may_have n)) (sym (filter-numbers_where (falls_to_one m n) (λ d. takes_notices_in (door_of n d)) (length n.doors)))
    ∙ ap (λ ds. filter (may_have n) (filter (falls_to_one m n) ds)) (sym (notice_doors_numbered n.doors numbered))

-- each is listed once

abbrev pub AreApart : List ℕ → Type 0
AreApart [] = Unit {0}
AreApart (d ∷ ds) = (list_any (is_number d) ds ≡ false) × AreApart ds

apart-push : (ds : List ℕ) (e : ℕ) → AreApart ds → list_any (is_number e) ds ≡ false → AreApart (ds ++ e ∷ [])
apart-push [] e a n = (refl, tt)
apart-push (d ∷ ds) e a n = (
  list_any-append (is_number d) ds (e ∷ []) ∙ last (list_any (is_number d) ds) a.0 (e == d) (grind (arith, nat_tests)),
  apart-push ds e a.1 (grind arith),
)
  where
    last : (b : Bool) → b ≡ false → (c : Bool) → c ≡ false → (b || (c || false)) ≡ false
    last b e c f = grind arith

numbers_where-within : (p : ℕ → Bool) (n d : ℕ) → n < d → list_any (is_number d) (numbers_where p n) ≡ false
numbers_where-within p zero d h = refl
numbers_where-within p (suc n) d h =
    list_any-append (is_number d) (numbers_where p n) (if p (suc n) then suc n ∷ [] else [])
    ∙ ap₂ (λ b c. b || c) (numbers_where-within p n d (omega arith)) (go (p (suc n)))
  where
    go : (b : Bool) → list_any (is_number d) (if b then suc n ∷ [] else []) ≡ false
    go true = grind (arith, nat_tests)
    go false = refl

numbers_where-apart : (p : ℕ → Bool) (n : ℕ) → AreApart (numbers_where p n)
numbers_where-apart p zero = tt
numbers_where-apart p (suc n) = go (p (suc n)) (numbers_where-apart p n)
  where
    go : (b : Bool) → AreApart (numbers_where p n) → AreApart (numbers_where p n ++ (if b then suc n ∷ [] else []))
    go true a = apart-push (numbers_where p n) (suc n) a (numbers_where-within p n (suc n) (omega arith))
    go false a = subst AreApart (sym (append-nil (numbers_where p n))) a

none-filter : (q p : ℕ → Bool) (ds : List ℕ) → list_any q ds ≡ false → list_any q (filter p ds) ≡ false
none-filter q p [] h = refl
none-filter q p (d ∷ ds) h = go (p d) (none-filter q p ds (grind arith))
  where
    go : (b : Bool) → list_any q (filter p ds) ≡ false → list_any q (if b then d ∷ filter p ds else filter p ds) ≡ false
    go true ih = grind arith
    go false ih = ih

apart-filter : (p : ℕ → Bool) (ds : List ℕ) → AreApart ds → AreApart (filter p ds)
apart-filter p [] a = tt
apart-filter p (d ∷ ds) a = go (p d) (apart-filter p ds a.1)
  where
    go : (b : Bool) → AreApart (filter p ds) → AreApart (if b then d ∷ filter p ds else filter p ds)
    go true ih = (none-filter (is_number d) p ds a.0, ih)
    go false ih = ih

fallen-apart : (m n : State) → AreNumbered n.doors → AreApart (fallen m n)
fallen-apart m n numbered =
    apart-filter (falls_to_one m n) (notice_doors n.doors)
    (subst AreApart (sym (notice_doors_numbered n.doors numbered)) (numbers_where-apart (λ d. takes_notices_in (door_of n d)) (length n.doors)))

-- a notice of one door leaves whether another may have one

may_have-other : (m : State) (d e : ℕ) → (e == d) ≡ false → may_have (with_notice_of m d) e ≡ may_have m e
may_have-other m d e h = go (door_of m e)
  where
    had : has_notice (make_notice m.notice_list (now m) d) e ≡ has_notice m.notice_list e
    had =
        list_any-append (is_notice_of e) m.notice_list.notices (new_notice (m.notice_list.made + 1) (now m) d ∷ [])
        ∙ last (has_notice m.notice_list e) (d == e) (grind (arith, nat_tests))
      where
        last : (b c : Bool) → c ≡ false → (b || (c || false)) ≡ b
        last true c h = refl
        last false c h = grind arith

    go : (o : Option Door) → may_have_notice_in (with_notice_of m d) e o ≡ may_have_notice_in m e o
    go None = refl
    go (Some x) = ap (λ b. takes_notices x.attrs && is_valid_door x && (has_unref_multi x.attrs || not b)) had

may_have-others :
    (m : State) (d : ℕ) (ds : List ℕ) → list_any (is_number d) ds ≡ false → filter (may_have (with_notice_of m d)) ds ≡ filter (may_have m) ds
may_have-others m d [] h = refl
may_have-others m d (e ∷ es) h =
    ap₂ (λ (b : Bool) (fs : List ℕ). if b then e ∷ fs else fs) (may_have-other m d e (grind arith)) (may_have-others m d es (grind arith))

-- what the kernel makes one by one
make_of-made : (m : State) (ds : List ℕ) → AreApart ds → make_of m ds ≡ with_made m (filter (may_have m) ds)
make_of-made m [] a = refl
make_of-made m (d ∷ ds) a = go (make_of-made (with_notice_of m d) ds a.1) (make_of-made m ds a.1) (may_have m d)
  where
    go :
        make_of (with_notice_of m d) ds ≡ with_made (with_notice_of m d) (filter (may_have (with_notice_of m d)) ds) →
        make_of m ds ≡ with_made m (filter (may_have m) ds) → (b : Bool) → make_of (if b then with_notice_of m d else m) ds ≡ with_made m (if b then d ∷ filter (may_have m) ds else filter (may_have m) ds)
    go with_it without true = with_it ∙ ap (with_made (with_notice_of m d)) (may_have-others m d ds a.0)
    go with_it without false = without

pub make_of-is : (m n : State) → AreNumbered n.doors → make_of n (fallen m n) ≡ make_notices m n
make_of-is m n numbered =
    make_of-made n (fallen m n) (fallen-apart m n numbered)
    ∙ ap (with_made n) (sym (due_doors-fallen m n numbered))
    ∙ sym (make_notices-due m n)
