-- What the making of notices does: it changes the list of notices alone, and adds one for each door that is due; none where no
-- references have changed.
use Rattle.std.proofs.Common.{◌≡◌, ℕ, zero, suc, ◌+◌, ◌<◌, ◌≤◌, Bool, true, false, if◌then◌else◌, not, ◌==◌, ◌&&◌, ◌||◌, nat_lt, List, [], ◌∷◌, ◌++◌, Option, None, Some, length, refl, sym, ap, ap₂, ◌∙◌, arith, append-nil, true≢false}
use Rattle.std.specs.List.{list_any}
use Rattle.std.proofs.lemmas.Bool.Decides.{nat_tests}
use Rattle.spec_kernel.specs.Types.{Door}
use Rattle.spec_records.specs.Words.{NoticeList, has_notice, has_unref_multi, is_notice_of, is_valid_door, make_notice, new_notice, takes_notices}
use Rattle.spec_kernel.specs.Notices.{falls_to_one, is_due, make_each, make_notices, make_one, may_have_notice, reference_count}
use Rattle.spec_kernel.specs.State.{State, door_of, now}
use Rattle.spec_kernel.proofs.NoticeLists.{new_notices, notices-with_new_notices, with_new_notices, with_new_notices-push}
use Rattle.spec_kernel.proofs.Settling.{make_notices-alone, with_notice_of}

-- what stays

pub doors-make_notices : (before m : State) → (make_notices before m).doors ≡ m.doors
doors-make_notices before m = ap (λ (n : State). n.doors) (make_notices-alone before m)

-- whether a door is due

is_due-refused : (before m : State) (d : ℕ) → falls_to_one before m d ≡ false → (o : Option Door) → is_due before m d o ≡ false
is_due-refused before m d e None = refl
is_due-refused before m d e (Some x) = ap (λ b. may_have_notice m d x && b) e ∙ none (may_have_notice m d x)
  where
    none : (b : Bool) → (b && false) ≡ false
    none true = refl
    none false = refl

pub falls_to_one-same : (before m : State) (d : ℕ) → reference_count m d ≡ reference_count before d → falls_to_one before m d ≡ false
falls_to_one-same before m d e =
    ap (λ n. nat_lt 1 (reference_count before d) && (n == 1)) e ∙ go (reference_count before d)
  where
    go : (n : ℕ) → (nat_lt 1 n && (n == 1)) ≡ false
    go n = grind (arith, nat_tests)

-- what is_due says

pub record IsDue (before m : State) (d : ℕ) : Type 0 where
  pub door : Door
  pub there : door_of m d ≡ Some door
  pub may : may_have_notice m d door ≡ true
  pub falls : falls_to_one before m d ≡ true

pub due_is : (before m : State) (d : ℕ) → is_due before m d (door_of m d) ≡ true → IsDue before m d
due_is before m d e = go (door_of m d) refl e
  where
    both : (b c : Bool) → b && c ≡ true → (b ≡ true) × (c ≡ true)
    both true true e = (refl, refl)
    both true false e = absurd (true≢false (sym e))
    both false c e = absurd (true≢false (sym e))

    go : (o : Option Door) → door_of m d ≡ o → is_due before m d o ≡ true → IsDue before m d
    go None f e = absurd (true≢false (sym e))
    go (Some x) f e =
        let k : (may_have_notice m d x ≡ true) × (falls_to_one before m d ≡ true) =
        both (may_have_notice m d x) (falls_to_one before m d) e in
        record { door = x; there = f; may = k.0; falls = k.1 }

-- where the references of no door fall to one, none is made

make_each-none : (before m : State) (n : ℕ) → ((d : ℕ) → falls_to_one before m d ≡ false) → make_each before m n ≡ m
make_each-none before m zero h = refl
make_each-none before m (suc n) h =
    ap (λ k. make_one before k (suc n)) (make_each-none before m n h)
    ∙ ap (λ b. if b then with_notice_of m (suc n) else m) (is_due-refused before m (suc n) (h (suc n)) (door_of m (suc n)))

pub make_notices-none : (before m : State) → ((d : ℕ) → falls_to_one before m d ≡ false) → make_notices before m ≡ m
make_notices-none before m h = make_each-none before m (length m.doors) h

pub make_notices-same_counts :
    (before m : State) → ((d : ℕ) → reference_count m d ≡ reference_count before d) → make_notices before m ≡ m
make_notices-same_counts before m h = make_notices-none before m (λ d. falls_to_one-same before m d (h d))

pub make_notices-same : (m : State) → make_notices m m ≡ m
make_notices-same m = make_notices-same_counts m m (λ d. refl)

-- the doors that are due among those of the numbers 1 to n, in order

abbrev pub due_among : State → State → ℕ → List ℕ
due_among before m zero = []
due_among before m (suc n) =
    due_among before m n ++ (if is_due before m (suc n) (door_of m (suc n)) then suc n ∷ [] else [])

abbrev pub due_doors : State → State → List ℕ
due_doors before m = due_among before m (length m.doors)

pub list_any-append :
    {X : Type 0} (p : X → Bool) (xs ys : List X) → list_any p (xs ++ ys) ≡ (list_any p xs || list_any p ys)
list_any-append p [] ys = refl
list_any-append p (x ∷ xs) ys = grind (arith, list_any-append p xs ys)

abbrev pub is_number : ℕ → ℕ → Bool
is_number d e = e == d

pub due_within : (before m : State) (n d : ℕ) → n < d → list_any (is_number d) (due_among before m n) ≡ false
due_within before m zero d h = refl
due_within before m (suc n) d h =
    list_any-append (is_number d) (due_among before m n) (if is_due before m (suc n) (door_of m (suc n)) then suc n ∷ [] else [])
    ∙ ap₂ (λ b c. b || c) (due_within before m n d (omega arith)) (go (is_due before m (suc n) (door_of m (suc n))))
  where
    go : (b : Bool) → list_any (is_number d) (if b then suc n ∷ [] else []) ≡ false
    go true = grind (arith, nat_tests)
    go false = refl

-- a door has a notice where it had one or one is made for it
pub has_notice-with_new_notices :
    (list : NoticeList) (now : ℕ) (ds : List ℕ) (d : ℕ) →
    has_notice (with_new_notices list now ds) d ≡ (has_notice list d || list_any (is_number d) ds)
has_notice-with_new_notices list now [] d = last (has_notice list d)
  where
    last : (b : Bool) → b ≡ (b || false)
    last true = refl
    last false = refl
has_notice-with_new_notices list now (e ∷ es) d =
    has_notice-with_new_notices (make_notice list now e) now es d
    ∙ ap (λ b. b || list_any (is_number d) es) (list_any-append (is_notice_of d) list.notices (new_notice (list.made + 1) now e ∷ []))
    ∙ go (has_notice list d) (e == d) (list_any (is_number d) es)
  where
    go : (a b c : Bool) → ((a || (b || false)) || c) ≡ (a || (b || c))
    go true b c = refl
    go false true c = refl
    go false false c = refl

abbrev pub with_made : State → List ℕ → State
with_made m ds = record m { notice_list = with_new_notices m.notice_list (now m) ds }

-- so far, none was made for the door that is next
pub is_due-so_far :
    (before m : State) (n : ℕ) (o : Option Door) →
    is_due before (record m { notice_list = with_new_notices m.notice_list (now m) (due_among before m n) }) (suc n) o
    ≡ is_due before m (suc n) o
is_due-so_far before m n None = refl
is_due-so_far before m n (Some x) =
    ap
    (λ h. (takes_notices x.attrs && is_valid_door x && (has_unref_multi x.attrs || not h)) && falls_to_one before m (suc n))
    (has_notice-with_new_notices m.notice_list (now m) (due_among before m n) (suc n)
    ∙ ap (λ b. has_notice m.notice_list (suc n) || b) (due_within before m n (suc n) (omega arith))
    ∙ last (has_notice m.notice_list (suc n)))
  where
    last : (b : Bool) → (b || false) ≡ b
    last true = refl
    last false = refl

-- the state after notices are made
pub make_each-due :
    (before m : State) (n : ℕ) →
    make_each before m n ≡ record m { notice_list = with_new_notices m.notice_list (now m) (due_among before m n) }
make_each-due before m zero = refl
make_each-due before m (suc n) =
    ap (λ k. make_one before k (suc n)) (make_each-due before m n)
    ∙ ap
    (λ b.
    if b then with_notice_of (with_made m (due_among before m n)) (suc n) else with_made m (due_among before m n))
    (is_due-so_far before m n (door_of m (suc n)))
    ∙ go (is_due before m (suc n) (door_of m (suc n)))
  where
    go :
        (b : Bool) →
        (if b then with_notice_of (with_made m (due_among before m n)) (suc n) else with_made m (due_among before m n))
        ≡ with_made m (due_among before m n ++ (if b then suc n ∷ [] else []))
    go true =
        ap (λ list. record m { notice_list = list }) (sym (with_new_notices-push m.notice_list (now m) (due_among before m n) (suc n)))
    go false = ap (with_made m) (sym (append-nil (due_among before m n)))

pub make_notices-due :
    (before m : State) →
    make_notices before m ≡ record m { notice_list = with_new_notices m.notice_list (now m) (due_doors before m) }
make_notices-due before m = make_each-due before m (length m.doors)

pub notice_list-make_notices :
    (before m : State) → (make_notices before m).notice_list ≡ with_new_notices m.notice_list (now m) (due_doors before m)
notice_list-make_notices before m = ap (λ (n : State). n.notice_list) (make_notices-due before m)

-- the old notices, and the new ones behind

pub notices-make_notices :
    (before m : State) →
    (make_notices before m).notice_list.notices
    ≡ m.notice_list.notices ++ new_notices m.notice_list.made (now m) (due_doors before m)
notices-make_notices before m =
    ap (λ (list : NoticeList). list.notices) (notice_list-make_notices before m)
    ∙ notices-with_new_notices m.notice_list (now m) (due_doors before m)

-- a door that is due is one of the doors, and is_due
pub record IsAmongDue (before m : State) (n d : ℕ) : Type 0 where
  pub low : 1 ≤ d
  pub high : d ≤ n
  pub due : is_due before m d (door_of m d) ≡ true
