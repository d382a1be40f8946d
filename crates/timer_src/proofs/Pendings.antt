-- The timers that have a moment to come, as timers are armed, end, and the clock moves on.
use Rattle.std.proofs.Common.{◌≡◌, ℕ, suc, ◌+◌, ◌<◌, ◌≤◌, ◌==◌, not, nat_le, nat_lt, Bool, true, false, if◌then◌else◌, List, [], ◌∷◌, ◌++◌, None, Some, filter, find, length, map, refl, sym, subst, ap, ◌∙◌, arith}
use Rattle.std.proofs.lemmas.Bool.Decides.{nat_tests}
use Rattle.spec_records.specs.Words.{IsAscending, change_first, due_count, due_of, dues_of, is_due, is_timer_of_other, timer_number}
use Rattle.spec_records.proofs.NumberedLists.{ascending-lower}
use Rattle.spec_records.specs.declared.timer.Timer.{Timer}
use Rattle.timer_src.specs.declared.pending.Pending.{Pending}
use Rattle.timer_src.specs.Lists.{without_first}
use Rattle.timer_src.specs.Pending.{due_pending, has_next, interval_of, is_above, is_below, is_pending, is_pending_of_other, is_ready, next_from, next_moment, pending_number, pending_of, pendings, stepped, stepped_all, ticks, told}
use Rattle.timer_src.proofs.Moments.{comes, reached, steps}
use Rattle.timer_src.proofs.Ordered.{all_above, none_below}

-- in order

pub in_order : (clock : ℕ) (ts : List Timer) (low made : ℕ) → IsAscending timer_number low made ts → IsAscending pending_number low made (pendings clock ts)
in_order clock [] low made h = tt
in_order clock (t ∷ ts) low made h = go (is_pending clock t) (in_order clock ts t.number made h.2)
  where
    go :
        (b : Bool) → IsAscending pending_number t.number made (pendings clock ts) →
        IsAscending pending_number low made (map (pending_of clock) (if b then t ∷ filter (is_pending clock) ts else filter (is_pending clock) ts))
    go true ih = (h.0, h.1, ih)
    go false ih = let a : low < t.number = h.0 in ascending-lower pending_number (pendings clock ts) low t.number made (omega arith) ih

pub fewer : (clock : ℕ) (ts : List Timer) → length (pendings clock ts) ≤ length ts
fewer clock [] = omega arith
fewer clock (t ∷ ts) = go (is_pending clock t) (fewer clock ts)
  where
    go : (b : Bool) → length (pendings clock ts) ≤ length ts → length (map (pending_of clock) (if b then t ∷ filter (is_pending clock) ts else filter (is_pending clock) ts)) ≤ suc (length ts)
    go true ih = omega arith
    go false ih = omega arith

-- one timer is armed anew, or ends

module _ (test : Timer → Bool) (clock : ℕ) where
  later : (ts : List Timer) (t : Timer) (low made : ℕ) → IsAscending timer_number low made ts → find test ts ≡ Some t → low < t.number
  later [] t low made h found = cc
  later (x ∷ xs) t low made h found = go (test x) found (λ f. later xs t x.number made h.2 f)
    where
      go : (b : Bool) → (if b then Some x else find test xs) ≡ Some t → (find test xs ≡ Some t → x.number < t.number) → low < t.number
      go true f ih = let same : x ≡ t = cc in subst (λ y. low < timer_number y) same h.0
      go false f ih = let a : low < x.number = h.0 in let b = ih f in omega arith

  -- those of the list, where the first has this number, and where it has a smaller one

  first_below : (x : Timer) (xs : List Timer) (made : ℕ) → IsAscending timer_number x.number made xs → filter (is_below x.number) (pendings clock (x ∷ xs)) ≡ []
  first_below x xs made h = go (is_pending clock x)
    where
      go : (b : Bool) → filter (is_below x.number) (map (pending_of clock) (if b then x ∷ filter (is_pending clock) xs else filter (is_pending clock) xs)) ≡ []
      go true =
          let same : nat_lt x.number x.number ≡ false = grind (arith, nat_tests) in
          ap (λ b. if b then pending_of clock x ∷ filter (is_below x.number) (pendings clock xs) else filter (is_below x.number) (pendings clock xs)) same
          ∙ none_below x.number (pendings clock xs) x.number made (omega arith) (in_order clock xs x.number made h)
      go false = none_below x.number (pendings clock xs) x.number made (omega arith) (in_order clock xs x.number made h)

  first_above : (x : Timer) (xs : List Timer) (made : ℕ) → IsAscending timer_number x.number made xs → filter (is_above x.number) (pendings clock (x ∷ xs)) ≡ pendings clock xs
  first_above x xs made h = go (is_pending clock x)
    where
      go : (b : Bool) → filter (is_above x.number) (map (pending_of clock) (if b then x ∷ filter (is_pending clock) xs else filter (is_pending clock) xs)) ≡ pendings clock xs
      go true =
          let same : nat_lt x.number x.number ≡ false = grind (arith, nat_tests) in
          ap (λ b. if b then pending_of clock x ∷ filter (is_above x.number) (pendings clock xs) else filter (is_above x.number) (pendings clock xs)) same
          ∙ all_above x.number (pendings clock xs) x.number made (omega arith) (in_order clock xs x.number made h)
      go false = all_above x.number (pendings clock xs) x.number made (omega arith) (in_order clock xs x.number made h)

  earlier_below : (x : Timer) (xs : List Timer) (n : ℕ) → x.number < n → (rest : List Pending) → filter (is_below n) (pendings clock xs) ≡ rest → filter (is_below n) (pendings clock (x ∷ xs)) ≡ (if is_pending clock x then pending_of clock x ∷ rest else rest)
  earlier_below x xs n l rest e = go (is_pending clock x)
    where
      go : (b : Bool) → filter (is_below n) (map (pending_of clock) (if b then x ∷ filter (is_pending clock) xs else filter (is_pending clock) xs)) ≡ (if b then pending_of clock x ∷ rest else rest)
      go true =
          let less : nat_lt x.number n ≡ true = grind (arith, nat_tests) in
          ap (λ b. if b then pending_of clock x ∷ filter (is_below n) (pendings clock xs) else filter (is_below n) (pendings clock xs)) less
          ∙ ap (λ ps. pending_of clock x ∷ ps) e
      go false = e

  earlier_above : (x : Timer) (xs : List Timer) (n : ℕ) → x.number < n → filter (is_above n) (pendings clock (x ∷ xs)) ≡ filter (is_above n) (pendings clock xs)
  earlier_above x xs n l = go (is_pending clock x)
    where
      go : (b : Bool) → filter (is_above n) (map (pending_of clock) (if b then x ∷ filter (is_pending clock) xs else filter (is_pending clock) xs)) ≡ filter (is_above n) (pendings clock xs)
      go true =
          let more : nat_lt n x.number ≡ false = grind (arith, nat_tests) in
          ap (λ b. if b then pending_of clock x ∷ filter (is_above n) (pendings clock xs) else filter (is_above n) (pendings clock xs)) more
      go false = refl

  abbrev pub around : ℕ → List Pending → List Pending → List Pending
  around n mid ps = filter (is_below n) ps ++ (mid ++ filter (is_above n) ps)

  prefixed : (x : Timer) (b : Bool) (ps qs rs : List Pending) → ps ≡ qs ++ rs → (if b then pending_of clock x ∷ ps else ps) ≡ (if b then pending_of clock x ∷ qs else qs) ++ rs
  prefixed x true ps qs rs e = ap (λ us. pending_of clock x ∷ us) e
  prefixed x false ps qs rs e = e

  earlier :
      (x : Timer) (xs : List Timer) (n : ℕ) (mid ps : List Pending) → x.number < n → ps ≡ around n mid (pendings clock xs) →
      (if is_pending clock x then pending_of clock x ∷ ps else ps) ≡ around n mid (pendings clock (x ∷ xs))
  earlier x xs n mid ps l e =
      prefixed x (is_pending clock x) ps (filter (is_below n) (pendings clock xs)) (mid ++ filter (is_above n) (pendings clock xs)) e
      ∙ ap (λ qs. qs ++ (mid ++ filter (is_above n) (pendings clock xs))) (sym (earlier_below x xs n l (filter (is_below n) (pendings clock xs)) refl))
      ∙ ap (λ qs. filter (is_below n) (pendings clock (x ∷ xs)) ++ (mid ++ qs)) (sym (earlier_above x xs n l))

  here :
      (x : Timer) (xs : List Timer) (made : ℕ) (mid : List Pending) → IsAscending timer_number x.number made xs →
      mid ++ pendings clock xs ≡ around x.number mid (pendings clock (x ∷ xs))
  here x xs made mid h =
      ap (λ qs. mid ++ qs) (sym (first_above x xs made h))
      ∙ ap (λ qs. qs ++ (mid ++ filter (is_above x.number) (pendings clock (x ∷ xs)))) (sym (first_below x xs made h))

  mapped : (x : Timer) (b : Bool) (xs : List Timer) → map (pending_of clock) (if b then x ∷ xs else xs) ≡ (if b then pending_of clock x ∷ map (pending_of clock) xs else map (pending_of clock) xs)
  mapped x true xs = refl
  mapped x false xs = refl

  one_more : (x : Timer) (xs : List Timer) → pendings clock (x ∷ xs) ≡ (if is_pending clock x then pending_of clock x ∷ pendings clock xs else pendings clock xs)
  one_more x xs = mapped x (is_pending clock x) (filter (is_pending clock) xs)

  one_alone : (x : Timer) (xs : List Timer) → pendings clock (x ∷ xs) ≡ pendings clock (x ∷ []) ++ pendings clock xs
  one_alone x xs = go (is_pending clock x)
    where
      go : (b : Bool) → map (pending_of clock) (if b then x ∷ filter (is_pending clock) xs else filter (is_pending clock) xs) ≡ map (pending_of clock) (if b then x ∷ [] else []) ++ pendings clock xs
      go true = refl
      go false = refl

  pub changed :
      (f : Timer → Timer) (ts : List Timer) (t : Timer) (low made : ℕ) → IsAscending timer_number low made ts → find test ts ≡ Some t →
      pendings clock (change_first test f ts) ≡ around t.number (pendings clock (f t ∷ [])) (pendings clock ts)
  changed f [] t low made h found = cc
  changed f (x ∷ xs) t low made h found = go (test x) found (λ e. changed f xs t x.number made h.2 e) (λ e. later xs t x.number made h.2 e)
    where
      go :
          (b : Bool) → (if b then Some x else find test xs) ≡ Some t →
          (find test xs ≡ Some t → pendings clock (change_first test f xs) ≡ around t.number (pendings clock (f t ∷ [])) (pendings clock xs)) →
          (find test xs ≡ Some t → x.number < t.number) →
          pendings clock (if b then f x ∷ xs else x ∷ change_first test f xs) ≡ around t.number (pendings clock (f t ∷ [])) (pendings clock (x ∷ xs))
      go true e ih up =
          let same : x ≡ t = cc in
          one_alone (f x) xs ∙ here x xs made (pendings clock (f x ∷ [])) h.2
          ∙ ap (λ y. around (timer_number y) (pendings clock (f y ∷ [])) (pendings clock (x ∷ xs))) same
      go false e ih up = one_more x (change_first test f xs) ∙ earlier x xs t.number (pendings clock (f t ∷ [])) _ (up e) (ih e)

  pub left :
      (ts : List Timer) (t : Timer) (low made : ℕ) → IsAscending timer_number low made ts → find test ts ≡ Some t →
      pendings clock (without_first test ts) ≡ around t.number [] (pendings clock ts)
  left [] t low made h found = cc
  left (x ∷ xs) t low made h found = go (test x) found (λ e. left xs t x.number made h.2 e) (λ e. later xs t x.number made h.2 e)
    where
      go :
          (b : Bool) → (if b then Some x else find test xs) ≡ Some t →
          (find test xs ≡ Some t → pendings clock (without_first test xs) ≡ around t.number [] (pendings clock xs)) →
          (find test xs ≡ Some t → x.number < t.number) →
          pendings clock (if b then xs else x ∷ without_first test xs) ≡ around t.number [] (pendings clock (x ∷ xs))
      go true e ih up =
          let same : x ≡ t = cc in
          here x xs made [] h.2 ∙ ap (λ y. around (timer_number y) [] (pendings clock (x ∷ xs))) same
      go false e ih up = one_more x (without_first test xs) ∙ earlier x xs t.number [] _ (up e) (ih e)

  shorter : (ts : List Timer) (t : Timer) → find test ts ≡ Some t → length (without_first test ts) < length ts
  shorter [] t found = cc
  shorter (x ∷ xs) t found = go (test x) found (λ e. shorter xs t e)
    where
      go : (b : Bool) → (if b then Some x else find test xs) ≡ Some t → (find test xs ≡ Some t → length (without_first test xs) < length xs) → length (if b then xs else x ∷ without_first test xs) < suc (length xs)
      go true e ih = omega arith
      go false e ih = let l = ih e in omega arith

  pub others_fewer :
      (ts : List Timer) (t : Timer) (low made : ℕ) → IsAscending timer_number low made ts → find test ts ≡ Some t →
      length (around t.number [] (pendings clock ts)) < length ts
  others_fewer ts t low made h found =
      let same = ap length (left ts t low made h found) in
      let few = fewer clock (without_first test ts) in
      let less = shorter ts t found in omega arith

-- all of a process end
pub others_left : (clock process : ℕ) (ts : List Timer) → pendings clock (filter (is_timer_of_other process) ts) ≡ filter (is_pending_of_other process) (pendings clock ts)
others_left clock process [] = refl
others_left clock process (t ∷ ts) = go (is_timer_of_other process t) refl (is_pending clock t) refl (others_left clock process ts)
  where
    go :
        (b : Bool) → is_timer_of_other process t ≡ b → (c : Bool) → is_pending clock t ≡ c →
        pendings clock (filter (is_timer_of_other process) ts) ≡ filter (is_pending_of_other process) (pendings clock ts) →
        pendings clock (if b then t ∷ filter (is_timer_of_other process) ts else filter (is_timer_of_other process) ts)
        ≡ filter (is_pending_of_other process) (map (pending_of clock) (if c then t ∷ filter (is_pending clock) ts else filter (is_pending clock) ts))
    go true e true f ih = grind (arith, ih, e, f)
    go true e false f ih = grind (arith, ih, e, f)
    go false e true f ih = grind (arith, ih, e, f)
    go false e false f ih = ih

-- another that isn't armed
pub none_pending : (clock : ℕ) (ts : List Timer) (t : Timer) → t.arming ≡ None → pendings clock (ts ++ t ∷ []) ≡ pendings clock ts
none_pending clock [] t e = ap (λ a. map (pending_of clock) (if has_next clock a then t ∷ [] else [])) e
none_pending clock (x ∷ xs) t e = go (is_pending clock x) (none_pending clock xs t e)
  where
    go :
        (b : Bool) → pendings clock (xs ++ t ∷ []) ≡ pendings clock xs →
        map (pending_of clock) (if b then x ∷ filter (is_pending clock) (xs ++ t ∷ []) else filter (is_pending clock) (xs ++ t ∷ []))
        ≡ map (pending_of clock) (if b then x ∷ filter (is_pending clock) xs else filter (is_pending clock) xs)
    go true ih = ap (λ ps. pending_of clock x ∷ ps) ih
    go false ih = ih

-- the clock moves on

module _ (old new : ℕ) (l : old ≤ new) where
  abbrev moved : Timer → Bool → Bool → List Pending → List Pending
  moved t b c ps = if b then (if c then pending_of new t ∷ ps else ps) else ps

  pub moved_on : (ts : List Timer) → pendings new ts ≡ stepped_all new (pendings old ts)
  moved_on [] = refl
  moved_on (t ∷ ts) = go (is_pending old t) refl (moved_on ts)
    where
      next : has_next new t.arming ≡ (if has_next old t.arming then nat_lt new (next_moment new t.arming) else false)
      next = comes old new t.arming l

      go :
          (b : Bool) → is_pending old t ≡ b → pendings new ts ≡ stepped_all new (pendings old ts) →
          pendings new (t ∷ ts) ≡ stepped_all new (map (pending_of old) (if b then t ∷ filter (is_pending old) ts else filter (is_pending old) ts))
      go false e ih =
          let none : has_next new t.arming ≡ false = next ∙ ap (λ b. if b then nat_lt new (next_moment new t.arming) else false) e in
          ap (λ b. map (pending_of new) (if b then t ∷ filter (is_pending new) ts else filter (is_pending new) ts)) none ∙ ih
      go true e ih =
          let same : has_next new t.arming ≡ nat_lt new (next_moment new t.arming) = next ∙ ap (λ b. if b then nat_lt new (next_moment new t.arming) else false) e in
          let step : next_from (next_moment old t.arming) (interval_of t.arming) new ≡ next_moment new t.arming = steps old new t.arming l e in
          ap (λ b. map (pending_of new) (if b then t ∷ filter (is_pending new) ts else filter (is_pending new) ts)) same
          ∙ pushed (nat_lt new (next_moment new t.arming)) ih
          ∙ ap (λ (n : ℕ). if nat_lt new n then record (pending_of old t) { next = n } ∷ stepped_all new (pendings old ts) else stepped_all new (pendings old ts)) (sym step)
        where
          pushed :
              (b : Bool) → pendings new ts ≡ stepped_all new (pendings old ts) →
              map (pending_of new) (if b then t ∷ filter (is_pending new) ts else filter (is_pending new) ts)
              ≡ (if b then pending_of new t ∷ stepped_all new (pendings old ts) else stepped_all new (pendings old ts))
          pushed true k = ap (λ ps. pending_of new t ∷ ps) k
          pushed false k = k

  pub told_all : (ts : List Timer) → dues_of old new ts ≡ told new (pendings old ts)
  told_all [] = refl
  told_all (t ∷ ts) = go (is_pending old t) refl (told_all ts)
    where
      many : due_count old new t.arming ≡ (if has_next old t.arming then ticks (next_moment old t.arming) (interval_of t.arming) new else 0)
      many = reached old new t.arming l

      go :
          (b : Bool) → is_pending old t ≡ b → dues_of old new ts ≡ told new (pendings old ts) →
          dues_of old new (t ∷ ts) ≡ told new (map (pending_of old) (if b then t ∷ filter (is_pending old) ts else filter (is_pending old) ts))
      go false e ih =
          let none : due_count old new t.arming ≡ 0 = many ∙ ap (λ b. if b then ticks (next_moment old t.arming) (interval_of t.arming) new else 0) e in
          let quiet : is_due old new t ≡ false = grind (arith, nat_tests) in
          ap (λ b. map (due_of old new) (if b then t ∷ filter (is_due old new) ts else filter (is_due old new) ts)) quiet ∙ ih
      go true e ih =
          let some : due_count old new t.arming ≡ ticks (next_moment old t.arming) (interval_of t.arming) new = many ∙ ap (λ b. if b then ticks (next_moment old t.arming) (interval_of t.arming) new else 0) e in
          let ready : is_due old new t ≡ nat_le (next_moment old t.arming) new = ap (λ n. not (n == 0)) some ∙ counts (next_moment old t.arming) (interval_of t.arming) in
          ap (λ b. map (due_of old new) (if b then t ∷ filter (is_due old new) ts else filter (is_due old new) ts)) ready
          ∙ pushed (nat_le (next_moment old t.arming) new) some ih
        where
          counts : (n i : ℕ) → not (ticks n i new == 0) ≡ nat_le n new
          counts n i = grind (arith, nat_tests)

          pushed :
              (b : Bool) → due_count old new t.arming ≡ ticks (next_moment old t.arming) (interval_of t.arming) new → dues_of old new ts ≡ told new (pendings old ts) →
              map (due_of old new) (if b then t ∷ filter (is_due old new) ts else filter (is_due old new) ts)
              ≡ map (due_pending new) (if b then pending_of old t ∷ filter (is_ready new) (pendings old ts) else filter (is_ready new) (pendings old ts))
          pushed true s k = let same : due_of old new t ≡ due_pending new (pending_of old t) = cc in grind (arith, same, k)
          pushed false s k = k
