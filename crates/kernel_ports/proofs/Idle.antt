-- The timers of which no event is queued, as events leave a queue and come into it.
use Rattle.std.proofs.Common.{◌≡◌, ℕ, zero, suc, ◌+◌, ◌<◌, ◌≤◌, ◌==◌, ◌&&◌, ◌||◌, not, Bool, true, false, if◌then◌else◌, List, [], ◌∷◌, ◌++◌, Option, None, Some, cond, count_by, drop, filter, length, refl, sym, ap, ap₂, subst, ◌∙◌, arith}
use Rattle.std.specs.List.{list_any}
use Rattle.std.proofs.lemmas.Bool.Decides.{nat_tests}
use Rattle.std.proofs.lemmas.List.Sums.{sum_by-cons}
use Rattle.spec_records.specs.declared.port.Queued.{Queued}
use Rattle.spec_records.specs.declared.timer.Tag.{Tag}
use Rattle.spec_records.specs.declared.timer.Timer.{Timer}
use Rattle.spec_records.specs.Words.{IsAscending, change_first, grown_event, is_number, is_timer_event, timer_number}
use Rattle.spec_records.proofs.NumberedLists.{ascending-filter, ascending-lower}
use Rattle.kernel_ports.specs.Told.{is_tagged}
use Rattle.kernel_ports.specs.Words.{is_idle, is_queued, is_timer_at, timers_at}

-- of a port, whose queue is this one
abbrev pub idle : List Queued → List Timer → ℕ → ℕ
idle qs ts q = count_by (is_idle qs q) ts

pub count-timer : (p : Timer → Bool) (t : Timer) (ts : List Timer) → count_by p (t ∷ ts) ≡ cond (p t) 1 0 + count_by p ts
count-timer p t ts = sum_by-cons (λ u. cond (p u) 1 0) t ts

-- queues that have events of the same timers
pub idle-same : (xs ys : List Queued) (ts : List Timer) (q : ℕ) → ((n : ℕ) → is_queued ys n ≡ is_queued xs n) → idle ys ts q ≡ idle xs ts q
idle-same xs ys [] q same = refl
idle-same xs ys (t ∷ ts) q same =
    count-timer (is_idle ys q) t ts
    ∙ ap₂ (λ b n. cond (is_timer_at q t && not b) 1 0 + n) (same t.number) (idle-same xs ys ts q same)
    ∙ sym (count-timer (is_idle xs q) t ts)

one_of_both : (a b : Bool) → cond (a && b) 1 0 ≤ cond a 1 0
one_of_both true true = omega arith
one_of_both true false = omega arith
one_of_both false b = omega arith

pub idle-few : (xs : List Queued) (ts : List Timer) (q : ℕ) → idle xs ts q ≤ timers_at ts q
idle-few xs [] q = omega arith
idle-few xs (t ∷ ts) q =
    omega (arith, count-timer (is_idle xs q) t ts, count-timer (is_timer_at q) t ts, one_of_both (is_timer_at q t) (not (is_queued xs t.number)), idle-few xs ts q)

-- fewer timers

pub fewer_idle : (keep : Timer → Bool) (xs : List Queued) (ts : List Timer) (q : ℕ) → idle xs (filter keep ts) q ≤ idle xs ts q
fewer_idle keep xs [] q = omega arith
fewer_idle keep xs (t ∷ ts) q = go (keep t) (fewer_idle keep xs ts q)
  where
    go : (b : Bool) → idle xs (filter keep ts) q ≤ idle xs ts q → idle xs (if b then t ∷ filter keep ts else filter keep ts) q ≤ idle xs (t ∷ ts) q
    go true ih = omega (arith, ih, count-timer (is_idle xs q) t (filter keep ts), count-timer (is_idle xs q) t ts)
    go false ih = omega (arith, ih, count-timer (is_idle xs q) t ts)

pub fewer_at : (keep : Timer → Bool) (ts : List Timer) (q : ℕ) → timers_at (filter keep ts) q ≤ timers_at ts q
fewer_at keep [] q = omega arith
fewer_at keep (t ∷ ts) q = go (keep t) (fewer_at keep ts q)
  where
    go : (b : Bool) → timers_at (filter keep ts) q ≤ timers_at ts q → timers_at (if b then t ∷ filter keep ts else filter keep ts) q ≤ timers_at (t ∷ ts) q
    go true ih = omega (arith, ih, count-timer (is_timer_at q) t (filter keep ts), count-timer (is_timer_at q) t ts)
    go false ih = omega (arith, ih, count-timer (is_timer_at q) t ts)

-- one timer more

pub one_more_idle : (xs : List Queued) (ts : List Timer) (t : Timer) (q : ℕ) → idle xs (ts ++ t ∷ []) q ≤ idle xs ts q + cond (is_timer_at q t) 1 0
one_more_idle xs [] t q =
    omega (arith, count-timer (is_idle xs q) t [], one_of_both (is_timer_at q t) (not (is_queued xs t.number)))
one_more_idle xs (u ∷ us) t q =
    omega (arith, count-timer (is_idle xs q) u (us ++ t ∷ []), count-timer (is_idle xs q) u us, one_more_idle xs us t q)

pub one_more_at : (ts : List Timer) (t : Timer) (q : ℕ) → timers_at (ts ++ t ∷ []) q ≡ timers_at ts q + cond (is_timer_at q t) 1 0
one_more_at [] t q = omega (arith, count-timer (is_timer_at q) t [])
one_more_at (u ∷ us) t q = omega (arith, count-timer (is_timer_at q) u (us ++ t ∷ []), count-timer (is_timer_at q) u us, one_more_at us t q)

-- the timers but those of an event

abbrev is_other : Option ℕ → Timer → Bool
is_other o t = not (is_number t.number o)

abbrev others : Option ℕ → List Timer → List Timer
others o ts = filter (is_other o) ts

idle-first : (e : Queued) (xs : List Queued) (ts : List Timer) (q : ℕ) → idle (e ∷ xs) ts q ≡ idle xs (others e.timer ts) q
idle-first e xs [] q = refl
idle-first e xs (t ∷ ts) q =
    count-timer (is_idle (e ∷ xs) q) t ts
    ∙ ap (λ n. cond (is_idle (e ∷ xs) q t) 1 0 + n) (idle-first e xs ts q)
    ∙ go (is_number t.number e.timer)
  where
    go :
        (b : Bool) → cond (is_timer_at q t && not (b || is_queued xs t.number)) 1 0 + idle xs (others e.timer ts) q
        ≡ idle xs (if not b then t ∷ others e.timer ts else others e.timer ts) q
    go true = none (is_timer_at q t)
      where
        none : (a : Bool) → cond (a && false) 1 0 + idle xs (others e.timer ts) q ≡ idle xs (others e.timer ts) q
        none true = omega arith
        none false = omega arith
    go false = sym (count-timer (is_idle xs q) t (others e.timer ts))

above_kept : (n : ℕ) (ts : List Timer) (low made : ℕ) → n ≤ low → IsAscending timer_number low made ts → others (Some n) ts ≡ ts
above_kept n [] low made l h = refl
above_kept n (t ∷ ts) low made l h =
    let past : low < t.number = h.0 in
    let apart : (n == t.number) ≡ false = grind (arith, nat_tests) in
    ap (λ b. if not b then t ∷ others (Some n) ts else others (Some n) ts) apart ∙ ap (λ us. t ∷ us) (above_kept n ts t.number made (omega (arith, l, past)) h.2)

all_kept : (ts : List Timer) → others None ts ≡ ts
all_kept [] = refl
all_kept (t ∷ ts) = ap (λ us. t ∷ us) (all_kept ts)

at_most_one : (b : Bool) → cond b 1 0 ≤ 1
at_most_one true = omega arith
at_most_one false = omega arith

-- an event is of one timer at most
idle-lost :
    (o : Option ℕ) (xs : List Queued) (ts : List Timer) (q low made : ℕ) → IsAscending timer_number low made ts →
    idle xs ts q ≤ idle xs (others o ts) q + 1
idle-lost None xs ts q low made h = let same = ap (λ us. idle xs us q) (all_kept ts) in omega (arith, same)
idle-lost (Some n) xs [] q low made h = omega arith
idle-lost (Some n) xs (t ∷ ts) q low made h = go (n == t.number) refl (idle-lost (Some n) xs ts q t.number made h.2)
  where
    go :
        (b : Bool) → (n == t.number) ≡ b → idle xs ts q ≤ idle xs (others (Some n) ts) q + 1 →
        idle xs (t ∷ ts) q ≤ idle xs (if not b then t ∷ others (Some n) ts else others (Some n) ts) q + 1
    go true e ih =
        let here : n ≤ t.number = grind (arith, nat_tests) in
        let same = ap (λ us. idle xs us q) (above_kept n ts t.number made here h.2) in
        omega (arith, same, count-timer (is_idle xs q) t ts, at_most_one (is_idle xs q t))
    go false e ih = omega (arith, ih, count-timer (is_idle xs q) t ts, count-timer (is_idle xs q) t (others (Some n) ts))

-- events that leave

module _ (q made : ℕ) where
  pub idle-filter :
      (keep : Queued → Bool) (xs : List Queued) (ts : List Timer) → IsAscending timer_number 0 made ts →
      idle (filter keep xs) ts q + length (filter keep xs) ≤ idle xs ts q + length xs
  idle-filter keep [] ts h = omega arith
  idle-filter keep (e ∷ xs) ts h = go (keep e) (idle-filter keep xs (others e.timer ts) (ascending-filter timer_number (is_other e.timer) ts 0 made h))
    where
      go :
          (b : Bool) → idle (filter keep xs) (others e.timer ts) q + length (filter keep xs) ≤ idle xs (others e.timer ts) q + length xs →
          idle (if b then e ∷ filter keep xs else filter keep xs) ts q + length (if b then e ∷ filter keep xs else filter keep xs) ≤ idle (e ∷ xs) ts q + suc (length xs)
      go true ih = omega (arith, ih, idle-first e (filter keep xs) ts q, idle-first e xs ts q)
      go false ih = omega (arith, ih, idle-lost e.timer (filter keep xs) ts q 0 made h, idle-first e xs ts q)

  pub idle-drop :
      (n : ℕ) (xs : List Queued) (ts : List Timer) → IsAscending timer_number 0 made ts →
      idle (drop n xs) ts q + length (drop n xs) ≤ idle xs ts q + length xs
  idle-drop zero xs ts h = omega arith
  idle-drop (suc n) [] ts h = omega arith
  idle-drop (suc n) (e ∷ xs) ts h =
      omega (
        arith,
        idle-drop n xs (others e.timer ts) (ascending-filter timer_number (is_other e.timer) ts 0 made h),
        idle-lost e.timer (drop n xs) ts q 0 made h,
        idle-first e xs ts q,
      )

-- events that come

pub queued-push : (xs : List Queued) (e : Queued) (n : ℕ) → is_queued (xs ++ e ∷ []) n ≡ (is_queued xs n || is_timer_event n e)
queued-push [] e n = go (is_timer_event n e)
  where
    go : (b : Bool) → b || false ≡ b
    go true = refl
    go false = refl
queued-push (x ∷ xs) e n = go (is_timer_event n x) (queued-push xs e n)
  where
    go :
        (b : Bool) → is_queued (xs ++ e ∷ []) n ≡ (is_queued xs n || is_timer_event n e) →
        b || is_queued (xs ++ e ∷ []) n ≡ ((b || is_queued xs n) || is_timer_event n e)
    go true ih = refl
    go false ih = ih

-- of no timer
pub queued-other : (xs : List Queued) (e : Queued) (n : ℕ) → e.timer ≡ None → is_queued (xs ++ e ∷ []) n ≡ is_queued xs n
queued-other xs e n none = queued-push xs e n ∙ ap (λ o. is_queued xs n || is_number n o) none ∙ go (is_queued xs n)
  where
    go : (b : Bool) → b || false ≡ b
    go true = refl
    go false = refl

-- one that counts more
pub queued-grown : (xs : List Queued) (timer by n : ℕ) → is_queued (change_first (is_timer_event timer) (grown_event by) xs) n ≡ is_queued xs n
queued-grown [] timer by n = refl
queued-grown (x ∷ xs) timer by n = go (is_timer_event timer x) (queued-grown xs timer by n)
  where
    go :
        (b : Bool) → is_queued (change_first (is_timer_event timer) (grown_event by) xs) n ≡ is_queued xs n →
        is_queued (if b then grown_event by x ∷ xs else x ∷ change_first (is_timer_event timer) (grown_event by) xs) n ≡ is_queued (x ∷ xs) n
    go true ih = refl
    go false ih = ap (λ c. is_timer_event n x || c) ih

-- of a timer of which none was queued

less_idle : (a b c : Bool) → cond (a && not (b || c)) 1 0 ≤ cond (a && not b) 1 0
less_idle true true c = omega arith
less_idle true false true = omega arith
less_idle true false false = omega arith
less_idle false b c = omega arith

no_more_idle : (xs : List Queued) (e : Queued) (ts : List Timer) (q : ℕ) → idle (xs ++ e ∷ []) ts q ≤ idle xs ts q
no_more_idle xs e [] q = omega arith
no_more_idle xs e (t ∷ ts) q =
    let here = ap {B = ℕ} (λ b. cond (is_timer_at q t && not b) 1 0) (queued-push xs e t.number) in
    omega (arith, here, less_idle (is_timer_at q t) (is_queued xs t.number) (is_timer_event t.number e), count-timer (is_idle (xs ++ e ∷ []) q) t ts, count-timer (is_idle xs q) t ts, no_more_idle xs e ts q)

busy : (a b : Bool) → a && not (b || true) ≡ false
busy true true = refl
busy true false = refl
busy false b = refl

pub one_less_idle :
    (xs : List Queued) (e : Queued) (g : Tag) (ts : List Timer) → e.timer ≡ Some g.number → is_queued xs g.number ≡ false →
    list_any (is_tagged g) ts ≡ true → idle (xs ++ e ∷ []) ts g.port + 1 ≤ idle xs ts g.port
one_less_idle xs e g [] is none there = cc
one_less_idle xs e g (t ∷ ts) is none there = go (is_tagged g t) refl there (one_less_idle xs e g ts is none)
  where
    counted : idle (xs ++ e ∷ []) (t ∷ ts) g.port ≡ cond (is_idle (xs ++ e ∷ []) g.port t) 1 0 + idle (xs ++ e ∷ []) ts g.port
    counted = count-timer (is_idle (xs ++ e ∷ []) g.port) t ts

    counted_before : idle xs (t ∷ ts) g.port ≡ cond (is_idle xs g.port t) 1 0 + idle xs ts g.port
    counted_before = count-timer (is_idle xs g.port) t ts

    go :
        (b : Bool) → is_tagged g t ≡ b → b || list_any (is_tagged g) ts ≡ true →
        (list_any (is_tagged g) ts ≡ true → idle (xs ++ e ∷ []) ts g.port + 1 ≤ idle xs ts g.port) →
        idle (xs ++ e ∷ []) (t ∷ ts) g.port + 1 ≤ idle xs (t ∷ ts) g.port
    go true own here ih =
        let at : is_timer_at g.port t ≡ true = grind (arith, nat_tests) in
        let same : t.number ≡ g.number = grind (arith, nat_tests) in
        let own_event : is_timer_event t.number e ≡ true = ap (is_number t.number) is ∙ grind (arith, nat_tests) in
        let was : is_idle xs g.port t ≡ true = ap₂ (λ a b. a && not b) at (ap (is_queued xs) same ∙ none) in
        let now : is_idle (xs ++ e ∷ []) g.port t ≡ false =
        ap (λ b. is_timer_at g.port t && not b) (queued-push xs e t.number ∙ ap (λ b. is_queued xs t.number || b) own_event)
        ∙ busy (is_timer_at g.port t) (is_queued xs t.number) in
        omega (arith, counted, counted_before, ap {B = ℕ} (λ b. cond b 1 0) was, ap {B = ℕ} (λ b. cond b 1 0) now, no_more_idle xs e ts g.port)
    go false other later ih =
        let here = ap {B = ℕ} (λ b. cond (is_timer_at g.port t && not b) 1 0) (queued-push xs e t.number) in
        omega (arith, counted, counted_before, here, less_idle (is_timer_at g.port t) (is_queued xs t.number) (is_timer_event t.number e), ih later)
