-- The ids of a process: how many are taken, and the lowest that is free.
use Rattle.std.proofs.Common.{◌≡◌, ℕ, zero, suc, ◌+◌, ◌<◌, ◌≤◌, ◌==◌, ◌||◌, not, Bool, true, false, if◌then◌else◌, cond, List, [], ◌∷◌, Option, None, Some, count_by, below_more, is_none, is_some, refl, sym, ap, ◌∙◌, arith}
use Rattle.std.proofs.lemmas.Bool.Decides.{nat_tests}
use Rattle.std.proofs.lemmas.List.Sums.{sum_by-cons}
use Rattle.dk_base.specs.declared.error.Errno.TheVariants.{EAGAIN}
use Rattle.dk_base.specs.declared.limits.TheConstants.{TIMERS_MAX}
use Rattle.spec_records.specs.declared.timer.Timer.{Timer}
use Rattle.spec_records.specs.Words.{create_timer_error, free_id_from, has_all_timers, is_timer_of, timer_at}
use Rattle.spec_records.specs.Timers.{free_id}
use Rattle.timer_src.specs.Table.{HaveDistinctIds}
use Rattle.timer_src.specs.Value.{HaveIds}

-- how many numbers below n pass
abbrev below : ℕ → (ℕ → Bool) → ℕ
below zero test = 0
below (suc n) test = (if test n then 1 else 0) + below n test

below-same : (n : ℕ) (f g : ℕ → Bool) → ((k : ℕ) → k < n → f k ≡ g k) → below n f ≡ below n g
below-same zero f g h = refl
below-same (suc n) f g h =
    let here = h n (omega arith) in
    let rest = below-same n f g (λ k l. h k (omega arith)) in
    ap (λ b. (if b then 1 else 0) + below n f) here ∙ ap (λ m. (if g n then 1 else 0) + m) rest

none-below : (n : ℕ) → below n (λ k. false) ≡ 0
none-below zero = refl
none-below (suc n) = let e = none-below n in omega arith

all-below : (n : ℕ) (f : ℕ → Bool) → ((k : ℕ) → k < n → f k ≡ true) → below n f ≡ n
all-below zero f h = refl
all-below (suc n) f h =
    let e = all-below n f (λ k l. h k (omega arith)) in
    ap (λ b. (if b then 1 else 0) + below n f) (h n (omega arith)) ∙ omega arith

at-most : (n : ℕ) (f : ℕ → Bool) → below n f ≤ n
at-most zero f = omega arith
at-most (suc n) f = go (f n) (at-most n f)
  where
    go : (b : Bool) → below n f ≤ n → (if b then 1 else 0) + below n f ≤ suc n
    go true l = omega arith
    go false l = omega arith

not-all : (n : ℕ) (f : ℕ → Bool) (k : ℕ) → k < n → f k ≡ false → below n f < n
not-all zero f k l h = absurd (omega arith)
not-all (suc n) f k l h = go (f n) refl (k == n) refl (λ m. not-all n f k m h)
  where
    go : (b : Bool) → f n ≡ b → (c : Bool) → (k == n) ≡ c → (k < n → below n f < n) → (if b then 1 else 0) + below n f < suc n
    go false e c g ih = let m = at-most n f in omega arith
    go true e true g ih = let same : k ≡ n = grind (arith, nat_tests) in let both : f k ≡ f n = ap f same in cc
    go true e false g ih =
        let other : k < n = grind (arith, nat_tests) in
        let m = ih other in omega arith

-- one more
one-more : (n id : ℕ) (f : ℕ → Bool) → id < n → f id ≡ false → below n (λ k. (k == id) || f k) ≡ 1 + below n f
one-more zero id f l h = absurd (omega arith)
one-more (suc n) id f l h = go (n == id) refl (λ m. one-more n id f m h)
  where
    go : (b : Bool) → (n == id) ≡ b → (id < n → below n (λ k. (k == id) || f k) ≡ 1 + below n f) → (if b || f n then 1 else 0) + below n (λ k. (k == id) || f k) ≡ 1 + ((if f n then 1 else 0) + below n f)
    go true e ih =
        let same : n ≡ id = grind (arith, nat_tests) in
        let free : f n ≡ false = ap f same ∙ h in
        let others = below-same n (λ k. (k == id) || f k) f (λ k m. grind (arith, nat_tests)) in
        let none : 1 + below n f ≡ 1 + (0 + below n f) = omega arith in
        ap (λ m. 1 + m) others ∙ none ∙ ap (λ b. 1 + ((if b then 1 else 0) + below n f)) (sym free)
    go false e ih =
        let lower : id < n = grind (arith, nat_tests) in
        let rest = ih lower in
        ap (λ m. (if f n then 1 else 0) + m) rest ∙ omega arith

-- the ids that are taken

module _ (process : ℕ) where
  abbrev pub is_taken : List Timer → ℕ → Bool
  is_taken ts k = is_some (timer_at ts process k)

  taken-other : (t : Timer) (ts : List Timer) (k : ℕ) → (process == t.process.0) ≡ false → is_taken (t ∷ ts) k ≡ is_taken ts k
  taken-other t ts k e = grind (arith, nat_tests)

  taken-own : (t : Timer) (ts : List Timer) (k : ℕ) → (process == t.process.0) ≡ true → is_taken (t ∷ ts) k ≡ ((k == t.id) || is_taken ts k)
  taken-own t ts k e = grind (arith, nat_tests)

  counted :
      (n : ℕ) (ts : List Timer) → HaveIds n ts → HaveDistinctIds ts → count_by (is_timer_of process) ts ≡ below n (is_taken ts)
  counted n [] h d = sym (none-below n)
  counted n (t ∷ ts) h d =
      sum_by-cons (λ u. cond (is_timer_of process u) 1 0) t ts
      ∙ ap (λ m. cond (is_timer_of process t) 1 0 + m) (counted n ts h.1 d.1)
      ∙ go (process == t.process.0) refl
    where
      go : (b : Bool) → (process == t.process.0) ≡ b → cond (is_timer_of process t) 1 0 + below n (is_taken ts) ≡ below n (is_taken (t ∷ ts))
      go true e =
          let own : is_timer_of process t ≡ true = grind (arith, nat_tests) in
          let same : process ≡ t.process.0 = grind (arith, nat_tests) in
          let free : is_taken ts t.id ≡ false = ap (λ p. is_some (timer_at ts p t.id)) same ∙ ap is_some d.0 in
          ap (λ b. cond b 1 0 + below n (is_taken ts)) own
          ∙ sym (below-same n (is_taken (t ∷ ts)) (λ k. (k == t.id) || is_taken ts k) (λ k m. taken-own t ts k e) ∙ one-more n t.id (is_taken ts) h.0 free)
      go false e =
          let other : is_timer_of process t ≡ false = grind (arith, nat_tests) in
          ap (λ b. cond b 1 0 + below n (is_taken ts)) other ∙ omega arith ∙ sym (below-same n (is_taken (t ∷ ts)) (is_taken ts) (λ k m. taken-other t ts k e))

  -- the process has as many timers as there are ids where each id is taken, and only there
  pub all_taken : (ts : List Timer) → HaveIds TIMERS_MAX ts → HaveDistinctIds ts → ((k : ℕ) → k < TIMERS_MAX → is_taken ts k ≡ true) → create_timer_error ts process ≡ Some EAGAIN
  all_taken ts h d all =
      let many : count_by (is_timer_of process) ts ≡ TIMERS_MAX = counted TIMERS_MAX ts h d ∙ all-below TIMERS_MAX (is_taken ts) all in
      let full : has_all_timers ts process ≡ true = grind (arith, nat_tests) in
      ap (λ b. if b then Some EAGAIN else None) full

  pub one_free : (ts : List Timer) (id : ℕ) → HaveIds TIMERS_MAX ts → HaveDistinctIds ts → id < TIMERS_MAX → timer_at ts process id ≡ None → create_timer_error ts process ≡ None
  one_free ts id h d l free =
      let few = not-all TIMERS_MAX (is_taken ts) id l (ap is_some free) in
      let many = counted TIMERS_MAX ts h d in
      let open_ : has_all_timers ts process ≡ false = grind (arith, nat_tests) in
      ap (λ b. if b then Some EAGAIN else None) open_

  -- the lowest

  free-found : (n : ℕ) (ts : List Timer) (from id : ℕ) → from ≤ id → id < n + from → ((k : ℕ) → from ≤ k → k < id → is_taken ts k ≡ true) → timer_at ts process id ≡ None → free_id_from n ts process from ≡ id
  free-found zero ts from id l m taken free = absurd (omega arith)
  free-found (suc n) ts from id l m taken free = go (from == id) refl (λ p. free-found n ts (from + 1) id p (omega arith) (λ k q r. taken k (omega arith) r) free)
    where
      go : (b : Bool) → (from == id) ≡ b → (from + 1 ≤ id → free_id_from n ts process (from + 1) ≡ id) → (if is_none (timer_at ts process from) then from else free_id_from n ts process (from + 1)) ≡ id
      go true e ih =
          let same : from ≡ id = grind (arith, nat_tests) in
          let open_ : is_none (timer_at ts process from) ≡ true = ap (λ k. is_none (timer_at ts process k)) same ∙ ap is_none free in
          ap (λ b. if b then from else free_id_from n ts process (from + 1)) open_ ∙ same
      go false e ih =
          let lower : from < id = grind (arith, nat_tests) in
          let closed : is_none (timer_at ts process from) ≡ false = other (timer_at ts process from) (taken from (omega arith) lower) in
          ap (λ b. if b then from else free_id_from n ts process (from + 1)) closed ∙ ih (omega arith)
        where
          other : (o : Option Timer) → is_some o ≡ true → is_none o ≡ false
          other None p = cc
          other (Some t) p = refl

  pub lowest : (ts : List Timer) (id : ℕ) → id < TIMERS_MAX → ((k : ℕ) → k < id → is_taken ts k ≡ true) → timer_at ts process id ≡ None → free_id ts process ≡ id
  unfolding free_id
  lowest ts id l taken free = free-found TIMERS_MAX ts 0 id (omega arith) (omega arith) (λ k p q. taken k q) free

  pub taken_more : (ts : List Timer) (i : ℕ) → ((k : ℕ) → k < i → is_taken ts k ≡ true) → is_taken ts i ≡ true → (k : ℕ) → k < i + 1 → is_taken ts k ≡ true
  taken_more ts i before here = below_more (λ k. is_taken ts k ≡ true) i before here

pub none_of : (o : Option Timer) → is_some o ≡ false → o ≡ None
none_of None e = refl
none_of (Some t) e = cc
