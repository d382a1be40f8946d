-- Lists of timers: each is found by its number and by its id, and a process with less than the most has a free id.
use Rattle.std.proofs.Common.{◌≡◌, ℕ, zero, suc, ◌+◌, ◌<◌, ◌≤◌, ◌==◌, ◌&&◌, ◌||◌, ◌⊎◌, inl, inr, not, Bool, true, false, if◌then◌else◌, cond, List, [], ◌∷◌, ◌++◌, Option, None, Some, count_by, filter, find, is_none, is_some, refl, sym, ap, ◌∙◌, arith}
use Rattle.std.specs.Prelude.{All}
use Rattle.std.proofs.lemmas.Bool.Decides.{nat_tests}
use Rattle.std.proofs.lemmas.List.Elements.{All-cons, All-nil, All-weaker}
use Rattle.dk_base.specs.declared.limits.TheConstants.{TIMERS_MAX}
use Rattle.dk_base.specs.declared.number.Pid.{Pid}
use Rattle.spec_records.specs.declared.timer.Timer.{Timer}
use Rattle.spec_records.specs.Words.{IsAscending, change_first, free_id_from, has_all_timers, is_numbered, is_timer, is_timer_of, timer_at, timer_number}
use Rattle.spec_records.specs.Timers.{free_id}
use Rattle.law_channels.specs.Timers.{HaveDistinctIds, timer_numbered}
use Rattle.law_channels.proofs.Elements.{All-both}
use Rattle.law_channels.proofs.Tally.{count-cons}

-- what a search finds, where the list changes

module _ {X : Type 0} (test : X → Bool) where
  pub find-filter : (keep : X → Bool) (xs : List X) (x : X) → find test xs ≡ Some x → keep x ≡ true → find test (filter keep xs) ≡ Some x
  find-filter keep [] x e k = cc
  find-filter keep (y ∷ ys) x e k = go (test y) refl (keep y) refl e (λ f. find-filter keep ys x f k)
    where
      go :
          (b : Bool) → test y ≡ b → (c : Bool) → keep y ≡ c → (if b then Some y else find test ys) ≡ Some x →
          (find test ys ≡ Some x → find test (filter keep ys) ≡ Some x) →
          find test (if c then y ∷ filter keep ys else filter keep ys) ≡ Some x
      go true f true g h rest = ap (λ b. if b then Some y else find test (filter keep ys)) f ∙ h
      go true f false g h rest =
          let same : y ≡ x = cc in
          let kept : keep y ≡ true = ap keep same ∙ k in
          absurd (cc (sym kept ∙ g))
      go false f true g h rest = ap (λ b. if b then Some y else find test (filter keep ys)) f ∙ rest h
      go false f false g h rest = rest h

  pub find-push : (xs : List X) (y x : X) → find test xs ≡ Some x → find test (xs ++ y ∷ []) ≡ Some x
  find-push [] y x e = cc
  find-push (z ∷ zs) y x e = go (test z) e (find-push zs y x)
    where
      go :
          (b : Bool) → (if b then Some z else find test zs) ≡ Some x → (find test zs ≡ Some x → find test (zs ++ y ∷ []) ≡ Some x) →
          (if b then Some z else find test (zs ++ y ∷ [])) ≡ Some x
      go true h rest = h
      go false h rest = rest h

  pub find-push_none : (xs : List X) (y : X) → find test xs ≡ None → test y ≡ false → find test (xs ++ y ∷ []) ≡ None
  find-push_none [] y e f = ap (λ b. if b then Some y else None) f
  find-push_none (z ∷ zs) y e f = go (test z) e (λ h. find-push_none zs y h f)
    where
      go :
          (b : Bool) → (if b then Some z else find test zs) ≡ None → (find test zs ≡ None → find test (zs ++ y ∷ []) ≡ None) →
          (if b then Some z else find test (zs ++ y ∷ [])) ≡ None
      go true h rest = cc
      go false h rest = rest h

  pub find-filter_none : (keep : X → Bool) (xs : List X) → find test xs ≡ None → find test (filter keep xs) ≡ None
  find-filter_none keep [] e = refl
  find-filter_none keep (y ∷ ys) e = go (test y) refl (keep y) e (find-filter_none keep ys)
    where
      go :
          (b : Bool) → test y ≡ b → (c : Bool) → (if b then Some y else find test ys) ≡ None →
          (find test ys ≡ None → find test (filter keep ys) ≡ None) → find test (if c then y ∷ filter keep ys else filter keep ys) ≡ None
      go true f c h rest = cc
      go false f true h rest = ap (λ b. if b then Some y else find test (filter keep ys)) f ∙ rest h
      go false f false h rest = rest h

  -- another test's first is changed, and the change does not show
  module _ (other : X → Bool) (change : X → X) (same : (x : X) → test (change x) ≡ test x) where
    pub find-changed : (xs : List X) (x : X) → find test xs ≡ Some x → other x ≡ false → find test (change_first other change xs) ≡ Some x
    find-changed [] x e f = cc
    find-changed (y ∷ ys) x e f = go (other y) refl (test y) refl e (λ h. find-changed ys x h f)
      where
        go :
            (b : Bool) → other y ≡ b → (c : Bool) → test y ≡ c → (if c then Some y else find test ys) ≡ Some x →
            (find test ys ≡ Some x → find test (change_first other change ys) ≡ Some x) →
            find test (if b then change y ∷ ys else y ∷ change_first other change ys) ≡ Some x
        go true g true i h rest =
            let alike : y ≡ x = cc in
            let not_it : other y ≡ false = ap other alike ∙ f in
            absurd (cc (sym g ∙ not_it))
        go true g false i h rest = ap (λ b. if b then Some (change y) else find test ys) (same y ∙ i) ∙ h
        go false g true i h rest = ap (λ b. if b then Some y else find test (change_first other change ys)) i ∙ h
        go false g false i h rest = ap (λ b. if b then Some y else find test (change_first other change ys)) i ∙ rest h

    pub find-changed_none : (xs : List X) → find test xs ≡ None → find test (change_first other change xs) ≡ None
    find-changed_none [] e = refl
    find-changed_none (y ∷ ys) e = go (other y) (test y) refl e (find-changed_none ys)
      where
        go :
            (b c : Bool) → test y ≡ c → (if c then Some y else find test ys) ≡ None →
            (find test ys ≡ None → find test (change_first other change ys) ≡ None) →
            find test (if b then change y ∷ ys else y ∷ change_first other change ys) ≡ None
        go b true i h rest = cc
        go true false i h rest = ap (λ b. if b then Some (change y) else find test ys) (same y ∙ i) ∙ h
        go false false i h rest = ap (λ b. if b then Some y else find test (change_first other change ys)) i ∙ rest h

-- by their numbers

above : (low made : ℕ) (ts : List Timer) → IsAscending timer_number low made ts → All (λ t. low < t.number) ts
above low made [] h = All-nil (λ t. low < t.number)
above low made (t ∷ ts) h =
    let here : low < t.number = h.0 in
    All-cons (λ u. low < u.number) t ts here
    (All-weaker (λ u. t.number < u.number) (λ u. low < u.number) (λ u l. omega (arith, here, l)) ts (above t.number made ts h.2))

abbrev IsFound : List Timer → Timer → Type 0
IsFound ts t = timer_numbered ts t.number ≡ Some t

pub all_numbered : (low made : ℕ) (ts : List Timer) → IsAscending timer_number low made ts → All (IsFound ts) ts
all_numbered low made [] h = All-nil (IsFound [])
all_numbered low made (t ∷ ts) h =
    All-cons (IsFound (t ∷ ts)) t ts first (All-both (λ u. t.number < u.number) (IsFound ts) (IsFound (t ∷ ts)) later ts (above t.number made ts h.2) (all_numbered t.number made ts h.2))
  where
    first : IsFound (t ∷ ts) t
    first =
        let same : (t.number == t.number) ≡ true = grind (arith, nat_tests) in
        ap (λ b. if b then Some t else timer_numbered ts t.number) same

    later : (u : Timer) → t.number < u.number → IsFound ts u → IsFound (t ∷ ts) u
    later u l e =
        let other : (t.number == u.number) ≡ false = grind (arith, nat_tests) in
        ap (λ b. if b then Some t else timer_numbered ts u.number) other ∙ e

-- by their ids

same_id : (process id : ℕ) (t : Timer) → is_timer process id t ≡ true → (process ≡ t.process.0) × (id ≡ t.id)
same_id process id t e = (grind (arith, nat_tests), grind (arith, nat_tests))

-- what one search finds is what another does not miss
none_missed : {X : Type 0} (test other : X → Bool) (xs : List X) (x : X) → find test xs ≡ None → find other xs ≡ Some x → test x ≡ false
none_missed test other [] x e f = cc
none_missed {X} test other (y ∷ ys) x e f = go (test y) refl (other y) e f (none_missed test other ys x)
  where
    go :
        (b : Bool) → test y ≡ b → (c : Bool) → (if b then Some y else find test ys) ≡ None → (if c then Some y else find other ys) ≡ Some x →
        (find test ys ≡ None → find other ys ≡ Some x → test x ≡ false) → test x ≡ false
    go true g c h i rest = cc
    go false g true h i rest = let same : y ≡ x = cc in ap test (sym same) ∙ g
    go false g false h i rest = rest h i

pub own_id :
    (process id n : ℕ) (ts : List Timer) (t : Timer) → HaveDistinctIds ts → timer_numbered ts n ≡ Some t → is_timer process id t ≡ true →
    timer_at ts process id ≡ Some t
own_id process id n [] t h e f = cc
own_id process id n (u ∷ ts) t h e f = go (u.number == n) refl (is_timer process id u) refl e (λ g. own_id process id n ts t h.1 g f)
  where
    go :
        (b : Bool) → (u.number == n) ≡ b → (c : Bool) → is_timer process id u ≡ c → (if b then Some u else timer_numbered ts n) ≡ Some t →
        (timer_numbered ts n ≡ Some t → timer_at ts process id ≡ Some t) → (if c then Some u else timer_at ts process id) ≡ Some t
    go true g true i h' rest = h'
    go true g false i h' rest =
        let same : u ≡ t = cc in
        let it : is_timer process id u ≡ true = ap (is_timer process id) same ∙ f in
        absurd (cc (sym it ∙ i))
    go false g false i h' rest = rest h'
    go false g true i h' rest =
        let k : (process ≡ u.process.0) × (id ≡ u.id) = same_id process id u i in
        let none : timer_at ts process id ≡ None = ap (λ p. timer_at ts p id) k.0 ∙ ap (timer_at ts u.process.0) k.1 ∙ h.0 in
        absurd (cc (sym (none_missed (is_timer process id) (is_numbered timer_number n) ts t none h') ∙ f))

-- ids stay distinct

pub distinct-filter : (keep : Timer → Bool) (ts : List Timer) → HaveDistinctIds ts → HaveDistinctIds (filter keep ts)
distinct-filter keep [] h = tt
distinct-filter keep (t ∷ ts) h = go (keep t) (distinct-filter keep ts h.1)
  where
    go : (b : Bool) → HaveDistinctIds (filter keep ts) → HaveDistinctIds (if b then t ∷ filter keep ts else filter keep ts)
    go true rest = (find-filter_none (is_timer t.process.0 t.id) keep ts h.0, rest)
    go false rest = rest

pub distinct-changed :
    (test : Timer → Bool) (change : Timer → Timer) → ((t : Timer) → (change t).process ≡ t.process) → ((t : Timer) → (change t).id ≡ t.id) →
    (ts : List Timer) → HaveDistinctIds ts → HaveDistinctIds (change_first test change ts)
distinct-changed test change processes ids [] h = tt
distinct-changed test change processes ids (t ∷ ts) h = go (test t) (distinct-changed test change processes ids ts h.1)
  where
    seen : (p i : ℕ) (u : Timer) → is_timer p i (change u) ≡ is_timer p i u
    seen p i u = ap (λ (q : Pid). (p == q.0) && (i == (change u).id)) (processes u) ∙ ap (λ j. (p == u.process.0) && (i == j)) (ids u)

    go :
        (b : Bool) → HaveDistinctIds (change_first test change ts) →
        HaveDistinctIds (if b then change t ∷ ts else t ∷ change_first test change ts)
    go true rest = (ap (λ (q : Pid). timer_at ts q.0 (change t).id) (processes t) ∙ ap (timer_at ts t.process.0) (ids t) ∙ h.0, h.1)
    go false rest = (find-changed_none (is_timer t.process.0 t.id) test change (seen t.process.0 t.id) ts h.0, rest)

pub distinct-push :
    (ts : List Timer) (t : Timer) → HaveDistinctIds ts → timer_at ts t.process.0 t.id ≡ None → HaveDistinctIds (ts ++ t ∷ [])
distinct-push [] t h e = (refl, tt)
distinct-push (u ∷ ts) t h e = go (is_timer t.process.0 t.id u) refl e (distinct-push ts t h.1)
  where
    go :
        (b : Bool) → is_timer t.process.0 t.id u ≡ b → (if b then Some u else timer_at ts t.process.0 t.id) ≡ None →
        (timer_at ts t.process.0 t.id ≡ None → HaveDistinctIds (ts ++ t ∷ [])) → HaveDistinctIds (u ∷ (ts ++ t ∷ []))
    go true f g rest = cc
    go false f g rest =
        let other : is_timer u.process.0 u.id t ≡ false = grind (arith, nat_tests) in
        (find-push_none (is_timer u.process.0 u.id) ts t h.0 other, rest g)

-- how many numbers below n pass
abbrev below : ℕ → (ℕ → Bool) → ℕ
below zero test = 0
below (suc n) test = cond (test n) 1 0 + below n test

below-all : (n : ℕ) (f : ℕ → Bool) → ((k : ℕ) → k < n → f k ≡ true) → below n f ≡ n
below-all zero f h = refl
below-all (suc n) f h = omega (arith, below-all n f (λ k l. h k (omega (arith, l))), ap {B = ℕ} (λ b. cond b 1 0) (h n (omega arith)))

below-none : (n : ℕ) → below n (λ k. false) ≡ 0
below-none zero = refl
below-none (suc n) = omega (arith, below-none n)

below-same : (n : ℕ) (f g : ℕ → Bool) → ((k : ℕ) → k < n → f k ≡ g k) → below n f ≡ below n g
below-same zero f g h = refl
below-same (suc n) f g h =
    omega (arith, below-same n f g (λ k l. h k (omega (arith, l))), ap {B = ℕ} (λ b. cond b 1 0) (h n (omega arith)))

-- one more at most
below-more : (n id : ℕ) (f : ℕ → Bool) → below n (λ k. (id == k) || f k) ≤ 1 + below n f
below-more zero id f = omega arith
below-more (suc n) id f = go (id == n) refl (f n) (below-more n id f)
  where
    go : (b : Bool) → (id == n) ≡ b → (c : Bool) → below n (λ k. (id == k) || f k) ≤ 1 + below n f →
        cond (b || c) 1 0 + below n (λ k. (id == k) || f k) ≤ 1 + (cond c 1 0 + below n f)
    go true e c ih =
        let others : below n (λ k. (id == k) || f k) ≡ below n f =
        below-same n (λ k. (id == k) || f k) f (λ k l. let apart : (id == k) ≡ false = grind (arith, nat_tests) in ap (λ b. b || f k) apart) in
        omega (arith, others)
    go false e true ih = omega (arith, ih)
    go false e false ih = omega (arith, ih)

module _ (process : ℕ) where
  abbrev is_taken : List Timer → ℕ → Bool
  is_taken ts k = is_some (timer_at ts process k)

  -- as many ids at most are taken as there are timers
  taken_few : (n : ℕ) (ts : List Timer) → below n (is_taken ts) ≤ count_by (is_timer_of process) ts
  taken_few n [] = omega (arith, below-none n)
  taken_few n (t ∷ ts) = go (process == t.process.0) refl (taken_few n ts)
    where
      own : (process == t.process.0) ≡ true → (k : ℕ) → is_taken (t ∷ ts) k ≡ ((t.id == k) || is_taken ts k)
      own e k = grind (arith, nat_tests)

      other : (process == t.process.0) ≡ false → (k : ℕ) → is_taken (t ∷ ts) k ≡ is_taken ts k
      other e k = grind (arith, nat_tests)

      go :
          (b : Bool) → (process == t.process.0) ≡ b → below n (is_taken ts) ≤ count_by (is_timer_of process) ts →
          below n (is_taken (t ∷ ts)) ≤ count_by (is_timer_of process) (t ∷ ts)
      go true e ih =
          let mine : is_timer_of process t ≡ true = grind (arith, nat_tests) in
          omega (
            arith,
            ih,
            below-same n (is_taken (t ∷ ts)) (λ k. (t.id == k) || is_taken ts k) (λ k l. own e k),
            below-more n t.id (is_taken ts),
            count-cons (is_timer_of process) t ts ∙ ap (λ b. cond b 1 0 + count_by (is_timer_of process) ts) mine,
          )
      go false e ih =
          omega (
            arith,
            ih,
            below-same n (is_taken (t ∷ ts)) (is_taken ts) (λ k l. other e k),
            count-cons (is_timer_of process) t ts,
          )

  free_or_taken :
      (n : ℕ) (ts : List Timer) (id : ℕ) →
      ((free_id_from n ts process id < n + id) × (timer_at ts process (free_id_from n ts process id) ≡ None))
      ⊎ ((k : ℕ) → id ≤ k → k < n + id → is_taken ts k ≡ true)
  free_or_taken zero ts id = inr (λ k l m. absurd (omega (arith, l, m)))
  free_or_taken (suc n) ts id = go (timer_at ts process id) refl (free_or_taken n ts (id + 1))
    where
      go :
          (o : Option Timer) → timer_at ts process id ≡ o →
          ((free_id_from n ts process (id + 1) < n + (id + 1)) × (timer_at ts process (free_id_from n ts process (id + 1)) ≡ None))
          ⊎ ((k : ℕ) → id + 1 ≤ k → k < n + (id + 1) → is_taken ts k ≡ true) →
          (((if is_none o then id else free_id_from n ts process (id + 1)) < suc n + id)
          × (timer_at ts process (if is_none o then id else free_id_from n ts process (id + 1)) ≡ None))
          ⊎ ((k : ℕ) → id ≤ k → k < suc n + id → is_taken ts k ≡ true)
      go None e rest = inl (omega arith, e)
      go (Some t) e (inl free) = inl (omega (arith, free.0), free.1)
      go (Some t) e (inr taken) = inr each
        where
          each : (k : ℕ) → id ≤ k → k < suc n + id → is_taken ts k ≡ true
          each k l m = by (id == k) refl
            where
              by : (b : Bool) → (id == k) ≡ b → is_taken ts k ≡ true
              by true f = let same : k ≡ id = grind (arith, nat_tests) in ap (is_taken ts) same ∙ ap is_some e
              by false f = let up : id + 1 ≤ k = grind (arith, nat_tests) in taken k up (omega (arith, m))

  -- a process that has not all its timers has a free id
  pub free_is : (ts : List Timer) → has_all_timers ts process ≡ false → (free_id ts process < TIMERS_MAX) × (timer_at ts process (free_id ts process) ≡ None)
  unfolding free_id
  free_is ts few = go (free_or_taken TIMERS_MAX ts 0)
    where
      go :
          ((free_id_from TIMERS_MAX ts process 0 < TIMERS_MAX + 0) × (timer_at ts process (free_id_from TIMERS_MAX ts process 0) ≡ None))
          ⊎ ((k : ℕ) → 0 ≤ k → k < TIMERS_MAX + 0 → is_taken ts k ≡ true) →
          (free_id_from TIMERS_MAX ts process 0 < TIMERS_MAX) × (timer_at ts process (free_id_from TIMERS_MAX ts process 0) ≡ None)
      go (inl free) = (omega (arith, free.0), free.1)
      go (inr taken) =
          let all : below TIMERS_MAX (is_taken ts) ≡ TIMERS_MAX = below-all TIMERS_MAX (is_taken ts) (λ k l. taken k (omega arith) (omega (arith, l))) in
          let less : count_by (is_timer_of process) ts < TIMERS_MAX = grind (arith, nat_tests, few) in
          absurd (omega (arith, all, less, taken_few TIMERS_MAX ts))
