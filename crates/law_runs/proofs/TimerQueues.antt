-- What a queue has of one timer, where it grows, or some of it leaves.
use Rattle.std.specs.Prelude.{ℕ, zero, suc, ◌≡◌, ◌+◌, ◌++◌, ◌≤◌, ◌<◌, ◌==◌, ◌&&◌, ◌||◌, List, [], ◌∷◌, Option, Bool, true, false, if◌then◌else◌, not, Some, None, All, filter, get_or, map, replicate}
use Rattle.std.proofs.Common.{refl, sym, ap, ap₂, subst, ◌∙◌}
use native.Mathlib.Omega.{arith}
use Rattle.std.proofs.lemmas.Bool.Decides.{nat_tests}
use Rattle.std.proofs.lemmas.List.Elements.{All-cons, All-head, All-nil, All-tail}
use Rattle.spec_records.specs.declared.association.Association.{Association}
use Rattle.spec_records.specs.declared.timer.Timer.{Timer}
use Rattle.spec_records.specs.Words.{IsAscending, timer_number}
use Rattle.spec_kernel.specs.Types.{EventRec, Queued}
use Rattle.spec_kernel.specs.Words.{State}
use Rattle.law_runs.specs.Clock.{came, numbered, timer_under}
use Rattle.law_runs.specs.OneShot.{due_event, is_from}
use Rattle.law_runs.specs.PortEvents.{came_for, came_in, fired_at, grown, has_fired, has_queued, is_of_other, sent_event, tick_event, ticks_at, told}
use Rattle.law_runs.specs.Ticks.{count_of_timer, moments_among, moments_queued}
use Rattle.law_runs.proofs.TimerLists.{numbered-above}

module _ (n : ℕ) where
  pub from_some : (o : Option ℕ) → is_from n o ≡ true → o ≡ Some n
  from_some None e = absurd (cc e)
  from_some (Some k) e = let same : k ≡ n = grind (arith, nat_tests) in ap Some same

  pub from_it : (o : Option ℕ) → o ≡ Some n → is_from n o ≡ true
  from_it o e = ap (is_from n) e ∙ itself n
    where
      itself : (k : ℕ) → (k == k) ≡ true
      itself k = grind (arith, nat_tests)

  abbrev pub IsNot : Queued → Type 0
  IsNot e = is_from n e.timer ≡ false

  -- where none is of it

  pub none_queued : (es : List Queued) → All IsNot es → moments_queued n es ≡ 0
  none_queued [] h = refl
  none_queued (e ∷ es) h =
      ap (λ (b : Bool). if b then e.rec.events + moments_queued n es else moments_queued n es) (All-head IsNot e es h)
      ∙ none_queued es (All-tail IsNot e es h)

  pub none_counted : (es : List Queued) → All IsNot es → count_of_timer n es ≡ 0
  none_counted [] h = refl
  none_counted (e ∷ es) h =
      ap (λ (b : Bool). if b then 1 + count_of_timer n es else count_of_timer n es) (All-head IsNot e es h)
      ∙ none_counted es (All-tail IsNot e es h)

  pub none_among : (rs : List EventRec) (es : List Queued) → All IsNot es → moments_among n rs es ≡ 0
  none_among [] es h = refl
  none_among (r ∷ rs) [] h = refl
  none_among (r ∷ rs) (e ∷ es) h =
      ap (λ (b : Bool). if b then r.events + moments_among n rs es else moments_among n rs es) (All-head IsNot e es h)
      ∙ none_among rs es (All-tail IsNot e es h)

  pub without_it : (es : List Queued) → All IsNot (filter (is_of_other n) es)
  without_it [] = All-nil IsNot
  without_it (e ∷ es) = go (is_from n e.timer) refl (without_it es)
    where
      go :
          (b : Bool) → is_from n e.timer ≡ b → All IsNot (filter (is_of_other n) es) →
          All IsNot (if not b then e ∷ filter (is_of_other n) es else filter (is_of_other n) es)
      go true f rest = rest
      go false f rest = All-cons IsNot e (filter (is_of_other n) es) f rest

  -- two parts of a queue

  pub queued-append : (es fs : List Queued) → moments_queued n (es ++ fs) ≡ moments_queued n es + moments_queued n fs
  queued-append [] fs = omega arith
  queued-append (e ∷ es) fs = go (is_from n e.timer) (queued-append es fs)
    where
      go :
          (b : Bool) → moments_queued n (es ++ fs) ≡ moments_queued n es + moments_queued n fs →
          (if b then e.rec.events + moments_queued n (es ++ fs) else moments_queued n (es ++ fs))
          ≡ (if b then e.rec.events + moments_queued n es else moments_queued n es) + moments_queued n fs
      go true h = omega (arith, h)
      go false h = h

  -- where what is of it stays

  abbrev pub Keeps : (Queued → Bool) → Queued → Type 0
  Keeps keep e = is_from n e.timer ≡ true → keep e ≡ true

  pub queued-filter :
      (keep : Queued → Bool) (es : List Queued) → All (Keeps keep) es →
      moments_queued n (filter keep es) ≡ moments_queued n es
  queued-filter keep [] h = refl
  queued-filter keep (e ∷ es) h =
      go (keep e) refl (is_from n e.timer) refl (All-head (Keeps keep) e es h) (queued-filter keep es (All-tail (Keeps keep) e es h))
    where
      go :
          (c : Bool) → keep e ≡ c → (b : Bool) → is_from n e.timer ≡ b → (is_from n e.timer ≡ true → keep e ≡ true) →
          moments_queued n (filter keep es) ≡ moments_queued n es →
          moments_queued n (if c then e ∷ filter keep es else filter keep es) ≡ (if b then e.rec.events + moments_queued n es else moments_queued n es)
      go true f b g stays rest =
          ap₂ (λ (d : Bool) (j : ℕ). if d then e.rec.events + j else j) g rest
      go false f true g stays rest = absurd (cc (sym f ∙ stays g))
      go false f false g stays rest = rest

  -- and where another timer's leaves
  pub queued-other : (k : ℕ) → (n == k) ≡ false → (es : List Queued) → moments_queued n (filter (is_of_other k) es) ≡ moments_queued n es
  queued-other k differs es = queued-filter (is_of_other k) es (λ j d l f. stays (get_or es j d) f)
    where
      stays : (e : Queued) → is_from n e.timer ≡ true → is_of_other k e ≡ true
      stays e f = ap (λ (o : Option ℕ). not (is_from k o)) (from_some e.timer f) ∙ ap not differs

  -- what is told of it

  pub told_taken : (taken rest : List Queued) → moments_among n (told taken) (taken ++ rest) ≡ moments_queued n taken
  told_taken [] rest = refl
  told_taken (e ∷ es) rest = ap (λ (j : ℕ). if is_from n e.timer then e.rec.events + j else j) (told_taken es rest)

  -- what others queue

  pub none_sent : (events user k : ℕ) → moments_queued n (replicate k (sent_event events user)) ≡ 0
  none_sent events user zero = refl
  none_sent events user (suc k) = none_sent events user k

  pub none_fired : (before after : State) (q : ℕ) (xs : List Association) → moments_queued n (fired_at before after q xs) ≡ 0
  none_fired before after q [] = refl
  none_fired before after q (a ∷ xs) = go ((a.key.port == q) && has_fired before a) (none_fired before after q xs)
    where
      go :
          (b : Bool) → moments_queued n (fired_at before after q xs) ≡ 0 →
          moments_queued n (if b then due_event after a ∷ fired_at before after q xs else fired_at before after q xs) ≡ 0
      go true h = h
      go false h = h

  -- as the clock moves on

  none_has : (es : List Queued) → count_of_timer n es ≡ 0 → has_queued n es ≡ false
  none_has [] h = refl
  none_has (e ∷ es) h = go (is_from n e.timer) h (λ f. none_has es f)
    where
      go :
          (b : Bool) → (if b then 1 + count_of_timer n es else count_of_timer n es) ≡ 0 → (count_of_timer n es ≡ 0 → has_queued n es ≡ false) →
          b || has_queued n es ≡ false
      go true f rest = absurd (omega (arith, f))
      go false f rest = rest f

  module _ (before later : State) where
    -- the one that is queued grows
    pub grown_queued :
        (es : List Queued) → count_of_timer n es ≤ 1 →
        moments_queued n (map (grown before later) es) ≡ moments_queued n es + (if has_queued n es then came_for before later (Some n) else 0)
    grown_queued [] h = refl
    grown_queued (e ∷ es) h = go (is_from n e.timer) refl h (λ l. grown_queued es l)
      where
        go :
            (b : Bool) → is_from n e.timer ≡ b → (if b then 1 + count_of_timer n es else count_of_timer n es) ≤ 1 →
            (count_of_timer n es ≤ 1 →
            moments_queued n (map (grown before later) es) ≡ moments_queued n es + (if has_queued n es then came_for before later (Some n) else 0)) →
            (if b then e.rec.events + came_for before later e.timer + moments_queued n (map (grown before later) es) else moments_queued n (map (grown before later) es))
            ≡ (if b then e.rec.events + moments_queued n es else moments_queued n es) + (if b || has_queued n es then came_for before later (Some n) else 0)
        go false f l rest = rest l
        go true f l rest =
            ap₂ (λ (j k : ℕ). e.rec.events + j + k) (ap (came_for before later) (from_some e.timer f))
            (rest (omega (arith, l)) ∙ ap (λ (b : Bool). moments_queued n es + (if b then came_for before later (Some n) else 0)) (none_has es (omega (arith, l))))
            ∙ sums e.rec.events (moments_queued n es) (came_for before later (Some n))
          where
            sums : (i j c : ℕ) → i + c + (j + 0) ≡ i + j + c
            sums i j c = omega arith

    module _ (q : ℕ) (es : List Queued) where
      -- another timer queues none of it
      none_ticks : (ts : List Timer) → numbered n ts ≡ None → moments_queued n (ticks_at before later q es ts) ≡ 0
      none_ticks [] h = refl
      none_ticks (t ∷ ts) h =
          go (t.number == n) refl h ((t.port == q) && (not (has_queued t.number es) && not (came before later t == 0))) (λ f. none_ticks ts f)
        where
          go :
              (b : Bool) → (t.number == n) ≡ b → (if b then Some t else numbered n ts) ≡ None → (c : Bool) →
              (numbered n ts ≡ None → moments_queued n (ticks_at before later q es ts) ≡ 0) →
              moments_queued n (if c then tick_event t (came before later t) ∷ ticks_at before later q es ts else ticks_at before later q es ts) ≡ 0
          go true f g c rest = absurd (cc g)
          go false f g true rest =
              ap (λ (b : Bool). if b then came before later t + moments_queued n (ticks_at before later q es ts) else moments_queued n (ticks_at before later q es ts)) f
              ∙ rest g
          go false f g false rest = rest g

      -- where none was queued, one is with the moments that came, unless none came
      pub ticks_queued :
          (low made : ℕ) (ts : List Timer) (t : Timer) → IsAscending timer_number low made ts → numbered n ts ≡ Some t → (t.port == q) ≡ true →
          moments_queued n (ticks_at before later q es ts) ≡ (if has_queued n es then 0 else came before later t)
      ticks_queued low made [] t h f g = absurd (cc f)
      ticks_queued low made (u ∷ ts) t h f g =
          go (u.number == n) refl f (λ l. ticks_queued u.number made ts t h.2 l g)
        where
          rest : List Queued
          rest = ticks_at before later q es ts

          one :
              (c d : Bool) → (came before later u == 0) ≡ d → (u.number == n) ≡ true → moments_queued n (ticks_at before later q es ts) ≡ 0 →
              moments_queued n (if not c && not d then tick_event u (came before later u) ∷ ticks_at before later q es ts else ticks_at before later q es ts)
              ≡ (if c then 0 else came before later u)
          one true d l k none = none
          one false true l k none = let zero_came : came before later u ≡ 0 = grind (arith, nat_tests) in none ∙ sym zero_came
          one false false l k none =
              ap (λ (b : Bool). if b then came before later u + moments_queued n (ticks_at before later q es ts) else moments_queued n (ticks_at before later q es ts)) k
              ∙ ap (λ (j : ℕ). came before later u + j) none
              ∙ plus_none (came before later u)
            where
              plus_none : (j : ℕ) → j + 0 ≡ j
              plus_none j = omega arith

          here : (u.number == n) ≡ true → u ≡ t → moments_queued n (ticks_at before later q es (u ∷ ts)) ≡ (if has_queued n es then 0 else came before later t)
          here k same =
              ap
              (λ (c : Bool).
              moments_queued n
              (if c && (not (has_queued u.number es) && not (came before later u == 0))
              then tick_event u (came before later u) ∷ ticks_at before later q es ts
              else ticks_at before later q es ts))
              (ap (λ (y : Timer). y.port == q) same ∙ g)
              ∙ ap
              (λ (z : ℕ).
              moments_queued n
              (if not (has_queued z es) && not (came before later u == 0)
              then tick_event u (came before later u) ∷ ticks_at before later q es ts
              else ticks_at before later q es ts))
              number
              ∙ one (has_queued n es) (came before later u == 0) refl k (none_ticks ts (numbered-above n u.number made ts (omega (arith, number)) h.2))
              ∙ ap (λ (y : Timer). if has_queued n es then 0 else came before later y) same
            where
              number : u.number ≡ n
              number = grind (arith, nat_tests)

          go :
              (b : Bool) → (u.number == n) ≡ b → (if b then Some u else numbered n ts) ≡ Some t →
              (numbered n ts ≡ Some t → moments_queued n (ticks_at before later q es ts) ≡ (if has_queued n es then 0 else came before later t)) →
              moments_queued n (ticks_at before later q es (u ∷ ts)) ≡ (if has_queued n es then 0 else came before later t)
          go true k l ih = let same : u ≡ t = cc in here k same
          go false k l ih = other ((u.port == q) && (not (has_queued u.number es) && not (came before later u == 0))) ∙ ih l
            where
              other :
                  (c : Bool) →
                  moments_queued n (if c then tick_event u (came before later u) ∷ ticks_at before later q es ts else ticks_at before later q es ts)
                  ≡ moments_queued n (ticks_at before later q es ts)
              other true =
                  ap (λ (b : Bool). if b then came before later u + moments_queued n (ticks_at before later q es ts) else moments_queued n (ticks_at before later q es ts)) k
              other false = refl
