-- The events of each association that are queued at each port, after each change of a port.
use Rattle.std.proofs.Common.{◌≡◌, ℕ, ◌+◌, ◌≤◌, ◌==◌, ◌&&◌, List, [], ◌∷◌, ◌++◌, Option, Some, None, is_some, Bool, true, false, if◌then◌else◌, not, cond, filter, length, map, refl, sym, ap, ap₂, subst, ◌∙◌, arith, count_by}
use Rattle.std.specs.Prelude.{All}
use Rattle.std.proofs.lemmas.Bool.Decides.{nat_tests}
use Rattle.std.proofs.lemmas.List.Elements.{All-head, All-tail}
use Rattle.dk_base.specs.declared.set.PollSet.{PollSet}
use Rattle.dk_base.specs.ByNumber.{at_number}
use Rattle.spec_records.specs.declared.association.Association.{Association}
use Rattle.spec_records.specs.declared.association.Fired.{Fired}
use Rattle.spec_records.specs.Words.{Port, change_at_number, change_found, all_fired, fired_where, is_event_of, is_number, is_other_event, is_to_fire, make_port, new_port, port_in, port_of, post_event, post_fired, with_event, withdraw_event, withdraw_events, without_event}
use Rattle.spec_records.proofs.Lists.{at_number-with_at_number, numbered_past, numbered_push, numbered_there}
use Rattle.spec_kernel.specs.Types.{Obj, Queued}
use Rattle.law_channels.specs.Associations.{IsOfPort}
use Rattle.law_channels.proofs.Bounds.{length-change_at_number}
use Rattle.law_channels.proofs.Tally.{count-append, count-cons}

-- how many of an association are queued at a port
abbrev pub tally : ℕ → List Port → ℕ → ℕ
tally n ports q = count_by (is_event_of n) (port_of ports q).queue

-- an association of this number and port
abbrev pub is_of : ℕ → ℕ → Association → Bool
is_of n q a = (a.number == n) && (a.key.port == q)

module _ (ports : List Port) (p q : ℕ) (f : Port → Port) where
  -- the queue of a port that is changed, and of the others
  pub queue-change :
      (at_number ports p ≡ None → (f (new_port 0)).queue ≡ []) →
      (port_of (change_at_number ports p f) q).queue ≡ (if q == p then (f (port_of ports q)).queue else (port_of ports q).queue)
  queue-change none = go (at_number ports p) refl (q == p) refl
    where
      go :
          (o : Option Port) → at_number ports p ≡ o → (b : Bool) → (q == p) ≡ b →
          (port_of (change_found ports p f o) q).queue ≡ (if b then (f (port_of ports q)).queue else (port_of ports q).queue)
      go None e false g = refl
      go None e true g =
          let same : q ≡ p = grind (arith, nat_tests) in
          let empty : at_number ports q ≡ None = ap (at_number ports) same ∙ e in
          ap (λ o. (port_in o).queue) empty ∙ sym (none e) ∙ ap (λ o. (f (port_in o)).queue) (sym empty)
      go (Some x) e true g =
          let same : q ≡ p = grind (arith, nat_tests) in
          let here : at_number ports q ≡ Some x = ap (at_number ports) same ∙ e in
          ap (λ o. (port_in o).queue) (at_number-with_at_number ports p q (f x))
          ∙ ap₂ (λ c (o : Option Port). (port_in (if c && is_some o then Some (f x) else at_number ports q)).queue) g e
          ∙ ap (λ o. (f (port_in o)).queue) (sym here)
      go (Some x) e false g =
          ap (λ o. (port_in o).queue) (at_number-with_at_number ports p q (f x))
          ∙ ap₂ (λ c (o : Option Port). (port_in (if c && is_some o then Some (f x) else at_number ports q)).queue) g e

  -- a change that neither queues nor takes an event of the association, at the port that is there
  pub tally-same_there :
      (n : ℕ) → ((x : Port) → at_number ports p ≡ Some x → count_by (is_event_of n) (f x).queue ≡ count_by (is_event_of n) x.queue) →
      tally n (change_at_number ports p f) q ≡ tally n ports q
  tally-same_there n same = go (at_number ports p) refl (q == p) refl
    where
      go : (o : Option Port) → at_number ports p ≡ o → (b : Bool) → (q == p) ≡ b → tally n (change_found ports p f o) q ≡ tally n ports q
      go None e b g = refl
      go (Some x) e true g =
          let alike : q ≡ p = grind (arith, nat_tests) in
          let here : at_number ports q ≡ Some x = ap (at_number ports) alike ∙ e in
          ap (λ o. count_by (is_event_of n) (port_in o).queue) (at_number-with_at_number ports p q (f x))
          ∙ ap₂ (λ c (o : Option Port). count_by (is_event_of n) (port_in (if c && is_some o then Some (f x) else at_number ports q)).queue) g e
          ∙ same x e
          ∙ ap (λ o. count_by (is_event_of n) (port_in o).queue) (sym here)
      go (Some x) e false g =
          ap (λ o. count_by (is_event_of n) (port_in o).queue) (at_number-with_at_number ports p q (f x))
          ∙ ap₂ (λ c (o : Option Port). count_by (is_event_of n) (port_in (if c && is_some o then Some (f x) else at_number ports q)).queue) g e

  -- and at any port
  pub tally-same : (n : ℕ) → ((x : Port) → count_by (is_event_of n) (f x).queue ≡ count_by (is_event_of n) x.queue) → tally n (change_at_number ports p f) q ≡ tally n ports q
  tally-same n same = tally-same_there n (λ x e. same x)

-- a port more, with nothing queued
pub tally-made : (ports : List Port) (n q : ℕ) → tally n (make_port ports) q ≡ tally n ports q
tally-made ports n q = ap (λ o. count_by (is_event_of n) (port_in o).queue) (numbered_push ports (new_port (length ports + 1)) q) ∙ go (q == length ports + 1) refl
  where
    go :
        (b : Bool) → (q == length ports + 1) ≡ b →
        count_by (is_event_of n) (port_in (if b then Some (new_port (length ports + 1)) else at_number ports q)).queue ≡ tally n ports q
    go true e = ap (λ o. count_by (is_event_of n) (port_in o).queue) (sym (numbered_past ports q (grind (arith, nat_tests))))
    go false e = refl

-- an event is queued at a port that is there
pub tally-post :
    (ports : List Port) (p n q : ℕ) (e : Queued) → (1 ≤ p) × (p ≤ length ports) →
    tally n (post_event ports p e) q ≡ tally n ports q + cond (is_event_of n e && (p == q)) 1 0
tally-post ports p n q e there = go (q == p) refl (queue-change ports p q (with_event e) (λ none. absurd (missing none)))
  where
    missing : at_number ports p ≡ None → ⊥
    missing none = let there : is_some (at_number ports p) ≡ true = numbered_there ports p there.0 there.1 in cc

    go :
        (b : Bool) → (q == p) ≡ b →
        (port_of (post_event ports p e) q).queue ≡ (if b then (port_of ports q).queue ++ e ∷ [] else (port_of ports q).queue) →
        tally n (post_event ports p e) q ≡ tally n ports q + cond (is_event_of n e && (p == q)) 1 0
    go true f h =
        let same : (p == q) ≡ true = grind (arith, nat_tests) in
        ap (count_by (is_event_of n)) h ∙ by (is_event_of n e) refl (p == q) same
      where
        by :
            (c : Bool) → is_event_of n e ≡ c → (d : Bool) → d ≡ true →
            count_by (is_event_of n) ((port_of ports q).queue ++ e ∷ []) ≡ tally n ports q + cond (c && d) 1 0
        by c g false i = cc
        by true g true i = omega (arith, count-append (is_event_of n) (port_of ports q).queue (e ∷ []), count-cons (is_event_of n) e [] ∙ ap (λ b. cond b 1 0 + 0) g)
        by false g true i = omega (arith, count-append (is_event_of n) (port_of ports q).queue (e ∷ []), count-cons (is_event_of n) e [] ∙ ap (λ b. cond b 1 0 + 0) g)
    go false f h =
        let other : (p == q) ≡ false = grind (arith, nat_tests) in
        ap (count_by (is_event_of n)) h ∙ by (is_event_of n e) (p == q) other
      where
        by : (c d : Bool) → d ≡ false → tally n ports q ≡ tally n ports q + cond (c && d) 1 0
        by c true i = cc
        by true false i = omega arith
        by false false i = omega arith

-- what an association has queued at a port is withdrawn

other_number : (m n : ℕ) (o : Option ℕ) → (m == n) ≡ false → is_number m o ≡ true → is_number n o ≡ false
other_number m n None e f = cc
other_number m n (Some k) e f = grind (arith, nat_tests)

count-without : (m n : ℕ) (es : List Queued) → count_by (is_event_of n) (filter (is_other_event m) es) ≡ (if m == n then 0 else count_by (is_event_of n) es)
count-without m n [] = go (m == n)
  where
    go : (b : Bool) → ◌≡◌ {A = ℕ} 0 (if b then 0 else 0)
    go true = refl
    go false = refl
count-without m n (e ∷ es) = go (is_event_of m e) refl (m == n) refl (count-without m n es)
  where
    kept : ℕ
    kept = count_by (is_event_of n) (filter (is_other_event m) es)

    go :
        (b : Bool) → is_event_of m e ≡ b → (c : Bool) → (m == n) ≡ c →
        count_by (is_event_of n) (filter (is_other_event m) es) ≡ (if c then 0 else count_by (is_event_of n) es) →
        count_by (is_event_of n) (if not b then e ∷ filter (is_other_event m) es else filter (is_other_event m) es)
        ≡ (if c then 0 else count_by (is_event_of n) (e ∷ es))
    go true f true g rest = rest
    go true f false g rest =
        rest ∙ sym (omega (arith, count-cons (is_event_of n) e es ∙ ap (λ b. cond b 1 0 + count_by (is_event_of n) es) (other_number m n e.assoc g f)))
    go false f true g rest =
        let same : m ≡ n = grind (arith, nat_tests) in
        let not_it : is_event_of n e ≡ false = ap (λ k. is_event_of k e) (sym same) ∙ f in
        omega (arith, rest, count-cons (is_event_of n) e (filter (is_other_event m) es) ∙ ap (λ b. cond b 1 0 + count_by (is_event_of n) (filter (is_other_event m) es)) not_it)
    go false f false g rest =
        omega (arith, rest, count-cons (is_event_of n) e es, count-cons (is_event_of n) e (filter (is_other_event m) es))

tally-withdraw :
    (ports : List Port) (p m n q : ℕ) →
    tally n (withdraw_event ports p m) q ≡ (if (m == n) && (p == q) then 0 else tally n ports q)
tally-withdraw ports p m n q = go (q == p) refl (queue-change ports p q (without_event m) (λ none. refl))
  where
    go :
        (b : Bool) → (q == p) ≡ b →
        (port_of (withdraw_event ports p m) q).queue ≡ (if b then (without_event m (port_of ports q)).queue else (port_of ports q).queue) →
        tally n (withdraw_event ports p m) q ≡ (if (m == n) && (p == q) then 0 else tally n ports q)
    go true f h = ap (count_by (is_event_of n)) h ∙ count-without m n (port_of ports q).queue ∙ by (m == n) (p == q) (grind (arith, nat_tests))
      where
        by : (c d : Bool) → d ≡ true → (if c then 0 else tally n ports q) ≡ (if c && d then 0 else tally n ports q)
        by c false i = cc
        by true true i = refl
        by false true i = refl
    go false f h = ap (count_by (is_event_of n)) h ∙ by (m == n) (p == q) (grind (arith, nat_tests))
      where
        by : (c d : Bool) → d ≡ false → tally n ports q ≡ (if c && d then 0 else tally n ports q)
        by c true i = cc
        by true false i = refl
        by false false i = refl

-- what several have queued
pub tally-withdraw_events :
    (ports : List Port) (xs : List Association) (n q : ℕ) →
    tally n (withdraw_events ports xs) q ≡ (if count_by (is_of n q) xs == 0 then tally n ports q else 0)
tally-withdraw_events ports [] n q = refl
tally-withdraw_events ports (a ∷ xs) n q =
    tally-withdraw_events (withdraw_event ports a.key.port a.number) xs n q
    ∙ ap (λ k. if count_by (is_of n q) xs == 0 then k else 0) (tally-withdraw ports a.key.port a.number n q)
    ∙ go (is_of n q a) refl (count_by (is_of n q) xs) refl
  where
    go :
        (b : Bool) → is_of n q a ≡ b → (k : ℕ) → count_by (is_of n q) xs ≡ k →
        (if k == 0 then (if b then 0 else tally n ports q) else 0) ≡ (if count_by (is_of n q) (a ∷ xs) == 0 then tally n ports q else 0)
    go b e k f = by b k ∙ ap (λ j. if j == 0 then tally n ports q else 0) (sym (count-cons (is_of n q) a xs ∙ ap₂ (λ c i. cond c 1 0 + i) e f))
      where
        by : (b : Bool) (k : ℕ) → (if k == 0 then (if b then 0 else tally n ports q) else 0) ≡ (if cond b 1 0 + k == 0 then tally n ports q else 0)
        by true k = grind (arith, nat_tests)
        by false k = grind (arith, nat_tests)

pub length-withdraw_events : (ports : List Port) (xs : List Association) → length (withdraw_events ports xs) ≡ length ports
length-withdraw_events ports [] = refl
length-withdraw_events ports (a ∷ xs) =
    length-withdraw_events (withdraw_event ports a.key.port a.number) xs
    ∙ length-change_at_number ports a.key.port (without_event a.number)

-- what fires is queued

pub length-post_fired : (ports : List Port) (fs : List Fired) → length (post_fired ports fs) ≡ length ports
length-post_fired ports [] = refl
length-post_fired ports (f ∷ fs) =
    length-post_fired (post_event ports f.port f.queued) fs ∙ length-change_at_number ports f.port (with_event f.queued)

module _ (ready : Obj → PollSet) where
  -- of those that fire, one of this number and port
  abbrev pub fires_at : ℕ → ℕ → Association → Bool
  fires_at n q a = is_to_fire ready a && is_of n q a

  pub tally-post_fired :
      (ports : List Port) (xs : List Association) (n q : ℕ) → All (IsOfPort (length ports)) xs →
      tally n (post_fired ports (all_fired ready xs)) q ≡ tally n ports q + count_by (fires_at n q) xs
  tally-post_fired ports [] n q all = omega arith
  tally-post_fired ports (a ∷ xs) n q all =
      go (is_to_fire ready a) refl (λ k same. tally-post_fired k xs n q (subst (λ l. All (IsOfPort l) xs) (sym same) (All-tail (IsOfPort (length ports)) a xs all)))
    where
      go :
          (b : Bool) → is_to_fire ready a ≡ b →
          ((k : List Port) → length k ≡ length ports → tally n (post_fired k (all_fired ready xs)) q ≡ tally n k q + count_by (fires_at n q) xs) →
          tally n (post_fired ports (map (fired_where ready) (if b then a ∷ filter (is_to_fire ready) xs else filter (is_to_fire ready) xs))) q
          ≡ tally n ports q + count_by (fires_at n q) (a ∷ xs)
      go true e rest =
          omega (
            arith,
            rest (post_event ports a.key.port (fired_where ready a).queued) (length-change_at_number ports a.key.port (with_event (fired_where ready a).queued)),
            tally-post ports a.key.port n q (fired_where ready a).queued (All-head (IsOfPort (length ports)) a xs all),
            count-cons (fires_at n q) a xs ∙ ap (λ b. cond (b && is_of n q a) 1 0 + count_by (fires_at n q) xs) e,
          )
      go false e rest =
          omega (arith, rest ports refl, count-cons (fires_at n q) a xs ∙ ap (λ b. cond (b && is_of n q a) 1 0 + count_by (fires_at n q) xs) e)
