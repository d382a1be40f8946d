-- Spares of different processes start in any order.
use Rattle.std.proofs.Common.{◌≡◌, ℕ, zero, suc, ◌≤◌, ◌==◌, ◌&&◌, ◌||◌, Bool, true, false, if◌then◌else◌, nat_le, is_some, List, [], ◌∷◌, Option, None, Some, option_map, position, length, get_or, refl, sym, ap, ap₂, ⊎_elim, eq-or-lt_of_le, ◌∙◌, add-one, arith}
use Rattle.std.proofs.lemmas.Bool.Decides.{nat_tests}
use Rattle.std.proofs.lemmas.List.Quantifiers.{position-Some}
use Rattle.std.proofs.lemmas.Option.{slice_get-get_or}
use Rattle.spec_records.specs.declared.record.ThreadState.TheVariants as is
use Rattle.spec_records.specs.Words.{ProcessTable, change_first, change_thread_in, is_dormant, is_spare_of, set_thread_state, start_spare, start_thread_at, thread_at_state}
use Rattle.spec_records.specs.declared.record.Thread.{Thread}
use Rattle.spec_kernel.specs.Types.{Pid}
use Rattle.spec_records.proofs.Lists.{at_number-suc, with_at_number-suc}
use Rattle.spec_records.proofs.Places.{changed_at, changed_nowhere}
use Rattle.spec_kernel.specs.Words.{State, needs_spare, start_each, start_one}
use Rattle.server_pool.specs.Words.{spares_or_none}
use Rattle.law_pools.specs.Words.{is_this}
use Rattle.law_pools.proofs.Starting.{no_spare}
use Rattle.spec_records.proofs.Lists.{is_some-at_number}
use Rattle.dk_base.specs.ByNumber.{at_number}
use Rattle.kernel_store.specs.Giving.{start_meant}
use Rattle.kernel_store.specs.Stored.{IsAgreed, StoreValue, stored_state}

-- changes of the first items that meet two tests

module _ {X : Type 0} (p q : X → Bool) (f : X → X) (apart : (x : X) → p x ≡ true → q x ≡ false) (p_gone : (x : X) → q (f x) ≡ false) (q_gone : (x : X) → p (f x) ≡ false) where
  change_first-swap : (xs : List X) → change_first q f (change_first p f xs) ≡ change_first p f (change_first q f xs)
  change_first-swap [] = refl
  change_first-swap (x ∷ xs) = go (p x) refl (q x) refl (change_first-swap xs)
    where
      go :
          (b : Bool) → p x ≡ b → (c : Bool) → q x ≡ c → change_first q f (change_first p f xs) ≡ change_first p f (change_first q f xs) →
          change_first q f (if b then f x ∷ xs else x ∷ change_first p f xs) ≡ change_first p f (if c then f x ∷ xs else x ∷ change_first q f xs)
      go true e true g ih = let none : true ≡ false = sym g ∙ apart x e in cc
      go true e false g ih =
          ap (λ d. if d then f (f x) ∷ xs else f x ∷ change_first q f xs) (p_gone x)
          ∙ sym (ap (λ d. if d then f x ∷ change_first q f xs else x ∷ change_first p f (change_first q f xs)) e)
      go false e true g ih =
          ap (λ d. if d then f x ∷ change_first p f xs else x ∷ change_first q f (change_first p f xs)) g
          ∙ sym (ap (λ d. if d then f (f x) ∷ xs else f x ∷ change_first p f xs) (q_gone x))
      go false e false g ih =
          ap (λ d. if d then f x ∷ change_first p f xs else x ∷ change_first q f (change_first p f xs)) g
          ∙ ap (λ ys. x ∷ ys) ih
          ∙ sym (ap (λ d. if d then f x ∷ change_first q f xs else x ∷ change_first p f (change_first q f xs)) e)

-- a spare that starts is the first thread that is one

abbrev starts_first : ProcessTable → ℕ → ProcessTable
starts_first table p = record table { threads = change_first (is_spare_of p) (thread_at_state is.Running) table.threads }

start_is : (table : ProcessTable) (p : ℕ) → start_spare table p ≡ starts_first table p
start_is table p = go table.threads refl (position (is_spare_of p) table.threads) refl
  where
    go : (xs : List Thread) → table.threads ≡ xs → (o : Option ℕ) → position (is_spare_of p) table.threads ≡ o → start_thread_at table o ≡ starts_first table p
    go xs e None f = ap (λ ys. record table { threads = ys }) (sym (changed_nowhere (is_spare_of p) (thread_at_state is.Running) table.threads f))
    go [] e (Some i) f = let none : position (is_spare_of p) [] ≡ Some i = ap (position (is_spare_of p)) (sym e) ∙ f in cc
    go (d ∷ ds) e (Some i) f =
        let w = position-Some (is_spare_of p) table.threads i d f in
        ap (λ k. set_thread_state table k is.Running) (add-one i)
        ∙ ap (change_thread_in table (suc i) (thread_at_state is.Running)) (at_number-suc table.threads i ∙ slice_get-get_or table.threads i d w.0)
        ∙ ap (λ ys. record table { threads = ys })
        (with_at_number-suc table.threads i (thread_at_state is.Running (get_or table.threads i d))
        ∙ sym (changed_at (is_spare_of p) (thread_at_state is.Running) table.threads i d f))

-- one of another process before it or after it
start_one-swap : (m : State) (p q : ℕ) (b : Bool) → (p == q) ≡ false → start_one (start_one m p true) q b ≡ start_one (start_one m q b) p true
start_one-swap m p q false e = refl
start_one-swap m p q true e =
    ap (λ x. record m { process_table = x })
    (start_is (start_spare m.process_table p) q
    ∙ ap (λ (x : ProcessTable). starts_first x q) (start_is m.process_table p)
    ∙ ap (λ ys. record m.process_table { threads = ys })
    (change_first-swap (is_spare_of p) (is_spare_of q) (thread_at_state is.Running) (λ x k. apart x.process.0 (is_dormant x.state) k)
    (λ x. not_dormant (x.process.0 == q)) (λ x. not_dormant (x.process.0 == p)) m.process_table.threads)
    ∙ sym (ap (λ (x : ProcessTable). starts_first x p) (start_is m.process_table q))
    ∙ sym (start_is (start_spare m.process_table q) p))
  where
    apart : (r : ℕ) (b : Bool) → ((r == p) && b) ≡ true → ((r == q) && b) ≡ false
    apart r b k = grind (arith, nat_tests)

    not_dormant : (b : Bool) → (b && false) ≡ false
    not_dormant true = refl
    not_dormant false = refl

-- those that are meant, where others are meant as well

pub start_each-is :
    (before ungiven given : State) (meant : ℕ → Bool) → ((p : ℕ) → needs_spare before ungiven given p ≡ meant p) → (n : ℕ) →
    start_each before ungiven given n ≡ start_meant meant given n
start_each-is before ungiven given meant h zero = refl
start_each-is before ungiven given meant h (suc n) =
    ap₂ (λ m b. start_one m (suc n) b) (start_each-is before ungiven given meant h n) (h (suc n))

pub meant_alike : (meant also : ℕ → Bool) (m : State) (n : ℕ) → ((p : ℕ) → 1 ≤ p → p ≤ n → also p ≡ meant p) → start_meant also m n ≡ start_meant meant m n
meant_alike meant also m zero h = refl
meant_alike meant also m (suc n) h =
    ap₂ (λ k b. start_one k (suc n) b) (meant_alike meant also m n (λ p low l. h p low (omega (arith, l)))) (h (suc n) (omega arith) (omega arith))

-- one more, which was not meant, starts last as well
start_one_more :
    (meant also : ℕ → Bool) (m : State) (q n : ℕ) → meant q ≡ false → ((p : ℕ) → also p ≡ ((q == p) || meant p)) → 1 ≤ q → q ≤ n →
    start_meant also m n ≡ start_one (start_meant meant m n) q true
start_one_more meant also m q zero none h low high = absurd (omega (arith, low, high))
start_one_more meant also m q (suc n) none h low high =
    ⊎_elim here (λ l. below (start_one_more meant also m q n none h low) (omega (arith, l))) (eq-or-lt_of_le high)
  where
    other : (p : ℕ) → (q == p) ≡ false → also p ≡ meant p
    other p e = h p ∙ ap (λ b. b || meant p) e

    away : (p : ℕ) → q ≡ suc n → p ≤ n → (q == p) ≡ false
    away p e l = grind (arith, nat_tests)

    here : q ≡ suc n → start_meant also m (suc n) ≡ start_one (start_meant meant m (suc n)) q true
    here e =
        let met : (q == suc n) ≡ true = grind (arith, nat_tests) in
        ap₂ (λ k b. start_one k (suc n) b) (meant_alike meant also m n (λ p _ l. other p (away p e l)))
        (h (suc n) ∙ ap (λ b. b || meant (suc n)) met)
        ∙ sym
        (ap₂ (λ b k. start_one (start_one (start_meant meant m n) (suc n) b) k true) (ap meant (sym e) ∙ none) e)

    below :
        (q ≤ n → start_meant also m n ≡ start_one (start_meant meant m n) q true) → q ≤ n →
        start_meant also m (suc n) ≡ start_one (start_meant meant m (suc n)) q true
    below ih l =
        let apart : (q == suc n) ≡ false = grind (arith, nat_tests) in
        ap₂ (λ k b. start_one k (suc n) b) (ih l) (other (suc n) apart)
        ∙ start_one-swap (start_meant meant m n) q (suc n) (meant (suc n)) apart

pub start_none_meant : (m : State) (n : ℕ) → start_meant (λ p. false) m n ≡ m
start_none_meant m zero = refl
start_none_meant m (suc n) = start_none_meant m n

-- a process that is not there has no spare
none_listed : (us : List (List ℕ)) (q : ℕ) → (nat_le 1 q && nat_le q (length us)) ≡ false → spares_or_none (at_number us q) ≡ []
none_listed us q e = go (at_number us q) (is_some-at_number us q ∙ e)
  where
    go : (o : Option (List ℕ)) → is_some o ≡ false → spares_or_none o ≡ []
    go None f = refl
    go (Some x) f = cc

-- a spare of another process starts, if it is there
pub started_as_well :
    (s : StoreValue) → IsAgreed s → (given : State) (meant : ℕ → Bool) (n q : ℕ) → n ≡ length s.processes.processes →
    stored_state s ≡ start_meant meant given n → meant q ≡ false →
    start_one (stored_state s) q true ≡ start_meant (λ p. (q == p) || meant p) given n
started_as_well s h given meant n q many same none = go (nat_le 1 q && nat_le q n) refl
  where
    also : ℕ → Bool
    also = λ p. (q == p) || meant p

    go : (b : Bool) → (nat_le 1 q && nat_le q n) ≡ b → start_one (stored_state s) q true ≡ start_meant also given n
    go true e =
        let low : 1 ≤ q = grind (arith, nat_tests) in
        let high : q ≤ n = grind (arith, nat_tests) in
        ap (λ m. start_one m q true) same ∙ sym (start_one_more meant also given q n none (λ p. refl) low high)
    go false e =
        ap (λ table. record (stored_state s) { process_table = table })
        (no_spare h q (none_listed s.pools.spares q (ap (λ k. nat_le 1 q && nat_le q k) (h.spare_lists ∙ sym many) ∙ e)))
        ∙ same
        ∙ sym (meant_alike meant also given n (λ p low l. ap (λ b. b || meant p) (other p low l)))
      where
        other : (p : ℕ) → 1 ≤ p → p ≤ n → (q == p) ≡ false
        other p low l = grind (arith, nat_tests)

same_is_this : (q : ℕ) → (q == q) ≡ true
same_is_this q = grind (arith, nat_tests)

-- of the process that is given, where one is
pub started_so :
    (s after : StoreValue) → IsAgreed s → (o : Option Pid) (q : Pid) → o ≡ Some q → stored_state after ≡ start_one (stored_state s) q.0 true →
    (given : State) (meant : ℕ → Bool) (n : ℕ) → n ≡ length s.processes.processes → stored_state s ≡ start_meant meant given n →
    ((p : ℕ) → is_this p (option_map (λ p. p.0) o) ≡ true → meant p ≡ false) →
    stored_state after ≡ start_meant (λ p. is_this p (option_map (λ p. p.0) o) || meant p) given n
started_so s after h None q e started given meant n many same apart = cc
started_so s after h (Some r) q e started given meant n many same apart =
    let this : q ≡ r = cc in
    started
    ∙ ap (λ (x : Pid). start_one (stored_state s) x.0 true) this
    ∙ started_as_well s h given meant n r.0 many same (apart r.0 (same_is_this r.0))

-- as many processes as before
pub processes_started : (m : State) (p : ℕ) → length (start_one m p true).process_table.processes ≡ length m.process_table.processes
processes_started m p = ap (λ (x : ProcessTable). length x.processes) (start_is m.process_table p)
