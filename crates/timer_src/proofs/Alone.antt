-- Timers whose ids differ: one that leaves is all of its id.
use Rattle.std.proofs.Common.{◌≡◌, ℕ, ◌==◌, not, Bool, true, false, if◌then◌else◌, List, [], ◌∷◌, Option, None, Some, filter, refl, sym, ap, ap₂, ◌∙◌, arith}
use Rattle.std.proofs.lemmas.Bool.Decides.{nat_tests}
use Rattle.spec_records.specs.Words.{TimerList, arming_at, change_first, delete_timer, is_other_timer, is_timer, set_timer, timer_at, with_arming}
use Rattle.spec_records.proofs.Places.{change_first-none}
use Rattle.spec_records.specs.declared.timer.Arming.{Arming}
use Rattle.spec_records.specs.declared.timer.Timer.{Timer}
use Rattle.timer_src.specs.Lists.{without_first}
use Rattle.timer_src.specs.Table.{HaveDistinctIds}

pub others_alone : (process id : ℕ) (ts : List Timer) → timer_at ts process id ≡ None → filter (is_other_timer process id) ts ≡ ts
others_alone process id [] h = refl
others_alone process id (t ∷ ts) h = go (is_timer process id t) h (others_alone process id ts)
  where
    go :
        (b : Bool) → (if b then Some t else timer_at ts process id) ≡ None → (timer_at ts process id ≡ None → filter (is_other_timer process id) ts ≡ ts) →
        (if not b then t ∷ filter (is_other_timer process id) ts else filter (is_other_timer process id) ts) ≡ t ∷ ts
    go true k ih = cc
    go false k ih = ap (λ us. t ∷ us) (ih k)

pub others_of_id : (process id : ℕ) (ts : List Timer) → HaveDistinctIds ts → without_first (is_timer process id) ts ≡ filter (is_other_timer process id) ts
others_of_id process id [] h = refl
others_of_id process id (t ∷ ts) h = go (is_timer process id t) refl (others_of_id process id ts h.1)
  where
    go :
        (b : Bool) → is_timer process id t ≡ b → without_first (is_timer process id) ts ≡ filter (is_other_timer process id) ts →
        (if b then ts else t ∷ without_first (is_timer process id) ts) ≡ (if not b then t ∷ filter (is_other_timer process id) ts else filter (is_other_timer process id) ts)
    go true e ih =
        let one : process ≡ t.process.0 = grind (arith, nat_tests) in
        let two : id ≡ t.id = grind (arith, nat_tests) in
        sym (others_alone process id ts (ap₂ (λ p i. timer_at ts p i) one two ∙ h.0))
    go false e ih = ap (λ us. t ∷ us) ih

-- where there is none, nothing changes

pub nothing_deleted : (list : TimerList) (process id : ℕ) → timer_at list.timers process id ≡ None → list ≡ delete_timer list process id
nothing_deleted list process id h = λ i. record { clock = list.clock; made = list.made; timers = sym (others_alone process id list.timers h) i }

pub nothing_set : (list : TimerList) (process id first interval : ℕ) → timer_at list.timers process id ≡ None → list ≡ set_timer list process id first interval
nothing_set list process id first interval h =
    λ i. record { clock = list.clock; made = list.made; timers = sym (change_first-none (is_timer process id) (with_arming (arming_at list.clock first interval)) list.timers h) i }

-- where there is one

pub set_list :
    (old new : TimerList) (process id first interval : ℕ) (a : Option Arming) → a ≡ arming_at old.clock first interval → new.clock ≡ old.clock → new.made ≡ old.made →
    new.timers ≡ change_first (is_timer process id) (with_arming a) old.timers → new ≡ set_timer old process id first interval
set_list old new process id first interval a arming clock made timers =
    let all = timers ∙ ap (λ b. change_first (is_timer process id) (with_arming b) old.timers) arming in
    λ i. record { clock = clock i; made = made i; timers = all i }

pub not_armed : (clock first interval : ℕ) → first ≡ 0 → None ≡ arming_at clock first interval
not_armed clock first interval h =
    let zero_ : (first == 0) ≡ true = grind (arith, nat_tests) in
    sym (ap (λ b. if b then None else Some (record { clock = clock; first = first; interval = interval })) zero_)

pub armed_so : (clock first interval : ℕ) → (first ≡ 0 → ⊥) → Some (record { clock = clock; first = first; interval = interval }) ≡ arming_at clock first interval
armed_so clock first interval h =
    let more : (first == 0) ≡ false = grind (arith, nat_tests) in
    sym (ap (λ b. if b then None else Some (record { clock = clock; first = first; interval = interval })) more)
