-- What the kernel does after an act changes nothing of a state in which no pool has both a waiting item and an idle thread, and
-- no idle thread is bound to a door that is not valid, and of which ports have been told.
use Rattle.std.specs.Prelude.{ℕ, ◌≡◌, List, [], ◌∷◌, false, Option, Some, None, length, zero, suc, All}
use Rattle.std.proofs.Common.{refl, sym, ap, subst, ◌∙◌}
use native.Mathlib.Omega.{arith}
use Rattle.std.proofs.lemmas.List.Elements.{All-head, All-tail}
use Rattle.spec_kernel.specs.Types.{Errno, Request, Waiting}
use Rattle.spec_kernel.specs.Words.{State, act, effect, give_each, give_to, has_lost_door, needs_spare, pick, pool_of, process_of, refusal_of, settle, start_each, start_one, start_spares, step, tell, unless_refused, waiting_items, with_event_counted}
use Rattle.spec_kernel.proofs.Notices.{make_notices-same}
use Rattle.spec_kernel.proofs.Settling.{settle-none}
use Rattle.law_states.specs.Told.{AreTold}
use Rattle.law_states.specs.Invariant.{Invariant}
use Rattle.law_states.proofs.Telling.{tells_nothing}
use Rattle.law_states.proofs.Settling.{no_lost_door}

gives_nothing : (m : State) (ws : List Waiting) → All (λ w. pick m (pool_of m w.door) ≡ None) ws → give_each m ws ≡ m
gives_nothing m [] h = refl
gives_nothing m (w ∷ ws) h =
    ap (λ o. give_each (give_to m w o) ws) (All-head (λ x. pick m (pool_of m x.door) ≡ None) w ws h)
    ∙ gives_nothing m ws (All-tail (λ x. pick m (pool_of m x.door) ≡ None) w ws h)

-- no process comes to need a spare, where neither its doors nor its pool change
needs_none : (m : State) (p : ℕ) → needs_spare m m m p ≡ false
needs_none m p = grind arith

starts_nothing : (m : State) (n : ℕ) → start_each m m m n ≡ m
starts_nothing m zero = refl
starts_nothing m (suc n) =
    ap (λ k. start_one k (suc n) (needs_spare m m m (suc n))) (starts_nothing m n) ∙ ap (start_one m (suc n)) (needs_none m (suc n))

settles_nothing :
    (m : State) → ((u : ℕ) → has_lost_door m u ≡ false) → All (λ w. pick m (pool_of m w.door) ≡ None) (waiting_items m) → AreTold m →
    settle m m ≡ m
settles_nothing m lost h told =
    settle-none m m lost (make_notices-same m)
    ∙ ap (λ n. tell (start_spares m m n)) (gives_nothing m (waiting_items m) h)
    ∙ ap tell (starts_nothing m (length m.process_table.processes))
    ∙ tells_nothing m told

-- a refused entry, where no idle thread has lost its door, giving gives nothing and telling tells nothing
pub refused_gives :
    (m : State) (t : ℕ) (r : Request) (e : Errno) → ((u : ℕ) → has_lost_door m u ≡ false) → All (λ w. pick m (pool_of m w.door) ≡ None) (waiting_items m) →
    AreTold m → refusal_of m t (process_of m t) r ≡ Some e → (step m t (Some r)).state ≡ with_event_counted m
unfolding step
refused_gives m t r e lost h told g =
    ap (λ o. with_event_counted (settle m (unless_refused m o (effect m t (process_of m t) r)).state)) g
    ∙ ap with_event_counted (settles_nothing m lost h told)

-- and so an act that changes nothing
pub unchanged_gives :
    (m : State) (t : ℕ) (q : Option Request) → ((u : ℕ) → has_lost_door m u ≡ false) → All (λ w. pick m (pool_of m w.door) ≡ None) (waiting_items m) →
    AreTold m → (act m t q).state ≡ m → (step m t q).state ≡ with_event_counted m
unfolding step
unchanged_gives m t q lost h told e =
    ap (λ n. with_event_counted (settle m n)) e ∙ ap with_event_counted (settles_nothing m lost h told)

pub step_refused :
    (m : State) (t : ℕ) (q : Option Request) (r : Request) (e : Errno) → Invariant m → q ≡ Some r →
    refusal_of m t (process_of m t) r ≡ Some e → (step m t q).state ≡ with_event_counted m
step_refused m t q r e h f g =
    subst (λ o. (step m t o).state ≡ with_event_counted m) (sym f) (refused_gives m t r e (no_lost_door m h) h.given_out h.told g)
