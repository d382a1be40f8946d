-- What is read of a kept state is read of each state that it stands for, and which threads can take a turn.
use Rattle.std.proofs.Common.{◌≡◌, ℕ, ◌+◌, ◌<◌, ◌∷◌, [], zero, suc, Bool, true, false, List, Option, Some, None, length, slice_get, filter, cond, inl, inr, refl, sym, ap, ap₂, ◌∙◌, arith}
use Rattle.std.proofs.lemmas.Bool.{cases_lt}
use Rattle.std.specs.Option.{option_map_or}
use Rattle.spec_kernel.specs.Types.{Call}
use Rattle.spec_records.specs.Words.{is_served_by}
use Rattle.call_tree.specs.Words.{root_in, walk_up, caller_in as called_in}
use Rattle.spec_kernel.specs.Words.{StandsFor, State, caller_in, find_call, is_runnable, least_among, least_or, least_runnable, root, walk}
use Rattle.spec_kernel.proofs.Forget.{is_runnable-forget, root-forget}
use Rattle.spec_records.proofs.Lists.{numbered_past}

pub runnable_stands : (kept m : State) (t : ℕ) → StandsFor kept m → is_runnable kept t ≡ is_runnable m t
runnable_stands kept m t e = ap (λ k. is_runnable k t) e ∙ is_runnable-forget m t

pub root_stands : (kept m : State) (t : ℕ) → StandsFor kept m → root kept t ≡ root m t
root_stands kept m t e = ap (λ k. root k t) e ∙ root-forget m t

-- what is kept of a list is in the list
pub kept_of :
    {X : Type 0} (p : X → Bool) (rs : List X) (i : ℕ) (r : X) → slice_get (filter p rs) i ≡ Some r → (k : ℕ) × (slice_get rs k ≡ Some r)
kept_of p [] i r e = grind arith
kept_of p (x ∷ rs) i r e = go (p x) (λ j f. kept_of p rs j r f) i e
  where
    go :
        (b : Bool) → ((j : ℕ) → slice_get (filter p rs) j ≡ Some r → (k : ℕ) × (slice_get rs k ≡ Some r)) →
        (i : ℕ) → slice_get (cond b (x ∷ filter p rs) (filter p rs)) i ≡ Some r → (k : ℕ) × (slice_get (x ∷ rs) k ≡ Some r)
    go true ih zero f = (0, f)
    go true ih (suc j) f = let more = ih j f in (suc more.0, more.1)
    go false ih j f = let more = ih j f in (suc more.0, more.1)

-- the walk along the calls is the walk of the written kernel
walked : (n : ℕ) (m : State) (t : ℕ) → walk_up n m.call_tree.calls t ≡ walk n m t
walked zero m t = refl
walked (suc n) m t = go (find_call m (is_served_by t)) refl (λ u. walked n m u)
  where
    go :
        (o : Option Call) → find_call m (is_served_by t) ≡ o → ((u : ℕ) → walk_up n m.call_tree.calls u ≡ walk n m u) →
        option_map_or (walk_up n m.call_tree.calls) (called_in (find_call m (is_served_by t))) t
        ≡ option_map_or (walk n m) (caller_in (find_call m (is_served_by t))) t
    go None e ih =
        ap (λ o. option_map_or (walk_up n m.call_tree.calls) (called_in o) t) e ∙ sym (ap (λ o. option_map_or (walk n m) (caller_in o) t) e)
    go (Some r) e ih =
        ap (λ o. option_map_or (walk_up n m.call_tree.calls) (called_in o) t) e
        ∙ ih r.caller.0
        ∙ sym (ap (λ o. option_map_or (walk n m) (caller_in o) t) e)

pub root_walked : (m : State) (t : ℕ) → root_in m.call_tree t ≡ root m t
root_walked m t = walked m.call_tree.made m t

-- a number that no thread has can take no turn
pub none_runnable : (m : State) (t : ℕ) → length m.process_table.threads < t → is_runnable m t ≡ false
none_runnable m t h = let e = numbered_past m.process_table.threads t h in grind arith

-- the least of the threads: the first that can take a turn

pub least_found :
    (m : State) (i n : ℕ) → i < n → least_among m i ≡ None → is_runnable m (i + 1) ≡ true → least_among m n ≡ Some (i + 1)
least_found m i zero h none here = absurd (omega arith)
least_found m i (suc n) h none here =
    elim (cases_lt i n) [
      | inl l ↦ ap (λ o. least_or o (is_runnable m (suc n)) (suc n)) (least_found m i n l none here)
      | inr k ↦
          let e : n ≡ i = omega arith in
          let t : i + 1 ≡ suc n = omega arith in
          ap₂ (λ o b. least_or o b (suc n)) (ap (least_among m) e ∙ none) (ap (is_runnable m) (sym t) ∙ here) ∙ ap (λ j. Some j) (sym t)
    ]

least_among-forget : (kept m : State) (n : ℕ) → StandsFor kept m → least_among kept n ≡ least_among m n
least_among-forget kept m zero e = refl
least_among-forget kept m (suc n) e =
    ap (λ o. least_or o (is_runnable kept (suc n)) (suc n)) (least_among-forget kept m n e)
    ∙ ap (λ b. least_or (least_among m n) b (suc n)) (runnable_stands kept m (suc n) e)

pub least_runnable_stands : (kept m : State) → StandsFor kept m → least_runnable kept ≡ least_runnable m
least_runnable_stands kept m e =
    ap (λ k. least_among kept (length k.process_table.threads)) e ∙ least_among-forget kept m (length m.process_table.threads) e
