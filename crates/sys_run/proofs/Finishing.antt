-- Taking the least runnable thread's turn again and again.
use Rattle.std.proofs.Common.{◌≡◌, ℕ, ◌+◌, ◌-◌, ◌≤◌, ◌<◌, List, [], ◌∷◌, ◌++◌, length, take, drop, Option, Some, None, Bool, true, false, ◌⊎◌, inl, inr, arith, refl, ap, sym, ◌∙◌, subst, zero, suc, length-append, length-drop, append-nil, append_assoc}
use Rattle.std.specs.Prelude.{nat_lt, if◌then◌else◌}
use Rattle.std.proofs.lemmas.Bool.{ltb-false, ltb-true}
use native.Mathlib.Numerals.{unary_clauses}
use Rattle.std.specs.Option.{option_map_or}
use Rattle.spec_kernel.specs.Words.{State, is_runnable, least_among, least_or, least_runnable}
use Rattle.script_lang.specs.Words.{ScriptValue}
use Rattle.spec_scripts.specs.Words.{History, event_at_turn, first_history, history_after, least_runnable_turns, run, run_from, threads_of_events}
use Rattle.spec_scripts.proofs.Histories.{threads_of_events-append}
use Rattle.sys_run.specs.Sys.{SysValue, with_journal, history, state_of_run, with_turn, with_turns, turns_left, next_turn}
use Rattle.sys_run.proofs.Journals.{history-with_turn}

-- the least runnable thread is runnable
least-is_runnable : (m : State) (n t : ℕ) → least_among m n ≡ Some t → is_runnable m t ≡ true
least-is_runnable m zero t h = cc
least-is_runnable m (suc n) t h = by_least (λ u e. least-is_runnable m n u e) (least_among m n) (is_runnable m (suc n)) refl refl h
  where
    by_least :
        ((u : ℕ) → least_among m n ≡ Some u → is_runnable m u ≡ true) → (o : Option ℕ) (b : Bool) → least_among m n ≡ o → is_runnable m (suc n) ≡ b → least_or o b (suc n) ≡ Some t →
        is_runnable m t ≡ true
    by_least below (Some u) b e f g = let same : u ≡ t = cc in subst (λ v. is_runnable m v ≡ true) same (below u e)
    by_least below None true e f g = let same : suc n ≡ t = cc in subst (λ v. is_runnable m v ≡ true) same f
    by_least below None false e f g = cc

least_runnable_turns-none : (script : ScriptValue) (n : ℕ) (h : History) → least_runnable h.state ≡ None → least_runnable_turns script n h ≡ []
least_runnable_turns-none script zero h none = refl
least_runnable_turns-none script (suc n) h none = rw none refl

least_runnable_turns-some :
    (script : ScriptValue) (n : ℕ) (h : History) (t : ℕ) → least_runnable h.state ≡ Some t →
    least_runnable_turns script (suc n) h ≡ t ∷ least_runnable_turns script n (history_after script h t)
least_runnable_turns-some script n h t some = rw some refl

-- no thread is runnable
pub turns_left-none : (p : SysValue) → least_runnable (state_of_run p) ≡ None → turns_left p ≡ []
turns_left-none p none = least_runnable_turns-none p.script (p.script.budget - length p.journal) (history p) none

-- the budget is used up
pub turns_left-used : (p : SysValue) → p.script.budget ≤ length p.journal → turns_left p ≡ []
turns_left-used p used =
    let none : p.script.budget - length p.journal ≡ 0 = omega arith
    in rw none refl

pub turns_left-some :
    (p : SysValue) (t : ℕ) → least_runnable (state_of_run p) ≡ Some t → length p.journal < p.script.budget →
    turns_left p ≡ t ∷ turns_left (with_turn p t)
turns_left-some p t some left =
    let one : length (with_turn p t).journal ≡ length p.journal + 1 = simp length-append refl
    in let more : p.script.budget - length p.journal ≡ suc (p.script.budget - length (with_turn p t).journal) = omega arith
    in rw (more, history-with_turn p t) (least_runnable_turns-some p.script (p.script.budget - length (with_turn p t).journal) (history p) t some)

pub with_turns-append :
    (ts : List ℕ) (p : SysValue) (t : ℕ) → with_turns p (ts ++ t ∷ []) ≡ with_turn (with_turns p ts) t
with_turns-append [] p t = refl
with_turns-append (u ∷ us) p t = with_turns-append us (with_turn p u) t

pub history-with_turns : (ts : List ℕ) (p : SysValue) → history (with_turns p ts) ≡ run_from p.script (history p) ts
history-with_turns [] p = refl
history-with_turns (u ∷ us) p =
    history-with_turns us (with_turn p u) ∙ ap (λ h. run_from p.script h us) (history-with_turn p u)

pub script-with_turns : (ts : List ℕ) (p : SysValue) → (with_turns p ts).script ≡ p.script
script-with_turns [] p = refl
script-with_turns (u ∷ us) p = script-with_turns us (with_turn p u)

pub history-new : (script : ScriptValue) → history (with_journal script []) ≡ first_history script
unfolding history run
history-new script = refl

-- the run of turns from an empty journal
pub history-from_new : (script : ScriptValue) (ts : List ℕ) → history (with_turns (with_journal script []) ts) ≡ run script ts
unfolding run
history-from_new script ts = history-with_turns ts (with_journal script []) ∙ ap (λ h. run_from script h ts) (history-new script)

run_from-then : (script : ScriptValue) (ts us : List ℕ) (h : History) → run_from script h (ts ++ us) ≡ run_from script (run_from script h ts) us
run_from-then script [] us h = refl
run_from-then script (t ∷ ts) us h = run_from-then script ts us (history_after script h t)

pub run-then : (script : ScriptValue) (ts us : List ℕ) → run script (ts ++ us) ≡ run_from script (run script ts) us
unfolding run
run-then script ts us = run_from-then script ts us (first_history script)

pub if_some : (b : Bool) (o : Option ℕ) (t : ℕ) → (if b then o else None) ≡ Some t → (b ≡ true) × (o ≡ Some t)
if_some true o t h = (refl, h)
if_some false o t h = cc

if_none : (b : Bool) (o : Option ℕ) → (if b then o else None) ≡ None → (b ≡ false) ⊎ (o ≡ None)
if_none true o h = inr h
if_none false o h = inl refl

-- the run is over
pub turns_left-over : (p : SysValue) → next_turn p ≡ None → turns_left p ≡ []
turns_left-over p h = by_cause (if_none (nat_lt (length p.journal) p.script.budget) (least_runnable (state_of_run p)) h)
  where
    by_cause :
        (nat_lt (length p.journal) p.script.budget ≡ false) ⊎ (least_runnable (state_of_run p) ≡ None) → turns_left p ≡ []
    by_cause (inl used) = turns_left-used p (ltb-false (length p.journal) p.script.budget used)
    by_cause (inr none) = turns_left-none p none

-- what the next turn is
pub record IsNext (p : SysValue) (t : ℕ) : Type 0 where
  pub left : length p.journal < p.script.budget
  pub least : least_runnable (state_of_run p) ≡ Some t
  pub can : is_runnable (state_of_run p) t ≡ true
  pub turns : turns_left p ≡ t ∷ turns_left (with_turn p t)

pub next : (p : SysValue) (t : ℕ) → next_turn p ≡ Some t → IsNext p t
next p t h =
    let both : (nat_lt (length p.journal) p.script.budget ≡ true) × (least_runnable (state_of_run p) ≡ Some t) =
    if_some (nat_lt (length p.journal) p.script.budget) (least_runnable (state_of_run p)) t h
    in let left : length p.journal < p.script.budget = ltb-true (length p.journal) p.script.budget both.0
    in record {
      left = left;
      least = both.1;
      can = least-is_runnable (state_of_run p) (length (state_of_run p).process_table.threads) t both.1;
      turns = turns_left-some p t both.1 left;
    }

least_runnable_turns-few : (script : ScriptValue) (n : ℕ) (h : History) → length (least_runnable_turns script n h) ≤ n
least_runnable_turns-few script zero h = omega arith
least_runnable_turns-few script (suc n) h = by_next (λ t. least_runnable_turns-few script n (history_after script h t)) (least_runnable h.state) refl
  where
    by_next : ((t : ℕ) → length (least_runnable_turns script n (history_after script h t)) ≤ n) → (o : Option ℕ) → least_runnable h.state ≡ o → length (option_map_or (λ t. t ∷ least_runnable_turns script n (history_after script h t)) o []) ≤ suc n
    by_next few None e = omega arith
    by_next few (Some t) e = let rest : length (least_runnable_turns script n (history_after script h t)) ≤ n = few t in omega arith

pub turns_left-few : (p : SysValue) → length (turns_left p) ≤ p.script.budget
turns_left-few p =
    let few : length (turns_left p) ≤ p.script.budget - length p.journal =
    least_runnable_turns-few p.script (p.script.budget - length p.journal) (history p)
    in omega arith

-- so many of the turns that were left were taken
pub record HasTaken (old now : SysValue) (n : ℕ) : Type 0 where
  pub taken : now ≡ with_turns old (take n (turns_left old))
  pub ahead : drop n (turns_left old) ≡ turns_left now
  pub few : n ≤ length (turns_left old)

pub HasTaken-none : (p : SysValue) → HasTaken p p 0
HasTaken-none p = record { taken = none (turns_left p); ahead = none-drop (turns_left p); few = omega arith }
  where
    none : (ts : List ℕ) → p ≡ with_turns p (take 0 ts)
    none [] = refl
    none (t ∷ ts) = refl

    none-drop : (ts : List ℕ) → drop 0 ts ≡ ts
    none-drop [] = refl
    none-drop (t ∷ ts) = refl

pub take_more-at : (n : ℕ) (ts : List ℕ) (t : ℕ) (rest : List ℕ) → drop n ts ≡ t ∷ rest → take (n + 1) ts ≡ take n ts ++ t ∷ []
take_more-at zero [] t rest h = cc
take_more-at zero (u ∷ us) t rest h = let same : u ≡ t = cc in rw same refl
take_more-at (suc n) [] t rest h = cc
take_more-at (suc n) (u ∷ us) t rest h =
    simp unary_clauses (ap (λ ts. u ∷ ts) (simp unary_clauses at (take_more-at n us t rest h)))

pub drop_more-at : (n : ℕ) (ts : List ℕ) (t : ℕ) (rest : List ℕ) → drop n ts ≡ t ∷ rest → drop (n + 1) ts ≡ rest
drop_more-at zero [] t rest h = cc
drop_more-at zero (u ∷ us) t rest h = cc
drop_more-at (suc n) [] t rest h = cc
drop_more-at (suc n) (u ∷ us) t rest h = simp unary_clauses (simp unary_clauses at (drop_more-at n us t rest h))

pub longer_than : (n : ℕ) (ts : List ℕ) (t : ℕ) (rest : List ℕ) → drop n ts ≡ t ∷ rest → n + 1 ≤ length ts
longer_than n ts t rest h =
    let sizes : length ts - n ≡ suc (length rest) = sym (length-drop n ts) ∙ ap length h in omega arith

pub HasTaken-more : (old now : SysValue) (n t : ℕ) → HasTaken old now n → next_turn now ≡ Some t → HasTaken old (with_turn now t) (n + 1)
HasTaken-more old now n t h e =
    let ahead : drop n (turns_left old) ≡ t ∷ turns_left (with_turn now t) = h.ahead ∙ (next now t e).turns
    in record {
      taken =
          ap (λ p. with_turn p t) h.taken
          ∙ sym (ap (with_turns old) (take_more-at n (turns_left old) t _ ahead) ∙ with_turns-append (take n (turns_left old)) old t);
      ahead = drop_more-at n (turns_left old) t _ ahead;
      few = longer_than n (turns_left old) t _ ahead;
    }

pub take-all : (n : ℕ) (ts : List ℕ) → drop n ts ≡ [] → take n ts ≡ ts
take-all zero [] h = refl
take-all zero (t ∷ ts) h = cc
take-all (suc n) [] h = refl
take-all (suc n) (t ∷ ts) h = ap (λ us. t ∷ us) (take-all n ts h)

-- all of them were taken
pub record HasFinished (old now : SysValue) (n : ℕ) : Type 0 where
  pub taken : now ≡ with_turns old (turns_left old)
  pub count : n ≡ length (turns_left old)

pub finished : (old now : SysValue) (n : ℕ) → HasTaken old now n → next_turn now ≡ None → HasFinished old now n
finished old now n h e =
    let none : drop n (turns_left old) ≡ [] = h.ahead ∙ turns_left-over now e
    in let sizes : length (turns_left old) - n ≡ 0 = sym (length-drop n (turns_left old)) ∙ ap length none
    in let few : n ≤ length (turns_left old) = h.few
    in record { taken = h.taken ∙ ap (with_turns old) (take-all n (turns_left old) none); count = omega arith }

pub threads-with_turns : (ts : List ℕ) (p : SysValue) → threads_of_events (with_turns p ts).journal ≡ threads_of_events p.journal ++ ts
threads-with_turns [] p = sym (append-nil (threads_of_events p.journal))
threads-with_turns (t ∷ ts) p =
    threads-with_turns ts (with_turn p t)
    ∙ ap
    (λ us. us ++ ts)
    (threads_of_events-append p.journal (event_at_turn p.script (history p) t ∷ []))
    ∙ append_assoc (threads_of_events p.journal) (t ∷ []) ts
