-- Any run within the budget can be taken to its end.
use Rattle.std.proofs.Common.{◌≡◌, ℕ, zero, suc, ◌+◌, ◌-◌, ◌≤◌, ◌||◌, Bool, true, false, List, [], ◌∷◌, ◌++◌, length, Option, Some, None, refl, subst, arith}
use Rattle.std.specs.Prelude.{is_none, nat_le}
use Rattle.std.proofs.lemmas.Bool.{le-leb}
use Rattle.script_lang.specs.Words.{ScriptValue}
use Rattle.spec_kernel.specs.Words.{State, is_runnable, least_among, least_or, least_runnable}
use Rattle.spec_scripts.specs.Words.{History, history_after, is_over, run_from}
use Rattle.spec_scripts.specs.ScriptRuns.{AreRunnableFrom}
use Rattle.spec_traces.proofs.Walks.{length-history_after}

-- these turns take a run from a history to its end
pub record IsToEnd (script : ScriptValue) (h : History) (ts : List ℕ) : Type 0 where
  pub runnable : AreRunnableFrom script h ts
  pub within : length h.events + length ts ≤ script.budget
  pub over : is_over script (run_from script h ts) ≡ true

-- no turn, where the run is over
pub no_turns : (script : ScriptValue) (h : History) → is_over script h ≡ true → length h.events ≤ script.budget → IsToEnd script h []
no_turns script h over few = record { runnable = tt; within = omega (arith, few); over = over }

-- a turn before others
pub turn_first : (script : ScriptValue) (h : History) (t : ℕ) (ts : List ℕ) → is_runnable h.state t ≡ true → IsToEnd script (history_after script h t) ts
    → IsToEnd script h (t ∷ ts)
turn_first script h t ts can rest =
    let one : length (history_after script h t).events ≡ length h.events + 1 = length-history_after script h t in
    record { runnable = (can, rest.runnable); within = omega (arith, one, rest.within); over = rest.over }

-- the others alone
pub turns_rest : (script : ScriptValue) (h : History) (t : ℕ) (ts : List ℕ) → IsToEnd script h (t ∷ ts) → IsToEnd script (history_after script h t) ts
turns_rest script h t ts whole =
    let one : length (history_after script h t).events ≡ length h.events + 1 = length-history_after script h t in
    record { runnable = whole.runnable.1; within = omega (arith, one, whole.within); over = whole.over }

-- turns after those that led to a history
pub turns_before : (script : ScriptValue) (us ts : List ℕ) (h : History) → AreRunnableFrom script h us → IsToEnd script (run_from script h us) ts → IsToEnd script h (us ++ ts)
turns_before script [] ts h can rest = rest
turns_before script (u ∷ us) ts h can rest =
    turn_first script h u (us ++ ts) can.0 (turns_before script us ts (history_after script h u) can.1 rest)

-- some turns take the run to its end
pub record CanEnd (script : ScriptValue) (h : History) : Type 0 where
  pub turns : List ℕ
  pub to_end : IsToEnd script h turns

least_can : (m : State) (n t : ℕ) → least_among m n ≡ Some t → is_runnable m t ≡ true
least_can m zero t e = cc
least_can m (suc n) t e = by_least (λ u below. least_can m n u below) (least_among m n) (is_runnable m (suc n)) refl refl e
  where
    by_least :
        ((u : ℕ) → least_among m n ≡ Some u → is_runnable m u ≡ true) → (o : Option ℕ) (b : Bool) → least_among m n ≡ o → is_runnable m (suc n) ≡ b
        → least_or o b (suc n) ≡ Some t →
        is_runnable m t ≡ true
    by_least below (Some u) b here last e = let same : u ≡ t = cc in subst (λ v. is_runnable m v ≡ true) same (below u here)
    by_least below None true here last e = let same : suc n ≡ t = cc in subst (λ v. is_runnable m v ≡ true) same last
    by_least below None false here last e = cc

second_true : (a b : Bool) → b ≡ true → (a || b) ≡ true
second_true true b e = refl
second_true false b e = e

over_without : (script : ScriptValue) (h : History) → least_runnable h.state ≡ None → is_over script h ≡ true
over_without script h none = rw none refl

-- the least runnable thread, so many times at most
can_end_in : (script : ScriptValue) (n : ℕ) (h : History) → length h.events + n ≡ script.budget → CanEnd script h
can_end_in script zero h count =
    let used : nat_le script.budget (length h.events) ≡ true = le-leb script.budget (length h.events) (omega (arith, count)) in
    record {
      turns = [];
      to_end = no_turns script h (second_true (is_none (least_runnable h.state)) (nat_le script.budget (length h.events)) used) (omega (arith, count));
    }
can_end_in script (suc n) h count = by_next (λ t. can_end_in script n (history_after script h t) (next_count t)) (least_runnable h.state) refl
  where
    next_count : (t : ℕ) → length (history_after script h t).events + n ≡ script.budget
    next_count t =
        let one : length (history_after script h t).events ≡ length h.events + 1 = length-history_after script h t in
        omega (arith, one, count)

    by_next : ((t : ℕ) → CanEnd script (history_after script h t)) → (o : Option ℕ) → least_runnable h.state ≡ o → CanEnd script h
    by_next rest None e = record { turns = []; to_end = no_turns script h (over_without script h e) (omega (arith, count)) }
    by_next rest (Some t) e =
        record {
          turns = t ∷ (rest t).turns;
          to_end = turn_first script h t (rest t).turns (least_can h.state (length h.state.process_table.threads) t e) (rest t).to_end;
        }

pub can_end : (script : ScriptValue) (h : History) → length h.events ≤ script.budget → CanEnd script h
can_end script h few = can_end_at script (script.budget - length h.events) h few refl
  where
    can_end_at : (script : ScriptValue) (n : ℕ) (h : History) → length h.events ≤ script.budget → script.budget - length h.events ≡ n → CanEnd script h
    can_end_at script n h few e = can_end_in script n h (omega (arith, few, e))
