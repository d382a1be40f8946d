-- The turns of `play` against the budget and the end of the run.
use Rattle.std.proofs.Common.{◌≡◌, ℕ, ◌+◌, ◌-◌, ◌≤◌, List, [], ◌∷◌, ◌++◌, length, map, take, Option, Some, None, Bool, true, false, ◌||◌, ◌⊎◌, inl, inr, arith, refl, ap, ◌∙◌, subst, zero, suc, length-append}
use Rattle.std.specs.Prelude.{nat_le, slice_get, if◌then◌else◌, is_none}
use Rattle.std.specs.Option.{option_map_or}
use Rattle.std.proofs.lemmas.Bool.{le-leb}
use Rattle.std.proofs.Math.Seq.{take-append_seam, drop-append_seam}
use Rattle.spec_kernel.specs.Words.{State, is_runnable, least_among, least_or, least_runnable}
use Rattle.script_lang.specs.Words.{ScriptValue}
use Rattle.spec_scripts.specs.Plays.{AreLeastFrom, IsWholePlay, IsRefusedPlay}
use Rattle.spec_scripts.specs.ScriptRuns.{History, event_at_turn, first_history, request_at_turn, history_after, run, run_from, AreRunnableFrom, IsAllowed, least_runnable_turns, tid_number, scheduled_turns, Refusal, refusal_from, refusal, turns_before, turns_of_play, is_over}

-- the least runnable thread is runnable
least-is_runnable : (m : State) (n t : ℕ) → least_among m n ≡ Some t → is_runnable m t ≡ true
least-is_runnable m zero t h = cc
least-is_runnable m (suc n) t h = by_least (λ u e. least-is_runnable m n u e) (least_among m n) (is_runnable m (suc n)) refl refl h
  where
    by_least :
        ((u : ℕ) → least_among m n ≡ Some u → is_runnable m u ≡ true) → (o : Option ℕ) (b : Bool) → least_among m n ≡ o → is_runnable m (suc n) ≡ b → least_or o b (suc n) ≡ Some t →
        is_runnable m t ≡ true
    by_least below (Some u) b e f g = let same : u ≡ t = cc in subst (λ v. is_runnable m v ≡ true) same (below u e)
    by_least below None true e f g = let same : suc n ≡ t = cc in subst (λ v. is_runnable m v ≡ true) same f
    by_least below None false e f g = cc

-- runs of turns in two parts

run_from-then :
    (script : ScriptValue) (ts us : List ℕ) (h : History) →
    run_from script h (ts ++ us) ≡ run_from script (run_from script h ts) us
run_from-then script [] us h = refl
run_from-then script (t ∷ ts) us h = run_from-then script ts us (history_after script h t)

run-then : (script : ScriptValue) (ts us : List ℕ) → run script (ts ++ us) ≡ run_from script (run script ts) us
unfolding run
run-then script ts us = run_from-then script ts us (first_history script)

is_runnable-then :
    (script : ScriptValue) (ts us : List ℕ) (h : History) → AreRunnableFrom script h ts →
    AreRunnableFrom script (run_from script h ts) us → AreRunnableFrom script h (ts ++ us)
is_runnable-then script [] us h before after = after
is_runnable-then script (t ∷ ts) us h before after =
    (before.0, is_runnable-then script ts us (history_after script h t) before.1 after)

history_events-run_from :
    (script : ScriptValue) (ts : List ℕ) (h : History) →
    length (run_from script h ts).events ≡ length h.events + length ts
history_events-run_from script [] h = omega arith
history_events-run_from script (t ∷ ts) h =
    let one : length (history_after script h t).events ≡ length h.events + 1 = length-append h.events (event_at_turn script h t ∷ [])
    in let rest : length (run_from script (history_after script h t) ts).events ≡ length (history_after script h t).events + length ts =
    history_events-run_from script ts (history_after script h t)
    in omega arith

-- a run has an event for each turn
pub events-of-turns : (script : ScriptValue) (ts : List ℕ) → length (run script ts).events ≡ length ts
unfolding run
events-of-turns script ts =
    let all : length (run_from script (first_history script) ts).events ≡ 0 + length ts = history_events-run_from script ts (first_history script)
    in omega arith

-- the least runnable thread again and again

-- the turns that are taken so, and how they end
record IsLeastFirst (script : ScriptValue) (n : ℕ) (h : History) (ts : List ℕ) : Type 0 where
  pub runnable : AreRunnableFrom script h ts
  pub least : AreLeastFrom script h ts
  pub few : length ts ≤ n
  pub over : (least_runnable (run_from script h ts).state ≡ None) ⊎ (length ts ≡ n)

one_more :
    (script : ScriptValue) (n : ℕ) (h : History) (t : ℕ) (ts : List ℕ) → least_runnable h.state ≡ Some t →
    IsLeastFirst script n (history_after script h t) ts → IsLeastFirst script (suc n) h (t ∷ ts)
one_more script n h t ts e rest =
    record {
      runnable = (least-is_runnable h.state (length h.state.process_table.threads) t e, rest.runnable);
      least = (e, rest.least);
      few = let few : length ts ≤ n = rest.few in omega arith;
      over = by_end rest.over;
    }
  where
    by_end :
        (least_runnable (run_from script (history_after script h t) ts).state ≡ None) ⊎ (length ts ≡ n) →
        (least_runnable (run_from script h (t ∷ ts)).state ≡ None) ⊎ (length (t ∷ ts) ≡ suc n)
    by_end (inl none) = inl none
    by_end (inr used) = inr (omega arith)

is_least_first : (script : ScriptValue) (n : ℕ) (h : History) → IsLeastFirst script n h (least_runnable_turns script n h)
is_least_first script zero h = record { runnable = tt; least = tt; few = omega arith; over = inr refl }
is_least_first script (suc n) h = by_next (λ t. is_least_first script n (history_after script h t)) (least_runnable h.state) refl
  where
    by_next :
        ((t : ℕ) → IsLeastFirst script n (history_after script h t) (least_runnable_turns script n (history_after script h t))) →
        (o : Option ℕ) → least_runnable h.state ≡ o →
        IsLeastFirst script (suc n) h (option_map_or (λ t. t ∷ least_runnable_turns script n (history_after script h t)) o [])
    by_next rest None e = record { runnable = tt; least = tt; few = omega arith; over = inl e }
    by_next rest (Some t) e = one_more script n h t (least_runnable_turns script n (history_after script h t)) e (rest t)

-- the schedule's turns

length-take-few : (n : ℕ) (ts : List ℕ) → length (take n ts) ≤ n
length-take-few zero [] = omega arith
length-take-few zero (t ∷ ts) = omega arith
length-take-few (suc n) [] = omega arith
length-take-few (suc n) (t ∷ ts) = let rest : length (take n ts) ≤ n = length-take-few n ts in omega arith

length-take-within : (n : ℕ) (ts : List ℕ) → length (take n ts) ≤ length ts
length-take-within zero [] = omega arith
length-take-within zero (t ∷ ts) = omega arith
length-take-within (suc n) [] = omega arith
length-take-within (suc n) (t ∷ ts) = let rest : length (take n ts) ≤ length ts = length-take-within n ts in omega arith

scheduled_turns-few : (script : ScriptValue) → length (scheduled_turns script) ≤ script.budget
scheduled_turns-few script = length-take-few script.budget (map tid_number script.schedule)

unrefused : (script : ScriptValue) (ts : List ℕ) (h : History) (n : ℕ) → refusal_from script h n ts ≡ None → AreRunnableFrom script h ts
unrefused script [] h n none = tt
unrefused script (t ∷ ts) h n none = by_test (λ rest. unrefused script ts (history_after script h t) (n + 1) rest) (is_runnable h.state t) refl none
  where
    by_test :
        (refusal_from script (history_after script h t) (n + 1) ts ≡ None → AreRunnableFrom script (history_after script h t) ts) →
        (b : Bool) → is_runnable h.state t ≡ b →
        (if b then refusal_from script (history_after script h t) (n + 1) ts else Some (record { turn = n + 1; thread = t })) ≡ None →
        (is_runnable h.state t ≡ true) × AreRunnableFrom script (history_after script h t) ts
    by_test after true can rest = (can, after rest)
    by_test after false cannot rest = cc

-- the turn that is refused among these, of which so many were taken before
record IsRefusedFrom (script : ScriptValue) (h : History) (n : ℕ) (ts : List ℕ) (refused : Refusal) : Type 0 where
  pub k : ℕ
  pub turn : refused.turn ≡ n + suc k
  pub last : suc k ≤ length ts
  pub allowed : AreRunnableFrom script h (take k ts)
  pub thread : slice_get ts k ≡ Some refused.thread
  pub stuck : is_runnable (run_from script h (take k ts)).state refused.thread ≡ false

refused-from :
    (script : ScriptValue) (ts : List ℕ) (h : History) (n : ℕ) (refused : Refusal) →
    refusal_from script h n ts ≡ Some refused → IsRefusedFrom script h n ts refused
refused-from script [] h n refused e = cc
refused-from script (t ∷ ts) h n refused e =
    by_test (λ rest. refused-from script ts (history_after script h t) (n + 1) refused rest) (is_runnable h.state t) refl e
  where
    later : is_runnable h.state t ≡ true → IsRefusedFrom script (history_after script h t) (n + 1) ts refused → IsRefusedFrom script h n (t ∷ ts) refused
    later can rest =
        record {
          k = suc rest.k;
          turn = let at : refused.turn ≡ n + 1 + suc rest.k = rest.turn in omega arith;
          last = let last : suc rest.k ≤ length ts = rest.last in omega arith;
          allowed = (can, rest.allowed);
          thread = rest.thread;
          stuck = rest.stuck;
        }

    here : is_runnable h.state t ≡ false → Some (record { turn = n + 1; thread = t }) ≡ Some refused → IsRefusedFrom script h n (t ∷ ts) refused
    here cannot same =
        let is : record { turn = n + 1; thread = t } ≡ refused = cc
        in subst
        (λ (r : Refusal). IsRefusedFrom script h n (t ∷ ts) r)
        is
        (record { k = 0; turn = refl; last = omega arith; allowed = tt; thread = refl; stuck = cannot })

    by_test :
        (refusal_from script (history_after script h t) (n + 1) ts ≡ Some refused → IsRefusedFrom script (history_after script h t) (n + 1) ts refused) →
        (b : Bool) → is_runnable h.state t ≡ b →
        (if b then refusal_from script (history_after script h t) (n + 1) ts else Some (record { turn = n + 1; thread = t })) ≡ Some refused →
        IsRefusedFrom script h n (t ∷ ts) refused
    by_test after true can rest = later can (after rest)
    by_test after false cannot rest = here cannot rest

-- a play that is refused

pub refused-play : (script : ScriptValue) (refused : Refusal) → refusal script ≡ Some refused → IsRefusedPlay script refused
unfolding refusal run
refused-play script refused e =
    let from : IsRefusedFrom script (first_history script) 0 (scheduled_turns script) refused =
    refused-from script (scheduled_turns script) (first_history script) 0 refused e
    in let at : refused.turn ≡ 0 + suc from.k = from.turn
    in let before : refused.turn - 1 ≡ from.k = omega arith
    in let last : suc from.k ≤ length (scheduled_turns script) = from.last
    in let reached : length (scheduled_turns script) ≤ script.budget = scheduled_turns-few script
    in let some : length (turns_before script refused) ≤ length (scheduled_turns script) =
    length-take-within (refused.turn - 1) (scheduled_turns script)
    in record {
      allowed = record {
        runnable = rw before from.allowed;
        within = omega arith;
      };
      thread = rw before from.thread;
      first = omega arith;
      within = omega arith;
      stuck = rw before from.stuck;
    }

-- a play that is not refused

over-or : (a b : Bool) → (a ≡ true) ⊎ (b ≡ true) → (a || b) ≡ true
over-or true b h = refl
over-or false b (inl h) = cc
over-or false b (inr h) = h

none-is : (o : Option ℕ) → o ≡ None → is_none o ≡ true
none-is None e = refl
none-is (Some t) e = cc

-- the least runnable thread again and again, after turns that are runnable and within the budget
record IsPlayOn (script : ScriptValue) (first ts : List ℕ) : Type 0 where
  pub allowed : IsAllowed script (first ++ ts)
  pub over : is_over script (run script (first ++ ts)) ≡ true

play_on :
    (script : ScriptValue) (first ts : List ℕ) → AreRunnableFrom script (first_history script) first →
    length first ≤ script.budget → IsLeastFirst script (script.budget - length first) (run script first) ts →
    IsPlayOn script first ts
unfolding run
play_on script first ts can reached h =
    let few : length ts ≤ script.budget - length first = h.few
    in let sum : length (first ++ ts) ≡ length first + length ts = length-append first ts
    in record {
      allowed = record {
        runnable = is_runnable-then script first ts (first_history script) can h.runnable;
        within = omega arith;
      };
      over = over-or (is_none (least_runnable (run script (first ++ ts)).state)) (nat_le script.budget (length (run script (first ++ ts)).events)) (by_end h.over);
    }
  where
    by_end :
        (least_runnable (run_from script (run script first) ts).state ≡ None) ⊎ (length ts ≡ script.budget - length first) →
        (is_none (least_runnable (run script (first ++ ts)).state) ≡ true) ⊎ (nat_le script.budget (length (run script (first ++ ts)).events) ≡ true)
    by_end (inl none) =
        inl (none-is (least_runnable (run script (first ++ ts)).state) (ap (λ (x : History). least_runnable x.state) (run-then script first ts) ∙ none))
    by_end (inr used) =
        let sum : length (first ++ ts) ≡ length first + length ts = length-append first ts
        in let events : length (run script (first ++ ts)).events ≡ length (first ++ ts) = events-of-turns script (first ++ ts)
        in inr (le-leb script.budget (length (run script (first ++ ts)).events) (omega arith))

pub whole-play : (script : ScriptValue) → refusal script ≡ None → IsWholePlay script (turns_of_play script)
unfolding refusal turns_of_play
whole-play script none =
    let least : IsLeastFirst script (script.budget - length (scheduled_turns script)) (run script (scheduled_turns script)) (least_runnable_turns script (script.budget - length (scheduled_turns script)) (run script (scheduled_turns script))) =
    is_least_first script (script.budget - length (scheduled_turns script)) (run script (scheduled_turns script))
    in let on : IsPlayOn script (scheduled_turns script) (least_runnable_turns script (script.budget - length (scheduled_turns script)) (run script (scheduled_turns script))) =
    play_on
    script
    (scheduled_turns script)
    _
    (unrefused script (scheduled_turns script) (first_history script) 0 none)
    (scheduled_turns-few script)
    least
    in record {
      allowed = on.allowed;
      over = on.over;
      first = take-append_seam (scheduled_turns script) _;
      then = rw drop-append_seam least.least;
    }
