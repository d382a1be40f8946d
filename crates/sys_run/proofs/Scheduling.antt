-- Taking the schedule's turns one after another.
use Rattle.std.proofs.Common.{◌≡◌, ℕ, ◌+◌, ◌-◌, ◌≤◌, ◌<◌, List, [], ◌∷◌, length, take, drop, Some, None, Bool, true, false, arith, refl, ap, sym, ◌∙◌, subst, zero, suc, length-append, map, option_map}
use Rattle.std.specs.Prelude.{nat_lt, slice_get, if◌then◌else◌}
use Rattle.std.proofs.lemmas.Bool.{ltb-false, ltb-true}
use Rattle.std.proofs.lemmas.Option.{slice_get-map}
use Rattle.spec_kernel.specs.Types.{Tid}
use Rattle.spec_kernel.specs.Words.{is_runnable}
use Rattle.script_lang.specs.Words.{ScriptValue}
use Rattle.spec_requests.specs.Words.{IsDeclaredThread, IsThread}
use Rattle.spec_requests.proofs.Elements.{All-slice_get}
use Rattle.spec_scripts.specs.Words.{History, first_history, history_after, refusal, refusal_from, scheduled_turns, tid_number}
use Rattle.sys_run.specs.Schedules.{refusal_at, HasPlayed, IsRefused}
use Rattle.sys_run.specs.Sys.{SysValue, with_journal, history, state_of_run, with_turn, with_turns, scheduled_turn, IsJournal}
use Rattle.sys_run.proofs.Finishing.{with_turns-append, script-with_turns, history-new, take_more-at, take-all}
use Rattle.sys_run.proofs.Journals.{history-with_turn}

-- so many of the schedule's turns were taken as the journal has events
pub record HasScheduled (old now : SysValue) : Type 0 where
  pub taken : now ≡ with_turns old (take (length now.journal) (scheduled_turns old.script))
  pub ahead :
      refusal_from old.script (history now) (length now.journal) (drop (length now.journal) (scheduled_turns old.script))
      ≡ refusal old.script

pub HasScheduled-none : (p : SysValue) → p.journal ≡ [] → HasScheduled p p
unfolding refusal
HasScheduled-none p none =
    let count : length p.journal ≡ 0 = ap length none
    in let new : history p ≡ first_history p.script = ap (λ es. history (with_journal p.script es)) none ∙ history-new p.script
    in record {
      taken = rw count (taken_none (scheduled_turns p.script));
      ahead = rw (count, new) (ap (refusal_from p.script (first_history p.script) 0) (drop_none (scheduled_turns p.script)));
    }
  where
    taken_none : (ts : List ℕ) → p ≡ with_turns p (take 0 ts)
    taken_none [] = refl
    taken_none (t ∷ ts) = refl

    drop_none : (ts : List ℕ) → drop 0 ts ≡ ts
    drop_none [] = refl
    drop_none (t ∷ ts) = refl

-- the schedule's turn at a place that the budget reaches

slice_get-take : {X : Type 0} (n k : ℕ) (xs : List X) → k < n → slice_get (take n xs) k ≡ slice_get xs k
slice_get-take zero k xs h = absurd (omega arith)
slice_get-take (suc n) k [] h = refl
slice_get-take (suc n) zero (x ∷ xs) h = refl
slice_get-take (suc n) (suc k) (x ∷ xs) h = slice_get-take n k xs (omega arith)

drop-slice_get : {X : Type 0} (xs : List X) (k : ℕ) (x : X) → slice_get xs k ≡ Some x → drop k xs ≡ x ∷ drop (k + 1) xs
drop-slice_get [] k x h = cc
drop-slice_get (y ∷ []) zero x h = let same : y ≡ x = cc in rw same refl
drop-slice_get (y ∷ z ∷ zs) zero x h = let same : y ≡ x = cc in rw same refl
drop-slice_get (y ∷ ys) (suc k) x h =
    let more : suc k + 1 ≡ suc (k + 1) = omega arith in rw more (drop-slice_get ys k x h)

drop-past : {X : Type 0} (xs : List X) (k : ℕ) → slice_get xs k ≡ None → drop k xs ≡ []
drop-past [] zero h = refl
drop-past [] (suc k) h = refl
drop-past (x ∷ xs) zero h = cc
drop-past (x ∷ xs) (suc k) h = drop-past xs k h

-- the next of the schedule's turns
pub record IsNextScheduled (p : SysValue) (t : Tid) : Type 0 where
  pub left : length p.journal < p.script.budget
  pub turn : slice_get p.script.schedule (length p.journal) ≡ Some t
  pub ahead : drop (length p.journal) (scheduled_turns p.script) ≡ t.0 ∷ drop (length p.journal + 1) (scheduled_turns p.script)

scheduled_turns-at : (script : ScriptValue) (k : ℕ) → k < script.budget → slice_get (scheduled_turns script) k ≡ option_map tid_number (slice_get script.schedule k)
scheduled_turns-at script k left = slice_get-take script.budget k (map tid_number script.schedule) left ∙ slice_get-map tid_number script.schedule k

pub next_scheduled : (p : SysValue) (t : Tid) → Some t ≡ scheduled_turn p → IsNextScheduled p t
next_scheduled p t e = by_test (nat_lt (length p.journal) p.script.budget) refl e
  where
    by_test :
        (b : Bool) → nat_lt (length p.journal) p.script.budget ≡ b →
        Some t ≡ (if b then slice_get p.script.schedule (length p.journal) else None) → IsNextScheduled p t
    by_test false test h = cc
    by_test true test h =
        let left : length p.journal < p.script.budget = ltb-true (length p.journal) p.script.budget test
        in record {
          left = left;
          turn = sym h;
          ahead =
              drop-slice_get
              (scheduled_turns p.script)
              (length p.journal)
              t.0
              (scheduled_turns-at p.script (length p.journal) left ∙ ap (option_map tid_number) (sym h));
        }

length-take-few : {X : Type 0} (n : ℕ) (xs : List X) → length (take n xs) ≤ n
length-take-few zero [] = omega arith
length-take-few zero (x ∷ xs) = omega arith
length-take-few (suc n) [] = omega arith
length-take-few (suc n) (x ∷ xs) = let rest : length (take n xs) ≤ n = length-take-few n xs in omega arith

pub drop-all : {X : Type 0} (k : ℕ) (xs : List X) → length xs ≤ k → drop k xs ≡ []
drop-all zero [] h = refl
drop-all zero (x ∷ xs) h = absurd (omega arith)
drop-all (suc k) [] h = refl
drop-all (suc k) (x ∷ xs) h = drop-all k xs (omega arith)

-- no turn of the schedule is left
pub none_scheduled : (p : SysValue) → None ≡ scheduled_turn p → drop (length p.journal) (scheduled_turns p.script) ≡ []
none_scheduled p e = by_test (nat_lt (length p.journal) p.script.budget) refl e
  where
    by_test :
        (b : Bool) → nat_lt (length p.journal) p.script.budget ≡ b →
        None ≡ (if b then slice_get p.script.schedule (length p.journal) else None) →
        drop (length p.journal) (scheduled_turns p.script) ≡ []
    by_test false test h =
        let used : p.script.budget ≤ length p.journal = ltb-false (length p.journal) p.script.budget test
        in let few : length (scheduled_turns p.script) ≤ p.script.budget = length-take-few p.script.budget (map tid_number p.script.schedule)
        in drop-all (length p.journal) (scheduled_turns p.script) (omega arith)
    by_test true test h =
        let left : length p.journal < p.script.budget = ltb-true (length p.journal) p.script.budget test
        in drop-past
        (scheduled_turns p.script)
        (length p.journal)
        (scheduled_turns-at p.script (length p.journal) left ∙ ap (option_map tid_number) (sym h))

-- the script stays
pub script-scheduled_turns : (old now : SysValue) → HasScheduled old now → now.script ≡ old.script
script-scheduled_turns old now h = ap (λ (p : SysValue). p.script) h.taken ∙ script-with_turns (take (length now.journal) (scheduled_turns old.script)) old

-- a turn that is taken

refusal-is_runnable :
    (script : ScriptValue) (h : History) (n t : ℕ) (ts : List ℕ) → is_runnable h.state t ≡ true →
    refusal_from script h n (t ∷ ts) ≡ refusal_from script (history_after script h t) (n + 1) ts
refusal-is_runnable script h n t ts can = rw can refl

refusal-refused :
    (script : ScriptValue) (h : History) (n t : ℕ) (ts : List ℕ) → is_runnable h.state t ≡ false →
    refusal_from script h n (t ∷ ts) ≡ Some (refusal_at (n + 1) t)
refusal-refused script h n t ts can = rw can refl

pub HasScheduled-more :
    (old now : SysValue) (t : Tid) → HasScheduled old now → Some t ≡ scheduled_turn now → is_runnable (state_of_run now) t.0 ≡ true →
    HasScheduled old (with_turn now t.0)
HasScheduled-more old now t h e can =
    let same : now.script ≡ old.script = script-scheduled_turns old now h
    in let one : length (with_turn now t.0).journal ≡ length now.journal + 1 = simp length-append refl
    in let ahead : drop (length now.journal) (scheduled_turns old.script) ≡ t.0 ∷ drop (length now.journal + 1) (scheduled_turns old.script) =
    subst (λ (s : ScriptValue). drop (length now.journal) (scheduled_turns s) ≡ t.0 ∷ drop (length now.journal + 1) (scheduled_turns s)) same (next_scheduled now t e).ahead
    in let here : history (with_turn now t.0) ≡ history_after old.script (history now) t.0 =
    history-with_turn now t.0 ∙ ap (λ (s : ScriptValue). history_after s (history now) t.0) same
    in record {
      taken =
          rw one
          (ap (λ p. with_turn p t.0) h.taken
          ∙ sym
          (ap (with_turns old) (take_more-at (length now.journal) (scheduled_turns old.script) t.0 _ ahead)
          ∙ with_turns-append (take (length now.journal) (scheduled_turns old.script)) old t.0));
      ahead =
          rw (one, here)
          (sym (refusal-is_runnable old.script (history now) (length now.journal) t.0 (drop (length now.journal + 1) (scheduled_turns old.script)) can)
          ∙ ap (refusal_from old.script (history now) (length now.journal)) (sym ahead)
          ∙ h.ahead);
    }

-- all were taken
pub HasPlayed-all : (old now : SysValue) → HasScheduled old now → None ≡ scheduled_turn now → HasPlayed old now
HasPlayed-all old now h e =
    let same : now.script ≡ old.script = script-scheduled_turns old now h
    in let none : drop (length now.journal) (scheduled_turns old.script) ≡ [] =
    subst (λ (s : ScriptValue). drop (length now.journal) (scheduled_turns s) ≡ []) same (none_scheduled now e)
    in record {
      not_refused = sym h.ahead ∙ ap (refusal_from old.script (history now) (length now.journal)) none;
      turns = h.taken ∙ ap (with_turns old) (take-all (length now.journal) (scheduled_turns old.script) none);
    }

-- one is refused
pub IsRefused-here :
    (old now : SysValue) (t : Tid) → HasScheduled old now → IsJournal now → Some t ≡ scheduled_turn now →
    is_runnable (state_of_run now) t.0 ≡ false → IsRefused old now (refusal_at (length now.journal + 1) t.0)
IsRefused-here old now t h is e cannot =
    let same : now.script ≡ old.script = script-scheduled_turns old now h
    in let next : IsNextScheduled now t = next_scheduled now t e
    in let ahead : drop (length now.journal) (scheduled_turns old.script) ≡ t.0 ∷ drop (length now.journal + 1) (scheduled_turns old.script) =
    subst (λ (s : ScriptValue). drop (length now.journal) (scheduled_turns s) ≡ t.0 ∷ drop (length now.journal + 1) (scheduled_turns s)) same next.ahead
    in let before : length now.journal + 1 - 1 ≡ length now.journal = omega arith
    in record {
      refusal =
          sym h.ahead
          ∙ ap (refusal_from old.script (history now) (length now.journal)) ahead
          ∙ refusal-refused old.script (history now) (length now.journal) t.0 (drop (length now.journal + 1) (scheduled_turns old.script)) cannot;
      turns = rw before h.taken;
      thread =
          subst
          (λ (s : ScriptValue). IsThread s t.0)
          same
          (All-slice_get (IsDeclaredThread now.script) now.script.schedule (length now.journal) t is.script.schedule next.turn);
    }
