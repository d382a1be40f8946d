-- What `run` answers and writes, from the clauses of the calls that it makes.
use Rattle.std.proofs.Common.{◌≡◌, ℕ, ◌≤◌, List, length, Some, Result, Ok, Err, true, inl, refl, sym, ap, ◌∙◌, subst}
use Rattle.std.specs.Prelude.{◌++◌}
use Rattle.std.proofs.lemmas.List.{length-map}
use Rattle.script_lang.specs.Words.{ScriptValue, spells}
use Rattle.spec_requests.specs.Types.{Bad}
use Rattle.spec_requests.specs.Words.{tail_text}
use Rattle.spec_scripts.specs.Words.{IsAllowed, ending_of, is_over, text_of_history, threads_of_events}
use Rattle.spec_scripts.specs.ScriptRuns.{thread_of_event}
use Rattle.spec_traces.specs.Words.{IsFrontOf, IsFrontOfRun, IsTrace, turns_in}
use Rattle.sys_run.specs.Words.{LawsOf, SysValue, history}
use Rattle.dk_base.specs.declared.reading.ReadText.{ReadText}
use Rattle.dk_base.specs.declared.reading.ReadText.TheVariants.{Whole, TooLong}
use Rattle.doors_top.specs.Input.{IsSpelled}
use Rattle.doors_top.specs.declared.status.Status.{Status}
use Rattle.doors_top.specs.declared.status.Status.TheVariants.{Script}
use Rattle.doors_top.specs.Outcomes.{outcome_of_bad, outcome_with, script_of_input}
use Rattle.doors_top.specs.Status.{status_of_ending}
use Rattle.doors_top.specs.Top.{IsDecidedText, IsOfSomeRun, IsRan, RunsParsed}
use Rattle.doors_top.proofs.Checks.{ReadIsSpelled, TraceIsLegal}
use Rattle.doors_top.proofs.Frames.{same_outcome}

-- the laws that are cited, as they are told
abbrev pub TurnsOfTraces : Type 0
TurnsOfTraces = (source : List ℕ) (script : ScriptValue) (trace turns : List ℕ) → spells source script → IsTrace script trace turns → turns_in script trace ≡ turns

abbrev pub FrontsOfTraces : Type 0
FrontsOfTraces =
    (source : List ℕ) (script : ScriptValue) (trace turns written : List ℕ) → spells source script → IsTrace script trace turns →
    IsFrontOf written trace → IsFrontOfRun script written

-- what is known of a run that threads made
pub record HasRun (q : SysValue) (n : ℕ) (status : Status) (text : List ℕ) : Type 0 where
  pub spelled : IsSpelled q.script
  pub allowed : IsAllowed q.script (threads_of_events q.journal)
  pub over : is_over q.script (history q) ≡ true
  pub few : n ≤ length q.journal
  pub of_end : status ≡ status_of_ending (ending_of (history q).state)
  pub written : text ≡ text_of_history q.script (history q) ++ tail_text (Some n)
  pub laws : LawsOf q

few_turns : (q : SysValue) (n : ℕ) → n ≤ length q.journal → n ≤ length (threads_of_events q.journal)
few_turns q n few = subst (λ (k : ℕ). n ≤ k) (sym (length-map q.journal thread_of_event)) few

is_trace : (q : SysValue) (n : ℕ) (status : Status) (text : List ℕ) → HasRun q n status text → IsTrace q.script text (threads_of_events q.journal)
unfolding history
is_trace q n status text is =
    record {
      allowed = is.allowed;
      over = is.over;
      tail = Some n;
      small = few_turns q n is.few;
      written = inl is.written;
    }

pub is_run :
    TurnsOfTraces → TraceIsLegal → FrontsOfTraces → (q : SysValue) (n : ℕ) (status : Status) (text : List ℕ) → HasRun q n status text →
    IsOfSomeRun q.script (outcome_with status text)
unfolding history
is_run turns legal fronts q n status text is =
    record {
      turns = threads_of_events q.journal;
      written = turns is.spelled.0 q.script text (threads_of_events q.journal) is.spelled.1 (is_trace q n status text is);
      allowed = is.allowed;
      over = is.over;
      tail = n;
      small = few_turns q n is.few;
      of_turns = ap (λ answer. outcome_with answer text) is.of_end ∙ ap (outcome_with _) is.written;
      laws = is.laws;
      legal = legal is.spelled.0 q.script text (length (threads_of_events q.journal)) is.spelled.1
          (record { turns = threads_of_events q.journal; is_trace = is_trace q n status text is; count = refl });
      fronts = λ written front.
          fronts is.spelled.0 q.script text (threads_of_events q.journal) written is.spelled.1 (is_trace q n status text is) front;
    }

-- a script that was read is spelled
pub spelled_of : ReadIsSpelled → (read : ReadText) (script : ScriptValue) → script_of_input read ≡ Ok script → IsSpelled script
spelled_of spelled (Whole bytes) script e = (bytes, spelled bytes script e)
spelled_of spelled TooLong script e = cc

-- what is said of the outcome

pub ran_ok :
    (read : ReadText) (script : ScriptValue) (status : Status) (text : List ℕ) → script_of_input read ≡ Ok script →
    IsDecidedText read → IsOfSomeRun script (outcome_with status text) → IsRan read (outcome_with status text)
ran_ok read script status text e decided run =
    record {
      spelled = decided;
      outcome = subst (λ (found : Result ScriptValue Bad). RunsParsed found (outcome_with status text)) (sym e) run;
    }

pub ran_bad :
    (read : ReadText) (bad : Bad) (status : Status) (text : List ℕ) → script_of_input read ≡ Err bad →
    status ≡ Script → text ≡ (outcome_of_bad bad).text → IsDecidedText read → IsRan read (outcome_with status text)
ran_bad read bad status text e hs ht decided =
    record {
      spelled = decided;
      outcome = subst (λ (found : Result ScriptValue Bad). RunsParsed found (outcome_with status text)) (sym e) (same_outcome (outcome_of_bad bad) status text hs ht);
    }
