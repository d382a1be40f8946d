-- What `play` answers and writes, from the clauses of the calls that it makes.
use Rattle.std.proofs.Common.{◌≡◌, ℕ, List, Option, Some, None, Result, Ok, Err, IfOk, refl, sym, ap, ◌∙◌, subst}
use Rattle.spec_kernel.specs.Types.{Tid}
use Rattle.spec_requests.specs.Types.{Bad}
use Rattle.script_lang.specs.Words.{ScriptValue}
use Rattle.spec_requests.specs.Words.{refused_text}
use Rattle.spec_scripts.specs.Words.{History, IsRefusedPlay, IsWholePlay, Refusal, ending_of, refusal, text_of_history, threads_of_events, turns_before, turns_of_play}
use Rattle.sys_run.specs.Words.{IsBefore, IsPlay, LawsOf, SysValue, history, refusal_at}
use Rattle.dk_base.specs.declared.reading.ReadText.{ReadText}
use Rattle.doors_top.specs.declared.status.Status.{Status}
use Rattle.doors_top.specs.declared.status.Status.TheVariants.{Script}
use Rattle.doors_top.specs.Outcomes.{outcome_of_bad, outcome_of_played, outcome_of_turns, outcome_with, script_of_input}
use Rattle.doors_top.specs.Status.{status_of_ending}
use Rattle.doors_top.specs.Top.{IsDecidedText, IsPlayed, LawsOfScript, LawsOfTurns, TurnsOfPlay, TurnsOfScript}
use Rattle.doors_top.proofs.Frames.{same_outcome}

pub laws_of_turns : (script : ScriptValue) (q : SysValue) (ts : List ℕ) → q.script ≡ script → threads_of_events q.journal ≡ ts → LawsOf q → LawsOfTurns script ts
laws_of_turns script q ts hs ht h =
    subst (λ (us : List ℕ). LawsOfTurns script us) ht
    (subst (λ (s : ScriptValue). LawsOfTurns s (threads_of_events q.journal)) hs h)

-- the turns of the schedule were taken, and then those that were left

pub play_status :
    (script : ScriptValue) (q : SysValue) → IsPlay script q →
    status_of_ending (ending_of (history q).state) ≡ (outcome_of_turns script (refusal script)).status
play_status script q is = rw is.not_refused (ap (λ (h : History). status_of_ending (ending_of h.state)) is.same_run)

pub play_text :
    (script : ScriptValue) (q : SysValue) → IsPlay script q →
    text_of_history q.script (history q) ≡ (outcome_of_turns script (refusal script)).text
play_text script q is =
    rw is.not_refused (ap (λ (s : ScriptValue). text_of_history s (history q)) is.same_script ∙ ap (text_of_history script) is.same_run)

pub play_laws : (script : ScriptValue) (q : SysValue) → IsPlay script q → LawsOf q → LawsOfScript script (refusal script)
play_laws script q is h = rw is.not_refused (laws_of_turns script q (turns_of_play script) is.same_script is.same_turns h)

-- a turn of the schedule is refused

pub before_text :
    (script : ScriptValue) (turn : ℕ) (thread : Tid) (q : SysValue) → IsBefore script (refusal_at turn thread.0) q →
    refused_text q.script (history q).events turn thread ≡ (outcome_of_turns script (refusal script)).text
before_text script turn thread q is =
    rw is.refusal
    (ap (λ (s : ScriptValue). refused_text s (history q).events turn thread) is.same_script
    ∙ ap (λ (h : History). refused_text script h.events turn thread) is.same_run)

pub before_laws : (script : ScriptValue) (refused : Refusal) (q : SysValue) → IsBefore script refused q → LawsOf q → LawsOfScript script (refusal script)
before_laws script refused q is h =
    rw is.refusal (laws_of_turns script q (turns_before script refused) is.same_script is.same_turns h)

-- the turns that are played

turns_by :
    (script : ScriptValue) (o : Option Refusal) → (refusal script ≡ None → IsWholePlay script (turns_of_play script)) →
    ((refused : Refusal) → refusal script ≡ Some refused → IsRefusedPlay script refused) → refusal script ≡ o → TurnsOfScript script o
turns_by script None whole refused e = whole e
turns_by script (Some r) whole refused e = refused r e

turns_of : (found : Result ScriptValue Bad) →
    ((script : ScriptValue) → refusal script ≡ None → IsWholePlay script (turns_of_play script)) →
    ((script : ScriptValue) (refused : Refusal) → refusal script ≡ Some refused → IsRefusedPlay script refused) →
    IfOk found (λ script. TurnsOfScript script (refusal script))
turns_of (Ok script) whole refused = turns_by script (refusal script) (whole script) (refused script) refl
turns_of (Err bad) whole refused = tt

pub play_turns :
    (read : ReadText) → ((script : ScriptValue) → refusal script ≡ None → IsWholePlay script (turns_of_play script)) →
    ((script : ScriptValue) (refused : Refusal) → refusal script ≡ Some refused → IsRefusedPlay script refused) → TurnsOfPlay read
play_turns read whole refused = turns_of (script_of_input read) whole refused

-- what is said of the outcome

pub played_ok :
    (read : ReadText) (script : ScriptValue) (status : Status) (text : List ℕ) → script_of_input read ≡ Ok script →
    status ≡ (outcome_of_turns script (refusal script)).status → text ≡ (outcome_of_turns script (refusal script)).text →
    IsDecidedText read → TurnsOfPlay read → LawsOfScript script (refusal script) → IsPlayed read (outcome_with status text)
played_ok read script status text e hs ht decided turns laws =
    record {
      outcome = same_outcome (outcome_of_turns script (refusal script)) status text hs ht ∙ sym (ap outcome_of_played e);
      spelled = decided;
      turns = turns;
      laws = subst (λ (found : Result ScriptValue Bad). IfOk found (λ s. LawsOfScript s (refusal s))) (sym e) laws;
    }

pub played_bad :
    (read : ReadText) (bad : Bad) (status : Status) (text : List ℕ) → script_of_input read ≡ Err bad →
    status ≡ Script → text ≡ (outcome_of_bad bad).text → IsDecidedText read → TurnsOfPlay read → IsPlayed read (outcome_with status text)
played_bad read bad status text e hs ht decided turns =
    record {
      outcome = same_outcome (outcome_of_bad bad) status text hs ht ∙ sym (ap outcome_of_played e);
      spelled = decided;
      turns = turns;
      laws = subst (λ (found : Result ScriptValue Bad). IfOk found (λ s. LawsOfScript s (refusal s))) (sym e) tt;
    }
