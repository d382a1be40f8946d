-- What `load` answers and writes, from the clauses of the calls that it makes.
use Rattle.std.proofs.Common.{◌≡◌, ℕ, List, None, ◌++◌, codes, ap, subst, ◌∙◌}
use Rattle.script_lang.specs.Words.{ScriptValue}
use Rattle.load_gen.specs.Words.{IsSummaryOf, load_script, summary_of}
use Rattle.load_gen.specs.declared.summary_line.SummaryLine.{SummaryLine}
use Rattle.spec_scripts.specs.Words.{History, ending_of, refusal, turns_of_play}
use Rattle.sys_run.specs.Words.{IsPlay, SysValue, history}
use Rattle.doors_top.specs.declared.status.Status.{Status}
use Rattle.doors_top.specs.Outcomes.{outcome_of_load, outcome_with}
use Rattle.doors_top.specs.Status.{status_of_ending}
use Rattle.doors_top.specs.Top.{LawsOfTurns}
use Rattle.doors_top.proofs.Frames.{same_outcome}
use Rattle.doors_top.proofs.Plays.{laws_of_turns}

-- no turn of a load is refused, so its summary tells of the run that `play` makes
whole_run : (n : ℕ) (script : ScriptValue) (told : SummaryLine) (is : IsSummaryOf n script told) → script ≡ load_script n → refusal (load_script n) ≡ None → IsPlay (load_script n) is.run
whole_run n script told is e none = subst (λ (s : ScriptValue). refusal s ≡ None → IsPlay s is.run) e is.played none

load_outcome :
    (n : ℕ) (q : SysValue) (status : Status) (text : List ℕ) → IsPlay (load_script n) q →
    status ≡ status_of_ending (ending_of (history q).state) → text ≡ summary_of n (history q) ++ codes "\n" →
    outcome_with status text ≡ outcome_of_load n
load_outcome n q status text is hs ht =
    same_outcome (outcome_of_load n) status text
    (hs ∙ ap (λ (h : History). status_of_ending (ending_of h.state)) is.same_run)
    (ht ∙ ap (λ (h : History). summary_of n h ++ codes "\n") is.same_run)

pub told_outcome :
    (n : ℕ) (script : ScriptValue) (told : SummaryLine) (status : Status) (text : List ℕ) → IsSummaryOf n script told →
    script ≡ load_script n → refusal (load_script n) ≡ None →
    status ≡ status_of_ending told.ending → text ≡ told.line ++ codes "\n" → outcome_with status text ≡ outcome_of_load n
told_outcome n script told status text is e none hs ht =
    load_outcome n is.run status text (whole_run n script told is e none)
    (hs ∙ ap status_of_ending is.ending)
    (ht ∙ ap (λ (line : List ℕ). line ++ codes "\n") is.line)

pub load_laws :
    (n : ℕ) (script : ScriptValue) (told : SummaryLine) → IsSummaryOf n script told →
    script ≡ load_script n → refusal (load_script n) ≡ None → LawsOfTurns (load_script n) (turns_of_play (load_script n))
load_laws n script told is e none =
    let play = whole_run n script told is e none in
    laws_of_turns (load_script n) is.run (turns_of_play (load_script n)) play.same_script play.same_turns is.laws
