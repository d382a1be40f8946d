-- What `check` answers, from the laws on texts of traces.
use Rattle.std.proofs.Common.{◌≡◌, ◌⊎◌, inl, inr, ℕ, Bool, true, false, cond, List, Option, Some, None, Result, Ok, Err, refl, sym, ap, ◌∙◌}
use Rattle.std.specs.Prelude.{length, nat_le}
use Rattle.spec_kernel.specs.Words.{IsOpening, IsRun, State, Turn}
use Rattle.law_runs.specs.Words.{Laws}
use Rattle.spec_requests.specs.Types.{Bad}
use Rattle.script_lang.specs.Words.{IsDecided, ScriptValue, parse_result, spells}
use Rattle.spec_requests.specs.Words.{IsSound}
use Rattle.spec_scripts.specs.Words.{IsAllowed, opening_of, turns_of}
use Rattle.spec_scripts.proofs.Histories.{IsOpening-opening_of}
use Rattle.spec_scripts.proofs.RunTurns.{turns_of-run}
use Rattle.spec_traces.specs.declared.verdict.Verdict.{Verdict}
use Rattle.spec_traces.specs.declared.verdict.Verdict.TheVariants.{Legal, Differs}
use Rattle.spec_traces.specs.Words.{AreParts, HasNoTrace, IsFirstDifference, IsLegal, script_part, trace_part, verdict, verdict_text}
use Rattle.dk_base.specs.declared.reading.ReadText.{ReadText}
use Rattle.dk_base.specs.declared.reading.ReadText.TheVariants.{Whole, TooLong}
use Rattle.doors_top.specs.declared.script_in.TheConstants.{SCRIPT_LIMIT}
use Rattle.doors_top.specs.declared.status.Status.{Status}
use Rattle.doors_top.specs.declared.status.Status.TheVariants.{Complete, Illegal, Script}
use Rattle.doors_top.specs.Outcomes.{outcome_of_check, outcome_of_parsed, outcome_of_trace, outcome_of_verdict, script_of_input, script_of_part}
use Rattle.doors_top.specs.Status.{status_of_verdict}
use Rattle.doors_top.specs.Top.{HasParts, HasTrace, InputHasParts, IsChecked, IsDecidedPart, IsDecidedText, IsFoundIllegal, IsFoundLegal, LawsOfTurns}

-- the laws that are cited, as they are told

abbrev pub ReadIsSpelled : Type 0
ReadIsSpelled = (text : List ℕ) (script : ScriptValue) → parse_result text ≡ Ok script → spells text script

abbrev pub SpelledIsSound : Type 0
SpelledIsSound = (text : List ℕ) (script : ScriptValue) → spells text script → IsSound script

abbrev pub EveryRun : Type 0
EveryRun = (m : State) (xs : List Turn) → IsOpening m → IsRun m xs → Laws m xs

abbrev pub LegalIsTrace : Type 0
LegalIsTrace = (source : List ℕ) (script : ScriptValue) (trace : List ℕ) (events : ℕ) → spells source script → verdict script trace ≡ Legal events → IsLegal script trace events

abbrev pub TraceIsLegal : Type 0
TraceIsLegal = (source : List ℕ) (script : ScriptValue) (trace : List ℕ) (events : ℕ) → spells source script → IsLegal script trace events → verdict script trace ≡ Legal events

-- the two parts of what was read

parts_by : (input : List ℕ) (o : Option (List ℕ)) → trace_part input ≡ o → ((trace : List ℕ) → trace_part input ≡ Some trace → AreParts input (script_part input) trace) → (trace_part input ≡ None → HasNoTrace input)
    → HasParts input o
parts_by input None e found none = none e
parts_by input (Some trace) e found none = found trace e

input_has_parts :
    ((input trace : List ℕ) → trace_part input ≡ Some trace → AreParts input (script_part input) trace) → ((input : List ℕ) → trace_part input ≡ None → HasNoTrace input) → (read : ReadText) → InputHasParts read
input_has_parts found none (Whole input) = parts_by input (trace_part input) refl (found input) (none input)
input_has_parts found none TooLong = tt

decided_by : ((text : List ℕ) → IsDecided text (parse_result text)) → (text : List ℕ) (b : Bool) → IsDecidedText (cond b (Whole text) TooLong)
decided_by decided text true = decided text
decided_by decided text false = tt

part_is_decided : ((text : List ℕ) → IsDecided text (parse_result text)) → (read : ReadText) → IsDecidedPart read
part_is_decided decided (Whole input) = decided_by decided (script_part input) (nat_le (length (script_part input)) SCRIPT_LIMIT)
part_is_decided decided TooLong = tt

-- a script part that is accepted spells its script

spelled_by : (text : List ℕ) (script : ScriptValue) (b : Bool) → script_of_input (cond b (Whole text) TooLong) ≡ Ok script → parse_result text ≡ Ok script
spelled_by text script true e = e
spelled_by text script false e = cc

part_is_spelled : ReadIsSpelled → (text : List ℕ) (script : ScriptValue) → script_of_part text ≡ Ok script → spells text script
part_is_spelled read text script e = read text script (spelled_by text script (nat_le (length text) SCRIPT_LIMIT) e)

laws_of_turns : EveryRun → (script : ScriptValue) (ts : List ℕ) → IsSound script → IsAllowed script ts → LawsOfTurns script ts
laws_of_turns every script ts sound allowed =
    every (opening_of script) (turns_of script ts) (IsOpening-opening_of script sound) (turns_of-run script ts sound allowed)

abbrev pub DiffersFirst : Type 0
DiffersFirst = (source : List ℕ) (script : ScriptValue) (trace : List ℕ) (line : ℕ) (want have : List ℕ) → spells source script → verdict script trace ≡ Differs line want have → IsFirstDifference script trace line want have

abbrev pub FirstDiffers : Type 0
FirstDiffers = (source : List ℕ) (script : ScriptValue) (trace : List ℕ) (line : ℕ) (want have : List ℕ) → spells source script → IsFirstDifference script trace line want have → verdict script trace ≡ Differs line want have

-- Complete is answered where the trace is that of a legal run

-- the verdict's answers, which no bad script has
abbrev IsVerdict : Status → Type 0
IsVerdict Complete = Unit {0}
IsVerdict Illegal = Unit {0}
IsVerdict status = ⊥

not_script : (status : Status) → IsVerdict status → Script ≡ status → ⊥
not_script Script is e = is
not_script Complete is e = cc
not_script Illegal is e = cc
not_script status is e = cc

-- a trace follows
record Follows (trace : Option (List ℕ)) : Type 0 where
  pub behind : List ℕ
  pub follows : trace ≡ Some behind

follows_by : (text : List ℕ) (trace : Option (List ℕ)) (script : ScriptValue) (status : Status) → IsVerdict status → (outcome_of_trace script text trace).status ≡ status → Follows trace
follows_by text None script status is h = absurd (not_script status is h)
follows_by text (Some behind) script status is h = record { behind = behind; follows = refl }

-- what is read where a verdict is answered
record IsJudged (input : List ℕ) : Type 0 where
  pub script : ScriptValue
  pub spelled : script_of_part (script_part input) ≡ Ok script
  pub follows : Follows (trace_part input)

judged_by : (input : List ℕ) (status : Status) (found : Result ScriptValue Bad) → IsVerdict status → script_of_part (script_part input) ≡ found
    → (outcome_of_parsed found (script_part input) (trace_part input)).status ≡ status → IsJudged input
judged_by input status (Err bad) is e h = absurd (not_script status is h)
judged_by input status (Ok script) is e h =
    record { script = script; spelled = e; follows = follows_by (script_part input) (trace_part input) script status is h }

record Found (script : ScriptValue) (trace : List ℕ) : Type 0 where
  pub events : ℕ
  pub is : verdict script trace ≡ Legal events

found_by : (script : ScriptValue) (trace : List ℕ) (v : Verdict) → verdict script trace ≡ v → status_of_verdict v ≡ Complete → Found script trace
found_by script trace (Legal events) e h = record { events = events; is = e }
found_by script trace (Differs line want have) e h = cc

record Lost (script : ScriptValue) (trace : List ℕ) : Type 0 where
  pub line : ℕ
  pub want : List ℕ
  pub have : List ℕ
  pub is : verdict script trace ≡ Differs line want have

lost_by : (script : ScriptValue) (trace : List ℕ) (v : Verdict) → verdict script trace ≡ v → status_of_verdict v ≡ Illegal → Lost script trace
lost_by script trace (Legal events) e h = cc
lost_by script trace (Differs line want have) e h = record { line = line; want = want; have = have; is = e }

has_trace : (input : List ℕ) → IsJudged input → HasTrace (Whole input)
has_trace input is =
    record {
      input = input;
      whole = refl;
      script = is.script;
      spelled = is.spelled;
      trace = is.follows.behind;
      follows = is.follows.follows;
    }

-- the outcome where a trace follows an accepted script
outcome_found : (read : ReadText) (has : HasTrace read) → outcome_of_check read ≡ outcome_of_verdict (verdict has.script has.trace)
outcome_found read has =
    ap outcome_of_check has.whole
    ∙ ap (λ found. outcome_of_parsed found (script_part has.input) (trace_part has.input)) has.spelled
    ∙ ap (outcome_of_trace has.script (script_part has.input)) has.follows

told : (read : ReadText) (has : HasTrace read) (v : Verdict) → verdict has.script has.trace ≡ v → outcome_of_check read ≡ outcome_of_verdict v
told read has v e = outcome_found read has ∙ ap outcome_of_verdict e

-- an answer of `check` by the verdict that it tells
answered : (read : ReadText) (v : Verdict) → outcome_of_check read ≡ outcome_of_verdict v → ((outcome_of_check read).status ≡ status_of_verdict v) × ((outcome_of_check read).text ≡ verdict_text v)
answered read v e = (ap (λ outcome. outcome.status) e, ap (λ outcome. outcome.text) e)

-- the verdict's answer
verdict_answered : (read : ReadText) (has : HasTrace read) (status : Status) → (outcome_of_check read).status ≡ status → status_of_verdict (verdict has.script has.trace) ≡ status
verdict_answered read has status h = sym (answered read (verdict has.script has.trace) (outcome_found read has)).0 ∙ h

spelled_script : ReadIsSpelled → (read : ReadText) (has : HasTrace read) → spells (script_part has.input) has.script
spelled_script read_law read has = part_is_spelled read_law (script_part has.input) has.script has.spelled

found_legal : ReadIsSpelled → SpelledIsSound → EveryRun → LegalIsTrace → (read : ReadText) (has : HasTrace read) → Found has.script has.trace → IsFoundLegal has.script has.trace (outcome_of_check read).text
found_legal read_law sound every legal read has found =
    let spelled : spells (script_part has.input) has.script = spelled_script read_law read has in
    let is_legal : IsLegal has.script has.trace found.events = legal (script_part has.input) has.script has.trace found.events spelled found.is in
    record {
      events = found.events;
      legal = is_legal;
      laws = laws_of_turns every has.script is_legal.turns (sound (script_part has.input) has.script spelled) is_legal.is_trace.allowed;
      told = ap (λ outcome. outcome.text) (told read has (Legal found.events) found.is);
    }

found_illegal : ReadIsSpelled → DiffersFirst → (read : ReadText) (has : HasTrace read) → Lost has.script has.trace → IsFoundIllegal has.script has.trace (outcome_of_check read).text
found_illegal read_law differs read has lost =
    record {
      line = lost.line;
      want = lost.want;
      have = lost.have;
      first = differs (script_part has.input) has.script has.trace lost.line lost.want lost.have (spelled_script read_law read has) lost.is;
      told = ap (λ outcome. outcome.text) (told read has (Differs lost.line lost.want lost.have) lost.is);
    }

complete_is_legal : ReadIsSpelled → SpelledIsSound → EveryRun → LegalIsTrace → (read : ReadText) → (outcome_of_check read).status ≡ Complete
    → (has : HasTrace read) × IsFoundLegal has.script has.trace (outcome_of_check read).text
complete_is_legal read_law sound every legal (Whole input) h =
    let is : IsJudged input = judged_by input Complete (script_of_part (script_part input)) tt refl h in
    let has : HasTrace (Whole input) = has_trace input is in
    (has, found_legal read_law sound every legal (Whole input) has (found_by has.script has.trace (verdict has.script has.trace) refl (verdict_answered (Whole input) has Complete h)))
complete_is_legal read_law sound every legal TooLong h = cc

illegal_is_difference : ReadIsSpelled → DiffersFirst → (read : ReadText) → (outcome_of_check read).status ≡ Illegal
    → (has : HasTrace read) × IsFoundIllegal has.script has.trace (outcome_of_check read).text
illegal_is_difference read_law differs (Whole input) h =
    let is : IsJudged input = judged_by input Illegal (script_of_part (script_part input)) tt refl h in
    let has : HasTrace (Whole input) = has_trace input is in
    (has, found_illegal read_law differs (Whole input) has (lost_by has.script has.trace (verdict has.script has.trace) refl (verdict_answered (Whole input) has Illegal h)))
illegal_is_difference read_law differs TooLong h = cc

judged_verdict : (read : ReadText) (v : Verdict) → outcome_of_check read ≡ outcome_of_verdict v → ((outcome_of_check read).status ≡ Complete) ⊎ ((outcome_of_check read).status ≡ Illegal)
judged_verdict read (Legal events) e = inl (ap (λ outcome. outcome.status) e)
judged_verdict read (Differs line want have) e = inr (ap (λ outcome. outcome.status) e)

-- the laws that are cited, together
pub record Cited : Type 0 where
  pub read : ReadIsSpelled
  pub sound : SpelledIsSound
  pub every : EveryRun
  pub legal : LegalIsTrace
  pub again : TraceIsLegal
  pub differs : DiffersFirst
  pub first : FirstDiffers
  pub decided : (text : List ℕ) → IsDecided text (parse_result text)
  pub found : (input trace : List ℕ) → trace_part input ≡ Some trace → AreParts input (script_part input) trace
  pub none : (input : List ℕ) → trace_part input ≡ None → HasNoTrace input

pub is_checked : Cited → (read : ReadText) → IsChecked read (outcome_of_check read)
is_checked laws read =
    record {
      outcome = refl;
      parts = input_has_parts laws.found laws.none read;
      spelled = part_is_decided laws.decided read;
      judged = λ has. judged_verdict read (verdict has.script has.trace) (outcome_found read has);
      legal = λ h. complete_is_legal laws.read laws.sound laws.every laws.legal read h;
      legal_exact = λ has events legal.
          answered read (Legal events) (told read has (Legal events) (laws.again (script_part has.input) has.script has.trace events (spelled_script laws.read read has) legal));
      illegal = λ h. illegal_is_difference laws.read laws.differs read h;
      illegal_exact = λ has line want have first.
          answered read (Differs line want have)
          (told read has (Differs line want have) (laws.first (script_part has.input) has.script has.trace line want have (spelled_script laws.read read has) first));
    }
