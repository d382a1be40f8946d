-- The turns of a run as the schedule of its script.
use Rattle.std.proofs.Common.{◌≡◌, ℕ, ◌≤◌, List, length, None, Ok, Bool, true, arith, if◌then◌else◌, ap, ◌∙◌}
use Rattle.std.specs.Prelude.{nat_le}
use Rattle.std.proofs.lemmas.Bool.Decides.{nat_tests}
use Rattle.script_lang.specs.Words.{ScriptValue, canonical_text, parse_result}
use Rattle.spec_scripts.specs.Words.{History, ending_of, refusal, run, text_of_history, turns_of_play}
use Rattle.spec_traces.specs.Words.{scheduled}
use Rattle.dk_base.specs.declared.reading.ReadText.TheVariants.{Whole, TooLong}
use Rattle.doors_top.specs.declared.script_in.TheConstants.{SCRIPT_LIMIT}
use Rattle.dk_base.specs.Input.{text_within_limit}
use Rattle.doors_top.specs.Outcomes.{outcome_of_play, outcome_of_played, outcome_of_turns, outcome_with}
use Rattle.doors_top.specs.Status.{status_of_ending}

pub replayed :
    (script : ScriptValue) (turns : List ℕ) →
    parse_result (canonical_text (scheduled script turns)) ≡ Ok (scheduled script turns) →
    length (canonical_text (scheduled script turns)) ≤ SCRIPT_LIMIT → refusal (scheduled script turns) ≡ None →
    turns_of_play (scheduled script turns) ≡ turns → run (scheduled script turns) turns ≡ run script turns →
    text_of_history (scheduled script turns) (run (scheduled script turns) turns) ≡ text_of_history script (run script turns) →
    outcome_of_play (text_within_limit (canonical_text (scheduled script turns)) SCRIPT_LIMIT)
    ≡ outcome_with (status_of_ending (ending_of (run script turns).state)) (text_of_history script (run script turns))
replayed script turns parsed within unrefused played same text =
    let s : ScriptValue = scheduled script turns in
    let small : nat_le (length (canonical_text s)) SCRIPT_LIMIT ≡ true = grind (arith, nat_tests, within) in
    let read : text_within_limit (canonical_text s) SCRIPT_LIMIT ≡ Whole (canonical_text s) = ap (λ (b : Bool). if b then Whole (canonical_text s) else TooLong) small in
    let end : outcome_of_turns s None ≡ outcome_with (status_of_ending (ending_of (run s turns).state)) (text_of_history s (run s turns)) =
    ap (λ (ts : List ℕ). outcome_with (status_of_ending (ending_of (run s ts).state)) (text_of_history s (run s ts))) played in
    ap outcome_of_play read
    ∙ ap outcome_of_played parsed
    ∙ ap (outcome_of_turns s) unrefused
    ∙ end
    ∙ ap (λ t. outcome_with (status_of_ending (ending_of (run s turns).state)) t) text
    ∙ ap (λ (h : History). outcome_with (status_of_ending (ending_of h.state)) (text_of_history script (run script turns))) same
