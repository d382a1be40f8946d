-- What the verdict on lines is, step by step.
use Rattle.std.proofs.Common.{◌≡◌, ℕ, ◌+◌, ◌-◌, ◌<◌, Bool, true, false, List, [], ◌∷◌, ◌++◌, length, Some, None, refl, sym, ap, ◌∙◌, arith, length-append}
use Rattle.std.specs.Prelude.{slice_get, bytes_eq, is_none, nat_le, ◌||◌, if◌then◌else◌}
use Rattle.std.proofs.lemmas.Bool.Decides.{nat_tests}
use Rattle.spec_kernel.specs.Types.{Event}
use Rattle.spec_kernel.specs.Words.{least_runnable}
use Rattle.line_text.specs.Words.{lines_of}
use Rattle.script_lang.specs.Words.{ScriptValue}
use Rattle.spec_requests.specs.Words.{line_of}
use Rattle.spec_scripts.specs.Words.{History, event_at_turn, history_after, is_over, run}
use Rattle.spec_traces.specs.declared.verdict.Verdict.{Verdict}
use Rattle.spec_traces.specs.declared.verdict.Verdict.TheVariants.{Differs}
use Rattle.spec_traces.specs.Words.{line_after, line_of_turn, turn_in_line, verdict, verdict_at_end, verdict_from, verdict_of_turn}
use Rattle.sys_run.specs.Sys.{SysValue, history, with_journal, with_turn}
use Rattle.sys_run.proofs.Journals.{history-with_turn, length-history}
use Rattle.trace_check.specs.Lines.{ChecksLine}

second_false : (a b : Bool) → (a || b) ≡ false → b ≡ false
second_false true b e = cc
second_false false b e = e

-- where the run is not over the budget is not used up
pub has_budget : (p : SysValue) → is_over p.script (history p) ≡ false → length p.journal < p.script.budget
has_budget p e =
    let test : nat_le p.script.budget (length (history p).events) ≡ false =
    second_false (is_none (least_runnable (history p).state)) (nat_le p.script.budget (length (history p).events)) e in
    let count : length (history p).events ≡ length p.journal = length-history p in
    grind (arith, nat_tests)

not_over : (script : ScriptValue) (h : History) (have : List ℕ) (lines : List (List ℕ)) → is_over script h ≡ false →
    verdict_from script h (have ∷ lines)
    ≡ verdict_of_turn script h have (λ t. verdict_from script (history_after script h t) lines) (turn_in_line script h.state have)
not_over script h have lines over =
    ap
    (λ (b : Bool). if b
    then verdict_at_end script h (have ∷ lines)
    else verdict_of_turn script h have (λ t. verdict_from script (history_after script h t) lines) (turn_in_line script h.state have))
    over

at_turn : (script : ScriptValue) (h : History) (have : List ℕ) (t : ℕ) (lines : List (List ℕ)) (test : Bool) → is_over script h ≡ false →
    Some t ≡ turn_in_line script h.state have → bytes_eq have (line_of_turn script h t) ≡ test →
    verdict_from script h (have ∷ lines)
    ≡ (if test then verdict_from script (history_after script h t) lines else Differs (line_after h) (line_of_turn script h t) have)
at_turn script h have t lines test over turn is =
    not_over script h have lines over
    ∙ ap (verdict_of_turn script h have (λ t. verdict_from script (history_after script h t) lines)) (sym turn)
    ∙ ap (λ (b : Bool). if b then verdict_from script (history_after script h t) lines else Differs (line_after h) (line_of_turn script h t) have) is

last_of : (xs : List Event) (x : Event) → slice_get (xs ++ x ∷ []) (length xs) ≡ Some x
last_of [] x = refl
last_of (y ∷ ys) x = last_of ys x

same_event : (x y : Event) → Some x ≡ Some y → x ≡ y
same_event x y e = cc

-- what a test says of two lists
pub tested : (r : Bool) (have at want : List ℕ) (test : Bool) → r ≡ test → r ≡ bytes_eq have at → at ≡ want → bytes_eq have want ≡ test
tested r have at want test is says same = ap (bytes_eq have) (sym same) ∙ sym says ∙ is

-- a turn was taken, and the line of its event, which is the last, is this one
pub record IsTurn (p new : SysValue) (t n : ℕ) (want : List ℕ) : Type 0 where
  pub step : new ≡ with_turn p t
  pub count : n ≡ length new.journal
  pub event : Event
  pub last : slice_get new.journal (n - 1) ≡ Some event
  pub told : ScriptValue
  pub same : told ≡ new.script
  pub line : want ≡ line_of told event

length-turn : (p : SysValue) (t : ℕ) → length (with_turn p t).journal ≡ length p.journal + 1
length-turn p t = simp length-append refl

module _ (p new : SysValue) (t n : ℕ) (want : List ℕ) (is : IsTurn p new t n want) where
  next_event : Event
  next_event = event_at_turn p.script (history p) t

  number : n ≡ length p.journal + 1
  number = is.count ∙ ap (λ (q : SysValue). length q.journal) is.step ∙ length-turn p t

  pub same_script : new.script ≡ p.script
  same_script = ap (λ (q : SysValue). q.script) is.step

  place : n - 1 ≡ length p.journal
  place = let e : n ≡ length p.journal + 1 = number in omega arith

  last_event : is.event ≡ next_event
  unfolding next_event
  last_event =
      same_event is.event next_event
      (sym is.last
      ∙ ap (λ (q : SysValue). slice_get q.journal (n - 1)) is.step
      ∙ ap (slice_get (with_turn p t).journal) place
      ∙ last_of p.journal next_event)

  wanted : want ≡ line_of_turn p.script (history p) t
  unfolding next_event
  wanted = is.line ∙ ap (λ (s : ScriptValue). line_of s is.event) (is.same ∙ same_script) ∙ ap (line_of p.script) last_event

  same_history : history_after p.script (history p) t ≡ history new
  same_history = sym (history-with_turn p t) ∙ ap history (sym is.step)

  number_of_line : line_after (history p) ≡ n
  number_of_line = ap (λ (k : ℕ). k + 1) (length-history p) ∙ sym number

  module _ (have : List ℕ) (over : is_over p.script (history p) ≡ false) (turn : Some t ≡ turn_in_line p.script (history p).state have) where
    -- the line is that of the event
    pub line_same : bytes_eq have want ≡ true → ChecksLine p new have None
    line_same test = (
      same_script,
      λ lines. at_turn p.script (history p) have t lines true over turn (ap (bytes_eq have) (sym wanted) ∙ test)
          ∙ ap (λ (h : History). verdict_from p.script h lines) same_history,
    )

    -- it is another
    pub line_differs : (found : Verdict) (shown : List ℕ) → bytes_eq have want ≡ false → found ≡ Differs n shown have → shown ≡ want → ChecksLine p new have (Some found)
    line_differs found shown test e same = λ lines.
        at_turn p.script (history p) have t lines false over turn (ap (bytes_eq have) (sym wanted) ∙ test)
        ∙ ap (λ (w : List ℕ). Differs (line_after (history p)) w have) (sym wanted)
        ∙ ap (λ (k : ℕ). Differs k want have) number_of_line
        ∙ ap (λ (w : List ℕ). Differs n w have) (sym same)
        ∙ sym e

-- what the lines so far leave to be said: the verdict is that on the lines that are left
pub record IsVerdictOfRest (first now : SysValue) (lines rest : List (List ℕ)) : Type 0 where
  pub script : now.script ≡ first.script
  pub verdict : verdict_from first.script (history first) lines ≡ verdict_from first.script (history now) rest

-- the verdict on a text is that on all its lines, from an empty journal
pub whole_verdict : (script : ScriptValue) (p : SysValue) (text : List ℕ) → p ≡ with_journal script [] →
    verdict_from p.script (history p) (lines_of text) ≡ verdict script text
unfolding history run verdict
whole_verdict script p text e = ap (λ (q : SysValue). verdict_from q.script (history q) (lines_of text)) e
