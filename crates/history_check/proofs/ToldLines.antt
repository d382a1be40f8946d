-- What a line tells after which the text goes on; and that the text goes on after a line that tells what is so.
use Rattle.std.proofs.Common.{◌≡◌, ℕ, Bool, true, false, List, Some, None, Ok, refl, sym, ap, ◌∙◌, subst}
use Rattle.std.specs.Prelude.{bytes_eq, if◌then◌else◌}
use Rattle.std.proofs.lemmas.Slice.Eq.{bytes_eq-Decides}
use Rattle.spec_kernel.specs.Types.{Request, Tid}
use Rattle.spec_kernel.specs.Words.{MayTurn, State, Turn}
use Rattle.dk_base.specs.declared.event.What.{What}
use Rattle.spec_histories.specs.Histories.{Entry, Follows, entry_of}
use Rattle.history_text.specs.Laws.{ReadIsWritten}
use Rattle.history_text.specs.declared.line.Asked.{Asked}
use Rattle.history_text.specs.declared.line.Asked.TheVariants.{Enter, GoOn}
use Rattle.history_text.specs.declared.line.Ending.{Ending}
use Rattle.history_text.specs.declared.line.Line.{Line}
use Rattle.history_text.specs.declared.line.Line.TheVariants.{Process, Child, Name, Procedure, Path, Event, End}
use Rattle.history_text.specs.Words.{Names, entry_text, line_read, line_text, with_line}
use Rattle.history_check.specs.Judging.{Found, declared, found_at_end, found_at_turn, found_at_value, is_head_line, text_of_turn, wait_ends}
use Rattle.history_check.specs.LegalTexts.{IsWellFormed, MayTell, TellsEntry, Told, after_told, is_declaration, is_ending, line_told, turn_told}
use Rattle.history_check.specs.Places.{Reached, at_end, place_of, state_of, with_entry}
use Rattle.history_check.specs.Turns.{end_line, may_enter, may_go_on}
use Rattle.history_check.proofs.Fitness.{enter_may, go_on_may, may_enter_where, may_go_on_where}

-- choices

pub then_of : {X : Type 0} (b : Bool) (x y z : X) → b ≡ true → (if b then x else y) ≡ z → x ≡ z
then_of b x y z e h = sym (ap (λ c. if c then x else y) e) ∙ h

pub else_of : {X : Type 0} (b : Bool) (x y z : X) → b ≡ false → (if b then x else y) ≡ z → y ≡ z
else_of b x y z e h = sym (ap (λ c. if c then x else y) e) ∙ h

pub then_is : {X : Type 0} (b : Bool) (x y z : X) → b ≡ true → x ≡ z → (if b then x else y) ≡ z
then_is b x y z e h = ap (λ c. if c then x else y) e ∙ h

pub goes_on : (p q : Reached) → Found.GoesOn p ≡ Found.GoesOn q → p ≡ q
goes_on p q e = cc

not_illegal : {X : Type 0} (want : List ℕ) (q : Reached) → Found.IsIllegal want ≡ Found.GoesOn q → X
not_illegal want q e = cc

same_bytes : (xs ys : List ℕ) → bytes_eq xs ys ≡ true → xs ≡ ys
same_bytes xs ys = (bytes_eq-Decides xs ys).0

are_same : (xs ys : List ℕ) → xs ≡ ys → bytes_eq xs ys ≡ true
are_same xs ys = (bytes_eq-Decides xs ys).1

-- the text goes on after a line that is read, since it tells this
pub record Step (p : Reached) (have : List ℕ) (q : Reached) : Type 0 where
  pub told : Told
  pub text : line_text p.names (line_told told) ≡ have
  pub well : IsWellFormed p (line_told told)
  pub may : MayTell p told
  pub after : after_told p told ≡ q

-- an event

event_step :
    (p : Reached) (have : List ℕ) (line : Line) (turn : Turn) (q : Reached) (test : Bool) →
    line_text p.names line ≡ have → IsWellFormed p line → turn_told line ≡ Some turn → MayTurn (state_of p) turn.thread turn.request →
    bytes_eq have (text_of_turn p turn) ≡ test → found_at_turn p have (with_line p.names line) turn ≡ Found.GoesOn q → Step p have q
event_step p have line turn q true text well told may same e =
    let entry : Entry = entry_of (state_of p) turn in
    let follows : Follows (state_of p) entry = record { may = may; is = refl } in
    let tells : TellsEntry p.names line entry = record { turn = told; text = text ∙ same_bytes have (text_of_turn p turn) same } in
    record {
      told = Told.Enters line entry;
      text = text;
      well = well;
      may = (tells, follows);
      after = goes_on (with_entry p (with_line p.names line) entry) q (then_of (bytes_eq have (text_of_turn p turn)) _ _ (Found.GoesOn q) same e);
    }
event_step p have line turn q false text well told may same e =
    not_illegal (text_of_turn p turn) q (else_of (bytes_eq have (text_of_turn p turn)) _ _ (Found.GoesOn q) same e)

enter_step :
    (p : Reached) (have : List ℕ) (number : ℕ) (t root : Tid) (request : Request) (answer : List ℕ) (q : Reached) (test : Bool) →
    line_text p.names (Event number t root (Enter request) answer) ≡ have → IsWellFormed p (Event number t root (Enter request) answer) →
    may_enter (state_of p) t.0 request ≡ test → found_at_value p have (Event number t root (Enter request) answer) ≡ Found.GoesOn q → Step p have q
enter_step p have number t root request answer q true text well may e =
    event_step p have (Event number t root (Enter request) answer) (record { thread = t.0; request = Some request }) q _ text well refl
    (enter_may (state_of p) t.0 request may) refl (then_of (may_enter (state_of p) t.0 request) _ _ (Found.GoesOn q) may e)
enter_step p have number t root request answer q false text well may e =
    not_illegal _ q (else_of (may_enter (state_of p) t.0 request) _ _ (Found.GoesOn q) may e)

go_on_step :
    (p : Reached) (have : List ℕ) (number : ℕ) (t root : Tid) (what : What) (answer : List ℕ) (q : Reached) (test : Bool) →
    line_text p.names (Event number t root (GoOn what) answer) ≡ have → IsWellFormed p (Event number t root (GoOn what) answer) →
    may_go_on (state_of p) t.0 ≡ test → found_at_value p have (Event number t root (GoOn what) answer) ≡ Found.GoesOn q → Step p have q
go_on_step p have number t root what answer q true text well may e =
    event_step p have (Event number t root (GoOn what) answer) (wait_ends t) q _ text well refl
    (go_on_may (state_of p) t.0 may) refl (then_of (may_go_on (state_of p) t.0) _ _ (Found.GoesOn q) may e)
go_on_step p have number t root what answer q false text well may e =
    not_illegal _ q (else_of (may_go_on (state_of p) t.0) _ _ (Found.GoesOn q) may e)

asked_step :
    (p : Reached) (have : List ℕ) (number : ℕ) (t root : Tid) (asked : Asked) (answer : List ℕ) (q : Reached) →
    line_text p.names (Event number t root asked answer) ≡ have → IsWellFormed p (Event number t root asked answer) →
    found_at_value p have (Event number t root asked answer) ≡ Found.GoesOn q → Step p have q
asked_step p have number t root (Enter request) answer q text well e =
    enter_step p have number t root request answer q (may_enter (state_of p) t.0 request) text well refl e
asked_step p have number t root (GoOn what) answer q text well e =
    go_on_step p have number t root what answer q (may_go_on (state_of p) t.0) text well refl e

-- the end

end_step :
    (p : Reached) (have : List ℕ) (ending : Ending) (number : ℕ) (threads : List Tid) (q : Reached) (test : Bool) →
    line_text p.names (End ending number threads) ≡ have → IsWellFormed p (End ending number threads) →
    bytes_eq have (line_text p.names (end_line (state_of p))) ≡ test → found_at_end p have ≡ Found.GoesOn q → Step p have q
end_step p have ending number threads q true text well same e =
    record {
      told = Told.Ends (End ending number threads);
      text = text;
      well = well;
      may = (refl, text ∙ same_bytes have (line_text p.names (end_line (state_of p))) same);
      after = goes_on (at_end p) q (then_of (bytes_eq have (line_text p.names (end_line (state_of p)))) _ _ (Found.GoesOn q) same e);
    }
end_step p have ending number threads q false text well same e =
    not_illegal _ q (else_of (bytes_eq have (line_text p.names (end_line (state_of p)))) _ _ (Found.GoesOn q) same e)

-- a declaration

declare_step :
    (p : Reached) (have : List ℕ) (line : Line) (q : Reached) → line_text p.names line ≡ have → IsWellFormed p line → is_declaration line ≡ true →
    Found.GoesOn (declared p (with_line p.names line) (is_head_line line)) ≡ Found.GoesOn q → Step p have q
declare_step p have line q text well is e =
    record {
      told = Told.Declares line;
      text = text;
      well = well;
      may = is;
      after = goes_on (declared p (with_line p.names line) (is_head_line line)) q e;
    }

written_step :
    (p : Reached) (have : List ℕ) (line : Line) (q : Reached) → line_text p.names line ≡ have → IsWellFormed p line →
    found_at_value p have line ≡ Found.GoesOn q → Step p have q
written_step p have (Event number t root asked answer) q text well e = asked_step p have number t root asked answer q text well e
written_step p have (End ending number threads) q text well e =
    end_step p have ending number threads q (bytes_eq have (line_text p.names (end_line (state_of p)))) text well refl e
written_step p have (Process name limit members) q text well e = declare_step p have (Process name limit members) q text well refl e
written_step p have (Child name parent members) q text well e = declare_step p have (Child name parent members) q text well refl e
written_step p have (Name child name members) q text well e = declare_step p have (Name child name members) q text well refl e
written_step p have (Procedure name process) q text well e = declare_step p have (Procedure name process) q text well refl e
written_step p have (Path name text') q text well e = declare_step p have (Path name text') q text well refl e

pub step : ReadIsWritten → (p : Reached) (have : List ℕ) (line : Line) (q : Reached) → line_read p.names (place_of p) have ≡ Ok line →
    found_at_value p have line ≡ Found.GoesOn q → Step p have q
step law p have line q read e =
    let text : line_text p.names line ≡ have = law p.names (place_of p) line have read in
    written_step p have line q text (subst (λ (t : List ℕ). line_read p.names (place_of p) t ≡ Ok line) (sym text) read) e

-- the other way

turn_found : (p : Reached) (have : List ℕ) (names : Names) (turn : Turn) (e : Entry) → e ≡ entry_of (state_of p) turn → have ≡ entry_text p.names e →
    found_at_turn p have names turn ≡ Found.GoesOn (with_entry p names e)
turn_found p have names turn e is text =
    then_is (bytes_eq have (text_of_turn p turn)) _ _ (Found.GoesOn (with_entry p names e))
    (are_same have (text_of_turn p turn) (text ∙ ap (entry_text p.names) is)) (ap (λ (x : Entry). Found.GoesOn (with_entry p names x)) (sym is))

same_turn : (turn other : Turn) → Some turn ≡ Some other → turn ≡ other
same_turn turn other e = cc

entry_of_turn : (m : State) (e : Entry) (turn : Turn) → e ≡ entry_of m e.turn → turn ≡ e.turn → e ≡ entry_of m turn
entry_of_turn m e turn is t = is ∙ ap (entry_of m) (sym t)

may_of_turn : (m : State) (turn other : Turn) → turn ≡ other → MayTurn m other.thread other.request → MayTurn m turn.thread turn.request
may_of_turn m turn other t may = subst (λ (x : Turn). MayTurn m x.thread x.request) (sym t) may

told_event :
    (p : Reached) (have : List ℕ) (number : ℕ) (t root : Tid) (asked : Asked) (answer : List ℕ) (e : Entry) →
    have ≡ line_text p.names (Event number t root asked answer) → TellsEntry p.names (Event number t root asked answer) e → Follows (state_of p) e →
    found_at_value p have (Event number t root asked answer) ≡ Found.GoesOn (with_entry p (with_line p.names (Event number t root asked answer)) e)
told_event p have number t root (Enter request) answer e text tells follows =
    let turn : Turn = record { thread = t.0; request = Some request } in
    let same : turn ≡ e.turn = same_turn turn e.turn tells.turn in
    then_is (may_enter (state_of p) t.0 request) _ _ (Found.GoesOn (with_entry p (with_line p.names (Event number t root (Enter request) answer)) e))
    (may_enter_where (state_of p) t.0 request (may_of_turn (state_of p) turn e.turn same follows.may))
    (turn_found p have (with_line p.names (Event number t root (Enter request) answer)) turn e (entry_of_turn (state_of p) e turn follows.is same) (text ∙ tells.text))
told_event p have number t root (GoOn what) answer e text tells follows =
    let same : wait_ends t ≡ e.turn = same_turn (wait_ends t) e.turn tells.turn in
    then_is (may_go_on (state_of p) t.0) _ _ (Found.GoesOn (with_entry p (with_line p.names (Event number t root (GoOn what) answer)) e))
    (may_go_on_where (state_of p) t.0 (may_of_turn (state_of p) (wait_ends t) e.turn same follows.may))
    (turn_found p have (with_line p.names (Event number t root (GoOn what) answer)) (wait_ends t) e (entry_of_turn (state_of p) e (wait_ends t) follows.is same)
    (text ∙ tells.text))

no_turn : {X : Type 0} (turn : Turn) → None ≡ Some turn → X
no_turn turn e = cc

told_entry : (p : Reached) (have : List ℕ) (line : Line) (e : Entry) → have ≡ line_text p.names line → TellsEntry p.names line e → Follows (state_of p) e →
    found_at_value p have line ≡ Found.GoesOn (with_entry p (with_line p.names line) e)
told_entry p have (Event number t root asked answer) e text tells follows = told_event p have number t root asked answer e text tells follows
told_entry p have line e text tells follows = no_turn e.turn tells.turn

told_end : (p : Reached) (have : List ℕ) (line : Line) → have ≡ line_text p.names line → is_ending line ≡ true →
    line_text p.names line ≡ line_text p.names (end_line (state_of p)) → found_at_value p have line ≡ Found.GoesOn (at_end p)
told_end p have (End ending number threads) text is same =
    then_is (bytes_eq have (line_text p.names (end_line (state_of p)))) _ _ (Found.GoesOn (at_end p))
    (are_same have (line_text p.names (end_line (state_of p))) (text ∙ same)) refl
told_end p have line text is same = cc

told_declared : (p : Reached) (have : List ℕ) (line : Line) → is_declaration line ≡ true →
    found_at_value p have line ≡ Found.GoesOn (declared p (with_line p.names line) (is_head_line line))
told_declared p have (Event number t root asked answer) is = cc
told_declared p have (End ending number threads) is = cc
told_declared p have line is = refl

pub told_found : (p : Reached) (have : List ℕ) (told : Told) → have ≡ line_text p.names (line_told told) → MayTell p told →
    found_at_value p have (line_told told) ≡ Found.GoesOn (after_told p told)
told_found p have (Told.Declares line) text may = told_declared p have line may
told_found p have (Told.Enters line e) text may = told_entry p have line e text may.0 may.1
told_found p have (Told.Ends line) text may = told_end p have line text may.0 may.1
