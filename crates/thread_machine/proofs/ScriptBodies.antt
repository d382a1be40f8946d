-- The bodies of a script that a text spells.
use Rattle.std.proofs.Common.{◌≡◌, ℕ, ◌+◌, ◌-◌, ◌<◌, Bool, true, false, List, [], ◌∷◌, length, Option, Some, None, ◌⊎◌, inl, inr, refl, ◌∙◌, sym, subst, arith, zero, suc}
use Rattle.std.specs.Prelude.{◌&&◌, ◌||◌, not, nat_le, nat_lt, slice_get, ◌==◌, if◌then◌else◌}
use Rattle.std.proofs.lemmas.Bool.{false≢true}
use Rattle.std.proofs.lemmas.Bool.Decides.{nat_tests}
use Rattle.line_text.specs.Words.{lines_of, words_of}
use Rattle.script_lang.specs.Types.{Kind, Line}
use Rattle.line_forms.specs.declared.line.Kind.TheVariants as kind
use Rattle.dk_base.specs.ByNumber.{at_number}
use Rattle.line_forms.specs.Words.{Tables, depth_after, kind_of}
use Rattle.spec_requests.specs.Types.{Procedure, ScriptLine, ScriptPlace, ScriptThread}
use Rattle.script_lang.specs.declared.item.ScriptLine.TheVariants as item
use Rattle.script_lang.specs.declared.item.ScriptPlace.TheVariants as place
use Rattle.script_lang.specs.Words.{ContextValue, ScriptValue, SkipsNext, SpellsLines, SpellsNext, SpellsScript, SpellsScriptLines, before_line, body_from, context_after, context_at_depth, context_with_variables, first_context, is_block_start, is_closed_place, is_of_place, is_request, procedures_from, spells, tables_of, threads_from, variables_with}
use Rattle.thread_machine.specs.Bodies.{IsSpelledLine, AreSpelled, IsBody}
use Rattle.spec_requests.specs.Words.{body_or_empty}
use Rattle.thread_machine.specs.Machines.{body_of, body_of_thread}
use Rattle.thread_machine.specs.Places.{BeginsWithCommand, IsNested}
use Rattle.thread_machine.proofs.SpelledLines.{loop-times}

or_left : (a b : Bool) → (a || b) ≡ false → a ≡ false
or_left true b h = absurd (false≢true (sym h))
or_left false b h = refl

not_le : (m n : ℕ) → nat_le m n ≡ false → n < m
not_le m n h = grind (arith, nat_tests)

-- what is left of a body after these lines
pub record IsRest (depth : ℕ) (after_repeat : Bool) (body : List Line) : Type 0 where
  pub nested : IsNested depth body
  pub command : after_repeat ≡ true → BeginsWithCommand body
  pub spelled : AreSpelled body

-- one line of it

act-of : (after_repeat : Bool) (k : Kind) → (after_repeat && not (is_request k)) ≡ false → after_repeat ≡ true → k ≡ kind.Act
act-of after_repeat kind.Act h e = refl
act-of true kind.Loop h e = absurd (false≢true (sym h))
act-of true kind.Test h e = absurd (false≢true (sym h))
act-of true kind.Closing h e = absurd (false≢true (sym h))
act-of false k h e = absurd (false≢true e)

-- the rest after a line of this kind
abbrev RestAfter : ContextValue → Line → Option ℕ → List ScriptLine → Type 0
RestAfter before line None items = Unit {0}
RestAfter before line (Some depth) items = IsRest depth (context_with_variables before line).after_repeat (body_from depth items)

line-nested :
    (before : ContextValue) (line : Line) (items : List ScriptLine) (depth : ℕ) (k : Kind) → kind_of line ≡ k → IsSpelledLine line →
    (is_block_start k && nat_le 8 depth) ≡ false → (before.after_repeat && not (is_request k)) ≡ false →
    RestAfter before line (depth_after depth k) items →
    IsRest depth before.after_repeat (before_line line (depth_after depth k) (λ after. body_from after items))
line-nested before line items depth kind.Act same spelled open_few placed rest =
    record {
      nested = rw same rest.nested;
      command = λ e. same;
      spelled = (spelled, rest.spelled);
    }
line-nested before line items depth kind.Loop same spelled open_few placed rest =
    let e : depth + 1 ≡ suc depth = omega arith
    in let few : depth < 8 = not_le 8 depth open_few
    in let inside : (context_with_variables before line).after_repeat ≡ true = rw same refl
    in let after : IsNested (suc depth) (body_from (depth + 1) items) =
    subst (λ (n : ℕ). IsNested n (body_from (depth + 1) items)) e rest.nested
    in record {
      nested = rw same (few, loop-times line spelled same, rest.command inside, after);
      command = λ i. same ∙ act-of before.after_repeat kind.Loop placed i;
      spelled = (spelled, rest.spelled);
    }
line-nested before line items depth kind.Test same spelled open_few placed rest =
    let e : depth + 1 ≡ suc depth = omega arith
    in let few : depth < 8 = not_le 8 depth open_few
    in let after : IsNested (suc depth) (body_from (depth + 1) items) =
    subst (λ (n : ℕ). IsNested n (body_from (depth + 1) items)) e rest.nested
    in record {
      nested = rw same (few, after);
      command = λ i. same ∙ act-of before.after_repeat kind.Test placed i;
      spelled = (spelled, rest.spelled);
    }
line-nested before line items zero kind.Closing same spelled open_few placed rest =
    record {
      nested = refl;
      command = λ i. let no_act : kind.Closing ≡ kind.Act = act-of before.after_repeat kind.Closing placed i in cc;
      spelled = tt;
    }
line-nested before line items (suc depth) kind.Closing same spelled open_few placed rest =
    record {
      nested = rw same rest.nested;
      command = λ i. same ∙ act-of before.after_repeat kind.Closing placed i;
      spelled = (spelled, rest.spelled);
    }

rest-after :
    (tables : Tables) (lines : List (List ℕ)) (items : List ScriptLine) (before : ContextValue) (line : Line) (depth : Option ℕ) →
    ((d : ℕ) → SpellsScriptLines tables (context_at_depth (context_with_variables before line) (Some d)) lines items →
    IsRest d (context_with_variables before line).after_repeat (body_from d items)) →
    SpellsScriptLines tables (context_at_depth (context_with_variables before line) depth) lines items → RestAfter before line depth items
rest-after tables lines items before line None inner h = tt
rest-after tables lines items before line (Some d) inner h = inner d h

-- an item of a body is a line
item-rest :
    (tables : Tables) (lines : List (List ℕ)) (items : List ScriptLine) (before : ContextValue) (line : List ℕ) (x : ScriptLine) →
    before.place ≡ place.Body → SpellsNext tables before line x (SpellsScriptLines tables (context_after before x) lines items) →
    ((l : Line) (d : ℕ) → SpellsScriptLines tables (context_at_depth (context_with_variables before l) (Some d)) lines items →
    IsRest d (context_with_variables before l).after_repeat (body_from d items)) →
    IsRest before.depth before.after_repeat (body_from before.depth (x ∷ items))
item-rest tables lines items before line (item.Do l) inside s inner =
    line-nested
    before
    l
    items
    before.depth
    (kind_of l)
    refl
    (record { tables = tables; process = length before.processes; words = words_of line; spells = s.spells })
    (or_left (is_block_start (kind_of l) && nat_le 8 before.depth) (nat_lt 32 (length (variables_with before l))) s.may_stand.within_limits)
    s.may_stand.in_its_place
    (rest-after tables lines items before l (depth_after before.depth (kind_of l)) (inner l) s.others)
item-rest tables lines items before line x inside s inner =
    absurd (false≢true (subst (λ (p : ScriptPlace). is_of_place p x ≡ true) inside s.may_stand.of_place))

rest-of-body :
    (tables : Tables) (lines : List (List ℕ)) (items : List ScriptLine) (before : ContextValue) → before.place ≡ place.Body →
    SpellsScriptLines tables before lines items → IsRest before.depth before.after_repeat (body_from before.depth items)
rest-of-body tables [] [] before inside h =
    absurd (false≢true (subst (λ (p : ScriptPlace). is_closed_place p ≡ true) inside h))
rest-of-body tables [] (x ∷ items) before inside h = absurd h
rest-of-body tables (line ∷ lines) [] before inside h = rest-of-body tables lines [] before inside h.1.others
rest-of-body tables (line ∷ lines) (x ∷ items) before inside h =
    by_line
    h.1
    (λ s. rest-of-body tables lines (x ∷ items) before inside s)
    (λ l d s. rest-of-body tables lines items (context_at_depth (context_with_variables before l) (Some d)) inside s)
  where
    by_line :
        SkipsNext line (SpellsScriptLines tables before lines (x ∷ items))
        ⊎ SpellsNext tables before line x (SpellsScriptLines tables (context_after before x) lines items) →
        (SpellsScriptLines tables before lines (x ∷ items) → IsRest before.depth before.after_repeat (body_from before.depth (x ∷ items))) →
        ((l : Line) (d : ℕ) → SpellsScriptLines tables (context_at_depth (context_with_variables before l) (Some d)) lines items →
        IsRest d (context_with_variables before l).after_repeat (body_from d items)) →
        IsRest before.depth before.after_repeat (body_from before.depth (x ∷ items))
    by_line (inl s) skipped inner = skipped s.others
    by_line (inr s) skipped inner = item-rest tables lines items before line x inside s inner

pub no-lines : IsBody []
no-lines = record { nested = refl; spelled = tt }

whole : (body : List Line) (after_repeat : Bool) → IsRest 0 after_repeat body → IsBody body
whole body after_repeat h = record { nested = h.nested; spelled = h.spelled }

-- the threads and the procedures of a script

abbrev AreThreads : List ScriptThread → Type 0
AreThreads [] = Unit {0}
AreThreads (thread ∷ threads) = IsBody thread.body × AreThreads threads

abbrev AreProcedures : List Procedure → Type 0
AreProcedures [] = Unit {0}
AreProcedures (procedure ∷ procedures) = IsBody procedure.body × AreProcedures procedures

item-threads :
    (tables : Tables) (lines : List (List ℕ)) (items : List ScriptLine) (before : ContextValue) (process : ℕ) (x : ScriptLine) →
    SpellsScriptLines tables (context_after before x) lines items → ((p : ℕ) → AreThreads (threads_from p items)) →
    AreThreads (threads_from process (x ∷ items))
item-threads tables lines items before process (item.Process name limit) s rest = rest (process + 1)
item-threads tables lines items before process (item.Child name parent) s rest = rest (process + 1)
item-threads tables lines items before process (item.Spare name) s rest = (no-lines, rest process)
item-threads tables lines items before process (item.Thread name) s rest =
    (whole (body_from 0 items) false (rest-of-body tables lines items (context_after before (item.Thread name)) refl s), rest process)
item-threads tables lines items before process x s rest = rest process

threads-spelled :
    (tables : Tables) (lines : List (List ℕ)) (items : List ScriptLine) (before : ContextValue) (process : ℕ) →
    SpellsScriptLines tables before lines items → AreThreads (threads_from process items)
threads-spelled tables [] [] before process h = tt
threads-spelled tables [] (x ∷ items) before process h = absurd h
threads-spelled tables (line ∷ lines) [] before process h = tt
threads-spelled tables (line ∷ lines) (x ∷ items) before process h =
    by_line
    h.1
    (λ s. threads-spelled tables lines (x ∷ items) before process s)
    (λ s p. threads-spelled tables lines items (context_after before x) p s)
  where
    by_line :
        SkipsNext line (SpellsScriptLines tables before lines (x ∷ items))
        ⊎ SpellsNext tables before line x (SpellsScriptLines tables (context_after before x) lines items) →
        (SpellsScriptLines tables before lines (x ∷ items) → AreThreads (threads_from process (x ∷ items))) →
        (SpellsScriptLines tables (context_after before x) lines items → (p : ℕ) → AreThreads (threads_from p items)) →
        AreThreads (threads_from process (x ∷ items))
    by_line (inl s) skipped rest = skipped s.others
    by_line (inr s) skipped rest = item-threads tables lines items before process x s.others (rest s.others)

item-procedures :
    (tables : Tables) (lines : List (List ℕ)) (items : List ScriptLine) (before : ContextValue) (process : ℕ) (x : ScriptLine) →
    SpellsScriptLines tables (context_after before x) lines items → ((p : ℕ) → AreProcedures (procedures_from p items)) →
    AreProcedures (procedures_from process (x ∷ items))
item-procedures tables lines items before process (item.Process name limit) s rest = rest (process + 1)
item-procedures tables lines items before process (item.Child name parent) s rest = rest (process + 1)
item-procedures tables lines items before process (item.Procedure name) s rest =
    (whole (body_from 0 items) false (rest-of-body tables lines items (context_after before (item.Procedure name)) refl s), rest process)
item-procedures tables lines items before process x s rest = rest process

procedures-spelled :
    (tables : Tables) (lines : List (List ℕ)) (items : List ScriptLine) (before : ContextValue) (process : ℕ) →
    SpellsScriptLines tables before lines items → AreProcedures (procedures_from process items)
procedures-spelled tables [] [] before process h = tt
procedures-spelled tables [] (x ∷ items) before process h = absurd h
procedures-spelled tables (line ∷ lines) [] before process h = tt
procedures-spelled tables (line ∷ lines) (x ∷ items) before process h =
    by_line
    h.1
    (λ s. procedures-spelled tables lines (x ∷ items) before process s)
    (λ s p. procedures-spelled tables lines items (context_after before x) p s)
  where
    by_line :
        SkipsNext line (SpellsScriptLines tables before lines (x ∷ items))
        ⊎ SpellsNext tables before line x (SpellsScriptLines tables (context_after before x) lines items) →
        (SpellsScriptLines tables before lines (x ∷ items) → AreProcedures (procedures_from process (x ∷ items))) →
        (SpellsScriptLines tables (context_after before x) lines items → (p : ℕ) → AreProcedures (procedures_from p items)) →
        AreProcedures (procedures_from process (x ∷ items))
    by_line (inl s) skipped rest = skipped s.others
    by_line (inr s) skipped rest = item-procedures tables lines items before process x s.others (rest s.others)

thread-at : (threads : List ScriptThread) (k : ℕ) (thread : ScriptThread) → AreThreads threads → slice_get threads k ≡ Some thread → IsBody thread.body
thread-at [] k thread h e = cc
thread-at (x ∷ threads) zero thread h e =
    let same : x ≡ thread = cc in subst (λ (t : ScriptThread). IsBody t.body) same h.0
thread-at (x ∷ threads) (suc k) thread h e = thread-at threads k thread h.1 e

procedure-at :
    (procedures : List Procedure) (k : ℕ) (procedure : Procedure) → AreProcedures procedures → slice_get procedures k ≡ Some procedure →
    IsBody procedure.body
procedure-at [] k procedure h e = cc
procedure-at (x ∷ procedures) zero procedure h e =
    let same : x ≡ procedure = cc in subst (λ (p : Procedure). IsBody p.body) same h.0
procedure-at (x ∷ procedures) (suc k) procedure h e = procedure-at procedures k procedure h.1 e

-- every body of a script that is spelled
record AreBodies (script : ScriptValue) : Type 0 where
  threads : AreThreads script.threads
  procedures : AreProcedures script.procedures

lines-bodies : (lines : List (List ℕ)) (script : ScriptValue) → SpellsLines lines script → AreBodies script
lines-bodies [] script h = absurd h
lines-bodies (line ∷ lines) script h =
    let s : SpellsScript lines script = h.2
    in subst
    AreBodies
    s.is_script
    (record {
      threads = threads-spelled (tables_of script) lines s.items first_context 0 s.spells;
      procedures = procedures-spelled (tables_of script) lines s.items first_context 0 s.spells;
    })

bodies : (text : List ℕ) (script : ScriptValue) → spells text script → AreBodies script
unfolding spells
bodies text script h = lines-bodies (lines_of text) script h

thread-lines : (script : ScriptValue) (found : Option ScriptThread) (t : ℕ) → AreBodies script → at_number script.threads t ≡ found → IsBody (body_of_thread found)
thread-lines script None t h e = no-lines
thread-lines script (Some thread) t h e = by_spare thread.spare
  where
    by_spare : (spare : Bool) → IsBody (if spare then [] else thread.body)
    by_spare true = no-lines
    by_spare false = by_number (t == 0) e
      where
        by_number : (first : Bool) → (if first then None else slice_get script.threads (t - 1)) ≡ Some thread → IsBody thread.body
        by_number true there = cc
        by_number false there = thread-at script.threads (t - 1) thread h.threads there

procedure-lines : (script : ScriptValue) (found : Option Procedure) (entry : ℕ) → AreBodies script → slice_get script.procedures entry ≡ found → IsBody (body_or_empty found)
procedure-lines script None entry h e = no-lines
procedure-lines script (Some procedure) entry h e = procedure-at script.procedures entry procedure h.procedures e

-- the lines in which a machine stands
pub spelled-body : (text : List ℕ) (script : ScriptValue) (t : ℕ) (entry : Option ℕ) → spells text script → IsBody (body_of script t entry)
spelled-body text script t None h = thread-lines script (at_number script.threads t) t (bodies text script h) refl
spelled-body text script t (Some entry) h =
    procedure-lines script (slice_get script.procedures entry) entry (bodies text script h) refl

pub spelled-at : (body : List Line) (k : ℕ) (line : Line) → AreSpelled body → slice_get body k ≡ Some line → IsSpelledLine line
spelled-at [] k line h e = cc
spelled-at (x ∷ body) zero line h e = let same : x ≡ line = cc in subst IsSpelledLine same h.0
spelled-at (x ∷ body) (suc k) line h e = spelled-at body k line h.1 e
