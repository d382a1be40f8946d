-- A script that a text spells is sound: each line of its bodies has words that spell it in its process.
use Rattle.std.proofs.Common.{◌≡◌, ℕ, ◌+◌, ◌≤◌, List, [], ◌∷◌, ◌++◌, Option, Some, None, Bool, true, false, length, map, arith, zero, suc, inl, inr, refl, sym, ap, ◌∙◌, subst, length-append, zero-add}
use Rattle.std.specs.Prelude.{All, slice_get, option_map, filter_map, flat_map}
use Rattle.std.proofs.lemmas.Bool.{false≢true}
use Rattle.std.proofs.lemmas.List.{length-map}
use Rattle.std.proofs.lemmas.List.Elements.{All-nil, All-cons, All-append, All-weaker}
use Rattle.std.proofs.lemmas.Option.{slice_get-map}
use Rattle.spec_requests.specs.Types.{Attrs, Pid, ScriptLine, ScriptPlace, ScriptThread, Tid}
use Rattle.dk_base.specs.ByNumber.{at_number}
use Rattle.line_text.specs.Words.{lines_of, words_of}
use Rattle.script_lang.specs.Types.{FdArg, Kind, Line}
use Rattle.line_forms.specs.declared.line.Kind.TheVariants as kind
use Rattle.line_forms.specs.declared.line.Line.TheVariants as line
use Rattle.line_forms.specs.Words.{Each, Ends, ProcedureName, SpellsLine, SpellsThread, Tables, depth_after, kind_of, qualified_name}
use Rattle.script_lang.specs.declared.item.ScriptLine.TheVariants.{Budget, Process, Child, Spare, Thread, Procedure, Do, Schedule}
use Rattle.script_lang.specs.declared.item.ScriptPlace.TheVariants.{Members, Body}
use Rattle.script_lang.specs.declared.script.Procedure.{Procedure as ScriptProcedure}
use Rattle.script_lang.specs.Words.{ContextValue, ScriptValue, SpellsLines, SpellsScript, SpellsScriptLine, SpellsScriptLines, before_line, body_from, budget_from, context_after, context_at_depth, context_with_variables, first_context, is_closed, is_closed_place, is_of_place, name_of_procedure, procedures_from, process_of_item, script_of_items, spells, tables_of, threads_from, turns_of_item, with_limits}
use Rattle.script_lang.specs.Scripts.{script_child, script_process}
use Rattle.script_lang.specs.Spelled.{SpellsLimit}
use Rattle.script_lang.proofs.ChildLimits.{length-with_limits}
use Rattle.script_lang.proofs.SpelledItems.{along}
use Rattle.script_lang.proofs.TablesOfItems.{FewFollow, few_follow, few_before}
use Rattle.spec_requests.specs.DeclaredNames.{IsNumberOf, IsDeclaredThread}
use Rattle.spec_requests.specs.Sound.{IsChildOf, IsEntryOf, IsFitLine, IsNarrow, IsSoundThread, IsSoundProcedure, IsSound}
use Rattle.spec_requests.specs.Trees.{depth_after_lines, IsClosed}
use Rattle.spec_requests.proofs.Elements.{at_number-within}
use Rattle.spec_requests.proofs.Children.{StandAfterParents, child-of, next-after-parents, none-after-parents, sound-children, with_limits-narrow}

-- words that spell a line in a process
pub record HasWords (tables : Tables) (of : ℕ) (x : Line) : Type 0 where
  pub words : List (List ℕ)
  pub spells : SpellsLine tables of x words

-- a line that has words is fit

-- a table's name of a procedure is that of its process
entry-fit :
    (script : ScriptValue) (of entry : ℕ) (name : List ℕ) →
    slice_get (map name_of_procedure script.procedures) entry ≡ Some (qualified_name of name) → IsEntryOf script of entry
entry-fit script of entry name named =
    by_found
    (slice_get script.procedures entry)
    refl
    (sym (slice_get-map name_of_procedure script.procedures entry) ∙ named)
  where
    by_found :
        (found : Option ScriptProcedure) → slice_get script.procedures entry ≡ found →
        option_map name_of_procedure found ≡ Some (qualified_name of name) → IsEntryOf script of entry
    by_found None there h = cc
    by_found (Some procedure) there h =
        let same : name_of_procedure procedure ≡ qualified_name of name = cc
        in record { procedure = procedure; there = there; same_process = ap (λ (x : ProcedureName). x.process) same }

create-fit :
    (script : ScriptValue) (of : ℕ) (var : List ℕ) (entry cookie : ℕ) (attrs : Attrs) (words : List (List ℕ)) →
    SpellsLine (tables_of script) of (line.Create var entry cookie attrs) words → IsEntryOf script of entry
create-fit script of var entry cookie attrs [] s = absurd s
create-fit script of var entry cookie attrs (keyword ∷ []) s = absurd s.1
create-fit script of var entry cookie attrs (keyword ∷ name ∷ []) s = absurd s.1.1
create-fit script of var entry cookie attrs (keyword ∷ name ∷ procedure ∷ words) s =
    entry-fit script of entry procedure s.1.1.0.1

read-fit :
    (script : ScriptValue) (of : ℕ) (var : List ℕ) (fd : FdArg) (most : ℕ) (words : List (List ℕ)) →
    SpellsLine (tables_of script) of (line.Read var fd most) words → (1 ≤ most) × (most ≤ 4096)
read-fit script of var fd most [] s = absurd s
read-fit script of var fd most (keyword ∷ []) s = absurd s.1
read-fit script of var fd most (keyword ∷ name ∷ []) s = absurd s.1.1
read-fit script of var fd most (keyword ∷ name ∷ from ∷ []) s = absurd s.1.1.1
read-fit script of var fd most (keyword ∷ name ∷ from ∷ number ∷ words) s = (s.1.1.1.0.0, s.1.1.1.0.1)

getn-fit :
    (script : ScriptValue) (of : ℕ) (port : FdArg) (most least : ℕ) (wait : Bool) (words : List (List ℕ)) →
    SpellsLine (tables_of script) of (line.GetN port most least wait) words → most ≤ 64
getn-fit script of port most least wait [] s = absurd s
getn-fit script of port most least wait (keyword ∷ []) s = absurd s.1
getn-fit script of port most least wait (keyword ∷ from ∷ []) s = absurd s.1.1
getn-fit script of port most least wait (keyword ∷ from ∷ number ∷ words) s = s.1.1.0.1

-- a number that a table has a name under
named-within : {X : Type 0} (f : X → List ℕ) (xs : List X) (n : ℕ) (name : List ℕ) → at_number (map f xs) n ≡ Some name → IsNumberOf (length xs) n
named-within f xs n name e = let same : length (map f xs) ≡ length xs = length-map xs f in rw same at (at_number-within (map f xs) n name e)

tset-fit :
    (script : ScriptValue) (of timer first interval : ℕ) (words : List (List ℕ)) →
    SpellsLine (tables_of script) of (line.TimerSet timer first interval) words → (first ≤ 1000000000) × (interval ≤ 1000000000)
tset-fit script of timer first interval [] s = absurd s
tset-fit script of timer first interval (keyword ∷ []) s = absurd s.1
tset-fit script of timer first interval (keyword ∷ id ∷ []) s = absurd s.1.1
tset-fit script of timer first interval (keyword ∷ id ∷ delay ∷ []) s = absurd s.1.1.1
tset-fit script of timer first interval (keyword ∷ id ∷ delay ∷ period ∷ words) s = (s.1.1.0.1, s.1.1.1.0.1)

advance-fit :
    (script : ScriptValue) (of by : ℕ) (words : List (List ℕ)) →
    SpellsLine (tables_of script) of (line.Advance by) words → (1 ≤ by) × (by ≤ 10000)
advance-fit script of by [] s = absurd s
advance-fit script of by (keyword ∷ []) s = absurd s.1
advance-fit script of by (keyword ∷ number ∷ words) s = (s.1.0.0, s.1.0.1)

interrupt-fit :
    (script : ScriptValue) (of : ℕ) (thread : Tid) (words : List (List ℕ)) →
    SpellsLine (tables_of script) of (line.Interrupt thread) words → IsNumberOf (length script.threads) thread.0
interrupt-fit script of thread [] s = absurd s
interrupt-fit script of thread (keyword ∷ []) s = absurd s.1
interrupt-fit script of thread (keyword ∷ name ∷ words) s = named-within (λ x. x.name) script.threads thread.0 name s.1.0.1

kill-fit :
    (script : ScriptValue) (of : ℕ) (process : Pid) (words : List (List ℕ)) →
    SpellsLine (tables_of script) of (line.Kill process) words → IsNumberOf (length script.processes) process.0
kill-fit script of process [] s = absurd s
kill-fit script of process (keyword ∷ []) s = absurd s.1
kill-fit script of process (keyword ∷ name ∷ words) s = named-within (λ x. x.name) script.processes process.0 name s.1.0.1

fork-fit :
    (script : ScriptValue) (of : ℕ) (child : Pid) (words : List (List ℕ)) →
    SpellsLine (tables_of script) of (line.Fork child) words → IsChildOf script of child.0
fork-fit script of child [] s = absurd s
fork-fit script of child (keyword ∷ []) s = absurd s.1
fork-fit script of child (keyword ∷ name ∷ words) s = child-of script of child.0 s.1.0.1

line-fit : (script : ScriptValue) (of : ℕ) (x : Line) (words : List (List ℕ)) → SpellsLine (tables_of script) of x words → IsFitLine script of x
line-fit script of (line.Create var entry cookie attrs) words s = create-fit script of var entry cookie attrs words s
line-fit script of (line.Read var fd most) words s = read-fit script of var fd most words s
line-fit script of (line.GetN port most least wait) words s = getn-fit script of port most least wait words s
line-fit script of (line.TimerSet timer first interval) words s = tset-fit script of timer first interval words s
line-fit script of (line.Advance by) words s = advance-fit script of by words s
line-fit script of (line.Interrupt thread) words s = interrupt-fit script of thread words s
line-fit script of (line.Kill process) words s = kill-fit script of process words s
line-fit script of (line.Fork child) words s = fork-fit script of child words s
line-fit script of x words s = tt

fit-body : (script : ScriptValue) (of : ℕ) (body : List Line) → All (HasWords (tables_of script) of) body → All (IsFitLine script of) body
fit-body script of body all =
    All-weaker (HasWords (tables_of script) of) (IsFitLine script of) (λ x has. line-fit script of x has.words has.spells) body all

-- what is spelled of the threads and procedures that items declare

pub record IsSpelledThread (tables : Tables) (processes : ℕ) (x : ScriptThread) : Type 0 where
  pub process : IsNumberOf processes x.process.0
  pub body : All (HasWords tables x.process.0) x.body
  pub closed : IsClosed x.body

pub record IsSpelledProcedure (tables : Tables) (processes : ℕ) (x : ScriptProcedure) : Type 0 where
  pub process : IsNumberOf processes x.process.0
  pub body : All (HasWords tables x.process.0) x.body
  pub closed : IsClosed x.body

-- a name that a turn has in a line `schedule`
pub record HasName (tables : Tables) (t : Tid) : Type 0 where
  pub word : List ℕ
  pub spells : SpellsThread tables t word

-- members and bodies stand after a process
abbrev HasProcess : ScriptPlace → ℕ → Type 0
HasProcess Members n = 1 ≤ n
HasProcess Body n = 1 ≤ n
HasProcess place n = Unit {0}

-- so many processes are there after these items
abbrev processes_with : ContextValue → List ScriptLine → ℕ
processes_with before items = length before.processes + length (filter_map process_of_item items)

record AreSpelled (tables : Tables) (before : ContextValue) (items : List ScriptLine) : Type 0 where
  body : (depth : ℕ) → All (HasWords tables (length before.processes)) (body_from depth items)
  threads :
      HasProcess before.place (length before.processes) →
      All (IsSpelledThread tables (processes_with before items)) (threads_from (length before.processes) items)
  procedures :
      HasProcess before.place (length before.processes) →
      All (IsSpelledProcedure tables (processes_with before items)) (procedures_from (length before.processes) items)
  schedule : All (HasName tables) (flat_map turns_of_item items)
  narrow : All IsNarrow (filter_map process_of_item items)
  parents : StandAfterParents (length before.processes) (filter_map process_of_item items)
  budget : (events : ℕ) → events ≤ 100000 → budget_from events items ≤ 100000
  closed : before.place ≡ Body → depth_after_lines before.depth (body_from before.depth items) ≡ Some 0

none-spelled : (tables : Tables) (before : ContextValue) → is_closed before ≡ true → AreSpelled tables before []
none-spelled tables before end =
    record {
      body = λ depth. All-nil (HasWords tables (length before.processes));
      threads = λ has. All-nil (IsSpelledThread tables (processes_with before []));
      procedures = λ has. All-nil (IsSpelledProcedure tables (processes_with before []));
      schedule = All-nil (HasName tables);
      narrow = All-nil IsNarrow;
      parents = none-after-parents (length before.processes);
      budget = λ events small. small;
      closed = λ inside. absurd (false≢true (subst (λ (place : ScriptPlace). is_closed_place place ≡ true) inside end));
    }

-- lines of a body

line-spelled :
    (tables : Tables) (of : ℕ) (x : Line) (items : List ScriptLine) (after : Option ℕ) → HasWords tables of x →
    ((depth : ℕ) → All (HasWords tables of) (body_from depth items)) →
    All (HasWords tables of) (before_line x after (λ depth. body_from depth items))
line-spelled tables of x items None here others = All-nil (HasWords tables of)
line-spelled tables of x items (Some depth) here others = All-cons (HasWords tables of) x (body_from depth items) here (others depth)

-- the blocks that are open after a line are closed, unless it ends the body
abbrev AreClosed : Option ℕ → List ScriptLine → Type 0
AreClosed None items = Unit {0}
AreClosed (Some depth) items = depth_after_lines depth (body_from depth items) ≡ Some 0

line-closed :
    (x : Line) (items : List ScriptLine) (depth : ℕ) (k : Kind) → kind_of x ≡ k → AreClosed (depth_after depth k) items →
    depth_after_lines depth (before_line x (depth_after depth k) (λ after. body_from after items)) ≡ Some 0
line-closed x items depth kind.Act same h = rw same h
line-closed x items depth kind.Loop same h = rw same h
line-closed x items depth kind.Test same h = rw same h
line-closed x items zero kind.Closing same h = refl
line-closed x items (suc depth) kind.Closing same h = rw same h

-- what is after a line is in the same process
record AreAfterLine (tables : Tables) (before : ContextValue) (after : Option ℕ) (items : List ScriptLine) : Type 0 where
  body : (depth : ℕ) → All (HasWords tables (length before.processes)) (body_from depth items)
  threads :
      1 ≤ length before.processes →
      All (IsSpelledThread tables (processes_with before items)) (threads_from (length before.processes) items)
  procedures :
      1 ≤ length before.processes →
      All (IsSpelledProcedure tables (processes_with before items)) (procedures_from (length before.processes) items)
  schedule : All (HasName tables) (flat_map turns_of_item items)
  narrow : All IsNarrow (filter_map process_of_item items)
  parents : StandAfterParents (length before.processes) (filter_map process_of_item items)
  budget : (events : ℕ) → events ≤ 100000 → budget_from events items ≤ 100000
  closed : AreClosed after items

after-line :
    (tables : Tables) (before : ContextValue) (items : List ScriptLine) (after : Option ℕ) → before.place ≡ Body →
    AreSpelled tables (context_at_depth before after) items → AreAfterLine tables before after items
after-line tables before items None at others =
    record {
      body = others.body;
      threads = others.threads;
      procedures = others.procedures;
      schedule = others.schedule;
      narrow = others.narrow;
      parents = others.parents;
      budget = others.budget;
      closed = tt;
    }
after-line tables before items (Some depth) at others =
    record {
      body = others.body;
      threads = λ some. others.threads (subst (λ place. HasProcess place (length before.processes)) (sym at) some);
      procedures = λ some. others.procedures (subst (λ place. HasProcess place (length before.processes)) (sym at) some);
      schedule = others.schedule;
      narrow = others.narrow;
      parents = others.parents;
      budget = others.budget;
      closed = others.closed at;
    }

do-spelled :
    (tables : Tables) (before : ContextValue) (x : Line) (items : List ScriptLine) → before.place ≡ Body →
    HasWords tables (length before.processes) x → AreSpelled tables (context_after before (Do x)) items →
    AreSpelled tables before (Do x ∷ items)
do-spelled tables before x items at here others =
    let after : AreAfterLine tables (context_with_variables before x) (depth_after before.depth (kind_of x)) items =
    after-line tables (context_with_variables before x) items (depth_after before.depth (kind_of x)) at others
    in record {
      body = λ depth. line-spelled tables (length before.processes) x items (depth_after depth (kind_of x)) here after.body;
      threads = λ has. after.threads (subst (λ place. HasProcess place (length before.processes)) at has);
      procedures = λ has. after.procedures (subst (λ place. HasProcess place (length before.processes)) at has);
      schedule = after.schedule;
      narrow = after.narrow;
      parents = after.parents;
      budget = after.budget;
      closed = λ inside. line-closed x items before.depth (kind_of x) refl after.closed;
    }

-- other items

within : (place : ScriptPlace) (n more : ℕ) → place ≡ Members → HasProcess place n → IsNumberOf (n + more) n
within Members n more at has = (has, omega arith)
within place n more at has = cc

each-named : (tables : Tables) (threads : List Tid) (words : List (List ℕ)) → Each (SpellsThread tables) threads Ends words → All (HasName tables) threads
each-named tables [] words s = All-nil (HasName tables)
each-named tables (thread ∷ threads) [] s = absurd s
each-named tables (thread ∷ threads) (word ∷ words) s =
    All-cons (HasName tables) thread threads (record { word = word; spells = s.0 }) (each-named tables threads words s.1)

schedule-named : (tables : Tables) (of : ℕ) (threads : List Tid) (words : List (List ℕ)) → SpellsScriptLine tables of (Schedule threads) words → All (HasName tables) threads
schedule-named tables of [] words s = absurd s
schedule-named tables of (thread ∷ threads) [] s = absurd s
schedule-named tables of (thread ∷ threads) (keyword ∷ words) s = each-named tables (thread ∷ threads) words s.1

small-budget : (tables : Tables) (of events : ℕ) (words : List (List ℕ)) → SpellsScriptLine tables of (Budget events) words → events ≤ 100000
small-budget tables of events [] s = absurd s
small-budget tables of events (keyword ∷ []) s = absurd s.1
small-budget tables of events (keyword ∷ number ∷ words) s = s.1.0.1

small-limit : (tables : Tables) (of : ℕ) (name : List ℕ) (limit : ℕ) (words : List (List ℕ)) → SpellsScriptLine tables of (Process name limit) words → limit ≤ 256
small-limit tables of name limit [] s = absurd s
small-limit tables of name limit (keyword ∷ []) s = absurd s.1
small-limit tables of name limit (keyword ∷ word ∷ words) s = go words s.1.1
  where
    go : (words : List (List ℕ)) → SpellsLimit limit words → limit ≤ 256
    go words (inl h) = omega (arith, h.0)
    go [] (inr h) = absurd h
    go (keyword ∷ []) (inr h) = absurd h.1
    go (keyword ∷ number ∷ words) (inr h) = h.1.0.1

parent-before :
    (tables : Tables) (of : ℕ) (name : List ℕ) (parent : Pid) (words : List (List ℕ)) →
    SpellsScriptLine tables of (Child name parent) words → (1 ≤ parent.0) × (parent.0 ≤ of)
parent-before tables of name parent [] s = absurd s
parent-before tables of name parent (keyword ∷ []) s = absurd s.1
parent-before tables of name parent (keyword ∷ child ∷ []) s = absurd s.1.1
parent-before tables of name parent (keyword ∷ child ∷ mark ∷ []) s = absurd s.1.1.1
parent-before tables of name parent (keyword ∷ child ∷ mark ∷ named ∷ words) s =
    ((at_number-within tables.processes parent.0 named s.1.1.1.0.0.1).0, s.1.1.1.0.1)

child-after : (n : ℕ) (parent of : Pid) → Some parent ≡ Some of → (1 ≤ parent.0) × (parent.0 ≤ n) → (1 ≤ of.0) × (of.0 ≤ n)
child-after n parent of e h = let same : parent ≡ of = cc in subst (λ (p : Pid). (1 ≤ p.0) × (p.0 ≤ n)) same h

-- what stands among the members of a process
abbrev IsMember : ScriptLine → Type 0
IsMember (Spare name) = Unit {0}
IsMember (Thread name) = Unit {0}
IsMember (Procedure name) = Unit {0}
IsMember item = ⊥

at_members : (place : ScriptPlace) (item : ScriptLine) → is_of_place place item ≡ true → IsMember item → place ≡ Members
at_members Members item at is = refl
at_members place (Spare name) at is = absurd (false≢true at)
at_members place (Thread name) at is = absurd (false≢true at)
at_members place (Procedure name) at is = absurd (false≢true at)
at_members place item at is = absurd is

at_body : (place : ScriptPlace) (x : Line) → is_of_place place (Do x) ≡ true → place ≡ Body
at_body Body x at = refl
at_body place x at = absurd (false≢true at)

in_process : (place : ScriptPlace) (n : ℕ) → place ≡ Members → HasProcess place n → 1 ≤ n
in_process Members n at has = has
in_process place n at has = cc

-- in a body stand lines alone
outside : (place : ScriptPlace) (item : ScriptLine) → is_of_place Body item ≡ false → is_of_place place item ≡ true → place ≡ Body → ⊥
outside place item not_there at inside = false≢true (sym not_there ∙ subst (λ (p : ScriptPlace). is_of_place p item ≡ true) inside at)

item-spelled :
    (tables : Tables) (before : ContextValue) (words : List (List ℕ)) (item : ScriptLine) (items : List ScriptLine) →
    SpellsScriptLine tables (length before.processes) item words → is_of_place before.place item ≡ true →
    AreSpelled tables (context_after before item) items → AreSpelled tables before (item ∷ items)
item-spelled tables before words (Budget events) items s at others =
    record {
      body = λ depth. All-nil (HasWords tables (length before.processes));
      threads = λ has. others.threads tt;
      procedures = λ has. others.procedures tt;
      schedule = others.schedule;
      narrow = others.narrow;
      parents = others.parents;
      budget = λ given small. others.budget events (small-budget tables (length before.processes) events words s);
      closed = λ inside. absurd (outside before.place (Budget events) refl at inside);
    }
item-spelled tables before words (Process name limit) items s at others =
    let one : length (before.processes ++ name ∷ []) ≡ length before.processes + 1 = simp length-append refl
    in let some : 1 ≤ length (before.processes ++ name ∷ []) = omega arith
    in let more : length (before.processes ++ name ∷ []) + length (filter_map process_of_item items) ≡ length before.processes + length (filter_map process_of_item (Process name limit ∷ items)) = omega arith
    in record {
      body = λ depth. All-nil (HasWords tables (length before.processes));
      threads = λ has. rw one at (rw more at (others.threads some));
      procedures = λ has. rw one at (rw more at (others.procedures some));
      schedule = others.schedule;
      narrow = All-cons IsNarrow _ (filter_map process_of_item items) (small-limit tables (length before.processes) name limit words s) others.narrow;
      parents = next-after-parents (length before.processes) (script_process name limit) (filter_map process_of_item items) (λ parent e. absurd (cc e)) (rw one at others.parents);
      budget = others.budget;
      closed = λ inside. absurd (outside before.place (Process name limit) refl at inside);
    }
item-spelled tables before words (Child name parent) items s at others =
    let one : length (before.processes ++ name ∷ []) ≡ length before.processes + 1 = simp length-append refl
    in let some : 1 ≤ length (before.processes ++ name ∷ []) = omega arith
    in let more : length (before.processes ++ name ∷ []) + length (filter_map process_of_item items) ≡ length before.processes + length (filter_map process_of_item (Child name parent ∷ items)) = omega arith
    in record {
      body = λ depth. All-nil (HasWords tables (length before.processes));
      threads = λ has. rw one at (rw more at (others.threads some));
      procedures = λ has. rw one at (rw more at (others.procedures some));
      schedule = others.schedule;
      narrow = All-cons IsNarrow _ (filter_map process_of_item items) (omega arith) others.narrow;
      parents = next-after-parents (length before.processes) (script_child name parent) (filter_map process_of_item items) (λ of e. child-after (length before.processes) parent of e (parent-before tables (length before.processes) name parent words s)) (rw one at others.parents);
      budget = others.budget;
      closed = λ inside. absurd (outside before.place (Child name parent) refl at inside);
    }
item-spelled tables before words (Spare name) items s at others =
    record {
      body = λ depth. All-nil (HasWords tables (length before.processes));
      threads = λ has.
          All-cons
          (IsSpelledThread tables (processes_with before items))
          _
          (threads_from (length before.processes) items)
          (record {
            process = within before.place (length before.processes) (length (filter_map process_of_item items)) (at_members before.place (Spare name) at tt) has;
            body = All-nil (HasWords tables (length before.processes));
            closed = refl;
          })
          (others.threads has);
      procedures = others.procedures;
      schedule = others.schedule;
      narrow = others.narrow;
      parents = others.parents;
      budget = others.budget;
      closed = λ inside. absurd (outside before.place (Spare name) refl at inside);
    }
item-spelled tables before words (Thread name) items s at others =
    let members : before.place ≡ Members = at_members before.place (Thread name) at tt
    in record {
      body = λ depth. All-nil (HasWords tables (length before.processes));
      threads = λ has.
          All-cons
          (IsSpelledThread tables (processes_with before items))
          _
          (threads_from (length before.processes) items)
          (record {
            process = within before.place (length before.processes) (length (filter_map process_of_item items)) members has;
            body = others.body 0;
            closed = others.closed refl;
          })
          (others.threads (in_process before.place (length before.processes) members has));
      procedures = λ has. others.procedures (in_process before.place (length before.processes) members has);
      schedule = others.schedule;
      narrow = others.narrow;
      parents = others.parents;
      budget = others.budget;
      closed = λ inside. absurd (outside before.place (Thread name) refl at inside);
    }
item-spelled tables before words (Procedure name) items s at others =
    let members : before.place ≡ Members = at_members before.place (Procedure name) at tt
    in record {
      body = λ depth. All-nil (HasWords tables (length before.processes));
      threads = λ has. others.threads (in_process before.place (length before.processes) members has);
      procedures = λ has.
          All-cons
          (IsSpelledProcedure tables (processes_with before items))
          _
          (procedures_from (length before.processes) items)
          (record {
            process = within before.place (length before.processes) (length (filter_map process_of_item items)) members has;
            body = others.body 0;
            closed = others.closed refl;
          })
          (others.procedures (in_process before.place (length before.processes) members has));
      schedule = others.schedule;
      narrow = others.narrow;
      parents = others.parents;
      budget = others.budget;
      closed = λ inside. absurd (outside before.place (Procedure name) refl at inside);
    }
item-spelled tables before words (Do x) items s at others =
    do-spelled tables before x items (at_body before.place x at) (record { words = words; spells = s }) others
item-spelled tables before words (Schedule threads) items s at others =
    record {
      body = λ depth. All-nil (HasWords tables (length before.processes));
      threads = λ has. others.threads tt;
      procedures = λ has. others.procedures tt;
      schedule =
          All-append
          (HasName tables)
          threads
          (flat_map turns_of_item items)
          (schedule-named tables (length before.processes) threads words s)
          others.schedule;
      narrow = others.narrow;
      parents = others.parents;
      budget = others.budget;
      closed = λ inside. absurd (outside before.place (Schedule threads) refl at inside);
    }

items-spelled : (tables : Tables) (before : ContextValue) (lines : List (List ℕ)) (items : List ScriptLine) → SpellsScriptLines tables before lines items → AreSpelled tables before items
items-spelled tables =
    along tables (λ before lines items. AreSpelled tables before items) (record {
      ends = λ before end. none-spelled tables before end;
      skips = λ before line lines items printable skipped others. others;
      goes_on = λ before line lines item items is others. item-spelled tables before (words_of line) item items is.spells is.may_stand.of_place others;
    })

-- whole scripts

-- the facts of a script's lines that are told by its parts
sound-parts :
    (script : ScriptValue) (items : List ScriptLine) → script_of_items script.version script.paths items ≡ script →
    AreSpelled (tables_of script) first_context items → FewFollow first_context items → IsSound script
sound-parts script items same spelled few =
    let processes : with_limits [] (filter_map process_of_item items) ≡ script.processes = ap (λ (s : ScriptValue). s.processes) same
    in let count : length (filter_map process_of_item items) ≡ length script.processes = sym (length-with_limits (filter_map process_of_item items)) ∙ ap length processes
    in let threads : threads_from 0 items ≡ script.threads = ap (λ (s : ScriptValue). s.threads) same
    in let procedures : procedures_from 0 items ≡ script.procedures = ap (λ (s : ScriptValue). s.procedures) same
    in let schedule : flat_map turns_of_item items ≡ script.schedule = ap (λ (s : ScriptValue). s.schedule) same
    in let budget : budget_from 100000 items ≡ script.budget = ap (λ (s : ScriptValue). s.budget) same
    in let all_threads : All (IsSpelledThread (tables_of script) (length script.processes)) script.threads = rw (threads, count, zero-add (length script.processes)) at (spelled.threads tt)
    in let all_procedures : All (IsSpelledProcedure (tables_of script) (length script.processes)) script.procedures = rw (procedures, count, zero-add (length script.processes)) at (spelled.procedures tt)
    in let all_turns : All (HasName (tables_of script)) script.schedule = rw schedule at spelled.schedule
    in let narrow : All IsNarrow script.processes = rw processes at (with_limits-narrow (filter_map process_of_item items) spelled.narrow)
    in record {
      narrow = narrow;
      children = sound-children script (filter_map process_of_item items) processes spelled.parents;
      few_processes = rw (count, zero-add (length script.processes)) at few.processes;
      few_threads = rw (threads, zero-add (length script.threads)) at (few.threads 0);
      small_budget = rw budget at (spelled.budget 100000 (omega arith));
      threads =
          All-weaker
          (IsSpelledThread (tables_of script) (length script.processes))
          (IsSoundThread script)
          (λ x h. record { process = h.process; body = fit-body script x.process.0 x.body h.body; closed = h.closed })
          script.threads
          all_threads;
      procedures =
          All-weaker
          (IsSpelledProcedure (tables_of script) (length script.processes))
          (IsSoundProcedure script)
          (λ x h. record { process = h.process; body = fit-body script x.process.0 x.body h.body; closed = h.closed })
          script.procedures
          all_procedures;
      schedule =
          All-weaker
          (HasName (tables_of script))
          (IsDeclaredThread script)
          (λ t has. named-within (λ x. x.name) script.threads t.0 has.word has.spells.1)
          script.schedule
          all_turns;
    }

sound-script : (lines : List (List ℕ)) (script : ScriptValue) → SpellsScript lines script → IsSound script
sound-script lines script s =
    sound-parts
    script
    s.items
    s.is_script
    (items-spelled (tables_of script) first_context lines s.items s.spells)
    (few_follow (tables_of script) first_context lines s.items s.spells few_before)

sound-lines : (lines : List (List ℕ)) (script : ScriptValue) → SpellsLines lines script → IsSound script
sound-lines [] script s = absurd s
sound-lines (line ∷ lines) script s = sound-script lines script s.2

-- every script that a text spells
pub sound-spelled : (text : List ℕ) (script : ScriptValue) → spells text script → IsSound script
unfolding spells
sound-spelled text script s = sound-lines (lines_of text) script s
