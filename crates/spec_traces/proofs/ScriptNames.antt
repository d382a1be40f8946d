-- The names that a spelled script declares: each is a name, and no two threads have the same.
use Rattle.std.proofs.Common.{◌≡◌, ℕ, ◌+◌, ◌-◌, ◌==◌, ◌<◌, ◌≤◌, ◌⊎◌, inl, inr, zero, suc, Bool, true, false, cond, List, [], ◌∷◌, length, map, Some, None, unwrap_or, option_map, refl, subst, arith}
use Rattle.std.specs.Prelude.{All, slice_get, bytes_eq}
use Rattle.std.proofs.lemmas.List.Elements.{All-nil, All-cons, All-head, All-tail, All-map}
use Rattle.std.proofs.lemmas.Bool.Decides.{nat_tests}
use Rattle.std.proofs.lemmas.List.{length-map}
use Rattle.line_text.specs.Types.{Tid}
use Rattle.line_text.specs.Words.{are_distinct, is_name, lines_of, words_of}
use Rattle.dk_base.specs.ByNumber.{at_number}
use Rattle.line_forms.specs.Words.{Tables}
use Rattle.script_lang.specs.declared.item.ScriptLine.{ScriptLine}
use Rattle.script_lang.specs.declared.item.ScriptLine.TheVariants.{Process, Child, Spare, Thread, Procedure}
use Rattle.script_lang.specs.declared.script.Procedure.{Procedure as ScriptProcedure}
use Rattle.script_lang.specs.declared.script.ScriptThread.{ScriptThread}
use Rattle.script_lang.specs.Words.{ContextValue, ScriptValue, SpellsLines, SpellsScript, SpellsScriptLine, SpellsScriptLines, first_context, name_of_procedure, procedures_from, spells, tables_of, threads_from}
use Rattle.script_lang.proofs.DistinctItems.{declared_once}
use Rattle.script_lang.proofs.SpelledItems.{along}
use Rattle.spec_requests.specs.DeclaredNames.{IsThread}
use Rattle.spec_requests.specs.TraceNames.{procedure_name, thread_name}

-- this word is a name
abbrev pub IsName : List ℕ → Type 0
IsName word = is_name word ≡ true

-- a name, or the empty name of a number that has none
abbrev pub IsNameOrNone : List ℕ → Type 0
IsNameOrNone word = IsName word ⊎ (word ≡ [])

-- the thread has a name
abbrev pub IsNamedThread : ScriptThread → Type 0
IsNamedThread thread = IsName thread.name

-- the procedure has a name
abbrev pub IsNamedProcedure : ScriptProcedure → Type 0
IsNamedProcedure procedure = IsName procedure.name

-- the lines that declare

spare_name : (tables : Tables) (of : ℕ) (name : List ℕ) (words : List (List ℕ)) → SpellsScriptLine tables of (Spare name) words → IsName name
spare_name tables of name [] s = absurd s
spare_name tables of name (keyword ∷ []) s = absurd s.1
spare_name tables of name (keyword ∷ word ∷ words) s = s.1.0.0

thread_line_name : (tables : Tables) (of : ℕ) (name : List ℕ) (words : List (List ℕ)) → SpellsScriptLine tables of (Thread name) words → IsName name
thread_line_name tables of name [] s = absurd s
thread_line_name tables of name (keyword ∷ []) s = absurd s.1
thread_line_name tables of name (keyword ∷ word ∷ words) s = s.1.0.0

procedure_line_name : (tables : Tables) (of : ℕ) (name : List ℕ) (words : List (List ℕ)) → SpellsScriptLine tables of (Procedure name) words →
    IsName name
procedure_line_name tables of name [] s = absurd s
procedure_line_name tables of name (keyword ∷ []) s = absurd s.1
procedure_line_name tables of name (keyword ∷ word ∷ words) s = s.1.0.0

-- the threads and procedures of these items have names
record AreNamed (items : List ScriptLine) : Type 0 where
  threads : (process : ℕ) → All IsNamedThread (threads_from process items)
  procedures : (process : ℕ) → All IsNamedProcedure (procedures_from process items)

one_more : (tables : Tables) (of : ℕ) (item : ScriptLine) (items : List ScriptLine) (words : List (List ℕ)) →
    SpellsScriptLine tables of item words → AreNamed items → AreNamed (item ∷ items)
one_more tables of (Process name limit) items words s others =
    record { threads = λ process. others.threads (process + 1); procedures = λ process. others.procedures (process + 1) }
one_more tables of (Child name parent) items words s others =
    record { threads = λ process. others.threads (process + 1); procedures = λ process. others.procedures (process + 1) }
one_more tables of (Spare name) items words s others =
    record {
      threads = λ process. All-cons IsNamedThread _ (threads_from process items) (spare_name tables of name words s) (others.threads process);
      procedures = others.procedures;
    }
one_more tables of (Thread name) items words s others =
    record {
      threads = λ process. All-cons IsNamedThread _ (threads_from process items) (thread_line_name tables of name words s) (others.threads process);
      procedures = others.procedures;
    }
one_more tables of (Procedure name) items words s others =
    record {
      threads = others.threads;
      procedures = λ process.
          All-cons IsNamedProcedure _ (procedures_from process items) (procedure_line_name tables of name words s) (others.procedures process);
    }
one_more tables of item items words s others = record { threads = others.threads; procedures = others.procedures }

items_named : (tables : Tables) (context : ContextValue) (lines : List (List ℕ)) (items : List ScriptLine) →
    SpellsScriptLines tables context lines items → AreNamed items
items_named tables =
    along tables (λ context lines items. AreNamed items) (record {
      ends = λ context closed. record { threads = λ process. All-nil IsNamedThread; procedures = λ process. All-nil IsNamedProcedure };
      skips = λ context line lines items printable skipped others. others;
      goes_on = λ context line lines item items is others. one_more tables (length context.processes) item items (words_of line) is.spells others;
    })

-- the script that a text spells

-- what its names are
record HasNames (script : ScriptValue) : Type 0 where
  threads : All IsNamedThread script.threads
  procedures : All IsNamedProcedure script.procedures
  distinct : are_distinct bytes_eq (tables_of script).threads ≡ true

script_names : (lines : List (List ℕ)) (script : ScriptValue) → SpellsScript lines script → HasNames script
script_names lines script s =
    let named : AreNamed s.items = items_named (tables_of script) first_context lines s.items s.spells in
    let once = declared_once (tables_of script) lines s.items s.spells in
    record {
      threads = subst (λ (at : ScriptValue). All IsNamedThread at.threads) s.is_script (named.threads 0);
      procedures = subst (λ (at : ScriptValue). All IsNamedProcedure at.procedures) s.is_script (named.procedures 0);
      distinct = subst (λ (at : ScriptValue). are_distinct bytes_eq (tables_of at).threads ≡ true) s.is_script once.threads;
    }

lines_names : (lines : List (List ℕ)) (script : ScriptValue) → SpellsLines lines script → HasNames script
lines_names [] script s = absurd s
lines_names (line ∷ lines) script s = script_names lines script s.2

text_names : (text : List ℕ) (script : ScriptValue) → spells text script → HasNames script
unfolding spells
text_names text script s = lines_names (lines_of text) script s

-- each thread and spare has a name
pub thread_names : (text : List ℕ) (script : ScriptValue) → spells text script → All IsName (tables_of script).threads
thread_names text script s = All-map IsName (λ (thread : ScriptThread). thread.name) script.threads (text_names text script s).threads

-- no two threads or spares have the same name
pub distinct_threads : (text : List ℕ) (script : ScriptValue) → spells text script → are_distinct bytes_eq (tables_of script).threads ≡ true
distinct_threads text script s = (text_names text script s).distinct

-- each procedure has a name
pub procedure_names : (text : List ℕ) (script : ScriptValue) → spells text script → All IsNamedProcedure script.procedures
procedure_names text script s = (text_names text script s).procedures

-- the name of a number

slice_name : (names : List (List ℕ)) (i : ℕ) → All IsName names → IsNameOrNone (unwrap_or (slice_get names i) [])
slice_name [] i all = inr refl
slice_name (name ∷ names) zero all = inl (All-head IsName name names all)
slice_name (name ∷ names) (suc i) all = slice_name names i (All-tail IsName name names all)

number_name : (names : List (List ℕ)) (i : ℕ) (none : Bool) → All IsName names → IsNameOrNone (unwrap_or (cond none None (slice_get names i)) [])
number_name names i true all = inr refl
number_name names i false all = slice_name names i all

entry_name : (procedures : List ScriptProcedure) (i : ℕ) → All IsNamedProcedure procedures →
    IsNameOrNone (unwrap_or (option_map (λ procedure. procedure.name) (slice_get (map name_of_procedure procedures) i)) [])
entry_name [] i all = inr refl
entry_name (procedure ∷ procedures) zero all = inl (All-head IsNamedProcedure procedure procedures all)
entry_name (procedure ∷ procedures) (suc i) all = entry_name procedures i (All-tail IsNamedProcedure procedure procedures all)

-- what a trace shows of a thread's number is a name, or empty
pub thread_name_or_none : (text : List ℕ) (script : ScriptValue) → spells text script → (thread : Tid) → IsNameOrNone (thread_name script thread)
thread_name_or_none text script s thread = number_name (tables_of script).threads (thread.0 - 1) (thread.0 == 0) (thread_names text script s)

-- what a trace shows of an entry is a name, or empty
pub procedure_name_or_none : (text : List ℕ) (script : ScriptValue) → spells text script → (entry : ℕ) → IsNameOrNone (procedure_name script entry)
procedure_name_or_none text script s entry = entry_name script.procedures entry (procedure_names text script s)

-- the name of a number that is there
pub record HasThreadName (script : ScriptValue) (n : ℕ) : Type 0 where
  pub name : List ℕ
  pub is : IsName name
  pub at : at_number (tables_of script).threads n ≡ Some name

record NamedPlace (names : List (List ℕ)) (i : ℕ) : Type 0 where
  name : List ℕ
  is : IsName name
  at : slice_get names i ≡ Some name

named_place : (names : List (List ℕ)) (i : ℕ) → i < length names → All IsName names → NamedPlace names i
named_place [] i within all = absurd (omega arith)
named_place (name ∷ names) zero within all = record { name = name; is = All-head IsName name names all; at = refl }
named_place (name ∷ names) (suc i) within all =
    let later : NamedPlace names i = named_place names i (omega arith) (All-tail IsName name names all) in
    record { name = later.name; is = later.is; at = later.at }

thread_name_if : (names : List (List ℕ)) (n : ℕ) (none : Bool) → (n == 0) ≡ none → 1 ≤ n → n ≤ length names → All IsName names →
    (name : List ℕ) × IsName name × (cond none None (slice_get names (n - 1)) ≡ Some name)
thread_name_if names n true is least most all = absurd (at_least n is least)
  where
    at_least : (n : ℕ) → (n == 0) ≡ true → 1 ≤ n → ⊥
    at_least n h least = grind (arith, nat_tests)
thread_name_if names n false is least most all = let found = named_place names (n - 1) (omega arith) all in (found.name, found.is, found.at)

-- each number of a thread or spare has a name
pub named_thread : (text : List ℕ) (script : ScriptValue) → spells text script → (n : ℕ) → IsThread script n → HasThreadName script n
named_thread text script s n thread =
    let same : length (tables_of script).threads ≡ length script.threads = length-map script.threads (λ (x : ScriptThread). x.name) in
    let found = thread_name_if (tables_of script).threads n (n == 0) refl thread.0 (omega arith) (thread_names text script s) in
    record { name = found.0; is = found.1; at = found.2 }
