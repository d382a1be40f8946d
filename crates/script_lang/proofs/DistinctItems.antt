-- No name stands twice among those that lines declare.
use Rattle.std.proofs.Common.{◌≡◌, ℕ, ◌+◌, ◌<◌, Bool, true, false, ◌==◌, not, List, [], ◌∷◌, ◌++◌, length, Option, Some, None, refl, sym, ap, ◌∙◌, arith}
use Rattle.std.specs.Prelude.{map, bytes_eq}
use Rattle.std.specs.List.{list_any}
use Rattle.std.proofs.lemmas.Bool.{and_parts, or_parts, not-true, eq-eqb, ne_eqb}
use Rattle.std.proofs.lemmas.List.{append_assoc, append-nil, length-append, map-append}
use Rattle.std.proofs.lemmas.List.Folds.{list_any-append}
use Rattle.line_text.specs.Words.{are_distinct, has_name}
use Rattle.line_forms.specs.Words.{ProcedureName, Tables, depth_after, is_same_procedure, kind_of, qualified_name}
use Rattle.script_lang.specs.declared.item.ScriptLine.{ScriptLine}
use Rattle.script_lang.specs.declared.item.ScriptLine.TheVariants.{Budget, Process, Child, Spare, Thread, Procedure, Do, Schedule}
use Rattle.script_lang.specs.Context.{ContextValue, first_context, is_declared_twice, context_after, context_at_depth, context_with_variables}
use Rattle.script_lang.specs.Spelled.{SpellsScriptLines}
use Rattle.script_lang.proofs.SpelledItems.{along}
use Rattle.script_lang.proofs.TablesOfItems.{process_names, thread_names, procedure_names}

-- lists in which nothing stands twice

distinct_append : {X : Type 0} (same : X → X → Bool) (xs ys : List X) → are_distinct same xs ≡ true → are_distinct same ys ≡ true → list_any (λ x. list_any (same x) ys) xs ≡ false → are_distinct same (xs ++ ys) ≡ true
distinct_append same [] ys first second apart = second
distinct_append same (x ∷ xs) ys first second apart =
    let parts = and_parts (not (list_any (same x) xs)) (are_distinct same xs) first in
    let none = or_parts (list_any (same x) ys) (list_any (λ y. list_any (same y) ys) xs) apart in
    rw (list_any-append (same x) xs ys, not-true (list_any (same x) xs) parts.0, none.0, distinct_append same xs ys parts.1 second none.1) refl

-- one name more
no_name : (names : List (List ℕ)) (name : List ℕ) → has_name names name ≡ false → list_any (λ other. list_any (bytes_eq other) (name ∷ [])) names ≡ false
no_name [] name new = refl
no_name (first ∷ names) name new =
    let none = or_parts (bytes_eq first name) (has_name names name) new in
    rw (none.0, no_name names name none.1) refl

distinct_more : (names : List (List ℕ)) (name : List ℕ) → are_distinct bytes_eq names ≡ true → has_name names name ≡ false → are_distinct bytes_eq (names ++ name ∷ []) ≡ true
distinct_more names name distinct new = distinct_append bytes_eq names (name ∷ []) distinct refl (no_name names name new)

-- the procedures of a process

other_number : (m n : ℕ) → m < n → (m == n) ≡ false
other_number m n h = ne_eqb m n (λ same. omega arith)

any_procedure : (process : ℕ) (name : List ℕ) (names : List (List ℕ)) → list_any (is_same_procedure (qualified_name process name)) (map (qualified_name process) names) ≡ list_any (bytes_eq name) names
any_procedure process name [] = refl
any_procedure process name (other ∷ names) = rw (eq-eqb process process refl, any_procedure process name names) refl

distinct_procedures : (process : ℕ) (names : List (List ℕ)) → are_distinct bytes_eq names ≡ true → are_distinct is_same_procedure (map (qualified_name process) names) ≡ true
distinct_procedures process [] distinct = refl
distinct_procedures process (name ∷ names) distinct =
    let parts = and_parts (not (list_any (bytes_eq name) names)) (are_distinct bytes_eq names) distinct in
    rw (any_procedure process name names, parts.0, distinct_procedures process names parts.1) refl

-- the procedures of later processes are others

no_later : (process later : ℕ) (name : List ℕ) (items : List ScriptLine) → process < later → list_any (is_same_procedure (qualified_name process name)) (procedure_names later items) ≡ false
no_later process later name [] context = refl
no_later process later name (Process other limit ∷ items) context = no_later process (later + 1) name items (omega arith)
no_later process later name (Child other parent ∷ items) context = no_later process (later + 1) name items (omega arith)
no_later process later name (Procedure other ∷ items) context = rw (other_number process later context) (no_later process later name items context)
no_later process later name (item ∷ items) context = no_later process later name items context

all_earlier : (process : ℕ) (names : List (List ℕ)) (items : List ScriptLine) → list_any (λ x. list_any (is_same_procedure x) (procedure_names (process + 1) items)) (map (qualified_name process) names) ≡ false
all_earlier process [] items = refl
all_earlier process (name ∷ names) items = let context : process < process + 1 = omega arith in rw (no_later process (process + 1) name items context, all_earlier process names items) refl

-- no name stands twice before

record NoneTwice (context : ContextValue) : Type 0 where
  processes : are_distinct bytes_eq context.processes ≡ true
  threads : are_distinct bytes_eq context.threads ≡ true
  procedures : are_distinct bytes_eq context.procedures ≡ true

none_after_line : (context : ContextValue) (after : Option ℕ) → NoneTwice context → NoneTwice (context_at_depth context after)
none_after_line context None none = record { processes = none.processes; threads = none.threads; procedures = none.procedures }
none_after_line context (Some depth) none = record { processes = none.processes; threads = none.threads; procedures = none.procedures }

none_after : (context : ContextValue) (item : ScriptLine) → is_declared_twice context item ≡ false → NoneTwice context → NoneTwice (context_after context item)
none_after context (Budget events) once none = record { processes = none.processes; threads = none.threads; procedures = none.procedures }
none_after context (Process name limit) once none = record { processes = distinct_more context.processes name none.processes once; threads = none.threads; procedures = refl }
none_after context (Child name parent) once none = record { processes = distinct_more context.processes name none.processes once; threads = none.threads; procedures = refl }
none_after context (Spare name) once none = record { processes = none.processes; threads = distinct_more context.threads name none.threads once; procedures = none.procedures }
none_after context (Thread name) once none = record { processes = none.processes; threads = distinct_more context.threads name none.threads once; procedures = none.procedures }
none_after context (Procedure name) once none = record { processes = none.processes; threads = none.threads; procedures = distinct_more context.procedures name none.procedures once }
none_after context (Do line) once none = none_after_line (context_with_variables context line) (depth_after context.depth (kind_of line)) (record { processes = none.processes; threads = none.threads; procedures = none.procedures })
none_after context (Schedule threads) once none = record { processes = none.processes; threads = none.threads; procedures = none.procedures }

-- nor with those of these items after them

abbrev procedures_with : ContextValue → List ScriptLine → List ProcedureName
procedures_with context items = map (qualified_name (length context.processes)) context.procedures ++ procedure_names (length context.processes) items

record NoneAgain (context : ContextValue) (items : List ScriptLine) : Type 0 where
  processes : are_distinct bytes_eq (context.processes ++ process_names items) ≡ true
  threads : (process : ℕ) → are_distinct bytes_eq (context.threads ++ thread_names process items) ≡ true
  procedures : are_distinct is_same_procedure (procedures_with context items) ≡ true

none_end : (context : ContextValue) → NoneTwice context → NoneAgain context []
none_end context none =
    record {
      processes = rw (append-nil context.processes) none.processes;
      threads = λ process. rw (append-nil context.threads) none.threads;
      procedures = rw (append-nil (map (qualified_name (length context.processes)) context.procedures)) (distinct_procedures (length context.processes) context.procedures none.procedures);
    }

none_line : (context : ContextValue) (after : Option ℕ) (items : List ScriptLine) → NoneAgain (context_at_depth context after) items → NoneAgain context items
none_line context None items others = record { processes = others.processes; threads = others.threads; procedures = others.procedures }
none_line context (Some depth) items others = record { processes = others.processes; threads = others.threads; procedures = others.procedures }

none_more : (context : ContextValue) (item : ScriptLine) (items : List ScriptLine) → NoneTwice context → NoneAgain (context_after context item) items → NoneAgain context (item ∷ items)
none_more context (Budget events) items none others = record { processes = others.processes; threads = others.threads; procedures = others.procedures }
none_more context (Process name limit) items none others =
    record {
      processes = rw (← append_assoc context.processes (name ∷ []) (process_names items)) others.processes;
      threads = λ process. others.threads (process + 1);
      procedures =
          distinct_append is_same_procedure (map (qualified_name (length context.processes)) context.procedures) (procedure_names (length context.processes + 1) items)
          (distinct_procedures (length context.processes) context.procedures none.procedures) (rw (← length-append context.processes (name ∷ [])) others.procedures) (all_earlier (length context.processes) context.procedures items);
    }
none_more context (Child name parent) items none others =
    record {
      processes = rw (← append_assoc context.processes (name ∷ []) (process_names items)) others.processes;
      threads = λ process. others.threads (process + 1);
      procedures =
          distinct_append is_same_procedure (map (qualified_name (length context.processes)) context.procedures) (procedure_names (length context.processes + 1) items)
          (distinct_procedures (length context.processes) context.procedures none.procedures) (rw (← length-append context.processes (name ∷ [])) others.procedures) (all_earlier (length context.processes) context.procedures items);
    }
none_more context (Spare name) items none others =
    record { processes = others.processes; threads = λ process. rw (← append_assoc context.threads (name ∷ []) (thread_names process items)) (others.threads process); procedures = others.procedures }
none_more context (Thread name) items none others =
    record { processes = others.processes; threads = λ process. rw (← append_assoc context.threads (name ∷ []) (thread_names process items)) (others.threads process); procedures = others.procedures }
none_more context (Procedure name) items none others =
    record {
      processes = others.processes;
      threads = others.threads;
      procedures =
          let of : List ℕ → ProcedureName = qualified_name (length context.processes) in
          let moved : procedures_with (context_after context (Procedure name)) items ≡ procedures_with context (Procedure name ∷ items) =
          ap (λ names. names ++ procedure_names (length context.processes) items) (map-append of context.procedures (name ∷ [])) ∙ append_assoc (map of context.procedures) (of name ∷ []) (procedure_names (length context.processes) items) in
          ap (are_distinct is_same_procedure) (sym moved) ∙ others.procedures;
    }
none_more context (Do line) items none others =
    let same = none_line (context_with_variables context line) (depth_after context.depth (kind_of line)) items others in
    record { processes = same.processes; threads = same.threads; procedures = same.procedures }
none_more context (Schedule threads) items none others = record { processes = others.processes; threads = others.threads; procedures = others.procedures }

none_again : (tables : Tables) (context : ContextValue) (lines : List (List ℕ)) (items : List ScriptLine) → SpellsScriptLines tables context lines items → NoneTwice context → NoneAgain context items
none_again tables =
    along tables (λ context lines items. NoneTwice context → NoneAgain context items) (record {
      ends = λ context closed none. none_end context none;
      skips = λ context line lines items printable skipped others. others;
      goes_on = λ context line lines item items is others none. none_more context item items none (others (none_after context item is.may_stand.once none));
    })

-- no process, thread or procedure is declared twice by these items
pub record AreDeclaredOnce (items : List ScriptLine) : Type 0 where
  pub processes : are_distinct bytes_eq (process_names items) ≡ true
  pub threads : are_distinct bytes_eq (thread_names 0 items) ≡ true
  pub procedures : are_distinct is_same_procedure (procedure_names 0 items) ≡ true

pub declared_once : (tables : Tables) (lines : List (List ℕ)) (items : List ScriptLine) → SpellsScriptLines tables first_context lines items → AreDeclaredOnce items
declared_once tables lines items spells =
    let none = none_again tables first_context lines items spells (record { processes = refl; threads = refl; procedures = refl }) in
    record { processes = none.processes; threads = none.threads 0; procedures = none.procedures }
