-- Opening a kernel process by process and thread by thread.
use Rattle.std.proofs.Common.{◌≡◌, ℕ, ◌+◌, List, [], ◌∷◌, ◌++◌, take, drop, Option, None, Some, Bool, false, IsSome, length, arith, refl, ap, sym, ◌∙◌, subst, zero, suc, map, option_map, unwrap_or, append-nil, append_assoc}
use Rattle.std.proofs.Common.{Result, Ok, Err}
use Rattle.std.specs.Prelude.{◌≤◌, ◌<◌, All, slice_get, OnOk}
use Rattle.std.specs.List.{AllByRecursion, list_any}
use Rattle.std.proofs.lemmas.Bool.{false≢true}
use Rattle.std.proofs.lemmas.List.Elements.{All-head, All-tail}
use Rattle.dk_base.specs.declared.limits.TheConstants.{DESCRIPTORS_MAX}
use Rattle.std.specs.Result.{is_err}
use Rattle.spec_kernel.specs.Types.{Pid}
use Rattle.std.proofs.lemmas.List.{length-map, length-replicate}
use Rattle.spec_records.specs.Words.{empty_table, table_in}
use Rattle.spec_kernel.specs.Opening.{is_thread_of, no_process, with_new_process, with_processes}
use Rattle.spec_kernel.specs.Words.{State, opening, table_of, with_child, with_new_thread}
use Rattle.spec_kernel.proofs.Opening.{IsDeclaredIn, length-with_child, opening_events, opening_processes, opening_threads, threads-make_child}
use Rattle.spec_records.proofs.Lists.{at_number-map, at_number-suc, numbered_there}
use Rattle.dk_base.specs.ByNumber.{at_number}
use Rattle.script_lang.specs.Scripts.{limit_of_process}
use Rattle.script_lang.specs.Words.{ScriptValue}
use Rattle.spec_requests.specs.Types.{ScriptProcess, ScriptThread}
use Rattle.spec_requests.specs.Words.{IsNarrow, IsProcess, IsSound, IsSoundChild, IsSoundThread}
use Rattle.spec_requests.proofs.Elements.{All-at_number, at_number-within}
use Rattle.spec_scripts.specs.Words.{limit_of, with_children, with_parent, with_script_threads}

at_number-at : {X Y : Type 0} (f : X → Y) (xs : List X) (k : ℕ) (y : Y) → option_map f (at_number xs (k + 1)) ≡ Some y → option_map f (slice_get xs k) ≡ Some y
at_number-at f xs k y e =
    let more : k + 1 ≡ suc k = omega arith in sym (ap (option_map f) (ap (at_number xs) more ∙ at_number-suc xs k)) ∙ e

take-map : {X Y : Type 0} (f : X → Y) (xs : List X) (k : ℕ) (y : Y) → option_map f (slice_get xs k) ≡ Some y → map f (take (suc k) xs) ≡ map f (take k xs) ++ y ∷ []
take-map f [] k y e = cc
take-map f (x ∷ []) zero y e = let same : f x ≡ y = cc in rw same refl
take-map f (x ∷ z ∷ zs) zero y e = let same : f x ≡ y = cc in rw same refl
take-map f (x ∷ xs) (suc k) y e = ap (λ ys. f x ∷ ys) (take-map f xs k y e)

-- a kernel of these limits has made no event
pub no_event-opening : (k : State) (limits : List ℕ) → k ≡ opening limits → k.events ≡ 0
no_event-opening k limits e = ap (λ (m : State). m.events) e ∙ opening_events limits

-- a kernel of a script's limits has the script's processes
pub processes-opening :
    (k : State) (limits : List ℕ) (xs : List ScriptProcess) → k ≡ opening limits → limits ≡ map limit_of xs →
    length k.process_table.processes ≡ length xs
processes-opening k limits xs e h =
    ap (λ (m : State). length m.process_table.processes) e ∙ opening_processes limits ∙ ap length h ∙ length-map xs limit_of

-- the process of a thread of a sound script is declared
pub thread_process :
    (script : ScriptValue) (m : State) (t : ℕ) (process : Pid) → IsSound script → length m.process_table.processes ≡ length script.processes →
    option_map (λ (x : ScriptThread). x.process) (at_number script.threads t) ≡ Some process → IsDeclaredIn m process.0
thread_process script m t process sound same e = go (at_number script.threads t) refl e
  where
    go :
        (o : Option ScriptThread) → at_number script.threads t ≡ o → option_map (λ (x : ScriptThread). x.process) o ≡ Some process →
        IsDeclaredIn m process.0
    go None f h = cc
    go (Some x) f h =
        let it : x.process ≡ process = cc
        in let of : IsProcess script x.process.0 = (All-at_number (IsSoundThread script) script.threads t x sound.threads f).process
        in rw (same, ← it) of

-- one process more
pub limits_more :
    (processes : List ScriptProcess) (k : ℕ) (limit : ℕ) (limits : List ℕ) → limits ≡ map limit_of (take k processes) →
    option_map (λ (of : ScriptProcess). of.limit) (at_number processes (k + 1)) ≡ Some limit →
    limits ++ limit ∷ [] ≡ map limit_of (take (k + 1) processes)
limits_more processes k limit limits h e =
    let more : k + 1 ≡ suc k = omega arith
    in rw (h, more) (sym (take-map limit_of processes k limit (at_number-at limit_of processes k limit e)))

at_thread :
    (xs : List ScriptThread) (m : State) (k : ℕ) (process : Pid) (spare : Bool) → option_map (λ (x : ScriptThread). x.process) (slice_get xs k) ≡ Some process →
    option_map (λ (x : ScriptThread). x.spare) (slice_get xs k) ≡ Some spare →
    with_script_threads m (drop k xs) ≡ with_script_threads (with_new_thread m process.0 spare) (drop (suc k) xs)
at_thread [] m k process spare p s = cc
at_thread (x ∷ []) m zero process spare p s =
    let same_process : x.process ≡ process = cc in let same_spare : x.spare ≡ spare = cc in rw (same_process, same_spare) refl
at_thread (x ∷ y ∷ ys) m zero process spare p s =
    let same_process : x.process ≡ process = cc in let same_spare : x.spare ≡ spare = cc in rw (same_process, same_spare) refl
at_thread (x ∷ xs) m (suc k) process spare p s = at_thread xs m k process spare p s

-- one thread more
pub threads_more :
    (xs : List ScriptThread) (opening old new : State) (k : ℕ) (process : Pid) (spare : Bool) →
    with_script_threads opening xs ≡ with_script_threads old (drop k xs) →
    option_map (λ (x : ScriptThread). x.process) (at_number xs (k + 1)) ≡ Some process →
    option_map (λ (x : ScriptThread). x.spare) (at_number xs (k + 1)) ≡ Some spare → new ≡ with_new_thread old process.0 spare →
    with_script_threads opening xs ≡ with_script_threads new (drop (k + 1) xs)
threads_more xs opening old new k process spare h p s e =
    let more : k + 1 ≡ suc k = omega arith
    in let of : option_map (λ (x : ScriptThread). x.process) (slice_get xs k) ≡ Some process = at_number-at (λ (x : ScriptThread). x.process) xs k process p
    in let kind : option_map (λ (x : ScriptThread). x.spare) (slice_get xs k) ≡ Some spare = at_number-at (λ (x : ScriptThread). x.spare) xs k spare s
    in rw (e, more) (h ∙ at_thread xs old k process spare of kind)

-- a result that is no error
pub not_err : {A E : Type 0} (r : Result A E) (P : Type 0) → OnOk r P → is_err r ≡ false → P
not_err (Ok x) P h e = h
not_err (Err x) P h e = cc

-- no process of a sound script may have more descriptors than a process can
pub narrow_limits : (ps : List ScriptProcess) → All IsNarrow ps → AllByRecursion (λ n. n ≤ DESCRIPTORS_MAX) (map limit_of ps)
narrow_limits [] h = tt
narrow_limits (p ∷ ps) h = (All-head IsNarrow p ps h, narrow_limits ps (All-tail IsNarrow p ps h))

-- the tables of an opening, whose rows are as many as its limits say

tables-with_processes : (limits : List ℕ) (m : State) → (with_processes m limits).tables ≡ m.tables ++ map empty_table limits
tables-with_processes [] m = sym (append-nil m.tables)
tables-with_processes (limit ∷ limits) m =
    tables-with_processes limits (with_new_process m limit) ∙ append_assoc m.tables (empty_table limit ∷ []) (map empty_table limits)

table-limit :
    (processes : List ScriptProcess) (p : ℕ) (x : ScriptProcess) → at_number processes p ≡ Some x →
    length (table_in (map empty_table (map limit_of processes)) p) ≡ x.limit
table-limit processes p x there =
    ap (λ found. length (unwrap_or found []))
    (at_number-map empty_table (map limit_of processes) p
    ∙ ap (option_map empty_table) (at_number-map limit_of processes p ∙ ap (option_map limit_of) there))
    ∙ length-replicate x.limit None

-- what a kernel keeps while the children of a script are made
pub record OpensChildren (script : ScriptValue) (m : State) : Type 0 where
  pub events : m.events ≡ 0
  pub processes : length m.process_table.processes ≡ length script.processes
  pub tables : m.tables ≡ map empty_table (map limit_of script.processes)
  pub threads : m.process_table.threads ≡ []

pub children-begin : (script : ScriptValue) (k : State) → k ≡ opening (map limit_of script.processes) → OpensChildren script k
children-begin script k fresh =
    let limits = map limit_of script.processes
    in rw fresh (record {
      events = opening_events limits;
      processes = opening_processes limits ∙ length-map script.processes limit_of;
      tables = tables-with_processes limits no_process;
      threads = opening_threads limits;
    })

pub child-made : (script : ScriptValue) (k new : State) (child parent : ℕ) → OpensChildren script k → new ≡ with_child k child parent → OpensChildren script new
child-made script k new child parent h made =
    rw made (record {
      events = h.events;
      processes = length-with_child k child parent ∙ h.processes;
      tables = h.tables;
      threads = threads-make_child k.process_table child parent ∙ h.threads;
    })

-- a parent of a sound script is declared before its child, and may have as many descriptors
pub record CanBeChild (m : State) (child parent : ℕ) : Type 0 where
  pub order : (1 ≤ parent) × (parent < child) × (child ≤ length m.process_table.processes)
  pub limits : length (table_of m child) ≡ length (table_of m parent)
  pub no_thread : list_any (is_thread_of child) m.process_table.threads ≡ false

pub can-be-child :
    (script : ScriptValue) (m : State) (child : ℕ) (parent : Pid) → IsSound script → OpensChildren script m →
    option_map (λ (of : ScriptProcess). of.parent) (at_number script.processes child) ≡ Some (Some parent) → CanBeChild m child parent.0
can-be-child script m child parent sound h own = by_child (at_number script.processes child) refl own
  where
    by_parent :
        (x : ScriptProcess) → at_number script.processes child ≡ Some x → IsSoundChild script child x parent → (o : Option ScriptProcess) →
        at_number script.processes parent.0 ≡ o → CanBeChild m child parent.0
    by_parent x there is None e =
        let within = at_number-within script.processes child x there
        in let low : 1 ≤ parent.0 = is.first
        in let after : parent.0 < child = is.after
        in let last : child ≤ length script.processes = within.1
        in let some = numbered_there script.processes parent.0 low (omega arith)
        in absurd (false≢true (subst (λ (o : Option ScriptProcess). IsSome o) e some))
    by_parent x there is (Some y) e =
        let within = at_number-within script.processes child x there
        in let last : child ≤ length m.process_table.processes = rw h.processes within.1
        in let same : y.limit ≡ x.limit = sym (ap (λ o. unwrap_or (option_map limit_of_process o) DESCRIPTORS_MAX) e) ∙ is.limit
        in record {
          order = (is.first, is.after, last);
          limits = rw h.tables (table-limit script.processes child x there ∙ sym same ∙ sym (table-limit script.processes parent.0 y e));
          no_thread = rw h.threads refl;
        }

    by_child :
        (o : Option ScriptProcess) → at_number script.processes child ≡ o → option_map (λ (of : ScriptProcess). of.parent) o ≡ Some (Some parent) →
        CanBeChild m child parent.0
    by_child None e f = cc
    by_child (Some x) e f = let its : x.parent ≡ Some parent = cc in by_parent x e (sound.children child x parent e its) (at_number script.processes parent.0) refl

at_child :
    (xs : List ScriptProcess) (m : State) (before k : ℕ) (parent : Option Pid) → option_map (λ (x : ScriptProcess). x.parent) (slice_get xs k) ≡ Some parent →
    with_children m before (drop k xs) ≡ with_children (with_parent m (before + 1) parent) (before + 1) (drop (suc k) xs)
at_child [] m before k parent e = cc
at_child (x ∷ []) m before zero parent e = let same : x.parent ≡ parent = cc in rw same refl
at_child (x ∷ y ∷ ys) m before zero parent e = let same : x.parent ≡ parent = cc in rw same refl
at_child (x ∷ xs) m before (suc k) parent e = at_child xs m before k parent e

-- one process more
pub children_more :
    (xs : List ScriptProcess) (opening old new : State) (k : ℕ) (parent : Option Pid) → with_children opening 0 xs ≡ with_children old k (drop k xs) →
    option_map (λ (x : ScriptProcess). x.parent) (at_number xs (k + 1)) ≡ Some parent → new ≡ with_parent old (k + 1) parent →
    with_children opening 0 xs ≡ with_children new (k + 1) (drop (k + 1) xs)
children_more xs opening old new k parent h p e =
    let more : k + 1 ≡ suc k = omega arith
    in let of : option_map (λ (x : ScriptProcess). x.parent) (slice_get xs k) ≡ Some parent = at_number-at (λ (x : ScriptProcess). x.parent) xs k parent p
    in h ∙ at_child xs old k k parent of ∙ sym (ap (λ n. with_children (with_parent old (k + 1) parent) (k + 1) (drop n xs)) more) ∙ ap (λ m. with_children m (k + 1) (drop (k + 1) xs)) (sym e)

-- what a kernel has once all children of a script were made
pub events-with_children : (xs : List ScriptProcess) (m : State) (before : ℕ) → (with_children m before xs).events ≡ m.events
events-with_children [] m before = refl
events-with_children (x ∷ xs) m before = events-with_children xs (with_parent m (before + 1) x.parent) (before + 1) ∙ one x.parent
  where
    one : (parent : Option Pid) → (with_parent m (before + 1) parent).events ≡ m.events
    one None = refl
    one (Some parent) = refl

pub processes-with_children :
    (xs : List ScriptProcess) (m : State) (before : ℕ) → length (with_children m before xs).process_table.processes ≡ length m.process_table.processes
processes-with_children [] m before = refl
processes-with_children (x ∷ xs) m before = processes-with_children xs (with_parent m (before + 1) x.parent) (before + 1) ∙ one x.parent
  where
    one : (parent : Option Pid) → length (with_parent m (before + 1) parent).process_table.processes ≡ length m.process_table.processes
    one None = refl
    one (Some parent) = length-with_child m (before + 1) parent.0
