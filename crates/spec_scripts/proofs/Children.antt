-- The state in which a script begins, before its threads: its processes, and whose children they are.
use Rattle.std.proofs.Common.{◌≡◌, ◌<◌, ◌≤◌, ℕ, ◌+◌, ◌==◌, List, [], ◌∷◌, ◌++◌, Option, Some, None, IsSome, Bool, true, false, if◌then◌else◌, length, map, arith, refl, sym, ap, subst, ◌∙◌, zero, suc, append_assoc, append-nil, slice_get, option_map, unwrap_or}
use Rattle.std.proofs.lemmas.Bool.{false≢true}
use Rattle.std.proofs.lemmas.Bool.Decides.{nat_tests}
use Rattle.std.proofs.lemmas.List.{length-map, length-replicate}
use Rattle.dk_base.specs.ByNumber.{at_number}
use Rattle.spec_records.specs.Words.{child_of, empty_table, parent_in}
use Rattle.spec_records.proofs.Lists.{at_number-map, at_number-suc, numbered_there, numbered_within}
use Rattle.spec_kernel.specs.Types.{Obj, Pid, Process}
use Rattle.spec_kernel.specs.Words.{IsOpening, State, opening, parent_of, table_of, with_child}
use Rattle.spec_kernel.specs.Opening.{is_thread_of, no_process, with_new_process, with_processes}
use Rattle.spec_kernel.specs.Opening.IsOpening.{child, processes}
use Rattle.spec_kernel.proofs.Opening.{length-with_child, opening_processes, opening_threads, process_at-with_child, threads-make_child}
use Rattle.std.specs.List.{list_any}
use Rattle.spec_requests.specs.Types.{ScriptProcess}
use Rattle.script_lang.specs.Words.{ScriptValue as Script, limit_at}
use Rattle.spec_requests.specs.Words.{IsSound, IsSoundChild}
use Rattle.spec_scripts.specs.ScriptRuns.{limit_of, with_children, with_parent}

-- a script's processes, without its threads
abbrev pub state_with_children : Script → State
state_with_children script = with_children (opening (map limit_of script.processes)) 0 script.processes

-- tables

tables-with_processes : (limits : List ℕ) (m : State) → (with_processes m limits).tables ≡ m.tables ++ map empty_table limits
tables-with_processes [] m = sym (append-nil m.tables)
tables-with_processes (limit ∷ limits) m =
    tables-with_processes limits (with_new_process m limit) ∙ append_assoc m.tables (empty_table limit ∷ []) (map empty_table limits)

-- as long as the limit of the process
opening_limit :
    (ps : List ScriptProcess) (p : ℕ) (x : ScriptProcess) → at_number ps p ≡ Some x →
    length (table_of (opening (map limit_of ps)) p) ≡ x.limit
opening_limit ps p x there =
    ap (λ (ts : List (List (Option Obj))). length (unwrap_or (at_number ts p) [])) (tables-with_processes (map limit_of ps) no_process)
    ∙ ap (λ (o : Option (List (Option Obj))). length (unwrap_or o [])) (at_number-map empty_table (map limit_of ps) p)
    ∙ ap (λ (o : Option ℕ). length (unwrap_or (option_map empty_table o) [])) (at_number-map limit_of ps p)
    ∙ ap (λ (o : Option ScriptProcess). length (unwrap_or (option_map empty_table (option_map limit_of o)) [])) there
    ∙ length-replicate x.limit None

limit_there : (ps : List ScriptProcess) (p : Pid) (y : ScriptProcess) → at_number ps p.0 ≡ Some y → limit_at ps p ≡ y.limit
limit_there ps p y there = rw there refl

-- what is kept while processes are made children
pub record IsFresh (script : Script) (m : State) : Type 0 where
  pub opens : IsOpening m
  pub tables : m.tables ≡ (opening (map limit_of script.processes)).tables
  pub threads : m.process_table.threads ≡ []
  pub count : length m.process_table.processes ≡ length script.processes

-- a child has as many descriptors as its parent
same_limits :
    (script : Script) (m : State) (n : ℕ) (x : ScriptProcess) (parent : Pid) → m.tables ≡ (opening (map limit_of script.processes)).tables →
    at_number script.processes n ≡ Some x → IsSoundChild script n x parent → length (table_of m n) ≡ length (table_of m parent.0)
same_limits script m n x parent tables there sound =
    by_parent (at_number script.processes parent.0) refl (numbered_there script.processes parent.0 sound.first (omega (arith, sound.after, (numbered_within script.processes n x there).1)))
  where
    own : length (table_of m n) ≡ x.limit
    own = ap (λ (ts : List (List (Option Obj))). length (unwrap_or (at_number ts n) [])) tables ∙ opening_limit script.processes n x there

    by_parent : (o : Option ScriptProcess) → at_number script.processes parent.0 ≡ o → IsSome o → length (table_of m n) ≡ length (table_of m parent.0)
    by_parent None e some = absurd (false≢true some)
    by_parent (Some y) e some =
        let other : length (table_of m parent.0) ≡ y.limit =
        ap (λ (ts : List (List (Option Obj))). length (unwrap_or (at_number ts parent.0) [])) tables ∙ opening_limit script.processes parent.0 y e
        in own ∙ sym sound.limit ∙ limit_there script.processes parent y e ∙ sym other

IsFresh-with_parent :
    (script : Script) (m : State) (n : ℕ) (x : ScriptProcess) (o : Option Pid) → IsSound script → at_number script.processes n ≡ Some x →
    x.parent ≡ o → IsFresh script m → IsFresh script (with_parent m n o)
IsFresh-with_parent script m n x None sound there e h = h
IsFresh-with_parent script m n x (Some parent) sound there e h =
    let is_child : IsSoundChild script n x parent = sound.children n x parent there e
    in let within : n ≤ length script.processes = (numbered_within script.processes n x there).1
    in let count : length m.process_table.processes ≡ length script.processes = h.count
    in record {
      opens =
          child n parent.0 is_child.first is_child.after (omega arith) (same_limits script m n x parent h.tables there is_child)
          (ap (list_any (is_thread_of n)) h.threads)
          h.opens;
      tables = h.tables;
      threads = threads-make_child m.process_table n parent.0 ∙ h.threads;
      count = length-with_child m n parent.0 ∙ count;
    }

-- these processes stand in the script, where so many stand before them
abbrev StandFrom : Script → ℕ → List ScriptProcess → Type 0
StandFrom script before xs = (k : ℕ) (x : ScriptProcess) → slice_get xs k ≡ Some x → at_number script.processes (before + 1 + k) ≡ Some x

first_stands : (script : Script) (before : ℕ) (x : ScriptProcess) (xs : List ScriptProcess) → StandFrom script before (x ∷ xs) → at_number script.processes (before + 1) ≡ Some x
first_stands script before x xs h = let same : before + 1 + 0 ≡ before + 1 = omega arith in subst (λ n. at_number script.processes n ≡ Some x) same (h 0 x refl)

others_stand : (script : Script) (before : ℕ) (x : ScriptProcess) (xs : List ScriptProcess) → StandFrom script before (x ∷ xs) → StandFrom script (before + 1) xs
others_stand script before x xs h k y e =
    let same : before + 1 + suc k ≡ before + 1 + 1 + k = omega arith in subst (λ n. at_number script.processes n ≡ Some y) same (h (suc k) y e)

all_stand : (script : Script) → StandFrom script 0 script.processes
all_stand script k x e =
    let same : 0 + 1 + k ≡ suc k = omega arith
    in subst (λ n. at_number script.processes n ≡ Some x) (sym same) (at_number-suc script.processes k ∙ e)

IsFresh-with_children :
    (script : Script) (xs : List ScriptProcess) (before : ℕ) (m : State) → IsSound script → StandFrom script before xs → IsFresh script m →
    IsFresh script (with_children m before xs)
IsFresh-with_children script [] before m sound stand h = h
IsFresh-with_children script (x ∷ xs) before m sound stand h =
    IsFresh-with_children script xs (before + 1) (with_parent m (before + 1) x.parent) sound (others_stand script before x xs stand)
    (IsFresh-with_parent script m (before + 1) x x.parent sound (first_stands script before x xs stand) refl h)

pub IsFresh-state_with_children : (script : Script) → IsSound script → IsFresh script (state_with_children script)
IsFresh-state_with_children script sound =
    IsFresh-with_children script script.processes 0 (opening (map limit_of script.processes)) sound (all_stand script)
    (record {
      opens = processes (map limit_of script.processes);
      tables = refl;
      threads = opening_threads (map limit_of script.processes);
      count = opening_processes (map limit_of script.processes) ∙ length-map script.processes limit_of;
    })

-- no event

events-with_parent : (m : State) (n : ℕ) (o : Option Pid) → (with_parent m n o).events ≡ m.events
events-with_parent m n None = refl
events-with_parent m n (Some parent) = refl

pub events-with_children : (xs : List ScriptProcess) (before : ℕ) (m : State) → (with_children m before xs).events ≡ m.events
events-with_children [] before m = refl
events-with_children (x ∷ xs) before m =
    events-with_children xs (before + 1) (with_parent m (before + 1) x.parent) ∙ events-with_parent m (before + 1) x.parent

-- parents

parent_of-with_child : (m : State) (n p q : ℕ) → parent_of (with_child m n p) q ≡ parent_in (if q == n then option_map (child_of p) (at_number m.process_table.processes n) else at_number m.process_table.processes q)
parent_of-with_child m n p q = ap parent_in (process_at-with_child m n p q)

-- another process has the parent that it had
other_parent : (m : State) (n : ℕ) (o : Option Pid) (q : ℕ) → q < n → parent_of (with_parent m n o) q ≡ parent_of m q
other_parent m n None q below = refl
other_parent m n (Some parent) q below = parent_of-with_child m n parent.0 q ∙ by_test (q == n) refl
  where
    by_test : (b : Bool) → (q == n) ≡ b → parent_in (if b then option_map (child_of parent.0) (at_number m.process_table.processes n) else at_number m.process_table.processes q) ≡ parent_of m q
    by_test true e = let same : q ≡ n = grind (arith, nat_tests) in absurd (omega arith)
    by_test false e = refl

own_parent : (m : State) (n : ℕ) (parent : Pid) → IsSome (at_number m.process_table.processes n) → parent_of (with_parent m n (Some parent)) n ≡ Some parent
own_parent m n parent there = parent_of-with_child m n parent.0 n ∙ by_test (n == n) refl (at_number m.process_table.processes n) there
  where
    by_test : (b : Bool) → (n == n) ≡ b → (o : Option Process) → IsSome o → parent_in (if b then option_map (child_of parent.0) o else o) ≡ Some parent
    by_test false e o some = absurd (grind (arith, nat_tests))
    by_test true e None some = absurd (false≢true some)
    by_test true e (Some x) some = refl

processes-with_parent : (m : State) (n : ℕ) (o : Option Pid) → length (with_parent m n o).process_table.processes ≡ length m.process_table.processes
processes-with_parent m n None = refl
processes-with_parent m n (Some parent) = length-with_child m n parent.0

-- those that stand before these keep theirs
earlier_parent : (xs : List ScriptProcess) (before : ℕ) (m : State) (q : ℕ) → q ≤ before → parent_of (with_children m before xs) q ≡ parent_of m q
earlier_parent [] before m q low = refl
earlier_parent (x ∷ xs) before m q low =
    earlier_parent xs (before + 1) (with_parent m (before + 1) x.parent) q (omega (arith, low))
    ∙ other_parent m (before + 1) x.parent q (omega (arith, low))

given_parent :
    (xs : List ScriptProcess) (before : ℕ) (m : State) (k : ℕ) (x : ScriptProcess) (parent : Pid) →
    before + length xs ≤ length m.process_table.processes → slice_get xs k ≡ Some x → x.parent ≡ Some parent →
    parent_of (with_children m before xs) (before + 1 + k) ≡ Some parent
given_parent [] before m k x parent few there e = cc
given_parent (y ∷ ys) before m zero x parent few there e =
    let same : y ≡ x = cc
    in let own : y.parent ≡ Some parent = ap (λ (z : ScriptProcess). z.parent) same ∙ e
    in let at : before + 1 + 0 ≡ before + 1 = omega arith
    in subst (λ n. parent_of (with_children (with_parent m (before + 1) y.parent) (before + 1) ys) n ≡ Some parent) (sym at)
    (earlier_parent ys (before + 1) (with_parent m (before + 1) y.parent) (before + 1) (omega arith)
    ∙ ap (λ (o : Option Pid). parent_of (with_parent m (before + 1) o) (before + 1)) own
    ∙ own_parent m (before + 1) parent (numbered_there m.process_table.processes (before + 1) (omega arith) (omega (arith, few))))
given_parent (y ∷ ys) before m (suc k) x parent few there e =
    let at : before + 1 + suc k ≡ before + 1 + 1 + k = omega arith
    in let count : length (with_parent m (before + 1) y.parent).process_table.processes ≡ length m.process_table.processes = processes-with_parent m (before + 1) y.parent
    in let rest : parent_of (with_children (with_parent m (before + 1) y.parent) (before + 1) ys) (before + 1 + 1 + k) ≡ Some parent =
    given_parent ys (before + 1) (with_parent m (before + 1) y.parent) k x parent (omega (arith, few, count)) there e
    in subst (λ n. parent_of (with_children (with_parent m (before + 1) y.parent) (before + 1) ys) n ≡ Some parent) (sym at) rest

-- each child of a script has its parent
pub parents-state_with_children :
    (script : Script) (n : ℕ) (x : ScriptProcess) (parent : Pid) → at_number script.processes n ≡ Some x → x.parent ≡ Some parent →
    parent_of (state_with_children script) n ≡ Some parent
parents-state_with_children script zero x parent there e = cc
parents-state_with_children script (suc k) x parent there e =
    let count : length (opening (map limit_of script.processes)).process_table.processes ≡ length script.processes =
    opening_processes (map limit_of script.processes) ∙ length-map script.processes limit_of
    in let here : slice_get script.processes k ≡ Some x = sym (at_number-suc script.processes k) ∙ there
    in let at : 0 + 1 + k ≡ suc k = omega arith
    in subst (λ n. parent_of (state_with_children script) n ≡ Some parent) at
    (given_parent script.processes 0 (opening (map limit_of script.processes)) k x parent (omega arith) here e)
