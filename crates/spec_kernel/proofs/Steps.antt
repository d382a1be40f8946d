-- What every step keeps: the numbers of processes and threads, who the threads are, and what doors were made as.
use Rattle.std.proofs.Common.{◌≡◌, ℕ, ◌+◌, Bool, true, false, if◌then◌else◌, List, [], ◌∷◌, ◌++◌, Option, None, Some, is_some, option_map, length, map, unwrap_or, refl, sym, ap, ◌∙◌, length-set}
use Rattle.std.proofs.lemmas.List.{length-map, map-append}
use Rattle.dk_base.specs.ByNumber.{at_number}
use Rattle.spec_kernel.specs.Types.{Attrs, Door, Fd, Item, Name, Obj, Param, Pass, Pid, Process, Request, Thread, ThreadState}
use Rattle.dk_base.specs.declared.object.Item.TheVariants as item
use Rattle.dk_base.specs.declared.request.Param.TheVariants as param
use Rattle.dk_base.specs.declared.request.Request.TheVariants as request
use Rattle.spec_records.specs.declared.record.ThreadState.TheVariants as is
use Rattle.spec_records.specs.Words.{CallTree, Leaving, NoticeList, ProcessTable, begin_process, begun_thread, close_row, close_table, end_owner, end_process, ended_process, first_place, forking, free_place, free_row, insert_row, insert_rows, live_process, process_end, process_in, release_row, release_rows, revocation, revoke_door, revoked_door, set_param, thread_at_state, thread_outside, with_door, with_ended, with_param, with_row, with_table, change_thread}
use Rattle.spec_kernel.specs.Acts.{ActResult}
use Rattle.spec_kernel.proofs.Moves.{Moves, act_moves}
use Rattle.spec_kernel.specs.State.{Channels, State, bound_of, now, process_of, table_of, thread_of, with_state, with_table_of}
use Rattle.spec_kernel.specs.Descriptors.{insert_object}
use Rattle.spec_kernel.specs.Doors.{create, has_room, tables_after_collect, tables_after_pass, tables_with}
use Rattle.spec_kernel.specs.Leaving.{bind_first, bindings_after_fork, fork, leave, leave_process, revoke}
use Rattle.spec_kernel.specs.Information.{door_at}
use Rattle.spec_kernel.specs.Settle.{fail_return, give_one, settle}
use Rattle.spec_kernel.specs.Telling.{tell}
use Rattle.spec_kernel.specs.Step.{act, step}
use Rattle.spec_kernel.proofs.Settling.{settle-all, with_notice_of}
use Rattle.spec_records.proofs.Lists.{length-with_at_number, same_length, same_numbered, at_number-map, at_number-extends, map-with_at_number, Extends, Extends-same, Extends-then}
use Rattle.spec_kernel.proofs.Threads.{map-begin_process, map-change_process, map-change_thread, map-left_threads, processes-change_thread, threads-end_process}
use Rattle.spec_kernel.proofs.Doors.{map-change_door, map-end_owner}

-- what of a thread, of a process and of a door never changes

pub record ThreadIdentity : Type 0 where
  pub number : ℕ
  pub made : ℕ
  pub process : Pid
  pub spare : Bool

abbrev pub thread_identity : Thread → ThreadIdentity
thread_identity x = record { number = x.number; made = x.made; process = x.process; spare = x.spare }

pub record ProcessIdentity : Type 0 where
  pub number : ℕ
  pub made : ℕ
  pub limit : ℕ
  pub parent : Option Pid

abbrev pub process_identity : Process → ProcessIdentity
process_identity x = record { number = x.number; made = x.made; limit = x.limit; parent = x.parent }

pub record DoorIdentity : Type 0 where
  pub number : ℕ
  pub owner : Pid
  pub entry : ℕ
  pub cookie : ℕ
  pub attrs : Attrs

abbrev pub door_identity : Door → DoorIdentity
door_identity d = record { number = d.number; owner = d.owner; entry = d.entry; cookie = d.cookie; attrs = d.attrs }

-- what an act and what follows it leave
pub record Keeps (m n : State) : Type 0 where
  pub processes : map process_identity n.process_table.processes ≡ map process_identity m.process_table.processes
  pub threads : map thread_identity n.process_table.threads ≡ map thread_identity m.process_table.threads
  pub bindings : length n.bindings ≡ length m.bindings
  pub tables : length n.tables ≡ length m.tables
  pub doors : Extends (map door_identity m.doors) (map door_identity n.doors)
  pub events : n.events ≡ m.events

doors_same : (xs : List Door) → Extends (map door_identity xs) (map door_identity xs)
doors_same xs = Extends-same (map door_identity xs) (map door_identity xs) refl

keeps_same : (m : State) → Keeps m m
keeps_same m =
    record { processes = refl; threads = refl; bindings = refl; tables = refl; doors = doors_same m.doors; events = refl }

keeps_then : {m n k : State} → Keeps m n → Keeps n k → Keeps m k
keeps_then h g =
    record {
      processes = g.processes ∙ h.processes;
      threads = g.threads ∙ h.threads;
      bindings = g.bindings ∙ h.bindings;
      tables = g.tables ∙ h.tables;
      doors = Extends-then h.doors g.doors;
      events = g.events ∙ h.events;
    }

-- a change of one thread, of the calls and of the notices
thread-keeps :
    (m : State) (t : ℕ) (change : Thread → Thread) (tree : CallTree) (list : NoticeList) →
    ((x : Thread) → thread_identity (change x) ≡ thread_identity x) →
    Keeps m (record m { process_table = change_thread m.process_table t change; call_tree = tree; notice_list = list })
thread-keeps m t change tree list same =
    record {
      processes = ap (map process_identity) (processes-change_thread m.process_table t change);
      threads = map-change_thread thread_identity m.process_table t change same;
      bindings = refl;
      tables = refl;
      doors = doors_same m.doors;
      events = refl;
    }

-- the same with as many tables
message-keeps :
    (m : State) (t : ℕ) (change : Thread → Thread) (tables : List (List (Option Obj))) (tree : CallTree) (list : NoticeList) →
    ((x : Thread) → thread_identity (change x) ≡ thread_identity x) → length tables ≡ length m.tables →
    Keeps m
    (record m { process_table = change_thread m.process_table t change; tables = tables; call_tree = tree; notice_list = list })
message-keeps m t change tables tree list same long =
    record {
      processes = ap (map process_identity) (processes-change_thread m.process_table t change);
      threads = map-change_thread thread_identity m.process_table t change same;
      bindings = refl;
      tables = long;
      doors = doors_same m.doors;
      events = refl;
    }

with_state-keeps : (m : State) (t : ℕ) (s : ThreadState) → Keeps m (with_state m t s)
with_state-keeps m t s = thread-keeps m t (thread_at_state s) m.call_tree m.notice_list (λ x. refl)

-- another table of a process, as long as its own
tables-with_table_of :
    (m : State) (p : ℕ) (table : List (Option Obj)) → length table ≡ length (table_of m p) →
    map length (with_table_of m p table).tables ≡ map length m.tables
tables-with_table_of m p table e =
    map-with_at_number length m.tables p table (λ y h. e ∙ ap (λ (rows : Option (List (Option Obj))). length (unwrap_or rows [])) h)

with_table_of-keeps : (m : State) (p : ℕ) (table : List (Option Obj)) → Keeps m (with_table_of m p table)
with_table_of-keeps m p table =
    record {
      processes = refl;
      threads = refl;
      bindings = refl;
      tables = length-with_at_number m.tables p table;
      doors = doors_same m.doors;
      events = refl;
    }

-- rows that are released or inserted

length-release_row : (table : List (Option Obj)) (x : Pass) → length (release_row table x) ≡ length table
length-release_row table x = go x.release
  where
    go : (b : Bool) → length (if b then close_row table x.fd.0 else table) ≡ length table
    go true = length-set table x.fd.0 None
    go false = refl

pub length-release_rows : (table : List (Option Obj)) (pass : List Pass) → length (release_rows table pass) ≡ length table
length-release_rows table [] = refl
length-release_rows table (x ∷ xs) = length-release_rows (release_row table x) xs ∙ length-release_row table x

pub length-insert_rows : (table : List (Option Obj)) (objects : List Obj) → length (insert_rows table objects) ≡ length table
length-insert_rows table [] = refl
length-insert_rows table (o ∷ os) = length-insert_rows (insert_row table o) os ∙ length-set table (free_place table) (Some o)

-- as many tables, each as long as before

same_long : (tables olds : List (List (Option Obj))) → map length tables ≡ map length olds → length tables ≡ length olds
same_long tables olds e = same_length length tables olds e

after_pass-long : (m : State) (p : ℕ) (pass : List Pass) → map length (tables_after_pass m p pass) ≡ map length m.tables
after_pass-long m p pass =
    tables-with_table_of m p (release_rows (table_of m p) pass) (length-release_rows (table_of m p) pass)

with-long : (m : State) (p : ℕ) (objects : List Obj) → map length (tables_with m p objects) ≡ map length m.tables
with-long m p objects =
    tables-with_table_of m p (insert_rows (table_of m p) objects) (length-insert_rows (table_of m p) objects)

after_collect-long : (m : State) (p : ℕ) (objects : List Obj) → map length (tables_after_collect m p objects) ≡ map length m.tables
after_collect-long m p objects = go (has_room m p objects)
  where
    go : (b : Bool) → map length (if b then tables_with m p objects else m.tables) ≡ map length m.tables
    go true = with-long m p objects
    go false = refl

-- another object, or none, at a place
with_row-keeps :
    (m : State) (p place : ℕ) (o : Option Obj) → Keeps m (with_table_of m p (with_row (table_of m p) place o))
with_row-keeps m p place o = with_table_of-keeps m p (with_row (table_of m p) place o)

insert_object-keeps : (m : State) (p : ℕ) (o : Obj) → Keeps m (insert_object m p o).state
insert_object-keeps m p o = with_row-keeps m p (free_place (table_of m p)) (Some o)

doors-push : (xs : List Door) (d : Door) → Extends (map door_identity xs) (map door_identity (xs ++ d ∷ []))
doors-push xs d = record { rest = door_identity d ∷ []; is = map-append door_identity xs (d ∷ []) }

with_door-keeps :
    (m : State) (p entry cookie : ℕ) (attrs : Attrs) → Keeps m (record m { doors = with_door m.doors p entry cookie attrs })
with_door-keeps m p entry cookie attrs =
    record { processes = refl; threads = refl; bindings = refl; tables = refl; doors = doors-push m.doors _; events = refl }

door_identity-with_param : (x : Param) (value : ℕ) (d : Door) → door_identity (with_param x value d) ≡ door_identity d
door_identity-with_param param.DataMax value d = refl
door_identity-with_param param.DataMin value d = refl
door_identity-with_param param.DescMax value d = refl

-- a parameter is none of what a door was made as
pub set_param-keeps :
    (m : State) (d : ℕ) (x : Param) (value : ℕ) → Keeps m (record m { doors = set_param m.doors d x value })
set_param-keeps m d x value =
    record {
      processes = refl;
      threads = refl;
      bindings = refl;
      tables = refl;
      doors =
          Extends-same (map door_identity m.doors) _
          (map-change_door door_identity m.doors d (with_param x value) (door_identity-with_param x value));
      events = refl;
    }

-- acts

pub create-keeps : (m : State) (p entry cookie : ℕ) (attrs : Attrs) → Keeps m (create m p entry cookie attrs).state
create-keeps m p entry cookie attrs =
    keeps_then
    (with_door-keeps m p entry cookie attrs)
    (insert_object-keeps (record m { doors = with_door m.doors p entry cookie attrs }) p _)

bindings-keeps : (m : State) (bindings : List (Option ℕ)) → length bindings ≡ length m.bindings → Keeps m (record m { bindings = bindings })
bindings-keeps m bindings e =
    record { processes = refl; threads = refl; bindings = e; tables = refl; doors = doors_same m.doors; events = refl }

names-keeps : (m : State) (names : List Name) → Keeps m (record m { names = names })
names-keeps m names =
    record { processes = refl; threads = refl; bindings = refl; tables = refl; doors = doors_same m.doors; events = refl }

channels-keeps : (m : State) (c : Channels) → Keeps m (record m { channels = c })
channels-keeps m c =
    record { processes = refl; threads = refl; bindings = refl; tables = refl; doors = doors_same m.doors; events = refl }

-- a pipe or a port is made, with its descriptors
made_channel-keeps :
    (m : State) (p : ℕ) (objects : List Obj) (c : Channels) → Keeps m (record m { tables = tables_with m p objects; channels = c })
made_channel-keeps m p objects c =
    record {
      processes = refl;
      threads = refl;
      bindings = refl;
      tables = same_long _ _ (with-long m p objects);
      doors = doors_same m.doors;
      events = refl;
    }

processes-end_process :
    (table : ProcessTable) (p : ℕ) → map process_identity (end_process table p).processes ≡ map process_identity table.processes
processes-end_process table p = go (at_number table.processes p) refl
  where
    go :
        (o : Option Process) → at_number table.processes p ≡ o →
        map process_identity (with_ended table p o).processes ≡ map process_identity table.processes
    go None e = refl
    go (Some x) e =
        map-with_at_number process_identity table.processes p (ended_process x)
        (λ y h. let k : x ≡ y = cc in ap process_identity k)

-- calls, threads and notices that leave
leave-keeps : (m : State) (who : Leaving) → Keeps m (leave m who)
leave-keeps m who =
    record {
      processes = refl;
      threads = map-left_threads thread_identity (λ v s x. refl) who (now m) m.call_tree.calls m.process_table;
      bindings = refl;
      tables = refl;
      doors = doors_same m.doors;
      events = refl;
    }

-- a process is Ended, with its descriptors and its doors
process_ended-keeps :
    (m : State) (p : ℕ) →
    Keeps m
    (record m {
      process_table = end_process m.process_table p;
      tables = with_table m.tables p (close_table (table_of m p));
      doors = end_owner m.doors p;
    })
process_ended-keeps m p =
    record {
      processes = processes-end_process m.process_table p;
      threads = ap (map thread_identity) (threads-end_process m.process_table p);
      bindings = refl;
      tables = length-with_at_number m.tables p (close_table (table_of m p));
      doors = Extends-same (map door_identity m.doors) _ (map-end_owner door_identity (λ x. refl) m.doors p);
      events = refl;
    }

pub leave_process-keeps : (m : State) (p : ℕ) → Keeps m (leave_process m p)
leave_process-keeps m p =
    keeps_then
    (leave-keeps m (process_end m.process_table m.doors p))
    (process_ended-keeps (leave m (process_end m.process_table m.doors p)) p)

-- a door is revoked, and a descriptor closed
revoked-keeps :
    (m : State) (p place d : ℕ) →
    Keeps m (record m { tables = with_table m.tables p (close_row (table_of m p) place); doors = revoke_door m.doors d })
revoked-keeps m p place d =
    record {
      processes = refl;
      threads = refl;
      bindings = refl;
      tables = length-with_at_number m.tables p (close_row (table_of m p) place);
      doors = Extends-same (map door_identity m.doors) _ (map-change_door door_identity m.doors d revoked_door (λ x. refl));
      events = refl;
    }

pub revoke-keeps : (m : State) (p : ℕ) (fd : Fd) → Keeps m (revoke m p fd).state
revoke-keeps m p fd =
    keeps_then
    (leave-keeps m (revocation (door_at m p fd)))
    (revoked-keeps (leave m (revocation (door_at m p fd))) p fd.0 (door_at m p fd))

-- the state as a child process begins with these bindings and this table
abbrev pub begun : State → ℕ → List (Option ℕ) → List (Option Obj) → State
begun m child bindings table =
    record m { process_table = begin_process m.process_table child; bindings = bindings; tables = with_table m.tables child table }

begun-keeps :
    (m : State) (child : ℕ) (bindings : List (Option ℕ)) (table : List (Option Obj)) → length bindings ≡ length m.bindings →
    Keeps m (begun m child bindings table)
begun-keeps m child bindings table e =
    record {
      processes =
          map-change_process process_identity
          (record m.process_table { threads = map (begun_thread child) m.process_table.threads })
          child live_process
          (λ x. refl);
      threads = map-begin_process thread_identity (λ x. refl) m.process_table child;
      bindings = e;
      tables = length-with_at_number m.tables child table;
      doors = doors_same m.doors;
      events = refl;
    }

-- a fork leaves the calls of others, and then a child begins
pub fork-is :
    (m : State) (t p child : ℕ) →
    (fork m t p child).state
    ≡ begun (leave m (forking m.process_table t)) child (bindings_after_fork m t child) (table_of m p)
fork-is m t p child = refl

bind_first-length : (bindings : List (Option ℕ)) (o : Option ℕ) → length (bind_first bindings o) ≡ length bindings
bind_first-length bindings None = refl
bind_first-length bindings (Some place) = length-with_at_number bindings (place + 1) _

pub bindings_after_fork-length : (m : State) (t child : ℕ) → length (bindings_after_fork m t child) ≡ length m.bindings
bindings_after_fork-length m t child = go (is_some (bound_of m t))
  where
    go :
        (b : Bool) → length (if b then bind_first m.bindings (first_place m.process_table child) else m.bindings) ≡ length m.bindings
    go true = bind_first-length m.bindings (first_place m.process_table child)
    go false = refl

pub fork-keeps : (m : State) (t p child : ℕ) → Keeps m (fork m t p child).state
fork-keeps m t p child =
    keeps_then
    (leave-keeps m (forking m.process_table t))
    (begun-keeps (leave m (forking m.process_table t)) child (bindings_after_fork m t child) (table_of m p)
    (bindings_after_fork-length m t child))

move-keeps : (m : State) (t : ℕ) (q : Option Request) (a : ActResult) → Moves m t q a → Keeps m a.state
move-keeps m t q a (Moves.nothing x _) = keeps_same m
move-keeps m t q a (Moves.rows r place o x _) = with_row-keeps m (process_of m t) place o
move-keeps m t q a (Moves.names r names _) = names-keeps m names
move-keeps m t q a (Moves.bound r o _) = bindings-keeps m _ (length-with_at_number m.bindings t o)
move-keeps m t q a (Moves.parameter fd x value f) = set_param-keeps m _ x value
move-keeps m t q a (Moves.makes entry cookie attrs f) = create-keeps m (process_of m t) entry cookie attrs
move-keeps m t q a (Moves.turns s x _ _) = with_state-keeps m t s
move-keeps m t q a (Moves.calls fd bytes pass rsize f) =
    message-keeps m t _ _ _ m.notice_list (λ x. refl) (same_long _ _ (after_pass-long m (process_of m t) pass))
move-keeps m t q a (Moves.returns bytes pass f e) = message-keeps m t _ _ _ _ (λ x. refl) (same_long _ _ (after_pass-long m (process_of m t) pass))
move-keeps m t q a (Moves.returns_unbound bytes pass f e) =
    keeps_then
    (message-keeps m t thread_outside _ a.state.call_tree a.state.notice_list (λ x. refl) (same_long _ _ (after_pass-long m (process_of m t) pass)))
    (bindings-keeps _ _ (length-with_at_number m.bindings t None))
move-keeps m t q a (Moves.enters r h e) = message-keeps m t _ _ _ m.notice_list (λ x. refl) (same_long _ _ (with-long m (process_of m t) r.objects))
move-keeps m t q a (Moves.fails r h e) = thread-keeps m t _ _ m.notice_list (λ x. refl)
move-keeps m t q a (Moves.enters_notice n h) = thread-keeps m t _ m.call_tree _ (λ x. refl)
move-keeps m t q a (Moves.collects c e) = message-keeps m t _ _ _ m.notice_list (λ x. refl) (same_long _ _ (after_collect-long m (process_of m t) _))
move-keeps m t q a (Moves.leaves r who _) = leave-keeps m who
move-keeps m t q a (Moves.revokes fd f) = revoke-keeps m (process_of m t) fd
move-keeps m t q a (Moves.passes r c x _) = channels-keeps m c
move-keeps m t q a (Moves.makes_channel r c objects x _) = made_channel-keeps m (process_of m t) objects c
move-keeps m t q a (Moves.retrieves port max nget one _) = keeps_then (with_state-keeps m t is.Running) (channels-keeps (with_state m t is.Running) _)
move-keeps m t q a (Moves.ends r p _) = leave_process-keeps m p
move-keeps m t q a (Moves.forks child f) = fork-keeps m t (process_of m t) child.0

pub act-keeps : (m : State) (t : ℕ) (r : Option Request) → Keeps m (act m t r).state
act-keeps m t r = move-keeps m t r (act m t r) (act_moves m t r)

-- each table is as long as before, where that of a child that begins is as long as its parent's

abbrev pub ForksFit : State → ℕ → Option Request → Type 0
ForksFit m t q =
    (child : Pid) → q ≡ Some (request.Fork child) → length (table_of m (process_of m t)) ≡ length (table_of m child.0)

move-limits :
    (m : State) (t : ℕ) (q : Option Request) (a : ActResult) → Moves m t q a → ForksFit m t q →
    map length a.state.tables ≡ map length m.tables
move-limits m t q a (Moves.rows r place o x _) h =
    tables-with_table_of m (process_of m t) (with_row (table_of m (process_of m t)) place o)
    (length-set (table_of m (process_of m t)) place o)
move-limits m t q a (Moves.makes entry cookie attrs f) h =
    tables-with_table_of m (process_of m t) _ (length-set (table_of m (process_of m t)) (free_place (table_of m (process_of m t))) _)
move-limits m t q a (Moves.calls fd bytes pass rsize f) h = after_pass-long m (process_of m t) pass
move-limits m t q a (Moves.returns bytes pass f e) h = after_pass-long m (process_of m t) pass
move-limits m t q a (Moves.returns_unbound bytes pass f e) h = after_pass-long m (process_of m t) pass
move-limits m t q a (Moves.enters r g e) h = with-long m (process_of m t) r.objects
move-limits m t q a (Moves.collects c e) h = after_collect-long m (process_of m t) _
move-limits m t q a (Moves.revokes fd f) h =
    tables-with_table_of m (process_of m t) (close_row (table_of m (process_of m t)) fd.0)
    (length-set (table_of m (process_of m t)) fd.0 None)
move-limits m t q a (Moves.makes_channel r c objects x _) h = with-long m (process_of m t) objects
move-limits m t q a (Moves.ends r p _) h =
    tables-with_table_of m p (close_table (table_of m p)) (length-map (table_of m p) free_row)
move-limits m t q a (Moves.forks child f) h =
    tables-with_table_of m child.0 (table_of m (process_of m t)) (h child refl)
move-limits m t q a _ h = refl

pub act-limits :
    (m : State) (t : ℕ) (q : Option Request) → ForksFit m t q → map length (act m t q).state.tables ≡ map length m.tables
act-limits m t q h = move-limits m t q (act m t q) (act_moves m t q) h

-- settling

fail_return-keeps : (m : State) (t : ℕ) → Keeps m (fail_return m t)
fail_return-keeps m t =
    keeps_then
    (with_state-keeps m t is.FailedReturn)
    (bindings-keeps (with_state m t is.FailedReturn) _ (length-with_at_number m.bindings t None))

give_one-keeps : (m : State) (i : Item) (u : ℕ) → Keeps m (give_one m i u)
give_one-keeps m (item.Call c) u = thread-keeps m u _ _ m.notice_list (λ x. refl)
give_one-keeps m (item.Notice n) u = thread-keeps m u _ m.call_tree _ (λ x. refl)

with_notice_of-keeps : (m : State) (d : ℕ) → Keeps m (with_notice_of m d)
with_notice_of-keeps m d =
    record { processes = refl; threads = refl; bindings = refl; tables = refl; doors = doors_same m.doors; events = refl }

pub settle-keeps : (before m : State) → Keeps m (settle before m)
settle-keeps before m =
    settle-all (Keeps m) before
    (record {
      makes = λ n d e h. keeps_then h (with_notice_of-keeps n d);
      fails = λ n t l h. keeps_then h (fail_return-keeps n t);
      gives = λ n w x p h. keeps_then h (give_one-keeps n w.item x.thread.0);
      starts = λ n t d h. keeps_then h (with_state-keeps n t is.Running);
    }) (λ n h. keeps_then h (channels-keeps n (tell n).channels))
    m
    (keeps_same m)

-- steps

settled-keeps : (m : State) (t : ℕ) (r : Option Request) → Keeps m (settle m (act m t r).state)
settled-keeps m t r = keeps_then (act-keeps m t r) (settle-keeps m (act m t r).state)

pub events-step : (m : State) (t : ℕ) (r : Option Request) → (step m t r).state.events ≡ m.events + 1
unfolding step
events-step m t r = ap (λ n. n + 1) (settled-keeps m t r).events

-- one event leaves what an act leaves, and is counted
pub record StepKeeps (m n : State) : Type 0 where
  pub processes : map process_identity n.process_table.processes ≡ map process_identity m.process_table.processes
  pub threads : map thread_identity n.process_table.threads ≡ map thread_identity m.process_table.threads
  pub bindings : length n.bindings ≡ length m.bindings
  pub tables : length n.tables ≡ length m.tables
  pub doors : Extends (map door_identity m.doors) (map door_identity n.doors)
  pub events : n.events ≡ m.events + 1

pub step-keeps : (m : State) (t : ℕ) (r : Option Request) → StepKeeps m (step m t r).state
unfolding step
step-keeps m t r =
    record {
      processes = (settled-keeps m t r).processes;
      threads = (settled-keeps m t r).threads;
      bindings = (settled-keeps m t r).bindings;
      tables = (settled-keeps m t r).tables;
      doors = (settled-keeps m t r).doors;
      events = ap (λ n. n + 1) (settled-keeps m t r).events;
    }

pub threads-step :
    (m : State) (t : ℕ) (r : Option Request) → length (step m t r).state.process_table.threads ≡ length m.process_table.threads
threads-step m t r =
    same_length thread_identity (step m t r).state.process_table.threads m.process_table.threads (step-keeps m t r).threads

pub processes-step :
    (m : State) (t : ℕ) (r : Option Request) → length (step m t r).state.process_table.processes ≡ length m.process_table.processes
processes-step m t r =
    same_length process_identity (step m t r).state.process_table.processes m.process_table.processes (step-keeps m t r).processes

pub tables-step : (m : State) (t : ℕ) (r : Option Request) → length (step m t r).state.tables ≡ length m.tables
tables-step m t r = (step-keeps m t r).tables

pub doors-step :
    (m : State) (t : ℕ) (r : Option Request) → Extends (map door_identity m.doors) (map door_identity (step m t r).state.doors)
doors-step m t r = (step-keeps m t r).doors

-- single processes, threads and doors

pub thread_identity-step :
    (m : State) (t u : ℕ) (r : Option Request) →
    option_map thread_identity (thread_of (step m t r).state u) ≡ option_map thread_identity (thread_of m u)
thread_identity-step m t u r =
    same_numbered thread_identity (step m t r).state.process_table.threads m.process_table.threads u (step-keeps m t r).threads

pub process_of-step : (m : State) (t u : ℕ) (r : Option Request) → process_of (step m t r).state u ≡ process_of m u
process_of-step m t u r =
    from_identity (thread_of (step m t r).state u)
    ∙ ap process_in_identity (thread_identity-step m t u r)
    ∙ sym (from_identity (thread_of m u))
  where
    process_in_identity : Option ThreadIdentity → ℕ
    process_in_identity None = 0
    process_in_identity (Some x) = x.process.0

    from_identity : (o : Option Thread) → process_in o ≡ process_in_identity (option_map thread_identity o)
    from_identity None = refl
    from_identity (Some x) = refl

-- a door is still there, with what it was made as
pub record IsSameDoor (x : Door) (later : Option Door) : Type 0 where
  pub door : Door
  pub there : later ≡ Some door
  pub identity : door_identity door ≡ door_identity x

same_door : (x : Door) (o : Option Door) → option_map door_identity o ≡ Some (door_identity x) → IsSameDoor x o
same_door x None e = cc
same_door x (Some y) e = record { door = y; there = refl; identity = cc }

-- doors of a list that the doors of another extend
pub door-extends :
    (xs ys : List Door) (d : ℕ) (x : Door) → Extends (map door_identity xs) (map door_identity ys) → at_number xs d ≡ Some x →
    IsSameDoor x (at_number ys d)
door-extends xs ys d x h e =
    same_door x (at_number ys d)
    (sym (at_number-map door_identity ys d)
    ∙ at_number-extends h d (door_identity x) (at_number-map door_identity xs d ∙ ap (option_map door_identity) e))
