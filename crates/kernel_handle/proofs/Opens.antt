-- Opening a kernel process by process and thread by thread.
use Rattle.std.proofs.Common.{◌≡◌, ◌≤◌, ◌<◌, ℕ, ◌+◌, List, [], ◌∷◌, ◌++◌, Option, None, Some, length, map, refl, sym, ap, ◌∙◌, subst, option_map, unwrap_or, append-nil, append_assoc, arith, get_or, take, drop, length-take, suc}
use Rattle.std.proofs.lemmas.List.{length-map, length-replicate, take-append-drop}
use Rattle.std.proofs.lemmas.Option.{slice_get-get_or}
use Rattle.dk_base.specs.ByNumber.{at_number}
use Rattle.spec_records.specs.Words.{empty_table, table_in}
use Rattle.spec_records.proofs.Lists.{at_number-map, at_number-suc, numbered_front, numbered_within}
use Rattle.spec_kernel.specs.Types.{Pid}
use Rattle.spec_kernel.specs.Opening.{no_process, with_new_process, with_processes}
use Rattle.spec_kernel.specs.Words.{State, opening, table_of, with_child, with_new_thread}
use Rattle.spec_kernel.proofs.Opening.{length-with_child, opening_events, opening_processes, opening_threads, threads-make_child}
use Rattle.spec_histories.specs.declared.opening.OpeningProcess.{OpeningProcess}
use Rattle.spec_histories.specs.declared.opening.OpeningThread.{OpeningThread}
use Rattle.spec_histories.specs.Openings.{limit_of, with_children, with_parent, with_threads}

-- the tables of an opening, whose rows are as many as its limits say

tables-with_processes : (limits : List ℕ) (m : State) → (with_processes m limits).tables ≡ m.tables ++ map empty_table limits
tables-with_processes [] m = sym (append-nil m.tables)
tables-with_processes (limit ∷ limits) m =
    tables-with_processes limits (with_new_process m limit) ∙ append_assoc m.tables (empty_table limit ∷ []) (map empty_table limits)

table-limit :
    (processes : List OpeningProcess) (p limit : ℕ) → option_map limit_of (at_number processes p) ≡ Some limit →
    length (table_in (map empty_table (map limit_of processes)) p) ≡ limit
table-limit processes p limit there =
    ap (λ found. length (unwrap_or found []))
    (at_number-map empty_table (map limit_of processes) p
    ∙ ap (option_map empty_table) (at_number-map limit_of processes p ∙ there))
    ∙ length-replicate limit None

-- what a kernel keeps while the children are made
pub record OpensChildren (processes : List OpeningProcess) (m : State) : Type 0 where
  pub events : m.events ≡ 0
  pub count : length m.process_table.processes ≡ length processes
  pub tables : m.tables ≡ map empty_table (map limit_of processes)
  pub threads : m.process_table.threads ≡ []

pub children-begin : (processes : List OpeningProcess) (k : State) → k ≡ opening (map limit_of processes) → OpensChildren processes k
children-begin processes k fresh =
    let limits = map limit_of processes
    in rw fresh (record {
      events = opening_events limits;
      count = opening_processes limits ∙ length-map processes limit_of;
      tables = tables-with_processes limits no_process;
      threads = opening_threads limits;
    })

pub child-made : (processes : List OpeningProcess) (k new : State) (child parent : ℕ) → OpensChildren processes k → new ≡ with_child k child parent → OpensChildren processes new
child-made processes k new child parent h made =
    rw made (record {
      events = h.events;
      count = length-with_child k child parent ∙ h.count;
      tables = h.tables;
      threads = threads-make_child k.process_table child parent ∙ h.threads;
    })

-- two processes with the same limit have tables of the same length
pub same_limits :
    (processes : List OpeningProcess) (m : State) (p q limit : ℕ) → OpensChildren processes m → option_map limit_of (at_number processes p) ≡ Some limit →
    option_map limit_of (at_number processes q) ≡ Some limit → length (table_of m p) ≡ length (table_of m q)
same_limits processes m p q limit h e f = rw h.tables (table-limit processes p limit e ∙ sym (table-limit processes q limit f))

-- a process of this limit among the first is one of all
pub numbered-before :
    (processes : List OpeningProcess) (place p limit : ℕ) → option_map limit_of (at_number (take place processes) p) ≡ Some limit →
    (1 ≤ p) × (p ≤ place) × (option_map limit_of (at_number processes p) ≡ Some limit)
numbered-before processes place p limit e = go (at_number (take place processes) p) refl e
  where
    go :
        (o : Option OpeningProcess) → at_number (take place processes) p ≡ o → option_map limit_of o ≡ Some limit →
        (1 ≤ p) × (p ≤ place) × (option_map limit_of (at_number processes p) ≡ Some limit)
    go None f h = cc
    go (Some x) f h =
        let within = numbered_within (take place processes) p x f
        in let front : at_number (take place processes ++ drop place processes) p ≡ Some x = numbered_front (take place processes) (drop place processes) p x f
        in let all : at_number processes p ≡ Some x = subst (λ (ps : List OpeningProcess). at_number ps p ≡ Some x) (take-append-drop place processes) front
        in (within.0, omega (arith, within.1, length-take place processes), ap (option_map limit_of) all ∙ h)

pub limit-at :
    (processes : List OpeningProcess) (place : ℕ) (d : OpeningProcess) → place < length processes →
    option_map limit_of (at_number processes (place + 1)) ≡ Some (get_or processes place d).limit
limit-at processes place d within =
    let more : place + 1 ≡ suc place = omega arith
    in ap (λ n. option_map limit_of (at_number processes n)) more
    ∙ ap (option_map limit_of) (at_number-suc processes place ∙ slice_get-get_or processes place d within)

-- what a kernel has once all children were made
pub opens-with_children : (processes xs : List OpeningProcess) (m : State) (before : ℕ) → OpensChildren processes m → OpensChildren processes (with_children m before xs)
opens-with_children processes [] m before h = h
opens-with_children processes (x ∷ xs) m before h = opens-with_children processes xs (with_parent m (before + 1) x.parent) (before + 1) (one x.parent)
  where
    one : (parent : Option Pid) → OpensChildren processes (with_parent m (before + 1) parent)
    one None = h
    one (Some parent) = child-made processes m (with_child m (before + 1) parent.0) (before + 1) parent.0 h refl

-- all children of a kernel that has just these processes are made
pub children-made :
    (processes : List OpeningProcess) (limits : List ℕ) (k new : State) → k ≡ opening limits → limits ≡ map limit_of processes →
    new ≡ with_children k 0 processes → OpensChildren processes new
children-made processes limits k new opens are made =
    subst (OpensChildren processes) (sym made) (opens-with_children processes processes k 0 (children-begin processes k (opens ∙ ap opening are)))

-- threads are no events
pub events-with_threads : (m : State) (threads : List OpeningThread) → (with_threads m threads).events ≡ m.events
events-with_threads m [] = refl
events-with_threads m (t ∷ threads) = events-with_threads (with_new_thread m t.process.0 t.spare) threads
