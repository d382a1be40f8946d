-- Each act keeps what holds of pipes, ports and references, and so does what follows it.
use Rattle.std.proofs.Common.{◌∙◌, ◌≡◌, ℕ, ◌+◌, ◌≤◌, List, [], ◌∷◌, ◌++◌, Option, Some, None, Bool, true, false, if◌then◌else◌, not, is_none, filter, length, map, refl, sym, ap, subst, arith, lit≤, is_some}
use Rattle.std.specs.Prelude.{All}
use Rattle.std.proofs.lemmas.List.{length-append, length-map}
use Rattle.std.proofs.lemmas.List.Elements.{All-cons, All-filter, All-nil, All-push}
use Rattle.dk_base.specs.declared.error.Errno.TheVariants.{EAGAIN, EBADF, EBADFD, EBUSY, EINVAL, EMFILE, ENOENT}
use Rattle.dk_base.specs.declared.object.Item.TheVariants as item
use Rattle.dk_base.specs.declared.object.Obj.TheVariants as obj
use Rattle.spec_records.specs.declared.association.Association.{Association}
use Rattle.spec_records.specs.declared.record.CallStage.TheVariants as stage
use Rattle.spec_records.specs.declared.record.ThreadState.TheVariants as is
use Rattle.spec_records.specs.Words.{Leaving, Pipe, Port, Test, all_fired, associate_tests, at_stage, change_first, create_timer_tests, door_attached, end_owner, first_refusal, forking, free_place, get_tests, getn_tests, has_all_timers, has_key, has_lost_its_row, has_other_path, has_path, idle_thread, is_client_call_of, is_given_as, is_queued_as, is_to_collect_as, is_to_fire, lowest_free, names_its_object, new_door, new_pipe, new_port, objects_passed, process_end, refused_where, release_rows, return_call, revocation, thread_at_state, thread_in_invocation, thread_outside, tid, with_door, with_row, with_table, without_arguments_at}
use Rattle.spec_records.proofs.Lists.{Extends}
use Rattle.spec_kernel.specs.Types.{Answer, Attrs, Call, Door, Fd, Item, Name, Obj, Pass, PathId, Request, Thread, ThreadState}
use Rattle.spec_kernel.specs.Words.{ActResult, Channels, MayTurn, State, act, associations_in, create, door_at, door_named, end_lost, end_timers, fail_return, find_call, fire, fork, give_one, has_room, is_door, is_live_process, is_port, key_at, leave, leave_process, lost_associations, lost_timers, name_of, now, object_at, objects_collected_in, port, port_at, port_named, port_tests, process_of, ready_at, revoke, settle, settle_pools, step, table_of, tables_after_collect, tables_with, tell, timer_of, timers_in, watched, with_state}
use Rattle.spec_kernel.proofs.Moves.{IsMaking, IsNaming, IsPassing, IsRow, IsTurn, Moves, act_moves}
use Rattle.spec_kernel.proofs.Refusals.{not_held}
use Rattle.spec_kernel.proofs.Settling.{channels-settle_pools, events-settle, pipes-settle, settle_pools-all}
use Rattle.spec_kernel.proofs.Steps.{act-keeps, create-keeps, door_identity, leave_process-keeps, revoke-keeps, set_param-keeps}
use Rattle.spec_kernel.proofs.Threads.{threads-begin_process, threads-end_process}
use Rattle.law_channels.specs.Channels.{AreChannels, AreMadeIn, ArePipes, ArePorts, IsAmong, IsMadeObject, Made, ReferToMade, WaitsAtMade, made_in}
use Rattle.law_channels.proofs.Bounds.{alert-ports, all_long, all_sent, fired-ports, length-change_at_number, make-pipes, make-ports, read-pipes, send-ports, take-ports, withdrawn-ports, write-pipes}
use Rattle.law_channels.specs.Associations.{AreAssociations}
use Rattle.law_channels.specs.Timers.{AreTimers}
use Rattle.law_channels.proofs.Associations.{alert_same, all_sent_same, associate_one, dissociate_one, end_some, fire_some, port_more, send_same, take_some}
use Rattle.law_channels.proofs.Queues.{length-post_fired, length-withdraw_events}
use Rattle.law_channels.proofs.Elements.{All-change_first, All-find}
use Rattle.law_channels.proofs.Few.{MakesFew, move_few}
use Rattle.law_channels.proofs.Timed.{TimedPorts, same_timers, timed-alert, timed-all_sent, timed-fired, timed-made, timed-send, timed-take, timed-withdraw_events}
use Rattle.law_channels.proofs.Timers.{HoldChannels, advance_holds, advance_long, create_holds, delete_holds, end_holds, length-withdraw_timers, length-without_queued, set_holds}
use Rattle.law_channels.proofs.References.{HoldsOfAll, IsMore, another_row, another_table, begun_waits, emptied_call, left_calls-made, left_waits, none_in, none_left, one_in, one_thread, passed, refer_to_more, released, several_rows, staged_call}

-- what holds between an act and what follows it too
pub record Fits (m : State) : Type 0 where
  pub pipes : ArePipes m.channels.pipes
  pub ports : ArePorts m.channels.ports
  pub associations : AreAssociations m.channels.ports m.channels.associations
  pub timers : AreTimers m.channels.ports m.channels.timers
  pub refers : ReferToMade (made_in m) m.tables m.names m.call_tree.calls m.process_table.threads

-- what is there stays, and more doors may come
more_doors : (m : State) (doors : List Door) → Extends (map door_identity m.doors) (map door_identity doors) → IsMore (made_in m) (made_in (record m { doors = doors }))
more_doors m doors e =
    record {
      doors =
          omega (
            arith,
            length-map m.doors door_identity,
            length-map doors door_identity,
            ap length e.is,
            length-append (map door_identity m.doors) e.rest,
          );
      ports = omega arith;
      pipes = omega arith;
    }

-- other channels, of which there are no fewer
more_channels : (m : State) (c : Channels) → length m.channels.ports ≤ length c.ports → length m.channels.pipes ≤ length c.pipes → IsMore (made_in m) (made_in (record m { channels = c }))
more_channels m c ports pipes = record { doors = omega arith; ports = ports; pipes = pipes }

-- changes of parts

module _ (m : State) (h : Fits m) where
  abbrev made : Made
  made = made_in m

  abbrev own : Obj → Type 0
  own = IsMadeObject (made_in m)

  with_tables : (tables : List (List (Option Obj))) → HoldsOfAll own tables → ReferToMade made tables m.names m.call_tree.calls m.process_table.threads
  with_tables tables k = record { rows = k; names = h.refers.names; calls = h.refers.calls; waits = h.refers.waits }

  row : (p place : ℕ) (r : Option Obj) → ((o : Obj) → r ≡ Some o → own o) → HoldsOfAll own (with_table m.tables p (with_row (table_of m p) place r))
  row p place r here = another_table own m.tables p _ (another_row own (table_of m p) place r here (h.refers.rows p)) h.refers.rows

  rows : (p : ℕ) (objects : List Obj) → All own objects → HoldsOfAll own (tables_with m p objects)
  rows p objects all = another_table own m.tables p _ (several_rows own (table_of m p) objects all (h.refers.rows p)) h.refers.rows

  releases : (p : ℕ) (pass : List Pass) → HoldsOfAll own (with_table m.tables p (release_rows (table_of m p) pass))
  releases p pass = another_table own m.tables p _ (released own (table_of m p) pass (h.refers.rows p)) h.refers.rows

  goes_along : (p : ℕ) (pass : List Pass) → All own (objects_passed (table_of m p) pass)
  goes_along p pass = passed own (table_of m p) pass (h.refers.rows p)

  -- a thread turns to another state
  turned : (t : ℕ) (s : ThreadState) → WaitsAtMade made s → Fits (with_state m t s)
  turned t s k =
      record {
        pipes = h.pipes;
        ports = h.ports;
        associations = h.associations;
        timers = h.timers;
        refers =
            record {
              rows = h.refers.rows;
              names = h.refers.names;
              calls = h.refers.calls;
              waits = one_thread made m.process_table t (thread_at_state s) (λ x w. k) h.refers.waits;
            };
      }

  -- what descriptors name that were tested

  door_is : (p : ℕ) (fd : Fd) → not (is_door (object_at m p fd)) ≡ false → IsAmong (length m.doors) (door_named (object_at m p fd))
  door_is p fd e = go (object_at m p fd) refl e
    where
      go : (o : Option Obj) → object_at m p fd ≡ o → not (is_door o) ≡ false → IsAmong (length m.doors) (door_named o)
      go (Some (obj.Door d)) f g = h.refers.rows p fd (obj.Door d) f
      go None f g = absurd (cc g)
      go (Some (obj.Port n)) f g = absurd (cc g)
      go (Some (obj.PipeIn n)) f g = absurd (cc g)
      go (Some (obj.PipeOut n)) f g = absurd (cc g)

  port_is : (p : ℕ) (fd : Fd) → not (is_port (object_at m p fd)) ≡ false → IsAmong (length m.channels.ports) (port_at m p fd)
  port_is p fd e = go (object_at m p fd) refl e
    where
      go : (o : Option Obj) → object_at m p fd ≡ o → not (is_port o) ≡ false → IsAmong (length m.channels.ports) (port_named o)
      go (Some (obj.Port n)) f g = h.refers.rows p fd (obj.Port n) f
      go None f g = absurd (cc g)
      go (Some (obj.Door d)) f g = absurd (cc g)
      go (Some (obj.PipeIn n)) f g = absurd (cc g)
      go (Some (obj.PipeOut n)) f g = absurd (cc g)

  port_asked :
      (p : ℕ) (fd : Fd) (others : List Test) → first_refusal (port_tests (object_at m p fd) ++ others) ≡ None →
      IsAmong (length m.channels.ports) (port_at m p fd)
  port_asked p fd others f =
      port_is p fd
      (not_held (refused_where (is_none (object_at m p fd)) EBADF ∷ []) (refused_where (not (is_port (object_at m p fd))) EBADFD) others f)

  name_is : (path : PathId) → is_none (name_of m path) ≡ false → IsAmong (length m.doors) (door_attached (name_of m path))
  name_is path e = go (name_of m path) refl e
    where
      go : (o : Option Name) → name_of m path ≡ o → is_none o ≡ false → IsAmong (length m.doors) (door_attached o)
      go None f g = absurd (cc g)
      go (Some n) f g = All-find (λ (x : Name). IsAmong (length m.doors) x.door) (has_path path) m.names n h.refers.names f

  -- calls

  one_call : (test : Call → Bool) (change : Call → Call) → ((r : Call) → AreMadeIn made r → AreMadeIn made (change r)) →
      All (AreMadeIn made) (change_first test change m.call_tree.calls)
  one_call test change keeps = All-change_first (AreMadeIn made) test change keeps m.call_tree.calls h.refers.calls

  brought : (c : ℕ) (o : Option Call) → find_call m (is_to_collect_as c) ≡ o → All own (objects_collected_in o)
  brought c None e = All-nil own
  brought c (Some r) e = (All-find (AreMadeIn made) (is_to_collect_as c) m.call_tree.calls r h.refers.calls e).results

  collected : (p c : ℕ) → HoldsOfAll own (tables_after_collect m p (objects_collected_in (find_call m (is_to_collect_as c))))
  collected p c = go (objects_collected_in (find_call m (is_to_collect_as c))) (brought c (find_call m (is_to_collect_as c)) refl) (has_room m p (objects_collected_in (find_call m (is_to_collect_as c))))
    where
      go : (os : List Obj) → All own os → (b : Bool) → HoldsOfAll own (if b then tables_with m p os else m.tables)
      go os all true = rows p os all
      go os all false = h.refers.rows

  -- leaving
  left : (who : Leaving) → Fits (leave m who)
  left who =
      record {
        pipes = h.pipes;
        ports = h.ports;
        associations = h.associations;
        timers = h.timers;
        refers =
            record {
              rows = h.refers.rows;
              names = h.refers.names;
              calls = left_calls-made made who m.call_tree.calls h.refers.calls;
              waits = left_waits made who (now m) m.call_tree.calls m.process_table.threads h.refers.waits;
            };
      }

-- doors become others, of which there are as many or more
redoored : (m : State) (doors : List Door) → Extends (map door_identity m.doors) (map door_identity doors) → Fits m → Fits (record m { doors = doors })
redoored m doors e h =
    record {
      pipes = h.pipes;
      ports = h.ports;
      associations = h.associations;
      timers = h.timers;
      refers = refer_to_more (made_in m) (made_in (record m { doors = doors })) (more_doors m doors e) h.refers;
    }

-- and so do channels
rechanneled :
    (m : State) (c : Channels) → length c.ports ≡ length m.channels.ports → length c.pipes ≡ length m.channels.pipes → ArePipes c.pipes → ArePorts c.ports →
    AreAssociations c.ports c.associations → AreTimers c.ports c.timers → Fits m → Fits (record m { channels = c })
rechanneled m c long wide pipes ports associations timers h =
    record {
      pipes = pipes;
      ports = ports;
      associations = associations;
      timers = timers;
      refers =
          refer_to_more (made_in m) (made_in (record m { channels = c }))
          (more_channels m c (omega (arith, long)) (omega (arith, wide))) h.refers;
    }

-- where timers are not what changes
other_ports :
    (m : State) (others : List Port) → length others ≡ length m.channels.ports →
    (TimedPorts m.channels.timers.timers m.channels.ports → TimedPorts m.channels.timers.timers others) → Fits m → AreTimers others m.channels.timers
other_ports m others long timed h = same_timers m.channels.ports others m.channels.timers (omega (arith, long)) timed h.timers

-- ports, associations and timers together

ticks : (m : State) → Fits m → HoldChannels m.channels
ticks m h = record { ports = h.ports; associations = h.associations; timers = h.timers }

ticking :
    (m : State) (c : Channels) → length c.ports ≡ length m.channels.ports → length c.pipes ≡ length m.channels.pipes → ArePipes c.pipes →
    HoldChannels c → Fits m → Fits (record m { channels = c })
ticking m c long wide pipes k h = rechanneled m c long wide pipes k.ports k.associations k.timers h

-- another table of a process
retabled : (m : State) (tables : List (List (Option Obj))) → HoldsOfAll (IsMadeObject (made_in m)) tables → Fits m → Fits (record m { tables = tables })
retabled m tables k h = record { pipes = h.pipes; ports = h.ports; associations = h.associations; timers = h.timers; refers = with_tables m h tables k }

create_fits :
    (m : State) (p entry cookie : ℕ) (attrs : Attrs) → Fits m → Fits (create m p entry cookie attrs).state
create_fits m p entry cookie attrs h =
    retabled n _
    (row n k p (free_place (table_of m p)) (Some (obj.Door (length m.doors + 1)))
    (one_in (IsMadeObject (made_in n)) (obj.Door (length m.doors + 1)) (omega arith, omega (arith, length-append m.doors (new_door (length m.doors + 1) p entry cookie attrs ∷ [])))))
    k
  where
    n : State
    n = record m { doors = with_door m.doors p entry cookie attrs }

    k : Fits n
    k = redoored m (with_door m.doors p entry cookie attrs) (create-keeps m p entry cookie attrs).doors h

leave_process_fits : (m : State) (p : ℕ) → Fits m → Fits (leave_process m p)
leave_process_fits m p h =
    record {
      pipes = h.pipes;
      ports = h.ports;
      associations = h.associations;
      timers = h.timers;
      refers =
          refer_to_more (made_in m) (made_in (leave_process m p)) (more_doors m (end_owner m.doors p) (leave_process-keeps m p).doors)
          (record {
            rows = another_table (IsMadeObject (made_in m)) m.tables p _ (none_left (IsMadeObject (made_in m)) (table_of m p)) h.refers.rows;
            names = h.refers.names;
            calls = l.refers.calls;
            waits =
                subst (λ xs. All (λ (x : Thread). WaitsAtMade (made_in m) x.state) xs)
                (sym (threads-end_process (leave m (process_end m.process_table m.doors p)).process_table p)) l.refers.waits;
          });
    }
  where
    l : Fits (leave m (process_end m.process_table m.doors p))
    l = left m h (process_end m.process_table m.doors p)

revoke_fits : (m : State) (p : ℕ) (fd : Fd) → Fits m → Fits (revoke m p fd).state
revoke_fits m p fd h =
    record {
      pipes = h.pipes;
      ports = h.ports;
      associations = h.associations;
      timers = h.timers;
      refers =
          refer_to_more (made_in m) (made_in (revoke m p fd).state) (more_doors m (revoke m p fd).state.doors (revoke-keeps m p fd).doors)
          (record {
            rows = row m h p fd.0 None (none_in (IsMadeObject (made_in m)));
            names = h.refers.names;
            calls = l.refers.calls;
            waits = l.refers.waits;
          });
    }
  where
    l : Fits (leave m (revocation (door_at m p fd)))
    l = left m h (revocation (door_at m p fd))

-- the child has the rows of its parent
fork_fits : (m : State) (t p child : ℕ) → Fits m → Fits (fork m t p child).state
fork_fits m t p child h =
    record {
      pipes = h.pipes;
      ports = h.ports;
      associations = h.associations;
      timers = h.timers;
      refers =
          record {
            rows = another_table (IsMadeObject (made_in m)) m.tables child (table_of m p) (h.refers.rows p) h.refers.rows;
            names = h.refers.names;
            calls = l.refers.calls;
            waits =
                subst (λ xs. All (λ (x : Thread). WaitsAtMade (made_in m) x.state) xs)
                (sym (threads-begin_process (leave m (forking m.process_table t)).process_table child))
                (begun_waits (made_in m) child (leave m (forking m.process_table t)).process_table.threads l.refers.waits);
          };
    }
  where
    l : Fits (leave m (forking m.process_table t))
    l = left m h (forking m.process_table t)

-- acts

module _ (m : State) (t : ℕ) (h : Fits m) where
  abbrev process : ℕ
  process = process_of m t

  row_fits : (r : Request) (place : ℕ) (o : Option Obj) (a : Answer) → IsRow m t r place o a → (x : Obj) → o ≡ Some x → IsMadeObject (made_in m) x
  row_fits r place o a (IsRow.closes fd f) x e = cc
  row_fits r place o a (IsRow.copies fd f) x e = h.refers.rows process fd x e
  row_fits r place o a (IsRow.opens path f) x e =
      one_in (IsMadeObject (made_in m)) (obj.Door (door_attached (name_of m path)))
      (name_is m h path (not_held [] (refused_where (is_none (name_of m path)) ENOENT) (refused_where (is_none (lowest_free (table_of m process))) EMFILE ∷ []) f)) x e

  naming_fits : (r : Request) (names : List Name) → IsNaming m t r names → All (λ (n : Name). IsAmong (length m.doors) n.door) names
  naming_fits r names (IsNaming.attaches fd path f) =
      All-push (λ (n : Name). IsAmong (length m.doors) n.door) m.names (record { path = path; door = door_named (object_at m process fd) }) h.refers.names
      (door_is m h process fd
      (not_held (refused_where (is_none (object_at m process fd)) EBADF ∷ []) (refused_where (not (is_door (object_at m process fd))) EINVAL)
      (refused_where (is_some (name_of m path)) EBUSY ∷ []) f))
  naming_fits r names (IsNaming.detaches path f) =
      All-filter (has_other_path path) (λ (n : Name). IsAmong (length m.doors) n.door) m.names h.refers.names

  turn_fits : (q : Option Request) (s : ThreadState) (a : Answer) → MayTurn m t q → IsTurn m t q s a → WaitsAtMade (made_in m) s
  turn_fits q s a may (IsTurn.waits_for_one fd wait f n) =
      (port_asked m h process fd (get_tests wait (port m (port_at m process fd))) f, lit≤ tt)
  turn_fits q s a may (IsTurn.waits_for_many fd max nget wait f z n) =
      (port_asked m h process fd (getn_tests wait max nget (port m (port_at m process fd))) f, may.fit)
  turn_fits q s a may (IsTurn.awaits path f) = tt
  turn_fits q s a may _ = tt

  passing_fits : (r : Request) (c : Channels) (a : Answer) → MayTurn m t (Some r) → IsPassing m t r c a → Fits (record m { channels = c })
  passing_fits r c a may (IsPassing.writes fd bytes f) =
      rechanneled m c refl (length-change_at_number m.channels.pipes _ _) (write-pipes m.channels.pipes _ h.pipes bytes) h.ports h.associations h.timers h
  passing_fits r c a may (IsPassing.reads fd max f) =
      rechanneled m c refl (length-change_at_number m.channels.pipes _ _) (read-pipes m.channels.pipes _ h.pipes max) h.ports h.associations h.timers h
  passing_fits r c a may (IsPassing.sends fd events user f) =
      rechanneled m c (length-change_at_number m.channels.ports _ _) refl h.pipes
      (send-ports m.channels.ports (port_at m process fd) h.ports events user (not_held (port_tests (object_at m process fd)) _ [] f))
      (send_same m.channels.ports m.channels.associations h.associations (port_at m process fd) events user)
      (other_ports m c.ports (length-change_at_number m.channels.ports _ _) (timed-send m.channels.timers.timers m.channels.ports _ events user) h) h
  passing_fits r c a may (IsPassing.sends_each fds events user) =
      rechanneled m c (all_long m.channels.ports (map (object_at m process) fds) events user) refl h.pipes
      (all_sent m.channels.ports (map (object_at m process) fds) events user h.ports)
      (all_sent_same m.channels.ports m.channels.associations (map (object_at m process) fds) events user h.associations)
      (other_ports m c.ports (all_long m.channels.ports (map (object_at m process) fds) events user)
      (timed-all_sent m.channels.timers.timers m.channels.ports (map (object_at m process) fds) events user) h) h
  passing_fits r c a may (IsPassing.alerts fd mode events user f) =
      rechanneled m c (length-change_at_number m.channels.ports _ _) refl h.pipes (alert-ports m.channels.ports _ h.ports events user)
      (alert_same m.channels.ports m.channels.associations h.associations (port_at m process fd) events user)
      (other_ports m c.ports (length-change_at_number m.channels.ports _ _) (timed-alert m.channels.timers.timers m.channels.ports _ events user) h) h
  passing_fits r c a may (IsPassing.gets fd wait f g) =
      rechanneled m c (length-change_at_number m.channels.ports _ _) refl h.pipes (take-ports m.channels.ports _ h.ports 1)
      (take_some m.channels.ports m.channels.associations h.associations (port_at m process fd) 1)
      (other_ports m c.ports (length-change_at_number m.channels.ports _ _) (timed-take m.channels.timers.timers m.channels.ports _ 1) h) h
  passing_fits r c a may (IsPassing.gets_many fd max nget wait f z g) =
      rechanneled m c (length-change_at_number m.channels.ports _ _) refl h.pipes (take-ports m.channels.ports _ h.ports max)
      (take_some m.channels.ports m.channels.associations h.associations (port_at m process fd) max)
      (other_ports m c.ports (length-change_at_number m.channels.ports _ _) (timed-take m.channels.timers.timers m.channels.ports _ max) h) h
  passing_fits r c a may (IsPassing.associates port object events user f) =
      rechanneled m c (length-withdraw_events m.channels.ports (ended port object)) refl h.pipes (withdrawn-ports m.channels.ports (ended port object) h.ports)
      (associate_one m.channels h.associations (key_at m process port object) (watched (object_at m process object)) events user
      (port_asked m h process port (associate_tests (object_at m process object)) f))
      (other_ports m c.ports (length-withdraw_events m.channels.ports (ended port object))
      (timed-withdraw_events m.channels.timers.timers m.channels.ports (ended port object)) h) h
    where
      ended : Fd → Fd → List Association
      ended q o = filter (has_key (key_at m process q o)) (associations_in m)
  passing_fits r c a may (IsPassing.dissociates port object f) =
      rechanneled m c (length-withdraw_events m.channels.ports (ended port object)) refl h.pipes (withdrawn-ports m.channels.ports (ended port object) h.ports)
      (dissociate_one m.channels h.associations (key_at m process port object))
      (other_ports m c.ports (length-withdraw_events m.channels.ports (ended port object))
      (timed-withdraw_events m.channels.timers.timers m.channels.ports (ended port object)) h) h
    where
      ended : Fd → Fd → List Association
      ended q o = filter (has_key (key_at m process q o)) (associations_in m)
  passing_fits r c a may (IsPassing.creates_timer port user f) = ticking m c refl refl h.pipes k h
    where
      k : HoldChannels c
      k =
          create_holds m.channels (ticks m h) process (port_at m process port) user
          (not_held (port_tests (object_at m process port)) (refused_where (has_all_timers (timers_in m) process) EAGAIN) [] f)
          (port_asked m h process port (create_timer_tests (timers_in m) process) f)
  passing_fits r c a may (IsPassing.sets_timer id first interval f) =
      ticking m c (length-without_queued m.channels.ports (timer_of m.channels process id)) refl h.pipes
      (set_holds m.channels (ticks m h) process id first interval
      (not_held [] (refused_where (is_none (timer_of m.channels process id)) EINVAL) [] f)) h
  passing_fits r c a may (IsPassing.deletes_timer id f) =
      ticking m c (length-without_queued m.channels.ports (timer_of m.channels process id)) refl h.pipes
      (delete_holds m.channels (ticks m h) process id (not_held [] (refused_where (is_none (timer_of m.channels process id)) EINVAL) [] f)) h
  passing_fits r c a may (IsPassing.advances by) =
      ticking m c (advance_long m.channels (ticks m h) by) refl h.pipes (advance_holds m.channels (ticks m h) by may.fit.1 may.fit.2) h

  -- a pipe or a port that is made is among those that were
  made_fits : (r : Request) (c : Channels) (objects : List Obj) (a : Answer) → IsMaking m t r c objects a → Fits (record m { tables = tables_with m process objects; channels = c })
  made_fits r c objects a (IsMaking.makes_pipe f) = retabled n (tables_with m process objects) (rows n k process objects both) k
    where
      n : State
      n = record m { channels = c }

      long : length c.pipes ≡ length m.channels.pipes + 1
      long = length-append m.channels.pipes (new_pipe (length m.channels.pipes + 1) ∷ [])

      k : Fits n
      k =
          record {
            pipes = make-pipes m.channels.pipes h.pipes;
            ports = h.ports;
            associations = h.associations;
            timers = h.timers;
            refers = refer_to_more (made_in m) (made_in n) (more_channels m c (omega arith) (omega (arith, long))) h.refers;
          }

      both : All (IsMadeObject (made_in n)) objects
      both =
          All-cons (IsMadeObject (made_in n)) (obj.PipeIn (length m.channels.pipes + 1)) (obj.PipeOut (length m.channels.pipes + 1) ∷ []) (omega arith, omega (arith, long))
          (All-cons (IsMadeObject (made_in n)) (obj.PipeOut (length m.channels.pipes + 1)) [] (omega arith, omega (arith, long)) (All-nil (IsMadeObject (made_in n))))
  made_fits r c objects a (IsMaking.makes_port f) = retabled n (tables_with m process objects) (rows n k process objects one) k
    where
      n : State
      n = record m { channels = c }

      long : length c.ports ≡ length m.channels.ports + 1
      long = length-append m.channels.ports (new_port (length m.channels.ports + 1) ∷ [])

      k : Fits n
      k =
          record {
            pipes = h.pipes;
            ports = make-ports m.channels.ports h.ports;
            associations = port_more m.channels.ports m.channels.associations h.associations;
            timers =
                same_timers m.channels.ports c.ports m.channels.timers (omega (arith, long)) (timed-made m.channels.timers.timers m.channels.ports) h.timers;
            refers = refer_to_more (made_in m) (made_in n) (more_channels m c (omega (arith, long)) (omega arith)) h.refers;
          }

      one : All (IsMadeObject (made_in n)) objects
      one =
          All-cons (IsMadeObject (made_in n)) (obj.Port (length m.channels.ports + 1)) [] (omega arith, omega (arith, long))
          (All-nil (IsMadeObject (made_in n)))

  returned : (bytes : List ℕ) (pass : List Pass) → All (AreMadeIn (made_in m)) (return_call m.call_tree t bytes (objects_passed (table_of m process) pass)).calls
  returned bytes pass =
      one_call m h (is_client_call_of t) (without_arguments_at (stage.Returned bytes (objects_passed (table_of m process) pass)))
      (emptied_call (made_in m) (stage.Returned bytes (objects_passed (table_of m process) pass)) (goes_along m h process pass))

  move_fits : (q : Option Request) (a : ActResult) → MayTurn m t q → Moves m t q a → Fits a.state
  move_fits q a may (Moves.rows r place o x e) = retabled m _ (row m h process place o (row_fits r place o x e)) h
  move_fits q a may (Moves.names r names e) =
      record {
        pipes = h.pipes;
        ports = h.ports;
        associations = h.associations;
        timers = h.timers;
        refers = record { rows = h.refers.rows; names = naming_fits r names e; calls = h.refers.calls; waits = h.refers.waits };
      }
  move_fits q a may (Moves.parameter fd x value f) = redoored m _ (set_param-keeps m _ x value).doors h
  move_fits q a may (Moves.makes entry cookie attrs f) = create_fits m process entry cookie attrs h
  move_fits q a may (Moves.turns s x w e) = turned m h t s (turn_fits q s x may e)
  move_fits q a may (Moves.calls fd bytes pass rsize f) =
      record {
        pipes = h.pipes;
        ports = h.ports;
        associations = h.associations;
        timers = h.timers;
        refers =
            record {
              rows = releases m h process pass;
              names = h.refers.names;
              calls =
                  All-push (AreMadeIn (made_in m)) m.call_tree.calls _ h.refers.calls
                  (record { objects = goes_along m h process pass; results = All-nil (IsMadeObject (made_in m)) });
              waits = one_thread (made_in m) m.process_table t (thread_at_state (is.Calling (m.call_tree.made + 1))) (λ x w. tt) h.refers.waits;
            };
      }
  move_fits q a may (Moves.returns bytes pass f e) =
      record {
        pipes = h.pipes;
        ports = h.ports;
        associations = h.associations;
        timers = h.timers;
        refers =
            record {
              rows = releases m h process pass;
              names = h.refers.names;
              calls = returned bytes pass;
              waits = one_thread (made_in m) m.process_table t (idle_thread (now m)) (λ x w. tt) h.refers.waits;
            };
      }
  move_fits q a may (Moves.returns_unbound bytes pass f e) =
      record {
        pipes = h.pipes;
        ports = h.ports;
        associations = h.associations;
        timers = h.timers;
        refers =
            record {
              rows = releases m h process pass;
              names = h.refers.names;
              calls = returned bytes pass;
              waits = one_thread (made_in m) m.process_table t thread_outside (λ x w. w) h.refers.waits;
            };
      }
  move_fits q a may (Moves.enters r e room) =
      record {
        pipes = h.pipes;
        ports = h.ports;
        associations = h.associations;
        timers = h.timers;
        refers =
            record {
              rows = rows m h process r.objects (All-find (AreMadeIn (made_in m)) (is_given_as r.number t) m.call_tree.calls r h.refers.calls e.found).objects;
              names = h.refers.names;
              calls =
                  one_call m h (is_given_as r.number t) (without_arguments_at (stage.Entered (tid t)))
                  (emptied_call (made_in m) (stage.Entered (tid t)) (All-nil (IsMadeObject (made_in m))));
              waits = one_thread (made_in m) m.process_table t (thread_in_invocation (item.Call r.number)) (λ x w. tt) h.refers.waits;
            };
      }
  move_fits q a may (Moves.fails r e full) =
      record {
        pipes = h.pipes;
        ports = h.ports;
        associations = h.associations;
        timers = h.timers;
        refers =
            record {
              rows = h.refers.rows;
              names = h.refers.names;
              calls =
                  one_call m h (is_given_as r.number t) (without_arguments_at (stage.Ended EMFILE))
                  (emptied_call (made_in m) (stage.Ended EMFILE) (All-nil (IsMadeObject (made_in m))));
              waits = one_thread (made_in m) m.process_table t (idle_thread (now m)) (λ x w. tt) h.refers.waits;
            };
      }
  move_fits q a may (Moves.enters_notice n e) =
      record {
        pipes = h.pipes;
        ports = h.ports;
        associations = h.associations;
        timers = h.timers;
        refers =
            record {
              rows = h.refers.rows;
              names = h.refers.names;
              calls = h.refers.calls;
              waits = one_thread (made_in m) m.process_table t (thread_in_invocation (item.Notice n.number)) (λ x w. tt) h.refers.waits;
            };
      }
  move_fits q a may (Moves.collects c e) =
      record {
        pipes = h.pipes;
        ports = h.ports;
        associations = h.associations;
        timers = h.timers;
        refers =
            record {
              rows = collected m h process c;
              names = h.refers.names;
              calls =
                  one_call m h (is_to_collect_as c) (without_arguments_at (stage.Answered (now m)))
                  (emptied_call (made_in m) (stage.Answered (now m)) (All-nil (IsMadeObject (made_in m))));
              waits = one_thread (made_in m) m.process_table t (thread_at_state is.Running) (λ x w. tt) h.refers.waits;
            };
      }
  move_fits q a may (Moves.leaves r who e) = left m h who
  move_fits q a may (Moves.revokes fd f) = revoke_fits m process fd h
  move_fits q a may (Moves.ends r p e) = leave_process_fits m p h
  move_fits q a may (Moves.forks child f) = fork_fits m t process child.0 h
  move_fits q a may (Moves.passes r c x e) = passing_fits r c x may e
  move_fits q a may (Moves.makes_channel r c objects x e) = made_fits r c objects x e
  move_fits q a may (Moves.retrieves port max nget one e) =
      rechanneled (with_state m t is.Running) _ (length-change_at_number m.channels.ports port _) refl h.pipes (take-ports m.channels.ports port h.ports max)
      (take_some m.channels.ports m.channels.associations h.associations port max)
      (other_ports m _ (length-change_at_number m.channels.ports port _) (timed-take m.channels.timers.timers m.channels.ports port max) h)
      (turned m h t is.Running tt)
  move_fits q a may (Moves.bound r o e) = record { pipes = h.pipes; ports = h.ports; associations = h.associations; timers = h.timers; refers = h.refers }
  move_fits q a may (Moves.nothing x e) = h

pub act_fits : (m : State) (t : ℕ) (q : Option Request) → Fits m → MayTurn m t q → Fits (act m t q).state
act_fits m t q h may = move_fits m t h q (act m t q) may (act_moves m t q)

-- what follows an act

give_fits : (m : State) (i : Item) (u : ℕ) → Fits m → Fits (give_one m i u)
give_fits m (item.Call c) u h =
    record {
      pipes = h.pipes;
      ports = h.ports;
      associations = h.associations;
      timers = h.timers;
      refers =
          record {
            rows = h.refers.rows;
            names = h.refers.names;
            calls =
                one_call m h (is_queued_as c) (at_stage (stage.Given (tid u)))
                (staged_call (made_in m) (stage.Given (tid u)) (All-nil (IsMadeObject (made_in m))));
            waits = one_thread (made_in m) m.process_table u (thread_at_state (is.Given (item.Call c))) (λ x w. tt) h.refers.waits;
          };
    }
give_fits m (item.Notice n) u h =
    record {
      pipes = h.pipes;
      ports = h.ports;
      associations = h.associations;
      timers = h.timers;
      refers =
          record {
            rows = h.refers.rows;
            names = h.refers.names;
            calls = h.refers.calls;
            waits = one_thread (made_in m) m.process_table u (thread_at_state (is.Given (item.Notice n))) (λ x w. tt) h.refers.waits;
          };
    }

fail_fits : (m : State) (t : ℕ) → Fits m → Fits (fail_return m t)
fail_fits m t h =
    let k : Fits (with_state m t is.FailedReturn) = turned m h t is.FailedReturn tt in
    record { pipes = k.pipes; ports = k.ports; associations = k.associations; timers = k.timers; refers = k.refers }

-- ports are told
end_lost_fits : (m : State) → Fits m → Fits (end_lost m)
end_lost_fits m h =
    rechanneled m (end_lost m).channels (length-withdraw_events m.channels.ports (lost_associations m)) refl h.pipes
    (withdrawn-ports m.channels.ports (lost_associations m) h.ports)
    (end_some m.channels.ports m.channels.associations h.associations (names_its_object m.tables) (has_lost_its_row m.tables) (λ a. refl))
    (other_ports m (end_lost m).channels.ports (length-withdraw_events m.channels.ports (lost_associations m))
    (timed-withdraw_events m.channels.timers.timers m.channels.ports (lost_associations m)) h)
    h

end_timers_fits : (m : State) → Fits m → Fits (end_timers m)
end_timers_fits m h =
    ticking m (end_timers m).channels (length-withdraw_timers m.channels.ports (lost_timers m)) refl h.pipes
    (end_holds m.channels (ticks m h) (is_live_process m)) h

fire_fits : (m : State) → Fits m → Fits (fire m)
fire_fits m h =
    rechanneled m (fire m).channels (length-post_fired m.channels.ports (all_fired (ready_at m) (associations_in m))) refl h.pipes
    (fired-ports m.channels.ports (ready_at m) (filter (is_to_fire (ready_at m)) (associations_in m)) h.ports)
    (fire_some m.channels.ports m.channels.associations h.associations (ready_at m))
    (other_ports m (fire m).channels.ports (length-post_fired m.channels.ports (all_fired (ready_at m) (associations_in m)))
    (timed-fired m.channels.timers.timers (ready_at m) m.channels.ports (filter (is_to_fire (ready_at m)) (associations_in m))) h)
    h

tell_fits : (m : State) → Fits m → Fits (tell m)
tell_fits m h = fire_fits (end_timers (end_lost m)) (end_timers_fits (end_lost m) (end_lost_fits m h))

pools_fit : (before m : State) → Fits m → Fits (settle_pools before m)
pools_fit before m h =
    settle_pools-all Fits before
    (record {
      makes = λ n d due k. record { pipes = k.pipes; ports = k.ports; associations = k.associations; timers = k.timers; refers = k.refers };
      fails = λ n t lost k. fail_fits n t k;
      gives = λ n w x p k. give_fits n w.item x.thread.0 k;
      starts = λ n t d k. turned n k t is.Running tt;
    })
    m h

-- before timers end and associations fire
pub unfired_fits : (before m : State) → Fits m → Fits (end_lost (settle_pools before m))
unfired_fits before m h = end_lost_fits (settle_pools before m) (pools_fit before m h)

-- before associations fire
pub ended_fits : (before m : State) → Fits m → Fits (end_timers (end_lost (settle_pools before m)))
ended_fits before m h = end_timers_fits (end_lost (settle_pools before m)) (unfired_fits before m h)

settle_fits : (before m : State) → Fits m → Fits (settle before m)
settle_fits before m h = tell_fits (settle_pools before m) (pools_fit before m h)

-- what follows an act makes no port
pub settled_long : (before m : State) → length (settle before m).channels.ports ≡ length m.channels.ports
settled_long before m =
    length-post_fired (end_timers (end_lost (settle_pools before m))).channels.ports
    (all_fired (ready_at (end_lost (settle_pools before m))) (associations_in (end_lost (settle_pools before m))))
    ∙ length-withdraw_timers (end_lost (settle_pools before m)).channels.ports (lost_timers (end_lost (settle_pools before m)))
    ∙ length-withdraw_events (settle_pools before m).channels.ports (lost_associations (settle_pools before m))
    ∙ ap (λ (c : Channels). length c.ports) (channels-settle_pools before m)

pub step_fits : (m : State) (t : ℕ) (q : Option Request) → AreChannels m → MayTurn m t q → AreChannels (step m t q).state
unfolding step
step_fits m t q h may =
    record {
      pipes = k.pipes;
      ports = k.ports;
      associations = k.associations;
      timers = k.timers;
      refers = k.refers;
      few_pipes = omega (arith, ap (λ (ps : List Pipe). length ps) (pipes-settle m (act m t q).state), few.pipes, h.few_pipes, counted);
      few_ports = omega (arith, settled_long m (act m t q).state, few.ports, h.few_ports, counted);
      few_associations =
          omega (
            arith,
            ap (λ (c : Channels). c.associations.made) (channels-settle_pools m (act m t q).state),
            few.associations,
            h.few_associations,
            counted,
          );
      few_timers =
          omega (
            arith,
            ap (λ (c : Channels). c.timers.made) (channels-settle_pools m (act m t q).state),
            few.timers,
            h.few_timers,
            counted,
          );
      early =
          omega (
            arith,
            ap (λ (c : Channels). c.timers.clock) (channels-settle_pools m (act m t q).state),
            few.clock,
            h.early,
            counted,
          );
    }
  where
    k : Fits (settle m (act m t q).state)
    k = settle_fits m (act m t q).state (act_fits m t q (record { pipes = h.pipes; ports = h.ports; associations = h.associations; timers = h.timers; refers = h.refers }) may)

    few : MakesFew m (act m t q).state.channels
    few = move_few m t q (act m t q) may (act_moves m t q)

    counted : (settle m (act m t q).state).events ≡ m.events
    counted = events-settle m (act m t q).state ∙ (act-keeps m t q).events
