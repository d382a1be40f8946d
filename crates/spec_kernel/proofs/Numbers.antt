-- Doors, calls and notices stand in their lists under their own numbers, in every run; so nothing ever waits in a pool that
-- has an idle thread.
use Rattle.std.proofs.Common.{◌≡◌, ℕ, ◌+◌, Bool, List, [], ◌∷◌, ◌++◌, Option, None, count_by, length, map, refl, sym, ap, subst, ◌∙◌, ◌⊎◌, inl, length-append, arith}
use Rattle.spec_kernel.specs.Types.{Attrs, Call, Door, Fd, Item, Notice, Param, Pass, Pool, Process, Request, Thread}
use Rattle.dk_base.specs.declared.error.Errno.TheVariants.{EMFILE}
use Rattle.dk_base.specs.declared.object.Item.TheVariants as item
use Rattle.dk_base.specs.declared.request.Param.TheVariants as param
use Rattle.spec_records.specs.declared.record.CallStage.TheVariants as stage
use Rattle.spec_records.specs.declared.record.NoticeStage.TheVariants as notice
use Rattle.spec_records.specs.Words.{CallTree, IsAscending, IsCounted, Leaving, NoticeList, at_stage, call_number, change_first, end_notice, end_owner, forking, is_client_call_of, is_given_as, is_given_notice_as, is_notice_entered_by, is_queued_as, is_queued_in, is_to_collect_as, is_waiting_notice_as, left_call, new_door, new_notice, notice_at, notice_number, objects_passed, open_call, process_end, return_call, revocation, revoke_door, revoked_door, set_param, tid, with_door, with_param, without_arguments_at}
use Rattle.spec_kernel.specs.Acts.{ActResult}
use Rattle.spec_kernel.proofs.Moves.{Moves, act_moves}
use Rattle.spec_kernel.specs.State.{State, calls_waiting, now, pick, process_of, table_of}
use Rattle.spec_kernel.specs.Doors.{new_call}
use Rattle.spec_kernel.specs.Information.{door_at}
use Rattle.spec_kernel.specs.Leaving.{leave, leave_process, revoke}
use Rattle.spec_kernel.specs.Settle.{give_one, settle}
use Rattle.spec_kernel.specs.Step.{act, step}
use Rattle.spec_kernel.specs.Opening.{IsOpening}
use Rattle.spec_kernel.specs.Runs.{Turn, state_after, state_after_turn}
use Rattle.spec_records.proofs.Lists.{map-map_same, same_length}
use Rattle.spec_records.proofs.Places.{map-change_first}
use Rattle.spec_records.proofs.NumberedLists.{counted-ascending, counted-push, counted-same}
use Rattle.spec_kernel.proofs.Doors.{map-change_door, map-end_owner}
use Rattle.spec_kernel.proofs.CallLists.{left_call-number}
use Rattle.spec_kernel.proofs.Leaving.{map-left_notices}
use Rattle.spec_kernel.proofs.Settling.{settle-all, with_notice_of}
use Rattle.spec_kernel.proofs.Opening.{IsOpened, opened}
use Rattle.spec_kernel.proofs.Giving.{AreCallsAscending, no_pool_has_both}

abbrev pub door_number : Door → ℕ
door_number d = d.number

-- as many as were made, with the numbers from 1 on
pub record AreNumberedTo {X : Type 0} (number : X → ℕ) (made : ℕ) (xs : List X) : Type 0 where
  pub all : made ≡ length xs
  pub in_order : IsCounted number 0 xs

-- others of the same numbers
numbered_same :
    {X : Type 0} (number : X → ℕ) (made : ℕ) (xs ys : List X) → map number ys ≡ map number xs → AreNumberedTo number made xs →
    AreNumberedTo number made ys
numbered_same number made xs ys e h =
    record { all = h.all ∙ sym (same_length number ys xs e); in_order = counted-same number xs ys 0 e h.in_order }

-- and one more under the next number
numbered_more :
    {X : Type 0} (number : X → ℕ) (made : ℕ) (xs : List X) (x : X) → number x ≡ made + 1 → AreNumberedTo number made xs →
    AreNumberedTo number (made + 1) (xs ++ x ∷ [])
numbered_more number made xs x e h =
    record {
      all = ap (λ n. n + 1) h.all ∙ sym (length-append xs (x ∷ []));
      in_order = counted-push number xs 0 x h.in_order (omega (arith, e, h.all));
    }

-- calls, doors and notices have the numbers of their places
pub record AreListed (tree : CallTree) (door_list : List Door) (list : NoticeList) : Type 0 where
  pub calls : AreNumberedTo call_number tree.made tree.calls
  pub doors : AreNumberedTo door_number (length door_list) door_list
  pub notices : AreNumberedTo notice_number list.made list.notices

-- so an act that touches none of these leaves it as it is
abbrev pub IsListed : State → Type 0
IsListed m = AreListed m.call_tree m.doors m.notice_list

-- writers

-- one call takes an arrow
one_call_moves :
    (m : State) (test : Call → Bool) (change : Call → Call) → ((r : Call) → call_number (change r) ≡ call_number r) → IsListed m →
    AreListed (record m.call_tree { calls = change_first test change m.call_tree.calls }) m.doors m.notice_list
one_call_moves m test change same l =
    record {
      calls = numbered_same call_number m.call_tree.made m.call_tree.calls _ (map-change_first call_number test change same m.call_tree.calls) l.calls;
      doors = l.doors;
      notices = l.notices;
    }

one_call_more :
    (m : State) (r : Call) → r.number ≡ m.call_tree.made + 1 → IsListed m → AreListed (open_call m.call_tree r) m.doors m.notice_list
one_call_more m r e l =
    record {
      calls =
          subst (λ (n : ℕ). AreNumberedTo call_number n (m.call_tree.calls ++ r ∷ [])) (sym e)
          (numbered_more call_number m.call_tree.made m.call_tree.calls r e l.calls);
      doors = l.doors;
      notices = l.notices;
    }

-- doors of the same numbers
doors_change :
    (m : State) (doors : List Door) → map door_number doors ≡ map door_number m.doors → IsListed m →
    AreListed m.call_tree doors m.notice_list
doors_change m doors same l =
    record {
      calls = l.calls;
      doors =
          subst (λ (n : ℕ). AreNumberedTo door_number n doors) (sym (same_length door_number doors m.doors same))
          (numbered_same door_number (length m.doors) m.doors doors same l.doors);
      notices = l.notices;
    }

one_door_more :
    (m : State) (p entry cookie : ℕ) (attrs : Attrs) → IsListed m →
    AreListed m.call_tree (with_door m.doors p entry cookie attrs) m.notice_list
one_door_more m p entry cookie attrs l =
    let d : Door = new_door (length m.doors + 1) p entry cookie attrs in
    record {
      calls = l.calls;
      doors =
          subst (λ (n : ℕ). AreNumberedTo door_number n (m.doors ++ d ∷ [])) (sym (length-append m.doors (d ∷ [])))
          (numbered_more door_number (length m.doors) m.doors d refl l.doors);
      notices = l.notices;
    }

with_param-number : (x : Param) (value : ℕ) (d : Door) → door_number (with_param x value d) ≡ door_number d
with_param-number param.DataMax value d = refl
with_param-number param.DataMin value d = refl
with_param-number param.DescMax value d = refl

one_door_changes :
    (m : State) (d : ℕ) (x : Param) (value : ℕ) → IsListed m → AreListed m.call_tree (set_param m.doors d x value) m.notice_list
one_door_changes m d x value l =
    doors_change m (set_param m.doors d x value) (map-change_door door_number m.doors d (with_param x value) (with_param-number x value)) l

-- one notice takes an arrow
one_notice_moves :
    {tree : CallTree} {doors : List Door} (list : NoticeList) (test : Notice → Bool) (change : Notice → Notice) →
    ((n : Notice) → notice_number (change n) ≡ notice_number n) → AreListed tree doors list →
    AreListed tree doors (record list { notices = change_first test change list.notices })
one_notice_moves list test change same l =
    record {
      calls = l.calls;
      doors = l.doors;
      notices = numbered_same notice_number list.made list.notices _ (map-change_first notice_number test change same list.notices) l.notices;
    }

one_notice_more : (m : State) (d : ℕ) → IsListed m → IsListed (with_notice_of m d)
one_notice_more m d l =
    record {
      calls = l.calls;
      doors = l.doors;
      notices =
          numbered_more notice_number m.notice_list.made m.notice_list.notices (new_notice (m.notice_list.made + 1) (now m) d) refl l.notices;
    }

-- calls, threads and notices that leave
leave-listed : (m : State) (who : Leaving) → IsListed m → IsListed (leave m who)
leave-listed m who l =
    record {
      calls =
          numbered_same call_number m.call_tree.made m.call_tree.calls _
          (map-map_same call_number (left_call who) (left_call-number who) m.call_tree.calls)
          l.calls;
      doors = l.doors;
      notices =
          numbered_same notice_number m.notice_list.made m.notice_list.notices _
          (map-left_notices notice_number (λ s n. refl) who m.notice_list.notices)
          l.notices;
    }

leave_process-listed : (m : State) (p : ℕ) → IsListed m → IsListed (leave_process m p)
leave_process-listed m p l =
    doors_change (leave m (process_end m.process_table m.doors p)) (end_owner m.doors p)
    (map-end_owner door_number (λ x. refl) m.doors p)
    (leave-listed m (process_end m.process_table m.doors p) l)

revoke-listed : (m : State) (p : ℕ) (fd : Fd) → IsListed m → IsListed (revoke m p fd).state
revoke-listed m p fd l =
    doors_change (leave m (revocation (door_at m p fd))) (revoke_door m.doors (door_at m p fd))
    (map-change_door door_number m.doors (door_at m p fd) revoked_door (λ x. refl))
    (leave-listed m (revocation (door_at m p fd)) l)

-- acts

returned-listed :
    (m : State) (t p : ℕ) (bytes : List ℕ) (pass : List Pass) → IsListed m →
    AreListed (return_call m.call_tree t bytes (objects_passed (table_of m p) pass)) m.doors (end_notice m.notice_list t)
returned-listed m t p bytes pass l =
    one_notice_moves m.notice_list (is_notice_entered_by t) (notice_at notice.Over) (λ n. refl)
    (one_call_moves m (is_client_call_of t) (without_arguments_at (stage.Returned bytes (objects_passed (table_of m p) pass))) (λ r. refl) l)

move-listed : (m : State) (t : ℕ) (q : Option Request) (a : ActResult) → Moves m t q a → IsListed m → IsListed a.state
move-listed m t q a (Moves.makes entry cookie attrs f) l = one_door_more m (process_of m t) entry cookie attrs l
move-listed m t q a (Moves.parameter fd x value f) l = one_door_changes m (door_at m (process_of m t) fd) x value l
move-listed m t q a (Moves.calls fd bytes pass rsize f) l =
    one_call_more m (new_call m t (door_at m (process_of m t) fd) bytes (objects_passed (table_of m (process_of m t)) pass) rsize) refl l
move-listed m t q a (Moves.returns bytes pass f e) l = returned-listed m t (process_of m t) bytes pass l
move-listed m t q a (Moves.returns_unbound bytes pass f e) l = returned-listed m t (process_of m t) bytes pass l
move-listed m t q a (Moves.enters r h e) l = one_call_moves m (is_given_as r.number t) (without_arguments_at (stage.Entered (tid t))) (λ x. refl) l
move-listed m t q a (Moves.fails r h e) l = one_call_moves m (is_given_as r.number t) (without_arguments_at (stage.Ended EMFILE)) (λ x. refl) l
move-listed m t q a (Moves.enters_notice n h) l =
    one_notice_moves m.notice_list (is_given_notice_as n.number t) (notice_at (notice.Entered (tid t))) (λ x. refl) l
move-listed m t q a (Moves.collects c e) l = one_call_moves m (is_to_collect_as c) (without_arguments_at (stage.Answered (now m))) (λ x. refl) l
move-listed m t q a (Moves.leaves r who _) l = leave-listed m who l
move-listed m t q a (Moves.revokes fd f) l = revoke-listed m (process_of m t) fd l
move-listed m t q a (Moves.ends r p _) l = leave_process-listed m p l
move-listed m t q a (Moves.forks child f) l = leave-listed m (forking m.process_table t) l
move-listed m t q a _ l = l

pub act-listed : (m : State) (t : ℕ) (r : Option Request) → IsListed m → IsListed (act m t r).state
act-listed m t r l = move-listed m t r (act m t r) (act_moves m t r) l

-- settling

give_one-listed : (m : State) (i : Item) (u : ℕ) → IsListed m → IsListed (give_one m i u)
give_one-listed m (item.Call c) u l =
    one_call_moves m (is_queued_as c) (at_stage (stage.Given (tid u))) (λ r. refl) l
give_one-listed m (item.Notice n) u l =
    one_notice_moves m.notice_list (is_waiting_notice_as n) (notice_at (notice.Given (tid u))) (λ k. refl) l

pub settle-listed : (before m : State) → IsListed m → IsListed (settle before m)
settle-listed before m l =
    settle-all IsListed before
    (record {
      makes = λ n d due h. one_notice_more n d h;
      fails = λ n t lost h. h;
      gives = λ n w x p h. give_one-listed n w.item x.thread.0 h;
      starts = λ n t d h. h;
    }) (λ n h. h)
    m l

-- steps and runs

pub step-listed : (m : State) (t : ℕ) (r : Option Request) → IsListed m → IsListed (step m t r).state
unfolding step
step-listed m t r l = settle-listed m (act m t r).state (act-listed m t r l)

pub opening-listed : {m : State} → IsOpening m → IsListed m
opening-listed o =
    let h : IsOpened _ = opened o in
    record {
      calls =
          subst (λ (tree : CallTree). AreNumberedTo call_number tree.made tree.calls) (sym h.call_tree)
          (record { all = refl; in_order = tt });
      doors =
          subst (λ (ds : List Door). AreNumberedTo door_number (length ds) ds) (sym h.doors) (record { all = refl; in_order = tt });
      notices =
          subst (λ (list : NoticeList). AreNumberedTo notice_number list.made list.notices) (sym h.notice_list)
          (record { all = refl; in_order = tt });
    }

-- after every event no pool has both a waiting call and an idle thread, and nothing else waits in a pool that has one

abbrev pub NoPoolHasBoth : State → Type 0
NoPoolHasBoth m = (pool : Pool) → (calls_waiting m pool ≡ 0) ⊎ (pick m pool ≡ None)

-- so they go up
ascends : {X : Type 0} {number : X → ℕ} {made : ℕ} {xs : List X} → AreNumberedTo number made xs → IsAscending number 0 made xs
ascends {X} {number} {made} {xs} h = counted-ascending number xs 0 made h.in_order (omega (arith, h.all))

calls_ascend : (m : State) → IsListed m → AreCallsAscending m.call_tree
calls_ascend m l = ascends l.calls

pub no_pool_has_both-step : (m : State) (t : ℕ) (r : Option Request) → IsListed m → NoPoolHasBoth (step m t r).state
unfolding step
no_pool_has_both-step m t r l pool = no_pool_has_both m (act m t r).state (calls_ascend (act m t r).state (act-listed m t r l)) pool

-- what holds after each step holds after a list of turns
after_each :
    (P : State → Type 0) → ((m : State) (t : ℕ) (r : Option Request) → IsListed m → P (step m t r).state) → (m : State)
    (xs : List Turn) → IsListed m → P m → P (state_after m xs)
after_each P each m [] l h = h
after_each P each m (x ∷ xs) l h =
    after_each P each (state_after_turn m x) xs (step-listed m x.thread x.request l) (each m x.thread x.request l)

pub no_pool_has_both-state_after : {m : State} (xs : List Turn) → IsOpening m → NoPoolHasBoth (state_after m xs)
no_pool_has_both-state_after {m} xs o =
    after_each NoPoolHasBoth no_pool_has_both-step m xs (opening-listed o)
    (λ pool. inl (ap (λ (tree : CallTree). count_by (is_queued_in m.doors pool) tree.calls) (opened o).call_tree))

-- threads and processes

abbrev pub thread_number : Thread → ℕ
thread_number x = x.number

abbrev pub process_number : Process → ℕ
process_number x = x.number
