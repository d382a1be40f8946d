-- The timers that end after an act: those of the process that ends by it, and no other.
use Rattle.std.specs.Prelude.{ℕ, ◌≡◌, ◌+◌, ◌==◌, List, [], ◌∷◌, Option, Bool, true, false, if◌then◌else◌, not, Some, None, is_none, filter, All}
use Rattle.std.specs.Option.{option_map}
use Rattle.std.proofs.Common.{refl, sym, ap, ap₂, subst, ◌∙◌}
use native.Mathlib.Omega.{arith}
use Rattle.std.proofs.lemmas.Bool.Decides.{nat_tests}
use Rattle.std.proofs.lemmas.List.Elements.{All-cons, All-filter, All-head, All-push, All-tail, All-weaker}
use Rattle.dk_base.specs.ByNumber.{at_number}
use Rattle.dk_base.specs.declared.answer.Answer.TheVariants as answer
use Rattle.dk_base.specs.declared.error.Errno.TheVariants.{EBADF, EBADFD}
use Rattle.dk_base.specs.declared.object.Item.TheVariants as item
use Rattle.dk_base.specs.declared.request.Request.TheVariants as request
use Rattle.spec_records.specs.declared.record.ThreadState.TheVariants as is
use Rattle.spec_records.specs.declared.timer.Arming.{Arming}
use Rattle.spec_records.specs.declared.timer.Timer.{Timer}
use Rattle.spec_records.specs.Words.{arming_at, change_first, create_timer_tests, ended_process, forking, idle_thread, is_last, is_live_in, is_other_timer, is_timer, is_timer_of_ended, is_timer_of_live, live_process, new_timer, process_end, refused_where, thread_at_state, thread_in_invocation, thread_outside, with_arming, withdraw_timers}
use Rattle.spec_kernel.specs.Types.{Answer, Errno, Fd, Process, Request}
use Rattle.spec_kernel.specs.Words.{ActResult, Channels, State, act, end_lost, end_timers, exit, fork, is_live_process, is_port, kill, leave, leave_process, leave_thread, now, object_at, port_at, process_of, refusal_of, timers_in, unless_refused, with_channels}
use Rattle.spec_kernel.proofs.Moves.{IsEnding, IsFree, IsMaking, IsPassing, Moves, act_moves, act_result}
use Rattle.spec_kernel.proofs.Refusals.{not_held}
use Rattle.spec_kernel.proofs.Threads.{at_number-begin_process, at_number-end_process, processes-change_thread}
use Rattle.law_states.specs.Told.{AreTold}
use Rattle.law_channels.specs.Changed.{IsAfterAct, OnlyLiveHaveRows}
use Rattle.law_channels.specs.Closed.{Closing, closed_rows}
use Rattle.law_channels.specs.Ended.{timers_ended}
use Rattle.law_channels.proofs.Withdrawn.{filter-same}

-- a process ends with what is closed
abbrev ends_process : Closing → ℕ → Bool
ends_process (Closing.process u) p = p == u
ends_process _ p = false

-- a turn that neither ends a process nor begins one
abbrev is_other : Option Request → Bool
is_other (Some (request.Kill u)) = false
is_other (Some request.Exit) = false
is_other (Some (request.Fork child)) = false
is_other _ = true

-- which processes live after an act

module _ (m : State) (t : ℕ) where
  abbrev owner : ℕ
  owner = process_of m t

  abbrev HasProcesses : ActResult → Type 0
  HasProcesses a = a.state.process_table.processes ≡ m.process_table.processes

  move_processes : (q : Option Request) (a : ActResult) → is_other q ≡ true → Moves m t q a → HasProcesses a
  move_processes q a o (Moves.turns s x w e) = processes-change_thread m.process_table t (thread_at_state s)
  move_processes q a o (Moves.calls fd bytes pass rsize f) =
      processes-change_thread m.process_table t (thread_at_state (is.Calling (m.call_tree.made + 1)))
  move_processes q a o (Moves.returns bytes pass f e) = processes-change_thread m.process_table t (idle_thread (now m))
  move_processes q a o (Moves.returns_unbound bytes pass f e) = processes-change_thread m.process_table t thread_outside
  move_processes q a o (Moves.enters r e room) = processes-change_thread m.process_table t (thread_in_invocation (item.Call r.number))
  move_processes q a o (Moves.fails r e full) = processes-change_thread m.process_table t (idle_thread (now m))
  move_processes q a o (Moves.enters_notice n e) = processes-change_thread m.process_table t (thread_in_invocation (item.Notice n.number))
  move_processes q a o (Moves.collects c e) = processes-change_thread m.process_table t (thread_at_state is.Running)
  move_processes q a o (Moves.retrieves port max nget one e) = processes-change_thread m.process_table t (thread_at_state is.Running)
  move_processes q a o (Moves.ends r p (IsEnding.kills u e)) = absurd (cc o)
  move_processes q a o (Moves.ends r p (IsEnding.exits_last e)) = absurd (cc o)
  move_processes q a o (Moves.forks child f) = absurd (cc o)
  move_processes q a o x = refl

  abbrev Lives : Closing → ActResult → Type 0
  Lives closing a = (p : ℕ) → is_live_process m p ≡ true → is_live_process a.state p ≡ not (ends_process closing p)

  same_lives : (a : ActResult) → HasProcesses a → Lives Closing.nothing a
  same_lives a e p h = ap (λ xs. is_live_in (at_number xs p)) e ∙ h

  ended_lives : (u : ℕ) → Lives (Closing.process u) (act_result (leave_process m u) answer.Done)
  ended_lives u p h = ap is_live_in (at_number-end_process (leave m (process_end m.process_table m.doors u)).process_table u p) ∙ go (p == u)
    where
      gone : (o : Option Process) → is_live_in (option_map ended_process o) ≡ false
      gone None = refl
      gone (Some x) = refl

      go :
          (b : Bool) →
          is_live_in (if b then option_map ended_process (at_number m.process_table.processes u) else at_number m.process_table.processes p) ≡ not b
      go true = gone (at_number m.process_table.processes u)
      go false = h

  begun_lives : (child : ℕ) → Lives Closing.nothing (fork m t owner child)
  begun_lives child p h = ap is_live_in (at_number-begin_process (leave m (forking m.process_table t)).process_table child p) ∙ go (p == child) refl
    where
      begun : (o : Option Process) → is_live_in o ≡ true → is_live_in (option_map live_process o) ≡ true
      begun None e = cc
      begun (Some x) e = refl

      go :
          (b : Bool) → (p == child) ≡ b →
          is_live_in (if b then option_map live_process (at_number m.process_table.processes child) else at_number m.process_table.processes p) ≡ true
      go true e =
          let same : p ≡ child = grind (arith, nat_tests) in
          begun (at_number m.process_table.processes child) (ap (λ k. is_live_in (at_number m.process_table.processes k)) (sym same) ∙ h)
      go false e = h

  kill_lives : (u : ℕ) → Lives (if is_live_process m u then Closing.process u else Closing.nothing) (kill m u)
  kill_lives u = go (is_live_process m u)
    where
      go : (b : Bool) → Lives (if b then Closing.process u else Closing.nothing) (act_result (if b then leave_process m u else m) answer.Done)
      go true = ended_lives u
      go false = same_lives (act_result m answer.Done) refl

  exit_lives : Lives (if is_last m.process_table t owner then Closing.process owner else Closing.nothing) (exit m t owner)
  exit_lives = go (is_last m.process_table t owner)
    where
      go :
          (b : Bool) →
          Lives (if b then Closing.process owner else Closing.nothing) (act_result (if b then leave_process m owner else leave_thread m t) answer.Done)
      go true = ended_lives owner
      go false = same_lives (act_result (leave_thread m t) answer.Done) refl

  fork_lives : (child : ℕ) (o : Option Errno) → Lives Closing.nothing (unless_refused m o (fork m t owner child))
  fork_lives child (Some e) = same_lives (act_result m (answer.Failure e)) refl
  fork_lives child None = begun_lives child

  other_lives : (r : Request) → is_other (Some r) ≡ true → Lives Closing.nothing (act m t (Some r))
  other_lives r o = same_lives (act m t (Some r)) (move_processes (Some r) (act m t (Some r)) o (act_moves m t (Some r)))

  act_lives : (q : Option Request) → Lives (closed_rows m t q) (act m t q)
  act_lives None = same_lives (act m t None) (move_processes None (act m t None) refl (act_moves m t None))
  act_lives (Some (request.Kill u)) = kill_lives u.0
  act_lives (Some request.Exit) = exit_lives
  act_lives (Some (request.Fork child)) = fork_lives child.0 (refusal_of m t owner (request.Fork child))
  act_lives (Some r) = other_lives r refl

  -- timers are of processes that lived before it

  abbrev IsOfLive : Timer → Type 0
  IsOfLive x = is_live_process m x.process.0 ≡ true

  armed_alive : (id : ℕ) (a : Option Arming) (ts : List Timer) → All IsOfLive ts → All IsOfLive (change_first (is_timer owner id) (with_arming a) ts)
  armed_alive id a [] all = all
  armed_alive id a (x ∷ ts) all = go (is_timer owner id x) (armed_alive id a ts (All-tail IsOfLive x ts all))
    where
      go :
          (b : Bool) → All IsOfLive (change_first (is_timer owner id) (with_arming a) ts) →
          All IsOfLive (if b then with_arming a x ∷ ts else x ∷ change_first (is_timer owner id) (with_arming a) ts)
      go true rest = All-cons IsOfLive (with_arming a x) ts (All-head IsOfLive x ts all) (All-tail IsOfLive x ts all)
      go false rest = All-cons IsOfLive x (change_first (is_timer owner id) (with_arming a) ts) (All-head IsOfLive x ts all) rest

  module _ (rows : OnlyLiveHaveRows m) (all : All IsOfLive (timers_in m)) where
    -- one that has a port has a row
    owner_lives : (port : Fd) (user : ℕ) → IsFree m t (request.TimerCreate port user) → is_live_process m owner ≡ true
    owner_lives port user f = go (is_live_process m owner) refl
      where
        there : is_none (object_at m owner port) ≡ false
        there =
            not_held [] (refused_where (is_none (object_at m owner port)) EBADF)
            (refused_where (not (is_port (object_at m owner port))) EBADFD ∷ create_timer_tests (timers_in m) owner) f

        go : (b : Bool) → is_live_process m owner ≡ b → b ≡ true
        go true e = refl
        go false e = let none : is_none (object_at m owner port) ≡ true = ap is_none (rows owner port e) in absurd (cc (sym none ∙ there))

    passing_timers : (r : Request) (c : Channels) (a : Answer) → IsPassing m t r c a → All IsOfLive c.timers.timers
    passing_timers r c a (IsPassing.creates_timer port user f) =
        All-push IsOfLive (timers_in m) (new_timer m.channels.timers owner (port_at m owner port) user) all (owner_lives port user f)
    passing_timers r c a (IsPassing.sets_timer id first interval f) =
        armed_alive id (arming_at m.channels.timers.clock first interval) (timers_in m) all
    passing_timers r c a (IsPassing.deletes_timer id f) = All-filter (is_other_timer owner id) IsOfLive (timers_in m) all
    passing_timers r c a x = all

    move_timers : (q : Option Request) (a : ActResult) → Moves m t q a → All IsOfLive (timers_in a.state)
    move_timers q a (Moves.passes r c x e) = passing_timers r c x e
    move_timers q a (Moves.makes_channel r c objects x (IsMaking.makes_pipe f)) = all
    move_timers q a (Moves.makes_channel r c objects x (IsMaking.makes_port f)) = all
    move_timers q a x = all

-- what ends

none_passes : (ts : List Timer) → filter (λ t. false) ts ≡ []
none_passes [] = refl
none_passes (t ∷ ts) = none_passes ts

all_pass : (ts : List Timer) → filter (λ t. not false) ts ≡ ts
all_pass [] = refl
all_pass (t ∷ ts) = ap (λ us. t ∷ us) (all_pass ts)

abbrev without_timers : Channels → List Timer → List Timer → Channels
without_timers c lost left = record c { ports = withdraw_timers c.ports lost; timers = record c.timers { timers = left } }

none_end : (c : Channels) → without_timers c (filter (λ t. false) c.timers.timers) (filter (λ t. not false) c.timers.timers) ≡ c
none_end c = ap₂ {A = List Timer} {B = List Timer} {C = Channels} (without_timers c) (none_passes c.timers.timers) (all_pass c.timers.timers)

closing_ends_timers :
    (c : Channels) (closed : Closing) →
    without_timers c (filter (λ t. ends_process closed t.process.0) c.timers.timers) (filter (λ t. not (ends_process closed t.process.0)) c.timers.timers)
    ≡ timers_ended c closed
closing_ends_timers c Closing.nothing = none_end c
closing_ends_timers c (Closing.rows p fds) = none_end c
closing_ends_timers c (Closing.process u) = refl

not_not : (b : Bool) → not (not b) ≡ b
not_not true = refl
not_not false = refl

module _ (m : State) (t : ℕ) (q : Option Request) (n : State) (k : IsAfterAct m t q n) (told : AreTold m) (rows : OnlyLiveHaveRows m) where
  alive : All (IsOfLive m t) (timers_in n)
  alive = subst (λ (c : Channels). All (IsOfLive m t) c.timers.timers) (sym k.channels) (move_timers m t rows told.timers q (act m t q) (act_moves m t q))

  lives_now : (p : ℕ) → is_live_process m p ≡ true → is_live_process n p ≡ not (ends_process (closed_rows m t q) p)
  lives_now p h = ap (λ xs. is_live_in (at_number xs p)) k.processes ∙ act_lives m t q p h

  abbrev Stays : Timer → Type 0
  Stays x = is_timer_of_live (is_live_process n) x ≡ not (ends_process (closed_rows m t q) x.process.0)

  abbrev Ends : Timer → Type 0
  Ends x = is_timer_of_ended (is_live_process n) x ≡ ends_process (closed_rows m t q) x.process.0

  stay : All Stays (timers_in n)
  stay = All-weaker (IsOfLive m t) Stays (λ x h. lives_now x.process.0 h) (timers_in n) alive

  go_away : All Ends (timers_in n)
  go_away = All-weaker Stays Ends (λ x e. ap not e ∙ not_not (ends_process (closed_rows m t q) x.process.0)) (timers_in n) stay

  pub timers_end : end_timers (end_lost n) ≡ with_channels n (timers_ended (end_lost n).channels (closed_rows m t q))
  timers_end =
      ap₂ {A = List Timer} {B = List Timer} {C = State} (λ lost left. with_channels n (without_timers (end_lost n).channels lost left))
      (filter-same (is_timer_of_ended (is_live_process n)) (λ x. ends_process (closed_rows m t q) x.process.0) (timers_in n) go_away)
      (filter-same (is_timer_of_live (is_live_process n)) (λ x. not (ends_process (closed_rows m t q) x.process.0)) (timers_in n) stay)
      ∙ ap (with_channels n) (closing_ends_timers (end_lost n).channels (closed_rows m t q))
