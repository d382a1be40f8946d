-- The lives of timers: what each act makes of the timer of a number, and which process lives on.
use Rattle.std.specs.Prelude.{ℕ, zero, suc, ◌≡◌, ◌+◌, ◌++◌, ◌≤◌, ◌<◌, ◌==◌, ◌&&◌, List, [], ◌∷◌, Option, Bool, true, false, if◌then◌else◌, not, Some, None, All, filter, find, is_none, is_some, length, nat_le, slice_get}
use Rattle.std.proofs.Common.{true≢false, refl, sym, ap, ap₂, subst, ◌∙◌}
use native.Mathlib.Omega.{arith}
use Rattle.std.proofs.lemmas.Bool.Decides.{nat_tests}
use Rattle.std.proofs.lemmas.Option.{slice_get_within}
use Rattle.dk_base.specs.ByNumber.{at_number}
use Rattle.dk_base.specs.declared.error.Errno.TheVariants.{EAGAIN, EINVAL}
use Rattle.dk_base.specs.declared.limits.TheConstants.{TIMERS_MAX}
use Rattle.dk_base.specs.declared.object.Obj.TheVariants as obj
use Rattle.dk_base.specs.declared.request.Request.TheVariants as request
use Rattle.dk_base.specs.declared.answer.Answer.TheVariants as answer
use Rattle.spec_records.specs.declared.record.ProcessStage.TheVariants.{Ended, Live, Unborn}
use Rattle.spec_records.specs.declared.record.ThreadState.TheVariants as is
use Rattle.spec_records.specs.declared.timer.Timer.{Timer}
use Rattle.spec_records.specs.Timers.{free_id}
use Rattle.spec_records.specs.Words.{IsAscending, TimerList, arming_at, change_first, create_timer_tests, free_id_from, has_all_timers, is_live_in, is_number, is_other_timer, is_timer, is_timer_of_live, is_unborn_in, new_timer, pid, refused_where, timer_at, timer_number, timer_tests, with_arming}
use Rattle.spec_records.proofs.Lists.{is_some-at_number}
use Rattle.spec_records.proofs.NumberedLists.{find-passes}
use Rattle.spec_kernel.specs.Types.{Answer, Errno, Fd, Process, ProcessStage, Request}
use Rattle.spec_kernel.specs.Words.{ActResult, Channels, MayEnter, MayTurn, State, Turn, act, effect, is_live_process, object_at, port_at, port_tests, process_of, refusal_of, settle, settle_pools, state_at, state_of, step, timers_in, unless_refused}
use Rattle.spec_kernel.proofs.Moves.{IsFree, IsMaking, IsPassing, Moves, act_moves}
use Rattle.spec_kernel.proofs.Refusals.{not_held}
use Rattle.spec_kernel.proofs.Settling.{channels-settle_pools, processes-settle_pools}
use Rattle.spec_kernel.proofs.Steps.{processes-step}
use Rattle.law_states.specs.Core.{ended_in}
use Rattle.law_states.proofs.Consistent.{awake_lives, is_awake}
use Rattle.law_states.proofs.Steps.{running_is}
use Rattle.law_channels.proofs.Elements.{All-find}
use Rattle.law_channels.proofs.TimerLists.{free_is, own_id}
use Rattle.law_channels.specs.Timers.{IsTimer, timer_numbered}
use Rattle.law_places.specs.Places.{answer_at, process_at}
use Rattle.law_places.proofs.Known.{next}
use Rattle.law_runs.specs.Channels.{Names}
use Rattle.law_runs.specs.Clock.{clock_at, numbered, set_arming, timer_under, timer_with, timers_made}
use Rattle.law_runs.specs.Ends.{EndsProcess, is_ended}
use Rattle.law_runs.specs.TimerLives.{Becomes, Creates, Ends, IsCreated, Sets, Stands, TimerChange, TimerLives, creates, tells_count}
use Rattle.law_runs.proofs.Begins.{begins_hold}
use Rattle.law_runs.proofs.Channels.{KnownChannels, answer_of, entry_acted, entry_answer, is_free}
use Rattle.law_runs.proofs.Endings.{live_begun}
use Rattle.law_runs.proofs.Ends.{ends_holds}
use Rattle.law_runs.proofs.PortTurns.{names_port}
use Rattle.law_runs.proofs.TimerLists.{found_numbered, identified_is, kept, number_found, numbered-changed, numbered-filter, numbered-other, numbered-past, numbered-push, numbered_is}
use Rattle.law_runs.proofs.Told.{timers_told}

-- processes that live and that have ended

not_ended : (o : Option Process) → is_live_in o ≡ true → ended_in o ≡ false
not_ended None e = absurd (cc e)
not_ended (Some p) e = go p.stage e
  where
    go : (s : ProcessStage) → is_live_in (Some (record p { stage = s })) ≡ true → ended_in (Some (record p { stage = s })) ≡ false
    go Unborn f = absurd (cc f)
    go Live f = refl
    go Ended f = absurd (cc f)

ended_not_live : (o : Option Process) → ended_in o ≡ true → is_live_in o ≡ false
ended_not_live o e = go (is_live_in o) refl
  where
    go : (b : Bool) → is_live_in o ≡ b → b ≡ false
    go false f = refl
    go true f = absurd (true≢false (sym e ∙ not_ended o f))

lives_no_more : (o : Option Process) → is_some o ≡ true → is_live_in o ≡ false → is_unborn_in o ≡ false → ended_in o ≡ true
lives_no_more None e f g = absurd (cc e)
lives_no_more (Some p) e f g = go p.stage f g
  where
    go :
        (s : ProcessStage) → is_live_in (Some (record p { stage = s })) ≡ false → is_unborn_in (Some (record p { stage = s })) ≡ false →
        ended_in (Some (record p { stage = s })) ≡ true
    go Unborn h l = absurd (cc l)
    go Live h l = absurd (cc h)
    go Ended h l = refl

live_there : (o : Option Process) → is_live_in o ≡ true → is_some o ≡ true
live_there None e = absurd (cc e)
live_there (Some p) e = refl

lives-step : (m : State) (t : ℕ) (q : Option Request) (p : ℕ) → is_live_process (step m t q).state p ≡ is_live_process (act m t q).state p
unfolding step
lives-step m t q p = ap (λ ps. is_live_in (at_number ps p)) (processes-settle_pools m (act m t q).state)

-- the arming that is set
arming_is : (clock first interval : ℕ) → arming_at clock first interval ≡ set_arming clock first interval
arming_is clock zero interval = refl
arming_is clock (suc n) interval =
    let some : (suc n == 0) ≡ false = grind (arith, nat_tests) in
    ap (λ (b : Bool). if b then None else Some (record { clock = clock; first = suc n; interval = interval })) some

-- each id below the one that is free is taken
taken_below :
    (n : ℕ) (ts : List Timer) (p start id : ℕ) → start ≤ id → id < free_id_from n ts p start → is_none (timer_at ts p id) ≡ false
taken_below zero ts p start id l h = absurd (omega (arith, l, h))
taken_below (suc n) ts p start id l h = go (is_none (timer_at ts p start)) refl h (λ f g. taken_below n ts p (start + 1) id f g)
  where
    go :
        (b : Bool) → is_none (timer_at ts p start) ≡ b → id < (if b then start else free_id_from n ts p (start + 1)) →
        (start + 1 ≤ id → id < free_id_from n ts p (start + 1) → is_none (timer_at ts p id) ≡ false) → is_none (timer_at ts p id) ≡ false
    go true f g rest = absurd (omega (arith, l, g))
    go false f g rest = by (start == id) refl
      where
        by : (c : Bool) → (start == id) ≡ c → is_none (timer_at ts p id) ≡ false
        by true k = let same : start ≡ id = grind (arith, nat_tests) in ap (λ j. is_none (timer_at ts p j)) (sym same) ∙ f
        by false k = let up : start + 1 ≤ id = grind (arith, nat_tests) in rest up g

all_below : (ts : List Timer) (p id : ℕ) → id < free_id ts p → is_none (timer_at ts p id) ≡ false
unfolding free_id
all_below ts p id l = taken_below TIMERS_MAX ts p 0 id (omega arith) l

module _ (m : State) (xs : List Turn) (k : KnownChannels m xs) (i : ℕ) (x : Turn) (e : slice_get xs i ≡ Some x) where
  abbrev before : State
  before = state_at m xs i

  abbrev later : State
  later = state_at m xs (i + 1)

  abbrev owner : ℕ
  owner = process_at m xs i x.thread

  abbrev acted : State
  acted = (act (state_at m xs i) x.thread x.request).state

  abbrev list : TimerList
  list = (state_at m xs i).channels.timers

  within : i ≤ length xs
  within = omega (arith, slice_get_within xs i x e)

  within_later : i + 1 ≤ length xs
  within_later = omega (arith, slice_get_within xs i x e)

  in_order : IsAscending timer_number 0 list.made list.timers
  in_order = (k.fits i within).timers.in_order

  -- who lives then

  lives_later : (p : ℕ) → is_live_process later p ≡ is_live_process acted p
  lives_later p =
      ap (λ (z : State). is_live_process z p) (next m xs k.known i x e) ∙ lives-step (state_at m xs i) x.thread x.request p

  own_lives : (r : Request) → x.request ≡ Some r → is_live_process before owner ≡ true
  own_lives r f =
      let may : MayEnter (state_at m xs i) x.thread r = subst (MayTurn (state_at m xs i) x.thread) f (k.known.may i x e) in
      let running : state_of (state_at m xs i) x.thread ≡ is.Running = running_is (state_at m xs i) x.thread may.running in
      awake_lives (state_at m xs i) x.thread (k.known.invariant i within).consistent (ap is_awake running)

  -- one that lives no more has ended at this turn
  ends_process : (p : ℕ) → is_live_process before p ≡ true → is_live_process later p ≡ false → EndsProcess m xs i x p
  ends_process p f g =
      (ends_holds m xs k.known).process_ends_why i p x e (not_ended (at_number (state_at m xs i).process_table.processes p) f)
      (lives_no_more (at_number (state_at m xs (i + 1)).process_table.processes p) there g
      ((begins_hold m xs k.known).once i (i + 1) p (omega arith) within_later (live_begun (at_number (state_at m xs i).process_table.processes p) f)))
    where
      there : is_some (at_number (state_at m xs (i + 1)).process_table.processes p) ≡ true
      there =
          is_some-at_number (state_at m xs (i + 1)).process_table.processes p
          ∙ ap (λ j. nat_le 1 p && nat_le p j)
          (ap (λ (z : State). length z.process_table.processes) (next m xs k.known i x e) ∙ processes-step (state_at m xs i) x.thread x.request)
          ∙ sym (is_some-at_number (state_at m xs i).process_table.processes p)
          ∙ live_there (at_number (state_at m xs i).process_table.processes p) f

  ended_then : (p : ℕ) → EndsProcess m xs i x p → is_live_process later p ≡ false
  ended_then p w = ended_not_live (at_number (state_at m xs (i + 1)).process_table.processes p) ((ends_holds m xs k.known).process_ends_where i p x e w)

  -- what is left of one that the act left

  abbrev left : ℕ → Option Timer → Option Timer
  left n o = kept n (is_timer_of_live (is_live_process (state_at m xs (i + 1)))) o

  told : (n : ℕ) → timer_under later n ≡ left n (numbered n (timers_in acted))
  told n = timers_told m xs k i x e n

  -- what a timer_settime(3C) and a timer_delete(3C) find

  module _ (id : ℕ) where
    pub record Finds : Type 0 where
      pub timer : Timer
      pub at : timer_at list.timers owner id ≡ Some timer
      pub under : numbered timer.number list.timers ≡ Some timer
      pub by_own : timer.process.0 ≡ owner
      pub same_id : id ≡ timer.id

    finds : is_none (timer_at list.timers owner id) ≡ false → Finds
    finds f = go (timer_at list.timers owner id) refl f
      where
        go : (o : Option Timer) → timer_at list.timers owner id ≡ o → is_none o ≡ false → Finds
        go None g h = absurd (cc h)
        go (Some t) g h =
            let it : is_timer owner id t ≡ true = find-passes (is_timer owner id) list.timers t g in
            record {
              timer = t;
              at = g;
              under = found_numbered (is_timer owner id) 0 list.made list.timers t in_order g;
              by_own = grind (arith, nat_tests, it);
              same_id = grind (arith, nat_tests, it);
            }

    pub found_set : (first interval : ℕ) → IsFree before x.thread (request.TimerSet id first interval) → Finds
    found_set first interval f = finds (not_held [] (refused_where (is_none (timer_at list.timers owner id)) EINVAL) [] f)

    pub found_deleted : IsFree before x.thread (request.TimerDelete id) → Finds
    found_deleted f = finds (not_held [] (refused_where (is_none (timer_at list.timers owner id)) EINVAL) [] f)

    -- each timer where this one is set
    after_set :
        (n first interval : ℕ) (w : Finds) →
        numbered n (change_first (is_timer owner id) (with_arming (arming_at list.clock first interval)) list.timers)
        ≡ (if w.timer.number == n then Some (record w.timer { arming = set_arming list.clock first interval }) else numbered n list.timers)
    after_set n first interval w =
        numbered-changed (is_timer owner id) (with_arming (arming_at list.clock first interval)) (λ t. refl) n 0 list.made list.timers w.timer in_order w.at
        ∙ ap (λ o. if w.timer.number == n then Some (record w.timer { arming = o }) else numbered n list.timers) (arming_is list.clock first interval)

  -- what a timer_create(3C) makes

  abbrev new_one : ℕ → ℕ → Timer
  new_one q user = new_timer list owner q user

  not_full : (port : Fd) (user : ℕ) → IsFree before x.thread (request.TimerCreate port user) → has_all_timers list.timers owner ≡ false
  not_full port user f =
      not_held (port_tests (object_at before owner port)) (refused_where (has_all_timers list.timers owner) EAGAIN) [] f

  creates_one :
      (n : ℕ) (port : Fd) (user : ℕ) → IsFree before x.thread (request.TimerCreate port user) → x.request ≡ Some (request.TimerCreate port user) →
      answer_at m xs i x ≡ answer.Count (free_id list.timers owner) → n ≡ list.made + 1 →
      Creates m xs i x n (new_timer list owner (port_at before owner port) user)
  creates_one n port user f g h next_one =
      record {
        port = port;
        request = g;
        answered = h;
        of_port = names_port m xs k i x e port (create_timer_tests list.timers owner) f;
        by_own = refl;
        number = sym next_one;
        next = next_one;
        not_armed = refl;
        free = identified_is list.timers owner (free_id list.timers owner) ∙ (free_is owner list.timers (not_full port user f)).1;
        lowest = λ id l. stands id (all_below list.timers owner id l);
      }
    where
      stands : (id : ℕ) → is_none (timer_at list.timers owner id) ≡ false → Stands before owner id
      stands id l = go (timer_at list.timers owner id) refl l
        where
          go : (o : Option Timer) → timer_at list.timers owner id ≡ o → is_none o ≡ false → Stands before owner id
          go None p q = absurd (cc q)
          go (Some t) p q = record { timer = t; there = identified_is list.timers owner id ∙ p }

  module _ (n : ℕ) where
    -- what an act makes of timer n
    data Acted : Option Timer → Option Timer → Type 0 where
      same : {o : Option Timer} → Acted o o
      begun : (t : Timer) → Creates m xs i x n t → Acted None (Some t)
      is_set :
          (t : Timer) (first interval : ℕ) → Sets m xs i x t first interval →
          Acted (Some t) (Some (record t { arming = set_arming (clock_at (state_at m xs i)) first interval }))
      ended : (t : Timer) → Ends m xs i x t → Acted (Some t) None

    create_acts :
        (port : Fd) (user : ℕ) → IsFree before x.thread (request.TimerCreate port user) → x.request ≡ Some (request.TimerCreate port user) →
        answer_at m xs i x ≡ answer.Count (free_id list.timers owner) →
        Acted (numbered n list.timers) (numbered n (list.timers ++ new_timer list owner (port_at before owner port) user ∷ []))
    create_acts port user f g h = go ((list.made + 1) == n) refl
      where
        new : Timer
        new = new_timer list owner (port_at before owner port) user

        go :
            (b : Bool) → ((list.made + 1) == n) ≡ b →
            Acted (numbered n list.timers) (numbered n (list.timers ++ new_timer list owner (port_at before owner port) user ∷ []))
        go true l =
            let next_one : n ≡ list.made + 1 = grind (arith, nat_tests) in
            let none : numbered n list.timers ≡ None = numbered-past n 0 list.made list.timers (omega (arith, next_one)) in_order in
            subst (λ o. Acted o (numbered n (list.timers ++ new_timer list owner (port_at before owner port) user ∷ []))) (sym none)
            (subst (Acted None) (sym (numbered-push n list.timers (new_timer list owner (port_at before owner port) user) none ∙ ap (λ (b : Bool). if b then Some (new_timer list owner (port_at before owner port) user) else None) l))
            (Acted.begun (new_timer list owner (port_at before owner port) user) (creates_one n port user f g h next_one)))
        go false l =
            subst (Acted (numbered n list.timers)) (sym (numbered-other n list.timers (new_timer list owner (port_at before owner port) user) l)) Acted.same

    set_acts :
        (id first interval : ℕ) → IsFree before x.thread (request.TimerSet id first interval) → x.request ≡ Some (request.TimerSet id first interval) →
        answer_at m xs i x ≡ answer.Done →
        Acted (numbered n list.timers) (numbered n (change_first (is_timer owner id) (with_arming (arming_at list.clock first interval)) list.timers))
    set_acts id first interval f g h = by_found (found_set id first interval f)
      where
        by_found :
            Finds id →
            Acted (numbered n list.timers) (numbered n (change_first (is_timer owner id) (with_arming (arming_at list.clock first interval)) list.timers))
        by_found w = subst (Acted (numbered n list.timers)) (sym (after_set id n first interval w)) (go (w.timer.number == n) refl)
          where
            sets : Sets m xs i x w.timer first interval
            sets =
                record {
                  request = g ∙ ap (λ z. Some (request.TimerSet z first interval)) w.same_id;
                  answered = h;
                  by_own = w.by_own;
                }

            go :
                (b : Bool) → (w.timer.number == n) ≡ b →
                Acted (numbered n list.timers) (if b then Some (record w.timer { arming = set_arming list.clock first interval }) else numbered n list.timers)
            go false l = Acted.same
            go true l =
                let here : w.timer.number ≡ n = grind (arith, nat_tests) in
                subst (λ o. Acted o (Some (record w.timer { arming = set_arming (clock_at (state_at m xs i)) first interval })))
                (sym (ap (λ j. numbered j list.timers) (sym here) ∙ w.under))
                (Acted.is_set w.timer first interval sets)

    delete_acts :
        (id : ℕ) → x.request ≡ Some (request.TimerDelete id) → answer_at m xs i x ≡ answer.Done →
        Acted (numbered n list.timers) (numbered n (filter (is_other_timer owner id) list.timers))
    delete_acts id g h =
        subst (Acted (numbered n list.timers)) (sym (numbered-filter n (is_other_timer owner id) 0 list.made list.timers in_order))
        (go (numbered n list.timers))
      where
        go : (o : Option Timer) → Acted o (kept n (is_other_timer owner id) o)
        go None = Acted.same
        go (Some t) = by (is_timer owner id t) refl
          where
            by : (b : Bool) → is_timer owner id t ≡ b → Acted (Some t) (if not b then Some t else None)
            by false f = Acted.same
            by true f =
                let same_id : id ≡ t.id = grind (arith, nat_tests, f) in
                let own : t.process.0 ≡ owner = grind (arith, nat_tests, f) in
                Acted.ended t (Ends.deleted (g ∙ ap (λ z. Some (request.TimerDelete z)) same_id) h own)

    passing_acts :
        (r : Request) (c : Channels) (a : Answer) → IsPassing before x.thread r c a → x.request ≡ Some r → answer_at m xs i x ≡ a →
        Acted (numbered n list.timers) (numbered n c.timers.timers)
    passing_acts r c a (IsPassing.creates_timer port user f) g h = create_acts port user f g h
    passing_acts r c a (IsPassing.sets_timer id first interval f) g h = set_acts id first interval f g h
    passing_acts r c a (IsPassing.deletes_timer id f) g h = delete_acts id g h
    passing_acts r c a (IsPassing.advances by) g h = Acted.same
    passing_acts r c a p g h = Acted.same

    move_acts :
        (q : Option Request) (a : ActResult) → Moves before x.thread q a → x.request ≡ q → answer_at m xs i x ≡ a.answer →
        Acted (numbered n list.timers) (numbered n (timers_in a.state))
    move_acts q a (Moves.passes r c y p) g h = passing_acts r c y p g h
    move_acts q a (Moves.makes_channel r c objects y (IsMaking.makes_pipe f)) g h = Acted.same
    move_acts q a (Moves.makes_channel r c objects y (IsMaking.makes_port f)) g h = Acted.same
    move_acts q a y g h = Acted.same

    acts : Acted (numbered n list.timers) (numbered n (timers_in (act (state_at m xs i) x.thread x.request).state))
    acts = move_acts x.request (act (state_at m xs i) x.thread x.request) (act_moves (state_at m xs i) x.thread x.request) refl (answer_of m xs k.known i x e)

  -- with what follows the act

  live_before : (n : ℕ) (t : Timer) → numbered n list.timers ≡ Some t → is_live_process before t.process.0 ≡ true
  live_before n t f =
      All-find (λ (u : Timer). is_live_process (state_at m xs i) u.process.0 ≡ true) _ list.timers t (k.known.invariant i within).told.timers
      (sym (numbered_is n list.timers) ∙ f)

  change_here : (n : ℕ) → TimerChange m xs i x n (timer_under before n) (timer_under later n)
  change_here n = subst (TimerChange m xs i x n (timer_under before n)) (sym (told n)) (joined (numbered n list.timers) _ (acts n) refl)
    where
      by_own :
          (r : Request) → x.request ≡ Some r → (p : ℕ) → p ≡ owner → is_live_process later p ≡ false → EndsProcess m xs i x p
      by_own r f p g h = ends_process p (ap (is_live_process before) g ∙ own_lives r f) h

      no_kill : (r : Request) (p : ℕ) → x.request ≡ Some r → EndsProcess m xs i x p → ((q : _) → r ≡ request.Kill q → ⊥) → (r ≡ request.Exit → ⊥) → ⊥
      no_kill r p f (EndsProcess.kills q g h l) not_kill not_exit = not_kill q (inside (sym f ∙ g))
        where
          inside : Some r ≡ Some (request.Kill q) → r ≡ request.Kill q
          inside z = cc
      no_kill r p f (EndsProcess.exits g h l) not_kill not_exit = not_exit (inside (sym f ∙ g))
        where
          inside : Some r ≡ Some request.Exit → r ≡ request.Exit
          inside z = cc

      joined : (o p : Option Timer) → Acted n o p → numbered n list.timers ≡ o → TimerChange m xs i x n o (left n p)
      joined None None Acted.same f = TimerChange.none
      joined (Some t) _ Acted.same f = by (is_live_process later t.process.0) refl
        where
          by : (b : Bool) → is_live_process later t.process.0 ≡ b → TimerChange m xs i x n (Some t) (if b then Some t else None)
          by true g = TimerChange.stays t
          by false g = TimerChange.ends t (Ends.with_process (ends_process t.process.0 (live_before n t f) g))
      joined None _ (Acted.begun t c) f = by (is_live_process later t.process.0) refl
        where
          by : (b : Bool) → is_live_process later t.process.0 ≡ b → TimerChange m xs i x n None (if b then Some t else None)
          by true g = TimerChange.begins t c
          by false g =
              absurd
              (no_kill (request.TimerCreate c.port t.user) t.process.0 c.request
              (by_own (request.TimerCreate c.port t.user) c.request t.process.0 c.by_own g) (λ q z. cc z) (λ z. cc z))
      joined (Some t) _ (Acted.is_set _ first interval s) f = by (is_live_process later t.process.0) refl
        where
          by :
              (b : Bool) → is_live_process later t.process.0 ≡ b →
              TimerChange m xs i x n (Some t) (if b then Some (record t { arming = set_arming (clock_at (state_at m xs i)) first interval }) else None)
          by true g = TimerChange.is_set t first interval s
          by false g = TimerChange.ends t (Ends.with_process (ends_process t.process.0 (live_before n t f) g))
      joined (Some t) _ (Acted.ended _ w) f = TimerChange.ends t w

  -- where there is a reason that one ends

  pub ended_here : (n : ℕ) (t : Timer) → numbered n list.timers ≡ Some t → Ends m xs i x t → timer_under later n ≡ None
  ended_here n t f (Ends.with_process w) = told n ∙ go (numbered n list.timers) _ (acts n) f
    where
      gone : is_live_process later t.process.0 ≡ false
      gone = ended_then t.process.0 w

      go : (o p : Option Timer) → Acted n o p → o ≡ Some t → left n p ≡ None
      go o p Acted.same g = ap (left n) g ∙ ap (λ (b : Bool). if b then Some t else None) gone
      go o p (Acted.begun u c) g = absurd (cc g)
      go o p (Acted.is_set u first interval s) g =
          let same : u ≡ t = cc in
          ap (λ (y : Timer). if is_live_process later y.process.0 then Some (record u { arming = set_arming (clock_at (state_at m xs i)) first interval }) else None) same
          ∙ ap (λ (b : Bool). if b then Some (record u { arming = set_arming (clock_at (state_at m xs i)) first interval }) else None) gone
      go o p (Acted.ended u w2) g = refl
  ended_here n t f (Ends.deleted g h own) =
      told n
      ∙ ap (left n)
      (ap (λ (z : State). numbered n (timers_in z)) (entry_acted m xs k.known i x e (request.TimerDelete t.id) g (is_free m xs k.known i x e (request.TimerDelete t.id) answer.Done g h (λ y z. cc)))
      ∙ numbered-filter n (is_other_timer owner t.id) 0 list.made list.timers in_order
      ∙ ap (kept n (is_other_timer owner t.id)) f
      ∙ ap (λ (b : Bool). if not b then Some t else None) it)
    where
      it : is_timer owner t.id t ≡ true
      it = grind (arith, nat_tests, own)

  -- what each turn does

  -- an act of a timer ends no process
  lives_on : (r : Request) (c : Channels) → acted ≡ record (state_at m xs i) { channels = c } → x.request ≡ Some r → is_live_process later owner ≡ true
  lives_on r c f g =
      lives_later owner ∙ ap (λ (z : State). is_live_process z owner) f ∙ own_lives r g

  set_here :
      (id first interval : ℕ) → x.request ≡ Some (request.TimerSet id first interval) → answer_at m xs i x ≡ answer.Done →
      Becomes m xs i x id (λ t. Some (record t { arming = set_arming (clock_at (state_at m xs i)) first interval }))
  set_here id first interval g h = go (found_set id first interval free)
    where
      free : IsFree before x.thread (request.TimerSet id first interval)
      free = is_free m xs k.known i x e (request.TimerSet id first interval) answer.Done g h (λ y z. cc)

      entered : acted ≡ (effect before x.thread owner (request.TimerSet id first interval)).state
      entered = entry_acted m xs k.known i x e (request.TimerSet id first interval) g free

      itself : (n : ℕ) → (n == n) ≡ true
      itself n = grind (arith, nat_tests)

      go : Finds id → Becomes m xs i x id (λ t. Some (record t { arming = set_arming (clock_at (state_at m xs i)) first interval }))
      go w =
          record {
            timer = w.timer;
            there = identified_is list.timers owner id ∙ w.at;
            left =
                told w.timer.number
                ∙ ap (left w.timer.number)
                (ap (λ (z : State). numbered w.timer.number (timers_in z)) entered
                ∙ after_set id w.timer.number first interval w
                ∙ ap (λ (b : Bool). if b then Some (record w.timer { arming = set_arming list.clock first interval }) else numbered w.timer.number list.timers)
                (itself w.timer.number))
                ∙ ap (λ (b : Bool). if b then Some (record w.timer { arming = set_arming (clock_at (state_at m xs i)) first interval }) else None)
                (ap (is_live_process later) w.by_own ∙ lives_on (request.TimerSet id first interval) _ entered g);
          }

  deleted_here :
      (id : ℕ) → x.request ≡ Some (request.TimerDelete id) → answer_at m xs i x ≡ answer.Done → Becomes m xs i x id (λ t. None)
  deleted_here id g h = go (found_deleted id (is_free m xs k.known i x e (request.TimerDelete id) answer.Done g h (λ y z. cc)))
    where
      go : Finds id → Becomes m xs i x id (λ t. None)
      go w =
          record {
            timer = w.timer;
            there = identified_is list.timers owner id ∙ w.at;
            left =
                ended_here w.timer.number w.timer w.under
                (Ends.deleted (g ∙ ap (λ z. Some (request.TimerDelete z)) w.same_id) h w.by_own);
          }

  created_here :
      (port : Fd) (user id : ℕ) → x.request ≡ Some (request.TimerCreate port user) → answer_at m xs i x ≡ answer.Count id → IsCreated m xs i x user id
  created_here port user id g h =
      record {
        timer = new;
        creates = creates_one (list.made + 1) port user free g answered refl;
        same_id = same_count _ _ (sym answered ∙ h);
        same_user = refl;
        after =
            told (list.made + 1)
            ∙ ap (left (list.made + 1))
            (ap (λ (z : State). numbered (list.made + 1) (timers_in z)) entered
            ∙ numbered-push (list.made + 1) list.timers new (numbered-past (list.made + 1) 0 list.made list.timers (omega arith) in_order)
            ∙ ap (λ (b : Bool). if b then Some new else None) (itself (list.made + 1)))
            ∙ ap (λ (b : Bool). if b then Some new else None) (lives_on (request.TimerCreate port user) _ entered g);
      }
    where
      new : Timer
      new = new_timer (state_at m xs i).channels.timers (process_at m xs i x.thread) (port_at (state_at m xs i) (process_at m xs i x.thread) port) user

      free : IsFree before x.thread (request.TimerCreate port user)
      free = is_free m xs k.known i x e (request.TimerCreate port user) (answer.Count id) g h (λ y z. cc)

      entered : acted ≡ (effect before x.thread owner (request.TimerCreate port user)).state
      entered = entry_acted m xs k.known i x e (request.TimerCreate port user) g free

      answered : answer_at m xs i x ≡ answer.Count (free_id list.timers owner)
      answered = entry_answer m xs k.known i x e (request.TimerCreate port user) g free

      same_count : (a b : ℕ) → answer.Count a ≡ answer.Count b → a ≡ b
      same_count a b z = cc

      itself : (n : ℕ) → (n == n) ≡ true
      itself n = grind (arith, nat_tests)

-- how many were made

passing_made :
    (m : State) (t : ℕ) (r : Request) (c : Channels) (a : Answer) → IsPassing m t r c a → creates (Some r) ≡ false → c.timers.made ≡ timers_made m
passing_made m t r c a (IsPassing.creates_timer port user f) other = absurd (true≢false other)
passing_made m t r c a p other = refl

move_made : (m : State) (t : ℕ) (q : Option Request) (a : ActResult) → Moves m t q a → creates q ≡ false → timers_made a.state ≡ timers_made m
move_made m t q a (Moves.passes r c x p) other = passing_made m t r c x p other
move_made m t q a (Moves.makes_channel r c objects x (IsMaking.makes_pipe f)) other = refl
move_made m t q a (Moves.makes_channel r c objects x (IsMaking.makes_port f)) other = refl
move_made m t q a _ other = refl

abbrev made_more : State → Option Request → ActResult → Type 0
made_more m q a = timers_made a.state ≡ timers_made m + (if creates q && tells_count a.answer then 1 else 0)

act_made : (m : State) (t : ℕ) (q : Option Request) → made_more m q (act m t q)
act_made m t (Some (request.TimerCreate port user)) = go (refusal_of m t (process_of m t) (request.TimerCreate port user))
  where
    go :
        (o : Option Errno) →
        made_more m (Some (request.TimerCreate port user)) (unless_refused m o (effect m t (process_of m t) (request.TimerCreate port user)))
    go (Some y) = omega arith
    go None = refl
act_made m t q = by (creates q) refl
  where
    by : (b : Bool) → creates q ≡ b → timers_made (act m t q).state ≡ timers_made m + (if creates q && tells_count (act m t q).answer then 1 else 0)
    by false f = omega (arith, move_made m t q (act m t q) (act_moves m t q) f, ap {B = ℕ} (λ (b : Bool). if b && tells_count (act m t q).answer then 1 else 0) f)
    by true f = absurd (cc f)

made_settled : (before m : State) → timers_made (settle before m) ≡ timers_made m
made_settled before m = ap (λ (c : Channels). c.timers.made) (channels-settle_pools before m)

step_made : (m : State) (t : ℕ) (q : Option Request) → timers_made (step m t q).state ≡ timers_made (act m t q).state
unfolding step
step_made m t q = made_settled m (act m t q).state

pub timer_lives_hold : (m : State) (xs : List Turn) → KnownChannels m xs → TimerLives m xs
timer_lives_hold m xs k =
    record {
      none_at_first = ap (λ (c : Channels). c.timers.made) k.empty;
      in_order = λ i l. (k.fits i l).timers.in_order;
      of_live = λ i n t l f.
          All-find (λ (u : Timer). is_live_process (state_at m xs i) u.process.0 ≡ true) _ (timers_in (state_at m xs i)) t (k.known.invariant i l).told.timers
          (sym (numbered_is n (timers_in (state_at m xs i))) ∙ f);
      one_each = λ i n t l f.
          identified_is (timers_in (state_at m xs i)) t.process.0 t.id
          ∙ own_id t.process.0 t.id n (timers_in (state_at m xs i)) t (k.fits i l).timers.distinct
          (sym (numbered_is n (timers_in (state_at m xs i))) ∙ f) (itself t);
      few = λ i n t l f.
          omega (
            arith,
            (All-find (IsTimer (length (state_at m xs i).channels.ports) (clock_at (state_at m xs i))) _ (timers_in (state_at m xs i)) t (k.fits i l).timers.each
                (sym (numbered_is n (timers_in (state_at m xs i))) ∙ f)).id,
          );
      changes = λ i n x e. change_here m xs k i x e n;
      made = λ i x e.
          ap timers_made (next m xs k.known i x e)
          ∙ step_made (state_at m xs i) x.thread x.request
          ∙ act_made (state_at m xs i) x.thread x.request
          ∙ ap (λ a. timers_made (state_at m xs i) + (if creates x.request && tells_count a then 1 else 0)) (sym (answer_of m xs k.known i x e));
      created = λ i x port user id e f g. created_here m xs k i x e port user id f g;
      set = λ i x id first interval e f g. set_here m xs k i x e id first interval f g;
      deleted = λ i x id e f g. deleted_here m xs k i x e id f g;
      ended = λ i n x t e f w. ended_here m xs k i x e n t f w;
    }
  where
    itself : (t : Timer) → is_timer t.process.0 t.id t ≡ true
    itself t = grind (arith, nat_tests)
