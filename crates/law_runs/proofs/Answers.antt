-- What each request and each end of a wait answers.
use Rattle.std.specs.Prelude.{ℕ, ◌≡◌, List, Option, Bool, true, false, if◌then◌else◌, Some, None, ◌≤◌, ◌<◌, ◌-◌, ◌==◌, ◌&&◌, ◌||◌, [], ◌∷◌, zero, suc, is_some, length, map, nat_le, not, slice_get, take}
use Rattle.std.proofs.Common.{refl, sym, ap, subst, inl, inr, ◌∙◌}
use Rattle.std.proofs.lemmas.List.{length-map}
use native.Mathlib.Omega.{arith}
use Rattle.spec_kernel.specs.Types.{Answer, Call, Errno, Fd, Name, Obj, Queued, Request, ThreadState}
use Rattle.dk_base.specs.declared.object.Item.TheVariants as item
use Rattle.spec_records.specs.declared.record.ThreadState.TheVariants as is
use Rattle.spec_records.specs.Words.{Port, alert_event, events_found, first_found, found_at, has_all_timers, has_bad_count, is_given_as, is_given_notice_as, is_ready_for, must_wait, port_in, record_of, records_of, refused_where}
use Rattle.spec_records.proofs.NumberedLists.{find-passes}
use Rattle.dk_base.specs.declared.request.Request.TheVariants as request
use Rattle.spec_kernel.specs.Words.{State, Turn, accept_call, accept_notice, after_sending, await_name, begin_call, effect, errors_of_sending, event_answer, fail_begin, found_answer, get, get_from, get_many, go_on, has_invalid_door, has_port_references, has_room, held_in, name_of, object_at, pipe_at, port, port_at, port_tests, process_of, refusal_of, retrieve, return_parked, return_unbound, state_at, state_of, step, tell_queued, timers_in, unless_refused, wait_for, with_state}
use Rattle.spec_kernel.proofs.Refusals.{last_not_held, not_held}
use Rattle.law_channels.proofs.TimerLists.{free_is}
use Rattle.law_runs.specs.Channels.{AreEnough, alert_in, port_under}
use Rattle.law_runs.specs.Answers.{Answers, AnswersEndsOfWaits, AnswersRequests, EndAnswers}
use Rattle.spec_kernel.proofs.Moves.{act_result, given_is, given_notice_is}
use Rattle.law_states.specs.Events.{IsReadyEnd, IsReadyTurn}
use Rattle.law_places.specs.Places.{IsCollect, answer_at}
use Rattle.law_places.specs.References.{references_of_port}
use Rattle.law_places.proofs.References.{references_of_port_are}
use Rattle.law_runs.specs.Cause.{Cause}
use Rattle.law_runs.proofs.Cause.{cause_holds}
use Rattle.law_places.proofs.Known.{Known}
use Rattle.spec_records.specs.declared.port.Alert.{Alert}
use Rattle.std.proofs.lemmas.Bool.Decides.{nat_tests}
use Rattle.dk_base.specs.declared.answer.Answer.TheVariants as answer
use Rattle.dk_base.specs.declared.limits.TheConstants.{PIPE_MAX}
use Rattle.dk_base.specs.declared.error.Errno.TheVariants.{EAGAIN, EBADF, EINVAL, ETIME}
use Rattle.law_states.specs.Coherent.{is_fit_wait}

-- at most so many, and no more than there are
take_at_most : {X : Type 0} (n : ℕ) (xs : List X) → (length (take n xs) ≤ n) × (length (take n xs) ≤ length xs)
take_at_most zero xs = (omega arith, omega arith)
take_at_most (suc n) [] = (omega arith, omega arith)
take_at_most (suc n) (x ∷ xs) = let h = take_at_most n xs in (omega (arith, h.0), omega (arith, h.1))

-- what a get finds

record IsFound (x : Port) : Type 0 where
  event : Queued
  first : first_found x ≡ Some event

found_one : (x : Port) → is_ready_for 1 x ≡ true → IsFound x
found_one x h = go x.alert x.queue refl h
  where
    go : (a : Option Alert) (qs : List Queued) → first_found x ≡ slice_get (found_at 1 a qs) 0 → (is_some a || nat_le 1 (length qs)) ≡ true → IsFound x
    go (Some a) qs e f = record { event = alert_event a; first = e }
    go None (q ∷ qs) e f = record { event = q; first = e }
    go None [] e f = absurd (grind (arith, nat_tests, f))

pub take_enough : {X : Type 0} (n k : ℕ) (xs : List X) → k ≤ n → k ≤ length xs → k ≤ length (take n xs)
take_enough zero k xs a b = a
take_enough (suc n) k [] a b = b
take_enough (suc n) zero (x ∷ xs) a b = omega arith
take_enough (suc n) (suc k) (x ∷ xs) a b = let h = take_enough n k xs (omega (arith, a)) (omega (arith, b)) in omega (arith, h)

-- of a port that is ready for so many
enough : (m : State) (q max nget : ℕ) → 0 < max → nget ≤ max → is_ready_for nget (port m q) ≡ true → AreEnough m q max nget (records_of (events_found max (port m q)))
enough m q max nget l k r = go (port_under m q) refl
  where
    own : (x : Port) (a : Option Alert) → x.alert ≡ a → port_under m q ≡ Some x → (is_some a || nat_le nget (length x.queue)) ≡ true → AreEnough m q max nget (records_of (found_at max a x.queue))
    own x (Some a) e f g = AreEnough.alert a (ap alert_in f ∙ e)
    own x None e f g =
        let some : nget ≤ length x.queue = grind (arith, nat_tests, g) in
        AreEnough.events _ (ap alert_in f ∙ e)
        (omega (arith, length-map (take max x.queue) record_of, take_enough max nget x.queue k some))
        (omega (arith, length-map (take max x.queue) record_of, (take_at_most max x.queue).0))

    go : (o : Option Port) → port_under m q ≡ o → AreEnough m q max nget (records_of (events_found max (port m q)))
    go (Some x) e =
        subst (λ y. AreEnough m q max nget (records_of (events_found max y))) (sym (ap port_in e))
        (own x x.alert refl e (ap (λ y. is_ready_for nget (port_in y)) (sym e) ∙ r))
    go None e =
        subst (λ y. AreEnough m q max nget (records_of (events_found max y))) (sym (ap port_in e))
        (let none : nget ≤ 0 = grind (arith, nat_tests, ap (λ y. is_ready_for nget (port_in y)) (sym e) ∙ r) in
        AreEnough.events (records_of (take max [])) (ap alert_in e)
        (omega (arith, none))
        (omega (arith, length-map (take max []) record_of, (take_at_most {X = Queued} max []).0)))

at_most : (x : Port) (max : ℕ) → 0 < max → length (records_of (events_found max x)) ≤ max
at_most x max l = go x.alert
  where
    go : (a : Option Alert) → length (records_of (found_at max a x.queue)) ≤ max
    go None = omega (arith, length-map (take max x.queue) record_of, (take_at_most max x.queue).0)
    go (Some a) = omega (arith, l)

one_each : (ports : List Port) (os : List (Option Obj)) (events user : ℕ) → length (errors_of_sending ports os events user) ≡ length os
one_each ports [] events user = refl
one_each ports (o ∷ os) events user = ap suc (one_each (after_sending ports o events user) os events user)

-- a get without a wait that finds too little is refused
pub asks_to_wait : (wait ready : Bool) → (not wait && not ready) ≡ false → ready ≡ false → wait ≡ true
asks_to_wait true ready e f = refl
asks_to_wait false ready e f = absurd (grind arith)

some_max : (max : ℕ) → (max == 0) ≡ false → 0 < max
some_max max e = grind (arith, nat_tests, e)

module _ (m : State) (t p : ℕ) (fd : Fd) (wait : Bool) where
  one_answers : refusal_of m t p (request.Get fd wait) ≡ None → Answers (request.Get fd wait) (get m t p fd).answer
  one_answers none = go (is_ready_for 1 (port m (port_at m p fd))) refl
    where
      event : (o : Option Queued) (q : Queued) → o ≡ Some q → Answers (request.Get fd wait) (event_answer o)
      event o q e = subst (λ z. Answers (request.Get fd wait) (event_answer z)) (sym e) (Answers.gets fd wait q.rec)

      go :
          (b : Bool) → is_ready_for 1 (port m (port_at m p fd)) ≡ b →
          Answers (request.Get fd wait)
          (if b then retrieve m (port_at m p fd) 1 true else wait_for m t (port_at m p fd) 1 1 true).answer
      go true e = let f : IsFound (port m (port_at m p fd)) = found_one (port m (port_at m p fd)) e in event _ f.event f.first
      go false e =
          subst (λ w. Answers (request.Get fd w) answer.Wait)
          (sym (asks_to_wait wait _ (not_held (port_tests (object_at m p fd)) _ [] none) e))
          (Answers.waits_for_one fd)

  many_answer :
      (max nget : ℕ) → refusal_of m t p (request.GetN fd max nget wait) ≡ None →
      Answers (request.GetN fd max nget wait) (get_many m t p fd max nget).answer
  many_answer max nget none = by_max (max == 0) refl
    where
      by_events :
          (max == 0) ≡ false → (b : Bool) → is_ready_for nget (port m (port_at m p fd)) ≡ b →
          Answers (request.GetN fd max nget wait)
          (if b then retrieve m (port_at m p fd) max false else wait_for m t (port_at m p fd) max nget false).answer
      by_events z true e = Answers.gets_many fd max nget wait _ (some_max max z) (at_most (port m (port_at m p fd)) max (some_max max z))
      by_events z false e =
          subst (λ w. Answers (request.GetN fd max nget w) answer.Wait)
          (sym (asks_to_wait wait _
          (ap (λ b. not wait && (not b && not (is_ready_for nget (port m (port_at m p fd))))) (sym z)
          ∙ last_not_held (port_tests (object_at m p fd)) (refused_where (has_bad_count max nget) EINVAL)
          (refused_where (not wait && must_wait max nget (port m (port_at m p fd))) ETIME)
          none)
          e))
          (Answers.waits_for_many fd max nget (some_max max z))

      by_max :
          (b : Bool) → (max == 0) ≡ b →
          Answers (request.GetN fd max nget wait)
          (if b then tell_queued m (port_at m p fd) else get_from m t (port_at m p fd) max nget false).answer
      by_max true z = Answers.tells_queued fd max nget wait _ (grind (arith, nat_tests, z))
      by_max false z = by_events z (is_ready_for nget (port m (port_at m p fd))) refl

effect_answers :
    (m : State) (t p : ℕ) (r : Request) → refusal_of m t p r ≡ None → Answers r (effect m t p r).answer
effect_answers m t p (request.Create entry cookie attrs) none = Answers.creates entry cookie attrs _
effect_answers m t p (request.Dup fd) none = Answers.copies fd _
effect_answers m t p (request.Open path) none = Answers.opens path _
effect_answers m t p (request.Call fd bytes pass rsize) none = Answers.calls fd bytes pass rsize _
effect_answers m t p (request.Return bytes pass) none = go (has_invalid_door m t)
  where
    go : (b : Bool) → Answers (request.Return bytes pass) (if b then return_unbound m t p bytes pass else return_parked m t p bytes pass).answer
    go true = Answers.fails _ _
    go false = Answers.returns bytes pass
effect_answers m t p (request.Await path) none = go (name_of m path)
  where
    go : (o : Option Name) → Answers (request.Await path) (await_name m t path o).answer
    go (Some n) = Answers.finds path
    go None = Answers.waits path
effect_answers m t p (request.Info fd) none = Answers.informs fd _
effect_answers m t p request.InfoQuery none = Answers.informs_bound _
effect_answers m t p (request.GetParam fd x) none = Answers.values fd x _
effect_answers m t p request.Cred none = Answers.names_client _
effect_answers m t p request.TestCancel none = Answers.cancels _
effect_answers m t p (request.Revoke fd) none = Answers.revokes fd
effect_answers m t p (request.Bind fd) none = Answers.binds fd
effect_answers m t p request.Unbind none = Answers.unbinds
effect_answers m t p (request.SetParam fd x value) none = Answers.sets fd x value
effect_answers m t p (request.Close fd) none = Answers.closes fd
effect_answers m t p (request.Attach fd path) none = Answers.attaches fd path
effect_answers m t p (request.Detach path) none = Answers.detaches path
effect_answers m t p (request.Interrupt thread) none = Answers.interrupts thread
effect_answers m t p (request.Kill process) none = Answers.kills process
effect_answers m t p request.Exit none = Answers.exits
effect_answers m t p (request.Fork child) none = Answers.forks child
effect_answers m t p request.Pipe none = Answers.makes_pipe _ _
effect_answers m t p (request.Write fd bytes) none =
    Answers.writes fd bytes _ (take_at_most (PIPE_MAX - length (held_in m (pipe_at m p fd))) bytes).1
effect_answers m t p (request.Read fd max) none = Answers.reads fd max _ (take_at_most max (held_in m (pipe_at m p fd))).0
effect_answers m t p request.PortCreate none = Answers.makes_port _
effect_answers m t p (request.Get fd wait) none = one_answers m t p fd wait none
effect_answers m t p (request.GetN fd max nget wait) none = many_answer m t p fd wait max nget none
effect_answers m t p (request.Send fd events user) none = Answers.sends fd events user
effect_answers m t p (request.SendN fds events user) none =
    Answers.sends_each fds events user _ (one_each m.channels.ports (map (object_at m p) fds) events user ∙ length-map fds (object_at m p))
effect_answers m t p (request.Alert fd mode events user) none = Answers.alerts fd mode events user
effect_answers m t p (request.Associate port object events user) none = Answers.associates port object events user
effect_answers m t p (request.Dissociate port object) none = Answers.dissociates port object
effect_answers m t p (request.TimerCreate port user) none =
    Answers.makes_timer port user _
    (omega (
      arith,
      (free_is p (timers_in m) (not_held (port_tests (object_at m p port)) (refused_where (has_all_timers (timers_in m) p) EAGAIN) [] none)).0,
    ))
effect_answers m t p (request.TimerSet timer first interval) none = Answers.sets_timer timer first interval
effect_answers m t p (request.TimerDelete timer) none = Answers.deletes_timer timer
effect_answers m t p (request.Advance by) none = Answers.advances by
effect_answers m t p (request.Work op bytes) none = Answers.works op bytes
effect_answers m t p (request.Ncd line) none = Answers.replies line

step_answers : (m : State) (t : ℕ) (r : Request) → Answers r (step m t (Some r)).answer
unfolding step
step_answers m t r = go (refusal_of m t (process_of m t) r) refl
  where
    go : (o : Option Errno) → refusal_of m t (process_of m t) r ≡ o → Answers r (unless_refused m o (effect m t (process_of m t) r)).answer
    go (Some e) f = Answers.fails r e
    go None f = effect_answers m t (process_of m t) r f

pub answers_requests : (m : State) (xs : List Turn) → Known m xs → AnswersRequests m xs
answers_requests m xs k i x r e f =
    subst (λ q. Answers r (step (state_at m xs i) x.thread q).answer) (sym f)
    (step_answers (state_at m xs i) x.thread r)

-- the ends of waits

cause_answers : (m : State) (xs : List Turn) (c e i : ℕ) (x : Turn) (a : Answer) → Cause m xs c e i x a → EndAnswers (state_at m xs i) (is.Calling c) a
cause_answers m xs c e i x a (Cause.results r w fds f back room) = EndAnswers.collects c _ fds _
cause_answers m xs c e i x a (Cause.caller_full r w f back room) = EndAnswers.collects_error c _ (inr (inr refl))
cause_answers m xs c e i x a (Cause.server_full r w h q f g y d) = EndAnswers.collects_error c _ (inr (inr refl))
cause_answers m xs c e i x a (Cause.door_invalid r f g v y d) = EndAnswers.collects_error c _ (inl refl)
cause_answers m xs c e i x a (Cause.interrupted r w h f u q d) = EndAnswers.collects_error c _ (inr (inl refl))
cause_answers m xs c e i x a (Cause.forked r w child h f u q y d o) = EndAnswers.collects_error c _ (inr (inl refl))
cause_answers m xs c e i x a (Cause.server_ended r u f g h d) = EndAnswers.collects_error c _ (inr (inl refl))

module _ (m : State) (t : ℕ) where
  call_answers :
      (c : ℕ) (r : Call) (b : Bool) →
      EndAnswers m (is.Given (item.Call r.number)) (if b then begin_call m t (process_of m t) c r else fail_begin m t c r).answer
  call_answers c r true = EndAnswers.enters r.number _ _ _ _
  call_answers c r false = EndAnswers.fails_to_enter r.number

  end_answers :
      (s : ThreadState) → IsReadyEnd m t s → ((c : ℕ) → s ≡ is.Calling c → EndAnswers m s (go_on m t (process_of m t) s).answer) →
      EndAnswers m s (go_on m t (process_of m t) s).answer
  end_answers (is.Given (item.Call c)) b h =
      subst (λ o. EndAnswers m (is.Given (item.Call c)) (accept_call m t (process_of m t) c o).answer) (sym b.there)
      (subst (λ d. EndAnswers m (is.Given (item.Call d)) (accept_call m t (process_of m t) c (Some b.made)).answer)
      (given_is c t b.made (find-passes (is_given_as c t) m.call_tree.calls b.made b.there)).0
      (call_answers c b.made (has_room m (process_of m t) b.made.objects)))
  end_answers (is.Given (item.Notice c)) b h =
      subst (λ o. EndAnswers m (is.Given (item.Notice c)) (accept_notice m t c o).answer) (sym b.there)
      (subst (λ d. EndAnswers m (is.Given (item.Notice d)) (accept_notice m t c (Some b.made)).answer)
      (given_notice_is c t b.made (find-passes (is_given_notice_as c t) m.notice_list.notices b.made b.there)).0
      (EndAnswers.enters_notice b.made.number _ _))
  end_answers (is.Calling c) b h = h c refl
  end_answers (is.Getting q max nget one true) b h = EndAnswers.was_interrupted q max nget one
  end_answers (is.Getting q max nget one false) b h = by_references (has_port_references m q) refl
    where
      ready : has_port_references m q ≡ true → is_ready_for nget (port m q) ≡ true
      ready r = grind (arith, r, b.0)

      -- by the law's count

      some_left : has_port_references m q ≡ true → 1 ≤ references_of_port m q
      some_left r = let same = references_of_port_are m q in grind (arith, nat_tests, r, same)

      none_left : has_port_references m q ≡ false → references_of_port m q ≡ 0
      none_left r = let same = references_of_port_are m q in grind (arith, nat_tests, r, same)

      event : (o : Option Queued) (z : Queued) → 1 ≤ references_of_port m q → o ≡ Some z → EndAnswers m (is.Getting q max nget true false) (event_answer o)
      event o z some e = subst (λ y. EndAnswers m (is.Getting q max nget true false) (event_answer y)) (sym e) (EndAnswers.gets q max nget z.rec some)

      found :
          1 ≤ references_of_port m q → is_ready_for nget (port m q) ≡ true → (s : Bool) → is_fit_wait max nget s ≡ true →
          EndAnswers m (is.Getting q max nget s false) (found_answer m q max s)
      found some r true f =
          let one : nget ≡ 1 = grind (arith, nat_tests, f) in
          let x : IsFound (port m q) = found_one (port m q) (ap (λ n. is_ready_for n (port m q)) (sym one) ∙ r) in
          event _ x.event some x.first
      found some r false f =
          EndAnswers.gets_many q max nget _ some
          (enough m q max nget (grind (arith, nat_tests, f)) (grind (arith, nat_tests, f)) r)

      by_references :
          (d : Bool) → has_port_references m q ≡ d →
          EndAnswers m (is.Getting q max nget one false)
          (if d then retrieve (with_state m t is.Running) q max one else act_result (with_state m t is.Running) (answer.Failure EBADF)).answer
      by_references true r = found (some_left r) (ready r) one b.1
      by_references false r = EndAnswers.lost_port q max nget one (none_left r)
  end_answers (is.Awaiting path) b h = EndAnswers.finds path
  end_answers (is.Working op input) b h = EndAnswers.ends_work op input
  end_answers is.FailedReturn b h = EndAnswers.wakes
  end_answers s b h = absurd b

  step_ends :
      IsReadyEnd m t (state_of m t) → ((c : ℕ) → state_of m t ≡ is.Calling c → EndAnswers m (state_of m t) (step m t None).answer) →
      EndAnswers m (state_of m t) (step m t None).answer
  unfolding step
  step_ends = end_answers (state_of m t)

pub answers_ends_of_waits : (m : State) (xs : List Turn) → Known m xs → AnswersEndsOfWaits m xs
answers_ends_of_waits m xs k i x e q = told (step_ends n x.thread (subst (IsReadyTurn n x.thread) q (k.keeps i x e).is_ready) collected)
  where
    n : State
    n = state_at m xs i

    told : EndAnswers n (state_of n x.thread) (step n x.thread None).answer → EndAnswers n (state_of n x.thread) (answer_at m xs i x)
    told = subst (λ r. EndAnswers n (state_of n x.thread) (step n x.thread r).answer) (sym q)

    collected : (c : ℕ) → state_of n x.thread ≡ is.Calling c → EndAnswers n (state_of n x.thread) (step n x.thread None).answer
    collected c f =
        let collect : IsCollect m xs i x c = record { no_request = q; calling = f } in
        subst (λ r. EndAnswers n (state_of n x.thread) (step n x.thread r).answer) q
        (subst (λ s. EndAnswers n s (answer_at m xs i x)) (sym f) (cause_answers m xs c _ i x _ ((cause_holds m xs k).told i c x e collect).cause))
