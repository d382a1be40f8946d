-- What a get, and the end of a wait, tells and takes of a port, and the ports that descriptors name.
use Rattle.std.specs.Prelude.{ℕ, ◌≡◌, ◌+◌, ◌==◌, ◌++◌, ◌≤◌, ◌&&◌, ◌||◌, List, [], ◌∷◌, Option, Bool, true, false, if◌then◌else◌, not, Some, None, is_none, is_some, length, nat_le, slice_get}
use Rattle.std.proofs.Common.{refl, sym, ap, subst, ◌∙◌}
use native.Mathlib.Omega.{arith}
use Rattle.std.proofs.lemmas.Bool.Decides.{nat_tests}
use Rattle.std.proofs.lemmas.Option.{slice_get_within}
use Rattle.spec_kernel.specs.Types.{Answer, Errno, EventRec, Fd, Queued, Thread}
use Rattle.dk_base.specs.declared.error.Errno.TheVariants.{EBADF, EBADFD, EINTR, EINVAL, ETIME}
use Rattle.dk_base.specs.declared.object.Obj.TheVariants as obj
use Rattle.dk_base.specs.declared.request.Request.TheVariants as request
use Rattle.dk_base.specs.declared.answer.Answer.TheVariants as answer
use Rattle.dk_base.specs.ByNumber.{at_number}
use Rattle.spec_records.specs.declared.port.Alert.{Alert}
use Rattle.spec_records.specs.declared.record.ThreadState.TheVariants as is
use Rattle.spec_records.specs.Words.{Port, Test, associations_of, events_found, first_found, first_refusal, found_at, has_bad_count, is_live_in, is_ready_for, must_wait, records_of, refused_where, state_in, thread_at_state}
use Rattle.spec_kernel.specs.Words.{Channels, State, Turn, act, effect, event_answer, found_answer, end_getting, get_from, go_on, has_port_references, holdings, is_live_process, is_port, object_at, port, port_at, port_named, port_tests, retrieve, state_at, state_of, take_found, tell_queued, wait_for, with_state}
use Rattle.spec_kernel.proofs.Moves.{IsFree, act_result}
use Rattle.spec_kernel.proofs.Refusals.{not_held}
use Rattle.spec_kernel.proofs.Threads.{processes-change_thread}
use Rattle.law_channels.specs.Channels.{WaitsAtMade, made_in}
use Rattle.law_channels.proofs.Elements.{All-at_number}
use Rattle.law_states.specs.Coherent.{is_fit_wait}
use Rattle.law_states.specs.Events.{IsReadyEnd, IsReadyTurn}
use Rattle.law_places.specs.Places.{answer_at, process_at}
use Rattle.law_runs.specs.Channels.{Names, told_alert}
use Rattle.law_runs.specs.PortEvents.{AsksPort, Tells}
use Rattle.law_runs.proofs.Channels.{IsThere, KnownChannels, answer_of, entry_acted, entry_answer, is_among, is_free}
use Rattle.law_runs.proofs.Parked.{IsThread, is_thread}
use Rattle.law_runs.proofs.Quiet.{IsQuiet, quiet_taken}
use Rattle.law_states.specs.Told.{AreTold}
use Rattle.law_runs.proofs.Sending.{port_is}

-- and how it is told
pub tells_one : (p : Port) → is_ready_for 1 p ≡ true → Tells (event_answer (first_found p)) (records_of (events_found 1 p))
tells_one p r = go p.alert p.queue r
  where
    go :
        (a : Option Alert) (qs : List Queued) → (is_some a || nat_le 1 (length qs)) ≡ true →
        Tells (event_answer (slice_get (found_at 1 a qs) 0)) (records_of (found_at 1 a qs))
    go (Some a) qs h = Tells.one (told_alert a)
    go None (q ∷ qs) h = Tells.one q.rec
    go None [] h = absurd (grind (arith, nat_tests, h))

pub tells_found :
    (m : State) (q max nget : ℕ) (one : Bool) → is_fit_wait max nget one ≡ true → is_ready_for nget (port m q) ≡ true →
    Tells (found_answer m q max one) (records_of (events_found max (port m q)))
tells_found m q max nget false f r = Tells.several _
tells_found m q max nget true f r =
    let first : max ≡ 1 = grind (arith, nat_tests, f) in
    let second : nget ≡ 1 = grind (arith, nat_tests, f) in
    subst (λ n. Tells (event_answer (first_found (port m q))) (records_of (events_found n (port m q)))) (sym first)
    (tells_one (port m q) (ap (λ n. is_ready_for n (port m q)) (sym second) ∙ r))

-- an answer tells one thing
tells_same : (a : Answer) (rs ss : List EventRec) → Tells a rs → Tells a ss → rs ≡ ss
tells_same a rs ss (Tells.one r) t = by t refl
  where
    by : {b : Answer} {us : List EventRec} → Tells b us → b ≡ answer.OneEvent r → (r ∷ []) ≡ us
    by (Tells.one s) e = cc
    by (Tells.several us) e = absurd (cc e)
tells_same a rs ss (Tells.several vs) t = by t refl
  where
    by : {b : Answer} {us : List EventRec} → Tells b us → b ≡ answer.Events vs → vs ≡ us
    by (Tells.one s) e = absurd (cc e)
    by (Tells.several us) e = cc

module _ (m : State) (xs : List Turn) (k : KnownChannels m xs) (i : ℕ) (x : Turn) (e : slice_get xs i ≡ Some x) where
  abbrev own : ℕ
  own = process_at m xs i x.thread

  abbrev ports : List Port
  ports = (state_at m xs i).channels.ports

  abbrev ports_after : List Port
  ports_after = (state_at m xs (i + 1)).channels.ports

  -- the port that a descriptor names, and at which a thread waits

  pub port_there : (fd : Fd) (q : ℕ) → object_at (state_at m xs i) own fd ≡ Some (obj.Port q) → IsThere (at_number ports q)
  port_there fd q f = is_among ports q ((k.fits i (omega (arith, slice_get_within xs i x e))).refers.rows own fd (obj.Port q) f)

  pub names_port :
      (fd : Fd) (others : List Test) → first_refusal (port_tests (object_at (state_at m xs i) own fd) ++ others) ≡ None →
      Names m xs i x fd (obj.Port (port_at (state_at m xs i) own fd))
  names_port fd others f =
      port_is (object_at (state_at m xs i) own fd)
      (not_held (refused_where (is_none (object_at (state_at m xs i) own fd)) EBADF ∷ [])
      (refused_where (not (is_port (object_at (state_at m xs i) own fd))) EBADFD) others f)

  pub waits_there : (q max nget : ℕ) (one b : Bool) → state_of (state_at m xs i) x.thread ≡ is.Getting q max nget one b → IsThere (at_number ports q)
  waits_there q max nget one b f = go (is_thread (state_at m xs i) x.thread (λ d. cc (sym f ∙ d)))
    where
      go : IsThread (state_at m xs i) x.thread → IsThere (at_number ports q)
      go y =
          let state : y.thread.state ≡ is.Getting q max nget one b = ap (λ (o : Option Thread). state_in o) (sym y.there) ∙ f in
          is_among ports q
          (subst (WaitsAtMade (made_in (state_at m xs i))) state
          (All-at_number (λ (z : Thread). WaitsAtMade (made_in (state_at m xs i)) z.state) (state_at m xs i).process_table.threads x.thread y.thread
          (k.fits i (omega (arith, slice_get_within xs i x e))).refers.waits y.there)).0

  -- a getn is for no more than it takes
  pub fit_count :
      (fd : Fd) (max nget : ℕ) (wait : Bool) → IsFree (state_at m xs i) x.thread (request.GetN fd max nget wait) → (max == 0) ≡ false → nget ≤ max
  fit_count fd max nget wait f z = grind (arith, nat_tests, z, few)
    where
      few : has_bad_count max nget ≡ false
      few =
          not_held (port_tests (object_at (state_at m xs i) own fd)) (refused_where (has_bad_count max nget) EINVAL)
          (refused_where (not wait && must_wait max nget (port (state_at m xs i) (port_at (state_at m xs i) own fd))) ETIME ∷ [])
          f

  -- a wait that ends finds enough where it is not told otherwise
  pub wait_fits :
      (q max nget : ℕ) (one : Bool) → x.request ≡ None → state_of (state_at m xs i) x.thread ≡ is.Getting q max nget one false →
      has_port_references (state_at m xs i) q ≡ true → (is_ready_for nget (port (state_at m xs i) q) ≡ true) × (is_fit_wait max nget one ≡ true)
  wait_fits q max nget one f s r =
      let b : IsReadyEnd (state_at m xs i) x.thread (is.Getting q max nget one false) =
      subst (IsReadyEnd (state_at m xs i) x.thread) s
      (subst (IsReadyTurn (state_at m xs i) x.thread) f (k.known.keeps i x e).is_ready)
      in
      (grind (arith, r, b.0), b.1)

  tells_no_error : (a : Answer) (rs : List EventRec) → Tells a rs → (y : Errno) → a ≡ answer.Failure y → ⊥
  tells_no_error a rs (Tells.one r) y f = cc f
  tells_no_error a rs (Tells.several ss) y f = cc f

  not_told : (a : Answer) (rs : List EventRec) → Tells a rs → a ≡ answer.Wait → ⊥
  not_told a rs (Tells.one r) f = cc f
  not_told a rs (Tells.several ss) f = cc f

  not_counted : (a : Answer) (rs : List EventRec) (n : ℕ) → Tells a rs → a ≡ answer.Available n → ⊥
  not_counted a rs n (Tells.one r) f = cc f
  not_counted a rs n (Tells.several ss) f = cc f

  told_at : (a : Answer) (rs ss : List EventRec) → answer_at m xs i x ≡ a → Tells a rs → Tells (answer_at m xs i x) ss → rs ≡ ss
  told_at a rs ss f t u = tells_same (answer_at m xs i x) rs ss (subst (λ z. Tells z rs) (sym f) t) u

  -- what a get, and the end of a wait, leaves that tells something
  pub record WasTaken (q max nget : ℕ) (rs : List EventRec) : Type 0 where
    pub there : IsThere (at_number ports q)
    pub few : nget ≤ max
    pub ready : is_ready_for nget (port (state_at m xs i) q) ≡ true
    pub told : records_of (events_found max (port (state_at m xs i) q)) ≡ rs
    pub acted : (act (state_at m xs i) x.thread x.request).state.channels ≡ take_found (state_at m xs i).channels q max
    pub quiet : IsQuiet (state_at m xs i) (act (state_at m xs i) x.thread x.request).state

  pub told_before : AreTold (state_at m xs i)
  told_before = (k.known.invariant i (omega (arith, slice_get_within xs i x e))).told

  -- a thread that runs again changes no process
  pub running_lives : (p : ℕ) → is_live_process (with_state (state_at m xs i) x.thread is.Running) p ≡ is_live_process (state_at m xs i) p
  running_lives p =
      ap (λ ps. is_live_in (at_number ps p)) (processes-change_thread (state_at m xs i).process_table x.thread (thread_at_state is.Running))

  -- what is taken
  pub taken_quiet :
      (n : State) (q max : ℕ) → n.tables ≡ (state_at m xs i).tables → holdings n ≡ holdings (state_at m xs i) →
      n.channels ≡ take_found (state_at m xs i).channels q max → ((p : ℕ) → is_live_process n p ≡ is_live_process (state_at m xs i) p) →
      IsQuiet (state_at m xs i) n
  taken_quiet n q max tables held same lives =
      quiet_taken (state_at m xs i) n (associations_of (events_found max (port (state_at m xs i) q))) told_before tables held
      (ap (λ (c : Channels). c.pipes) same) (ap (λ (c : Channels). c.associations) same) lives (ap (λ (c : Channels). c.timers.timers) same)

  -- a get that may begin a wait
  from_get :
      (n max nget : ℕ) (one : Bool) (rs : List EventRec) → IsThere (at_number ports n) → nget ≤ max → is_fit_wait max nget one ≡ true →
      answer_at m xs i x ≡ (get_from (state_at m xs i) x.thread n max nget one).answer →
      (act (state_at m xs i) x.thread x.request).state ≡ (get_from (state_at m xs i) x.thread n max nget one).state →
      Tells (answer_at m xs i x) rs → WasTaken n max nget rs
  from_get n max nget one rs there l fit a c tells = go (is_ready_for nget (port (state_at m xs i) n)) refl a c
    where
      go :
          (b : Bool) → is_ready_for nget (port (state_at m xs i) n) ≡ b →
          answer_at m xs i x
          ≡ (if b then retrieve (state_at m xs i) n max one else wait_for (state_at m xs i) x.thread n max nget one).answer →
          (act (state_at m xs i) x.thread x.request).state
          ≡ (if b then retrieve (state_at m xs i) n max one else wait_for (state_at m xs i) x.thread n max nget one).state →
          WasTaken n max nget rs
      go true r f g =
          record {
            there = there;
            few = l;
            ready = r;
            told = told_at _ _ rs f (tells_found (state_at m xs i) n max nget one fit r) tells;
            acted = ap (λ (z : State). z.channels) g;
            quiet = subst (IsQuiet (state_at m xs i)) (sym g) (taken_quiet (retrieve (state_at m xs i) n max one).state n max refl refl refl (λ p. refl));
          }
      go false r f g = absurd (not_told _ rs tells f)

  pub at_port : (fd : Fd) (q : ℕ) → Names m xs i x fd (obj.Port q) → port_at (state_at m xs i) own fd ≡ q
  at_port fd q f = ap port_named f

  pub taken : (q max nget : ℕ) (rs : List EventRec) → AsksPort m xs i x q max nget → Tells (answer_at m xs i x) rs → WasTaken q max nget rs
  taken q _ _ rs (AsksPort.by_get fd wait f names) tells =
      subst (λ n. WasTaken n 1 1 rs) (at_port fd q names)
      (from_get (port_at (state_at m xs i) own fd) 1 1 true rs
      (subst (λ n. IsThere (at_number ports n)) (sym (at_port fd q names)) (port_there fd q names))
      (omega arith) refl
      (entry_answer m xs k.known i x e (request.Get fd wait) f free)
      (entry_acted m xs k.known i x e (request.Get fd wait) f free)
      tells)
    where
      free : IsFree (state_at m xs i) x.thread (request.Get fd wait)
      free = is_free m xs k.known i x e (request.Get fd wait) (answer_at m xs i x) f refl (tells_no_error _ rs tells)
  taken q _ _ rs (AsksPort.by_getn fd max nget wait f names) tells = by_max (max == 0) refl entry entered
    where
      free : IsFree (state_at m xs i) x.thread (request.GetN fd max nget wait)
      free = is_free m xs k.known i x e (request.GetN fd max nget wait) (answer_at m xs i x) f refl (tells_no_error _ rs tells)

      entry : answer_at m xs i x ≡ (effect (state_at m xs i) x.thread own (request.GetN fd max nget wait)).answer
      entry = entry_answer m xs k.known i x e (request.GetN fd max nget wait) f free

      entered :
          (act (state_at m xs i) x.thread x.request).state
          ≡ (effect (state_at m xs i) x.thread own (request.GetN fd max nget wait)).state
      entered = entry_acted m xs k.known i x e (request.GetN fd max nget wait) f free

      by_max :
          (b : Bool) → (max == 0) ≡ b →
          answer_at m xs i x
          ≡ (if b then tell_queued (state_at m xs i) (port_at (state_at m xs i) own fd) else get_from (state_at m xs i) x.thread (port_at (state_at m xs i) own fd) max nget false).answer →
          (act (state_at m xs i) x.thread x.request).state
          ≡ (if b then tell_queued (state_at m xs i) (port_at (state_at m xs i) own fd) else get_from (state_at m xs i) x.thread (port_at (state_at m xs i) own fd) max nget false).state →
          WasTaken q max nget rs
      by_max true z a c = absurd (not_counted _ rs _ tells a)
      by_max false z a c =
          let few : nget ≤ max = fit_count fd max nget wait free z in
          subst (λ n. WasTaken n max nget rs) (at_port fd q names)
          (from_get (port_at (state_at m xs i) own fd) max nget false rs
          (subst (λ n. IsThere (at_number ports n)) (sym (at_port fd q names)) (port_there fd q names))
          few (grind (arith, nat_tests, z, few)) a c tells)
  taken q _ _ rs (AsksPort.by_end_of_wait max nget one interrupted f s) tells = by_mark interrupted s end_answer end_acted
    where
      end_answer : answer_at m xs i x ≡ (end_getting (state_at m xs i) x.thread q max one interrupted).answer
      end_answer =
          answer_of m xs k.known i x e
          ∙ ap (λ r. (act (state_at m xs i) x.thread r).answer) f
          ∙ ap (λ z. (go_on (state_at m xs i) x.thread own z).answer) s

      end_acted : (act (state_at m xs i) x.thread x.request).state ≡ (end_getting (state_at m xs i) x.thread q max one interrupted).state
      end_acted = ap (λ r. (act (state_at m xs i) x.thread r).state) f ∙ ap (λ z. (go_on (state_at m xs i) x.thread own z).state) s

      by_references :
          (b : Bool) → has_port_references (state_at m xs i) q ≡ b →
          state_of (state_at m xs i) x.thread ≡ is.Getting q max nget one false →
          answer_at m xs i x
          ≡ (if b then retrieve (with_state (state_at m xs i) x.thread is.Running) q max one else act_result (with_state (state_at m xs i) x.thread is.Running) (answer.Failure EBADF)).answer →
          (act (state_at m xs i) x.thread x.request).state
          ≡ (if b then retrieve (with_state (state_at m xs i) x.thread is.Running) q max one else act_result (with_state (state_at m xs i) x.thread is.Running) (answer.Failure EBADF)).state →
          WasTaken q max nget rs
      by_references true r z a c =
          let fit : (is_ready_for nget (port (state_at m xs i) q) ≡ true) × (is_fit_wait max nget one ≡ true) = wait_fits q max nget one f z r in
          record {
            there = waits_there q max nget one false z;
            few = grind (arith, nat_tests, fit.1);
            ready = fit.0;
            told = told_at _ _ rs a (tells_found (state_at m xs i) q max nget one fit.1 fit.0) tells;
            acted = ap (λ (z : State). z.channels) c;
            quiet =
                subst (IsQuiet (state_at m xs i)) (sym c)
                (taken_quiet (retrieve (with_state (state_at m xs i) x.thread is.Running) q max one).state q max refl refl refl running_lives);
          }
      by_references false r z a c = absurd (tells_no_error _ rs tells EBADF a)

      by_mark :
          (b : Bool) → state_of (state_at m xs i) x.thread ≡ is.Getting q max nget one b →
          answer_at m xs i x ≡ (end_getting (state_at m xs i) x.thread q max one b).answer →
          (act (state_at m xs i) x.thread x.request).state ≡ (end_getting (state_at m xs i) x.thread q max one b).state →
          WasTaken q max nget rs
      by_mark true z a c = absurd (tells_no_error _ rs tells EINTR a)
      by_mark false z a c = by_references (has_port_references (state_at m xs i) q) refl z a c
