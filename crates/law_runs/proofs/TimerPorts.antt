-- What ports have after an entry of timers.
use Rattle.std.specs.Prelude.{ℕ, ◌≡◌, ◌+◌, ◌++◌, ◌≤◌, ◌<◌, List, Option, if◌then◌else◌, true, Some, None, All, count_by, get_or, is_none, length, map, not, slice_get}
use Rattle.std.specs.Option.{option_map}
use Rattle.std.proofs.Common.{refl, sym, ap, subst, ◌∙◌}
use native.Mathlib.Omega.{arith}
use Rattle.std.proofs.lemmas.List.Elements.{All-weaker}
use Rattle.std.proofs.lemmas.List.Recursion.{is_count_by}
use Rattle.std.proofs.lemmas.Option.{slice_get_within}
use Rattle.dk_base.specs.ByNumber.{at_number}
use Rattle.spec_records.specs.declared.timer.Arming.{Arming}
use Rattle.spec_records.specs.declared.timer.Timer.{Timer}
use Rattle.spec_records.specs.Words.{Port, arming_at, change_at_number, due_count, dues, is_number, is_other_timer_event, is_timer, is_timer_event, port_in, timer_at, with_arming, without_queued, without_timer_event}
use Rattle.spec_kernel.specs.Types.{Queued}
use Rattle.spec_kernel.specs.Words.{Channels, State, Turn, act, clock_advanced, is_live_process, state_at, timer_set, timers_in}
use Rattle.law_channels.proofs.Elements.{All-at_number, All-change_first, All-find}
use Rattle.law_channels.specs.Timers.{AreTimed, AreTimers, IsOfTimer, IsTimer}
use Rattle.law_states.specs.Told.{AreTold}
use Rattle.law_places.specs.Places.{process_at}
use Rattle.law_places.proofs.Known.{next}
use Rattle.law_runs.specs.Clock.{came_of, clock_at, numbered, timer_under}
use Rattle.law_runs.specs.OneShot.{is_from}
use Rattle.law_runs.specs.PortEvents.{came_for, grown, is_of_other, ticked, ticks_at, without_timer}
use Rattle.law_runs.specs.Ticks.{count_of_timer}
use Rattle.law_runs.proofs.Channels.{IsThere, KnownChannels, changed_here, is_among}
use Rattle.law_runs.proofs.Dues.{HasCome, IsAt, came_among, from_is, grown_by, map-alike, told_all, told_dues, with_dues}
use Rattle.law_runs.proofs.Moments.{came_is_due}
use Rattle.law_runs.proofs.PortTurns.{told_before}
use Rattle.law_runs.proofs.Quiet.{IsQuiet, quiet-step, quiet_ports}
use Rattle.law_runs.proofs.TimerLists.{numbered_is}
use Rattle.law_runs.proofs.Told.{filter-alike}

pub counted_timer : (n : ℕ) (es : List Queued) → count_of_timer n es ≡ count_by (is_timer_event n) es
counted_timer n es =
    is_count_by (count_of_timer n) (is_timer_event n) refl (λ e rest. ap (λ b. if b then 1 + count_of_timer n rest else count_of_timer n rest) (from_is n e.timer)) es

-- the law's words for what is withdrawn
pub withdrawn_is : (n : ℕ) (p : Port) → without_timer_event n p ≡ without_timer n p
withdrawn_is n p =
    ap (λ qs. record p { queue = qs })
    (filter-alike (is_other_timer_event n) (is_of_other n) (λ (e : Queued). ap not (sym (from_is n e.timer))) p.queue)

module _ (m : State) (xs : List Turn) (k : KnownChannels m xs) (i : ℕ) (x : Turn) (e : slice_get xs i ≡ Some x) where
  abbrev before : State
  before = state_at m xs i

  abbrev later : State
  later = state_at m xs (i + 1)

  abbrev own : ℕ
  own = process_at m xs i x.thread

  abbrev ports : List Port
  ports = (state_at m xs i).channels.ports

  abbrev acted : State
  acted = (act (state_at m xs i) x.thread x.request).state

  timers : AreTimers ports before.channels.timers
  timers = (k.fits i (omega (arith, slice_get_within xs i x e))).timers

  -- where nothing is told after it
  quiet_later : (n : State) → acted ≡ n → IsQuiet before n → later.channels ≡ n.channels
  quiet_later n same q =
      ap (λ (z : State). z.channels) (next m xs k.known i x e)
      ∙ quiet-step before x.thread x.request (subst (IsQuiet before) (sym same) q)
      ∙ ap (λ (z : State). z.channels) same

  -- the port of a timer
  pub port_of_timer : (n : ℕ) (t : Timer) → timer_under before n ≡ Some t → IsThere (at_number ports t.port)
  port_of_timer n t f =
      let w : IsTimer (length ports) (clock_at before) t =
      All-find (IsTimer (length ports) (clock_at before)) _ (timers_in before) t timers.each (sym (numbered_is n (timers_in before)) ∙ f)
      in
      is_among ports t.port (w.first_port, w.port)

  -- where one is set, its event is withdrawn

  module _ (id : ℕ) (t : Timer) (found : timer_at (timers_in before) own id ≡ Some t) where
    pub withdrawn_ports : without_queued ports (timer_at (timers_in before) own id) ≡ change_at_number ports t.port (without_timer_event t.number)
    withdrawn_ports = ap (without_queued ports) found

    pub set_after :
        (first interval : ℕ) (p : Port) → acted ≡ record (state_at m xs i) { channels = timer_set before.channels own id first interval } →
        at_number ports t.port ≡ Some p → at_number later.channels.ports t.port ≡ Some (without_timer t.number p)
    set_after first interval p same there =
        ap (λ (c : Channels). at_number c.ports t.port)
        (quiet_later (record (state_at m xs i) { channels = timer_set before.channels own id first interval }) same
        (quiet_ports before (record (state_at m xs i) { channels = timer_set before.channels own id first interval }) (told_before m xs k i x e) refl refl refl refl
        (λ p. refl)
        (All-change_first (λ (u : Timer). is_live_process before u.process.0 ≡ true) (is_timer own id)
        (with_arming (arming_at before.channels.timers.clock first interval)) (λ u h. h) (timers_in before) (told_before m xs k i x e).timers)))
        ∙ ap (λ ps. at_number ps t.port) withdrawn_ports
        ∙ changed_here ports t.port p (without_timer_event t.number) there
        ∙ ap (λ z. Some z) (withdrawn_is t.number p)

  -- as the clock moves on

  module _ (by : ℕ) (same : acted ≡ record (state_at m xs i) { channels = clock_advanced before.channels by }) where
    channels_later : later.channels ≡ clock_advanced before.channels by
    channels_later =
        quiet_later (record (state_at m xs i) { channels = clock_advanced before.channels by }) same
        (quiet_ports before (record (state_at m xs i) { channels = clock_advanced before.channels by }) (told_before m xs k i x e) refl refl refl refl (λ p. refl)
        (told_before m xs k i x e).timers)

    clock_later : clock_at later ≡ clock_at before + by
    clock_later = ap (λ (c : Channels). c.timers.clock) channels_later

    module _ (q : ℕ) where
      has_come : (t : Timer) → IsTimer (length ports) (clock_at before) t → HasCome before later q (clock_at before) (clock_at before + by) t
      has_come t w =
          go t.arming w.arming ∙ ap (came_of t.arming (clock_at before)) (sym clock_later)
        where
          go :
              (o : Option Arming) → ((a : Arming) → o ≡ Some a → (1 ≤ a.first) × (a.clock ≤ clock_at before)) →
              due_count (clock_at before) (clock_at before + by) o ≡ came_of o (clock_at before) (clock_at before + by)
          go None h = refl
          go (Some a) h = sym (came_is_due a (clock_at before) (clock_at before + by) (h a refl).0 (omega arith))

      at_port : (z : Queued) → ((n : ℕ) → z.timer ≡ Some n → IsOfTimer (timers_in before) q z n) → IsAt before later q (timers_in before) z
      at_port z own_it n t f g = go (own_it n f)
        where
          go : IsOfTimer (timers_in before) q z n → t.port ≡ q
          go w =
              let both : Some w.timer ≡ Some t = sym w.there ∙ sym (numbered_is n (timers_in before)) ∙ g in
              let alike : w.timer ≡ t = cc in
              sym (ap (λ (u : Timer). u.port) alike) ∙ w.port

      came_is : (o : Option ℕ) → came_among before later q (timers_in before) o ≡ came_for before later o
      came_is None = refl
      came_is (Some n) = refl

      grown_is : (es : List Queued) → map (grown_by before later q (timers_in before)) es ≡ map (grown before later) es
      grown_is es =
          map-alike (grown_by before later q (timers_in before)) (grown before later) es
          (λ j d l. ap (λ (c : ℕ). record (get_or es j d) { rec = record (get_or es j d).rec { events = (get_or es j d).rec.events + c } }) (came_is (get_or es j d).timer))

      pub advanced_after : (p : Port) → at_number ports q ≡ Some p → at_number later.channels.ports q ≡ Some (ticked before later q p)
      advanced_after p there =
          ap (λ (c : Channels). at_number c.ports q) channels_later
          ∙ told_dues q ports (dues before.channels.timers by)
          ∙ ap (option_map (with_dues q (dues before.channels.timers by))) there
          ∙ ap (λ qs. Some (record p { queue = qs }))
          (told_all before later q (clock_at before) (clock_at before + by) 0 _ (timers_in before) p.queue timers.in_order
          (All-weaker (IsTimer (length ports) (clock_at before)) (HasCome before later q (clock_at before) (clock_at before + by)) has_come (timers_in before) timers.each)
          (λ n. omega (arith, counted_timer n p.queue, timed.once n))
          (All-weaker (λ z. (n : ℕ) → z.timer ≡ Some n → IsOfTimer (timers_in before) q z n) (IsAt before later q (timers_in before)) at_port p.queue timed.of_timers)
          ∙ ap (λ es. es ++ ticks_at before later q p.queue (timers_in before)) (grown_is p.queue))
        where
          timed : AreTimed (timers_in before) q p.queue
          timed = subst (λ (o : Option Port). AreTimed (timers_in before) q (port_in o).queue) there (timers.queued q)

      pub none_after : at_number ports q ≡ None → at_number later.channels.ports q ≡ None
      none_after there =
          ap (λ (c : Channels). at_number c.ports q) channels_later
          ∙ told_dues q ports (dues before.channels.timers by)
          ∙ ap (option_map (with_dues q (dues before.channels.timers by))) there
