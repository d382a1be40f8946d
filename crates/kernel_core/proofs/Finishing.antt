-- What follows the act of an event stands on what was taken before the act, and on what the act did.
use Rattle.std.proofs.Common.{◌≡◌, ℕ, ◌+◌, ◌≤◌, ◌&&◌, List, Option, None, Some, true, length, refl, sym, subst, ap, ap₂, ◌∙◌, arith}
use Rattle.law_channels.specs.Changed.{IsAfterAct, readied_by}
use Rattle.law_channels.specs.Closed.{Closing, closed_by, closed_rows}
use Rattle.law_channels.specs.Ends.{is_end}
use Rattle.law_channels.proofs.Kept.{forgotten_is_after, gone-settle_pools, settled_is_after}
use Rattle.kernel_ports.specs.Words.{HasRoomToEnd}
use Rattle.dk_base.specs.Words.{RoomValue}
use Rattle.kernel_store.specs.declared.told.ClosedRows.{ClosedRows}
use Rattle.kernel_store.specs.declared.told.ClosedRows.TheVariants as closed
use Rattle.kernel_store.specs.declared.told.TellingRooms.{TellingRooms}
use Rattle.spec_kernel.specs.Types.{Answer, Fd, Obj, Request, Stepped}
use Rattle.spec_kernel.specs.Words.{IsStep, StandsFor, State, act, enter, forget, give, has_first_common_door, process_of, settle, settle_pools, step, tell, with_event_counted, woken_threads}
use Rattle.law_pools.specs.Words.{IsGivenOut, is_this}
use Rattle.kernel_store.specs.Words.{AreGone, ArePlaced, FillsNoPool, HasBegun, HasOpened, IsAtRest, IsInEvent, IsLeftToTell, KeepsForNotices, KeepsPools, ReadiesAtMost, StoreValue, can_turn, closing_of, is_of_pipe, stored_state}
use Rattle.kernel_core.specs.declared.event.Parts.{Parts}
use Rattle.kernel_core.specs.declared.event.Taken.{Taken}
use Rattle.kernel_core.specs.Acted.{CanNoticeAfter, CanStep, HasActed}
use Rattle.kernel_core.specs.Entries.{made_first, may_make_first}
use Rattle.kernel_core.specs.Watched.{BeganIn, HadRoomForNotices, KeepsDoors, fallen}
use Rattle.kernel_core.specs.Woken.{AreTurns, HasTurns, HasTurnsAfter, IsReady, IsReadyToSettle, turned_threads}
use Rattle.kernel_core.proofs.Associated.{count_associations, count_timers, counted-act, counted_pools, timed-act, timed_pools}
use Rattle.kernel_core.proofs.Acted.{made, made-act, opened_kept}
use Rattle.kernel_core.proofs.Numbering.{made_few}
use Rattle.kernel_core.proofs.Live.{stands_live}
use Rattle.kernel_core.proofs.Turning.{turned_woken}
use Rattle.kernel_core.proofs.Steps.{IsSettled, events_after, first_entered, first_gone_on, first_if_made, processes_after, ready_after, settled_after, settled_kept, stepped, stepped_state}

-- memory is taken at rest

pub rest_started : (a b : StoreValue) → b ≡ record a { opening = b.opening; left = b.left } → IsAtRest a.events a → IsAtRest b.events b
rest_started a b same h =
    subst (λ (s : StoreValue). IsAtRest s.events s) (sym same) (record { given_out = h.given_out; latest = h.latest })

pub rest_reserved : {a b : StoreValue} → stored_state b ≡ stored_state a → FillsNoPool a b → IsAtRest a.events a → IsAtRest b.events b
rest_reserved same fills h =
    record { given_out = fills.given_out h.given_out; latest = omega (arith, ap (λ (k : State). k.events) same, fills.latest, h.latest) }

-- an act on what was taken
has_acted :
    (start before : Parts) (n : StoreValue) (t : ℕ) (q : Option Request) (taken : Taken) (a : Answer) (first : Option ℕ) → CanStep start →
    CanNoticeAfter (stored_state start.store) t q → HasTurnsAfter (stored_state start.store) t q → stored_state before.store ≡ stored_state start.store →
    IsReady before taken → StandsFor (stored_state n) (act (stored_state start.store) t q).state → a ≡ (act (stored_state start.store) t q).answer →
    ((p : ℕ) → has_first_common_door (stored_state start.store) (give (stored_state n)) p ≡ is_this p first) → KeepsForNotices before.store n →
    closing_of taken.closed ≡ closed_rows (stored_state start.store) t q → ReadiesAtMost (stored_state start.store) t q taken.pipe →
    HasActed start t q before (record before { store = n }) taken first a
has_acted start before n t q taken a first can noticing turning same ready acted answered made keeps rows readied =
    record {
      few = can.numbers.events;
      none_past = can.none_past;
      turns = can.turns;
      noticing = noticing;
      turning = turning;
      same = same;
      ready = ready;
      acted = acted;
      answered = answered;
      first_common = made;
      keeps = keeps;
      told = can.told;
      unborn = can.unborn;
      live = can.live;
      rows = rows;
      readied = readied;
      fallen = refl;
      woken = refl;
      rooms = refl;
    }

-- what is told of a request is what was told before memory was taken

pub rows_taken : {before taken : ClosedRows} {rows : Closing} → taken ≡ before → closing_of before ≡ rows → closing_of taken ≡ rows
rows_taken same e = ap closing_of same ∙ e

pub pipe_taken :
    {pipe taken : Option ℕ} {r : Option Obj} → taken ≡ pipe → ((o : Obj) → r ≡ Some o → is_end o ≡ true → is_of_pipe pipe o ≡ true) →
    (o : Obj) → r ≡ Some o → is_end o ≡ true → is_of_pipe taken o ≡ true
pipe_taken same h o e f = ap (λ x. is_of_pipe x o) same ∙ h o e f

pub entry_acted :
    (start before : Parts) (n : StoreValue) (t p : ℕ) (r : Request) (taken : Taken) (a : Answer) (may first : Option ℕ) → CanStep start →
    CanNoticeAfter (stored_state start.store) t (Some r) → HasTurnsAfter (stored_state start.store) t (Some r) → stored_state before.store ≡ stored_state start.store →
    IsReady before taken → p ≡ process_of (stored_state start.store) t → StandsFor (stored_state n) (enter (stored_state before.store) t p r).state →
    a ≡ (enter (stored_state before.store) t p r).answer → may ≡ may_make_first (stored_state start.store) p r → first ≡ made_first a may →
    KeepsForNotices before.store n → closing_of taken.closed ≡ closed_by (stored_state start.store) t p r →
    ((o : Obj) → readied_by (stored_state start.store) p r ≡ Some o → is_end o ≡ true → is_of_pipe taken.pipe o ≡ true) →
    HasActed start t (Some r) before (record before { store = n }) taken first a
entry_acted start before n t p r taken a may first can noticing turning same ready own state answer may_is first_is keeps rows readied =
    let m : State = stored_state start.store in
    let acted : StandsFor (stored_state n) (enter m t (process_of m t) r).state =
    state ∙ ap₂ (λ (k : State) (j : ℕ). forget (enter k t j r).state) same own in
    let answered : a ≡ (enter m t (process_of m t) r).answer = answer ∙ ap₂ (λ (k : State) (j : ℕ). (enter k t j r).answer) same own in
    has_acted start before n t (Some r) taken a first can noticing turning same ready acted answered
    (first_entered m (stored_state n) t r first acted
    (first_is ∙ ap₂ made_first answered (may_is ∙ ap (λ k. may_make_first m k r) own) ∙ first_if_made m t r))
    keeps (rows ∙ ap (λ j. closed_by m t j r) own)
    (subst (λ j. (o : Obj) → readied_by m j r ≡ Some o → is_end o ≡ true → is_of_pipe taken.pipe o ≡ true) own readied)

pub end_acted :
    (start before : Parts) (n : StoreValue) (t : ℕ) (taken : Taken) (a : Answer) → CanStep start → CanNoticeAfter (stored_state start.store) t None → HasTurnsAfter (stored_state start.store) t None →
    stored_state before.store ≡ stored_state start.store → IsReady before taken →
    StandsFor (stored_state n) (act (stored_state before.store) t None).state → a ≡ (act (stored_state before.store) t None).answer →
    KeepsForNotices before.store n → taken.closed ≡ closed.Nothing → HasActed start t None before (record before { store = n }) taken None a
end_acted start before n t taken a can noticing turning same ready state answer keeps none =
    let acted : StandsFor (stored_state n) (act (stored_state start.store) t None).state = state ∙ ap (λ (k : State). forget (act k t None).state) same in
    has_acted start before n t None taken a None can noticing turning same ready acted (answer ∙ ap (λ (k : State). (act k t None).answer) same)
    (first_gone_on (stored_state start.store) (stored_state n) t acted) keeps (ap closing_of none) (λ o e f. cc)

-- what settles an act, but that ports are told
abbrev pub SettlesTo : StoreValue → Option ℕ → StoreValue → Type 0
SettlesTo n first s =
    (m : State) → BeganIn m n → ((p : ℕ) → has_first_common_door m (give (stored_state n)) p ≡ is_this p first) →
    stored_state s ≡ settle_pools m (stored_state n)

-- telling leaves the pools as they are
pub rest_told : (a b : StoreValue) (k : ℕ) → KeepsPools a b → IsAtRest k a → IsAtRest k b
rest_told a b k keeps h =
    record { given_out = subst IsGivenOut (sym keeps.pools) h.given_out; latest = omega (arith, keeps.latest, h.latest) }

-- nor does counting an event
pub rest_counted : (a b : StoreValue) → stored_state b ≡ with_event_counted (stored_state a) → KeepsPools a b → IsAtRest a.events a → IsAtRest b.events b
rest_counted a b counted keeps h =
    record {
      given_out = subst IsGivenOut (sym keeps.pools) h.given_out;
      latest = omega (arith, ap (λ (k : State). k.events) counted, keeps.latest, h.latest);
    }

module _ {start before after : Parts} {t : ℕ} {q : Option Request} {taken : Taken} {first : Option ℕ} {a : Answer} (h : HasActed start t q before after taken first a) where
  abbrev m : State
  m = stored_state start.store

  abbrev n : State
  n = stored_state after.store

  events_acted : n.events ≡ m.events
  events_acted = events_after m n t q h.acted

  -- what the settling needs

  pub within_acted : IsInEvent after.store
  within_acted =
      record {
        few = omega (arith, events_acted, h.few);
        placed = subst ArePlaced (sym h.acted) h.noticing.placed;
        latest = omega (arith, events_acted, ap (λ (k : State). k.events) h.same, h.keeps.latest);
      }

  began_in : BeganIn m after.store
  began_in =
      record {
        doors = subst (KeepsDoors m) (sym h.acted) h.noticing.doors;
        opened = opened_kept before.store after.store m h.keeps.opening (subst (HasBegun before.store) h.same h.ready.opened);
      }

  processes_acted : length after.store.processes.processes ≡ length before.store.processes.processes
  processes_acted = processes_after m n t q h.acted ∙ ap (λ (k : State). length k.process_table.processes) (sym h.same)

  pub room_acted : HadRoomForNotices before.store after.store
  room_acted =
      record {
        began = subst (λ k. BeganIn k after.store) (sym h.same) began_in;
        room = h.ready.notices;
        agreed = h.ready.agreed;
        processes = processes_acted;
        made = ap made h.acted ∙ made-act m t q ∙ ap made (sym h.same);
        keeps = h.keeps;
      }

  -- and what is there after it

  pub pooled_acted : (s : StoreValue) → SettlesTo after.store first s → stored_state s ≡ settle_pools m n
  pooled_acted s settles = settles m began_in h.first_common

  pub settled_acted : (s u : StoreValue) → SettlesTo after.store first s → stored_state u ≡ tell (stored_state s) → stored_state u ≡ settle m n
  settled_acted s u settles told = told ∙ ap tell (pooled_acted s settles)

  -- what ports are told then

  after_acted : IsAfterAct m t q n
  after_acted = subst (IsAfterAct m t q) (sym h.acted) (forgotten_is_after m t q (act m t q).state (record { processes = refl; tables = refl; channels = refl }))

  pub left_to_tell :
      (s : StoreValue) (gone : List Obj) → SettlesTo after.store first s → ((k : State) → HasOpened after.store.opening k → AreGone k n gone) →
      IsLeftToTell m t q taken.closed taken.pipe gone (stored_state s)
  left_to_tell s gone settles listed =
      subst (IsLeftToTell m t q taken.closed taken.pipe gone) (sym (pooled_acted s settles))
      (record {
        told = h.told;
        unborn = h.unborn;
        live = h.live;
        after = settled_is_after m t q m n after_acted;
        rows = h.rows;
        readied = h.readied;
        gone = λ o. listed m began_in.opened.all o ∙ ap (λ b. is_end o && b) (sym (gone-settle_pools m m n o));
      })

  pub ending_room :
      (s : StoreValue) → SettlesTo after.store first s → HasRoomToEnd after.rooms.ending (count_associations (stored_state s)) (count_timers (stored_state s))
  ending_room s settles =
      let had =
      subst (λ (r : TellingRooms). HasRoomToEnd r.ending (count_associations (stored_state before.store) + 1) (count_timers (stored_state before.store) + 1)) (sym h.rooms) h.ready.rooms.ending in
      let same = ap count_associations (pooled_acted s settles) ∙ counted_pools m n ∙ ap count_associations h.acted in
      let before_it = ap count_associations h.same in
      let few : count_associations (stored_state s) ≤ count_associations (stored_state before.store) + 1 = omega (arith, same, before_it, counted-act m t q) in
      let same_timers = ap count_timers (pooled_acted s settles) ∙ timed_pools m n ∙ ap count_timers h.acted in
      let timers_before = ap count_timers h.same in
      let few_timers : count_timers (stored_state s) ≤ count_timers (stored_state before.store) + 1 = omega (arith, same_timers, timers_before, timed-act m t q) in
      record { ports = omega (arith, had.ports, few); ids = omega (arith, had.ids, few); tags = omega (arith, had.tags, few_timers) }

  pub events_settled : (s : StoreValue) → stored_state s ≡ settle m n → s.events ≡ n.events
  events_settled s e = let g : IsSettled m (stored_state s) = settled_after m n (stored_state s) t q h.acted e in g.events ∙ sym events_acted

  pub ready_settled :
      (s : StoreValue) (list : RoomValue ℕ) (rooms : TellingRooms) (fds : RoomValue Fd) → stored_state s ≡ settle m n →
      IsReadyToSettle (record after { store = s; fallen = list; rooms = rooms; released = fds })
  ready_settled s list rooms fds e =
      let g : IsSettled m (stored_state s) = settled_after m n (stored_state s) t q h.acted e in
      ready_after before (record after { store = s; fallen = list; rooms = rooms; released = fds }) taken h.ready h.woken (g.threads ∙ sym (ap (λ (k : State). length k.process_table.threads) h.same))

  -- no more notices are made than doors fell to one reference
  pub made_settled :
      (s : StoreValue) → stored_state s ≡ settle m n → ((k : State) → BeganIn k after.store → length (fallen k n) ≤ 1280) →
      made (stored_state s) ≤ made m + 1280
  made_settled s e few =
      let had : made n ≡ made m = ap made h.acted ∙ made-act m t q in
      let more = made_few m n within_acted.placed.door_number (few m began_in) in
      omega (arith, ap made e, had, more)

  -- once the event is counted it is a step
  pub step_settled :
      (s new : StoreValue) (out : Stepped) → stored_state s ≡ settle m n → stored_state new ≡ with_event_counted (stored_state s) →
      out.answer ≡ a → ((k : State) → AreTurns taken.were k → out.woken ≡ turned_threads k (stored_state new)) →
      IsStep (step m t q) (stored_state new) out
  step_settled s new out e counted answer woken =
      let kept = settled_kept m n (stored_state new) (stands_live n (act m t q).state h.acted) (counted ∙ ap with_event_counted e) in
      let stands = stepped_state m n (stored_state new) t q h.none_past h.acted kept in
      let were : AreTurns taken.were m = λ u. h.ready.were u ∙ ap (λ (k : State). can_turn k u) h.same in
      stepped m n (stored_state new) t q out h.none_past h.acted (answer ∙ h.answered) kept
      (woken m were ∙ turned_woken m (stored_state new) h.turns (subst HasTurns (sym stands) h.turning)
      ∙ ap (woken_threads m) (counted ∙ ap with_event_counted e))
