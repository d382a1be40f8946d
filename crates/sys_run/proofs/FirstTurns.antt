-- The run that `play` makes, turn by turn.
use Rattle.std.proofs.Common.{◌≡◌, ◌⊎◌, ℕ, ◌+◌, ◌-◌, ◌<◌, List, [], ◌∷◌, ◌++◌, length, drop, length-append, length-drop, append-nil, Option, Some, None, true, false, inl, inr, arith, refl, ap, sym, ◌∙◌, subst, zero, suc}
use Rattle.std.specs.Prelude.{slice_get, slice_set}
use Rattle.ncd_app.specs.Words.{NcdValue}
use Rattle.spec_kernel.specs.Types.{Event, Tid}
use Rattle.spec_kernel.specs.Words.{State, is_runnable, state_of}
use Rattle.spec_events.specs.Words.{output_at}
use Rattle.script_lang.specs.Words.{ScriptValue}
use Rattle.thread_machine.specs.declared.machine.Machine.{Machine}
use Rattle.spec_scripts.specs.Words.{scheduled_turns}
use Rattle.sys_run.specs.declared.turn.Turned.{Turned}
use Rattle.sys_run.specs.Schedules.{HasPlayed, IsBefore, IsPlay, refusal_at}
use Rattle.sys_run.specs.Sys.{IsJournal, IsSys, MachineStands, SysValue, next_turn, scheduled_turn, state_of_run, turns_left, with_journal, with_turn, with_turns}
use Rattle.sys_run.specs.Playing.{events_with, first_events, turn_by, turn_of_play}
use Rattle.sys_run.specs.Turns.{CanTurn, HasTurned}
use Rattle.sys_run.proofs.Finishing.{HasTaken, HasTaken-more, HasTaken-none, finished, if_some, next, turns_left-over}
use Rattle.sys_run.proofs.Journals.{events-counted}
use Rattle.sys_run.proofs.Scheduling.{HasPlayed-all, HasScheduled, HasScheduled-more, HasScheduled-none, IsRefused-here, drop-all, next_scheduled, none_scheduled}
use Rattle.sys_run.proofs.Systems.{HasMachine, IsSys-same, IsSys-turn, has_machine, machine-stands}
use Rattle.sys_run.proofs.WholePlays.{refused-play, whole-play}

abbrev none_yet : ScriptValue → SysValue
none_yet script = with_journal script []

abbrev pub so_far : ScriptValue → ℕ → SysValue
so_far script n = with_journal script (first_events script n)

no_events : (script : ScriptValue) → first_events script 0 ≡ []
unfolding first_events
no_events script = refl

one_more : (script : ScriptValue) (n t : ℕ) → turn_of_play (so_far script n) ≡ Some t → first_events script (n + 1) ≡ (with_turn (so_far script n) t).journal
unfolding first_events
one_more script n t e = let more : n + 1 ≡ suc n = omega arith in rw more (ap (events_with (so_far script n)) e)

-- a turn of `play` can be taken

pub record IsDue (p : SysValue) (t : ℕ) : Type 0 where
  pub can : is_runnable (state_of_run p) t ≡ true
  pub left : length p.journal < p.script.budget

due_by : (p : SysValue) (t : ℕ) (o : Option Tid) → o ≡ scheduled_turn p → turn_by p o ≡ Some t → IsDue p t
due_by p t None e turn = let one = next p t turn in record { can = one.can; left = one.left }
due_by p t (Some u) e turn =
    let both = if_some (is_runnable (state_of_run p) u.0) (Some u.0) t turn
    in let some : Some u.0 ≡ Some t = both.1
    in let same : u.0 ≡ t = cc
    in record { can = subst (λ v. is_runnable (state_of_run p) v ≡ true) same both.0; left = (next_scheduled p u e).left }

due : (p : SysValue) (t : ℕ) → turn_of_play p ≡ Some t → IsDue p t
due p t turn = due_by p t (scheduled_turn p) refl turn

-- The turns so far are the first ones of `play`: those of the schedule,

-- or all of these and others behind them
record HasLeft (p : SysValue) : Type 0 where
  pub scheduled : SysValue
  pub count : ℕ
  pub played : HasPlayed (none_yet p.script) scheduled
  pub taken : HasTaken scheduled p count
  pub past : drop (length p.journal) (scheduled_turns p.script) ≡ []

abbrev IsPartOfPlay : SysValue → Type 0
IsPartOfPlay p = HasScheduled (none_yet p.script) p ⊎ HasLeft p

past_more : (p : SysValue) (t : ℕ) → drop (length p.journal) (scheduled_turns p.script) ≡ [] → drop (length (with_turn p t).journal) (scheduled_turns p.script) ≡ []
past_more p t past =
    let one : length (with_turn p t).journal ≡ length p.journal + 1 = simp length-append refl
    in let none : length (scheduled_turns p.script) - length p.journal ≡ 0 = sym (length-drop (length p.journal) (scheduled_turns p.script)) ∙ ap length past
    in drop-all (length (with_turn p t).journal) (scheduled_turns p.script) (omega arith)

none_behind : {X : Type 0} (p : SysValue) (u : Tid) → Some u ≡ scheduled_turn p → HasLeft p → X
none_behind p u e h =
    let past : drop (length p.journal) (scheduled_turns p.script) ≡ [] = h.past
    in let ahead : drop (length p.journal) (scheduled_turns p.script) ≡ u.0 ∷ drop (length p.journal + 1) (scheduled_turns p.script) =
    (next_scheduled p u e).ahead
    in cc

part_more : (p : SysValue) (t : ℕ) (o : Option Tid) → o ≡ scheduled_turn p → turn_by p o ≡ Some t → IsPartOfPlay p → IsPartOfPlay (with_turn p t)
part_more p t (Some u) e turn (inl h) =
    let both = if_some (is_runnable (state_of_run p) u.0) (Some u.0) t turn
    in let some : Some u.0 ≡ Some t = both.1
    in let same : u.0 ≡ t = cc
    in inl (subst (λ v. HasScheduled (none_yet p.script) (with_turn p v)) same (HasScheduled-more (none_yet p.script) p u h e both.0))
part_more p t (Some u) e turn (inr h) = none_behind p u e h
part_more p t None e turn (inl h) =
    inr
    (record {
      scheduled = p;
      count = 1;
      played = HasPlayed-all (none_yet p.script) p h e;
      taken = HasTaken-more p p 0 t (HasTaken-none p) turn;
      past = past_more p t (none_scheduled p e);
    })
part_more p t None e turn (inr h) =
    inr
    (record {
      scheduled = h.scheduled;
      count = h.count + 1;
      played = h.played;
      taken = HasTaken-more h.scheduled p h.count t h.taken turn;
      past = past_more p t h.past;
    })

part_with : (p : SysValue) (o : Option ℕ) → turn_of_play p ≡ o → IsPartOfPlay p → IsPartOfPlay (with_journal p.script (events_with p o))
part_with p None e h = h
part_with p (Some t) e h = part_more p t (scheduled_turn p) refl e h

part_so_far : (script : ScriptValue) (n : ℕ) → IsPartOfPlay (so_far script n)
unfolding first_events
part_so_far script zero = inl (HasScheduled-none (none_yet script) refl)
part_so_far script (suc n) = part_with (so_far script n) (turn_of_play (so_far script n)) refl (part_so_far script n)

-- how it ends

all_taken : (p : SysValue) → None ≡ scheduled_turn p → next_turn p ≡ None → IsPartOfPlay p → IsPlay p.script p
all_taken p e over (inl h) =
    whole-play p.script (none_yet p.script) p p refl (HasPlayed-all (none_yet p.script) p h e) (sym (ap (with_turns p) (turns_left-over p over)))
all_taken p e over (inr h) =
    whole-play p.script (none_yet p.script) h.scheduled p refl h.played (finished h.scheduled p h.count h.taken over).taken

one_refused :
    (p : SysValue) (t : Tid) → IsJournal p → Some t ≡ scheduled_turn p → is_runnable (state_of_run p) t.0 ≡ false → IsPartOfPlay p →
    IsBefore p.script (refusal_at (length p.journal + 1) t.0) p
one_refused p t is e cannot (inl h) =
    refused-play p.script (refusal_at (length p.journal + 1) t.0) (none_yet p.script) p refl (IsRefused-here (none_yet p.script) p t h is e cannot)
one_refused p t is e cannot (inr h) = none_behind p t e h

pub is_play : (script : ScriptValue) (n : ℕ) → None ≡ scheduled_turn (so_far script n) → next_turn (so_far script n) ≡ None → IsPlay script (so_far script n)
is_play script n e over = all_taken (so_far script n) e over (part_so_far script n)

pub is_before :
    (script : ScriptValue) (n : ℕ) (t : Tid) → IsJournal (so_far script n) → Some t ≡ scheduled_turn (so_far script n) →
    is_runnable (state_of_run (so_far script n)) t.0 ≡ false → IsBefore script (refusal_at (length (first_events script n) + 1) t.0) (so_far script n)
is_before script n t is e cannot = one_refused (so_far script n) t is e cannot (part_so_far script n)

-- which turn is next

pub due_scheduled : (p : SysValue) (t : Tid) → Some t ≡ scheduled_turn p → is_runnable (state_of_run p) t.0 ≡ true → turn_of_play p ≡ Some t.0
due_scheduled p t e can = ap (turn_by p) (sym e) ∙ rw can refl

pub due_least : (p : SysValue) (t : Tid) → None ≡ scheduled_turn p → Some t.0 ≡ next_turn p → turn_of_play p ≡ Some t.0
due_least p t e least = ap (turn_by p) (sym e) ∙ sym least

-- where nothing more is told
pub nothing_told : (p : SysValue) → p ≡ with_journal p.script (p.journal ++ [])
nothing_told p = ap (with_journal p.script) (sym (append-nil p.journal))

-- the first events of a run, by the count of its kernel, and with kernel and machines after them
pub record IsTold (script : ScriptValue) (es : List Event) (kernel : State) (machines : List Machine) (tables : List NcdValue) : Type 0 where
  pub events : first_events script kernel.events ≡ es
  pub stands : IsSys script (first_events script kernel.events) kernel machines tables

pub told_none :
    (script : ScriptValue) (kernel : State) (machines : List Machine) (tables : List NcdValue) → IsSys script [] kernel machines tables →
    IsTold script [] kernel machines tables
told_none script kernel machines tables is =
    let events : first_events script kernel.events ≡ [] =
    ap (first_events script) (events-counted (none_yet script) kernel is.kernel_stands) ∙ no_events script
    in record { events = events; stands = subst (λ es. IsSys script es kernel machines tables) (sym events) is }

pub its_machine :
    (script : ScriptValue) (kernel : State) (machines : List Machine) (tables : List NcdValue) (t : ℕ) →
    IsSys script (first_events script kernel.events) kernel machines tables → turn_of_play (so_far script kernel.events) ≡ Some t → HasMachine t machines
its_machine script kernel machines tables t is e = has_machine script (first_events script kernel.events) kernel machines tables t is (due (so_far script kernel.events) t e).can

pub can_turn :
    (script : ScriptValue) (kernel : State) (machines : List Machine) (tables : List NcdValue) (t : ℕ) (x : Machine) (output : Option (List ℕ)) →
    IsSys script (first_events script kernel.events) kernel machines tables → turn_of_play (so_far script kernel.events) ≡ Some t →
    slice_get machines (t - 1) ≡ Some x → output ≡ output_at (state_of (state_of_run (so_far script kernel.events)) t) →
    CanTurn script (first_events script kernel.events) kernel x tables t output
can_turn script kernel machines tables t x output is e read is_output =
    let is_due = due (so_far script kernel.events) t e
    in let has = its_machine script kernel machines tables t is e
    in record {
      run = is.journal_is_run;
      kernel_stands = is.kernel_stands;
      machine_stands = machine-stands script (first_events script kernel.events) kernel machines tables t x is has read;
      tables_stand = is.tables_stand;
      can = is_due.can;
      left = is_due.left;
      is_output = is_output;
    }

-- where no turn was taken
pub told_same :
    (script : ScriptValue) (kernel kernel' : State) (machines : List Machine) (tables tables' : List NcdValue) (t : ℕ) (x : Machine) →
    IsSys script (first_events script kernel.events) kernel machines tables → turn_of_play (so_far script kernel.events) ≡ Some t → kernel' ≡ kernel →
    tables' ≡ tables → MachineStands script (first_events script kernel.events) t x →
    IsTold script (first_events script kernel.events) kernel' (slice_set machines (t - 1) x) tables'
told_same script kernel kernel' machines tables tables' t x is e same same_tables machine =
    let es = first_events script kernel.events
    in let has = its_machine script kernel machines tables t is e
    in let events : first_events script kernel'.events ≡ es = ap (λ (k : State). first_events script k.events) same
    in record {
      events = events;
      stands =
          subst (λ fs. IsSys script fs kernel' (slice_set machines (t - 1) x) tables') (sym events)
          (IsSys-same script es es kernel kernel' machines tables tables' t x is has refl same same_tables machine);
    }

pub told :
    (script : ScriptValue) (kernel kernel' : State) (machines : List Machine) (tables tables' : List NcdValue) (t : ℕ) (turned : Turned) (x : Machine) →
    IsSys script (first_events script kernel.events) kernel machines tables → turn_of_play (so_far script kernel.events) ≡ Some t →
    HasTurned script (first_events script kernel.events) t turned kernel' x tables' →
    IsTold script (first_events script kernel.events ++ turned.event ∷ []) kernel' (slice_set machines (t - 1) x) tables'
told script kernel kernel' machines tables tables' t turned x is e turn =
    let p = so_far script kernel.events
    in let is_due = due p t e
    in let has = its_machine script kernel machines tables t is e
    in let counted : kernel.events ≡ length p.journal = events-counted p kernel is.kernel_stands
    in let counted' : kernel'.events ≡ length (with_turn p t).journal = events-counted (with_turn p t) kernel' turn.kernel_stands
    in let one : length (with_turn p t).journal ≡ length p.journal + 1 = simp length-append refl
    in let number : kernel'.events ≡ kernel.events + 1 = omega arith
    in let events : first_events script kernel'.events ≡ (with_turn p t).journal = ap (first_events script) number ∙ one_more script kernel.events t e
    in let event : p.journal ++ turned.event ∷ [] ≡ (with_turn p t).journal = ap (λ (q : SysValue). q.journal) turn.journal
    in record {
      events = events ∙ sym event;
      stands =
          IsSys-turn script p.journal (first_events script kernel'.events) kernel kernel' machines tables tables' t x is has is_due.can is_due.left
          (ap (with_journal script) events) turn.kernel_stands (subst (λ es. MachineStands script es t x) (event ∙ sym events) turn.machine_stands)
          turn.tables_stand;
    }
