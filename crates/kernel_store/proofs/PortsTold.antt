-- What ports are told, over the parts of a store.
use Rattle.std.proofs.Common.{◌≡◌, ℕ, ◌||◌, Bool, true, false, if◌then◌else◌, List, [], ◌∷◌, Option, None, Some, All, filter, length, refl, sym, ap, ap₂, ◌∙◌}
use Rattle.std.specs.List.{list_any}
use Rattle.std.proofs.lemmas.List.Elements.{All-weaker}
use Rattle.law_channels.specs.Ended.{empty_rows, ended_by, row_ended, rows_ended, timers_ended}
use Rattle.kernel_ports.specs.Words.{AssociatedPortsValue}
use Rattle.spec_records.specs.declared.association.Association.{Association}
use Rattle.spec_records.specs.declared.timer.Due.{Due}
use Rattle.spec_records.specs.Words.{AssociationList, Port, all_fired, fire_all, is_object, is_to_fire, post_fired, ready_object, tell_dues}
use Rattle.kernel_store.specs.declared.told.ClosedRows.{ClosedRows}
use Rattle.kernel_store.specs.declared.told.ClosedRows.TheVariants as closed
use Rattle.kernel_store.specs.Stored.{StoreValue, stored_state}
use Rattle.kernel_store.specs.Telling.{AreNamed, IsOfPipe, channels_in, closing_of, ended_in, is_empty_in, is_named, is_nothing}
use Rattle.kernel_ports.specs.declared.changed.Ends.{Ends}
use Rattle.kernel_ports.specs.Words.{AreAllNamed, is_changed, other_end}
use Rattle.timer_src.specs.Words.{TimersValue}
use Rattle.spec_kernel.specs.Types.{Fd, Obj}
use Rattle.spec_kernel.specs.Words.{Channels, State, associations_in, fire, ready_at, references_of, with_channels}

-- rows that are closed

pub ended_is : (m : State) (c : Channels) (x : ClosedRows) → ended_in m.tables c x ≡ ended_by c (empty_rows m (closing_of x))
ended_is m c closed.Nothing = refl
ended_is m c (closed.Row p fd) = refl
ended_is m c (closed.Rows p fds) = refl
ended_is m c (closed.Process p) = refl

pub nothing_ended : (m : State) (x : ClosedRows) → true ≡ is_nothing x → m ≡ with_channels m (ended_by m.channels (empty_rows m (closing_of x)))
nothing_ended m closed.Nothing e = refl
nothing_ended m (closed.Row p fd) e = cc
nothing_ended m (closed.Rows p fds) e = cc
nothing_ended m (closed.Process p) e = cc

pub store_ended :
    (v : StoreValue) (ports : AssociatedPortsValue) (x : ClosedRows) → channels_in v.pipes.items ports ≡ ended_in v.tables (stored_state v).channels x →
    with_channels (stored_state v) (channels_in v.pipes.items ports) ≡ with_channels (stored_state v) (ended_by (stored_state v).channels (empty_rows (stored_state v) (closing_of x)))
store_ended v ports x e = ap (with_channels (stored_state v)) (e ∙ ended_is (stored_state v) (stored_state v).channels x)

-- nothing is due
pub none_due : (ports : List Port) (ds : List Due) → length ds ≡ 0 → tell_dues ports ds ≡ ports
none_due ports [] e = refl
none_due ports (d ∷ ds) e = cc

-- timers of a process that ends

pub store_timers_ended :
    (v : StoreValue) (ports : AssociatedPortsValue) (x : ClosedRows) → channels_in v.pipes.items ports ≡ timers_ended (stored_state v).channels (closing_of x) →
    with_channels (stored_state v) (channels_in v.pipes.items ports) ≡ with_channels (stored_state v) (timers_ended (stored_state v).channels (closing_of x))
store_timers_ended v ports x e = ap (with_channels (stored_state v)) e

-- one row after the other

pub rows_next :
    (tables : List (List (Option Obj))) (p : ℕ) (c d : Channels) (fd : Fd) (fds : List Fd) → d ≡ (if is_empty_in tables p fd then row_ended c p fd else c) →
    rows_ended d p (filter (is_empty_in tables p) fds) ≡ rows_ended c p (filter (is_empty_in tables p) (fd ∷ fds))
rows_next tables p c d fd fds e = ap (λ k. rows_ended k p (filter (is_empty_in tables p) fds)) e ∙ go (is_empty_in tables p fd)
  where
    go :
        (b : Bool) → rows_ended (if b then row_ended c p fd else c) p (filter (is_empty_in tables p) fds)
        ≡ rows_ended c p (if b then fd ∷ filter (is_empty_in tables p) fds else filter (is_empty_in tables p) fds)
    go true = refl
    go false = refl

-- the rows that are left over, after one more of them
pub rows_left :
    (tables : List (List (Option Obj))) (p : ℕ) (c d start : Channels) (fd : Fd) (before after : List Fd) → before ≡ fd ∷ after →
    d ≡ (if is_empty_in tables p fd then row_ended c p fd else c) → rows_ended c p (filter (is_empty_in tables p) before) ≡ start →
    rows_ended d p (filter (is_empty_in tables p) after) ≡ start
rows_left tables p c d start fd before after next e so_far =
    rows_next tables p c d fd after e ∙ ap (λ xs. rows_ended c p (filter (is_empty_in tables p) xs)) (sym next) ∙ so_far

pub one_row :
    (tables : List (List (Option Obj))) (p : ℕ) (c d : Channels) (fd : Fd) → d ≡ (if is_empty_in tables p fd then row_ended c p fd else c) →
    d ≡ rows_ended c p (filter (is_empty_in tables p) (fd ∷ []))
one_row tables p c d fd e = rows_next tables p c d fd [] e

-- what is named

pub all_named :
    (m : State) (pipe : Option ℕ) (ends : Option Ends) (gone : List Obj) → IsOfPipe m pipe ends → AreNamed m pipe gone →
    AreAllNamed m.channels.pipes (references_of m) ends gone (associations_in m)
all_named m pipe ends gone of h =
    record {
      ends = of.references;
      none_left = h.none_left;
      fires =
          All-weaker (λ a. is_to_fire (ready_at m) a ≡ true → is_named pipe gone a.object ≡ true) (λ a. is_to_fire (ready_at m) a ≡ true → is_changed ends gone a.object ≡ true)
          (λ a f e. ap (λ b. b || list_any (is_object (other_end a.object)) gone) (of.ends a.object) ∙ f e) (associations_in m) h.fires;
    }

pub fired_is :
    (m : State) (ports : List Port) (list : AssociationList) → ports ≡ post_fired m.channels.ports (all_fired (ready_at m) (associations_in m)) →
    list ≡ fire_all m.channels.associations (ready_at m) → with_channels m (record m.channels { ports = ports; associations = list }) ≡ fire m
fired_is m ports list posted fired =
    ap₂ {A = List Port} {B = AssociationList} {C = State} (λ p l. with_channels m (record m.channels { ports = p; associations = l })) posted fired

pub store_fired :
    (v : StoreValue) (ports : AssociatedPortsValue) (pipe : Option ℕ) (ends : Option Ends) (gone : List Obj) → IsOfPipe (stored_state v) pipe ends → AreNamed (stored_state v) pipe gone →
    ((refs : Obj → ℕ) → AreAllNamed v.pipes.items refs ends gone v.assocs.list.associations → ports.assocs.list ≡ fire_all v.assocs.list (ready_object v.pipes.items refs)) →
    ((refs : Obj → ℕ) → AreAllNamed v.pipes.items refs ends gone v.assocs.list.associations →
    ports.ports.ports ≡ post_fired v.ports.ports (all_fired (ready_object v.pipes.items refs) v.assocs.list.associations)) →
    ports.timers ≡ v.timers → with_channels (stored_state v) (channels_in v.pipes.items ports) ≡ fire (stored_state v)
store_fired v ports pipe ends gone of named fired posted still =
    let n = stored_state v in
    let all = all_named n pipe ends gone of named in
    ap (λ (timers : TimersValue). with_channels n (record n.channels { ports = ports.ports.ports; associations = ports.assocs.list; timers = timers.list })) still
    ∙ fired_is n ports.ports.ports ports.assocs.list (posted (references_of n) all) (fired (references_of n) all)
