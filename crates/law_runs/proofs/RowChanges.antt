-- What a descriptor names before and after an event.
use Rattle.std.specs.Prelude.{ℕ, ◌≡◌, ◌+◌, ◌<◌, ◌≤◌, ◌==◌, List, [], ◌∷◌, Option, Bool, true, false, if◌then◌else◌, Some, None, zero, suc, is_none, length, nat_lt, slice_get, slice_set, unwrap_or}
use Rattle.std.specs.Option.{option_map}
use Rattle.std.specs.List.{list_any, position_or_len}
use Rattle.std.proofs.Common.{is_some, refl, sym, ap, subst, ◌∙◌}
use native.Mathlib.Omega.{arith}
use Rattle.std.proofs.lemmas.Bool.Decides.{nat_tests}
use Rattle.std.proofs.lemmas.List.{length-append, length-set}
use Rattle.spec_kernel.specs.Types.{Answer, Attrs, Call, CallStage, Fd, Obj, Pass, PathId, Pid, Process, Request, Queued}
use Rattle.dk_base.specs.declared.error.Errno.TheVariants.{EBADF, EMFILE}
use Rattle.dk_base.specs.declared.object.Obj.TheVariants as obj
use Rattle.dk_base.specs.declared.request.Request.TheVariants as request
use Rattle.dk_base.specs.declared.answer.Answer.TheVariants as answer
use Rattle.dk_base.specs.ByNumber.{at_number}
use Rattle.spec_records.specs.declared.record.CallStage.TheVariants as stage
use Rattle.spec_records.specs.Words.{Port, close_row, close_table, descriptor, door_attached, first_found, free_place, free_rows, insert_row, insert_rows, is_live_in, is_to_collect_as, is_unborn_in, lowest_free, make_pipe, make_port, new_descriptors, new_door, new_pipe, new_port, object_in, object_named, pid, refused_where, release_rows, table_in, with_door, with_row, with_table}
use Rattle.spec_kernel.specs.Words.{ActResult, Channels, MayEnter, MayTurn, State, Turn, act, collect_answer, collect_answer_in, door_of, dup, effect, event_answer, find_call, found_answer, has_room, name_of, object_at, objects_collected, objects_collected_in, port, port_at, state_at, step, table_of, tables_after_collect, tables_with}
use Rattle.spec_records.proofs.Lists.{numbered_past, numbered_push, numbered_there, same_numbered, slice_get-slice_set}
use Rattle.spec_kernel.proofs.Settling.{doors-settle, pipes-settle, tables-settle}
use Rattle.spec_kernel.proofs.Steps.{act-limits, length-insert_rows, length-release_rows}
use Rattle.spec_kernel.proofs.Moves.{IsEnding, IsFree, IsMaking, IsPassing, IsRow, IsSaid, IsTurn, Moves, act_moves, act_result}
use Rattle.law_states.specs.Events.{IsMade}
use Rattle.law_places.specs.Places.{IsCollect, answer_at, process_at}
use Rattle.law_places.specs.Counts.{descriptors, limit_of}
use Rattle.law_runs.specs.NoLoss.{Brings, Passes, is_descriptor, is_release_of}
use Rattle.law_runs.specs.Ends.{EndsProcess}
use Rattle.law_runs.specs.Rows.{ArePipeEnds, AsksFor, Closes, Forks, IsAnswered, MakesPipe, RowChange, Rows}
use Rattle.law_runs.proofs.Endings.{last_is, live_begun}
use Rattle.law_runs.proofs.Forking.{fork_is_free, was_unborn}
use Rattle.law_runs.proofs.Installed.{closes, lowest_place, not_released, other_row, others_stay, own_row, place_free, released_none, room_left, taken, table_elsewhere, table_then, were_free}
use Rattle.law_channels.proofs.Acts.{settled_long}
use Rattle.law_places.proofs.Known.{Known, invariant_before, next, stays}
use Rattle.law_places.proofs.Passed.{Found, found_any, same_descriptor}
use Rattle.law_places.proofs.ReturnRefusals.{no_return_refusal}
use Rattle.law_runs.proofs.Tables.{Installs, installs, not_refused, nothing_installed, tables-effect}
use Rattle.spec_kernel.proofs.Refusals.{not_held}
use Rattle.law_runs.proofs.NoLoss.{no_loss_holds}

-- where one is free, some are
some_free : (t : List (Option Obj)) → is_none (lowest_free t) ≡ false → 0 < free_rows t
some_free t e = omega (arith, taken t (obj.Door 0) within)
  where
    within : position_or_len is_none t < length t
    within = grind (arith, nat_tests)

other_place :
    (t : List (Option Obj)) (n l : ℕ) (o : Option Obj) → (l == n) ≡ false → object_in (slice_get (slice_set t n o) l) ≡ object_in (slice_get t l)
other_place t n l o e = ap object_in same
  where
    same : slice_get (slice_set t n o) l ≡ slice_get t l
    same = slice_get-slice_set t n l o ∙ grind (arith, nat_tests)

length-close_table : (t : List (Option Obj)) → length (close_table t) ≡ length t
length-close_table [] = refl
length-close_table (o ∷ t) = ap suc (length-close_table t)

all_closed : (t : List (Option Obj)) (n : ℕ) → object_in (slice_get (close_table t) n) ≡ None
all_closed [] n = grind arith
all_closed (o ∷ t) zero = refl
all_closed (o ∷ t) (suc n) = all_closed t n

record IsThere {X : Type 0} (o : Option X) : Type 0 where
  it : X
  there : o ≡ Some it

is_there : {X : Type 0} (o : Option X) → is_none o ≡ false → IsThere o
is_there None e = absurd (cc e)
is_there (Some o) e = record { it = o; there = refl }

long : (o : Option (List (Option Obj))) → unwrap_or (option_map length o) 0 ≡ length (unwrap_or o [])
long None = refl
long (Some t) = refl

pub answers : (m : State) (t : ℕ) (q : Option Request) → (step m t q).answer ≡ (act m t q).answer
unfolding step
answers m t q = refl

pub tables-step : (m : State) (t : ℕ) (q : Option Request) → (step m t q).state.tables ≡ (act m t q).state.tables
unfolding step
tables-step m t q = tables-settle m (act m t q).state

pub doors-step : (m : State) (t : ℕ) (q : Option Request) → (step m t q).state.doors ≡ (act m t q).state.doors
unfolding step
doors-step m t q = doors-settle m (act m t q).state

pipes-step : (m : State) (t : ℕ) (q : Option Request) → (step m t q).state.channels.pipes ≡ (act m t q).state.channels.pipes
unfolding step
pipes-step m t q = pipes-settle m (act m t q).state

ports-step : (m : State) (t : ℕ) (q : Option Request) → length (step m t q).state.channels.ports ≡ length (act m t q).state.channels.ports
unfolding step
ports-step m t q = settled_long m (act m t q).state

pub pipes-turn :
    (m : State) (xs : List Turn) (k : Known m xs) (i : ℕ) (x : Turn) → slice_get xs i ≡ Some x →
    (state_at m xs (i + 1)).channels.pipes ≡ (act (state_at m xs i) x.thread x.request).state.channels.pipes
pipes-turn m xs k i x e = ap (λ (n : State). n.channels.pipes) (next m xs k i x e) ∙ pipes-step (state_at m xs i) x.thread x.request

-- the answer tells a new descriptor, or two
abbrev is_new : Answer → Bool
is_new (answer.NewFd fd) = true
is_new (answer.TwoFds reading writing) = true
is_new _ = false

-- what an act leaves of this event
record IsAct (m : State) (xs : List Turn) (i : ℕ) (x : Turn) (q : Option Request) (a : ActResult) : Type 0 where
  request : x.request ≡ q
  answer : answer_at m xs i x ≡ a.answer
  tables : (state_at m xs (i + 1)).tables ≡ a.state.tables
  doors : (state_at m xs (i + 1)).doors ≡ a.state.doors
  pipes : (state_at m xs (i + 1)).channels.pipes ≡ a.state.channels.pipes
  ports : length (state_at m xs (i + 1)).channels.ports ≡ length a.state.channels.ports

module _ (m : State) (xs : List Turn) (k : Known m xs) (i : ℕ) (x : Turn) (e : slice_get xs i ≡ Some x) where
  abbrev before : State
  before = state_at m xs i

  abbrev own : ℕ
  own = process_at m xs i x.thread

  abbrev table : List (Option Obj)
  table = table_of (state_at m xs i) (process_at m xs i x.thread)

  abbrev Row : ℕ → Fd → Option Obj → Option Obj → Type 0
  Row p fd o r = RowChange m xs i x p fd o r

  moves_as : (p : ℕ) (fd : Fd) (a b c d : Option Obj) → a ≡ b → c ≡ d → Row p fd b d → Row p fd a c
  moves_as p fd a b c d e f h = subst (λ z. Row p fd z c) (sym e) (subst (λ z. Row p fd b z) (sym f) h)

  same_row : (p : ℕ) (fd : Fd) (a b : Option Obj) → b ≡ a → Row p fd a b
  same_row p fd a b e = moves_as p fd a a b a refl e RowChange.stays

  -- a row that is gone was there, or none was
  gone_row : (p : ℕ) (fd : Fd) (a b : Option Obj) → b ≡ None → ((o : Obj) → Row p fd (Some o) None) → Row p fd a b
  gone_row p fd None b e h = same_row p fd None b e
  gone_row p fd (Some o) b e h = moves_as p fd (Some o) (Some o) b None refl e (h o)

  -- and one that is new
  new_row : (p : ℕ) (fd : Fd) (a b : Option Obj) → a ≡ None → ((o : Obj) → Row p fd None (Some o)) → Row p fd a b
  new_row p fd a None e h = same_row p fd a None (sym e)
  new_row p fd a (Some o) e h = moves_as p fd a None (Some o) (Some o) e refl (h o)

  -- a process has another table, and the others theirs
  by_table :
      (n : List (List (Option Obj))) (q : ℕ) (t : List (Option Obj)) → n ≡ with_table (state_at m xs i).tables q t →
      length t ≡ length (table_of (state_at m xs i) q) →
      ((fd : Fd) → Row q fd (object_at (state_at m xs i) q fd) (object_named t fd)) → (p : ℕ) (fd : Fd) →
      Row p fd (object_at (state_at m xs i) p fd) (object_named (table_in n p) fd)
  by_table n q t f l h p fd = go (p == q) refl
    where
      go : (b : Bool) → (p == q) ≡ b → Row p fd (object_at (state_at m xs i) p fd) (object_named (table_in n p) fd)
      go true g =
          let same : q ≡ p = grind (arith, nat_tests) in
          subst (λ r. Row r fd (object_at (state_at m xs i) r fd) (object_named (table_in n r) fd)) same
          (moves_as q fd _ _ _ _ refl
          (ap (λ ts. object_named (table_in ts q) fd) f ∙ ap (λ u. object_named u fd) (table_then (state_at m xs i).tables q t l))
          (h fd))
      go false g =
          same_row p fd _ _
          (ap (λ ts. object_named (table_in ts p) fd) f
          ∙ ap (λ u. object_named u fd) (table_elsewhere (state_at m xs i).tables q p t (λ same. absurd (grind (arith, nat_tests)))))

  -- a row that is closed
  close_moves :
      (q : ℕ) (t : List (Option Obj)) (closed : Fd) → ((o : Obj) → Row q closed (Some o) None) → (fd : Fd) →
      Row q fd (object_named t fd) (object_named (close_row t closed.0) fd)
  close_moves q t closed h fd = go (fd.0 == closed.0) refl
    where
      go : (b : Bool) → (fd.0 == closed.0) ≡ b → Row q fd (object_named t fd) (object_named (close_row t closed.0) fd)
      go true g =
          let same : closed ≡ fd = same_descriptor closed fd (grind (arith, nat_tests)) in
          subst (λ z. Row q z (object_named t z) (object_named (close_row t closed.0) z)) same
          (gone_row q closed _ _ (closes t closed) h)
      go false g = same_row q fd _ _ (other_place t closed.0 fd.0 None g)

  -- one that is new
  insert_moves :
      (q : ℕ) (t : List (Option Obj)) (o : Obj) → 0 < free_rows t → Row q (descriptor (free_place t)) None (Some o) → (fd : Fd) →
      Row q fd (object_named t fd) (object_named (insert_row t o) fd)
  insert_moves q t o l h fd = go (fd.0 == free_place t) refl
    where
      go : (b : Bool) → (fd.0 == free_place t) ≡ b → Row q fd (object_named t fd) (object_named (insert_row t o) fd)
      go true g =
          let same : descriptor (free_place t) ≡ fd = same_descriptor (descriptor (free_place t)) fd (grind (arith, nat_tests)) in
          subst (λ z. Row q z (object_named t z) (object_named (insert_row t o) z)) same
          (moves_as q (descriptor (free_place t)) _ None _ (Some o) (ap object_in (place_free t l)) (ap object_in (own_row t o l)) h)
      go false g = same_row q fd _ _ (ap object_in (other_row t o fd.0 g))

  -- several
  install_moves :
      (q : ℕ) (t : List (Option Obj)) (os : List Obj) → length os ≤ free_rows t →
      ((fd : Fd) (o : Obj) → list_any (is_descriptor fd) (new_descriptors t os) ≡ true → Row q fd None (Some o)) → (fd : Fd) →
      Row q fd (object_named t fd) (object_named (insert_rows t os) fd)
  install_moves q t os l h fd = go (list_any (is_descriptor fd) (new_descriptors t os)) refl
    where
      free : Found (is_descriptor fd) (new_descriptors t os) → object_named t fd ≡ None
      free f =
          let same : fd.0 ≡ f.item.0 = grind (arith, nat_tests, f.passes) in
          ap (λ n. object_in (slice_get t n)) same ∙ ap object_in (were_free t os f.at f.item l f.there)

      go :
          (b : Bool) → list_any (is_descriptor fd) (new_descriptors t os) ≡ b →
          Row q fd (object_named t fd) (object_named (insert_rows t os) fd)
      go true g = new_row q fd _ _ (free (found_any (is_descriptor fd) (new_descriptors t os) g)) (λ o. h fd o g)
      go false g = same_row q fd _ _ (ap object_in (others_stay t os fd g))

  release_moves :
      (q : ℕ) (t : List (Option Obj)) (pass : List Pass) →
      ((fd : Fd) (o : Obj) → list_any (is_release_of fd) pass ≡ true → Row q fd (Some o) None) → (fd : Fd) →
      Row q fd (object_named t fd) (object_named (release_rows t pass) fd)
  release_moves q t pass h fd = go (list_any (is_release_of fd) pass) refl
    where
      go : (b : Bool) → list_any (is_release_of fd) pass ≡ b → Row q fd (object_named t fd) (object_named (release_rows t pass) fd)
      go true g = gone_row q fd _ _ (released_none t pass fd g) (λ o. h fd o g)
      go false g = same_row q fd _ _ (not_released t pass fd g)

  -- what each act leaves

  abbrev Moved : ActResult → Type 0
  Moved a = (p : ℕ) (fd : Fd) → Row p fd (object_at (state_at m xs i) p fd) (object_at a.state p fd)

  inserted :
      (a : ActResult) (o : Obj) → answer_at m xs i x ≡ answer.NewFd (descriptor (free_place table)) →
      is_none (lowest_free table) ≡ false → a.state.tables ≡ with_table (state_at m xs i).tables own (insert_row table o) →
      AsksFor m xs i x o → Moved a
  inserted a o f l g asks =
      by_table a.state.tables own (insert_row table o) g (length-insert_rows table (o ∷ []))
      (insert_moves own table o (some_free table l) (RowChange.told o refl f asks))

  pub ends_moves :
      (r : Request) (p : ℕ) → x.request ≡ Some r → IsEnding (state_at m xs i) x.thread r p → EndsProcess m xs i x p
  ends_moves r p f (IsEnding.kills u l) =
      EndsProcess.kills u f refl (live_begun (at_number (state_at m xs i).process_table.processes u.0) l)
  ends_moves r p f (IsEnding.exits_last l) = EndsProcess.exits f refl (last_is (state_at m xs i) (invariant_before m xs k i x e) x.thread own l)

  copied :
      (fd : Fd) → IsFree (state_at m xs i) x.thread (request.Dup fd) → x.request ≡ Some (request.Dup fd) →
      answer_at m xs i x ≡ answer.NewFd (descriptor (free_place table)) → IsThere (object_at (state_at m xs i) own fd) →
      Moved (dup (state_at m xs i) own fd)
  copied fd f g h there =
      inserted (dup (state_at m xs i) own fd) there.it h
      (not_held (_ ∷ []) _ [] f)
      (ap (λ o. with_table (state_at m xs i).tables own (with_row table (free_place table) o)) there.there)
      (AsksFor.copies fd there.it g there.there)

  opened :
      (path : PathId) → x.request ≡ Some (request.Open path) → IsThere (name_of (state_at m xs i) path) →
      AsksFor m xs i x (obj.Door (door_attached (name_of (state_at m xs i) path)))
  opened path f there =
      subst (λ o. AsksFor m xs i x (obj.Door (door_attached o))) (sym there.there) (AsksFor.opens path there.it f there.there)

  made :
      (entry cookie : ℕ) (attrs : Attrs) → (state_at m xs (i + 1)).doors ≡ with_door (state_at m xs i).doors own entry cookie attrs →
      IsMade (door_of (state_at m xs (i + 1)) (length (state_at m xs i).doors + 1))
  made entry cookie attrs f =
      record {
        made = new_door (length (state_at m xs i).doors + 1) own entry cookie attrs;
        there =
            ap (λ ds. at_number ds (length (state_at m xs i).doors + 1)) f
            ∙ numbered_push (state_at m xs i).doors (new_door (length (state_at m xs i).doors + 1) own entry cookie attrs) (length (state_at m xs i).doors + 1)
            ∙ grind (arith, nat_tests);
      }

  -- pipes and ports that are made

  abbrev next_port : ℕ
  next_port = length (state_at m xs i).channels.ports + 1

  abbrev next_pipe : ℕ
  next_pipe = length (state_at m xs i).channels.pipes + 1

  asked_port :
      x.request ≡ Some request.PortCreate → length (state_at m xs (i + 1)).channels.ports ≡ length (make_port (state_at m xs i).channels.ports) →
      AsksFor m xs i x (obj.Port next_port)
  asked_port f g =
      AsksFor.makes_port next_port f
      (numbered_past (state_at m xs i).channels.ports next_port (omega arith))
      (go (at_number (state_at m xs (i + 1)).channels.ports next_port)
      (numbered_there (state_at m xs (i + 1)).channels.ports next_port (omega arith)
      (omega (arith, g, length-append (state_at m xs i).channels.ports (new_port next_port ∷ [])))))
    where
      go : (o : Option Port) → is_some o ≡ true → IsMade o
      go None l = absurd (cc l)
      go (Some p) l = record { made = p; there = refl }

  pipe_is_made :
      x.request ≡ Some request.Pipe → (state_at m xs (i + 1)).channels.pipes ≡ make_pipe (state_at m xs i).channels.pipes →
      MakesPipe m xs i x next_pipe
  pipe_is_made f g =
      record {
        asked = f;
        none_before = numbered_past (state_at m xs i).channels.pipes next_pipe (omega arith);
        made =
            record {
              made = new_pipe next_pipe;
              there =
                  ap (λ ps. at_number ps next_pipe) g
                  ∙ numbered_push (state_at m xs i).channels.pipes (new_pipe next_pipe) next_pipe
                  ∙ grind (arith, nat_tests);
            };
      }

  -- both ends of a pipe
  ends_move :
      2 ≤ free_rows table →
      answer_at m xs i x
      ≡ answer.TwoFds (descriptor (free_place table)) (descriptor (free_place (insert_row table (obj.PipeIn next_pipe)))) →
      MakesPipe m xs i x next_pipe → (fd : Fd) →
      Row own fd (object_named table fd)
      (object_named (insert_row (insert_row table (obj.PipeIn next_pipe)) (obj.PipeOut next_pipe)) fd)
  ends_move l f made fd = go (fd.0 == free_place t) refl
    where
      t : List (Option Obj)
      t = insert_row table (obj.PipeIn next_pipe)

      w : Obj
      w = obj.PipeOut next_pipe

      go : (b : Bool) → (fd.0 == free_place t) ≡ b → Row own fd (object_named table fd) (object_named (insert_row t w) fd)
      go true g =
          let same : descriptor (free_place t) ≡ fd = same_descriptor (descriptor (free_place t)) fd (grind (arith, nat_tests)) in
          subst (λ z. Row own z (object_named table z) (object_named (insert_row t w) z)) same
          (moves_as own (descriptor (free_place t)) _ None _ (Some w)
          (ap object_in (were_free table (obj.PipeIn next_pipe ∷ w ∷ []) 1 (descriptor (free_place t)) l refl))
          (ap object_in (own_row t w (room_left table (obj.PipeIn next_pipe) (w ∷ []) l)))
          (RowChange.writing next_pipe (descriptor (free_place table)) refl f made))
      go false g =
          moves_as own fd _ _ _ _ refl (ap object_in (other_row t w fd.0 g))
          (insert_moves own table (obj.PipeIn next_pipe) (omega (arith, l)) (RowChange.reading next_pipe (descriptor (free_place t)) refl f made) fd)

  -- two descriptors are free
  two_free : IsFree (state_at m xs i) x.thread request.Pipe → 2 ≤ free_rows table
  two_free f = let few : nat_lt (free_rows table) 2 ≡ false = not_held [] (refused_where (nat_lt (free_rows table) 2) EMFILE) [] f in grind (arith, nat_tests, few)

  channel_moves :
      (r : Request) (c : Channels) (objects : List Obj) (y : Answer) → IsMaking (state_at m xs i) x.thread r c objects y →
      IsAct m xs i x (Some r) (act_result (record (state_at m xs i) { tables = tables_with (state_at m xs i) own objects; channels = c }) y) →
      Moved (act_result (record (state_at m xs i) { tables = tables_with (state_at m xs i) own objects; channels = c }) y)
  channel_moves r c objects y (IsMaking.makes_port f) h =
      inserted (act_result (record (state_at m xs i) { tables = tables_with (state_at m xs i) own objects; channels = c }) y) (obj.Port next_port) h.answer
      (not_held [] _ [] f) refl
      (asked_port h.request h.ports)
  channel_moves r c objects y (IsMaking.makes_pipe f) h =
      by_table (tables_with (state_at m xs i) own objects) own (insert_rows table objects) refl (length-insert_rows table objects)
      (ends_move (two_free f) h.answer (pipe_is_made h.request h.pipes))

  return_moves :
      (bytes : List ℕ) (pass : List Pass) → IsFree (state_at m xs i) x.thread (request.Return bytes pass) →
      x.request ≡ Some (request.Return bytes pass) → (fd : Fd) → Row own fd (object_named table fd) (object_named (release_rows table pass) fd)
  return_moves bytes pass f g =
      release_moves own table pass
      (λ fd o l. RowChange.closed o refl
      (Closes.by_release pass
      (Passes.at_return bytes
      (record { asked = g; not_refused = no_return_refusal (state_at m xs i) (invariant_before m xs k i x e) x.thread own bytes pass f }))
      l))

  abbrev Installed : ℕ → Fd → List Obj → Type 0
  Installed p fd os = Row p fd (object_at (state_at m xs i) p fd) (object_named (table_in (tables_after_collect (state_at m xs i) own os) p) fd)

  collected :
      (c : ℕ) (o : Option Call) → IsCollect m xs i x c → answer_at m xs i x ≡ collect_answer_in (state_at m xs i) own o → (p : ℕ) (fd : Fd) →
      Row p fd (object_at (state_at m xs i) p fd) (object_named (table_in (tables_after_collect (state_at m xs i) own (objects_collected_in o)) p) fd)
  collected c o collect f p fd = of_call o f
    where
      nothing : Installed p fd []
      nothing = same_row p fd _ _ (nothing_installed (state_at m xs i) own p fd)

      by_room :
          (r : Call) (bytes : List ℕ) (os : List Obj) (b : Bool) → has_room (state_at m xs i) own os ≡ b →
          answer_at m xs i x ≡ (if b then answer.Results bytes (new_descriptors table os) (nat_lt r.rsize (length bytes)) else answer.Failure EMFILE) →
          Row p fd (object_at (state_at m xs i) p fd) (object_named (table_in (if b then tables_with (state_at m xs i) own os else (state_at m xs i).tables) p) fd)
      by_room r bytes os true g h =
          by_table (tables_with (state_at m xs i) own os) own (insert_rows table os) refl (length-insert_rows table os)
          (install_moves own table os (grind (arith, nat_tests))
          (λ gd o l. RowChange.brought o c (new_descriptors table os) refl (Brings.by_collect bytes _ collect h) l))
          p fd
      by_room r bytes os false g h = RowChange.stays

      of_stage :
          (r : Call) (s : CallStage) → answer_at m xs i x ≡ collect_answer (state_at m xs i) own r s → Installed p fd (objects_collected s)
      of_stage r (stage.Returned bytes os) h = by_room r bytes os (has_room (state_at m xs i) own os) refl h
      of_stage r _ h = nothing

      of_call : (z : Option Call) → answer_at m xs i x ≡ collect_answer_in (state_at m xs i) own z → Installed p fd (objects_collected_in z)
      of_call None h = nothing
      of_call (Some r) h = of_stage r r.stage h

  -- a child is as large as its parent
  same_size : (child : Pid) → x.request ≡ Some (request.Fork child) → length table ≡ length (table_of (state_at m xs i) child.0)
  same_size child f = go (subst (MayTurn (state_at m xs i) x.thread) f (k.may i x e))
    where
      go : MayEnter (state_at m xs i) x.thread (request.Fork child) → length table ≡ length (table_of (state_at m xs i) child.0)
      go may = sym ((invariant_before m xs k i x e).children child.0 (pid own) may.fit).limit

  fork_moves :
      (child : Pid) → IsFree (state_at m xs i) x.thread (request.Fork child) → Forks m xs i x child → (fd : Fd) →
      Row child.0 fd (object_at (state_at m xs i) child.0 fd) (object_named table fd)
  fork_moves child f g fd = by (object_named table fd) refl
    where
      none : object_at (state_at m xs i) child.0 fd ≡ None
      none =
          (invariant_before m xs k i x e).consistent.no_rows child.0 fd
          (not_live (at_number (state_at m xs i).process_table.processes child.0) (was_unborn (state_at m xs i) child.0 f))
        where
          not_live : (o : Option Process) → is_unborn_in o ≡ true → is_live_in o ≡ false
          not_live o h = grind arith

      by : (o : Option Obj) → object_named table fd ≡ o → Row child.0 fd (object_at (state_at m xs i) child.0 fd) (object_named table fd)
      by None h = moves_as child.0 fd _ None _ None none h RowChange.stays
      by (Some o) h = moves_as child.0 fd _ None _ (Some o) none h (RowChange.forked o child g refl h)

  act_rows : (q : Option Request) (a : ActResult) → Moves (state_at m xs i) x.thread q a → IsAct m xs i x q a → Moved a
  act_rows q a (Moves.rows r place o y (IsRow.closes fd f)) h =
      by_table a.state.tables own (close_row table fd.0) refl (length-set table fd.0 None)
      (close_moves own table fd (λ o. RowChange.closed o refl (Closes.by_close h.request h.answer)))
  act_rows q a (Moves.rows r place o y (IsRow.copies fd f)) h =
      copied fd f h.request h.answer (is_there _ (not_held [] _ (_ ∷ []) f))
  act_rows q a (Moves.rows r place o y (IsRow.opens path f)) h =
      inserted a (obj.Door (door_attached (name_of (state_at m xs i) path))) h.answer
      (not_held (_ ∷ []) _ [] f) refl
      (opened path h.request (is_there _ (not_held [] _ (_ ∷ []) f)))
  act_rows q a (Moves.makes entry cookie attrs f) h =
      inserted a (obj.Door (length (state_at m xs i).doors + 1)) h.answer
      (not_held (_ ∷ []) _ [] f) refl
      (AsksFor.makes (length (state_at m xs i).doors + 1) entry cookie attrs h.request
      (numbered_past (state_at m xs i).doors _ (omega arith))
      (made entry cookie attrs h.doors))
  act_rows q a (Moves.calls fd bytes pass rsize f) h =
      by_table a.state.tables own (release_rows table pass) refl (length-release_rows table pass)
      (release_moves own table pass
      (λ gd o g. RowChange.closed o refl (Closes.by_release pass (Passes.at_call fd bytes rsize _ h.request h.answer) g)))
  act_rows q a (Moves.returns bytes pass f v) h =
      by_table a.state.tables own (release_rows table pass) refl (length-release_rows table pass) (return_moves bytes pass f h.request)
  act_rows q a (Moves.returns_unbound bytes pass f v) h =
      by_table a.state.tables own (release_rows table pass) refl (length-release_rows table pass) (return_moves bytes pass f h.request)
  act_rows q a (Moves.enters r f g) h =
      by_table a.state.tables own (insert_rows table r.objects) refl (length-insert_rows table r.objects)
      (install_moves own table r.objects (grind (arith, nat_tests))
      (λ fd o l. RowChange.brought o r.number (new_descriptors table r.objects) refl (Brings.by_accept _ _ r.bytes h.answer) l))
  act_rows q a (Moves.collects c f) h = collected c (find_call (state_at m xs i) (is_to_collect_as c)) (record { no_request = h.request; calling = f }) h.answer
  act_rows q a (Moves.revokes fd f) h =
      by_table a.state.tables own (close_row table fd.0) refl (length-set table fd.0 None)
      (close_moves own table fd (λ o. RowChange.closed o refl (Closes.by_revoke h.request h.answer)))
  act_rows q a (Moves.ends r p f) h =
      by_table a.state.tables p (close_table (table_of (state_at m xs i) p)) refl (length-close_table (table_of (state_at m xs i) p))
      (λ fd. gone_row p fd _ _ (all_closed (table_of (state_at m xs i) p) fd.0) (λ o. RowChange.ended o (ends_moves r p h.request f)))
  act_rows q a (Moves.makes_channel r c objects y f) h = channel_moves r c objects y f h
  act_rows q a (Moves.forks child f) h =
      by_table a.state.tables child.0 table refl (same_size child h.request)
      (fork_moves child f (record { asked = h.request; answered = h.answer }))
  act_rows q a _ h = λ p fd. RowChange.stays

  acts : IsAct m xs i x x.request (act (state_at m xs i) x.thread x.request)
  acts =
      record {
        request = refl;
        answer = answers (state_at m xs i) x.thread x.request;
        tables = ap (λ (n : State). n.tables) (next m xs k i x e) ∙ tables-step (state_at m xs i) x.thread x.request;
        doors = ap (λ (n : State). n.doors) (next m xs k i x e) ∙ doors-step (state_at m xs i) x.thread x.request;
        pipes = pipes-turn m xs k i x e;
        ports = ap (λ (n : State). length n.channels.ports) (next m xs k i x e) ∙ ports-step (state_at m xs i) x.thread x.request;
      }

  rows_here : (p : ℕ) (fd : Fd) → Row p fd (object_at (state_at m xs i) p fd) (object_at (state_at m xs (i + 1)) p fd)
  rows_here p fd =
      moves_as p fd _ _ _ _ refl (ap (λ ts. object_named (table_in ts p) fd) acts.tables)
      (act_rows x.request (act (state_at m xs i) x.thread x.request) (act_moves (state_at m xs i) x.thread x.request) acts p fd)

  -- what is told

  same_number : (a b : Fd) → answer.NewFd a ≡ answer.NewFd b → b ≡ a
  same_number a b f = cc

  told_by :
      (a : ActResult) (o : Obj) (fd : Fd) → (state_at m xs (i + 1)).tables ≡ with_table (state_at m xs i).tables own (insert_row table o) →
      is_none (lowest_free table) ≡ false → answer.NewFd fd ≡ answer.NewFd (descriptor (free_place table)) → AsksFor m xs i x o →
      IsAnswered m xs i x fd
  told_by a o fd f l g asks =
      subst (IsAnswered m xs i x) (same_number fd (descriptor (free_place table)) g)
      (record {
        object = o;
        asked = asks;
        was_free = ap object_in (place_free table (some_free table l));
        lowest = lowest_place table (some_free table l);
        names =
            ap (λ ts. object_named (table_in ts own) (descriptor (free_place table))) f
            ∙ ap (λ u. object_named u (descriptor (free_place table)))
            (table_then (state_at m xs i).tables own (insert_row table o) (length-insert_rows table (o ∷ [])))
            ∙ ap object_in (own_row table o (some_free table l));
      })

  not_new : (a : Answer) (fd : Fd) → answer.NewFd fd ≡ a → is_new a ≡ false → ⊥
  not_new a fd f g = absurd (cc (ap is_new f ∙ g))

  not_two : (a : Answer) (reading writing : Fd) → answer.TwoFds reading writing ≡ a → is_new a ≡ false → ⊥
  not_two a reading writing f g = absurd (cc (ap is_new f ∙ g))

  new_of_found : (q max : ℕ) (one : Bool) → is_new (found_answer (state_at m xs i) q max one) ≡ false
  new_of_found q max false = refl
  new_of_found q max true = event (first_found (port (state_at m xs i) q))
    where
      event : (o : Option Queued) → is_new (event_answer o) ≡ false
      event None = refl
      event (Some z) = refl

  new_of_passing : (r : Request) (c : Channels) (a : Answer) → IsPassing (state_at m xs i) x.thread r c a → is_new a ≡ false
  new_of_passing r c a (IsPassing.gets fd wait f g) = new_of_found (port_at (state_at m xs i) own fd) 1 true
  new_of_passing r c a (IsPassing.gets_many fd max nget wait f z g) = new_of_found (port_at (state_at m xs i) own fd) max false
  new_of_passing r c a _ = refl

  new_of_said : (q : Option Request) (a : Answer) → IsSaid (state_at m xs i) x.thread q a → is_new a ≡ false
  new_of_said q a (IsSaid.refused r e f) = refl
  new_of_said q a _ = refl

  new_of_turn : (q : Option Request) (s : _) (a : Answer) → IsTurn (state_at m xs i) x.thread q s a → is_new a ≡ false
  new_of_turn q s a (IsTurn.awaits path f) = refl
  new_of_turn q s a _ = refl

  new_of_collect : (o : Option Call) → is_new (collect_answer_in (state_at m xs i) own o) ≡ false
  new_of_collect None = refl
  new_of_collect (Some r) = of_stage r.stage
    where
      by_room :
          (b : Bool) (bytes : List ℕ) (fds : List Fd) (grown : Bool) →
          is_new (if b then answer.Results bytes fds grown else answer.Failure EMFILE) ≡ false
      by_room true bytes fds grown = refl
      by_room false bytes fds grown = refl

      of_stage : (s : CallStage) → is_new (collect_answer (state_at m xs i) own r s) ≡ false
      of_stage (stage.Returned bytes os) = by_room (has_room (state_at m xs i) own os) bytes _ _
      of_stage (stage.Ended e) = refl
      of_stage s = refl

  act_told :
      (q : Option Request) (a : ActResult) (fd : Fd) → Moves (state_at m xs i) x.thread q a → IsAct m xs i x q a → answer.NewFd fd ≡ a.answer →
      IsAnswered m xs i x fd
  act_told q a fd (Moves.rows r place o y (IsRow.closes gd f)) h g = absurd (not_new _ fd g refl)
  act_told q a fd (Moves.rows r place o y (IsRow.copies gd f)) h g =
      by (is_there _ (not_held [] (refused_where (is_none (object_at (state_at m xs i) own gd)) EBADF) (refused_where (is_none (lowest_free table)) EMFILE ∷ []) f))
    where
      by : IsThere (object_at (state_at m xs i) own gd) → IsAnswered m xs i x fd
      by there =
          told_by a there.it fd
          (h.tables ∙ ap (λ o. with_table (state_at m xs i).tables own (with_row table (free_place table) o)) there.there)
          (not_held (refused_where (is_none (object_at (state_at m xs i) own gd)) EBADF ∷ []) (refused_where (is_none (lowest_free table)) EMFILE) [] f) g
          (AsksFor.copies gd there.it h.request there.there)
  act_told q a fd (Moves.rows r place o y (IsRow.opens path f)) h g =
      told_by a (obj.Door (door_attached (name_of (state_at m xs i) path))) fd h.tables
      (not_held (_ ∷ []) _ [] f) g
      (opened path h.request
      (is_there _ (not_held [] _ (_ ∷ []) f)))
  act_told q a fd (Moves.makes entry cookie attrs f) h g =
      told_by a (obj.Door (length (state_at m xs i).doors + 1)) fd h.tables
      (not_held (_ ∷ []) _ [] f) g
      (AsksFor.makes (length (state_at m xs i).doors + 1) entry cookie attrs h.request
      (numbered_past (state_at m xs i).doors _ (omega arith))
      (made entry cookie attrs h.doors))
  act_told q a fd (Moves.passes r c y p) h g = absurd (not_new y fd g (new_of_passing r c y p))
  act_told q a fd (Moves.retrieves port max nget one p) h g = absurd (not_new _ fd g (new_of_found port max one))
  act_told q a fd (Moves.makes_channel r c objects y (IsMaking.makes_pipe f)) h g = absurd (cc g)
  act_told q a fd (Moves.makes_channel r c objects y (IsMaking.makes_port f)) h g =
      told_by a (obj.Port next_port) fd h.tables (not_held [] _ [] f) g
      (asked_port h.request h.ports)
  act_told q a fd (Moves.nothing y s) h g = absurd (not_new y fd g (new_of_said q y s))
  act_told q a fd (Moves.turns s y w z) h g = absurd (not_new y fd g (new_of_turn q s y z))
  act_told q a fd (Moves.collects c f) h g = absurd (not_new _ fd g (new_of_collect (find_call (state_at m xs i) (is_to_collect_as c))))
  act_told q a fd _ h g = absurd (not_new _ fd g refl)

  told_here : (fd : Fd) → answer_at m xs i x ≡ answer.NewFd fd → IsAnswered m xs i x fd
  told_here fd f =
      act_told x.request (act (state_at m xs i) x.thread x.request) fd (act_moves (state_at m xs i) x.thread x.request) acts (sym f ∙ acts.answer)

  -- the two ends of a pipe

  abbrev reading_place : Fd
  reading_place = descriptor (free_place table)

  abbrev writing_place : Fd
  writing_place = descriptor (free_place (insert_row table (obj.PipeIn next_pipe)))

  ends_told :
      (reading writing : Fd) → IsFree (state_at m xs i) x.thread request.Pipe → MakesPipe m xs i x next_pipe →
      (state_at m xs (i + 1)).tables
      ≡ tables_with (state_at m xs i) own (obj.PipeIn next_pipe ∷ obj.PipeOut next_pipe ∷ []) →
      answer.TwoFds reading writing ≡ answer.TwoFds reading_place writing_place → ArePipeEnds m xs i x reading writing
  ends_told reading writing f made g h =
      subst (λ r. ArePipeEnds m xs i x r writing) first (subst (λ w. ArePipeEnds m xs i x reading_place w) second here)
    where
      first : reading_place ≡ reading
      first = cc

      second : writing_place ≡ writing
      second = cc

      objects : List Obj
      objects = obj.PipeIn next_pipe ∷ obj.PipeOut next_pipe ∷ []

      z : Installs (state_at m xs i) (state_at m xs (i + 1)) own (new_descriptors table objects) objects
      z = let l : 2 ≤ free_rows table = two_free f in installs (state_at m xs i) (state_at m xs (i + 1)) own objects (grind (arith, nat_tests, l)) g

      here : ArePipeEnds m xs i x reading_place writing_place
      here =
          record {
            number = next_pipe;
            makes = made;
            reading_was_free = cc z.were_free;
            writing_was_free = cc z.were_free;
            lowest = z.lowest 0 reading_place refl;
            next = z.lowest 1 writing_place refl;
            names_reading = cc z.name_them;
            names_writing = cc z.name_them;
          }

  act_piped :
      (q : Option Request) (a : ActResult) (reading writing : Fd) → Moves (state_at m xs i) x.thread q a → IsAct m xs i x q a →
      answer.TwoFds reading writing ≡ a.answer → ArePipeEnds m xs i x reading writing
  act_piped q a reading writing (Moves.makes_channel r c objects y (IsMaking.makes_pipe f)) h g =
      ends_told reading writing f (pipe_is_made h.request h.pipes) h.tables g
  act_piped q a reading writing (Moves.makes_channel r c objects y (IsMaking.makes_port f)) h g = absurd (cc g)
  act_piped q a reading writing (Moves.rows r place o y (IsRow.closes gd f)) h g = absurd (cc g)
  act_piped q a reading writing (Moves.rows r place o y _) h g = absurd (cc g)
  act_piped q a reading writing (Moves.makes entry cookie attrs f) h g = absurd (cc g)
  act_piped q a reading writing (Moves.passes r c y p) h g = absurd (not_two y reading writing g (new_of_passing r c y p))
  act_piped q a reading writing (Moves.retrieves port max nget one p) h g = absurd (not_two _ reading writing g (new_of_found port max one))
  act_piped q a reading writing (Moves.nothing y s) h g = absurd (not_two y reading writing g (new_of_said q y s))
  act_piped q a reading writing (Moves.turns s y w z) h g = absurd (not_two y reading writing g (new_of_turn q s y z))
  act_piped q a reading writing (Moves.collects c f) h g =
      absurd (not_two _ reading writing g (new_of_collect (find_call (state_at m xs i) (is_to_collect_as c))))
  act_piped q a reading writing _ h g = absurd (not_two _ reading writing g refl)

  piped_here : (reading writing : Fd) → answer_at m xs i x ≡ answer.TwoFds reading writing → ArePipeEnds m xs i x reading writing
  piped_here reading writing f =
      act_piped x.request (act (state_at m xs i) x.thread x.request) reading writing (act_moves (state_at m xs i) x.thread x.request) acts
      (sym f ∙ acts.answer)

  -- each table keeps its size
  size_stays : (p : ℕ) → descriptors (state_at m xs (i + 1)) p ≡ descriptors (state_at m xs i) p
  size_stays p =
      ap (λ ts. length (table_in ts p)) acts.tables
      ∙ sym (long (at_number (act (state_at m xs i) x.thread x.request).state.tables p))
      ∙ ap (λ (o : Option ℕ). unwrap_or o 0) (same_numbered length _ _ p (act-limits (state_at m xs i) x.thread x.request same_size))
      ∙ long (at_number (state_at m xs i).tables p)

  -- what is closed

  closed_row : (fd : Fd) → (state_at m xs (i + 1)).tables ≡ with_table (state_at m xs i).tables own (close_row table fd.0) → object_at (state_at m xs (i + 1)) own fd ≡ None
  closed_row fd f =
      ap (λ ts. object_named (table_in ts own) fd) f
      ∙ ap (λ u. object_named u fd) (table_then (state_at m xs i).tables own (close_row table fd.0) (length-set table fd.0 None))
      ∙ closes table fd

  tables_of :
      (r : Request) → x.request ≡ Some r → answer_at m xs i x ≡ answer.Done →
      (state_at m xs (i + 1)).tables ≡ (effect (state_at m xs i) x.thread own r).state.tables
  tables_of r f g =
      ap (λ (n : State). n.tables) (next m xs k i x e)
      ∙ ap (λ q. (step (state_at m xs i) x.thread q).state.tables) f
      ∙ tables-effect (state_at m xs i) x.thread r (not_refused (state_at m xs i) x.thread x.request r answer.Done f g (λ y h. cc))

  closes_here : (fd : Fd) → Closes m xs i x fd → object_at (state_at m xs (i + 1)) own fd ≡ None
  closes_here fd (Closes.by_close f g) = closed_row fd (tables_of (request.Close fd) f g)
  closes_here fd (Closes.by_revoke f g) = closed_row fd (tables_of (request.Revoke fd) f g)
  closes_here fd (Closes.by_release pass f g) = ((no_loss_holds m xs k).released i x pass e f).released fd g

  -- a child that begins has the descriptors of its parent
  forks_here :
      (child : Pid) (fd : Fd) → Forks m xs i x child → object_at (state_at m xs (i + 1)) child.0 fd ≡ object_at (state_at m xs i) own fd
  forks_here child fd f =
      ap (λ ts. object_named (table_in ts child.0) fd)
      (ap (λ (n : State). n.tables) (next m xs k i x e)
      ∙ ap (λ q. (step (state_at m xs i) x.thread q).state.tables) f.asked
      ∙ tables-effect (state_at m xs i) x.thread (request.Fork child) (fork_is_free m xs i x child f))
      ∙ ap (λ u. object_named u fd) (table_then (state_at m xs i).tables child.0 table (same_size child f.asked))

pub rows_hold : (m : State) (xs : List Turn) → Known m xs → Rows m xs
rows_hold m xs k =
    record {
      each = λ i p x fd e. rows_here m xs k i x e p fd;
      answered = λ i x fd e. told_here m xs k i x e fd;
      piped = λ i x reading writing e. piped_here m xs k i x e reading writing;
      closes = λ i x fd e. closes_here m xs k i x e fd;
      forks = λ i x child fd e. forks_here m xs k i x e child fd;
      size =
          λ i p l.
          stays m xs (λ n. descriptors n p ≡ limit_of m p) 0 (λ a x h e f. size_stays m xs k a x e p ∙ f) i (omega arith) l (k.sizes p);
    }
