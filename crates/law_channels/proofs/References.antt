-- What holds of every object that is referred to, after each change of descriptors, calls and threads.
use Rattle.std.proofs.Common.{◌≡◌, ℕ, ◌≤◌, ◌==◌, ◌&&◌, List, [], ◌∷◌, Option, Some, None, Bool, true, false, if◌then◌else◌, inl, inr, is_some, map, option_map, slice_get, unwrap_or, refl, sym, ap, subst, ◌∙◌, arith}
use Rattle.std.specs.Prelude.{All}
use Rattle.std.proofs.lemmas.List.Elements.{All-head, All-nil, All-tail, All-weaker}
use Rattle.std.proofs.lemmas.Option.{slice_get-map}
use Rattle.dk_base.specs.ByNumber.{at_number}
use Rattle.dk_base.specs.declared.object.Obj.TheVariants as obj
use Rattle.spec_records.specs.declared.record.ThreadState.TheVariants as is
use Rattle.spec_records.specs.Words.{Leaving, ProcessTable, at_stage, begun_thread, change_thread, change_thread_in, close_table, free_place, free_row, insert_row, insert_rows, interrupted_state, left_call, left_thread_of, object_in, object_named, objects_passed, release_rows, table_in, thread_at, with_row, with_table, without_arguments_at}
use Rattle.spec_records.proofs.Lists.{at_number-with_at_number, slice_get-slice_set}
use Rattle.spec_records.proofs.Passing.{All-objects_passed, object_named-before}
use Rattle.spec_kernel.specs.Types.{Call, CallStage, Fd, Name, Obj, Pass, Thread, ThreadState}
use Rattle.spec_kernel.specs.Words.{objects_collected}
use Rattle.spec_kernel.proofs.CallLists.{IsOver, left_call-over}
use Rattle.spec_kernel.proofs.Threads.{begun_thread-case, left_thread_of-case}
use Rattle.law_channels.specs.Channels.{AreMadeIn, IsAmong, IsMadeObject, Made, ReferToMade, WaitsAtMade}
use Rattle.law_channels.proofs.Elements.{All-at_number, All-changed, All-with_at_number}

-- descriptors

module _ (P : Obj → Type 0) where
  abbrev pub HoldsOf : List (Option Obj) → Type 0
  HoldsOf table = (fd : Fd) (o : Obj) → object_named table fd ≡ Some o → P o

  abbrev pub HoldsOfAll : List (List (Option Obj)) → Type 0
  HoldsOfAll tables = (p : ℕ) → HoldsOf (table_in tables p)

  -- a process has another table
  pub another_table :
      (tables : List (List (Option Obj))) (p : ℕ) (table : List (Option Obj)) → HoldsOf table → HoldsOfAll tables →
      HoldsOfAll (with_table tables p table)
  another_table tables p table here h q fd o e =
      go ((q == p) && is_some (at_number tables p))
      (ap (λ (t : Option (List (Option Obj))). object_named (unwrap_or t []) fd) (at_number-with_at_number tables p q table))
    where
      go :
          (b : Bool) →
          object_named (table_in (with_table tables p table) q) fd ≡ object_named (unwrap_or (if b then Some table else at_number tables q) []) fd →
          P o
      go true f = here fd o (sym f ∙ e)
      go false f = h q fd o (sym f ∙ e)

  -- another object, or none, at a place
  pub another_row : (table : List (Option Obj)) (place : ℕ) (r : Option Obj) → ((o : Obj) → r ≡ Some o → P o) → HoldsOf table → HoldsOf (with_row table place r)
  another_row table place r here h fd o e =
      go ((fd.0 == place) && is_some (slice_get table place)) (ap object_in (slice_get-slice_set table place fd.0 r))
    where
      go : (b : Bool) → object_named (with_row table place r) fd ≡ object_in (if b then Some r else slice_get table fd.0) → P o
      go true f = here o (sym f ∙ e)
      go false f = h fd o (sym f ∙ e)

  pub one_in : (x : Obj) → P x → (o : Obj) → Some x ≡ Some o → P o
  one_in x here o e = let same : x ≡ o = cc in subst P same here

  pub none_in : (o : Obj) → None ≡ Some o → P o
  none_in o e = cc

  pub several_rows : (table : List (Option Obj)) (objects : List Obj) → All P objects → HoldsOf table → HoldsOf (insert_rows table objects)
  several_rows table [] all h = h
  several_rows table (o ∷ os) all h =
      several_rows (insert_row table o) os (All-tail P o os all)
      (another_row table (free_place table) (Some o) (one_in o (All-head P o os all)) h)

  pub released : (table : List (Option Obj)) (pass : List Pass) → HoldsOf table → HoldsOf (release_rows table pass)
  released table pass h fd o e = h fd o (object_named-before table pass fd o e)

  pub passed : (table : List (Option Obj)) (pass : List Pass) → HoldsOf table → All P (objects_passed table pass)
  passed table pass h = All-objects_passed P table pass (λ fd o e. h fd o e)

  pub none_left : (table : List (Option Obj)) → HoldsOf (close_table table)
  none_left table fd o e = go (slice_get table fd.0) (sym (ap object_in (slice_get-map free_row table fd.0)) ∙ e)
    where
      go : (r : Option (Option Obj)) → object_in (option_map free_row r) ≡ Some o → P o
      go None f = cc
      go (Some r) f = cc

-- calls

module _ (made : Made) where
  pub staged_call : (s : CallStage) → All (IsMadeObject made) (objects_collected s) → (r : Call) → AreMadeIn made r → AreMadeIn made (at_stage s r)
  staged_call s all r h = record { objects = h.objects; results = all }

  pub emptied_call : (s : CallStage) → All (IsMadeObject made) (objects_collected s) → (r : Call) → AreMadeIn made r → AreMadeIn made (without_arguments_at s r)
  emptied_call s all r h = record { objects = All-nil (IsMadeObject made); results = all }

  over_call : (s : CallStage) → IsOver s → All (IsMadeObject made) (objects_collected s)
  over_call s (inl e) = subst (λ z. All (IsMadeObject made) (objects_collected z)) (sym e) (All-nil (IsMadeObject made))
  over_call s (inr (x, e)) = subst (λ z. All (IsMadeObject made) (objects_collected z)) (sym e) (All-nil (IsMadeObject made))

  pub left_calls-made : (who : Leaving) (rs : List Call) → All (AreMadeIn made) rs → All (AreMadeIn made) (map (left_call who) rs)
  left_calls-made who rs all =
      All-changed (AreMadeIn made) (left_call who)
      (λ r h. left_call-over (AreMadeIn made) who r h
      (λ s over. emptied_call s (over_call s over) r h)
      (λ s over. record { objects = All-nil (IsMadeObject made); results = over_call s over }))
      rs all

-- threads

module _ (made : Made) where
  abbrev pub WaitsWell : Thread → Type 0
  WaitsWell x = WaitsAtMade made x.state

  pub one_thread :
      (table : ProcessTable) (t : ℕ) (change : Thread → Thread) → ((x : Thread) → WaitsWell x → WaitsWell (change x)) →
      All WaitsWell table.threads → All WaitsWell (change_thread table t change).threads
  one_thread table t change keeps all = go (thread_at table t) refl
    where
      go : (o : Option Thread) → thread_at table t ≡ o → All WaitsWell (change_thread_in table t change o).threads
      go None e = all
      go (Some x) e =
          All-with_at_number WaitsWell table.threads t (change x) (keeps x (All-at_number WaitsWell table.threads t x all e)) all

  marked : (s : ThreadState) → WaitsAtMade made s → WaitsAtMade made (interrupted_state s)
  marked (is.Getting q max nget one b) h = h
  marked s h = h

  pub left_waits : (who : Leaving) (now : ℕ) (calls : List Call) (xs : List Thread) → All WaitsWell xs → All WaitsWell (map (left_thread_of who now calls) xs)
  left_waits who now calls xs all =
      All-changed WaitsWell (left_thread_of who now calls)
      (λ x h. left_thread_of-case WaitsWell who now calls x h tt (marked x.state h) (λ y k. tt) (λ y k. k))
      xs all

  -- a thread of a process that begins waits at no port, if it did not before
  pub begun_waits : (child : ℕ) (xs : List Thread) → All WaitsWell xs → All WaitsWell (map (begun_thread child) xs)
  begun_waits child xs all = All-changed WaitsWell (begun_thread child) (λ x h. begun_thread-case WaitsWell child x h tt) xs all

-- more is made

pub record IsMore (a b : Made) : Type 0 where
  pub doors : a.doors ≤ b.doors
  pub ports : a.ports ≤ b.ports
  pub pipes : a.pipes ≤ b.pipes

module _ (a b : Made) (more : IsMore a b) where
  among : (k l n : ℕ) → k ≤ l → IsAmong k n → IsAmong l n
  among k l n up h = (h.0, omega (arith, up, h.1))

  pub more_object : (o : Obj) → IsMadeObject a o → IsMadeObject b o
  more_object (obj.Door d) h = among a.doors b.doors d more.doors h
  more_object (obj.Port q) h = among a.ports b.ports q more.ports h
  more_object (obj.PipeIn n) h = among a.pipes b.pipes n more.pipes h
  more_object (obj.PipeOut n) h = among a.pipes b.pipes n more.pipes h

  more_objects : (os : List Obj) → All (IsMadeObject a) os → All (IsMadeObject b) os
  more_objects os h = All-weaker (IsMadeObject a) (IsMadeObject b) more_object os h

  more_waits : (s : ThreadState) → WaitsAtMade a s → WaitsAtMade b s
  more_waits (is.Getting q max nget one m) h = (among a.ports b.ports q more.ports h.0, h.1)
  more_waits s h = tt

  pub refer_to_more :
      {tables : List (List (Option Obj))} {names : List Name} {calls : List Call} {threads : List Thread} →
      ReferToMade a tables names calls threads → ReferToMade b tables names calls threads
  refer_to_more {tables} {names} {calls} {threads} h =
      record {
        rows = λ p fd o e. more_object o (h.rows p fd o e);
        names = All-weaker (λ (n : Name). IsAmong a.doors n.door) (λ (n : Name). IsAmong b.doors n.door) (λ n k. among a.doors b.doors n.door more.doors k) names h.names;
        calls =
            All-weaker (AreMadeIn a) (AreMadeIn b)
            (λ r k. record { objects = more_objects r.objects k.objects; results = more_objects (objects_collected r.stage) k.results }) calls h.calls;
        waits = All-weaker (λ (x : Thread). WaitsAtMade a x.state) (λ (x : Thread). WaitsAtMade b x.state) (λ x k. more_waits x.state k) threads h.waits;
      }
