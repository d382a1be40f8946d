-- The laws' count of references is the step's.
use Rattle.std.specs.Prelude.{ℕ, ◌≡◌, ◌+◌, ◌++◌, List, [], ◌∷◌, Option, Bool, true, false, if◌then◌else◌, Some, None, filter, flat_map, length, map}
use Rattle.std.proofs.Common.{refl, sym, ap, ap₂, ◌∙◌}
use native.Mathlib.Omega.{arith}
use Rattle.std.proofs.lemmas.List.{length-append}
use Rattle.std.proofs.lemmas.List.Elements.{filter-append}
use Rattle.spec_kernel.specs.Types.{Call, CallStage, Name, Obj}
use Rattle.dk_base.specs.declared.object.Obj.TheVariants as obj
use Rattle.spec_records.specs.declared.record.CallStage.TheVariants as stage
use Rattle.spec_records.specs.Words.{is_object, objects_of}
use Rattle.spec_kernel.specs.Words.{State, named_object, objects_in_call, objects_in_transit, readers_of, reference_count, references_of, writers_of}
use Rattle.law_states.specs.Core.{has_arguments}
use Rattle.law_places.specs.References.{count_calls, count_message, count_names, count_objects, count_rows, count_tables, count_unnamed, is_of_door, is_of_port, is_of_reading_end, is_of_writing_end, message_of, readers_left, references, references_of_port, results_in_transit, writers_left}

abbrev step_count : Obj → List Obj → ℕ
step_count o os = length (filter (is_object o) os)

one : (b : Bool) (o : Obj) (os : List Obj) (n : ℕ) → n ≡ length os → (if b then 1 + n else n) ≡ length (if b then o ∷ os else os)
one true o os n e = omega (arith, e)
one false o os n e = e

both : (o : Obj) (xs ys : List Obj) → step_count o xs + step_count o ys ≡ step_count o (xs ++ ys)
both o xs ys = sym (ap length (filter-append (is_object o) xs ys) ∙ length-append (filter (is_object o) xs) (filter (is_object o) ys))

-- the laws' test of an object is the step's
module _ (o : Obj) (is : Obj → Bool) (test_is : (x : Obj) → is x ≡ is_object o x) where
  objects_are : (os : List Obj) → count_objects is os ≡ step_count o os
  objects_are [] = refl
  objects_are (x ∷ os) =
      ap (λ (b : Bool). if b then 1 + count_objects is os else count_objects is os) (test_is x)
      ∙ one (is_object o x) x _ _ (objects_are os)

  rows_are : (rows : List (Option Obj)) → count_rows is rows ≡ count_objects is (objects_of rows)
  rows_are [] = refl
  rows_are (None ∷ rows) = rows_are rows
  rows_are (Some x ∷ rows) = ap (λ (n : ℕ). if is x then 1 + n else n) (rows_are rows)

  tables_are : (ts : List (List (Option Obj))) → count_tables is ts ≡ step_count o (flat_map objects_of ts)
  tables_are [] = refl
  tables_are (t ∷ ts) =
      ap₂ (λ (a b : ℕ). a + b) (rows_are t ∙ objects_are (objects_of t)) (tables_are ts) ∙ both o (objects_of t) (flat_map objects_of ts)

  message_is : (r : Call) → count_message is (message_of r) ≡ step_count o (objects_in_call r)
  message_is r = go r.stage
    where
      go : (s : CallStage) → count_message is (if has_arguments s then Some r.objects else results_in_transit s) ≡ step_count o (objects_in_transit r s)
      go stage.Queued = objects_are r.objects
      go (stage.Given u) = objects_are r.objects
      go (stage.Returned bytes objects) = objects_are objects
      go _ = refl

  calls_are : (rs : List Call) → count_calls is rs ≡ step_count o (flat_map objects_in_call rs)
  calls_are [] = refl
  calls_are (r ∷ rs) =
      ap₂ (λ (a b : ℕ). a + b) (message_is r) (calls_are rs) ∙ both o (objects_in_call r) (flat_map objects_in_call rs)

-- doors

door_test : (d : ℕ) (o : Obj) → is_of_door d o ≡ is_object (obj.Door d) o
door_test d (obj.Door e) = refl
door_test d _ = refl

names_are : (d : ℕ) (ns : List Name) → count_names d ns ≡ step_count (obj.Door d) (map named_object ns)
names_are d [] = refl
names_are d (n ∷ ns) = one (is_object (obj.Door d) (named_object n)) (named_object n) _ _ (names_are d ns)

pub references_are : (m : State) (d : ℕ) → references m d ≡ reference_count m d
references_are m d = total
  where
    o : Obj
    o = obj.Door d

    total : references m d ≡ step_count o (flat_map objects_of m.tables ++ map named_object m.names ++ flat_map objects_in_call m.call_tree.calls)
    total =
        omega (
          arith,
          tables_are o (is_of_door d) (door_test d) m.tables,
          names_are d m.names,
          calls_are o (is_of_door d) (door_test d) m.call_tree.calls,
          both o (flat_map objects_of m.tables) (map named_object m.names),
          both o (flat_map objects_of m.tables ++ map named_object m.names) (flat_map objects_in_call m.call_tree.calls),
        )

-- what is no door has no name

module _ (m : State) (o : Obj) (is : Obj → Bool) (test_is : (x : Obj) → is x ≡ is_object o x) (no_door : (d : ℕ) → is_object o (obj.Door d) ≡ false) where
  unnamed : (ns : List Name) → step_count o (map named_object ns) ≡ 0
  unnamed [] = refl
  unnamed (n ∷ ns) =
      ap (λ (b : Bool). length (if b then named_object n ∷ filter (is_object o) (map named_object ns) else filter (is_object o) (map named_object ns))) (no_door n.door)
      ∙ unnamed ns

  unnamed_are : count_unnamed m is ≡ references_of m o
  unnamed_are = total
    where
      total : count_unnamed m is ≡ step_count o (flat_map objects_of m.tables ++ map named_object m.names ++ flat_map objects_in_call m.call_tree.calls)
      total =
          omega (
            arith,
            tables_are o is test_is m.tables,
            unnamed m.names,
            calls_are o is test_is m.call_tree.calls,
            both o (flat_map objects_of m.tables) (map named_object m.names),
            both o (flat_map objects_of m.tables ++ map named_object m.names) (flat_map objects_in_call m.call_tree.calls),
          )

port_test : (q : ℕ) (o : Obj) → is_of_port q o ≡ is_object (obj.Port q) o
port_test q (obj.Port e) = refl
port_test q _ = refl

reading_test : (n : ℕ) (o : Obj) → is_of_reading_end n o ≡ is_object (obj.PipeIn n) o
reading_test n (obj.PipeIn e) = refl
reading_test n _ = refl

writing_test : (n : ℕ) (o : Obj) → is_of_writing_end n o ≡ is_object (obj.PipeOut n) o
writing_test n (obj.PipeOut e) = refl
writing_test n _ = refl

pub references_of_port_are : (m : State) (q : ℕ) → references_of_port m q ≡ references_of m (obj.Port q)
references_of_port_are m q = unnamed_are m (obj.Port q) (is_of_port q) (port_test q) (λ d. refl)

pub readers_left_are : (m : State) (n : ℕ) → readers_left m n ≡ readers_of m n
readers_left_are m n = unnamed_are m (obj.PipeIn n) (is_of_reading_end n) (reading_test n) (λ d. refl)

pub writers_left_are : (m : State) (n : ℕ) → writers_left m n ≡ writers_of m n
writers_left_are m n = unnamed_are m (obj.PipeOut n) (is_of_writing_end n) (writing_test n) (λ d. refl)
