-- The descriptors, the names and the bindings of a state are of doors that were made: what keeps this so, and changes of lists
-- of doors.
use Rattle.std.proofs.Common.{◌≡◌, ℕ, ◌-◌, ◌==◌, ◌&&◌, zero, suc, List, [], ◌∷◌, Option, Some, None, Bool, true, false, if◌then◌else◌, ◌⊎◌, inl, inr, is_some, option_map, unwrap_or, map, slice_get, slice_set, refl, sym, ap, ◌∙◌}
use Rattle.std.specs.Prelude.{All}
use Rattle.std.proofs.lemmas.List.Elements.{All-cons, All-head, All-map, All-tail, All-weaker}
use Rattle.std.proofs.lemmas.Option.{slice_get-map}
use Rattle.spec_kernel.specs.Types.{CallStage, Fd, Name, Notice, NoticeStage, Obj, Pass}
use Rattle.dk_base.specs.declared.object.Obj.TheVariants as obj
use Rattle.spec_records.specs.declared.record.CallStage.TheVariants as stage
use Rattle.spec_records.specs.declared.record.NoticeStage.TheVariants as notice
use Rattle.dk_base.specs.ByNumber.{at_number, with_at_number}
use Rattle.spec_records.specs.declared.pool.TheConstants.{LOST_DOOR}
use Rattle.spec_records.specs.Words.{Leaving, bound_at, bound_in, change_first, close_table, free_place, free_row, insert_row, insert_rows, left_notice, left_notice_at, notice_at, object_in, object_named, objects_passed, release_rows, table_in, with_row, with_table}
use Rattle.spec_records.proofs.Passing.{All-objects_passed, object_named-before}
use Rattle.spec_records.proofs.Lists.{at_number-with_at_number, slice_get-slice_set}
use Rattle.spec_requests.specs.Words.{IsNumberOf}

-- of so many doors that were made

abbrev pub IsKnownObject : ℕ → Option Obj → Type 0
IsKnownObject made o = (d : ℕ) → o ≡ Some (obj.Door d) → IsNumberOf made d

abbrev pub AreKnownRows : ℕ → List (List (Option Obj)) → Type 0
AreKnownRows made tables = (p : ℕ) (fd : Fd) → IsKnownObject made (object_named (table_in tables p) fd)

-- objects that are in transit

abbrev pub IsKnownInTransit : ℕ → Obj → Type 0
IsKnownInTransit made o = IsKnownObject made (Some o)

abbrev pub AreKnownInTransit : ℕ → List Obj → Type 0
AreKnownInTransit made objects = All (IsKnownInTransit made) objects

abbrev pub AreKnownResults : ℕ → CallStage → Type 0
AreKnownResults made (stage.Returned bytes objects) = AreKnownInTransit made objects
AreKnownResults made s = Unit {0}

abbrev pub IsKnownName : ℕ → Name → Type 0
IsKnownName made n = IsNumberOf made n.door

abbrev pub AreKnownNames : ℕ → List Name → Type 0
AreKnownNames made names = All (IsKnownName made) names

-- the door that a thread is bound to, unless it is the lost one
abbrev pub IsKnownBinding : ℕ → ℕ → Type 0
IsKnownBinding made d = (d == LOST_DOOR) ≡ false → IsNumberOf made d

abbrev pub AreKnownBindings : ℕ → List (Option ℕ) → Type 0
AreKnownBindings made bindings = (t d : ℕ) → bound_at bindings t ≡ Some d → IsKnownBinding made d

abbrev pub IsKnownNotice : ℕ → Notice → Type 0
IsKnownNotice made x = IsNumberOf made x.door

abbrev pub AreKnownNotices : ℕ → List Notice → Type 0
AreKnownNotices made xs = All (IsKnownNotice made) xs

-- objects

pub none-known : (made : ℕ) → IsKnownObject made None
none-known made d e = absurd (cc e)

pub same-known : (made : ℕ) (o p : Option Obj) → p ≡ o → IsKnownObject made o → IsKnownObject made p
same-known made o p e h d f = h d (sym e ∙ f)

-- rows

pub no_rows-known : (made : ℕ) (tables : List (List (Option Obj))) → ((p : ℕ) (fd : Fd) → object_named (table_in tables p) fd ≡ None) → AreKnownRows made tables
no_rows-known made tables none p fd = same-known made None (object_named (table_in tables p) fd) (none p fd) (none-known made)

-- what a descriptor names where a process has another table
object-with_table :
    (tables : List (List (Option Obj))) (p : ℕ) (table : List (Option Obj)) (q : ℕ) (fd : Fd) →
    (object_named (table_in (with_table tables p table) q) fd ≡ object_named table fd)
    ⊎ (object_named (table_in (with_table tables p table) q) fd ≡ object_named (table_in tables q) fd)
object-with_table tables p table q fd =
    by_test
    ((q == p) && is_some (at_number tables p))
    (ap (λ (o : Option (List (Option Obj))). object_named (unwrap_or o []) fd) (at_number-with_at_number tables p q table))
  where
    by_test :
        (b : Bool) →
        object_named (table_in (with_table tables p table) q) fd
        ≡ object_named (unwrap_or (if b then Some table else at_number tables q) []) fd →
        (object_named (table_in (with_table tables p table) q) fd ≡ object_named table fd)
        ⊎ (object_named (table_in (with_table tables p table) q) fd ≡ object_named (table_in tables q) fd)
    by_test true e = inl e
    by_test false e = inr e

pub table-known :
    (made : ℕ) (tables : List (List (Option Obj))) (p : ℕ) (table : List (Option Obj)) →
    ((fd : Fd) → IsKnownObject made (object_named table fd)) → AreKnownRows made tables →
    AreKnownRows made (with_table tables p table)
table-known made tables p table here h q fd = by_table (object-with_table tables p table q fd)
  where
    by_table :
        (object_named (table_in (with_table tables p table) q) fd ≡ object_named table fd)
        ⊎ (object_named (table_in (with_table tables p table) q) fd ≡ object_named (table_in tables q) fd) →
        IsKnownObject made (object_named (table_in (with_table tables p table) q) fd)
    by_table (inl e) = same-known made (object_named table fd) _ e (here fd)
    by_table (inr e) = same-known made (object_named (table_in tables q) fd) _ e (h q fd)

-- another object, or none, at a place of a table
object-with_row :
    (made : ℕ) (table : List (Option Obj)) (place : ℕ) (o : Option Obj) (fd : Fd) → IsKnownObject made o →
    IsKnownObject made (object_named table fd) → IsKnownObject made (object_named (with_row table place o) fd)
object-with_row made table place o fd here h =
    by_test ((fd.0 == place) && is_some (slice_get table place)) (ap object_in (slice_get-slice_set table place fd.0 o))
  where
    by_test :
        (b : Bool) → object_named (with_row table place o) fd ≡ object_in (if b then Some o else slice_get table fd.0) →
        IsKnownObject made (object_named (with_row table place o) fd)
    by_test true e = same-known made o _ e here
    by_test false e = same-known made (object_named table fd) _ e h

pub row-known :
    (made : ℕ) (tables : List (List (Option Obj))) (p place : ℕ) (o : Option Obj) → IsKnownObject made o →
    AreKnownRows made tables → AreKnownRows made (with_table tables p (with_row (table_in tables p) place o))
row-known made tables p place o here h =
    table-known made tables p (with_row (table_in tables p) place o)
    (λ fd. object-with_row made (table_in tables p) place o fd here (h p fd))
    h

-- what goes with a message, and what it leaves

pub passed-known :
    (made : ℕ) (tables : List (List (Option Obj))) (p : ℕ) (pass : List Pass) → AreKnownRows made tables →
    AreKnownInTransit made (objects_passed (table_in tables p) pass)
passed-known made tables p pass h =
    All-objects_passed (IsKnownInTransit made) (table_in tables p) pass (λ fd o e. same-known made (object_named (table_in tables p) fd) (Some o) (sym e) (h p fd))

released_row :
    (made : ℕ) (table : List (Option Obj)) (pass : List Pass) (fd : Fd) → ((n : Fd) → IsKnownObject made (object_named table n)) →
    IsKnownObject made (object_named (release_rows table pass) fd)
released_row made table pass fd h d e = h fd d (object_named-before table pass fd (obj.Door d) e)

pub released-known :
    (made : ℕ) (tables : List (List (Option Obj))) (p : ℕ) (pass : List Pass) → AreKnownRows made tables →
    AreKnownRows made (with_table tables p (release_rows (table_in tables p) pass))
released-known made tables p pass h =
    table-known made tables p (release_rows (table_in tables p) pass)
    (λ fd. released_row made (table_in tables p) pass fd (h p))
    h

-- what comes with one

inserted_rows :
    (made : ℕ) (table : List (Option Obj)) (objects : List Obj) → AreKnownInTransit made objects →
    ((fd : Fd) → IsKnownObject made (object_named table fd)) → (fd : Fd) → IsKnownObject made (object_named (insert_rows table objects) fd)
inserted_rows made table [] all h = h
inserted_rows made table (o ∷ os) all h =
    inserted_rows made (insert_row table o) os (All-tail (IsKnownInTransit made) o os all)
    (λ fd. object-with_row made table (free_place table) (Some o) fd (All-head (IsKnownInTransit made) o os all) (h fd))

pub inserted-known :
    (made : ℕ) (tables : List (List (Option Obj))) (p : ℕ) (objects : List Obj) → AreKnownInTransit made objects → AreKnownRows made tables →
    AreKnownRows made (with_table tables p (insert_rows (table_in tables p) objects))
inserted-known made tables p objects all h =
    table-known made tables p (insert_rows (table_in tables p) objects) (inserted_rows made (table_in tables p) objects all (h p)) h

closed_row : (table : List (Option Obj)) (fd : Fd) → object_named (close_table table) fd ≡ None
closed_row table fd = ap object_in (slice_get-map free_row table fd.0) ∙ by_row (slice_get table fd.0)
  where
    by_row : (o : Option (Option Obj)) → object_in (option_map free_row o) ≡ None
    by_row None = refl
    by_row (Some row) = refl

pub closed-known :
    (made : ℕ) (tables : List (List (Option Obj))) (p : ℕ) → AreKnownRows made tables →
    AreKnownRows made (with_table tables p (close_table (table_in tables p)))
closed-known made tables p h =
    table-known made tables p (close_table (table_in tables p))
    (λ fd. same-known made None _ (closed_row (table_in tables p) fd) (none-known made))
    h

-- bindings

-- a thread is bound to another door, or to none
pub binding-known :
    (made : ℕ) (bindings : List (Option ℕ)) (u : ℕ) (o : Option ℕ) → ((d : ℕ) → o ≡ Some d → IsKnownBinding made d) →
    AreKnownBindings made bindings → AreKnownBindings made (with_at_number bindings u o)
binding-known made bindings u o here h t d e =
    by_test ((t == u) && is_some (at_number bindings u)) (ap bound_in (at_number-with_at_number bindings u t o))
  where
    by_test :
        (b : Bool) → bound_at (with_at_number bindings u o) t ≡ bound_in (if b then Some o else at_number bindings t) →
        IsKnownBinding made d
    by_test true f = here d (sym f ∙ e)
    by_test false f = h t d (sym f ∙ e)

-- notices: another stage keeps the door

pub changed_notices-known :
    (made : ℕ) (test : Notice → Bool) (s : NoticeStage) (xs : List Notice) → AreKnownNotices made xs →
    AreKnownNotices made (change_first test (notice_at s) xs)
changed_notices-known made test s [] all = all
changed_notices-known made test s (x ∷ xs) all =
    by_test (changed_notices-known made test s xs (All-tail (IsKnownNotice made) x xs all)) (test x)
  where
    by_test :
        AreKnownNotices made (change_first test (notice_at s) xs) → (b : Bool) →
        AreKnownNotices made (if b then notice_at s x ∷ xs else x ∷ change_first test (notice_at s) xs)
    by_test rest true =
        All-cons (IsKnownNotice made) (notice_at s x) xs (All-head (IsKnownNotice made) x xs all) (All-tail (IsKnownNotice made) x xs all)
    by_test rest false =
        All-cons (IsKnownNotice made) x (change_first test (notice_at s) xs) (All-head (IsKnownNotice made) x xs all) rest

left_notice-known : (made : ℕ) (who : Leaving) (s : NoticeStage) (x : Notice) → IsKnownNotice made x → IsKnownNotice made (left_notice_at who s x)
left_notice-known made who s x h = by_stage s
  where
    by_test : (b : Bool) (z : NoticeStage) → IsKnownNotice made (if b then notice_at z x else x)
    by_test true z = h
    by_test false z = h

    by_stage : (s : NoticeStage) → IsKnownNotice made (left_notice_at who s x)
    by_stage notice.Waiting = by_test (who.loses x.door) notice.Dropped
    by_stage (notice.Given u) = by_test (who.ends u.0) notice.Over
    by_stage (notice.Entered u) = by_test (who.ends u.0) notice.Over
    by_stage notice.Over = h
    by_stage notice.Dropped = h

pub left_notices-known :
    (made : ℕ) (who : Leaving) (xs : List Notice) → AreKnownNotices made xs → AreKnownNotices made (map (left_notice who) xs)
left_notices-known made who xs all =
    All-map
    (IsKnownNotice made)
    (left_notice who)
    xs
    (All-weaker
    (IsKnownNotice made)
    (λ x. IsKnownNotice made (left_notice who x))
    (λ x known. left_notice-known made who x.stage x known)
    xs
    all)

-- what holds of each element of a list, where one becomes another

All-slice_set : {X : Type 0} (P : X → Type 0) (xs : List X) (i : ℕ) (x : X) → P x → All P xs → All P (slice_set xs i x)
All-slice_set P [] i x here all = all
All-slice_set P (y ∷ ys) zero x here all = All-cons P x ys here (All-tail P y ys all)
All-slice_set P (y ∷ ys) (suc i) x here all =
    All-cons P y (slice_set ys i x) (All-head P y ys all) (All-slice_set P ys i x here (All-tail P y ys all))

pub All-with_at_number : {X : Type 0} (P : X → Type 0) (xs : List X) (n : ℕ) (x : X) → P x → All P xs → All P (with_at_number xs n x)
All-with_at_number P xs n x here all = by_test (n == 0)
  where
    by_test : (b : Bool) → All P (if b then xs else slice_set xs (n - 1) x)
    by_test true = all
    by_test false = All-slice_set P xs (n - 1) x here all
