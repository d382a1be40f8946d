-- How much is held: tables are narrow, calls are few, and each carries few objects.
use Rattle.std.proofs.Common.{◌≡◌, ℕ, zero, suc, ◌+◌, ◌*◌, ◌-◌, ◌<◌, ◌≤◌, ◌==◌, ◌||◌, Bool, true, false, cond, if◌then◌else◌, nat_eq, List, [], ◌∷◌, ◌++◌, Option, Some, None, filter, find, flat_map, length, map, slice_get, slice_set, unwrap_or, refl, sym, ap, subst, ◌∙◌, arith}
use Rattle.std.proofs.lemmas.Bool.Decides.{nat_tests}
use Rattle.std.proofs.lemmas.List.{length-append, length-map}
use Rattle.std.proofs.lemmas.List.Sums.{count_by-le-length}
use Rattle.std.proofs.lemmas.Map.Keys.{IsDistinct-cons}
use Rattle.std.proofs.lemmas.Map.Steps.{length-le_from_distinct_below}
use Rattle.std.specs.List.{AllByRecursion, IsDistinct, list_any}
use Rattle.dk_base.specs.declared.error.Errno.{Errno}
use Rattle.dk_base.specs.declared.error.Errno.TheVariants.{EBADF, EINTR}
use Rattle.dk_base.specs.declared.limits.TheConstants.{DESCRIPTORS_MAX, PASS_MAX, PROCESSES_MAX, THREADS_MAX}
use Rattle.spec_records.specs.declared.record.CallStage.TheVariants as stage
use Rattle.spec_records.specs.Words.{CallTree, IsAscending, Leaving, abandoned_at, at_stage, broken_call_at, call_number, change_first, close_row, empty_table, ended_where, free_place, gone_call_at, insert_row, insert_rows, is_live_call, is_object, is_queued, is_queued_as, left_call, objects_of, release_row, release_rows, table_in, tid, with_table, without_arguments_at}
use Rattle.spec_records.proofs.Lists.{at_number-suc, with_at_number-suc}
use Rattle.call_tree.proofs.Parting.{Each, each_both, each_found, each_map}
use Rattle.call_tree.specs.Words.{AreSound, IsThread, is_call, is_called_by}
use Rattle.unref_notice.specs.declared.counts.TheConstants.{STEP_MAX}
use Rattle.spec_kernel.specs.Types.{Call, CallStage, Name, Obj, Pass}
use Rattle.spec_kernel.specs.Words.{named_object, objects_in_call, objects_in_transit}
use Rattle.kernel_holdings.specs.Words.{AreNarrow, CarryFew, HoldFew, TRANSIT_MAX, references_to}
use Rattle.kernel_holdings.proofs.Referring.{references_to-parts}

-- tables

pub length-slice_set : {X : Type 0} (xs : List X) (i : ℕ) (x : X) → length (slice_set xs i x) ≡ length xs
length-slice_set [] i x = refl
length-slice_set (y ∷ ys) zero x = refl
length-slice_set (y ∷ ys) (suc i) x = ap suc (length-slice_set ys i x)

-- what is done to a table leaves its length

pub row_inserted_long : (t : List (Option Obj)) (o : Obj) → length (insert_row t o) ≡ length t
row_inserted_long t o = length-slice_set t (free_place t) (Some o)

pub rows_inserted_long : (t : List (Option Obj)) (os : List Obj) → length (insert_rows t os) ≡ length t
rows_inserted_long t [] = refl
rows_inserted_long t (o ∷ os) = rows_inserted_long (insert_row t o) os ∙ row_inserted_long t o

pub row_closed_long : (t : List (Option Obj)) (n : ℕ) → length (close_row t n) ≡ length t
row_closed_long t n = length-slice_set t n None

pub rows_released_long : (t : List (Option Obj)) (pass : List Pass) → length (release_rows t pass) ≡ length t
rows_released_long t [] = refl
rows_released_long t (x ∷ xs) = rows_released_long (release_row t x) xs ∙ one x.release
  where
    one : (b : Bool) → length (if b then close_row t x.fd.0 else t) ≡ length t
    one true = row_closed_long t x.fd.0
    one false = refl

narrow_set : (ts : List (List (Option Obj))) (i : ℕ) (t : List (Option Obj)) → AreNarrow ts → length t ≤ DESCRIPTORS_MAX → AreNarrow (slice_set ts i t)
narrow_set [] i t h l = tt
narrow_set (u ∷ us) zero t h l = (l, h.1)
narrow_set (u ∷ us) (suc i) t h l = (h.0, narrow_set us i t h.1 l)

narrow_got : (ts : List (List (Option Obj))) (i : ℕ) → AreNarrow ts → length (unwrap_or (slice_get ts i) []) ≤ DESCRIPTORS_MAX
narrow_got [] i h = omega arith
narrow_got (u ∷ us) zero h = h.0
narrow_got (u ∷ us) (suc i) h = narrow_got us i h.1

pub narrow_at : (ts : List (List (Option Obj))) (p : ℕ) → AreNarrow ts → length (table_in ts p) ≤ DESCRIPTORS_MAX
narrow_at ts zero h = omega arith
narrow_at ts (suc i) h = subst (λ x. length (unwrap_or x []) ≤ DESCRIPTORS_MAX) (sym (at_number-suc ts i)) (narrow_got ts i h)

narrow_with : (ts : List (List (Option Obj))) (p : ℕ) (t : List (Option Obj)) → AreNarrow ts → length t ≤ DESCRIPTORS_MAX → AreNarrow (with_table ts p t)
narrow_with ts zero t h l = h
narrow_with ts (suc i) t h l = subst AreNarrow (sym (with_at_number-suc ts i t)) (narrow_set ts i t h l)

as_many : (ts : List (List (Option Obj))) (p : ℕ) (t : List (Option Obj)) → length (with_table ts p t) ≡ length ts
as_many ts zero t = refl
as_many ts (suc i) t = ap length (with_at_number-suc ts i t) ∙ length-slice_set ts i t

-- a table becomes another of its length
pub holds_table :
    (ts us : List (List (Option Obj))) (calls : List Call) (p : ℕ) (t : List (Option Obj)) → HoldFew ts calls → us ≡ with_table ts p t →
    length t ≡ length (table_in ts p) → HoldFew us calls
holds_table ts us calls p t held is long =
    rw is
    (record {
      processes = omega (arith, held.processes, as_many ts p t);
      rows = narrow_with ts p t held.rows (omega (arith, long, narrow_at ts p held.rows));
      transit = held.transit;
    })

narrow_push : (ts : List (List (Option Obj))) (t : List (Option Obj)) → AreNarrow ts → length t ≤ DESCRIPTORS_MAX → AreNarrow (ts ++ t ∷ [])
narrow_push [] t h l = (l, tt)
narrow_push (u ∷ us) t h l = (h.0, narrow_push us t h.1 l)

length-empty : (n : ℕ) → length (empty_table n) ≡ n
length-empty zero = refl
length-empty (suc n) = ap suc (length-empty n)

pub holds_new : (ts : List (List (Option Obj))) (calls : List Call) (limit : ℕ) → HoldFew ts calls → length ts < PROCESSES_MAX → limit ≤ DESCRIPTORS_MAX → HoldFew (ts ++ empty_table limit ∷ []) calls
holds_new ts calls limit held few narrow =
    record {
      processes = omega (arith, held.processes, few, length-append ts (empty_table limit ∷ []));
      rows = narrow_push ts (empty_table limit) held.rows (omega (arith, narrow, length-empty limit));
      transit = held.transit;
    }

-- what is in transit

pub holds_calls : (ts : List (List (Option Obj))) (calls after : List Call) → HoldFew ts calls → CarryFew after → HoldFew ts after
holds_calls ts calls after held few = record { processes = held.processes; rows = held.rows; transit = few }

pub few_found : (p : Call → Bool) (rs : List Call) (r : Call) → CarryFew rs → find p rs ≡ Some r → length (objects_in_call r) ≤ PASS_MAX
few_found p [] r h e = cc
few_found p (x ∷ xs) r h e = go (p x) e (few_found p xs r h.1)
  where
    go : (b : Bool) → cond b (Some x) (find p xs) ≡ Some r → (find p xs ≡ Some r → length (objects_in_call r) ≤ PASS_MAX) → length (objects_in_call r) ≤ PASS_MAX
    go true k rest = let same : x ≡ r = cc in subst (λ y. length (objects_in_call y) ≤ PASS_MAX) same h.0
    go false k rest = rest k

pub few_pushed : (rs : List Call) (r : Call) → CarryFew rs → length (objects_in_call r) ≤ PASS_MAX → CarryFew (rs ++ r ∷ [])
few_pushed [] r h l = (l, tt)
few_pushed (x ∷ xs) r h l = (h.0, few_pushed xs r h.1 l)

pub few_changed :
    (test : Call → Bool) (change : Call → Call) → ((r : Call) → test r ≡ true → length (objects_in_call r) ≤ PASS_MAX → length (objects_in_call (change r)) ≤ PASS_MAX) →
    (rs : List Call) → CarryFew rs → CarryFew (change_first test change rs)
few_changed test change goes [] h = tt
few_changed test change goes (r ∷ rs) h = go (test r) refl (few_changed test change goes rs h.1)
  where
    go : (b : Bool) → test r ≡ b → CarryFew (change_first test change rs) → CarryFew (if b then change r ∷ rs else r ∷ change_first test change rs)
    go true e rest = (goes r e h.0, h.1)
    go false e rest = (h.0, rest)

pub few_live : (rs : List Call) → CarryFew rs → CarryFew (filter is_live_call rs)
few_live [] h = tt
few_live (r ∷ rs) h = go (is_live_call r) (few_live rs h.1)
  where
    go : (b : Bool) → CarryFew (filter is_live_call rs) → CarryFew (cond b (r ∷ filter is_live_call rs) (filter is_live_call rs))
    go true rest = (h.0, rest)
    go false rest = rest

-- a waiting call that is given to a thread has what it had
pub queued_few : (c u : ℕ) (r : Call) → is_queued_as c r ≡ true → length (objects_in_call r) ≤ PASS_MAX → length (objects_in_call (at_stage (stage.Given (tid u)) r)) ≤ PASS_MAX
queued_few c u r t l = at r.stage (grind (arith, nat_tests, t)) l
  where
    at : (s : CallStage) → is_queued s ≡ true → length (objects_in_transit r s) ≤ PASS_MAX → length r.objects ≤ PASS_MAX
    at stage.Queued e l = l
    at _ e l = cc

-- who leaves takes nothing more with it

none_less : (r : Call) → 0 ≤ length (objects_in_call r)
none_less r = omega arith

ended_less : (r : Call) (b : Bool) (e : Errno) → length (objects_in_call (ended_where b e r)) ≤ length (objects_in_call r)
ended_less r true e = none_less r
ended_less r false e = omega arith

gone_less : (r : Call) (s : CallStage) → length (objects_in_call (gone_call_at s r)) ≤ length (objects_in_call r)
gone_less r stage.Queued = none_less r
gone_less r (stage.Given u) = none_less r
gone_less r (stage.Entered u) = none_less r
gone_less r (stage.Returned bytes objects) = none_less r
gone_less r (stage.Ended e) = none_less r
gone_less r (stage.Answered k) = omega arith
gone_less r stage.Gone = omega arith

broken_less : (who : Leaving) (r : Call) (s : CallStage) → length (objects_in_call (broken_call_at who s r)) ≤ length (objects_in_call r)
broken_less who r stage.Queued = go (who.interrupts r.caller.0)
  where
    go : (b : Bool) → length (objects_in_call (if b then without_arguments_at (stage.Ended EINTR) r else ended_where (who.loses r.door) EBADF r)) ≤ length (objects_in_call r)
    go true = none_less r
    go false = ended_less r (who.loses r.door) EBADF
broken_less who r (stage.Given u) = ended_less r (who.interrupts r.caller.0 || who.ends u.0) EINTR
broken_less who r (stage.Entered u) = go (who.interrupts r.caller.0)
  where
    go : (b : Bool) → length (objects_in_call (if b then abandoned_at (stage.Ended EINTR) r else ended_where (who.ends u.0) EINTR r)) ≤ length (objects_in_call r)
    go true = none_less r
    go false = ended_less r (who.ends u.0) EINTR
broken_less who r (stage.Returned bytes objects) = omega arith
broken_less who r (stage.Ended e) = omega arith
broken_less who r (stage.Answered k) = omega arith
broken_less who r stage.Gone = omega arith

left_less : (who : Leaving) (r : Call) → length (objects_in_call (left_call who r)) ≤ length (objects_in_call r)
left_less who r = go (who.ends r.caller.0)
  where
    go : (b : Bool) → length (objects_in_call (if b then gone_call_at r.stage r else broken_call_at who r.stage r)) ≤ length (objects_in_call r)
    go true = gone_less r r.stage
    go false = broken_less who r r.stage

pub few_left : (who : Leaving) (rs : List Call) → CarryFew rs → CarryFew (map (left_call who) rs)
few_left who [] h = tt
few_left who (r ∷ rs) h = let less = left_less who r in (omega (arith, less, h.0), few_left who rs h.1)

-- no more calls than threads

IsDistinct-nil : IsDistinct nat_eq []
unfolding IsDistinct
IsDistinct-nil = tt

abbrev seat : Call → ℕ
seat r = r.caller.0 - 1

abbrev IsSeated : List Call → Call → Type 0
IsSeated rs r = (find (is_called_by r.caller.0) rs ≡ Some r) × IsThread r.caller.0

apart : (r : Call) (rs : List Call) → IsThread r.caller.0 → (x : Call) → IsSeated (r ∷ rs) x × ((find (is_call x.number) rs ≡ Some x) × (r.number < x.number)) → IsSeated rs x × (nat_eq (seat r) (seat x) ≡ false)
apart r rs t x w = go (r.caller.0 == x.caller.0) refl w.0.0
  where
    go : (b : Bool) → (r.caller.0 == x.caller.0) ≡ b → cond b (Some r) (find (is_called_by x.caller.0) rs) ≡ Some x → IsSeated rs x × (nat_eq (seat r) (seat x) ≡ false)
    go true e f = let same : r ≡ x = cc in let number = ap (λ (y : Call). y.number) same in absurd (omega (arith, number, w.1.1))
    go false e f = ((f, w.0.1), let thread = w.0.1 in grind (arith, nat_tests))

heads : (r : Call) (rs whole : List Call) → Each (λ x. IsSeated whole x × (nat_eq (seat r) (seat x) ≡ false)) rs → AllByRecursion (λ y. nat_eq (seat r) y ≡ false) (map seat rs)
heads r [] whole h = tt
heads r (x ∷ xs) whole h = (h.0.1, heads r xs whole h.1)

seats_apart : (low made : ℕ) (rs : List Call) → IsAscending call_number low made rs → Each (IsSeated rs) rs → IsDistinct nat_eq (map seat rs)
seats_apart low made [] h e = IsDistinct-nil
seats_apart low made (r ∷ rs) h e =
    let rest =
    each_map (apart r rs e.0.1) rs
    (each_both (IsSeated (r ∷ rs)) (λ x. (find (is_call x.number) rs ≡ Some x) × (r.number < x.number)) rs e.1 (each_found r.number made rs h.2)) in
    IsDistinct-cons nat_eq (seat r) (map seat rs) (heads r rs rs rest) (seats_apart r.number made rs h.2 (each_map (λ x w. w.0) rs rest))

seats_below : (rs whole : List Call) → Each (IsSeated whole) rs → (q : ℕ) → list_any (nat_eq q) (map seat rs) ≡ true → q < THREADS_MAX
seats_below [] whole e q h = cc
seats_below (r ∷ rs) whole e q h = go (nat_eq q (seat r)) refl h (seats_below rs whole e.1 q)
  where
    go : (b : Bool) → nat_eq q (seat r) ≡ b → (b || list_any (nat_eq q) (map seat rs)) ≡ true → (list_any (nat_eq q) (map seat rs) ≡ true → q < THREADS_MAX) → q < THREADS_MAX
    go true k t rest = let same : q ≡ seat r = grind (arith, nat_tests) in let thread = e.0.1 in omega (arith, same, thread.0, thread.1)
    go false k t rest = rest t

pub few_calls : (tree : CallTree) → AreSound tree → length tree.calls ≤ THREADS_MAX
few_calls tree sound =
    let seated : Each (IsSeated tree.calls) tree.calls =
    each_map (λ r w. (sound.caller (is_call r.number) r w.0, sound.thread (is_call r.number) r w.0)) tree.calls
    (each_found 0 tree.made tree.calls sound.ascending) in
    let few = length-le_from_distinct_below (map seat tree.calls) THREADS_MAX (seats_apart 0 tree.made tree.calls sound.ascending seated) (seats_below tree.calls tree.calls seated) in
    omega (arith, few, length-map tree.calls seat)

-- in all

carried : (rs : List Call) → CarryFew rs → length (flat_map objects_in_call rs) ≤ 16 * length rs
carried [] h = omega arith
carried (r ∷ rs) h =
    let all = length-append (objects_in_call r) (flat_map objects_in_call rs) in
    let rest = carried rs h.1 in
    omega (arith, all, rest, h.0)

pub few_in_transit : (tree : CallTree) → AreSound tree → CarryFew tree.calls → length (flat_map objects_in_call tree.calls) ≤ TRANSIT_MAX
few_in_transit tree sound few =
    let calls = few_calls tree sound in
    let all = carried tree.calls few in
    omega (arith, calls, all)

pub named_rows : (t : List (Option Obj)) → length (objects_of t) ≤ length t
named_rows [] = omega arith
named_rows (None ∷ t) = let rest = named_rows t in omega (arith, rest)
named_rows (Some o ∷ t) = let rest = named_rows t in omega (arith, rest)

named_all : (ts : List (List (Option Obj))) → AreNarrow ts → length (flat_map objects_of ts) ≤ 256 * length ts
named_all [] h = omega arith
named_all (t ∷ ts) h =
    let all = length-append (objects_of t) (flat_map objects_of ts) in
    let rest = named_all ts h.1 in
    let rows = named_rows t in
    omega (arith, all, rest, rows, h.0)

pub references_few :
    (ts : List (List (Option Obj))) (names : List Name) (tree : CallTree) → AreSound tree → HoldFew ts tree.calls → length names < 9223372036854775808 → (o : Obj) →
    references_to ts names tree.calls o + STEP_MAX ≤ 18446744073709551615
references_few ts names tree sound held few o =
    let rows = named_all ts held.rows in
    let passed = few_in_transit tree sound held.transit in
    let long = length-map names named_object in
    omega (
      arith,
      references_to-parts ts names tree.calls o,
      count_by-le-length (is_object o) (flat_map objects_of ts),
      count_by-le-length (is_object o) (map named_object names),
      count_by-le-length (is_object o) (flat_map objects_in_call tree.calls),
      rows,
      passed,
      long,
      few,
      held.processes,
    )
