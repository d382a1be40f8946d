-- An entry is refused with the error of the first of its tests that holds; for a Call the table of its refusals says which.
use Rattle.std.specs.Prelude.{ℕ, ◌≡◌, ◌<◌, ◌≤◌, ◌++◌, ◌&&◌, ◌||◌, ◌↔◌, ◌⊎◌, List, Option, Bool, true, false, Some, None, if◌then◌else◌, length, not, nat_le, nat_lt}
use Rattle.std.proofs.Common.{refl, sym, ap, subst, ◌∙◌, inl, inr}
use native.Mathlib.Omega.{arith}
use Rattle.std.proofs.lemmas.Bool.Decides.{nat_tests, not_from_Decides, Decides-and, Decides-ltb, Decides-or}
use Rattle.std.specs.Bool.{Decides}
use Rattle.spec_kernel.specs.Types.{Answer, Door, Errno, Fd, Obj, Pass, Queued, Request}
use Rattle.dk_base.specs.declared.error.Errno.TheVariants.{E2BIG, EAGAIN, EBADF, EINVAL, ENFILE, ENOBUFS, ENOTSUP}
use Rattle.dk_base.specs.declared.limits.TheConstants.{DATA_MAX, PASS_MAX, QUEUE_MAX}
use Rattle.dk_base.specs.declared.object.Obj.TheVariants as obj
use Rattle.dk_base.specs.declared.request.Request.TheVariants as request
use Rattle.dk_base.specs.declared.answer.Answer.TheVariants as answer
use Rattle.spec_kernel.proofs.Moves.{IsMaking, IsPassing, IsRow, IsSaid, IsTurn, Moves, act_moves}
use Rattle.spec_kernel.specs.Words.{ActResult, Channels, State, act, calls_waiting, door_named, door_of, effect, event_answer, found_answer, has_invalid_door, is_valid, pass_tests, pool_of, pool_tests, port, port_at, process_of, refusal_of, return, return_answer, return_parked, return_unbound, step, table_of, unless_refused}
use Rattle.spec_records.specs.Words.{first_found, first_refusal, has_refused_size, has_too_many, is_bad_pass, limit_tests, refuses_descriptors_in}
use Rattle.law_places.specs.Counts.{calls_in_pool}
use Rattle.law_places.proofs.Counts.{waiting_calls_are}
use Rattle.law_places.specs.Refusals.{CannotPass, HasRefusedSize, HasTooMany, Refusal, RefusesPassed}
use Rattle.law_places.specs.Refusals.Refusal.{no_door, not_valid, refused_size, takes_none, too_many, too_long, cannot_pass, full_pool}
use Rattle.law_places.proofs.Passed.{pass_decides}

-- a Call, by a thread of process p, of so many bytes and these descriptors, through a descriptor of this object

abbrev pub refusal_at : State → ℕ → ℕ → List Pass → Option Obj → Option Errno
refusal_at m p size pass o =
    first_refusal (limit_tests (door_of m (door_named o)) size (length pass) ++ pass_tests m p pass ++ pool_tests m (door_named o))

pub some_error : (e f : Errno) → Some e ≡ Some f → e ≡ f
some_error e f h = cc

-- the tests, in their order, by what each gives

abbrev refuses_passed : ℕ → Option Door → Bool
refuses_passed descriptors o = nat_lt 0 descriptors && refuses_descriptors_in o

abbrev pub is_over : ℕ → ℕ → Bool
is_over size descriptors = nat_lt DATA_MAX size || nat_lt PASS_MAX descriptors

abbrev is_bad : State → ℕ → List Pass → Bool
is_bad m p pass = is_bad_pass (table_of m p) pass

abbrev is_full : State → ℕ → Bool
is_full m d = nat_le QUEUE_MAX (calls_waiting m (pool_of m d))

abbrev first_of : Bool → Bool → Bool → Bool → Bool → Bool → Bool → Option Errno
first_of valid size passed many over bad full =
    if not valid
    then Some EBADF
    else (
    if size
    then Some ENOBUFS
    else (
    if passed
    then Some ENOTSUP
    else (
    if many
    then Some ENFILE
    else (if over then Some E2BIG else (if bad then Some EINVAL else (if full then Some EAGAIN else None)))
    )
    )
    )

-- what is over a limit, and what is not

pub over_limit : (size descriptors : ℕ) → is_over size descriptors ≡ true → (DATA_MAX < size) ⊎ (PASS_MAX < descriptors)
over_limit size descriptors h = go (nat_lt DATA_MAX size) (nat_lt PASS_MAX descriptors) refl refl h
  where
    go :
        (a b : Bool) → nat_lt DATA_MAX size ≡ a → nat_lt PASS_MAX descriptors ≡ b → (a || b) ≡ true →
        (DATA_MAX < size) ⊎ (PASS_MAX < descriptors)
    go true b x y z = inl (grind (arith, nat_tests, x))
    go false true x y z = inr (grind (arith, nat_tests, y))
    go false false x y z = absurd (cc z)

within_limits : (size descriptors : ℕ) → is_over size descriptors ≡ false → (size ≤ DATA_MAX) × (descriptors ≤ PASS_MAX)
within_limits size descriptors h = go (nat_lt DATA_MAX size) (nat_lt PASS_MAX descriptors) refl refl h
  where
    go :
        (a b : Bool) → nat_lt DATA_MAX size ≡ a → nat_lt PASS_MAX descriptors ≡ b → (a || b) ≡ false →
        (size ≤ DATA_MAX) × (descriptors ≤ PASS_MAX)
    go false false x y z = (grind (arith, nat_tests, x), grind (arith, nat_tests, y))
    go true b x y z = absurd (cc z)
    go false true x y z = absurd (cc z)

pub over_is : (size descriptors : ℕ) → (DATA_MAX < size) ⊎ (PASS_MAX < descriptors) → is_over size descriptors ≡ true
over_is size descriptors (inl h) = grind (arith, nat_tests, h)
over_is size descriptors (inr h) = grind (arith, nat_tests, h)

within_is : (size descriptors : ℕ) → size ≤ DATA_MAX → descriptors ≤ PASS_MAX → is_over size descriptors ≡ false
within_is size descriptors h k = grind (arith, nat_tests, h, k)

-- each test of a door's limits decides what the table spells out

size_decides : (size : ℕ) (o : Option Door) → Decides (has_refused_size size o) (HasRefusedSize size o)
size_decides size None = (λ h. absurd (cc h), λ h. absurd h)
size_decides size (Some d) = Decides-or _ _ (Decides-ltb d.data_max size) (Decides-ltb size d.data_min)

passed_decides : (descriptors : ℕ) (o : Option Door) → Decides (refuses_passed descriptors o) (RefusesPassed descriptors o)
passed_decides descriptors None = (λ h. absurd (both_false (nat_lt 0 descriptors) h), λ h. absurd h)
  where
    both_false : (a : Bool) → (a && false) ≡ true → ⊥
    both_false true z = cc
    both_false false z = cc
passed_decides descriptors (Some d) = Decides-and _ _ (Decides-ltb 0 descriptors) (λ h. h, λ h. h)

many_decides : (descriptors : ℕ) (o : Option Door) → Decides (has_too_many descriptors o) (HasTooMany descriptors o)
many_decides descriptors None = (λ h. absurd (cc h), λ h. absurd h)
many_decides descriptors (Some d) = Decides-ltb d.desc_max descriptors

pub false_where_not : (P : Type 0) (b : Bool) → Decides b P → (P → ⊥) → b ≡ false
false_where_not P false decides h = refl
false_where_not P true decides h = absurd (h (decides.0 refl))

-- the table says why

door_refusal :
    (m : State) (d p size : ℕ) (pass : List Pass) (e : Errno) → refusal_at m p size pass (Some (obj.Door d)) ≡ Some e →
    Refusal m p size pass (Some (obj.Door d)) e
door_refusal m d p size pass e h =
    go
    (is_valid m d)
    (has_refused_size size (door_of m d))
    (refuses_passed (length pass) (door_of m d))
    (has_too_many (length pass) (door_of m d))
    (is_over size (length pass))
    (is_bad m p pass)
    (is_full m d)
    refl
    refl
    refl
    refl
    refl
    refl
    refl
    h
  where
    -- with the error that a test has
    has : (x : Errno) → Some x ≡ Some e → Refusal m p size pass (Some (obj.Door d)) x → Refusal m p size pass (Some (obj.Door d)) e
    has x g r = subst (Refusal m p size pass (Some (obj.Door d))) (some_error x e g) r

    no_size : has_refused_size size (door_of m d) ≡ false → HasRefusedSize size (door_of m d) → ⊥
    no_size = not_from_Decides _ (size_decides size (door_of m d))

    none_passed : refuses_passed (length pass) (door_of m d) ≡ false → RefusesPassed (length pass) (door_of m d) → ⊥
    none_passed = not_from_Decides _ (passed_decides (length pass) (door_of m d))

    not_many : has_too_many (length pass) (door_of m d) ≡ false → HasTooMany (length pass) (door_of m d) → ⊥
    not_many = not_from_Decides _ (many_decides (length pass) (door_of m d))

    can_pass : is_bad m p pass ≡ false → CannotPass m p pass → ⊥
    can_pass = not_from_Decides _ (pass_decides m p pass)

    is_full_pool : is_full m d ≡ true → QUEUE_MAX ≤ calls_in_pool m d
    is_full_pool z = let same : calls_in_pool m d ≡ calls_waiting m (pool_of m d) = waiting_calls_are m d in grind (arith, nat_tests, z, same)

    go :
        (valid refused passed many over bad full : Bool) → is_valid m d ≡ valid → has_refused_size size (door_of m d) ≡ refused →
        refuses_passed (length pass) (door_of m d) ≡ passed → has_too_many (length pass) (door_of m d) ≡ many →
        is_over size (length pass) ≡ over → is_bad m p pass ≡ bad → is_full m d ≡ full →
        first_of valid refused passed many over bad full ≡ Some e → Refusal m p size pass (Some (obj.Door d)) e
    go false s p n o b f u v w x y q z g = has EBADF g (not_valid d refl u)
    go true true p n o b f u v w x y q z g = has ENOBUFS g (refused_size d refl u ((size_decides size (door_of m d)).0 v))
    go true false true n o b f u v w x y q z g =
        has ENOTSUP g (takes_none d refl u (no_size v) ((passed_decides (length pass) (door_of m d)).0 w))
    go true false false true o b f u v w x y q z g =
        has ENFILE g (too_many d refl u (no_size v) (none_passed w) ((many_decides (length pass) (door_of m d)).0 x))
    go true false false false true b f u v w x y q z g =
        has E2BIG g (too_long d refl u (no_size v) (none_passed w) (not_many x) (over_limit size (length pass) y))
    go true false false false false true f u v w x y q z g =
        let within : (size ≤ DATA_MAX) × (length pass ≤ PASS_MAX) = within_limits size (length pass) y in
        has EINVAL g
        (cannot_pass d refl u (no_size v) (none_passed w) (not_many x) within.0 within.1 ((pass_decides m p pass).0 q))
    go true false false false false false true u v w x y q z g =
        let within : (size ≤ DATA_MAX) × (length pass ≤ PASS_MAX) = within_limits size (length pass) y in
        has EAGAIN g
        (full_pool d refl u (no_size v) (none_passed w) (not_many x) within.0 within.1 (can_pass q) (is_full_pool z))
    go true false false false false false false u v w x y q z g = absurd (cc g)

pub table_of_refusal :
    (m : State) (p size : ℕ) (pass : List Pass) (o : Option Obj) (e : Errno) → refusal_at m p size pass o ≡ Some e →
    Refusal m p size pass o e
table_of_refusal m p size pass (Some (obj.Door d)) e h = door_refusal m d p size pass e h
table_of_refusal m p size pass None e h =
    subst (Refusal m p size pass None) (some_error _ _ h) (no_door (λ d g. absurd (cc g)))
table_of_refusal m p size pass (Some (obj.Port n)) e h =
    subst (Refusal m p size pass (Some (obj.Port n))) (some_error _ _ h) (no_door (λ d g. absurd (cc g)))
table_of_refusal m p size pass (Some (obj.PipeIn n)) e h =
    subst (Refusal m p size pass (Some (obj.PipeIn n))) (some_error _ _ h) (no_door (λ d g. absurd (cc g)))
table_of_refusal m p size pass (Some (obj.PipeOut n)) e h =
    subst (Refusal m p size pass (Some (obj.PipeOut n))) (some_error _ _ h) (no_door (λ d g. absurd (cc g)))

no_door_refusal :
    (m : State) (p size : ℕ) (pass : List Pass) (o : Option Obj) → ((d : ℕ) → o ≡ Some (obj.Door d) → ⊥) →
    refusal_at m p size pass o ≡ Some EBADF
no_door_refusal m p size pass None h = refl
no_door_refusal m p size pass (Some (obj.Door d)) h = absurd (h d refl)
no_door_refusal m p size pass (Some (obj.Port n)) h = refl
no_door_refusal m p size pass (Some (obj.PipeIn n)) h = refl
no_door_refusal m p size pass (Some (obj.PipeOut n)) h = refl

-- and what the table says is so

module _ (m : State) (d p size : ℕ) (pass : List Pass) where
  -- what the tests of a call through a descriptor of door d give, if these are what they find
  by_tests :
      (o : Option Obj) (valid refused passed many over bad full : Bool) → o ≡ Some (obj.Door d) → is_valid m d ≡ valid →
      has_refused_size size (door_of m d) ≡ refused → refuses_passed (length pass) (door_of m d) ≡ passed →
      has_too_many (length pass) (door_of m d) ≡ many → is_over size (length pass) ≡ over → is_bad m p pass ≡ bad →
      is_full m d ≡ full → refusal_at m p size pass o ≡ first_of valid refused passed many over bad full
  by_tests o valid refused passed many over bad full h u v w x y q z =
      ap (refusal_at m p size pass) h
      ∙ ap (λ (b : Bool). first_of b (has_refused_size size (door_of m d)) (refuses_passed (length pass) (door_of m d)) (has_too_many (length pass) (door_of m d)) (is_over size (length pass)) (is_bad m p pass) (is_full m d)) u
      ∙ ap (λ (b : Bool). first_of valid b (refuses_passed (length pass) (door_of m d)) (has_too_many (length pass) (door_of m d)) (is_over size (length pass)) (is_bad m p pass) (is_full m d)) v
      ∙ ap (λ (b : Bool). first_of valid refused b (has_too_many (length pass) (door_of m d)) (is_over size (length pass)) (is_bad m p pass) (is_full m d)) w
      ∙ ap (λ (b : Bool). first_of valid refused passed b (is_over size (length pass)) (is_bad m p pass) (is_full m d)) x
      ∙ ap (λ (b : Bool). first_of valid refused passed many b (is_bad m p pass) (is_full m d)) y
      ∙ ap (λ (b : Bool). first_of valid refused passed many over b (is_full m d)) q
      ∙ ap (λ (b : Bool). first_of valid refused passed many over bad b) z

-- where a type of the table does not hold, its test is false

size_is_false :
    (m : State) (d size : ℕ) → (HasRefusedSize size (door_of m d) → ⊥) → has_refused_size size (door_of m d) ≡ false
size_is_false m d size = false_where_not _ _ (size_decides size (door_of m d))

passed_is_false :
    (m : State) (d descriptors : ℕ) → (RefusesPassed descriptors (door_of m d) → ⊥) →
    refuses_passed descriptors (door_of m d) ≡ false
passed_is_false m d descriptors = false_where_not _ _ (passed_decides descriptors (door_of m d))

many_is_false :
    (m : State) (d descriptors : ℕ) → (HasTooMany descriptors (door_of m d) → ⊥) →
    has_too_many descriptors (door_of m d) ≡ false
many_is_false m d descriptors = false_where_not _ _ (many_decides descriptors (door_of m d))

full_is : (m : State) (d : ℕ) → QUEUE_MAX ≤ calls_in_pool m d → is_full m d ≡ true
full_is m d z = let same : calls_in_pool m d ≡ calls_waiting m (pool_of m d) = waiting_calls_are m d in grind (arith, nat_tests, z, same)

pub refusal_of_table :
    (m : State) (p size : ℕ) (pass : List Pass) (o : Option Obj) (e : Errno) → Refusal m p size pass o e →
    refusal_at m p size pass o ≡ Some e
refusal_of_table m p size pass o e (no_door h) = no_door_refusal m p size pass o h
refusal_of_table m p size pass o e (not_valid d h u) =
    by_tests m d p size pass o false _ _ _ _ _ _ h u refl refl refl refl refl refl
refusal_of_table m p size pass o e (refused_size d h u v) =
    by_tests m d p size pass o true true _ _ _ _ _ h u ((size_decides size (door_of m d)).1 v) refl refl refl refl refl
refusal_of_table m p size pass o e (takes_none d h u v w) =
    by_tests m d p size pass o true false true _ _ _ _ h u (size_is_false m d size v)
    ((passed_decides (length pass) (door_of m d)).1 w) refl refl refl refl
refusal_of_table m p size pass o e (too_many d h u v w x) =
    by_tests m d p size pass o true false false true _ _ _ h u (size_is_false m d size v) (passed_is_false m d (length pass) w)
    ((many_decides (length pass) (door_of m d)).1 x) refl refl refl
refusal_of_table m p size pass o e (too_long d h u v w x y) =
    by_tests m d p size pass o true false false false true _ _ h u (size_is_false m d size v)
    (passed_is_false m d (length pass) w) (many_is_false m d (length pass) x) (over_is size (length pass) y) refl refl
refusal_of_table m p size pass o e (cannot_pass d h u v w x s n b) =
    by_tests m d p size pass o true false false false false true _ h u (size_is_false m d size v)
    (passed_is_false m d (length pass) w) (many_is_false m d (length pass) x) (within_is size (length pass) s n)
    ((pass_decides m p pass).1 b) refl
refusal_of_table m p size pass o e (full_pool d h u v w x s n b z) =
    by_tests m d p size pass o true false false false false false true h u (size_is_false m d size v)
    (passed_is_false m d (length pass) w) (many_is_false m d (length pass) x) (within_is size (length pass) s n)
    (false_where_not _ _ (pass_decides m p pass) b) (full_is m d z)

pub none_and_some : (o : Option Errno) (e : Errno) → o ≡ None → o ≡ Some e → ⊥
none_and_some o e f g = cc

-- no refusal of the table where no test holds
pub no_refusal :
    (m : State) (p size : ℕ) (pass : List Pass) (o : Option Obj) → refusal_at m p size pass o ≡ None → (e : Errno) →
    Refusal m p size pass o e → ⊥
no_refusal m p size pass o h e r = none_and_some _ e h (refusal_of_table m p size pass o e r)

pub none_of : (o : Option Errno) → ((e : Errno) → o ≡ Some e → ⊥) → o ≡ None
none_of None h = refl
none_of (Some e) h = absurd (h e refl)

-- any entry

-- a Return answers so
pub return_result : (m : State) (t p : ℕ) (bytes : List ℕ) (pass : List Pass) → (return m t p bytes pass).answer ≡ return_answer m t
return_result m t p bytes pass = go (has_invalid_door m t)
  where
    go :
        (b : Bool) →
        (if b then return_unbound m t p bytes pass else return_parked m t p bytes pass).answer
        ≡ (if b then answer.Failure EINVAL else answer.Wait)
    go true = refl
    go false = refl

-- why entry r of thread t answers an error, in the words of the step
pub data FailsIn (m : State) (t : ℕ) (r : Request) : Errno → Type 0 where
  by_test : (e : Errno) → refusal_of m t (process_of m t) r ≡ Some e → FailsIn m t r e
  returned_unbound :
      (bytes : List ℕ) (pass : List Pass) → r ≡ request.Return bytes pass → refusal_of m t (process_of m t) r ≡ None →
      has_invalid_door m t ≡ true → FailsIn m t r EINVAL

same_failure : (e f : Errno) → answer.Failure e ≡ answer.Failure f → e ≡ f
same_failure e f h = cc

-- what is found at a port is no error
found_no_failure : (m : State) (q max : ℕ) (one : Bool) (e : Errno) → found_answer m q max one ≡ answer.Failure e → ⊥
found_no_failure m q max false e h = cc
found_no_failure m q max true e h = go (first_found (port m q)) h
  where
    go : (o : Option Queued) → event_answer o ≡ answer.Failure e → ⊥
    go None f = cc
    go (Some x) f = cc

passing_no_failure : (m : State) (t : ℕ) (r : Request) (c : Channels) (a : Answer) (e : Errno) → IsPassing m t r c a → a ≡ answer.Failure e → ⊥
passing_no_failure m t r c a e (IsPassing.writes fd bytes f) h = cc
passing_no_failure m t r c a e (IsPassing.reads fd max f) h = cc
passing_no_failure m t r c a e (IsPassing.sends fd events user f) h = cc
passing_no_failure m t r c a e (IsPassing.sends_each fds events user) h = cc
passing_no_failure m t r c a e (IsPassing.alerts fd mode events user f) h = cc
passing_no_failure m t r c a e (IsPassing.associates port object events user f) h = cc
passing_no_failure m t r c a e (IsPassing.dissociates port object f) h = cc
passing_no_failure m t r c a e (IsPassing.creates_timer port user f) h = cc
passing_no_failure m t r c a e (IsPassing.sets_timer timer first interval f) h = cc
passing_no_failure m t r c a e (IsPassing.deletes_timer timer f) h = cc
passing_no_failure m t r c a e (IsPassing.advances by) h = cc
passing_no_failure m t r c a e (IsPassing.gets fd wait f g) h = found_no_failure m (port_at m (process_of m t) fd) 1 true e h
passing_no_failure m t r c a e (IsPassing.gets_many fd max nget wait f z g) h = found_no_failure m (port_at m (process_of m t) fd) max false e h

-- what fails though it is not refused is a Return
move_fails : (m : State) (t : ℕ) (r : Request) (a : ActResult) (e : Errno) → Moves m t (Some r) a → a.answer ≡ answer.Failure e → FailsIn m t r e
move_fails m t r a e (Moves.nothing x (IsSaid.refused s f g)) h = subst (FailsIn m t r) (same_failure f e h) (by_test f g)
move_fails m t r a e (Moves.returns_unbound bytes pass n v) h =
    subst (FailsIn m t r) (same_failure EINVAL e h) (returned_unbound bytes pass refl n v)
move_fails m t r a e (Moves.rows s place o x (IsRow.closes fd n)) h = absurd (cc h)
move_fails m t r a e (Moves.turns s x w (IsTurn.awaits path n)) h = absurd (cc h)
move_fails m t r a e (Moves.turns s x w (IsTurn.waits_for_one fd wait n f)) h = absurd (cc h)
move_fails m t r a e (Moves.turns s x w (IsTurn.waits_for_many fd max nget wait n z f)) h = absurd (cc h)
move_fails m t r a e (Moves.passes s c x p) h = absurd (passing_no_failure m t s c x e p h)
move_fails m t r a e (Moves.makes_channel s c os x (IsMaking.makes_port f)) h = absurd (cc h)
move_fails m t r a e x h = absurd (cc h)

step_fails : (m : State) (t : ℕ) (r : Request) (e : Errno) → (step m t (Some r)).answer ≡ answer.Failure e → FailsIn m t r e
unfolding step
step_fails m t r e h = move_fails m t r (act m t (Some r)) e (act_moves m t (Some r)) h

fails_step : (m : State) (t : ℕ) (r : Request) (e : Errno) → FailsIn m t r e → (step m t (Some r)).answer ≡ answer.Failure e
unfolding step
fails_step m t r e (by_test x f) = ap (λ o. (unless_refused m o (effect m t (process_of m t) r)).answer) f
fails_step m t r e (returned_unbound bytes pass f n v) =
    ap (λ o. (unless_refused m o (effect m t (process_of m t) r)).answer) n
    ∙ ap (λ (q : Request). (effect m t (process_of m t) q).answer) f
    ∙ return_result m t (process_of m t) bytes pass
    ∙ ap (λ (b : Bool). if b then answer.Failure EINVAL else answer.Wait) v

pub entry_tells :
    (m : State) (t : ℕ) (q : Option Request) (r : Request) (e : Errno) → q ≡ Some r →
    ((step m t q).answer ≡ answer.Failure e) ↔ FailsIn m t r e
entry_tells m t q r e h =
    subst (λ o. ((step m t o).answer ≡ answer.Failure e) ↔ FailsIn m t r e) (sym h) (step_fails m t r e, fails_step m t r e)

-- a Call fails only where it is refused
pub call_fails :
    (m : State) (t : ℕ) (r : Request) (fd : Fd) (bytes : List ℕ) (pass : List Pass) (rsize : ℕ) (e : Errno) →
    r ≡ request.Call fd bytes pass rsize → FailsIn m t r e → refusal_of m t (process_of m t) r ≡ Some e
call_fails m t r fd bytes pass rsize e h (by_test x f) = f
call_fails m t r fd bytes pass rsize e h (returned_unbound b x f n v) = absurd (cc (sym h ∙ f))
