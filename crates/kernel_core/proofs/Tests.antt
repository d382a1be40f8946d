-- Tests one after the other.
use Rattle.std.proofs.Common.{◌≡◌, ℕ, ◌<◌, ◌++◌, ◌&&◌, ◌||◌, Bool, true, false, if◌then◌else◌, List, [], ◌∷◌, Some, None, is_some, length, nat_le, nat_lt, refl, arith}
use Rattle.std.specs.List.{list_any}
use Rattle.std.proofs.lemmas.Bool.Decides.{nat_tests}
use Rattle.dk_base.specs.declared.error.Errno.TheVariants.{E2BIG, EAGAIN, EINVAL}
use Rattle.dk_base.specs.declared.limits.TheConstants.{DATA_MAX, PASS_MAX, QUEUE_MAX}
use Rattle.spec_kernel.specs.Types.{Errno, Fd, Pass}
use Rattle.spec_records.specs.Words.{Test, first_refusal, has_double_release, is_not_open, limit_tests, refused_where}
use Rattle.spec_kernel.specs.Words.{State, call_tests, calls_waiting, client_call, door_named, door_of, is_valid, object_at, pass_tests, pool_of, pool_tests, return_tests, table_of}

pub first_of : (xs ys : List Test) (e : Errno) → first_refusal xs ≡ Some e → first_refusal (xs ++ ys) ≡ Some e
first_of [] ys e h = grind arith
first_of (x ∷ xs) ys e h =
    elim x.holds as (λ b. (if b then Some x.error else first_refusal xs) ≡ Some e → (if b then Some x.error else first_refusal (xs ++ ys)) ≡ Some e)
    [ true ↦ λ k. k | false ↦ λ k. first_of xs ys e k ] h

pub none_of : (xs ys : List Test) → first_refusal xs ≡ None → first_refusal (xs ++ ys) ≡ first_refusal ys
none_of [] ys h = refl
none_of (x ∷ xs) ys h =
    elim x.holds as (λ b. (if b then Some x.error else first_refusal xs) ≡ None → (if b then Some x.error else first_refusal (xs ++ ys)) ≡ first_refusal ys)
    [ true ↦ λ k. grind arith | false ↦ λ k. none_of xs ys k ] h

-- where no test holds, none of the last ones does
pub none_after : (xs ys : List Test) → first_refusal (xs ++ ys) ≡ None → first_refusal ys ≡ None
none_after [] ys h = h
none_after (x ∷ xs) ys h =
    elim x.holds as (λ b. (if b then Some x.error else first_refusal (xs ++ ys)) ≡ None → first_refusal ys ≡ None)
    [ true ↦ λ k. absurd (cc k) | false ↦ λ k. none_after xs ys k ] h

-- nor of the first
pub none_before : (xs ys : List Test) → first_refusal (xs ++ ys) ≡ None → first_refusal xs ≡ None
none_before [] ys h = refl
none_before (x ∷ xs) ys h =
    elim x.holds as (λ b. (if b then Some x.error else first_refusal (xs ++ ys)) ≡ None → (if b then Some x.error else first_refusal xs) ≡ None)
    [ true ↦ λ k. absurd (cc k) | false ↦ λ k. none_before xs ys k ] h

-- a call that is not refused is of a valid door, and its pool is not full

pub not_full :
    (m : State) (p : ℕ) (fd : Fd) (bytes : List ℕ) (pass : List Pass) → first_refusal (call_tests m p fd bytes pass) ≡ None →
    calls_waiting m (pool_of m (door_named (object_at m p fd))) < QUEUE_MAX
not_full m p fd bytes pass h = go (nat_le QUEUE_MAX (calls_waiting m (pool_of m d))) refl last
  where
    d : ℕ
    d = door_named (object_at m p fd)

    last : first_refusal (pool_tests m d) ≡ None
    last =
        none_after (pass_tests m p pass) (pool_tests m d)
        (none_after (limit_tests (door_of m d) (length bytes) (length pass)) (pass_tests m p pass ++ pool_tests m d) h)

    go : (b : Bool) → nat_le QUEUE_MAX (calls_waiting m (pool_of m d)) ≡ b → (if b then Some EAGAIN else None) ≡ None → calls_waiting m (pool_of m d) < QUEUE_MAX
    go true e f = absurd (cc f)
    go false e f = grind (arith, nat_tests)

pub called_valid :
    (m : State) (p : ℕ) (fd : Fd) (bytes : List ℕ) (pass : List Pass) → first_refusal (call_tests m p fd bytes pass) ≡ None →
    is_valid m (door_named (object_at m p fd)) ≡ true
called_valid m p fd bytes pass h = go (is_valid m (door_named (object_at m p fd))) refl h
  where
    go :
        (b : Bool) → is_valid m (door_named (object_at m p fd)) ≡ b → first_refusal (call_tests m p fd bytes pass) ≡ None →
        is_valid m (door_named (object_at m p fd)) ≡ true
    go true e f = e
    go false e f = grind (arith, nat_tests)

-- nor does what is passed without a refusal release a descriptor twice

released_once : (m : State) (p : ℕ) (pass : List Pass) → first_refusal (pass_tests m p pass) ≡ None → has_double_release pass ≡ false
released_once m p pass h = go (list_any (is_not_open (table_of m p)) pass) (has_double_release pass) h
  where
    go : (a b : Bool) → (if a || b then Some EINVAL else None) ≡ None → b ≡ false
    go true b e = absurd (cc e)
    go false true e = absurd (cc e)
    go false false e = refl

pub called_once :
    (m : State) (p : ℕ) (fd : Fd) (bytes : List ℕ) (pass : List Pass) → first_refusal (call_tests m p fd bytes pass) ≡ None →
    has_double_release pass ≡ false
called_once m p fd bytes pass h =
    let d = door_named (object_at m p fd) in
    released_once m p pass
    (none_before (pass_tests m p pass) (pool_tests m d)
    (none_after (limit_tests (door_of m d) (length bytes) (length pass)) (pass_tests m p pass ++ pool_tests m d) h))

pub returned_once :
    (m : State) (t p : ℕ) (bytes : List ℕ) (pass : List Pass) → first_refusal (return_tests m t p bytes pass) ≡ None →
    has_double_release pass ≡ false
returned_once m t p bytes pass h =
    let too_long = is_some (client_call m t) && (nat_lt DATA_MAX (length bytes) || nat_lt PASS_MAX (length pass)) in
    released_once m p pass (none_after (refused_where too_long E2BIG ∷ []) (pass_tests m p pass) h)
