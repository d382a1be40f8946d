-- Which threads can take a turn: by what they are at, by a call of theirs that was returned or has ended, by a path, or by a port.
use Rattle.std.proofs.Common.{ℕ, ◌≡◌, ◌&&◌, ◌||◌, ◌==◌, Bool, true, false, not, true≢false, List, [], ◌∷◌, is_some, find, Some, if◌then◌else◌, refl, sym, ap, ap₂, ◌∙◌, arith}
use Rattle.std.proofs.lemmas.Bool.Decides.{nat_tests}
use Rattle.dk_base.specs.declared.number.PathId.{PathId}
use Rattle.spec_records.specs.declared.record.ThreadState.TheVariants as is
use Rattle.dk_base.specs.declared.object.Obj.TheVariants as obj
use Rattle.spec_records.specs.Words.{Port, ProcessTable, is_ready_for, name_in, port_of, state_in, thread_at}
use Rattle.spec_kernel.specs.Types.{Call, Name, ThreadState}
use Rattle.call_tree.specs.Words.{is_ready_of}
use Rattle.law_calls.specs.Words.{AreBacked, is_calling}
use Rattle.kernel_holdings.specs.Words.{HoldingsValue, references_of}
use Rattle.proc_table.specs.Words.{goes_on, is_awaiting, is_getting}
use Rattle.kernel_store.specs.Stored.{StoreValue, stored_state}
use Rattle.kernel_store.specs.Turning.{can_turn_at, has_ended_at, is_found_at}

-- who can collect waits in a call
pub collecting_calls : (table : ProcessTable) (t : ℕ) (calls : List Call) → AreBacked table calls → is_some (find (is_ready_of t) calls) ≡ true → is_calling (state_in (thread_at table t)) ≡ true
collecting_calls table t [] h e = cc
collecting_calls table t (r ∷ rs) h e = go (is_ready_of t r) refl e (collecting_calls table t rs h.1)
  where
    go : (b : Bool) → is_ready_of t r ≡ b → is_some (if b then Some r else find (is_ready_of t) rs) ≡ true →
        (is_some (find (is_ready_of t) rs) ≡ true → is_calling (state_in (thread_at table t)) ≡ true) → is_calling (state_in (thread_at table t)) ≡ true
    go true q e ih =
        let same : r.caller.0 ≡ t = grind (arith, nat_tests) in
        ap (λ n. is_calling (state_in (thread_at table n))) (sym same) ∙ ap is_calling h.0.calling
    go false q e ih = ih e

-- who waits at no port, or was interrupted there
pub ended_not : (held : HoldingsValue) (ports : List Port) (s : ThreadState) → is_getting s ≡ false → has_ended_at held ports s ≡ false
ended_not held ports (is.Getting q max nget one true) e = refl
ended_not held ports (is.Getting q max nget one false) e = cc
ended_not held ports s e = refl

-- what a store holds that refers to objects
abbrev pub held_of : StoreValue → HoldingsValue
held_of v = record { tables = v.tables; names = v.names; calls = v.calls; opening = v.opening; left = v.left }

got_by : (i b none ready : Bool) → (b ≡ true → false ≡ true) → (((i || b) || false) || (not i && (none || ready))) ≡ (i || (not (not none) || ready))
got_by true b none ready h = refl
got_by false true none ready h = absurd (true≢false (sym (h refl)))
got_by false false true ready h = refl
got_by false false false ready h = refl

-- the four ways are all, and each is of other states
turns_by :
    (v : StoreValue) (t : ℕ) (s : ThreadState) (b : Bool) → b ≡ is_some (find (is_ready_of t) v.calls.tree.calls) → (b ≡ true → is_calling s ≡ true) →
    (((goes_on s || b) || is_found_at v.names.names s) || has_ended_at (held_of v) v.ports.ports s) ≡ can_turn_at (stored_state v) t s
turns_by v t is.Dormant b e h = grind arith
turns_by v t is.Running b e h = refl
turns_by v t (is.Idle since) b e h = grind arith
turns_by v t (is.Given item) b e h = refl
turns_by v t (is.Calling c) b e h = grind arith
turns_by v t (is.Getting q max nget one interrupted) b e h =
    got_by interrupted b (references_of (held_of v) (obj.Port q) == 0) (is_ready_for nget (port_of v.ports.ports q)) h
turns_by v t (is.Awaiting path) b e h = grind arith
turns_by v t (is.Working op input) b e h = refl
turns_by v t is.FailedReturn b e h = refl
turns_by v t is.Done b e h = grind arith

pub turns_are :
    (v : StoreValue) (t : ℕ) (going collecting found ended some more all : Bool) → AreBacked v.processes v.calls.tree.calls → going ≡ goes_on (state_in (thread_at v.processes t)) →
    collecting ≡ is_some (find (is_ready_of t) v.calls.tree.calls) → found ≡ is_found_at v.names.names (state_in (thread_at v.processes t)) →
    ended ≡ has_ended_at (held_of v) v.ports.ports (state_in (thread_at v.processes t)) →
    some ≡ (going || collecting) → more ≡ (some || found) → all ≡ (more || ended) →
    all ≡ can_turn_at (stored_state v) t (state_in (thread_at v.processes t))
turns_are v t going collecting found ended some more all h g c f w s m a =
    a ∙ ap₂ (λ x y. x || y) (m ∙ ap₂ (λ x y. x || y) (s ∙ ap₂ (λ x y. x || y) g c) f) w
    ∙ turns_by v t (state_in (thread_at v.processes t)) _ refl (collecting_calls v.processes t v.calls.tree.calls h)

-- what is known of a thread that waits for a path is whether it is found
pub found_is : (names : List Name) (named : Bool) (s : ThreadState) → ((path : PathId) → s ≡ is.Awaiting path → named ≡ is_some (name_in names path)) → (is_awaiting s && named) ≡ is_found_at names s
found_is names named (is.Awaiting path) h = h path refl
found_is names named s h = refl
