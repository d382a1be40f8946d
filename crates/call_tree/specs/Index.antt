-- The calls by their keys, the two indexes, and the links between threads, as functions.
use Rattle.std.specs.Prelude.{◌≡◌, ◌<◌, ◌≤◌, ℕ, zero, suc, Bool, true, false, List, [], ◌∷◌, Option, Some, None, if◌then◌else◌, set}
use Rattle.spec_records.specs.declared.record.Call.{Call}
use Rattle.spec_records.specs.declared.record.CallStage.{CallStage}
use Rattle.spec_records.specs.declared.record.CallStage.TheVariants as stage
use Rattle.spec_records.specs.Words.{CallTree, IsAscending, call_number, is_live, is_served_by, is_to_collect, without_arguments_at}
use Rattle.call_tree.specs.Kept.{calls_in, look}
use Rattle.call_tree.specs.Chains.{Cut, LinksValue, at}
use Rattle.dk_base.specs.declared.thread_set.ThreadSet.{ThreadSet}
use Rattle.dk_base.specs.Words.{has}
use Rattle.call_tree.specs.Calls.{IsThread, is_waiting}

-- how many calls were made, those that are live under their keys, and how many further calls take no memory
pub record IndexValue : Type 0 where
  pub made : ℕ
  pub entries : List (ℕ × Call)
  pub spare : ℕ

abbrev pub tree_in : IndexValue → CallTree
tree_in v = record { made = v.made; calls = calls_in v.entries }

-- no key comes twice
abbrev pub AreApart : List (ℕ × Call) → Type 0
AreApart [] = Unit {0}
AreApart (e ∷ es) = (look e.0 es ≡ None) × AreApart es

-- the thread that serves a call at this stage, or 0
abbrev pub stage_server : CallStage → ℕ
stage_server (stage.Given u) = u.0
stage_server (stage.Entered u) = u.0
stage_server _ = 0

abbrev pub server_number : Call → ℕ
server_number r = if r.abandoned then 0 else stage_server r.stage

-- the stages before a call is returned or ends
abbrev pub is_open : CallStage → Bool
is_open stage.Queued = true
is_open (stage.Given u) = true
is_open (stage.Entered u) = true
is_open _ = false

abbrev pub is_entered : CallStage → Bool
is_entered (stage.Entered u) = true
is_entered _ = false

-- What each call is: it is live, it is abandoned only once it has ended, it has objects of arguments only until a thread enters it,
-- and its caller and its server are threads.
pub record IsSound (r : Call) : Type 0 where
  pub live : is_live r.stage ≡ true
  pub plain : is_open r.stage ≡ true → r.abandoned ≡ false
  pub bare : is_waiting r.stage ≡ false → r.objects ≡ []
  pub caller : IsThread r.caller.0
  pub server : (t : ℕ) → is_served_by t r ≡ true → 0 < t

-- One index names the call of each caller, the other the call that each thread serves, and the links are those of the calls. A call
-- is later than the one that its caller serves.
pub record Indexed (f : ℕ → Option Call) (ck sk up down rank : ℕ → ℕ) (top : ℕ) : Type 0 where
  pub caller : (k : ℕ) (r : Call) → f k ≡ Some r → ck r.caller.0 ≡ suc k
  pub server : (k t : ℕ) (r : Call) → f k ≡ Some r → is_served_by t r ≡ true → sk t ≡ suc k
  pub called : (t k : ℕ) → ck t ≡ suc k → (r : Call) × (f k ≡ Some r) × (r.caller.0 ≡ t)
  pub serving : (t k : ℕ) → sk t ≡ suc k → (r : Call) × (f k ≡ Some r) × (is_served_by t r ≡ true)
  pub up_is : (t k : ℕ) (r : Call) → sk t ≡ suc k → f k ≡ Some r → (up t ≡ r.caller.0) × (rank t ≡ r.number)
  pub up_none : (t : ℕ) → sk t ≡ 0 → (up t ≡ 0) × (rank t ≡ 0)
  pub down_is : (t k : ℕ) (r : Call) → ck t ≡ suc k → f k ≡ Some r → down t ≡ server_number r
  pub down_none : (t : ℕ) → ck t ≡ 0 → down t ≡ 0
  pub later : (k : ℕ) (r : Call) → f k ≡ Some r → (rank r.caller.0 < r.number) × (r.number ≤ top)
  pub once : (k j : ℕ) (r x : Call) → f k ≡ Some r → f j ≡ Some x → r.number ≡ x.number → k ≡ j
  pub sound : (k : ℕ) (r : Call) → f k ≡ Some r → IsSound r

pub record IsWhole (links : LinksValue) (es : List (ℕ × Call)) (ck sk : List ℕ) : Type 0 where
  pub apart : AreApart es
  pub rising : IsAscending call_number 0 links.top (calls_in es)
  pub indexed : Indexed (λ k. look k es) (at ck) (at sk) (at links.up) (at links.down) (at links.rank) links.top

-- Which callers can collect: those of the calls that were returned or have ended. `f` finds calls by their keys, `ck` the key of each
-- caller.
pub record AreCollecting (f : ℕ → Option Call) (ck : ℕ → ℕ) (callers : ThreadSet) : Type 0 where
  pub waiting : (k : ℕ) (r : Call) → f k ≡ Some r → has callers r.caller.0 ≡ is_to_collect r.stage
  pub others : (t : ℕ) → ck t ≡ 0 → has callers t ≡ false

-- what is said of keys alone: a caller, a number and a server have one call, and a call is later than the one that its caller serves
pub record AreSingle (es : List (ℕ × Call)) : Type 0 where
  pub apart : AreApart es
  pub caller : (k j : ℕ) (r x : Call) → look k es ≡ Some r → look j es ≡ Some x → r.caller.0 ≡ x.caller.0 → k ≡ j
  pub number : (k j : ℕ) (r x : Call) → look k es ≡ Some r → look j es ≡ Some x → r.number ≡ x.number → k ≡ j
  pub server : (t k j : ℕ) (r x : Call) → look k es ≡ Some r → look j es ≡ Some x → is_served_by t r ≡ true → is_served_by t x ≡ true → k ≡ j
  pub below : (k j : ℕ) (r x : Call) → look k es ≡ Some r → look j es ≡ Some x → is_served_by r.caller.0 x ≡ true → x.number < r.number
  pub sound : (k : ℕ) (r : Call) → look k es ≡ Some r → IsSound r

-- the chain is cut above the thread that serves a call, if one does
abbrev pub Released : ℕ → LinksValue → LinksValue → List ℕ → List ℕ → Type 0
Released zero old new sk sk' = (new ≡ old) × (sk' ≡ sk)
Released (suc u) old new sk sk' = Cut old new (suc u) × (sk' ≡ set sk (suc u) 0)

-- a call without its arguments at this stage, abandoned or not
abbrev pub moved_to : CallStage → Bool → Call → Call
moved_to s abandoned r = record (without_arguments_at s r) { abandoned = abandoned }
