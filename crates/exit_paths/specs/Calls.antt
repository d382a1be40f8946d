-- Calls that are left one at a time, at one event.
use Rattle.std.specs.Prelude.{ℕ, ◌≡◌, ◌<◌, ◌≤◌, ◌==◌, ◌&&◌, Bool, true, false, if◌then◌else◌, List, Option, Some, None, find, length}
use Rattle.std.specs.List.{list_any}
use Rattle.dk_base.specs.declared.error.Errno.TheVariants.{EBADF}
use Rattle.dk_base.specs.declared.object.Item.TheVariants as item
use Rattle.spec_records.specs.declared.record.CallStage.TheVariants as stage
use Rattle.spec_records.specs.Words.{CallTree, ProcessTable, is_queued, process_in, thread_at}
use Rattle.spec_kernel.specs.Types.{Call, Item}
use Rattle.server_pool.specs.Words.{is_item}
use Rattle.call_tree.specs.Words.{LeftSoFar, calls_so_far, is_call, nothing_left, refuse_call}
use Rattle.exit_paths.specs.Exits.{transit}

-- how many objects are in transit with calls
abbrev pub in_transit : List Call → ℕ
in_transit calls = length (transit calls)

-- calls at doors that are lost

-- a call, if there is one, that waits at a door that is lost
abbrev pub refused_caller : (ℕ → Bool) → Option Call → CallTree → CallTree
refused_caller loses None tree = tree
refused_caller loses (Some r) tree = if is_queued r.stage && loses r.door then refuse_call tree r.number EBADF else tree

-- the same of the call of an item
abbrev pub refused_item : (ℕ → Bool) → Item → CallTree → CallTree
refused_item loses (item.Call c) tree = refused_caller loses (find (is_call c) tree.calls) tree
refused_item loses (item.Notice n) tree = tree

-- these have ended, of the calls among some items
pub record AreRefused (loses : ℕ → Bool) (items : List Item) (tree now : CallTree) : Type 0 where
  pub refused : ℕ → Bool
  pub so_far : now ≡ calls_so_far (record nothing_left { refused = refused }) tree
  pub those :
      (p : Call → Bool) (r : Call) → find p tree.calls ≡ Some r → r.stage ≡ stage.Queued →
      refused r.number ≡ (loses r.door && list_any (is_item (item.Call r.number)) items)

-- the calls that wait at doors that are lost are among some items
abbrev pub AreTold : (ℕ → Bool) → List Call → List Item → Type 0
AreTold loses calls items =
    (p : Call → Bool) (r : Call) → find p calls ≡ Some r → r.stage ≡ stage.Queued → loses r.door ≡ true →
    list_any (is_item (item.Call r.number)) items ≡ true

-- threads that end

abbrev pub is_thread_of : ProcessTable → ℕ → ℕ → Bool
is_thread_of table p t = process_in (thread_at table t) == p

-- callers that end serve no longer
abbrev pub all_left : (ℕ → Bool) → (ℕ → Bool) → LeftSoFar
all_left ended refused = record { ended = ended; interrupted = λ t. false; servers = ended; refused = refused }

-- of the threads 1 to n those have ended that meet a test
pub record HaveEnded (ends : ℕ → Bool) (refused : ℕ → Bool) (n : ℕ) (tree now : CallTree) : Type 0 where
  pub ended : ℕ → Bool
  pub so_far : now ≡ calls_so_far (all_left ended refused) tree
  pub those : (t : ℕ) → 0 < t → t ≤ n → ended t ≡ ends t
  pub none : ended 0 ≡ false
  pub others : (t : ℕ) → n < t → ended t ≡ false
