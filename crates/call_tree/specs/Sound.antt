-- What the calls of a kernel are to each other. They stand in order of number. What any test finds is found by its number, by its caller and by its server, so each of
-- these has one call; a call is later than the one that its caller serves, so both walks end.
use Rattle.std.specs.Prelude.{◌≡◌, ◌<◌, ℕ, Bool, true, Some, find}
use Rattle.spec_records.specs.declared.record.Call.{Call}
use Rattle.spec_records.specs.Words.{CallTree, IsAscending, call_number, is_served_by, is_to_collect}
use Rattle.call_tree.specs.Kept.{is_call}
use Rattle.call_tree.specs.Calls.{IsThread, is_called_by}
use Rattle.call_tree.specs.LiveCalls.{AreLive}

pub record AreSound (tree : CallTree) : Type 0 where
  pub ascending : IsAscending call_number 0 tree.made tree.calls
  pub live : AreLive tree.calls
  pub number : (p : Call → Bool) (r : Call) → find p tree.calls ≡ Some r → find (is_call r.number) tree.calls ≡ Some r
  pub caller : (p : Call → Bool) (r : Call) → find p tree.calls ≡ Some r → find (is_called_by r.caller.0) tree.calls ≡ Some r
  pub server : (p : Call → Bool) (r : Call) (t : ℕ) → find p tree.calls ≡ Some r → is_served_by t r ≡ true → find (is_served_by t) tree.calls ≡ Some r
  pub below : (p : Call → Bool) (r x : Call) → find p tree.calls ≡ Some r → find (is_served_by r.caller.0) tree.calls ≡ Some x → x.number < r.number
  pub thread : (p : Call → Bool) (r : Call) → find p tree.calls ≡ Some r → IsThread r.caller.0
  pub abandoned : (p : Call → Bool) (r : Call) → find p tree.calls ≡ Some r → r.abandoned ≡ true → is_to_collect r.stage ≡ true
