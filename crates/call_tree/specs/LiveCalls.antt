-- The calls that are live, with the room for more.
use Rattle.std.specs.Prelude.{◌≡◌, ◌<◌, ℕ, true, List, [], ◌∷◌}
use Rattle.spec_records.specs.declared.record.Call.{Call}
use Rattle.spec_records.specs.Words.{CallTree, is_live_call}

-- how many calls were made and those that are live, and how many further calls take no memory
pub record CallsValue : Type 0 where
  pub tree : CallTree
  pub spare : ℕ

-- another call takes no memory
abbrev pub HasRoomForCall : CallsValue → Type 0
HasRoomForCall calls = 0 < calls.spare

-- none of these calls was answered, or left by a caller that ended
abbrev pub AreLive : List Call → Type 0
AreLive [] = Unit {0}
AreLive (r ∷ rs) = (is_live_call r ≡ true) × AreLive rs
