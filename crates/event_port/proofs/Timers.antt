-- The event of a timer, looked for in a queue.
use Rattle.std.proofs.Common.{◌≡◌, ℕ, ◌||◌, Bool, true, false, List, [], ◌∷◌, Option, None, Some, cond, find, is_some, refl}
use Rattle.std.specs.List.{list_any}
use Rattle.spec_records.specs.declared.port.Alert.{Alert}
use Rattle.spec_records.specs.declared.port.Queued.{Queued}
use Rattle.spec_records.specs.Words.{Port}

abbrev pub with_queue : ℕ → Option Alert → List Queued → Port
with_queue n alert queue = record { number = n; alert = alert; queue = queue }

pub any_found : {X : Type 0} (p : X → Bool) (xs : List X) → list_any p xs ≡ is_some (find p xs)
any_found p [] = refl
any_found p (x ∷ xs) = go (p x) (any_found p xs)
  where
    go : (b : Bool) → list_any p xs ≡ is_some (find p xs) → b || list_any p xs ≡ is_some (cond b (Some x) (find p xs))
    go true ih = refl
    go false ih = ih
