-- A path's line that declares nothing again.
use Rattle.std.proofs.Common.{◌≡◌, Bool, true, false, ◌||◌, ℕ, List, refl}
use Rattle.line_text.specs.Words.{has_name}
use Rattle.history_text.specs.Names.{Names}

both_false : (a b : Bool) → (a || b) ≡ false → (a ≡ false) × (b ≡ false)
both_false false false h = (refl, refl)
both_false false true h = absurd (cc h)
both_false true b h = absurd (cc h)

pub once_of_path :
    (names : Names) (name text : List ℕ) → (has_name names.paths name || has_name names.texts text) ≡ false →
    (has_name names.paths name ≡ false) × (has_name names.texts text ≡ false)
once_of_path names name text h = both_false (has_name names.paths name) (has_name names.texts text) h
