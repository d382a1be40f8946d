-- What the words `load N` are.
use Rattle.std.proofs.Common.{◌≡◌, ℕ, List, [], ◌∷◌, Option, Some, None, codes, refl}
use Rattle.std.specs.Prelude.{IfSome}
use Rattle.load_gen.specs.declared.load_script.TheConstants.{CALLS_MAX}
use Rattle.line_text.specs.Words.{SpellsNumber}
use Rattle.doors_top.specs.Outcomes.{IsLoad}

pub load_found : (first second : List ℕ) (found : Option ℕ) → first ≡ codes "load" → IfSome found (λ n. SpellsNumber 1 CALLS_MAX n second) → IfSome found (IsLoad (first ∷ second ∷ []))
load_found first second None is spells = tt
load_found first second (Some n) is spells = record { are = rw (is, spells.2) refl; least = spells.0; most = spells.1 }
