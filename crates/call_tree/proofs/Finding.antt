-- What stands at a place of the keys.
use Rattle.std.proofs.Common.{◌≡◌, ◌<◌, ℕ, zero, suc, List, [], ◌∷◌, Option, Some, IsSome, length, get_or, slice_get, refl, arith}
use Rattle.spec_records.specs.declared.record.Call.{Call}
use Rattle.call_tree.specs.Kept.{entries_of, AreKept, calls_in}

pub kept_length : (f : ℕ → Option Call) (ks : List ℕ) → AreKept f ks → length (entries_of f ks) ≡ length ks
kept_length f [] h = refl
kept_length f (x ∷ xs) h = grind (arith, h.0, kept_length f xs h.2)

pub kept_there : (f : ℕ → Option Call) (ks : List ℕ) (i d : ℕ) → AreKept f ks → i < length ks → IsSome (f (get_or ks i d))
kept_there f [] i d h l = absurd (omega arith)
kept_there f (x ∷ xs) zero d h l = h.0
kept_there f (x ∷ xs) (suc i) d h l = kept_there f xs i d h.2 (omega arith)

pub kept_call : (f : ℕ → Option Call) (ks : List ℕ) (i d : ℕ) (r : Call) → AreKept f ks → i < length ks → f (get_or ks i d) ≡ Some r → slice_get (calls_in (entries_of f ks)) i ≡ Some r
kept_call f [] i d r h l e = absurd (omega arith)
kept_call f (x ∷ xs) zero d r h l e = grind (arith, e)
kept_call f (x ∷ xs) (suc i) d r h l e = let ih = kept_call f xs i d r h.2 (omega arith) e in grind (arith, h.0, ih)
