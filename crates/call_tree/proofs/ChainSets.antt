-- Tables after a write.
use Rattle.std.proofs.Common.{◌≡◌, ◌<◌, ℕ, zero, suc, List, length, set, refl, ap, ◌∙◌, arith}
use Rattle.std.proofs.lemmas.List.{get_or-set_same, get_or-set_other}
use Rattle.call_tree.specs.Chains.{Sets, at, other, other_at}

pub set_sets : (xs : List ℕ) (i v : ℕ) → i < length xs → Sets (at xs) (at (set xs i v)) i v
set_sets xs i v h = record {
  changed = get_or-set_same xs i v 0 h;
  others = λ k n. get_or-set_other xs i k v 0 n;
}

other_at-some : (t x : ℕ) → 0 < x → other_at t x ≡ x
other_at-some t zero h = absurd (omega arith)
other_at-some t (suc x) h = refl

pub other_sets : (xs : List ℕ) (i v : ℕ) → 0 < v → i < length xs → Sets (other xs) (other (set xs i v)) i v
other_sets xs i v p h = let s = set_sets xs i v h in record {
  changed = ap (other_at i) s.changed ∙ other_at-some i v p;
  others = λ k n. ap (other_at k) (s.others k n);
}
