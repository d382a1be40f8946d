use Rattle.std.proofs.Common.{◌≡◌, ℕ, zero, suc, replicate, refl}
use Rattle.call_tree.specs.Words.{at}
use Rattle.call_tree.proofs.index.zeros.Goals as goal

zeros_at : (n t : ℕ) → at (replicate n 0) t ≡ 0
zeros_at zero t = refl
zeros_at (suc n) zero = refl
zeros_at (suc n) (suc t) = zeros_at n t

pub returns : goal.returns
returns c = zeros_at 65
