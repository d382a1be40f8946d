-- Threads that no exit path touches.
use Rattle.std.proofs.Common.{◌≡◌, ℕ, zero, suc, ◌&&◌, not, Bool, true, false, if◌then◌else◌, List, [], ◌∷◌, ◌++◌, Option, Some, None, find, map, refl, sym, ap, ap₂}
use Rattle.dk_base.specs.declared.limits.TheConstants.{THREADS_MAX}
use Rattle.spec_records.specs.Words.{ProcessTable, deserted_in, is_served_by, left_thread_of, left_threads, numbers_where, revocation, tid}
use Rattle.spec_kernel.specs.Types.{Call, Thread}
use Rattle.exit_paths.specs.Words.{became_idle, is_idle_at, threads_where}

-- a revocation leaves threads as they are
pub revoked_threads : (d now : ℕ) (calls : List Call) (table : ProcessTable) → table ≡ left_threads (revocation d) now calls table
revoked_threads d now calls table = ap (λ xs. record table { threads = xs }) (sym (all table.threads))
  where
    one : (x : Thread) → left_thread_of (revocation d) now calls x ≡ x
    one x = go (find (is_served_by x.number) calls)
      where
        go : (o : Option Call) → deserted_in (revocation d) now o x ≡ x
        go None = refl
        go (Some r) = refl

    all : (xs : List Thread) → map (left_thread_of (revocation d) now calls) xs ≡ xs
    all [] = refl
    all (x ∷ xs) = ap₂ (λ y ys. y ∷ ys) (one x) (all xs)

pub numbers_none : (test : ℕ → Bool) → ((t : ℕ) → test t ≡ false) → (n : ℕ) → numbers_where test n ≡ []
numbers_none test h zero = refl
numbers_none test h (suc n) = ap₂ (λ xs b. xs ++ (if b then suc n ∷ [] else [])) (numbers_none test h n) (h (suc n))

pub none_idle : (table : ProcessTable) → threads_where (became_idle table table) ≡ []
none_idle table = ap (map tid) (numbers_none (became_idle table table) (λ t. go (is_idle_at table t)) THREADS_MAX)
  where
    go : (b : Bool) → (not b && b) ≡ false
    go true = refl
    go false = refl
