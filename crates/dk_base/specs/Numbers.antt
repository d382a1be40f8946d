-- Numbers of processes, threads and descriptors, and tests of numbers.
use Rattle.std.specs.Prelude.{ℕ, zero, suc, ◌≡◌, ◌<◌, ◌++◌, Bool, List, [], ◌∷◌, if◌then◌else◌}
use Rattle.dk_base.specs.declared.number.Fd.{Fd}
use Rattle.dk_base.specs.declared.number.Pid.{Pid}
use Rattle.dk_base.specs.declared.number.Tid.{Tid}

abbrev pub pid : ℕ → Pid
pid n = record { 0 = n }

abbrev pub tid : ℕ → Tid
tid n = record { 0 = n }

abbrev pub descriptor : ℕ → Fd
descriptor n = record { 0 = n }

-- the numbers from 1 to n that pass a test, in order
abbrev pub numbers_where : (ℕ → Bool) → ℕ → List ℕ
numbers_where test zero = []
numbers_where test (suc n) = numbers_where test n ++ (if test (suc n) then suc n ∷ [] else [])

-- what the code asks of a number answers as this test does
abbrev pub AnswersAs : (ℕ → Bool → Type 0) → (ℕ → Bool) → Type 0
AnswersAs answers test = (n : ℕ) → (b : Bool) → n < 4294967296 → answers n b → b ≡ test n
