-- What a kernel knows of a Fork before its act.
use Rattle.std.specs.Prelude.{ℕ, ◌≡◌, None}
use Rattle.dk_base.specs.declared.request.Request.TheVariants as request
use Rattle.spec_records.specs.Words.{first_refusal}
use Rattle.spec_kernel.specs.Types.{Request}
use Rattle.spec_kernel.specs.Words.{State, forking_tests, process_of}
use Rattle.kernel_store.specs.Words.{MayBegin}

-- a child of which a Fork is not refused may begin with the descriptors of the thread's process
abbrev pub MayFork : State → ℕ → Request → Type 0
MayFork m t (request.Fork child) = first_refusal (forking_tests m child.0) ≡ None → MayBegin (process_of m t) child.0 m
MayFork m t _ = Unit {0}
