-- The script of a load has no schedule.
use Rattle.std.proofs.Common.{◌≡◌, ℕ, None, refl}
use Rattle.spec_scripts.specs.Words.{refusal}
use Rattle.load_gen.specs.Loads.{load_script}

pub never_refused : (n : ℕ) → refusal (load_script n) ≡ None
unfolding load_script refusal
never_refused n = refl
