use Rattle.std.proofs.Common.{[], refl}
use Rattle.spec_kernel.specs.Words.{step}
use Rattle.law_examples.proofs.port_laws.bytes.Goals as goal

pub returns-clause-written : goal.returns-clause-written
unfolding step
returns-clause-written c = record { number = 1; pipe = record { number = 1; bytes = [] }; names = refl; there = refl; as_many = refl; after = refl }

pub returns-clause-read : goal.returns-clause-read
unfolding step
returns-clause-read c =
    record { number = 1; pipe = _; names = refl; there = refl; as_many = refl; rest = _; oldest = refl; after = refl }
