use Rattle.std.proofs.Common.{true, refl}
use Rattle.dk_base.specs.declared.object.Obj.TheVariants as obj
use Rattle.dk_base.specs.declared.set.TheConstants.PollSet.{IN, OUT}
use Rattle.spec_records.specs.Words.{pid}
use Rattle.spec_kernel.specs.Words.{step}
use Rattle.law_examples.specs.PortLaws.{fd}
use Rattle.law_examples.proofs.association_runs.begun.Goals as goal

pub returns-clause-ready : goal.returns-clause-ready
unfolding step
returns-clause-ready c =
    record {
      association =
          record {
            number = 1;
            key = record { port = 1; process = pid 1; fd = fd 0 };
            object = obj.PipeIn 1;
            events = IN;
            user = 5;
            armed = true;
          };
      begins =
          record {
            port = fd 2;
            request = refl;
            answered = refl;
            of_port = refl;
            watches = refl;
            by_own = refl;
            number = refl;
            next = refl;
            armed = refl;
          };
      after = refl;
    }

pub returns-clause-in_place : goal.returns-clause-in_place
unfolding step
returns-clause-in_place c =
    record {
      association =
          record {
            number = 3;
            key = record { port = 1; process = pid 1; fd = fd 0 };
            object = obj.PipeIn 1;
            events = IN;
            user = 7;
            armed = true;
          };
      begins =
          record {
            port = fd 2;
            request = refl;
            answered = refl;
            of_port = refl;
            watches = refl;
            by_own = refl;
            number = refl;
            next = refl;
            armed = refl;
          };
      after = refl;
    }

pub returns-clause-replaced : goal.returns-clause-replaced
unfolding step
returns-clause-replaced c = refl

pub returns-clause-not_ready : goal.returns-clause-not_ready
unfolding step
returns-clause-not_ready c =
    record {
      association =
          record {
            number = 1;
            key = record { port = 1; process = pid 1; fd = fd 0 };
            object = obj.PipeIn 1;
            events = OUT;
            user = 1;
            armed = true;
          };
      begins =
          record {
            port = fd 2;
            request = refl;
            answered = refl;
            of_port = refl;
            watches = refl;
            by_own = refl;
            number = refl;
            next = refl;
            armed = refl;
          };
      after = refl;
    }

pub returns-clause-made : goal.returns-clause-made
unfolding step
returns-clause-made c = refl
