use Rattle.std.proofs.Common.{◌≡◌, ◌+◌, ◌∙◌, Option, ap, length, refl, sym, ◌++◌, ◌∷◌, []}
use Rattle.spec_kernel.specs.Types.{Event, Request}
use Rattle.spec_kernel.specs.Words.{step}
use Rattle.spec_requests.specs.Words.{frame_of}
use Rattle.sys_run.specs.Sys.{with_journal, state_of_run}
use Rattle.sys_run.proofs.Journals.{events-history}
use Rattle.sys_run.proofs.Machines.{stands-frame_after_answer}
use Rattle.sys_run.proofs.Turns.{entered-turn, event_from, kernel-after, may_reply, may_take, replied-turn, request_at_turn-history, shown-entered, shown-reply, shown-turn, turn-event}
use Rattle.sys_run.proofs.turn.turn.Goals as goal

pub step-requires-clause-machine : goal.step-requires-clause-machine
step-requires-clause-machine c = c.requires.can.1.machine_stands.machine

pub step-requires-clause-may : goal.step-requires-clause-may
step-requires-clause-may c =
    let h = c.requires.can.1
    in may_take (with_journal c.args.script.now c.requires.can.0) c.args.t.0 _ _ h.run h.kernel_stands h.machine_stands.stands h.can h.left

pub step-requires-clause-tables : goal.step-requires-clause-tables
step-requires-clause-tables c =
    let h = c.requires.can.1
    in may_reply (with_journal c.args.script.now c.requires.can.0) c.args.t.0 _ h.run h.tables_stand h.can h.left

pub take-requires-clause-machine : goal.take-requires-clause-machine
take-requires-clause-machine c = c.requires.can.1.machine_stands.machine

pub take-requires-clause-declared : goal.take-requires-clause-declared
take-requires-clause-declared c =
    let h = c.requires.can.1
    in let p = with_journal c.args.script.now c.requires.can.0
    in let f = frame_of c.args.script.now c.args.t.0 c.requires.can.0
    in shown-entered c.args.script.now _ _ _ c.with_output-shown.ensures.answer
    (shown-entered c.args.script.now c.args.output _ _ c.with_output-done.ensures.answer
    (entered-turn p c.args.t.0 _ h.run h.can (c.in_ok-what.ensures.step (state_of_run p) f h.kernel_stands h.machine_stands.stands).answer))

pub returns-clause-turned : goal.returns-clause-turned
returns-clause-turned c = λ es h.
    let p = with_journal c.args.script.now es
    in let f = frame_of c.args.script.now c.args.t.0 es
    in let stepped = c.in_ok-what.ensures.step (state_of_run p) f h.kernel_stands h.machine_stands.stands
    in let replied =
    replied-turn p c.args.t.0 _ _ _ h.run h.tables_stand h.can (c.in_ok-what.ensures.replied (state_of_run p) f h.kernel_stands h.machine_stands.stands)
    in let number : c.events.result + 1 ≡ length es + 1 = ap (λ n. n + 1) (c.events.ensures.stands (state_of_run p) h.kernel_stands ∙ events-history p)
    in record {
      journal =
          ap (λ (e : Event). with_journal c.args.script.now (es ++ e ∷ []))
          (ap (λ n. event_from n c.args.t c.root-root.result c.in_ok-what.what c.with_output-shown.result.answer) number
          ∙ turn-event p c.args.t c.root-root.result c.in_ok-what.what c.with_output-shown.result.answer h.run
          (c.root-root.ensures.stands (state_of_run p) h.kernel_stands)
          (c.in_ok-what.ensures.what (state_of_run p) f h.kernel_stands h.machine_stands.stands)
          (shown-reply p c.args.t.0 _ _ _ replied.shown c.with_output-shown.ensures.answer
          (shown-turn p c.args.t.0 c.args.output _ _ h.is_output c.with_output-done.ensures.answer stepped.answer)));
      kernel_stands = kernel-after p c.args.t.0 _ h.run stepped.state;
      machine_stands =
          stands-frame_after_answer c.args.script.now es _ c.args.t.0 c.take.new.self refl c.take.ensures.machine (c.take.ensures.stands f h.machine_stands.stands);
      tables_stand = replied.tables_stand;
      woken =
          c.with_output-shown.ensures.woken ∙ c.with_output-done.ensures.woken ∙ stepped.woken
          ∙ ap (λ (q : Option Request). (step (state_of_run p) c.args.t.0 q).woken) (sym (request_at_turn-history p c.args.t.0 h.run));
    }
