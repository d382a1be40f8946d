-- What holds of pipes, ports and references at the opening, and after every run.
use Rattle.std.proofs.Common.{◌+◌, ◌≤◌, Bool, true, false, List, [], ◌∷◌, length, sym, subst, ◌∙◌, arith, ap}
use Rattle.std.specs.Prelude.{All}
use Rattle.std.proofs.lemmas.List.Elements.{All-nil, All-push}
use Rattle.dk_base.specs.declared.limits.TheConstants.{PIPE_MAX}
use Rattle.spec_records.specs.Words.{CallTree, new_thread_where, opening_state}
use Rattle.spec_kernel.specs.Types.{Name, Thread}
use Rattle.spec_kernel.specs.Words.{Channels, IsOpening, IsRun, State, Turn, is_unborn_process, state_after, state_after_turn}
use Rattle.spec_kernel.proofs.Opening.{next_thread, object_at-opening, opened, opening_threads, threads-make_child}
use Rattle.law_channels.specs.Channels.{AreChannels, AreMadeIn, ArePipes, ArePorts, IsAmong, IsBounded, Made, WaitsAtMade, made_in}
use Rattle.law_channels.specs.Associations.{AreAssociations}
use Rattle.law_channels.specs.Timers.{AreTimers}
use Rattle.law_channels.proofs.Associations.{no_association}
use Rattle.law_channels.proofs.Acts.{step_fits}
use Rattle.law_channels.proofs.Timers.{no_timer}

-- a thread of the opening waits at no port
starts : (made : Made) (spare : Bool) → WaitsAtMade made (opening_state spare)
starts made true = tt
starts made false = tt

no_thread_waits : {m : State} → IsOpening m → (made : Made) → All (λ x. WaitsAtMade made x.state) m.process_table.threads
no_thread_waits (IsOpening.processes limits) made =
    subst (λ xs. All (λ (x : Thread). WaitsAtMade made x.state) xs) (sym (opening_threads limits)) (All-nil (λ x. WaitsAtMade made x.state))
no_thread_waits (IsOpening.child {m} c parent first after there long none o) made =
    subst (λ xs. All (λ (x : Thread). WaitsAtMade made x.state) xs) (sym (threads-make_child m.process_table c parent)) (no_thread_waits o made)
no_thread_waits (IsOpening.thread {m} p spare a b c o) made =
    All-push (λ x. WaitsAtMade made x.state) m.process_table.threads (next_thread m p spare) (no_thread_waits o made)
    (new (is_unborn_process m p))
  where
    new : (u : Bool) → WaitsAtMade made (new_thread_where u (length m.process_table.threads + 1) p spare).state
    new true = tt
    new false = starts made spare

pub opening_fits : (m : State) → IsOpening m → AreChannels m
opening_fits m o =
    record {
      pipes = subst (λ (c : Channels). ArePipes c.pipes) (sym (opened o).channels) (record { in_order = tt; bounded = All-nil (λ x. length x.bytes ≤ PIPE_MAX) });
      ports =
          subst (λ (c : Channels). ArePorts c.ports) (sym (opened o).channels)
          (record { in_order = tt; bounded = All-nil IsBounded });
      associations = subst (λ (c : Channels). AreAssociations c.ports c.associations) (sym (opened o).channels) no_association;
      timers = subst (λ (c : Channels). AreTimers c.ports c.timers) (sym (opened o).channels) no_timer;
      refers =
          record {
            rows = λ p fd x e. absurd (cc (sym (object_at-opening o p fd) ∙ e));
            names = subst (λ ns. All (λ (n : Name). IsAmong (length m.doors) n.door) ns) (sym (opened o).names) (All-nil (λ n. IsAmong (length m.doors) n.door));
            calls =
                subst (λ (tree : CallTree). All (AreMadeIn (made_in m)) tree.calls) (sym (opened o).call_tree) (All-nil (AreMadeIn (made_in m)));
            waits = no_thread_waits o (made_in m);
          };
      few_pipes = omega (arith, ap (λ (c : Channels). length c.pipes) (opened o).channels);
      few_ports = omega (arith, ap (λ (c : Channels). length c.ports) (opened o).channels);
      few_associations = omega (arith, ap (λ (c : Channels). c.associations.made) (opened o).channels);
      few_timers = omega (arith, ap (λ (c : Channels). c.timers.made) (opened o).channels);
      early = omega (arith, ap (λ (c : Channels). c.timers.clock) (opened o).channels);
    }

pub run_fits : (m : State) (xs : List Turn) → AreChannels m → IsRun m xs → AreChannels (state_after m xs)
run_fits m [] h run = h
run_fits m (x ∷ xs) h run = run_fits (state_after_turn m x) xs (step_fits m x.thread x.request h run.0) run.1
