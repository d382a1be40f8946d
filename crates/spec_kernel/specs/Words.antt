-- The words of this crate's specs, from one place, for the crates above.
pub use Rattle.spec_kernel.specs.Acts.{ActResult, no_act, refused_act, unless_refused}
pub use Rattle.spec_kernel.specs.Associations.{associate, associated, associating_tests, association_of_key, dissociate, dissociated, dissociating_tests, effect_of_associations, key_at, ports_without, tests_of_associations, watched}
pub use Rattle.spec_kernel.specs.Binding.{bind, binding_tests, bound_tests, effect_of_bindings, information_of_bound, queried_tests, tests_of_bindings, unbind}
pub use Rattle.spec_kernel.specs.Descriptors.{attach, attach_tests, await, await_name, close, close_tests, detach, detach_tests, door_named, dup, dup_tests, effect_of_descriptors, end_await, insert_object, is_door, open_path, open_tests, tests_of_descriptors}
pub use Rattle.spec_kernel.specs.Doors.{accept, accept_call, accept_notice, begin_call, begin_notice, call, call_tests, collect, collect_answer, collect_answer_in, create, create_tests, effect_of_doors, fail_begin, has_room, make_call, new_call, objects_collected, objects_collected_in, pass_tests, pool_tests, results_answer, return, return_answer, return_parked, return_tests, return_unbound, tables_after_collect, tables_after_pass, tables_with, tests_of_doors}
pub use Rattle.spec_kernel.specs.Information.{client_process, credentials, credentials_tests, door_at, door_tests, effect_of_information, information, information_of, parameter, set_parameter, set_parameter_tests, tests_of_information}
pub use Rattle.spec_kernel.specs.Kept.{IsStep, StandsFor, forget}
pub use Rattle.spec_kernel.specs.Leaving.{bind_first, bindings_after_fork, effect_of_leaving, exit, fork, forking_tests, interrupt, is_cancelled, kill, leave, leave_process, leave_thread, revoke, revoking_tests, test_cancel, tests_of_leaving, wake}
pub use Rattle.spec_kernel.specs.Legal.{IsFit, MayEnter, MayGoOn, MayTurn}
pub use Rattle.spec_kernel.specs.Notices.{falls_to_one, is_due, make_each, make_notices, make_one, may_have_notice, reference_count}
pub use Rattle.spec_kernel.specs.Opening.{IsOpening, is_thread_of, no_process, opening, with_child, with_new_process, with_new_thread, with_processes}
pub use Rattle.spec_kernel.specs.Pipes.{effect_of_pipes, held_in, is_reading_end, is_writing_end, pipe, pipe_at, pipe_named, pipe_numbered, pipe_tests, read, readers_of, reading_tests, table_with_pipe, table_with_reader, tests_of_pipes, write, writers_of, writing_tests}
pub use Rattle.spec_kernel.specs.Ports.{after_sending, after_sending_each, alert, alerting_tests, create_port, create_port_tests, effect_of_ports, end_getting, errors_of_sending, event_answer, found_answer, get, get_from, get_many, getting_many_tests, getting_tests, has_port_references, is_port, port, port_at, port_named, port_tests, retrieve, send, send_many, sending_error, sending_tests, take_found, tell_queued, tests_of_ports, wait_for}
pub use Rattle.spec_kernel.specs.References.{holdings, holdings_in, named_object, objects_in_call, objects_in_transit, references_of, refs}
pub use Rattle.spec_kernel.specs.Runs.{IsRun, Turn, answers_of, state_after, state_after_turn, state_at}
pub use Rattle.spec_kernel.specs.Settle.{fail_each, fail_one, fail_return, fail_returns, give, give_and_start, give_each, give_one, give_to, has_first_common_door, has_given_last, has_lost_door, needs_spare, settle, settle_pools, start_each, start_one, start_spares}
pub use Rattle.spec_kernel.specs.State.{Channels, State, bound_of, calls_waiting, client_call, door_of, find_call, find_notice, has_invalid_door, invocation_of, is_bound_to_invalid, is_live_process, is_unborn_process, is_valid, name_of, now, object_at, parent_of, pick, pool_of, process_of, state_of, table_of, thread_of, timers_in, waiting_items, with_channels, with_pipes, with_ports, with_state, with_table_of}
pub use Rattle.spec_kernel.specs.Step.{Step, act, effect, effect_about, enter, go_on, refusal_of, step_after, tests_about, tests_of, what_of, what_of_entry, what_of_wait, with_event_counted}
pub use Rattle.spec_kernel.specs.Subjects.{Subject, subject_of}
pub use Rattle.spec_kernel.specs.Tasks.{effect_of_tasks, end_work, reply_to_line, start_work, tests_of_tasks}
pub use Rattle.spec_kernel.specs.Telling.{associations_in, end_lost, end_timers, fire, lost_associations, lost_timers, ready_at, tell}
pub use Rattle.spec_kernel.specs.Timers.{advance, clock_advanced, create_timer, creating_timer_tests, delete_timer, effect_of_timers, ports_without_timer, set_timer, tests_of_timers, timer_created, timer_deleted, timer_of, timer_set}
pub use Rattle.spec_kernel.specs.Turns.{can_end_getting, can_go_on, has_answer, is_runnable, is_running, is_running_state, is_waiting_state, least_among, least_or, least_runnable, waiting_among, waiting_threads, woken_among, woken_threads}
pub use Rattle.spec_kernel.specs.Walks.{caller_in, caller_of, lead, root, served_by, server_at, server_for, server_in, server_of, walk, walk_down}
unfoldable pub use Rattle.spec_kernel.specs.Step.{step}
