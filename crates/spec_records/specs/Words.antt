-- The words of this crate's specs, from one place, for the crates above.
pub use Rattle.spec_records.specs.Associations.{AssociationList, all_fired, armed_at, associate, associate_tests, association_at, association_number, association_port, associations_of_process, associations_of_row, associations_that_lost, disarmed, disarmed_where, dissociate, dissociate_tests, end_closed, end_process_associations, end_row, event_of, fire_all, fire_first, fired_of, fired_where, first_fired, has_key, has_lost_its_row, has_number, has_other_key, has_other_number, is_armed_at, is_fired_by, is_of_other_process, is_of_other_row, is_of_process, is_of_row, is_same_association_key, is_this_object, is_to_fire, is_told, is_watcher, names_its_object, new_association, no_associations, number_in, numbers_of, ports_of, post_fired, queued_of, ready_object, retrieve_association, retrieve_associations, told_events, watches, withdraw_events}
pub use Rattle.spec_records.specs.Calls.{CallTree, at_stage, call_number, collect_call, enter_call, fail_call, give_call, is_client_call_of, is_entered_by, is_given_as, is_given_to, is_live, is_live_call, is_queued, is_queued_as, is_queued_call, is_served, is_served_as, is_served_by, is_to_collect, is_to_collect_as, live_calls, open_call, return_call, without_arguments_at}
pub use Rattle.spec_records.specs.Doors.{AreNumbered, attributes_where, bind_tests, change_door, change_door_in, cookie_of, end_owner, entry_of, first_desc_max, has_attributes, has_common_door, has_no_cancel, has_no_size, has_refused_size, has_told_attributes, has_too_many, has_unref_multi, info_in, info_of, is_common_of, is_of_descriptors, is_owned_by, is_private, is_private_in, is_valid_door, is_valid_in, is_valid_of, limit_tests, new_door, no_cancel_of, no_info, number_of_door, notice_doors, is_notice_door, param_in, param_of, refuses_descriptors, refuses_descriptors_in, revoke_door, revoke_tests, revoked_door, set_param, set_param_tests, takes_notices, takes_notices_in, target_of, told_attributes, valid_doors_of, with_door, with_owner_ended, with_param, would_have_no_size}
pub use Rattle.spec_records.specs.Leaving.{Leaving, abandoned_at, broken_call_at, cancelled_invocation, cancelled_thread, deserted_at, deserted_in, ended_where, forking, gone_call_at, interrupted_state, interrupted_thread, interrupted_where, interruption, is_left, leaving_of, left_call, left_calls, left_notice, left_notice_at, left_notices, left_thread, left_thread_of, left_threads, process_end, revocation, thread_end}
pub use Rattle.spec_records.specs.Lists.{change_at_number, change_first, change_found}
pub use Rattle.spec_records.specs.Moments.{due_count, due_moments, moments_from, moments_until}
pub use Rattle.spec_records.specs.Names.{door_attached, has_other_path, has_path, name_in, with_name, without_name}
pub use Rattle.spec_records.specs.Notices.{NoticeList, end_notice, enter_notice, give_notice, has_many, has_notice, is_entered_stage, is_given_notice_as, is_given_stage, is_kept_notice, is_notice_entered_by, is_notice_of, is_past_stage, is_waiting_notice, is_waiting_notice_as, is_waiting_stage, kept_notices, make_notice, may_take_notice, may_take_notice_in, new_notice, notice_at, notice_number}
pub use Rattle.spec_records.specs.NumberedLists.{IsAscending, IsCounted, is_numbered}
pub use Rattle.dk_base.specs.Numbers.{AnswersAs, descriptor, numbers_where, pid, tid}
pub use Rattle.spec_records.specs.Passing.{has_double_release, is_bad_pass, is_double, is_not_open, object_passed, objects_passed, release_row, release_rows}
pub use Rattle.spec_records.specs.Pipes.{Pipe, bytes_in, bytes_of, events_where, fitting, is_full_of, make_pipe, new_pipe, oldest, read_pipe, read_tests, ready_in, ready_out, without_oldest, write_pipe, write_tests, written}
pub use Rattle.spec_records.specs.Pools.{better_parked, bind_lost, bind_thread, bound_at, bound_in, is_bound_to_some, is_pool, is_queued_in, items_in_order, later_parked, parked_at, parked_in, parked_thread, pick_among, pick_parked, pool_in, pool_of_door, pool_of_thread, queue_length, unbind_thread, waiting_call, waiting_notice, with_notice, with_notices}
pub use Rattle.spec_records.specs.Ports.{Port, alert_event, alert_of, alert_port, alert_tests, association_of, associations_of, events_found, events_given, first_found, found_at, get_tests, getn_count, getn_tests, grow_timer, grown_event, has_bad_count, has_event_of, has_timer_event, is_event_of, is_full_port, is_number, is_of_nothing, is_of_user, is_other_event, is_other_timer_event, is_ready_for, is_timer_event, is_update, is_user_event, left_at, make_port, must_wait, new_port, port_in, port_of, post_event, record_of, records_of, send_each, send_error, send_errors, send_event, send_if_allowed, send_tests, take_events, timer_event, user_event, user_events, with_alert, with_event, with_grown_event, withdraw_event, withdraw_timer, without_event, without_found, without_timer_event}
pub use Rattle.spec_records.specs.ProcessTable.{ProcessTable, active_threads, begin_process, begun_thread, change_process, change_process_in, change_thread, change_thread_in, child_of, end_invocation, end_process, end_thread, ended_process, ended_thread, enter_thread, first_place, give_thread, idle_thread, invocation_in, is_active, is_active_of, is_calling, is_done, is_dormant, is_fellow_caller, is_first_of, is_idle, is_idle_thread, is_last, is_live_in, is_live_stage, is_spare_in, is_spare_of, is_unborn_in, is_unborn_stage, keeps_alive, live_process, make_child, new_invocation, new_process, new_thread, new_thread_where, opening_state, parent_in, park_thread, process_in, set_thread_state, start_spare, start_thread_at, state_in, thread_at, thread_at_state, thread_in_invocation, thread_outside, unborn_thread, with_ended}
pub use Rattle.spec_records.specs.Refusals.{Test, first_refusal, refused_where, unless_refused_with}
pub use Rattle.spec_records.specs.Tables.{close_row, close_table, count_object, empty_table, free_place, free_row, free_rows, insert_row, insert_rows, is_object, lowest_free, new_descriptors, object_in, object_named, objects_of, row_object, table_in, with_row, with_table}
pub use Rattle.spec_records.specs.Timers.{TimerList, advance_clock, arming_at, create_timer, create_timer_answer, create_timer_error, create_timer_tests, created_timer, delete_timer, due_event, due_of, dues, dues_of, end_process_timers, end_timers_of_ended, free_id, free_id_from, has_all_timers, is_due, is_other_timer, is_timer, is_timer_of, is_timer_of_ended, is_timer_of_live, is_timer_of_other, new_timer, no_timers, set_timer, tag_answer, tag_of, tags_of, tell_due, tell_dues, timer_at, timer_error, timer_id, timer_number, timer_tests, timers_of, timers_of_ended, with_arming, withdraw_timers, without_queued}
