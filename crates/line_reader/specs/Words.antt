-- The words of this crate's specs, from one place, for the crates above.
pub use Rattle.line_reader.specs.Combinators.{Reader, Rest, declared_number, first_of, items_from, items_to, list_in_range, misspelling, next_word, nonempty_list, optional_word, optional_word_of, pure, rest_of, spelled_value, then_read, value_at_end, value_at_end_of, value_of_undeclared, value_out_of_range, value_with_rest, ◌>>=◌}
pub use Rattle.line_reader.specs.Commands.{info_after, line_with}
unfoldable pub use Rattle.line_reader.specs.Commands.{advance_line, alert_line, associate_line, attach_line, await_line, bind_line, call_line, close_line, create_line, cred_line, detach_line, dissociate_line, dup_line, end_line, exit_line, fork_line, get_line, getn_line, getparam_line, if_line, info_line, interrupt_line, kill_line, ncd_line, open_line, pcreate_line, pipe_line, read_line, repeat_line, return_line, revoke_line, send_line, sendn_line, serve_line, setparam_line, tcreate_line, tdelete_line, testcancel_line, tset_line, unbind_line, work_line, write_line}
pub use Rattle.line_reader.specs.ListContracts.{is_at_stop}
pub use Rattle.line_reader.specs.OperandContracts.{Fails, ReadsOn, first_word}
pub use Rattle.line_reader.specs.Operands.{attributes, child, condition, descriptor_number, fd, fd_from_word, fill_parts, is_no_stop, is_plus, is_rsize, mode, more_pieces, name, name_from_word, number, number_from_word, number_reader, op, param, parent, pass_arg, pass_from_word, pass_parts, passes, passes_after, path, path_id, pid, piece_from_word, pieces, pieces_after, poll, ports, procedure, process, rsize, rsize_after, text_piece, thread, thread_from_word, tid, value, value_from_word, variable_parts, variable_piece, wait_option}
