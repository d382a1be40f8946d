-- The words of this crate's specs, from one place, for the crates above.
pub use Rattle.spec_requests.specs.AnswerText.{answer_text, attributes_text, entered_text, event_text, fds_text, grown_text, info_text, invocation_text, made_text, notice_text, plus_joined_words, results_text, source_text, spaced_error, spaced_event, spaced_fd, target_text}
pub use Rattle.spec_requests.specs.DataText.{data_text, digest_text}
pub use Rattle.spec_requests.specs.DeclaredNames.{IsDeclaredAnswer, IsDeclaredEvent, IsDeclaredThread, IsEntry, IsNumberOf, IsProcess, IsThread}
pub use Rattle.spec_requests.specs.Requests.{Frame, arguments, body_or_empty, first_body, first_frame, frame_after, frame_after_answer, frame_after_command, frame_from, frame_of, is_met, procedure_body, request_after, request_ahead, request_at, request_at_end, request_of, steps_after, vars_ahead}
pub use Rattle.spec_requests.specs.Sound.{IsChildOf, IsEntryOf, IsFitLine, IsNarrow, IsSound, IsSoundChild, IsSoundProcedure, IsSoundThread}
pub use Rattle.spec_requests.specs.Steps.{BodyStep, blocks_of, copies, innermost_block, line_before, next_steps, outer_blocks, steps_of_body, tested_condition, tested_steps, times_of}
pub use Rattle.spec_requests.specs.TraceNames.{NamesThread, is_some_word, second_word, thread_in_line, thread_named}
pub use Rattle.spec_requests.specs.TraceText.{ending_word, lines_text, spaced_name, tail_text, waiting_text}
unfoldable pub use Rattle.spec_requests.specs.TraceText.{end_line_of, line_of, refused_line_of, refused_text, trace_text}
pub use Rattle.spec_requests.specs.Variables.{Value, Variables, data_of, empty_value, fd_of, no_variables, or_no_descriptor, pass_of, piece_bytes, set_each, set_variable, values_of, vars_of, with_both, with_bytes, with_descriptor}
unfoldable pub use Rattle.spec_requests.specs.Variables.{greatest_data}
pub use Rattle.spec_requests.specs.WhatWord.{what_word}
