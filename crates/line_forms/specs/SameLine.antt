-- That `==` of lines and of their operands holds of equal ones alone.
use Rattle.std.specs.Prelude.{◌≡◌, List}
use Rattle.std.specs.Bool.{Decides}
use Rattle.std.specs.Cmp.Lexicographic.{pointwise}
use Rattle.std.proofs.Common.{rules}
use Rattle.dk_base.specs.Words.{attrs_exact, bytes_exact, enum_exact, field_exact, flag_exact, last_exact, lists_exact, mode_exact, none_exact, number_exact, op_exact, param_exact, path_exact, poll_exact, process_exact, thread_exact}
use Rattle.line_forms.specs.declared.line.Cond.{Cond}
use Rattle.line_forms.specs.declared.line.FdArg.{FdArg}
use Rattle.line_forms.specs.declared.line.Line.{Line}
use Rattle.line_forms.specs.declared.line.PassArg.{PassArg}
use Rattle.line_forms.specs.declared.line.Piece.{Piece}
use Rattle.line_forms.specs.contracts.line.CondPartialEq.TheImpl as cond_eq
use Rattle.line_forms.specs.contracts.line.FdArgPartialEq.TheImpl as fd_eq
use Rattle.line_forms.specs.contracts.line.LinePartialEq.TheImpl as line_eq
use Rattle.line_forms.specs.contracts.line.PassArgPartialEq.TheImpl as pass_eq
use Rattle.line_forms.specs.contracts.line.PiecePartialEq.TheImpl as piece_eq
use Rattle.line_forms.specs.contracts.line.Line.{enum}

cond_exact : (a b : Cond) → Decides ((cond_eq.ghosts).eq a b) (a ≡ b)
cond_exact = search rules

pub fd_exact : (a b : FdArg) → Decides ((fd_eq.ghosts).eq a b) (a ≡ b)
fd_exact = search rules

pub piece_exact : (a b : Piece) → Decides ((piece_eq.ghosts).eq a b) (a ≡ b)
piece_exact = search rules

pub pass_exact : (a b : PassArg) → Decides ((pass_eq.ghosts).eq a b) (a ≡ b)
pass_exact = search rules

pieces_exact : (a b : List Piece) → Decides (pointwise (piece_eq.ghosts).eq a b) (a ≡ b)
pieces_exact = lists_exact piece_exact

passes_exact : (a b : List PassArg) → Decides (pointwise (pass_eq.ghosts).eq a b) (a ≡ b)
passes_exact = lists_exact pass_exact

fds_exact : (a b : List FdArg) → Decides (pointwise (fd_eq.ghosts).eq a b) (a ≡ b)
fds_exact = lists_exact fd_exact

-- the fields of each variant in turn
pub line_exact : (a b : Line) → Decides ((line_eq.ghosts).eq a b) (a ≡ b)
line_exact = enum_exact enum _ (
  field_exact bytes_exact (field_exact number_exact (field_exact number_exact (last_exact attrs_exact))),
  (
    field_exact bytes_exact (field_exact fd_exact (field_exact pieces_exact (field_exact passes_exact (last_exact number_exact)))),
    (
      field_exact pieces_exact (last_exact passes_exact),
      (
        none_exact,
        (
          last_exact fd_exact,
          (
            last_exact fd_exact,
            (
              none_exact,
              (
                last_exact fd_exact,
                (
                  none_exact,
                  (
                    field_exact fd_exact (last_exact param_exact),
                    (
                      field_exact fd_exact (field_exact param_exact (last_exact number_exact)),
                      (
                        none_exact,
                        (
                          none_exact,
                          (
                            none_exact,
                            (
                              last_exact fd_exact,
                              (
                                field_exact bytes_exact (last_exact fd_exact),
                                (
                                  field_exact fd_exact (last_exact path_exact),
                                  (
                                    last_exact path_exact,
                                    (
                                      field_exact bytes_exact (last_exact path_exact),
                                      (
                                        last_exact path_exact,
                                        (
                                          field_exact bytes_exact (last_exact bytes_exact),
                                          (
                                            field_exact fd_exact (last_exact pieces_exact),
                                            (
                                              field_exact bytes_exact (field_exact fd_exact (last_exact number_exact)),
                                              (
                                                last_exact bytes_exact,
                                                (
                                                  field_exact fd_exact (field_exact fd_exact (field_exact poll_exact (last_exact number_exact))),
                                                  (
                                                    field_exact fd_exact (last_exact fd_exact),
                                                    (
                                                      field_exact fd_exact (last_exact flag_exact),
                                                      (
                                                        field_exact fd_exact (field_exact number_exact (field_exact number_exact (last_exact flag_exact))),
                                                        (
                                                          field_exact fd_exact (field_exact number_exact (last_exact number_exact)),
                                                          (
                                                            field_exact number_exact (field_exact number_exact (last_exact fds_exact)),
                                                            (
                                                              field_exact fd_exact (field_exact mode_exact (field_exact number_exact (last_exact number_exact))),
                                                              (
                                                                field_exact fd_exact (last_exact number_exact),
                                                                (
                                                                  field_exact number_exact (field_exact number_exact (last_exact number_exact)),
                                                                  (
                                                                    last_exact number_exact,
                                                                    (
                                                                      last_exact number_exact,
                                                                      (
                                                                        last_exact thread_exact,
                                                                        (
                                                                          last_exact process_exact,
                                                                          (
                                                                            last_exact process_exact,
                                                                            (
                                                                              field_exact bytes_exact (field_exact op_exact (last_exact pieces_exact)),
                                                                              (
                                                                                field_exact bytes_exact (last_exact pieces_exact),
                                                                                (
                                                                                  last_exact number_exact,
                                                                                  (
                                                                                    last_exact cond_exact,
                                                                                    (none_exact, tt),
                                                                                  ),
                                                                                ),
                                                                              ),
                                                                            ),
                                                                          ),
                                                                        ),
                                                                      ),
                                                                    ),
                                                                  ),
                                                                ),
                                                              ),
                                                            ),
                                                          ),
                                                        ),
                                                      ),
                                                    ),
                                                  ),
                                                ),
                                              ),
                                            ),
                                          ),
                                        ),
                                      ),
                                    ),
                                  ),
                                ),
                              ),
                            ),
                          ),
                        ),
                      ),
                    ),
                  ),
                ),
              ),
            ),
          ),
        ),
      ),
    ),
  ),
)
