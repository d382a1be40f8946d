-- That `==` of numbers, flags, sets and lists of bytes holds of equal ones alone.
use Rattle.std.specs.Prelude.{◌≡◌, Bool, ℕ, List, nat_eq}
use Rattle.std.specs.Bool.{Decides}
use Rattle.std.specs.Cmp.{unsigned_Decides}
use Rattle.std.specs.Cmp.Lexicographic.{pointwise}
use Rattle.std.specs.contracts.prelude.BoolPartialEq.TheImpl as flag_eq
use Rattle.std.proofs.Common.{rules}
use Rattle.dk_base.specs.Exact.{lists_exact}
use Rattle.dk_base.specs.declared.number.PathId.{PathId}
use Rattle.dk_base.specs.declared.number.Pid.{Pid}
use Rattle.dk_base.specs.declared.number.Tid.{Tid}
use Rattle.dk_base.specs.declared.request.AlertMode.{AlertMode}
use Rattle.dk_base.specs.declared.request.Op.{Op}
use Rattle.dk_base.specs.declared.request.Param.{Param}
use Rattle.dk_base.specs.declared.set.Attrs.{Attrs}
use Rattle.dk_base.specs.declared.set.PollSet.{PollSet}
use Rattle.dk_base.specs.contracts.number.PathIdPartialEq.TheImpl as path_eq
use Rattle.dk_base.specs.contracts.number.PidPartialEq.TheImpl as process_eq
use Rattle.dk_base.specs.contracts.number.TidPartialEq.TheImpl as thread_eq
use Rattle.dk_base.specs.contracts.request.AlertModePartialEq.TheImpl as mode_eq
use Rattle.dk_base.specs.contracts.request.OpPartialEq.TheImpl as op_eq
use Rattle.dk_base.specs.contracts.request.ParamPartialEq.TheImpl as param_eq
use Rattle.dk_base.specs.contracts.set.AttrsPartialEq.TheImpl as attrs_eq
use Rattle.dk_base.specs.contracts.set.PollSetPartialEq.TheImpl as poll_eq

pub number_exact : (a b : ℕ) → Decides (nat_eq a b) (a ≡ b)
number_exact = unsigned_Decides

pub bytes_exact : (a b : List ℕ) → Decides (pointwise nat_eq a b) (a ≡ b)
bytes_exact = lists_exact number_exact

pub flag_exact : (a b : Bool) → Decides ((flag_eq.ghosts).eq a b) (a ≡ b)
flag_exact = search rules

pub path_exact : (a b : PathId) → Decides ((path_eq.ghosts).eq a b) (a ≡ b)
path_exact = search rules

pub process_exact : (a b : Pid) → Decides ((process_eq.ghosts).eq a b) (a ≡ b)
process_exact = search rules

pub thread_exact : (a b : Tid) → Decides ((thread_eq.ghosts).eq a b) (a ≡ b)
thread_exact = search rules

pub mode_exact : (a b : AlertMode) → Decides ((mode_eq.ghosts).eq a b) (a ≡ b)
mode_exact = search rules

pub op_exact : (a b : Op) → Decides ((op_eq.ghosts).eq a b) (a ≡ b)
op_exact = search rules

pub param_exact : (a b : Param) → Decides ((param_eq.ghosts).eq a b) (a ≡ b)
param_exact = search rules

pub attrs_exact : (a b : Attrs) → Decides ((attrs_eq.ghosts).eq a b) (a ≡ b)
attrs_exact = search rules

pub poll_exact : (a b : PollSet) → Decides ((poll_eq.ghosts).eq a b) (a ≡ b)
poll_exact = search rules
