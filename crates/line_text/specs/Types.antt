-- The types that the crates below declare, from one place, for the definitions here and above.
pub use Rattle.dk_base.specs.declared.answer.Answer.{Answer}
pub use Rattle.dk_base.specs.declared.error.Errno.{Errno}
pub use Rattle.dk_base.specs.declared.error.NoMemory.{NoMemory}
pub use Rattle.dk_base.specs.declared.number.Fd.{Fd}
pub use Rattle.dk_base.specs.declared.number.PathId.{PathId}
pub use Rattle.dk_base.specs.declared.number.Pid.{Pid}
pub use Rattle.dk_base.specs.declared.number.Tid.{Tid}
pub use Rattle.dk_base.specs.declared.object.Pass.{Pass}
pub use Rattle.dk_base.specs.declared.request.AlertMode.{AlertMode}
pub use Rattle.dk_base.specs.declared.request.Op.{Op}
pub use Rattle.dk_base.specs.declared.request.Param.{Param}
pub use Rattle.dk_base.specs.declared.set.Attrs.{Attrs}
pub use Rattle.dk_base.specs.declared.set.PollSet.{PollSet}
