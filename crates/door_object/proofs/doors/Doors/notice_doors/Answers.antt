use Rattle.std.proofs.Common.{◌∙◌, ap}
use Rattle.spec_records.specs.Words.{notice_doors}
use Rattle.door_object.proofs.AsMade.{notice_doors-as_made}
use Rattle.door_object.proofs.doors.Doors.notice_doors.Goals as goal

pub returns : goal.returns
returns c = c.as_slice.ensures.value ∙ c.self.invariant.notices ∙ notice_doors-as_made c.self.inside.doors.items ∙ ap (λ v. notice_doors v.items) c.self.view_is
