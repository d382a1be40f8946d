use Rattle.std.proofs.Common.{◌≡◌, ℕ, ◌≤◌, ◌||◌, All, drop, length, take, true}
use Rattle.std.specs.List.{list_any}
use Rattle.dk_base.specs.declared.object.Obj.{Obj}
use Rattle.spec_records.specs.declared.association.Association.{Association}
use Rattle.spec_records.specs.Words.{is_object, ready_object}
use Rattle.kernel_ports.specs.Words.{IsSaid, is_watched_among}
use Rattle.kernel_ports.proofs.Others.{is_other_of}
use Rattle.kernel_ports.proofs.listing.list_others.Given as goal

abbrev pub invariant-loop-object : goal.invariant-loop-object
invariant-loop-object l = record {
  said : (refs : Obj → ℕ) → ((o : Obj) → list_any (is_object o) l.gone ≡ true → refs o ≡ 0) → All (IsSaid (ready_object l.pipes.items refs)) l.initial.into.items → All (IsSaid (ready_object l.pipes.items refs)) l.into.items;
  watched : (a : Association) → is_watched_among l.into.items a ≡ (is_watched_among l.initial.into.items a || list_any (is_other_of a.object) (take l.object-index l.gone));
  spare : length (drop l.object-index l.gone) ≤ l.into.spare;
}
