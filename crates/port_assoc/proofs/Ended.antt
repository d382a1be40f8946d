-- The list of associations as some end.
use Rattle.std.proofs.Common.{◌≡◌, None, Some, filter, sym, ◌∙◌}
use Rattle.spec_records.specs.declared.association.AssocKey.{AssocKey}
use Rattle.spec_records.specs.declared.association.Association.{Association}
use Rattle.spec_records.specs.Words.{AssociationList, association_at, dissociate, has_key, has_other_key}
use Rattle.port_assoc.specs.Lists.{without_first}
use Rattle.port_assoc.specs.Table.{HaveDistinctKeys}
use Rattle.port_assoc.proofs.Apart.{all_of_key, left_by_key}
use Rattle.port_assoc.proofs.Lists.{others-alone}

pub nothing_ends : (list : AssociationList) (key : AssocKey) → association_at list.associations key ≡ None → list ≡ dissociate list key
nothing_ends list key h = λ i. record { made = list.made; associations = sym (others-alone (has_key key) list.associations h) i }

pub ended_list :
    (old new : AssociationList) (key : AssocKey) (a : Association) → new.made ≡ old.made →
    new.associations ≡ without_first (has_key a.key) old.associations → HaveDistinctKeys old.associations → association_at old.associations key ≡ Some a →
    new ≡ dissociate old key
ended_list old new key a made left apart found =
    let rest : new.associations ≡ filter (has_other_key key) old.associations =
    left ∙ left_by_key (has_key key) old.associations a apart found ∙ all_of_key key old.associations apart in
    λ i. record { made = made i; associations = rest i }
