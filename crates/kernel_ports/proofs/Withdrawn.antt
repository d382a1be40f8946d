-- What ends by its key is one association at most, and what that queued is all that is withdrawn.
use Rattle.std.proofs.Common.{◌≡◌, ℕ, List, [], Option, None, Some, Ok, filter, ok_or, refl, ap, ◌∙◌, arith}
use Rattle.std.specs.List.{cons_option}
use Rattle.std.proofs.lemmas.Bool.Decides.{nat_tests}
use Rattle.dk_base.specs.declared.error.Errno.{Errno}
use Rattle.spec_records.specs.declared.association.AssocKey.{AssocKey}
use Rattle.spec_records.specs.declared.association.Association.{Association}
use Rattle.spec_records.specs.Words.{AssociationList, Port, association_at, has_key, number_in, withdraw_event, withdraw_events}
use Rattle.spec_records.proofs.NumberedLists.{find-passes}
use Rattle.port_assoc.specs.Words.{IsAlone}

abbrev pub withdraw_at : List Port → ℕ → Option ℕ → List Port
withdraw_at ports q None = ports
withdraw_at ports q (Some n) = withdraw_event ports q n

-- a number that is told is one that is there
pub some_number : (o : Option ℕ) (error : Errno) (n : ℕ) → Ok n ≡ ok_or o error → Some n ≡ o
some_number None error n e = cc
some_number (Some m) error n e = let same : n ≡ m = cc in ap Some same

pub withdrawn : (ports : List Port) (list : AssociationList) (key : AssocKey) → IsAlone list key →
    withdraw_events ports (filter (has_key key) list.associations) ≡ withdraw_at ports key.port (number_in (association_at list.associations key))
withdrawn ports list key alone = ap (withdraw_events ports) alone ∙ go (association_at list.associations key) refl
  where
    go : (o : Option Association) → association_at list.associations key ≡ o → withdraw_events ports (cons_option o []) ≡ withdraw_at ports key.port (number_in o)
    go None e = refl
    go (Some a) e =
        let of_key = find-passes (has_key key) list.associations a e in
        let same : a.key.port ≡ key.port = grind (arith, nat_tests) in
        ap (λ q. withdraw_event ports q a.number) same
