-- What holds of associations and of what they have queued, at every moment of an event.
use Rattle.std.specs.Prelude.{ℕ, ◌≡◌, ◌≤◌, Bool, ◌==◌, ◌&&◌, not, List, length, count_by, All}
use Rattle.spec_records.specs.declared.association.Association.{Association}
use Rattle.spec_records.specs.Words.{AssociationList, IsAscending, Port, association_number, is_event_of, port_of}

-- an association of this number that has queued its event at this port
abbrev pub is_queued_at : ℕ → ℕ → Association → Bool
is_queued_at n q a = (a.number == n) && ((a.key.port == q) && not a.armed)

-- it is of a port that was made
abbrev pub IsOfPort : ℕ → Association → Type 0
IsOfPort made a = (1 ≤ a.key.port) × (a.key.port ≤ made)

pub record AreAssociations (ports : List Port) (list : AssociationList) : Type 0 where
  -- no number is used twice
  pub in_order : IsAscending association_number 0 list.made list.associations
  pub of_ports : All (IsOfPort (length ports)) list.associations
  -- of each number one event is queued, at the port of an association of this number that is not armed, or else none
  pub queued : (n q : ℕ) → count_by (is_event_of n) (port_of ports q).queue ≡ count_by (is_queued_at n q) list.associations
