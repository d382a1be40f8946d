-- Associations as a map keeps them.
use Rattle.std.specs.Prelude.{◌≡◌, ◌==◌, ◌&&◌, ℕ, Bool, List, [], ◌∷◌, None, map, nat_lt, not}
use Rattle.dk_base.specs.declared.number.Fd.{Fd}
use Rattle.spec_records.specs.declared.association.Association.{Association}
use Rattle.spec_records.specs.Words.{association_at}
use Rattle.port_assoc.specs.declared.key.Key.{Key}
use Rattle.port_assoc.specs.declared.watch.Watch.{Watch}
use Rattle.port_assoc.specs.Keys.{association_key}

-- a key with what is kept under it, as an association
abbrev pub association_of : Key → Watch → Association
association_of k w = record { number = w.number; key = association_key k; object = w.object; events = w.events; user = w.user; armed = w.armed }

abbrev pub association_in : Key × Watch → Association
association_in e = association_of e.0 e.1

abbrev pub associations_in : List (Key × Watch) → List Association
associations_in es = map association_in es

-- what a search looks at

abbrev pub is_key_of_row : ℕ → Fd → Key → Bool
is_key_of_row process fd k = (k.process == process) && (k.fd == fd.0)

abbrev pub is_key_of_other_process : ℕ → Key → Bool
is_key_of_other_process process k = not (k.process == process)

abbrev pub is_entry_below : ℕ → Key × Watch → Bool
is_entry_below n e = nat_lt e.1.number n

abbrev pub is_armed_entry : ℕ → Key × Watch → Bool
is_armed_entry port e = e.1.armed && (e.0.port == port)

-- no port has two associations with one descriptor of a process
abbrev pub HaveDistinctKeys : List Association → Type 0
HaveDistinctKeys [] = Unit {0}
HaveDistinctKeys (x ∷ xs) = (association_at xs x.key ≡ None) × HaveDistinctKeys xs
