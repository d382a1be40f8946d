-- Associations of several rows end one row after the other.
use Rattle.std.specs.Prelude.{ℕ, ◌≡◌, ◌==◌, ◌&&◌, ◌||◌, List, [], ◌∷◌, Option, Bool, true, false, if◌then◌else◌, not, filter}
use Rattle.std.specs.List.{list_any}
use Rattle.std.proofs.Common.{refl, ap, ap₂, ◌∙◌}
use Rattle.std.proofs.lemmas.List.Elements.{filter_agree}
use Rattle.spec_kernel.specs.Types.{Fd, Request}
use Rattle.spec_records.specs.declared.association.Association.{Association}
use Rattle.spec_records.specs.Words.{Port, is_of_row, withdraw_events}
use Rattle.spec_kernel.specs.Words.{Channels, State}
use Rattle.law_channels.specs.Closed.{Closing, closed_rows, closes, is_acting, is_closed, is_descriptor}
use Rattle.law_channels.specs.Ended.{closing, ended_by, row_ended, rows_ended}
use Rattle.law_channels.proofs.Withdrawn.{filter-neither, withdraw-either}

-- those that pass a test end
abbrev pub ended_where : Channels → (Association → Bool) → Channels
ended_where c test =
    record c {
      ports = withdraw_events c.ports (filter test c.associations.associations);
      associations = record c.associations { associations = filter (λ a. not (test a)) c.associations.associations };
    }

abbrev pub is_ending : Closing → Association → Bool
is_ending closed a = is_closed closed a.key.process.0 a.key.fd

abbrev with_both : Channels → List Port → List Association → Channels
with_both c ports left = record c { ports = ports; associations = record c.associations { associations = left } }

same_test : (c : Channels) (p q : Association → Bool) → ((a : Association) → p a ≡ q a) → ended_where c p ≡ ended_where c q
same_test c p q h =
    ap₂ (λ (ends left : List Association). with_both c (withdraw_events c.ports ends) left)
    (filter_agree p q h c.associations.associations)
    (filter_agree (λ a. not (p a)) (λ a. not (q a)) (λ a. ap not (h a)) c.associations.associations)

either_test : (c : Channels) (p q : Association → Bool) → ended_where c (λ a. p a || q a) ≡ ended_where (ended_where c p) q
either_test c p q =
    ap₂ (with_both c) (withdraw-either p q c.ports c.associations.associations) (filter-neither p q c.associations.associations)

none_passes : (xs : List Association) → filter (λ a. false) xs ≡ []
none_passes [] = refl
none_passes (a ∷ xs) = none_passes xs

all_pass : (xs : List Association) → filter (λ a. not false) xs ≡ xs
all_pass [] = refl
all_pass (a ∷ xs) = ap (λ ys. a ∷ ys) (all_pass xs)

no_test : (c : Channels) → ended_where c (λ a. false) ≡ c
no_test c =
    ap₂ (λ (ends left : List Association). with_both c (withdraw_events c.ports ends) left)
    (none_passes c.associations.associations) (all_pass c.associations.associations)

-- of the first row or of another
first_or : (b c d : Bool) → b && (c || d) ≡ (b && c) || (b && d)
first_or true c d = refl
first_or false c d = refl

pub never : (b : Bool) → b && false ≡ false
never true = refl
never false = refl

pub always : (b : Bool) → b && true ≡ b
always true = refl
always false = refl

rows_end : (c : Channels) (p : ℕ) (fds : List Fd) → ended_where c (is_ending (Closing.rows p fds)) ≡ rows_ended c p fds
rows_end c p [] = same_test c (is_ending (Closing.rows p [])) (λ a. false) (λ a. never (a.key.process.0 == p)) ∙ no_test c
rows_end c p (fd ∷ fds) =
    same_test c (is_ending (Closing.rows p (fd ∷ fds))) (λ a. is_of_row p fd a || is_ending (Closing.rows p fds) a)
    (λ a. first_or (a.key.process.0 == p) (a.key.fd.0 == fd.0) (list_any (is_descriptor a.key.fd) fds))
    ∙ either_test c (is_of_row p fd) (is_ending (Closing.rows p fds))
    ∙ rows_end (row_ended c p fd) p fds

pub closing_ends : (c : Channels) (closed : Closing) → ended_where c (is_ending closed) ≡ ended_by c closed
closing_ends c Closing.nothing = no_test c
closing_ends c (Closing.rows p fds) = rows_end c p fds
closing_ends c (Closing.process p) = refl

-- what a turn closes, by itself and by a row
pub closes_is : (m : State) (t : ℕ) (q : Option Request) (p : ℕ) (fd : Fd) → closes m t q p fd ≡ is_closed (closing m t q) p fd
closes_is m t q p fd = go (is_acting m t q)
  where
    go : (b : Bool) → is_closed (closed_rows m t q) p fd && b ≡ is_closed (if b then closed_rows m t q else Closing.nothing) p fd
    go true = always (is_closed (closed_rows m t q) p fd)
    go false = never (is_closed (closed_rows m t q) p fd)
