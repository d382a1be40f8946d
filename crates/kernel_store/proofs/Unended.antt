-- Rows that close, by which no association ends: as many are left as there were, so all is as it was.
use Rattle.std.proofs.Common.{◌≡◌, ℕ, ◌≤◌, Bool, true, false, if◌then◌else◌, List, [], ◌∷◌, Option, filter, length, not, refl, sym, ap, ap₂, ◌∙◌, arith}
use Rattle.std.proofs.lemmas.List.Filters.{length-filter_both}
use Rattle.law_channels.specs.Closed.{Closing}
use Rattle.law_channels.specs.Ended.{ended_by, process_ended, row_ended, rows_ended}
use Rattle.spec_records.specs.declared.association.Association.{Association}
use Rattle.spec_records.specs.Words.{is_of_process, is_of_row, withdraw_events}
use Rattle.kernel_store.specs.declared.told.ClosedRows.{ClosedRows}
use Rattle.kernel_store.specs.declared.told.ClosedRows.TheVariants as closed
use Rattle.kernel_store.specs.Telling.{ended_in, is_empty_in}
use Rattle.spec_kernel.specs.Types.{Fd, Obj}
use Rattle.spec_kernel.specs.Words.{Channels}

abbrev pub count : Channels → ℕ
count c = length c.associations.associations

at_most : (f : Association → Bool) (xs : List Association) → length (filter (λ a. not (f a)) xs) ≤ length xs
at_most f xs = omega (arith, length-filter_both f (λ a. not (f a)) (λ a. refl) xs)

kept :
    (f : Association → Bool) (xs : List Association) → length (filter (λ a. not (f a)) xs) ≡ length xs →
    (filter (λ a. not (f a)) xs ≡ xs) × (filter f xs ≡ [])
kept f [] e = (refl, refl)
kept f (x ∷ xs) e = go (f x) (λ g. kept f xs g) e
  where
    go :
        (b : Bool) → (length (filter (λ a. not (f a)) xs) ≡ length xs → (filter (λ a. not (f a)) xs ≡ xs) × (filter f xs ≡ [])) →
        length (if not b then x ∷ filter (λ a. not (f a)) xs else filter (λ a. not (f a)) xs) ≡ length (x ∷ xs) →
        ((if not b then x ∷ filter (λ a. not (f a)) xs else filter (λ a. not (f a)) xs) ≡ x ∷ xs) × ((if b then x ∷ filter f xs else filter f xs) ≡ [])
    go true rest g = absurd (omega (arith, g, at_most f xs))
    go false rest g = let h = rest (omega (arith, g)) in (ap (λ ys. x ∷ ys) h.0, h.1)

abbrev without : Channels → List Association → List Association → Channels
without c left ended = record c { ports = withdraw_events c.ports ended; associations = record c.associations { associations = left } }

row_kept : (c : Channels) (p : ℕ) (fd : Fd) → count (row_ended c p fd) ≡ count c → row_ended c p fd ≡ c
row_kept c p fd e = let h = kept (is_of_row p fd) c.associations.associations e in ap₂ (without c) h.0 h.1

process_kept : (c : Channels) (p : ℕ) → count (process_ended c p) ≡ count c → process_ended c p ≡ c
process_kept c p e = let h = kept (is_of_process p) c.associations.associations e in ap₂ (without c) h.0 h.1

fewer : (c : Channels) (p : ℕ) (fds : List Fd) → count (rows_ended c p fds) ≤ count c
fewer c p [] = omega arith
fewer c p (fd ∷ fds) =
    let rest = fewer (row_ended c p fd) p fds in
    let one = at_most (is_of_row p fd) c.associations.associations in
    omega (arith, rest, one)

rows_kept : (c : Channels) (p : ℕ) (fds : List Fd) → count (rows_ended c p fds) ≡ count c → rows_ended c p fds ≡ c
rows_kept c p [] e = refl
rows_kept c p (fd ∷ fds) e =
    let rest = fewer (row_ended c p fd) p fds in
    let one = at_most (is_of_row p fd) c.associations.associations in
    let same : count (row_ended c p fd) ≡ count c = omega (arith, rest, one, e) in
    rows_kept (row_ended c p fd) p fds (e ∙ sym same) ∙ row_kept c p fd same

pub none_ended :
    (tables : List (List (Option Obj))) (c : Channels) (x : ClosedRows) → count (ended_in tables c x) ≡ count c → ended_in tables c x ≡ c
none_ended tables c closed.Nothing e = refl
none_ended tables c (closed.Row p fd) e = rows_kept c p.0 (filter (is_empty_in tables p.0) (fd ∷ [])) e
none_ended tables c (closed.Rows p fds) e = rows_kept c p.0 (filter (is_empty_in tables p.0) fds.items) e
none_ended tables c (closed.Process p) e = process_kept c p.0 e

-- nor does a timer end by closed rows

rows_untimed : (c : Channels) (p : ℕ) (fds : List Fd) → (rows_ended c p fds).timers ≡ c.timers
rows_untimed c p [] = refl
rows_untimed c p (fd ∷ fds) = rows_untimed (row_ended c p fd) p fds

pub untimed : (c : Channels) (x : Closing) → (ended_by c x).timers ≡ c.timers
untimed c Closing.nothing = refl
untimed c (Closing.rows p fds) = rows_untimed c p fds
untimed c (Closing.process p) = refl
