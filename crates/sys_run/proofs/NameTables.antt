-- Lists of name tables, of which each stands for the lines of its process.
use Rattle.std.proofs.Common.{◌≡◌, ◌⊎◌, Bool, ℕ, ◌+◌, ◌<◌, ◌≤◌, List, [], ◌∷◌, ◌++◌, length, Some, true, false, inl, inr, arith, refl, sym, ap, subst, ◌∙◌, zero, suc, append-nil, eq-eqb}
use Rattle.std.specs.Prelude.{◌==◌, filter, map, slice_get, slice_set}
use Rattle.std.proofs.lemmas.Bool.Decides.{nat_tests}
use Rattle.std.proofs.lemmas.List.{map-append}
use Rattle.std.proofs.lemmas.List.Elements.{filter-append}
use Rattle.ncd_app.specs.Words.{NcdValue, StandsFor, reply}
use Rattle.spec_events.specs.Words.{AskedLine, cache_reply, is_asked_by, line_asked, lines_of_process}
use Rattle.sys_run.specs.NameTables.{AllTablesStandFrom}

abbrev pub asked_line : ℕ → List ℕ → AskedLine
asked_line p line = record { process = p; line = line }

-- a line of a process stands last among its lines
lines-own :
    (asked : List AskedLine) (p : ℕ) (line : List ℕ) →
    lines_of_process p (asked ++ asked_line p line ∷ []) ≡ lines_of_process p asked ++ line ∷ []
lines-own asked p line =
    let own : (p == p) ≡ true = eq-eqb p p refl
    in ap (map line_asked) (filter-append (is_asked_by p) asked (asked_line p line ∷ []) ∙ rw own refl)
    ∙ map-append line_asked (filter (is_asked_by p) asked) (asked_line p line ∷ [])

-- and is none of another's
lines-other :
    (asked : List AskedLine) (p q : ℕ) (line : List ℕ) → (p == q) ≡ false →
    lines_of_process q (asked ++ asked_line p line ∷ []) ≡ lines_of_process q asked
lines-other asked p q line other =
    ap (map line_asked) (filter-append (is_asked_by q) asked (asked_line p line ∷ []) ∙ rw other (append-nil (filter (is_asked_by q) asked)))

other-process : (p q : ℕ) → (p < q) ⊎ (q < p) → (p == q) ≡ false
other-process p q h = grind (arith, nat_tests)

-- no more lines than were asked
pub few-lines : (asked : List AskedLine) (p : ℕ) → length (lines_of_process p asked) ≤ length asked
few-lines [] p = omega arith
few-lines (x ∷ asked) p = by_owner (is_asked_by p x) refl (few-lines asked p)
  where
    by_owner :
        (b : Bool) → is_asked_by p x ≡ b → length (lines_of_process p asked) ≤ length asked →
        length (lines_of_process p (x ∷ asked)) ≤ suc (length asked)
    by_owner true e rest = rw e (omega arith)
    by_owner false e rest = rw e (omega arith)

-- the table of a process
pub table-stands :
    (asked : List AskedLine) (ns : List NcdValue) (q k : ℕ) (n : NcdValue) →
    AllTablesStandFrom asked q ns → slice_get ns k ≡ Some n → StandsFor n (lines_of_process (q + k) asked)
table-stands asked [] q k n h e = cc
table-stands asked (y ∷ ys) q zero n h e =
    let here : q + 0 ≡ q = omega arith
    in let same : y ≡ n = cc
    in rw here (subst (λ z. StandsFor z (lines_of_process q asked)) same h.0)
table-stands asked (y ∷ ys) q (suc k) n h e =
    let next : q + suc k ≡ suc q + k = omega arith in rw next (table-stands asked ys (suc q) k n h.1 e)

-- one table more, where no line was asked
pub AllTablesStandFrom_push :
    (ns : List NcdValue) (n : NcdValue) (q : ℕ) → AllTablesStandFrom [] q ns → StandsFor n [] → AllTablesStandFrom [] q (ns ++ n ∷ [])
AllTablesStandFrom_push [] n q h stands = (stands, tt)
AllTablesStandFrom_push (y ∷ ys) n q h stands = (h.0, AllTablesStandFrom_push ys n (suc q) h.1 stands)

-- a line of a process before these leaves them as they are
tables-others :
    (asked : List AskedLine) (p q : ℕ) (line : List ℕ) (ns : List NcdValue) →
    AllTablesStandFrom asked q ns → p < q → AllTablesStandFrom (asked ++ asked_line p line ∷ []) q ns
tables-others asked p q line [] h before = tt
tables-others asked p q line (y ∷ ys) h before = (
  subst (StandsFor y) (sym (lines-other asked p q line (other-process p q (inl before)))) h.0,
  tables-others asked p (suc q) line ys h.1 (omega arith),
)

-- the table of process q + k replied to a line of it
pub tables-replied :
    (asked : List AskedLine) (line : List ℕ) (ns : List NcdValue) (q k : ℕ) (n : NcdValue) →
    AllTablesStandFrom asked q ns → StandsFor n (lines_of_process (q + k) asked ++ line ∷ []) →
    AllTablesStandFrom (asked ++ asked_line (q + k) line ∷ []) q (slice_set ns k n)
tables-replied asked line [] q k n h new = tt
tables-replied asked line (y ∷ ys) q zero n h new =
    let here : q + 0 ≡ q = omega arith
    in subst
    (λ r. AllTablesStandFrom (asked ++ asked_line r line ∷ []) q (n ∷ ys))
    (sym here) (
      subst (StandsFor n) (sym (lines-own asked q line)) (subst (λ r. StandsFor n (lines_of_process r asked ++ line ∷ [])) here new),
      tables-others asked q (suc q) line ys h.1 (omega arith),
    )
tables-replied asked line (y ∷ ys) q (suc k) n h new =
    let next : q + suc k ≡ suc q + k = omega arith
    in (
      subst (StandsFor y) (sym (lines-other asked (q + suc k) q line (other-process (q + suc k) q (inr (omega arith))))) h.0,
      subst
          (λ r. AllTablesStandFrom (asked ++ asked_line r line ∷ []) (suc q) (slice_set ys k n))
          (sym next)
          (tables-replied asked line ys (suc q) k n h.1 (subst (λ r. StandsFor n (lines_of_process r asked ++ line ∷ [])) next new)),
    )

-- what is replied to a line of a process
pub cache_reply-is : (asked : List AskedLine) (p : ℕ) (line : List ℕ) → cache_reply asked p line ≡ reply (lines_of_process p asked) line
unfolding cache_reply
cache_reply-is asked p line = refl
