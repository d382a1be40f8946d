-- Of notices that are all kept, one is over: it is taken out, or stays where it was.
use Rattle.std.proofs.Common.{◌≡◌, ℕ, zero, suc, ◌<◌, ◌≤◌, Bool, true, false, List, [], ◌∷◌, Some, length, drop, filter, get_or, remove, set, cond, refl, sym, ap, ◌∙◌, arith, position}
use Rattle.std.proofs.lemmas.List.Quantifiers.{position-Some}
use Rattle.spec_records.specs.declared.record.Door.{Door}
use Rattle.spec_records.specs.declared.record.Notice.{Notice}
use Rattle.spec_records.specs.Words.{NoticeList, change_first, is_kept_notice, kept_notices}
use Rattle.spec_records.proofs.Places.{changed_at}

abbrev pub AreKept : (Notice → Bool) → List Notice → Type 0
AreKept kept [] = Unit {0}
AreKept kept (n ∷ ns) = (kept n ≡ true) × AreKept kept ns

fewer : (kept : Notice → Bool) (ns : List Notice) → length (filter kept ns) ≤ length ns
fewer kept [] = omega arith
fewer kept (n ∷ ns) =
    let h = fewer kept ns in
    elim (kept n) as (λ b. length (cond b (n ∷ filter kept ns) (filter kept ns)) ≤ suc (length ns)) [ true ↦ omega (arith, h) | false ↦ omega (arith, h) ]

pub are_kept : (kept : Notice → Bool) (ns : List Notice) → filter kept ns ≡ ns → AreKept kept ns
are_kept kept [] e = tt
are_kept kept (n ∷ ns) e =
    elim (kept n) as (λ b. kept n ≡ b → cond b (n ∷ filter kept ns) (filter kept ns) ≡ n ∷ ns → AreKept kept (n ∷ ns)) [
      | true ↦ λ k z. (k, are_kept kept ns (ap (drop 1) z))
      | false ↦ λ k z. let h = fewer kept ns in let l = ap length z in absurd (omega (arith, h, l))
    ] refl e

kept_same : (kept : Notice → Bool) (ns : List Notice) → AreKept kept ns → filter kept ns ≡ ns
kept_same kept [] h = refl
kept_same kept (n ∷ ns) h = ap (λ b. cond b (n ∷ filter kept ns) (filter kept ns)) h.0 ∙ ap (λ ms. n ∷ ms) (kept_same kept ns h.1)

set_kept : (kept : Notice → Bool) (ns : List Notice) (i : ℕ) (n : Notice) → AreKept kept ns → kept n ≡ true → AreKept kept (set ns i n)
set_kept kept [] i n h e = tt
set_kept kept (m ∷ ms) zero n h e = (e, h.1)
set_kept kept (m ∷ ms) (suc i) n h e = (h.0, set_kept kept ms i n h.1 e)

set_removed : (kept : Notice → Bool) (ns : List Notice) (i : ℕ) (n : Notice) → AreKept kept ns → i < length ns → kept n ≡ false → filter kept (set ns i n) ≡ remove ns i
set_removed kept [] i n h l e = absurd (omega arith)
set_removed kept (m ∷ ms) zero n h l e = ap (λ b. cond b (n ∷ filter kept ms) (filter kept ms)) e ∙ kept_same kept ms h.1
set_removed kept (m ∷ ms) (suc i) n h l e =
    ap (λ b. cond b (m ∷ filter kept (set ms i n)) (filter kept (set ms i n))) h.0
    ∙ ap (λ ns. m ∷ ns) (set_removed kept ms i n h.1 (omega arith) e)

pub removed_there :
    (kept test : Notice → Bool) (change : Notice → Notice) (ns : List Notice) (i : ℕ) (d : Notice) → filter kept ns ≡ ns →
    position test ns ≡ Some i → kept (change (get_or ns i d)) ≡ false → remove ns i ≡ filter kept (change_first test change ns)
removed_there kept test change ns i d h e over =
    let w = position-Some test ns i d e in
    sym (ap (filter kept) (changed_at test change ns i d e) ∙ set_removed kept ns i (change (get_or ns i d)) (are_kept kept ns h) w.0 over)

pub stays_there :
    (kept test : Notice → Bool) (change : Notice → Notice) (ns : List Notice) (i : ℕ) (d : Notice) → filter kept ns ≡ ns →
    position test ns ≡ Some i → kept (change (get_or ns i d)) ≡ true →
    set ns i (change (get_or ns i d)) ≡ filter kept (change_first test change ns)
stays_there kept test change ns i d h e over =
    sym (ap (filter kept) (changed_at test change ns i d e) ∙ kept_same kept (set ns i (change (get_or ns i d))) (set_kept kept ns i (change (get_or ns i d)) (are_kept kept ns h) over))

pub kept_inside : (doors : List Door) (list : NoticeList) (ns : List Notice) → ns ≡ list.notices → kept_notices doors list ≡ list → filter (is_kept_notice doors) ns ≡ ns
kept_inside doors list ns e kept = ap (filter (is_kept_notice doors)) e ∙ ap (λ (l : NoticeList). l.notices) kept ∙ sym e
