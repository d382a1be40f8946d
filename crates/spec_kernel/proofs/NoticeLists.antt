-- Lists of notices: those that are made later stand behind, and of those that a kernel keeps what a look-up finds there, and what a
-- change gives. A test that only notices meet that are not past sees no difference.
use Rattle.std.proofs.Common.{◌≡◌, ℕ, ◌+◌, Bool, true, false, not, ◌==◌, ◌&&◌, List, [], ◌∷◌, ◌++◌, filter, refl, sym, true≢false, ap, ap₂, ◌∙◌, arith, append-nil, append_assoc}
use Rattle.std.proofs.lemmas.Bool.Decides.{nat_tests}
use Rattle.std.proofs.lemmas.List.Elements.{filter-append}
use Rattle.spec_records.proofs.KeptLists.{any-kept, change_first-kept, filter-kept, kept-kept, map-kept}
use Rattle.spec_kernel.specs.Types.{Door, Notice, NoticeStage}
use Rattle.spec_records.specs.declared.record.NoticeStage.TheVariants as notice
use Rattle.dk_base.specs.ByNumber.{at_number}
use Rattle.spec_records.specs.Words.{Leaving, NoticeList, change_first, end_notice, enter_notice, give_notice, has_many, has_notice, is_entered_stage, is_given_notice_as, is_given_stage, is_kept_notice, is_notice_entered_by, is_notice_of, is_past_stage, is_waiting_notice, is_waiting_notice_as, is_waiting_stage, kept_notices, left_notice, left_notice_at, left_notices, make_notice, new_notice, notice_at, tid}

-- notices that are made

-- one for each of these doors, in order
abbrev pub new_notices : ℕ → ℕ → List ℕ → List Notice
new_notices made now [] = []
new_notices made now (d ∷ ds) = new_notice (made + 1) now d ∷ new_notices (made + 1) now ds

abbrev pub with_new_notices : NoticeList → ℕ → List ℕ → NoticeList
with_new_notices list now [] = list
with_new_notices list now (d ∷ ds) = with_new_notices (make_notice list now d) now ds

pub with_new_notices-push :
    (list : NoticeList) (now : ℕ) (ds : List ℕ) (d : ℕ) →
    with_new_notices list now (ds ++ d ∷ []) ≡ make_notice (with_new_notices list now ds) now d
with_new_notices-push list now [] d = refl
with_new_notices-push list now (e ∷ es) d = with_new_notices-push (make_notice list now e) now es d

pub notices-with_new_notices :
    (list : NoticeList) (now : ℕ) (ds : List ℕ) →
    (with_new_notices list now ds).notices ≡ list.notices ++ new_notices list.made now ds
notices-with_new_notices list now [] = sym (append-nil list.notices)
notices-with_new_notices list now (d ∷ ds) =
    notices-with_new_notices (make_notice list now d) now ds
    ∙ append_assoc list.notices (new_notice (list.made + 1) now d ∷ []) (new_notices (list.made + 1) now ds)

-- which notices are kept

pub kept_where : (doors : List Door) (n : Notice) → is_past_stage n.stage ≡ false → is_kept_notice doors n ≡ true
kept_where doors n e = grind (arith, e)

pub kept_where_one : (doors : List Door) (n : Notice) → has_many (at_number doors n.door) ≡ false → is_kept_notice doors n ≡ true
kept_where_one doors n e = grind (arith, e)

pub not_kept : (doors : List Door) (n : Notice) → is_kept_notice doors n ≡ false → (is_past_stage n.stage ≡ true) × (has_many (at_number doors n.door) ≡ true)
not_kept doors n e = go (is_past_stage n.stage) (has_many (at_number doors n.door)) e
  where
    go : (b c : Bool) → not (b && c) ≡ false → (b ≡ true) × (c ≡ true)
    go true true e = (refl, refl)
    go true false e = absurd (true≢false e)
    go false c e = absurd (true≢false e)

-- doors may become such as can have many notices, but none ceases to be
abbrev pub KeepsMany : List Door → List Door → Type 0
KeepsMany doors later = (d : ℕ) → has_many (at_number doors d) ≡ true → has_many (at_number later d) ≡ true

pub keeps_many_same : (doors : List Door) → KeepsMany doors doors
keeps_many_same doors d e = e

pub not_kept-later :
    (doors later : List Door) → KeepsMany doors later → (n : Notice) → is_kept_notice doors n ≡ false → is_kept_notice later n ≡ false
not_kept-later doors later h n e =
    let k : (is_past_stage n.stage ≡ true) × (has_many (at_number doors n.door) ≡ true) = not_kept doors n e in
    ap₂ (λ b c. not (b && c)) k.0 (h n.door k.1)

-- tests that only notices meet that are not past

abbrev pub IsOfPresentNotices : (Notice → Bool) → Type 0
IsOfPresentNotices test = (n : Notice) → is_past_stage n.stage ≡ true → test n ≡ false

of_present :
    (test : NoticeStage → Bool) → test notice.Over ≡ false → test notice.Dropped ≡ false → (s : NoticeStage) → is_past_stage s ≡ true →
    test s ≡ false
of_present test over dropped notice.Over e = over
of_present test over dropped notice.Dropped e = dropped
of_present test over dropped notice.Waiting e = absurd (true≢false (sym e))
of_present test over dropped (notice.Given u) e = absurd (true≢false (sym e))
of_present test over dropped (notice.Entered u) e = absurd (true≢false (sym e))

pub waiting_is_present : IsOfPresentNotices is_waiting_notice
waiting_is_present n e = of_present is_waiting_stage refl refl n.stage e

pub waiting_as_is_present : (c : ℕ) → IsOfPresentNotices (is_waiting_notice_as c)
waiting_as_is_present c n e = grind (arith, of_present is_waiting_stage refl refl n.stage e)

pub given_notice_is_present : (c t : ℕ) → IsOfPresentNotices (is_given_notice_as c t)
given_notice_is_present c t n e = grind (arith, of_present (is_given_stage t) refl refl n.stage e)

pub entered_notice_is_present : (t : ℕ) → IsOfPresentNotices (is_notice_entered_by t)
entered_notice_is_present t n e = of_present (is_entered_stage t) refl refl n.stage e

-- a test of kept notices
abbrev pub IsOfKept : List Door → (Notice → Bool) → Type 0
IsOfKept doors test = (n : Notice) → is_kept_notice doors n ≡ false → test n ≡ false

pub present_is_kept : (doors : List Door) (test : Notice → Bool) → IsOfPresentNotices test → IsOfKept doors test
present_is_kept doors test h n e = h n (not_kept doors n e).0

-- what later doors keep, of what earlier ones kept
kept-later :
    (doors later : List Door) → KeepsMany doors later → (ns : List Notice) →
    filter (is_kept_notice later) (filter (is_kept_notice doors) ns) ≡ filter (is_kept_notice later) ns
kept-later doors later h ns = filter-kept (is_kept_notice doors) (is_kept_notice later) (not_kept-later doors later h) ns

-- a door that has at most one notice: whether it had it is the same
pub has_notice-kept :
    (doors : List Door) (list : NoticeList) (d : ℕ) → has_many (at_number doors d) ≡ false →
    has_notice (kept_notices doors list) d ≡ has_notice list d
has_notice-kept doors list d one = any-kept (is_kept_notice doors) (is_notice_of d) other list.notices
  where
    other : (n : Notice) → is_kept_notice doors n ≡ false → is_notice_of d n ≡ false
    other n e = at (n.door == d) refl
      where
        at : (b : Bool) → (n.door == d) ≡ b → b ≡ false
        at false f = refl
        at true f =
            let same : n.door ≡ d = grind (arith, nat_tests) in
            absurd (true≢false (sym (kept_where_one doors n (ap (λ k. has_many (at_number doors k)) same ∙ one)) ∙ e))

-- a past notice stays as it is
pub left_notice-past : (who : Leaving) (n : Notice) → is_past_stage n.stage ≡ true → left_notice who n ≡ n
left_notice-past who n e = go n.stage e
  where
    go : (s : NoticeStage) → is_past_stage s ≡ true → left_notice_at who s n ≡ n
    go notice.Over f = refl
    go notice.Dropped f = refl
    go notice.Waiting f = absurd (true≢false (sym f))
    go (notice.Given u) f = absurd (true≢false (sym f))
    go (notice.Entered u) f = absurd (true≢false (sym f))

-- arrows of notices

abbrev pub HaveSameKept : List Door → NoticeList → NoticeList → Type 0
HaveSameKept doors a b = kept_notices doors a ≡ kept_notices doors b

module _ (doors : List Door) (list : NoticeList) where
  change_in_list :
      (test : Notice → Bool) (change : Notice → Notice) → IsOfPresentNotices test →
      HaveSameKept doors
      (record list { notices = change_first test change (kept_notices doors list).notices })
      (record list { notices = change_first test change list.notices })
  change_in_list test change only =
      ap (λ ns. record list { notices = ns })
      (change_first-kept (is_kept_notice doors) test (present_is_kept doors test only) change list.notices)

  pub kept_notices-kept : HaveSameKept doors (kept_notices doors list) list
  kept_notices-kept = ap (λ ns. record list { notices = ns }) (kept-kept (is_kept_notice doors) list.notices)

  -- where doors changed since
  pub kept_notices-later : (later : List Door) → KeepsMany doors later → HaveSameKept later (kept_notices doors list) list
  kept_notices-later later h = ap (λ ns. record list { notices = ns }) (kept-later doors later h list.notices)

  -- what is made is kept
  pub make_notice-kept : (now d : ℕ) → kept_notices doors (make_notice list now d) ≡ make_notice (kept_notices doors list) now d
  make_notice-kept now d =
      ap (λ ns. record { made = list.made + 1; notices = ns })
      (filter-append (is_kept_notice doors) list.notices (new_notice (list.made + 1) now d ∷ []))

  pub give_notice-kept : (c u : ℕ) → HaveSameKept doors (give_notice (kept_notices doors list) c u) (give_notice list c u)
  give_notice-kept c u = change_in_list (is_waiting_notice_as c) (notice_at (notice.Given (tid u))) (waiting_as_is_present c)

  pub enter_notice-kept : (c t : ℕ) → HaveSameKept doors (enter_notice (kept_notices doors list) c t) (enter_notice list c t)
  enter_notice-kept c t = change_in_list (is_given_notice_as c t) (notice_at (notice.Entered (tid t))) (given_notice_is_present c t)

  pub end_notice-kept : (t : ℕ) → HaveSameKept doors (end_notice (kept_notices doors list) t) (end_notice list t)
  end_notice-kept t = change_in_list (is_notice_entered_by t) (notice_at notice.Over) (entered_notice_is_present t)

  pub left_notices-kept :
      (who : Leaving) (later : List Door) → KeepsMany doors later →
      HaveSameKept later (left_notices who (kept_notices doors list)) (left_notices who list)
  left_notices-kept who later h = ap (λ ns. record list { notices = ns }) (map-kept (is_kept_notice doors) (is_kept_notice later) (left_notice who) stays list.notices)
    where
      stays : (n : Notice) → is_kept_notice doors n ≡ false → is_kept_notice later (left_notice who n) ≡ false
      stays n e =
          ap (is_kept_notice later) (left_notice-past who n (not_kept doors n e).0)
          ∙ not_kept-later doors later h n e
