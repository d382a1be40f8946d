-- The list of notices: which of them wait in a pool, that their numbers go up, and that those are kept that rules ask for again.
use Rattle.std.proofs.Common.{◌≡◌, ℕ, zero, suc, ◌&&◌, Bool, true, false, not, if◌then◌else◌, List, [], ◌∷◌, ◌++◌, Some, map, filter, slice_get, refl, ap, ap₂, ◌∙◌}
use Rattle.dk_base.specs.ByNumber.{at_number}
use Rattle.spec_records.specs.Words.{change_first, has_many, is_kept_notice, is_past_stage, is_pool, pool_in, waiting_notice}
use Rattle.spec_records.proofs.KeptLists.{filter-kept}
use Rattle.spec_kernel.specs.Types.{Door, Notice, Pool}
use Rattle.spec_kernel.proofs.NoticeLists.{present_is_kept, waiting_is_present}
use Rattle.law_pools.specs.Words.{AreKept, is_waiting_notice_in, notices_waiting_in}

-- what waits in a pool

-- notices that wait are kept
pub waiting_kept :
    (doors : List Door) (ns : List Notice) (pool : Pool) →
    notices_waiting_in doors (filter (is_kept_notice doors) ns) pool ≡ notices_waiting_in doors ns pool
waiting_kept doors ns pool =
    ap (map waiting_notice)
    (filter-kept (is_kept_notice doors) (is_waiting_notice_in doors pool)
    (present_is_kept doors (is_waiting_notice_in doors pool)
    (λ n e. ap (λ b. b && is_pool pool (pool_in (at_number doors n.door))) (waiting_is_present n e))) ns)

-- kept notices

pub kept_push : (doors : List Door) (ns : List Notice) (n : Notice) → is_kept_notice doors n ≡ true → AreKept doors ns → AreKept doors (ns ++ n ∷ [])
kept_push doors [] n e h = (e, tt)
kept_push doors (x ∷ xs) n e h = (h.0, kept_push doors xs n e h.1)

pub kept_filter : (doors : List Door) (ns : List Notice) → AreKept doors (filter (is_kept_notice doors) ns)
kept_filter doors [] = tt
kept_filter doors (n ∷ ns) = go (is_kept_notice doors n) refl (kept_filter doors ns)
  where
    go :
        (b : Bool) → is_kept_notice doors n ≡ b → AreKept doors (filter (is_kept_notice doors) ns) →
        AreKept doors (if b then n ∷ filter (is_kept_notice doors) ns else filter (is_kept_notice doors) ns)
    go true e rest = (e, rest)
    go false e rest = rest

-- where all are kept, keeping them changes nothing
pub all_kept : (doors : List Door) (ns : List Notice) → AreKept doors ns → filter (is_kept_notice doors) ns ≡ ns
all_kept doors [] h = refl
all_kept doors (n ∷ ns) h =
    ap₂ (λ b xs. if b then n ∷ xs else xs) h.0 (all_kept doors ns h.1)

-- with other doors, of which those of the notices take as many
pub kept_doors :
    (doors others : List Door) (ns : List Notice) →
    ((i : ℕ) (n : Notice) → slice_get ns i ≡ Some n → has_many (at_number others n.door) ≡ has_many (at_number doors n.door)) → AreKept doors ns →
    AreKept others ns
kept_doors doors others [] same h = tt
kept_doors doors others (n ∷ ns) same h =
    (ap (λ b. not (is_past_stage n.stage && b)) (same zero n refl) ∙ h.0, kept_doors doors others ns (λ i x e. same (suc i) x e) h.1)

-- the first notice that meets a test, changed

module _ (test : Notice → Bool) (change : Notice → Notice) where
  pub kept_changed :
      (doors : List Door) → ((n : Notice) → is_kept_notice doors (change n) ≡ true) → (ns : List Notice) → AreKept doors ns →
      AreKept doors (change_first test change ns)
  kept_changed doors keeps [] h = h
  kept_changed doors keeps (n ∷ ns) h = go (test n) (kept_changed doors keeps ns h.1)
    where
      go :
          (b : Bool) → AreKept doors (change_first test change ns) →
          AreKept doors (if b then change n ∷ ns else n ∷ change_first test change ns)
      go true rest = (keeps n, h.1)
      go false rest = (h.0, rest)
