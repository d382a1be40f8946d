-- How many notices an event makes: no more than doors fall to one reference by it.
use Rattle.std.proofs.Common.{◌≡◌, ℕ, ◌+◌, ◌≤◌, List, [], ◌∷◌, length, refl, ap, ◌∙◌, arith}
use Rattle.std.proofs.lemmas.List.Sums.{count_by-le-length, length-filter}
use Rattle.dk_base.specs.declared.object.Item.TheVariants as item
use Rattle.spec_records.specs.Words.{AreNumbered, NoticeList, make_notice}
use Rattle.spec_kernel.specs.Types.{Item}
use Rattle.spec_kernel.specs.Words.{State, fail_returns, give_one, make_notices, now, settle}
use Rattle.spec_kernel.proofs.NoticeLists.{with_new_notices}
use Rattle.spec_kernel.proofs.Notices.{due_doors, notice_list-make_notices}
use Rattle.spec_kernel.proofs.Settling.{fail_returns-all, give_and_start-all}
use Rattle.kernel_core.specs.Watched.{fallen}
use Rattle.kernel_core.proofs.Acted.{made}
use Rattle.kernel_core.proofs.Due.{due_doors-fallen, may_have}

made-with : (list : NoticeList) (now : ℕ) (ds : List ℕ) → (with_new_notices list now ds).made ≡ list.made + length ds
made-with list now [] = omega arith
made-with list now (d ∷ ds) = let rest = made-with (make_notice list now d) now ds in omega (arith, rest)

made-given : (n : State) (i : Item) (u : ℕ) → made (give_one n i u) ≡ made n
made-given n (item.Call c) u = refl
made-given n (item.Notice k) u = refl

made-settle : (before m : State) → made (settle before m) ≡ made m + length (due_doors before m)
made-settle before m =
    let noticed = make_notices before m in
    give_and_start-all (λ n. made n ≡ made noticed) (λ n w x e h. made-given n w.item x.thread.0 ∙ h) (λ n t e h. h) before (fail_returns noticed)
    (fail_returns-all (λ n. made n ≡ made noticed) (λ n t e h. h) noticed refl)
    ∙ ap (λ (list : NoticeList). list.made) (notice_list-make_notices before m)
    ∙ made-with m.notice_list (now m) (due_doors before m)

pub made_few : (before m : State) → AreNumbered m.doors → length (fallen before m) ≤ 1280 → made (settle before m) ≤ made m + 1280
made_few before m numbered few =
    omega (
      arith,
      made-settle before m,
      ap length (due_doors-fallen before m numbered),
      length-filter (may_have m) (fallen before m),
      count_by-le-length (may_have m) (fallen before m),
      few,
    )
