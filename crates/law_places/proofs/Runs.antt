-- What is known of each place of a run, from its opening state on.
use Rattle.std.specs.Prelude.{ℕ, ◌≡◌, ◌+◌, ◌≤◌, List, None, find, length, Option, unwrap_or, [], Some, slice_get}
use Rattle.std.proofs.Common.{sym, ap, subst, ◌∙◌, refl}
use native.Mathlib.Omega.{arith}
use Rattle.std.proofs.lemmas.Bool.Decides.{nat_tests}
use Rattle.std.proofs.lemmas.Option.{slice_get_within}
use Rattle.dk_base.specs.ByNumber.{at_number}
use Rattle.spec_records.specs.Words.{NoticeList, table_in}
use Rattle.spec_kernel.specs.Words.{IsOpening, IsRun, State, Turn, door_of, state_at}
use Rattle.spec_kernel.proofs.Opening.{bound_of-opening, opened, opening_table}
use Rattle.spec_kernel.proofs.Runs.{MayTurn_at, state_at_more}
use Rattle.law_states.specs.Records.{has_notice_number, notice_of}
use Rattle.law_states.specs.Invariant.{Invariant}
use Rattle.law_states.proofs.Events.{step_keeps}
use Rattle.law_states.proofs.Openings.{no_call_at_first, opening_keeps}
use Rattle.law_places.proofs.Known.{Known, stays}
use Rattle.law_places.specs.Counts.{descriptors, limit_of, limit_in}
use Rattle.spec_kernel.specs.Types.{Obj, Process}
use Rattle.spec_records.proofs.Lists.{at_number-map}
use Rattle.std.specs.Option.{option_map}
use Rattle.std.proofs.lemmas.List.{length-replicate}

module _ (m : State) (xs : List Turn) (opens : IsOpening m) (run : IsRun m xs) where
  pub invariant_at : (i : ℕ) → i ≤ length xs → Invariant (state_at m xs i)
  invariant_at i l = stays m xs Invariant 0 one i (omega arith) l (opening_keeps m opens)
    where
      one : (a : ℕ) (x : Turn) → 0 ≤ a → slice_get xs a ≡ Some x → Invariant (state_at m xs a) → Invariant (state_at m xs (a + 1))
      one a x h f g =
          subst Invariant (sym (state_at_more m xs a x f))
          (step_keeps (state_at m xs a) x.thread x.request g (MayTurn_at m xs a x run f)).invariant

  no_door_at_first : (d : ℕ) → door_of m d ≡ None
  no_door_at_first d = ap (λ ds. at_number ds d) (opened opens).doors ∙ grind (arith, nat_tests)

  no_notice_at_first : (c : ℕ) → notice_of m c ≡ None
  no_notice_at_first c = ap (λ (list : NoticeList). find (has_notice_number c) list.notices) (opened opens).notice_list

  sizes : (p : ℕ) → descriptors m p ≡ limit_of m p
  sizes p =
      ap (λ ts. length (table_in ts p)) (opened opens).tables
      ∙ ap (λ (o : Option (List (Option Obj))). length (unwrap_or o [])) (at_number-map opening_table m.process_table.processes p)
      ∙ go (at_number m.process_table.processes p)
    where
      go : (o : Option Process) → length (unwrap_or (option_map opening_table o) []) ≡ limit_in o
      go None = refl
      go (Some x) = length-replicate x.limit None

  pub known : Known m xs
  known =
      record {
        no_call = no_call_at_first m opens;
        no_notice = no_notice_at_first;
        no_event = (opened opens).events;
        no_door = no_door_at_first;
        no_binding = bound_of-opening opens;
        sizes = sizes;
        invariant = invariant_at;
        may = λ i x e. MayTurn_at m xs i x run e;
        keeps = λ i x e. step_keeps (state_at m xs i) x.thread x.request (invariant_at i (omega (arith, slice_get_within xs i x e))) (MayTurn_at m xs i x run e);
      }
