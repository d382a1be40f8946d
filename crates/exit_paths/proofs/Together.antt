-- What a kernel keeps of a written state, of which the invariant holds: its threads and calls say the same of each other.
use Rattle.std.proofs.Common.{◌≡◌, ℕ, ◌<◌, ◌≤◌, ◌==◌, Bool, true, false, if◌then◌else◌, List, [], ◌∷◌, Option, Some, None, find, filter, refl, sym, ap, ◌∙◌, subst, arith}
use Rattle.std.proofs.lemmas.Bool.Decides.{nat_tests}
use Rattle.spec_records.specs.declared.record.CallStage.TheVariants as stage
use Rattle.spec_records.specs.Words.{IsAscending, call_number, is_live, is_live_call, state_in, thread_at, tid}
use Rattle.spec_records.proofs.NumberedLists.{counted-ascending}
use Rattle.spec_kernel.specs.Types.{Call, CallStage}
use Rattle.spec_kernel.specs.Words.{State, StandsFor, forget}
use Rattle.law_states.specs.Coherent.{AreInvocations, AreWaits}
use Rattle.law_states.specs.Core.{abandoned_in, caller_number, core, live_in, number_in, underway_in}
use Rattle.law_states.specs.Invariant.{IsConsistent}
use Rattle.law_states.specs.Records.{record_of, stage_in}
use Rattle.call_tree.specs.Words.{is_call}
use Rattle.law_pools.proofs.Readers.{same_number}
use Rattle.exit_paths.specs.Words.{AreTogether, call_of, forgotten, or_forgotten}

-- a record that is not live is forgotten
abbrev kept_record : ℕ → Option Call → Option Call
kept_record c None = Some (forgotten c)
kept_record c (Some r) = if is_live r.stage then Some r else Some (forgotten c)

none_live : (c low made : ℕ) (rs : List Call) → IsAscending call_number low made rs → c ≤ low → find (is_call c) (filter is_live_call rs) ≡ None
none_live c low made [] a l = refl
none_live c low made (r ∷ rs) a l = go (is_live_call r) (none_live c r.number made rs a.2 (omega (arith, a.0)))
  where
    apart : (j k : ℕ) → k < j → (j == k) ≡ false
    apart j k m = grind (arith, nat_tests)

    go : (b : Bool) → find (is_call c) (filter is_live_call rs) ≡ None → find (is_call c) (if b then r ∷ filter is_live_call rs else filter is_live_call rs) ≡ None
    go true ih = ap (λ b. if b then Some r else find (is_call c) (filter is_live_call rs)) (apart r.number c (omega (arith, a.0))) ∙ ih
    go false ih = ih

found_live : (c low made : ℕ) (rs : List Call) → IsAscending call_number low made rs → or_forgotten c (find (is_call c) (filter is_live_call rs)) ≡ kept_record c (find (is_call c) rs)
found_live c low made [] a = refl
found_live c low made (r ∷ rs) a = go (r.number == c) refl (is_live_call r) refl (found_live c r.number made rs a.2)
  where
    go :
        (b : Bool) → (r.number == c) ≡ b → (d : Bool) → is_live_call r ≡ d → or_forgotten c (find (is_call c) (filter is_live_call rs)) ≡ kept_record c (find (is_call c) rs) →
        or_forgotten c (find (is_call c) (if d then r ∷ filter is_live_call rs else filter is_live_call rs)) ≡ kept_record c (if b then Some r else find (is_call c) rs)
    go true e true f ih =
        ap (λ b. or_forgotten c (if b then Some r else find (is_call c) (filter is_live_call rs))) e ∙ sym (ap (λ b. if b then Some r else Some (forgotten c)) f)
    go true e false f ih =
        ap (or_forgotten c) (none_live c r.number made rs a.2 (let n = same_number r.number c e in omega (arith, n))) ∙ sym (ap (λ b. if b then Some r else Some (forgotten c)) f)
    go false e true f ih = ap (λ b. or_forgotten c (if b then Some r else find (is_call c) (filter is_live_call rs))) e ∙ ih
    go false e false f ih = ih

-- what is read of a call that is kept

stays_given : (c u : ℕ) (o : Option Call) → stage_in o ≡ Some (stage.Given (tid u)) → stage_in (kept_record c o) ≡ Some (stage.Given (tid u))
stays_given c u None e = cc
stays_given c u (Some r) e =
    let is : r.stage ≡ stage.Given (tid u) = cc in
    ap (λ b. stage_in (if b then Some r else Some (forgotten c))) (ap is_live is) ∙ e

was_stage : (c : ℕ) (s : CallStage) → is_live s ≡ true → (o : Option Call) → stage_in (kept_record c o) ≡ Some s → stage_in o ≡ Some s
was_stage c s l None e = let f : stage.Gone ≡ s = cc in let g = ap is_live f in cc
was_stage c s l (Some r) e = go (is_live r.stage) e
  where
    go : (b : Bool) → stage_in (if b then Some r else Some (forgotten c)) ≡ Some s → Some r.stage ≡ Some s
    go true f = f
    go false f = let g : stage.Gone ≡ s = cc in let k = ap is_live g in cc

stays_live : (c : ℕ) (o : Option Call) → live_in o ≡ true → kept_record c o ≡ o
stays_live c None e = cc
stays_live c (Some r) e = ap (λ b. if b then Some r else Some (forgotten c)) e

was_live : (c : ℕ) (o : Option Call) → live_in (kept_record c o) ≡ true → live_in o ≡ true
was_live c None e = cc
was_live c (Some r) e = go (is_live r.stage) e
  where
    go : (b : Bool) → live_in (if b then Some r else Some (forgotten c)) ≡ true → b ≡ true
    go true f = refl
    go false f = cc

was_there : (c : ℕ) (o : Option Call) → abandoned_in (kept_record c o) ≡ false → kept_record c o ≡ o
was_there c None e = cc
was_there c (Some r) e = go (is_live r.stage) e
  where
    go : (b : Bool) → abandoned_in (if b then Some r else Some (forgotten c)) ≡ false → (if b then Some r else Some (forgotten c)) ≡ Some r
    go true f = refl
    go false f = cc

was_underway : (c : ℕ) (o : Option Call) → underway_in (kept_record c o) ≡ true → kept_record c o ≡ o
was_underway c None e = cc
was_underway c (Some r) e = go (is_live r.stage) e
  where
    go : (b : Bool) → underway_in (if b then Some r else Some (forgotten c)) ≡ true → (if b then Some r else Some (forgotten c)) ≡ Some r
    go true f = refl
    go false f = cc

-- a state that a kernel keeps
pub kept_together : (kept m : State) → StandsFor kept m → IsConsistent m → AreTogether kept.process_table kept.call_tree
kept_together kept m stands is =
    subst (λ (x : State). AreTogether x.process_table x.call_tree) (sym stands)
    (record {
      waits =
          record {
            given = λ c u e. waits.given c u (was_stage c (stage.Given (tid u)) refl (record_of m c) (ap stage_in (sym (same c)) ∙ e));
            given_back = λ c u e. ap stage_in (same c) ∙ stays_given c u (record_of m c) (waits.given_back c u e);
            caller = λ c t e. ap caller_number (same c ∙ stays_live c (record_of m c) (waits.live c t e)) ∙ waits.caller c t e;
            live = λ c t e. ap live_in (same c ∙ stays_live c (record_of m c) (waits.live c t e)) ∙ waits.live c t e;
            calling =
                λ c e.
                let l : live_in (record_of m c) ≡ true = was_live c (record_of m c) (ap live_in (sym (same c)) ∙ e) in
                ap (λ o. state_in (thread_at m.process_table (caller_number o))) (same c ∙ stays_live c (record_of m c) l) ∙ waits.calling c l;
          };
      invocations =
          record {
            entered = λ c u e. invocations.entered c u (was_stage c (stage.Entered (tid u)) refl (record_of m c) (ap stage_in (sym (same c)) ∙ e));
            entered_back =
                λ c u e f.
                let there : call_of (forget m).call_tree c ≡ record_of m c = same c ∙ was_there c (record_of m c) (ap abandoned_in (sym (same c)) ∙ f) in
                ap stage_in there ∙ invocations.entered_back c u e (ap abandoned_in (sym there) ∙ f);
            kept =
                λ c e.
                let there : call_of (forget m).call_tree c ≡ record_of m c = same c ∙ was_underway c (record_of m c) (ap underway_in (sym (same c)) ∙ e) in
                ap abandoned_in there ∙ invocations.kept c (ap underway_in (sym there) ∙ e);
          };
      servers = is.coherent.servers;
      numbered = λ t x e. is.coherent.threads.thread_number t x.number (ap number_in e);
    })
  where
    waits : AreWaits (core m).role (core m).call
    waits = is.coherent.waits

    invocations : AreInvocations (core m).serves (core m).call
    invocations = is.coherent.invocations

    ascending : IsAscending call_number 0 m.call_tree.made m.call_tree.calls
    ascending = counted-ascending call_number m.call_tree.calls 0 m.call_tree.made is.in_order (omega (arith, is.counted))

    same : (c : ℕ) → call_of (forget m).call_tree c ≡ kept_record c (record_of m c)
    same c = found_live c 0 m.call_tree.made m.call_tree.calls ascending
