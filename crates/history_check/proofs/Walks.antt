-- The walk, step by step.
use Rattle.std.proofs.Common.{◌≡◌, ℕ, true, false, List, Option, Some, Result, Ok, Err, IfOk, refl, sym, ap, subst, ◌∙◌}
use Rattle.dk_base.specs.declared.error.NoMemory.{NoMemory}
use Rattle.line_reader.specs.declared.fault.Fault.{Fault}
use Rattle.line_reader.specs.declared.fault.Fault.TheVariants as fault
use Rattle.line_reader.specs.OperandContracts.{Fails}
use Rattle.line_forms.specs.declared.reason.Reason.{Reason}
use Rattle.spec_kernel.specs.Types.{Tid}
use Rattle.spec_histories.specs.Histories.{History}
use Rattle.history_text.specs.declared.line.Asked.{Asked}
use Rattle.history_text.specs.declared.line.Line.{Line}
use Rattle.history_text.specs.declared.place.Stage.{Stage}
use Rattle.history_text.specs.declared.place.Stage.TheVariants.{Ended}
use Rattle.history_text.specs.Words.{Names, byte_fault, is_skipped, line_read}
use Rattle.history_check.specs.declared.finding.Finding.{Finding}
use Rattle.history_check.specs.declared.finding.Finding.TheVariants.{Bad}
use Rattle.history_check.specs.Findings.{Finds, IsFoundBy, history_of, reached}
use Rattle.history_check.specs.Judging.{found_at, found_at_end, found_at_event, found_at_read, found_at_skipped}
use Rattle.history_check.specs.Places.{Reached, place_of}

-- a kernel that has begun tells of the same history
from_begun :
    {K : Type 0} (history : K → History) (P : Names → History → History → Type 0) (before names : Names) (was kernel : Option K) (k : K) →
    names ≡ before → history_of history names kernel ≡ history_of history before was → kernel ≡ Some k →
    P names (history k) (history k) → P before (history_of history before was) (history_of history names kernel)
from_begun history P before names was kernel k n h is p =
    let told : history_of history names kernel ≡ history k = ap (history_of history names) is in
    let old : history_of history before was ≡ history k = sym h ∙ told in
    subst (λ (x : Names). P x (history_of history before was) (history_of history names kernel)) n
    (subst (λ (x : History). P names x (history_of history names kernel)) (sym old) (subst (λ (x : History). P names (history k) x) (sym told) p))

pub end_from :
    {K E : Type 0} (history : K → History) (r : Result Finding E) (before names : Names) (stage : Stage) (was kernel : Option K) (k : K) (text : List ℕ) →
    names ≡ before → history_of history names kernel ≡ history_of history before was → kernel ≡ Some k →
    IfOk r (λ found. Finds (found_at_end (reached names stage (history k)) text) (reached names Ended (history k)) found) →
    IfOk r (λ found. Finds (found_at_end (reached before stage (history_of history before was)) text) (reached names Ended (history_of history names kernel)) found)
end_from history r before names stage was kernel k text n h is found =
    from_begun history (λ x y z. IfOk r (λ f. Finds (found_at_end (reached x stage y) text) (reached names Ended z) f)) before names was kernel k n h is found

pub event_from :
    {K E : Type 0} (history : K → History) (r : Result Finding E) (before names : Names) (stage : Stage) (was kernel : Option K) (k : K) (text : List ℕ)
    (change : Names → Names) (t : Tid) (asked : Asked) (now : Reached) →
    names ≡ before → history_of history names kernel ≡ history_of history before was → kernel ≡ Some k →
    IfOk r (λ found. Finds (found_at_event (reached names stage (history k)) text (change names) t asked) now found) →
    IfOk r (λ found. Finds (found_at_event (reached before stage (history_of history before was)) text (change before) t asked) now found)
event_from history r before names stage was kernel k text change t asked now n h is found =
    from_begun history (λ x y z. IfOk r (λ f. Finds (found_at_event (reached x stage y) text (change x) t asked) now f)) before names was kernel k n h is found

-- a line that is skipped, and one that is read

pub skipped_found : (p : Reached) (text : List ℕ) (now : Reached) (found : Finding) →
    is_skipped text ≡ true → Finds (found_at_skipped p (byte_fault text)) now found → Finds (found_at p text) now found
unfolding found_at
skipped_found p text now found e h = rw e h

pub read_found : (p : Reached) (text : List ℕ) (read : Result Line Reason) (now : Reached) (found : Finding) →
    is_skipped text ≡ false → line_read p.names (place_of p) text ≡ read → Finds (found_at_read p text read) now found →
    Finds (found_at p text) now found
unfolding found_at
read_found p text read now found e l h = rw (e, l) h

pub each_read_found : {E : Type 0} (r : Result Finding E) (p : Reached) (text : List ℕ) (read : Result Line Reason) (now : Reached) →
    is_skipped text ≡ false → line_read p.names (place_of p) text ≡ read → IfOk r (λ found. Finds (found_at_read p text read) now found) →
    IfOk r (λ found. Finds (found_at p text) now found)
each_read_found (Ok found) p text read now e l h = read_found p text read now found e l h
each_read_found (Err fault) p text read now e l h = h

pub found_by_fault : (p : Reached) (text : List ℕ) (why : Fault) (r : Result Finding NoMemory) → is_skipped text ≡ false →
    Fails (line_read p.names (place_of p) text) why → IsFoundBy why r → IfOk r (λ found. Finds (found_at p text) p found)
found_by_fault p text (fault.Bad reason) r e fails is = rw is (read_found p text (Err reason) p (Bad reason) e (fails reason refl) refl)
found_by_fault p text fault.Memory (Err lacks) e fails is = tt
found_by_fault p text fault.Memory (Ok found) e fails is = cc
