-- The event of a line for a name service cache: it is counted, nothing else changes, and nobody is woken.
use Rattle.std.proofs.Common.{◌≡◌, ℕ, zero, suc, ◌++◌, ◌&&◌, Bool, true, false, not, if◌then◌else◌, List, [], ◌∷◌, Some, length, refl, sym, ap, ap₂, ◌∙◌}
use Rattle.dk_base.specs.declared.answer.Answer.TheVariants as answer
use Rattle.dk_base.specs.declared.number.Tid.{Tid}
use Rattle.dk_base.specs.declared.request.Request.TheVariants as request
use Rattle.spec_records.specs.Words.{tid}
use Rattle.spec_kernel.specs.Types.{Request, Stepped}
use Rattle.spec_kernel.specs.Words.{IsStep, State, act, forget, is_runnable, step, with_event_counted, woken_among, woken_threads}
use Rattle.kernel_core.specs.Entries.{is_cache_line}
use Rattle.kernel_core.specs.Kept.{HasNothingPast}
use Rattle.kernel_core.proofs.Live.{live_state}

pub line_changes_nothing : (m : State) (t : ℕ) (r : Request) → is_cache_line r ≡ true → (act m t (Some r)).state ≡ m
line_changes_nothing m t (request.Ncd line) e = refl
line_changes_nothing m t r e = cc

line_answer : (m : State) (t : ℕ) (r : Request) → is_cache_line r ≡ true → (step m t (Some r)).answer ≡ answer.Data []
unfolding step
line_answer m t (request.Ncd line) e = refl
line_answer m t r e = cc

none_woken : (m : State) (n : ℕ) → woken_among m (with_event_counted m) n ≡ []
none_woken m zero = refl
none_woken m (suc n) = ap₂ (λ (xs ys : List Tid). xs ++ ys) (none_woken m n) (go (is_runnable m (suc n)))
  where
    go : (b : Bool) → (if not b && b then tid (suc n) ∷ [] else []) ≡ []
    go true = refl
    go false = refl

pub line_step :
    (m new : State) (t : ℕ) (r : Request) (s : Stepped) → is_cache_line r ≡ true → HasNothingPast m → (step m t (Some r)).state ≡ with_event_counted m →
    new ≡ with_event_counted m → s.answer ≡ answer.Data [] → s.woken ≡ [] → IsStep (step m t (Some r)) new s
unfolding step
line_step m new t r s line none_past counts counted answered woken =
    record {
      state = counted ∙ ap with_event_counted (sym (live_state m none_past)) ∙ ap forget (sym counts);
      answer = answered ∙ sym (line_answer m t r line);
      woken = woken ∙ sym (none_woken m (length m.process_table.threads)) ∙ ap (woken_threads m) (sym counts);
    }
