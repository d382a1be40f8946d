-- What was made of what was read, and is written.
use Rattle.std.proofs.Common.{◌≡◌, ℕ, List, Option, Result, Ok, Err, IfOk, refl, subst}
use Rattle.dk_base.specs.declared.reading.ReadText.{ReadText}
use Rattle.doors_top.specs.declared.reply.Reply.{Reply}
use Rattle.doors_top.specs.declared.status.Status.{Status}
use Rattle.doors_top.specs.Outcomes.{Outcome, outcome_with}
use Rattle.doors_top.specs.Top.{Answered, IsRead, IsWritten, IsWrittenOf}

pub answered :
    {E : Type 0} (limit : ℕ) (Makes : ReadText → Outcome → Type 0) (left_old left_new held_old held_new : Option (List ℕ)) (answer : Status)
    (read : ReadText) (made : Result Reply E) →
    IsRead limit left_old left_new read → IfOk made (λ reply. Makes read (outcome_with reply.status reply.text)) →
    IsWrittenOf made held_old held_new answer → Answered limit Makes left_old left_new held_old held_new answer
answered limit Makes lo ln ho hn answer read (Ok reply) is said written =
    record { read = read; is_read = is; made = outcome_with reply.status reply.text; said = said; written = written }
answered limit Makes lo ln ho hn answer read (Err fault) is said written = absurd written

pub written_as :
    {E : Type 0} (o : Outcome) (held_old held_new : Option (List ℕ)) (answer : Status) (made : Result Reply E) →
    IfOk made (λ reply. outcome_with reply.status reply.text ≡ o) → IsWrittenOf made held_old held_new answer → IsWritten o held_old held_new answer
written_as o ho hn answer (Ok reply) same written = subst (λ (p : Outcome). IsWritten p ho hn answer) same written
written_as o ho hn answer (Err fault) same written = absurd written

same_by : (s t : Status) (xs ys : List ℕ) → s ≡ t → xs ≡ ys → outcome_with s xs ≡ outcome_with t ys
same_by s t xs ys hs hx = rw (hs, hx) refl

pub same_outcome : (o : Outcome) (s : Status) (xs : List ℕ) → s ≡ o.status → xs ≡ o.text → outcome_with s xs ≡ o
same_outcome o s xs hs hx = same_by s o.status xs o.text hs hx
