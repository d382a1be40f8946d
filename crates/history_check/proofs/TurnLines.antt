-- The line of a turn, in its two parts; and the names after it.
use Rattle.std.proofs.Common.{◌≡◌, ℕ, ◌+◌, ◌*◌, ◌≤◌, true, List, [], ◌++◌, length, refl, sym, ap, ◌∙◌, arith}
use Rattle.std.specs.Prelude.{OnOk, Result, Ok, Err, nat_le, option_map, slice_get, unwrap_or}
use Rattle.std.proofs.lemmas.Bool.{and_parts}
use Rattle.std.proofs.lemmas.Bool.Decides.{nat_tests}
use Rattle.dk_base.specs.declared.request.Request.TheVariants as request
use Rattle.spec_requests.specs.Words.{answer_text}
use Rattle.spec_kernel.specs.Types.{Answer, Request, Tid}
use Rattle.history_text.specs.Changes.{mentioned_by, with_line, with_mention, with_request_mention}
use Rattle.history_text.specs.Lookups.{procedure_word, process_of}
use Rattle.history_text.specs.declared.named.NamedProcedure.{NamedProcedure}
use Rattle.history_text.specs.Names.{Names}
use Rattle.history_text.specs.declared.line.Asked.TheVariants.{Enter}
use Rattle.history_text.specs.declared.line.Line.TheVariants.{Event}
use Rattle.history_text.specs.RequestRoom.{request_room}
use Rattle.history_text.specs.Writable.{is_message, is_writable}
use Rattle.history_text.specs.declared.limits.TheConstants.{PASSES_MAX, PORTS_MAX, REQUEST_DATA_MAX}
use Rattle.history_text.specs.declared.write_event.TheConstants.{REQUEST_MAX}

pub mention_by : (names : Names) (r : Request) → with_mention names (mentioned_by names r) ≡ with_request_mention names r
mention_by names (request.Interrupt thread) = refl
mention_by names (request.Kill process) = refl
mention_by names (request.Fork child) = refl
mention_by names other = refl

-- the names after three mentions
pub mention_all :
    (before first second after : Names) (p r m number : ℕ) (t root : Tid) (request : Request) (answer : List ℕ) →
    p ≡ process_of before t → r ≡ process_of before root → first ≡ with_mention before p → second ≡ with_mention first r → m ≡ mentioned_by second request →
    after ≡ with_mention second m → after ≡ with_line before (Event number t root (Enter request) answer)
mention_all before first second after p r m number t root request answer ep er e1 e2 em e3 =
    let there : second ≡ with_mention (with_mention before (process_of before t)) (process_of before root) =
    e2 ∙ ap (λ (n : Names). with_mention n r) (e1 ∙ ap (with_mention before) ep) ∙ ap (with_mention (with_mention before (process_of before t))) er in
    e3 ∙ ap (with_mention second) em ∙ mention_by second request ∙ ap (λ (n : Names). with_request_mention n request) there

-- procedures are no part of what is mentioned
pub procedures_kept : (names : Names) (r : Request) → (with_request_mention names r).procedures ≡ names.procedures
procedures_kept names (request.Interrupt thread) = refl
procedures_kept names (request.Kill process) = refl
procedures_kept names (request.Fork child) = refl
procedures_kept names other = refl

pub same_answer : (before after : Names) (answer : Answer) → after.procedures ≡ before.procedures →
    answer_text (procedure_word after) answer ≡ answer_text (procedure_word before) answer
same_answer before after answer e =
    ap (λ (procedures : List NamedProcedure). answer_text (λ entry. unwrap_or (option_map (λ procedure. procedure.name) (slice_get procedures entry)) []) answer) e

pub kept_by_request : (names : Names) (number : ℕ) (t root : Tid) (request : Request) (answer : List ℕ) →
    (with_line names (Event number t root (Enter request) answer)).procedures ≡ names.procedures
kept_by_request names number t root request answer =
    procedures_kept (with_mention (with_mention names (process_of names t)) (process_of names root)) request

-- the room for a request that can be written

message : (bytes passes : ℕ) → is_message bytes passes ≡ true → 160 + 4 * bytes + 22 * passes ≤ REQUEST_MAX
message bytes passes e =
    let p = and_parts (nat_le bytes REQUEST_DATA_MAX) (nat_le passes PASSES_MAX) e in
    let few : bytes ≤ REQUEST_DATA_MAX = grind (arith, nat_tests, p.0) in
    let less : passes ≤ PASSES_MAX = grind (arith, nat_tests, p.1) in
    omega arith

pub room_of_writable : (names : Names) (of : ℕ) (r : Request) → is_writable names of r ≡ true → request_room r ≤ REQUEST_MAX
room_of_writable names of (request.Call door bytes pass rsize) e = message (length bytes) (length pass) e
room_of_writable names of (request.Return bytes pass) e = message (length bytes) (length pass) e
room_of_writable names of (request.Write fd bytes) e = let few : length bytes ≤ REQUEST_DATA_MAX = grind (arith, nat_tests) in omega arith
room_of_writable names of (request.SendN ports events user) e =
    let p = and_parts (nat_le 1 (length ports)) (nat_le (length ports) PORTS_MAX) e in
    let few : length ports ≤ PORTS_MAX = grind (arith, nat_tests, p.1) in
    omega arith
room_of_writable names of other e = omega arith

-- the line of a request, where an answer was added to what stands before it
pub entered_text :
    {X E : Type 0} (r : Result X E) (names after : Names) (before line left : List ℕ) (answer told : Answer) (parts : List ℕ) →
    after.procedures ≡ names.procedures → before ≡ left → answer ≡ told → parts ≡ left ++ answer_text (procedure_word names) told →
    OnOk r (line ≡ before ++ answer_text (procedure_word after) answer) → OnOk r (line ≡ parts)
entered_text (Ok done) names after before line left answer told parts kept b a p h =
    h ∙ ap (λ (xs : List ℕ). xs ++ answer_text (procedure_word after) answer) b
    ∙ ap (λ (ys : List ℕ). left ++ ys) (same_answer names after answer kept ∙ ap (answer_text (procedure_word names)) a)
    ∙ sym p
entered_text (Err fault) names after before line left answer told parts kept b a p h = h
