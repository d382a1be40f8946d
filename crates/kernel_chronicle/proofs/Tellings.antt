-- What a turn told is the entry's.
use Rattle.std.proofs.Common.{◌≡◌, ◌+◌, ℕ, ◌++◌, List, [], ◌∷◌, Option, Some, None, refl, ap, sym, subst, ◌∙◌, append_assoc}
use Rattle.std.specs.Prelude.{codes, decimal}
use Rattle.line_text.specs.Words.{joined_words}
use Rattle.spec_kernel.specs.Types.{Answer, Request, Tid, What}
use Rattle.spec_kernel.specs.Words.{IsFit}
use Rattle.spec_histories.specs.Histories.{Entry, History, end, grown, next}
use Rattle.kernel_chronicle.specs.declared.asked.Asked.{Asked as AskedByC}
use Rattle.kernel_handle.specs.declared.recorder.Refused.{Refused}
use Rattle.kernel_handle.specs.declared.recorder.Refused.TheVariants as refused
use Rattle.kernel_handle.specs.declared.recorder.Told.{Told}
use Rattle.kernel_chronicle.specs.Asks.{asked_request}
use Rattle.kernel_chronicle.specs.Replies.{answer_bytes, reply_bytes, reply_words, words_of}
use Rattle.spec_requests.specs.Words.{answer_text}
use Rattle.history_text.specs.declared.line.Asked.{Asked}
use Rattle.history_text.specs.declared.line.Asked.TheVariants.{Enter, GoOn}
use Rattle.history_text.specs.Changes.{mentioned_by, with_mention, with_request_mention}
use Rattle.history_text.specs.Entries.{asked_of}
use Rattle.history_text.specs.LeftText.{left_text}
use Rattle.history_text.specs.LineWords.{asked_words}
use Rattle.history_text.specs.Lookups.{procedure_word, process_of, thread_word}
use Rattle.history_text.specs.Words.{Names, entry_text}
use Rattle.kernel_handle.specs.Told.{IsRefused, entry_told}
use Rattle.kernel_chronicle.specs.Written.{BeginsWith, IsCauseOfEnter, IsCauseOfGoOn, IsFitRequest, IsTold, Written, refusal_for}
use Rattle.kernel_chronicle.proofs.Mentions.{mentions_kept, nobody, one_mention}

-- the parts of a line, from left to right
whole_line : (words equals answer feed : List ℕ) → (words ++ equals) ++ (answer ++ feed) ≡ (words ++ (equals ++ answer)) ++ feed
whole_line words equals answer feed =
    append_assoc words equals (answer ++ feed)
    ∙ ap (λ (xs : List ℕ). words ++ xs) (sym (append_assoc equals answer feed))
    ∙ sym (append_assoc words (equals ++ answer) feed)

pub line_is :
    (names : Names) (e : Entry) (line left : List ℕ) (answer : Answer) →
    left ≡ left_text names e.number (record { 0 = e.turn.thread }) (record { 0 = e.root }) (asked_of e.turn.request e.what) →
    answer ≡ e.answer → line ≡ left ++ (answer_text (procedure_word names) answer ++ 10 ∷ []) → line ≡ entry_text names e ++ 10 ∷ []
line_is names e line left answer is same whole =
    whole
    ∙ ap (λ (xs : List ℕ). xs ++ (answer_text (procedure_word names) answer ++ 10 ∷ [])) is
    ∙ ap (λ a. left_text names e.number (record { 0 = e.turn.thread }) (record { 0 = e.root }) (asked_of e.turn.request e.what) ++ (answer_text (procedure_word names) a ++ 10 ∷ [])) same
    ∙ whole_line
    (joined_words (decimal e.number ∷ thread_word names (record { 0 = e.turn.thread }) ∷ thread_word names (record { 0 = e.root }) ∷ asked_words names (asked_of e.turn.request e.what)))
    (codes " = ")
    (answer_text (procedure_word names) e.answer)
    (10 ∷ [])

-- the part before the answer
pub left_is :
    (names : Names) (number now : ℕ) (t root : Tid) (at : ℕ) (asked : Asked) (before line : List ℕ) → before ≡ [] → number ≡ now → root.0 ≡ at →
    line ≡ before ++ left_text names number t root asked → line ≡ left_text names now t (record { 0 = at }) asked
left_is names number now t root at asked before line none same is whole =
    whole
    ∙ ap (λ (xs : List ℕ). xs ++ left_text names number t root asked) none
    ∙ ap (λ n. left_text names n t root asked) same
    ∙ ap (λ n. left_text names now t (record { 0 = n }) asked) is

pub reply_is :
    (t : ℕ) (q : Option Request) (told : Told) (e : Entry) (words : List ℕ) → entry_told t q told ≡ e →
    BeginsWith (words_of told.number told.root.0 told.stepped.answer told.stepped.woken) words → BeginsWith (reply_words e) words
reply_is t q told e words is h = subst (λ (x : Entry). BeginsWith (reply_words x) words) is h

pub bytes_are :
    (t : ℕ) (q : Option Request) (told : Told) (e : Entry) (bytes : List ℕ) → entry_told t q told ≡ e →
    BeginsWith (answer_bytes told.stepped.answer) bytes → BeginsWith (reply_bytes e) bytes
bytes_are t q told e bytes is h = subst (λ (x : Entry). BeginsWith (reply_bytes x) bytes) is h

-- what is mentioned

pub entered_mentions :
    (names after : Names) (t root : Tid) (r : Request) (mentioned : ℕ) → mentioned ≡ mentioned_by names r →
    after ≡ with_mention (with_mention (with_mention names (process_of names t)) (process_of names root)) mentioned →
    after ≡ with_request_mention (with_mention (with_mention names (process_of names t)) (process_of names root)) r
entered_mentions names after t root r mentioned is h =
    let one = with_mention names (process_of names t) in
    let two = with_mention one (process_of names root) in
    h
    ∙ ap (λ n. with_mention two n) (is ∙ sym (mentions_kept names (process_of names t) r) ∙ sym (mentions_kept one (process_of names root) r))
    ∙ sym (one_mention two r)

pub rooted :
    (names after : Names) (t : Tid) (told root : ℕ) (mentioned : ℕ) → told ≡ root →
    after ≡ with_mention (with_mention (with_mention names (process_of names t)) (process_of names (record { 0 = told }))) mentioned →
    after ≡ with_mention (with_mention (with_mention names (process_of names t)) (process_of names (record { 0 = root }))) mentioned
rooted names after t told root mentioned is h =
    subst (λ n. after ≡ with_mention (with_mention (with_mention names (process_of names t)) (process_of names (record { 0 = n }))) mentioned) is h

-- why nothing was done

some_is : (r s : Request) → Some r ≡ Some s → r ≡ s
some_is r s e = cc e

pub cause_of_enter :
    (w : Written) (q : AskedByC) (given items : List ℕ) (r : Request) (why : Refused) → asked_request q given items ≡ Some r →
    IsRefused (end w.history) q.thread (Some r) why → IsCauseOfEnter w q given items (refusal_for why)
cause_of_enter w q given items r refused.Full is h = h
cause_of_enter w q given items r refused.NotRunning is h = h
cause_of_enter w q given items r refused.NotReady is h = h
cause_of_enter w q given items r refused.NotFit is h =
    λ few less s fits. h (subst (λ (x : Request). IsFit (end w.history) q.thread x) (some_is s r (sym fits.asked ∙ is)) fits.fit)
cause_of_enter w q given items r refused.NoMemory is h = tt

pub cause_of_go_on :
    (w : Written) (t : ℕ) (why : Refused) → IsRefused (end w.history) t None why → IsCauseOfGoOn w t (refusal_for why)
cause_of_go_on w t refused.Full h = h
cause_of_go_on w t refused.NotRunning h = h
cause_of_go_on w t refused.NotReady h = h
cause_of_go_on w t refused.NotFit h = h
cause_of_go_on w t refused.NoMemory h = tt
