-- The requests that a reading found.
use Rattle.std.proofs.Common.{◌≡◌, ℕ, Bool, true, false, List, [], ◌∷◌, ◌++◌, refl, ap, sym, ◌∙◌, append-nil, arith}
use Rattle.std.specs.Prelude.{codes, decimal}
use Rattle.dk_base.specs.declared.event.What.TheVariants as what
use Rattle.dk_base.specs.declared.limits.TheConstants.{ADVANCE_MAX, DELAY_MAX}
use Rattle.line_reader.specs.Combinators.{Reader, Rest, misspelling, pure, ◌>>=◌}
use Rattle.spec_requests.specs.Words.{what_word}
use Rattle.line_forms.specs.Words.{attribute_words, wait_words}
use Rattle.line_text.specs.Words.{quoted_text}
use Rattle.history_text.specs.declared.line.Asked.TheVariants.{Enter}
use Rattle.history_text.specs.Types.{Fd, PathId, Request, What}
use Rattle.history_text.specs.LineWords.{asked_words, desc_words, fd_word, request_words}
use Rattle.history_text.specs.Lookups.{path_word, procedure_word}
use Rattle.history_text.specs.Names.{Names}
use Rattle.history_text.specs.Requests.{advance_in_time, asked_as, asked_with, info_after, is_wait_end, request_with, with_fd, with_path}
use Rattle.history_text.proofs.Found.{ReadsAs, not_read, optional_spelled, pure-as, relate-as, then-as, words_if}
use Rattle.history_text.proofs.FoundAttributes.{attributes_spelled}
use Rattle.history_text.proofs.FoundNames.{child_spelled, path_spelled, procedure_spelled, process_spelled, thread_spelled}
use Rattle.history_text.proofs.FoundOperands.{fd_spelled, mode_spelled, number_32_spelled, number_64_spelled, number_spelled, param_spelled, passes_spelled, poll_spelled, ports_spelled, string_spelled, the_word_spelled, unclean, value_spelled, waits_spelled}

-- a request's words are this word and those
abbrev pub IsAsked : Names → List ℕ → Request → List (List ℕ) → Type 0
IsAsked names word request words = request_words names request ≡ word ∷ words

with_fd_as : (names : Names) (word : List ℕ) (make : Fd → Request) → ((given : Fd) → request_words names (make given) ≡ word ∷ fd_word given ∷ []) → ReadsAs (with_fd make) (λ request words new. IsAsked names word request words)
with_fd_as names word make is = then-as fd_spelled (λ given. pure-as (λ rest. is given))

with_path_as : (names : Names) (word : List ℕ) (make : PathId → Request) → ((given : PathId) → request_words names (make given) ≡ word ∷ path_word names given ∷ []) → ReadsAs (with_path names make) (λ request words new. IsAsked names word request words)
with_path_as names word make is = then-as (path_spelled names) (λ given. pure-as (λ rest. is given))

info_if : (names : Names) (query : Bool) → ReadsAs (info_after query) (λ request words new. IsAsked names (codes "info") request (words_if query (codes "query") ++ words))
info_if names true = pure-as (λ rest. refl)
info_if names false = with_fd_as names (codes "info") _ (λ given. refl)

in_time : (names : Names) (late : Bool) (by : ℕ) → ReadsAs (advance_in_time late by) (λ request words new. IsAsked names (codes "advance") request (decimal by ∷ words))
in_time names false by = pure-as (λ rest. refl)
in_time names true by = record { found = λ rest x new e clean. absurd (unclean _ x rest new e clean) }

misspelled : {A : Type 0} {R : A → List (List ℕ) → Rest → Type 0} → ReadsAs misspelling R
misspelled = record { found = λ rest x new e clean. absurd (not_read _ x new e) }

pub request_as : (names : Names) (of : ℕ) (late : Bool) (how : What) → ReadsAs (request_with names of late how) (λ request words new. IsAsked names (what_word how) request words)
request_as names of late what.Create = then-as (procedure_spelled names of) (λ entry. then-as number_64_spelled (λ cookie. then-as attributes_spelled (λ attrs. pure-as (λ rest. ap (λ ws. codes "create" ∷ procedure_word names entry ∷ decimal cookie ∷ ws) (sym (append-nil (attribute_words attrs)))))))
request_as names of late what.Call =
    then-as fd_spelled (λ door. then-as (string_spelled 0 _) (λ bytes. then-as passes_spelled (λ pass. then-as (the_word_spelled (codes "rsize")) (λ here. then-as number_64_spelled (λ room. pure-as (λ rest. refl))))))
request_as names of late what.Return = then-as (string_spelled 0 _) (λ bytes. then-as passes_spelled (λ pass. pure-as (λ rest. ap (λ ws. codes "return" ∷ quoted_text bytes ∷ ws) (sym (append-nil (desc_words pass))))))
request_as names of late what.Revoke = with_fd_as names (codes "revoke") _ (λ given. refl)
request_as names of late what.Bind = with_fd_as names (codes "bind") _ (λ given. refl)
request_as names of late what.Unbind = pure-as (λ rest. refl)
request_as names of late what.Info = then-as (optional_spelled (codes "query")) (λ query. info_if names query)
request_as names of late what.GetParam = then-as fd_spelled (λ door. then-as param_spelled (λ given. pure-as (λ rest. refl)))
request_as names of late what.SetParam = then-as fd_spelled (λ door. then-as param_spelled (λ given. then-as value_spelled (λ n. pure-as (λ rest. refl))))
request_as names of late what.Cred = pure-as (λ rest. refl)
request_as names of late what.TestCancel = pure-as (λ rest. refl)
request_as names of late what.Close = with_fd_as names (codes "close") _ (λ given. refl)
request_as names of late what.Dup = with_fd_as names (codes "dup") _ (λ given. refl)
request_as names of late what.Attach = then-as fd_spelled (λ door. then-as (path_spelled names) (λ at. pure-as (λ rest. refl)))
request_as names of late what.Detach = with_path_as names (codes "detach") _ (λ given. refl)
request_as names of late what.Open = with_path_as names (codes "open") _ (λ given. refl)
request_as names of late what.Await = with_path_as names (codes "await") _ (λ given. refl)
request_as names of late what.Pipe = pure-as (λ rest. refl)
request_as names of late what.Write = then-as fd_spelled (λ to. then-as (string_spelled 0 _) (λ bytes. pure-as (λ rest. refl)))
request_as names of late what.Read = then-as fd_spelled (λ from. then-as (number_spelled 1 4096 (omega arith)) (λ most. pure-as (λ rest. refl)))
request_as names of late what.PortCreate = pure-as (λ rest. refl)
request_as names of late what.Associate = then-as fd_spelled (λ port. then-as fd_spelled (λ object. then-as poll_spelled (λ events. then-as number_64_spelled (λ user. pure-as (λ rest. refl)))))
request_as names of late what.Dissociate = then-as fd_spelled (λ port. then-as fd_spelled (λ object. pure-as (λ rest. refl)))
request_as names of late what.Get = then-as fd_spelled (λ port. then-as waits_spelled (λ wait. pure-as (λ rest. ap (λ ws. codes "get" ∷ fd_word port ∷ ws) (sym (append-nil (wait_words wait))))))
request_as names of late what.GetN = then-as fd_spelled (λ port. then-as (number_spelled 0 64 (omega arith)) (λ most. then-as number_32_spelled (λ least. then-as waits_spelled (λ wait. pure-as (λ rest. ap (λ ws. codes "getn" ∷ fd_word port ∷ decimal most ∷ decimal least ∷ ws) (sym (append-nil (wait_words wait))))))))
request_as names of late what.Send = then-as fd_spelled (λ port. then-as number_32_spelled (λ events. then-as number_64_spelled (λ user. pure-as (λ rest. refl))))
request_as names of late what.SendN = then-as number_32_spelled (λ events. then-as number_64_spelled (λ user. then-as ports_spelled (λ to. pure-as (λ rest. ap (λ ws. codes "sendn" ∷ decimal events ∷ decimal user ∷ ws) (sym (append-nil _))))))
request_as names of late what.Alert = then-as fd_spelled (λ port. then-as mode_spelled (λ how. then-as number_32_spelled (λ events. then-as number_64_spelled (λ user. pure-as (λ rest. refl)))))
request_as names of late what.TimerCreate = then-as fd_spelled (λ port. then-as number_64_spelled (λ user. pure-as (λ rest. refl)))
request_as names of late what.TimerSet = then-as number_32_spelled (λ timer. then-as (number_spelled 0 DELAY_MAX (omega arith)) (λ first. then-as (number_spelled 0 DELAY_MAX (omega arith)) (λ interval. pure-as (λ rest. refl))))
request_as names of late what.TimerDelete = then-as number_32_spelled (λ timer. pure-as (λ rest. refl))
request_as names of late what.Advance = then-as (number_spelled 1 ADVANCE_MAX (omega arith)) (λ by. in_time names late by)
request_as names of late what.Interrupt = then-as (thread_spelled names) (λ whom. pure-as (λ rest. refl))
request_as names of late what.Kill = then-as (process_spelled names) (λ whom. pure-as (λ rest. refl))
request_as names of late what.Exit = pure-as (λ rest. refl)
request_as names of late what.Fork = then-as (child_spelled names of) (λ begins. pure-as (λ rest. refl))
request_as names of late what.Work = misspelled
request_as names of late what.Ncd = misspelled
request_as names of late what.Accept = misspelled
request_as names of late what.Collect = misspelled
request_as names of late what.Got = misspelled
request_as names of late what.Found = misspelled
request_as names of late what.Done = misspelled
request_as names of late what.Woken = misspelled

asked_if : (end : Bool) (names : Names) (of : ℕ) (late : Bool) (how : What) → ReadsAs (asked_as end names of late how) (λ asked words new. asked_words names asked ≡ what_word how ∷ words)
asked_if true names of late how = pure-as (λ rest. refl)
asked_if false names of late how = enter_as names (what_word how) (request_with names of late how) (request_as names of late how)
  where
    enter_as : (names : Names) (word : List ℕ) (read : Reader Request) → ReadsAs read (λ request words new. IsAsked names word request words) → ReadsAs (read >>= (λ request. pure (Enter request))) (λ asked words new. asked_words names asked ≡ word ∷ words)
    enter_as names word read reads = relate-as (λ request words. IsAsked names word request words) reads (λ request. pure-as (λ rest before is. is ∙ ap (λ ws. word ∷ ws) (sym (append-nil before))))

pub asked_found : (names : Names) (of : ℕ) (late : Bool) (how : What) → ReadsAs (asked_with names of late how) (λ asked words new. asked_words names asked ≡ what_word how ∷ words)
asked_found names of late how = asked_if (is_wait_end how) names of late how
