-- What an entry's line mentions, in the order of the calls that say so.
use Rattle.std.proofs.Common.{◌≡◌, ℕ, Option, Some, None, refl}
use Rattle.dk_base.specs.declared.request.Request.TheVariants.{Interrupt, Kill, Fork}
use Rattle.spec_kernel.specs.Types.{Request, Tid}
use Rattle.history_text.specs.Changes.{mentioned_by, with_mention, with_request_mention}
use Rattle.history_text.specs.Lookups.{process_of}
use Rattle.history_text.specs.Words.{Names}

-- nobody has the number 0
pub nobody : (names : Names) → with_mention names 0 ≡ names
nobody names = refl

pub one_mention : (names : Names) (r : Request) → with_request_mention names r ≡ with_mention names (mentioned_by names r)
one_mention names (Interrupt thread) = refl
one_mention names (Kill process) = refl
one_mention names (Fork child) = refl
one_mention names _ = refl

pub mentions_kept : (names : Names) (p : ℕ) (r : Request) → mentioned_by (with_mention names p) r ≡ mentioned_by names r
mentions_kept names p (Interrupt thread) = refl
mentions_kept names p (Kill process) = refl
mentions_kept names p (Fork child) = refl
mentions_kept names p _ = refl
