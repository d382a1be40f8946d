use Rattle.std.proofs.Common.{◌∙◌}
use Rattle.sys_run.specs.Words.{EndsPlay, IsBefore, IsPlay, refusal_at}
use Rattle.doors_top.proofs.Plays.{play_status, play_text, play_laws, before_text, before_laws}
use Rattle.doors_top.proofs.play.play_turns.Goals as goal

pub returns-in_ok-reply-in-Over-clause-status : goal.returns-in_ok-reply-in-Over-clause-status
returns-in_ok-reply-in-Over-clause-status c =
    let s = c.args.playing.now.script in
    let is : IsPlay s c.take_turns.new.playing = rw c.in-Over.is at c.in_ok-text.ensures.ended in
    c.in_ok-reply-in-Over.ensures.status ∙ play_status s _ is

pub returns-in_ok-reply-in-Over-clause-text : goal.returns-in_ok-reply-in-Over-clause-text
returns-in_ok-reply-in-Over-clause-text c =
    let s = c.args.playing.now.script in
    let is : IsPlay s c.take_turns.new.playing = rw c.in-Over.is at c.in_ok-text.ensures.ended in
    c.in_ok-reply-in-Over.ensures.text ∙ play_text s _ is

pub returns-in_ok-reply-in-Over-clause-laws : goal.returns-in_ok-reply-in-Over-clause-laws
returns-in_ok-reply-in-Over-clause-laws c =
    let s = c.args.playing.now.script in
    let is : IsPlay s c.take_turns.new.playing = rw c.in-Over.is at c.in_ok-text.ensures.ended in
    play_laws s _ is c.in_ok-text.ensures.laws

pub returns-in_ok-reply-in-Refused-clause-text : goal.returns-in_ok-reply-in-Refused-clause-text
returns-in_ok-reply-in-Refused-clause-text c =
    let s = c.args.playing.now.script in
    let before : IsBefore s (refusal_at c.in-Refused.turn c.in-Refused.thread.0) c.take_turns.new.playing =
    rw c.in-Refused.is at c.in_ok-text.ensures.ended in
    c.in_ok-reply-in-Refused.ensures.text ∙ before_text s c.in-Refused.turn c.in-Refused.thread _ before

pub returns-in_ok-reply-in-Refused-clause-laws : goal.returns-in_ok-reply-in-Refused-clause-laws
returns-in_ok-reply-in-Refused-clause-laws c =
    let s = c.args.playing.now.script in
    let before : IsBefore s (refusal_at c.in-Refused.turn c.in-Refused.thread.0) c.take_turns.new.playing =
    rw c.in-Refused.is at c.in_ok-text.ensures.ended in
    before_laws s _ _ before c.in_ok-text.ensures.laws
