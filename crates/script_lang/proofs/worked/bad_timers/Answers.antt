use Rattle.script_lang.proofs.Texts.{timer_in_version_2, arming_in_version_2, deletion_in_version_1, advance_in_version_1, cache_in_version_3, timer_above_31, delay_above_the_greatest, interval_above_the_greatest, advance_by_nothing, advance_by_too_much, arming_without_interval, cache_without_line}
use Rattle.script_lang.proofs.worked.bad_timers.Goals as goal

pub returns : goal.returns
returns c =
    record {
      timer_in_version_2 = timer_in_version_2;
      arming_in_version_2 = arming_in_version_2;
      deletion_in_version_1 = deletion_in_version_1;
      advance_in_version_1 = advance_in_version_1;
      cache_in_version_3 = cache_in_version_3;
      timer_above_31 = timer_above_31;
      delay_above_the_greatest = delay_above_the_greatest;
      interval_above_the_greatest = interval_above_the_greatest;
      advance_by_nothing = advance_by_nothing;
      advance_by_too_much = advance_by_too_much;
      arming_without_interval = arming_without_interval;
      cache_without_line = cache_without_line;
    }
