-- What a list of notices holds.
use Rattle.std.specs.Prelude.{ℕ}
use Rattle.spec_records.specs.Words.{NoticeList}

-- the notices, and how many more take no memory
pub record NoticesValue : Type 0 where
  pub list : NoticeList
  pub spare : ℕ
