-- What a command is answered, and what it leaves.
use Rattle.std.specs.Prelude.{◌≡◌, ◌<◌, ◌≤◌, ◌⊎◌, ℕ, List, [], length, Some, None}
use Rattle.event_life.specs.Products.{rows_after}
use Rattle.notice_json.specs.declared.command.Command.{Command}
use Rattle.notice_json.specs.declared.refusal.NoticeRefusal.{NoticeRefusal}
use Rattle.notice_json.specs.declared.refusal.NoticeRefusal.TheVariants.{TooLong}
use Rattle.county_notices.specs.Commands.{Noticed, broken}
use Rattle.county_notices.specs.Lines.{lines_of}
use Rattle.county_notices.specs.Notices.{IsNotice}
use Rattle.county_notices.specs.declared.issuer.Issuer.{Issuer}

-- the notice of a command
abbrev pub IsNoticeOf : Noticed → Command → List ℕ → Type 0
IsNoticeOf s c text = IsNotice s.by c.at c.watch (lines_of s.rows c) text

-- TooLong: no other rule is broken, and the notice has more than 65,536 bytes
pub record IsTooLong (s : Noticed) (c : Command) (rule : NoticeRefusal) : Type 0 where
  pub kept : broken s c ≡ None
  pub text : List ℕ
  pub notice : IsNoticeOf s c text
  pub long : 65536 < length text
  pub named : rule ≡ TooLong (length text)

-- the first rule that the command breaks
abbrev pub IsRefused : Noticed → Command → NoticeRefusal → Type 0
IsRefused s c rule = (broken s c ≡ Some rule) ⊎ IsTooLong s c rule

-- it breaks none, and this is its notice
pub record IsAccepted (s : Noticed) (c : Command) (text : List ℕ) : Type 0 where
  pub kept : broken s c ≡ None
  pub notice : IsNoticeOf s c text
  pub short : length text ≤ 65536

-- what an accepted command leaves: the rows after its lines, and its minute
abbrev pub after : Noticed → Command → Noticed
after s c = record { by = s.by; rows = rows_after s.rows c.at (lines_of s.rows c); last = c.at }

-- before the first command: no rows
abbrev pub first : Issuer → Noticed
first by = record { by = by; rows = []; last = 0 }
