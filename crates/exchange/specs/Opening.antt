-- What demand 3's terms rest on: "its transaction's opening" is one exchange, and that of one run.
use Rattle.std.specs.Prelude.{ℕ, ◌⊎◌, List, ◌≡◌}
use Rattle.frame_table.specs.Forms as forms
use Rattle.exchange.specs.Course.{Call, Exchange, Course, start, after}
use Rattle.exchange.specs.Lists.{AtMostOne}
use Rattle.exchange.specs.Terms.{Opened, UploadOpenedBy}
use Rattle.exchange.specs.Demand3.{AllAllowed, OneExchangeNumber}

-- the opening of the run's transaction, an upload's or a download's
abbrev pub OpenedAs : Course → ℕ → Exchange → Type 0
OpenedAs s i e = UploadOpenedBy s i e ⊎ Opened forms.DownloadOpened s i e

pub record OneOpening (s : Course) : Type 0 where
  -- no run's transaction has two
  pub once : (i : ℕ) → AtMostOne (OpenedAs s i) s.exchanged
  pub upload : (i : ℕ) → AtMostOne (UploadOpenedBy s i) s.exchanged
  pub download : (i : ℕ) → AtMostOne (Opened forms.DownloadOpened s i) s.exchanged
  -- and no two runs' transactions have one
  pub apart : (i j : ℕ) (e : Exchange) → OpenedAs s i e → OpenedAs s j e → i ≡ j

-- over every list of calls that keeps demand 3's premises
unfoldable pub Openings : Type 0
Openings = (ks : List Call) → AllAllowed ks start → OneExchangeNumber (after ks start) → OneOpening (after ks start)
