-- One place and one record of downloads: its state, and what the history tells of it, together.
use Prim.Native.Nat.{ℕ, ◌<◌}
use mathlib.Core.Bool.{Bool}
use mathlib.Core.List.{List}
use Rattle.bank_state.specs.declared.state.Download.{Download}
use Rattle.bank_state.specs.declared.state.Place.{Place}
use Rattle.bank_state.specs.declared.state.Use.{Use}
use Rattle.bank_state.specs.Limits.{place_count}
use Rattle.bank_state.specs.State.{BankState, place_at, download_at}
use Rattle.bank_state.specs.Store.{part_at}
use Rattle.bank_admitted.specs.State.{mailbox_file, OpenPlace, PlaceHolds, OpenRecord, DownloadHolds}
use Rattle.bank_history.specs.History.{Exchange}
use Rattle.bank_history.specs.Invariant.{UploadTold, PlaceTold, OpenTold, DownloadTold, Invariant}

abbrev pub PlaceKept : Use → ℕ → ℕ → List Exchange → Place → List ℕ → Type 0
PlaceKept u clock openings h p bytes = PlaceHolds u clock openings p bytes × PlaceTold u h p bytes

abbrev pub OpenUpload : ℕ → ℕ → List Exchange → Place → List ℕ → Type 0
OpenUpload clock openings h p bytes = OpenPlace clock openings p bytes × UploadTold h p bytes

abbrev pub DownloadKept : Bool → ℕ → ℕ → List Exchange → List ℕ → Download → Type 0
DownloadKept u clock openings h file e = DownloadHolds u clock openings file e × DownloadTold u h file e

abbrev pub OpenDownload : ℕ → ℕ → List Exchange → List ℕ → Download → Type 0
OpenDownload clock openings h file e = OpenRecord clock openings file e × OpenTold h file e

module _ {w : BankState} {h : List Exchange} (v : Invariant w h) where
  pub place_kept : (i : ℕ) → i < place_count →
      PlaceKept (place_at w.bank i).used w.bank.clock w.bank.openings h (place_at w.bank i) (part_at w.orders i)
  place_kept i a = (v.state.places i a, v.places i a)

  pub download-kept : (j : ℕ) →
      DownloadKept (download_at w.bank j).used w.bank.clock w.bank.openings h
      (mailbox_file w (download_at w.bank j).subscriber) (download_at w.bank j)
  download-kept j = (v.state.downloads j, v.downloads j)
