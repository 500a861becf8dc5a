-- A file that goes into a mailbox keeps the invariant.
use Prim.Native.Nat.{ℕ, ◌≤◌}
use mathlib.Core.Bool.{Bool, true, false}
use mathlib.Core.List.{List}
use mathlib.Core.Path.{◌≡◌, refl}
use lib.ListN.{length}
use Rattle.message.specs.Limits.{subscribers, file_bytes}
use Rattle.bank_state.specs.State.{BankState, download_at, file_length}
use Rattle.bank_verdicts.specs.Refusals.{find_order}
use Rattle.bank_admitted.specs.State.{mailbox_file}
use Rattle.bank_admitted.proofs.Files.{filled, downloads-elsewhere}
use Rattle.bank_admitted.proofs.Files as admitted
use Rattle.bank_history.specs.History.{Exchange}
use Rattle.bank_history.specs.Invariant.{DownloadTold, Invariant}
use Rattle.bank_history.proofs.Uploads.{booked-at}

module _ (w : BankState) (h : List Exchange) (v : Invariant w h) (mailbox : ℕ) (file : List ℕ) (known : 1 ≤ mailbox)
    (most : mailbox ≤ subscribers)
    (some : 1 ≤ length file) (short : length file ≤ file_bytes) (empty : file_length mailbox w.bank.files ≡ 0) where
  -- the file of an open download is that of another mailbox
  downloads-stay : (j : ℕ) → DownloadTold (download_at w.bank j).used h
      (mailbox_file (filled mailbox file w) (download_at w.bank j).subscriber) (download_at w.bank j)
  downloads-stay j =
      at (download_at w.bank j).used (downloads-elsewhere w v.state mailbox file known most some short empty j) (v.downloads j)
    where
      at : (u : Bool) → (u ≡ true → mailbox_file (filled mailbox file w) (download_at w.bank j).subscriber
          ≡ mailbox_file w (download_at w.bank j).subscriber) →
          DownloadTold u h (mailbox_file w (download_at w.bank j).subscriber) (download_at w.bank j) →
          DownloadTold u h (mailbox_file (filled mailbox file w) (download_at w.bank j).subscriber) (download_at w.bank j)
      at false e s = s
      at true e s = rw (e refl) s

  pub filled_keeps : Invariant (filled mailbox file w) h
  unfolding find_order
  filled_keeps = record {
    state = admitted.filled_keeps w v.state mailbox file known most some short empty;
    counted = v.counted;
    series = v.series;
    places = v.places;
    downloads = downloads-stay;
    memory = v.memory;
    signers = v.signers;
    known = v.known;
    booked = λ t e. booked-at w (filled mailbox file w) t (v.booked t e) refl;
    sound = v.sound;
  }
