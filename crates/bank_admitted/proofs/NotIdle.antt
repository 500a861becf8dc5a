-- A request leaves no open transaction idle where none was.
use Prim.Native.Nat.{ℕ, ◌+◌, ◌≤◌, ◌<◌}
use mathlib.Core.Bool.{true}
use mathlib.Core.List.{List}
use mathlib.Core.Path.{◌≡◌, sym, subst}
use native.Mathlib.Decide.{dec_lt}
use native.Mathlib.Omega.{arith}
use lib.ListN.{length, get_or, set}
use lib.Seq.{set_out}
use Rattle.frame_table.specs.declared.fields.Bits128.{Bits128}
use Rattle.frame_table.specs.declared.fields.Fields.{Fields}
use Rattle.octets.proofs.Tests.{never}
use Rattle.bank_state.specs.declared.clock.Ended.{Ended}
use Rattle.bank_state.specs.declared.state.Download.{Download}
use Rattle.bank_state.specs.declared.state.Place.{Place}
use Rattle.bank_state.specs.Clock.{end_downloads}
use Rattle.bank_state.specs.Limits.{place_count, idle_limit}
use Rattle.bank_state.specs.Search.{is_open, free_place, free_download}
use Rattle.bank_state.specs.State.{BankState, no_place, no_download, place_at}
use Rattle.bank_state.proofs.Drops.{each-end_downloads}
use Rattle.bank_openings.specs.Openings.{counted, counted_upload, open_upload, open_download}
use Rattle.bank_signing.specs.Signings.{sign}
use Rattle.bank_verdicts.specs.declared.verdict.TransactionRequest.{TransactionRequest}
use Rattle.bank_verdicts.specs.declared.verdict.UploadAction.{UploadAction}
use Rattle.bank_verdicts.specs.declared.verdict.UploadAction.TheVariants as up
use Rattle.bank_verdicts.specs.declared.verdict.DownloadAction.{DownloadAction}
use Rattle.bank_verdicts.specs.declared.verdict.Verdict.{Verdict}
use Rattle.bank_verdicts.specs.Judgement.{order_at, upload_at, download_of}
use Rattle.bank_verdicts.proofs.Sound.{
  DownloadSound,
  delivered,
  sent_again,
  download_point,
  cancelled,
  confirmed,
  declined,
}
use Rattle.bank_uploads.specs.Uploads.{grown, booked, attempted, place_after}
use Rattle.bank_steps.specs.Steps.{on_upload, download_acts, carry_out}
use Rattle.bank_admitted.specs.State.{NoneIdle}
use Rattle.bank_admitted.proofs.Rows.{each_set}
use Rattle.bank_steps.proofs.Cases.{
  Happens,
  unreadable,
  refused,
  opens_upload,
  opens_download,
  to_upload,
  to_download,
  signs,
  upload-acts,
}

module _ (w : BankState) (not_idle : NoneIdle w) where
  abbrev PlaceNotIdle : Place → Type 0
  PlaceNotIdle p = is_open p.used ≡ true → w.bank.clock ≤ p.last + idle_limit

  abbrev DownloadNotIdle : Download → Type 0
  DownloadNotIdle e = e.used ≡ true → w.bank.clock ≤ e.last + idle_limit

  -- one place changed
  place_set : length w.bank.places ≡ place_count → (i : ℕ) (p : Place) → i < place_count → PlaceNotIdle p → (j : ℕ) → j < place_count →
      PlaceNotIdle (get_or (set w.bank.places i p) j no_place)
  place_set long i p inside new j a =
      each_set w.bank.places i p no_place (omega arith) (λ (k : ℕ) (r : Place). k < place_count → PlaceNotIdle r) (λ _. new)
      (λ k n b. not_idle.places k b) j a

  -- one download changed; no record there, no change
  download-set : (i : ℕ) (e : Download) → DownloadNotIdle e → (j : ℕ) → DownloadNotIdle (get_or (set w.bank.downloads i e) j no_download)
  download-set i e new j = at (dec_lt i (length w.bank.downloads))
    where
      at : Dec (i < length w.bank.downloads) → DownloadNotIdle (get_or (set w.bank.downloads i e) j no_download)
      at (yes l) = each_set w.bank.downloads i e no_download l (λ (k : ℕ) (r : Download). DownloadNotIdle r) new
          (λ k n. not_idle.downloads k) j
      at (no l) = rw (set_out w.bank.downloads i e (omega arith)) (not_idle.downloads j)

  download-ended : (which : Ended) (j : ℕ) → DownloadNotIdle (get_or (end_downloads which w.bank.downloads) j no_download)
  download-ended which =
      each-end_downloads (λ (r : Download). DownloadNotIdle r) (λ z. never z) which w.bank.downloads (λ i _ _. not_idle.downloads i)

  -- the place of an open upload, after an action
  after-not-idle : (a : UploadAction) (n : ℕ) (p : Place) → PlaceNotIdle p → PlaceNotIdle (place_after a w.bank.clock n p)
  unfolding grown booked attempted
  after-not-idle (up.Opened m) n p old = old
  after-not-idle up.Took n p old = λ _. omega arith
  after-not-idle up.TookLast n p old = λ z. never z
  after-not-idle (up.Point k) n p old = old
  after-not-idle (up.Cancelled c) n p old = λ z. never z

  upload-not-idle : length w.bank.places ≡ place_count → (i : ℕ) → i < place_count → (a : UploadAction) (d : List ℕ) →
      NoneIdle (on_upload a i w d)
  upload-not-idle long i inside a d = record {
    places = place_set long i _ inside (after-not-idle a (length d) (place_at w.bank i) (not_idle.places i inside));
    downloads = not_idle.downloads;
  }

  download-not-idle : (q : Fields) (t : Bits128) {r : TransactionRequest} {e : Download} {n : ℕ} {a : DownloadAction} →
      DownloadSound r e n q a → NoneIdle (download_acts a t w q)
  download-not-idle q t (delivered f next within) =
      record { places = not_idle.places; downloads = download-set _ _ (λ _. omega arith) }
  download-not-idle q t (sent_again f some again few) =
      record { places = not_idle.places; downloads = download-set _ _ (not_idle.downloads (download_of w.bank q)) }
  download-not-idle q t (download_point fits few) =
      record { places = not_idle.places; downloads = download-set _ _ (not_idle.downloads (download_of w.bank q)) }
  download-not-idle q t (cancelled fits many) = record { places = not_idle.places; downloads = download-ended _ }
  download-not-idle q t (confirmed f whole taken) = record { places = not_idle.places; downloads = download-ended _ }
  download-not-idle q t (declined f whole other) = record { places = not_idle.places; downloads = download-ended _ }

  pub case-not-idle : (first : ℕ) (q : Fields) (d : List ℕ) {v : Verdict} → length w.bank.places ≡ place_count →
      Happens first w q d v → NoneIdle (carry_out v w q d)
  unfolding open_upload open_download counted_upload counted sign
  case-not-idle first q d long unreadable = not_idle
  case-not-idle first q d long (refused c e) = not_idle
  case-not-idle first q d long (opens_upload asked a g n inside below) =
      record { places = place_set long (free_place w.bank) _ inside (λ _. omega arith); downloads = not_idle.downloads }
  case-not-idle first q d long (opens_download asked a g n) =
      record { places = not_idle.places; downloads = download-set (free_download w.bank) _ (λ _. omega arith) }
  case-not-idle first q d long (to_upload r a t) =
      subst NoneIdle (sym (upload-acts (place_at w.bank (upload_at w.bank q)).transaction t))
      (upload-not-idle long (upload_at w.bank q) t.inside a d)
  case-not-idle first q d long (to_download r a t) = download-not-idle q _ t.sound
  case-not-idle first q d long (signs t) = record {
    places =
        place_set long (order_at w.bank q) _ t.signable.inside
        (not_idle.places (order_at w.bank q) t.signable.inside);
    downloads = not_idle.downloads;
  }
