-- The bank that a request leaves is one that rows can hold. Assumes nothing.
use Prim.Native.Nat.{ℕ, ◌-◌, ◌<◌}
use mathlib.Core.Bool.{Bool, true}
use mathlib.Core.List.{List}
use mathlib.Core.Path.{◌≡◌, refl, sym, ap, ◌∙◌, subst}
use native.Mathlib.Omega.{arith}
use lib.ListN.{length, replicate}
use Rattle.frame_table.specs.declared.fields.Fields.{Fields}
use Rattle.frame_table.specs.Names.{subscriber, transaction}
use Rattle.bank_state.specs.State.{Bank}
use Rattle.bank_state.specs.declared.state.Download.{Download}
use Rattle.bank_state.specs.declared.state.Place.{Place}
use Rattle.bank_state.specs.Limits.{place_count}
use Rattle.bank_state.specs.Search.{is_open, is_upload, find_upload, is_download, find_download}
use Rattle.bank_state.specs.State.{BankState, bank_state, no_place, no_download, place_at, download_at}
use Rattle.bank_state.proofs.Found.{upload-found, download-found}
use Rattle.bank_state.proofs.Rows.{first_passes}
use Rattle.bank_rows.specs.Layout.{state_size}
use Rattle.bank_rows.specs.State.{download_count_of, bank_of, open_downloads, stored, Laid, Held}
use Rattle.bank_rows.proofs.Calls.{zeros-laid, held_place, held-file, held-ended}
use Rattle.bank_rows.proofs.Calls as calls
use Rattle.bank_rows.proofs.Reading.{found-download}
use Rattle.bank_rows.proofs.State.{stored_back, stored-laid, stored-download-count}
use Rattle.bank_verdicts.specs.declared.verdict.Context.{Context}
use Rattle.message.specs.declared.directions.Direction.{Direction}
use Rattle.message.specs.declared.directions.Direction.TheVariants as direction
use Rattle.bank_verdicts.specs.declared.verdict.DownloadAction.{DownloadAction}
use Rattle.bank_verdicts.specs.declared.verdict.DownloadAction.TheVariants as down
use Rattle.bank_verdicts.specs.declared.verdict.TransactionRequest.{TransactionRequest}
use Rattle.bank_verdicts.specs.declared.verdict.Verdict.{Verdict}
use Rattle.bank_verdicts.specs.Judgement.{mailbox_segments, judge_opening, judge_download, upload_at, download_of, judge}
use Rattle.bank_verdicts.proofs.Sound.{OpeningSound}
use Rattle.bank_verdicts.proofs.Sound as sound
use Rattle.bank_verdicts.proofs.Signing.{SigningSound}
use Rattle.bank_verdicts.proofs.Signing as signing
use Rattle.bank_openings.proofs.Opened.{accepted-room, held-upload, held-download}
use Rattle.bank_signing.proofs.Signed.{held-signed}
use Rattle.bank_downloads.specs.Downloads.{download_after}
use Rattle.bank_steps.specs.Steps.{staying, on_download, carry_out, upload_verdict, download_verdict}
use Rattle.bank_steps.proofs.Carried.{upload-acts, download-acts}
use Rattle.bank_steps.proofs.Judged.{judged-each}

-- a download keeps its use
pub after-used : (a : DownloadAction) (t : ℕ) (e : Download) → (download_after a t e).used ≡ e.used
after-used (down.Opened n) t e = refl
after-used (down.Delivered n) t e = refl
after-used (down.SentAgain n) t e = refl
after-used (down.Point k) t e = refl
after-used down.Cancelled t e = refl
after-used down.Confirmed t e = refl
after-used down.Declined t e = refl

-- ---- what is found

-- in rows, a download that is found is one of those in use
pub download-counted : (s : List ℕ) → Laid s → (q : Fields) {j : ℕ} → j ≡ download_of (bank_of s) q → j < place_count
    → j < download_count_of s
unfolding find_download is_download
download-counted s l q e h =
    let f = found-download s l (is_download (subscriber q) (transaction q)) refl (omega arith) in
    omega arith

module _ (b : Bank) (k : Held b) (q : Fields) where
  -- an upload is open
  pub upload-open : {i : ℕ} → i ≡ upload_at b q → i < place_count → is_open (place_at b i).used ≡ true
  unfolding find_upload
  upload-open e h =
      let test : Place → Bool = is_upload (subscriber q) (transaction q) in
      let passes = first_passes test b.places no_place (omega (arith, k.places)) in
      ap (λ (i : ℕ). is_open (place_at b i).used) e
      ∙ ap is_open (upload-found (subscriber q) (transaction q) (place_at b (upload_at b q)) passes).0

  -- a download is in use, and its subscriber's
  pub download-open : {j : ℕ} → j ≡ download_of b q → j < place_count
      → ((download_at b j).used ≡ true) × ((download_at b j).subscriber ≡ subscriber q)
  unfolding find_download
  download-open e h =
      let test : Download → Bool = is_download (subscriber q) (transaction q) in
      let passes = first_passes test b.downloads no_download (omega (arith, k.downloads)) in
      let found = download-found (subscriber q) (transaction q) (download_at b (download_of b q)) passes in (
        ap (λ (j : ℕ). (download_at b j).used) e ∙ found.0,
        ap (λ (j : ℕ). (download_at b j).subscriber) e ∙ found.1,
      )

  found-open : download_of b q < place_count → download_of b q < length (open_downloads b)
  found-open =
      let zeros : List ℕ = replicate state_size 0 in
      let s = stored b zeros in
      let n = stored-download-count b k zeros zeros-laid in
      subst (λ (x : Bank). download_of x q < place_count → download_of x q < length (open_downloads b))
      (stored_back b k zeros zeros-laid)
      (λ h. omega (arith, n, download-counted s (stored-laid b k zeros zeros-laid) q refl h))

  -- ---- what is left

  module _ (o m d : List ℕ) where
    abbrev w : BankState
    w = bank_state b o m

    abbrev P : Verdict → Type 0
    P v = Held (carry_out v w q d).bank

    opening-held : (context : Context) (dir : Direction) (v : Verdict) → OpeningSound context.prefix b q dir v
        → judge_opening dir context b q ≡ v → P v
    opening-held context dir v (sound.refused e c h) told = k
    opening-held context dir v (sound.upload acc some free below) told =
        held-upload q b k (accepted-room context b q k direction.Upload told) _ _
    opening-held context dir v (sound.download acc full) told =
        held-download q b k (accepted-room context b q k direction.Download told) _

    signing-held : (v : Verdict) → SigningSound b q v → P v
    signing-held v (signing.unsigned c h) = k
    signing-held v (signing.signs a) = held-signed q b k a.memory

    upload-held : (r : TransactionRequest) → P (upload_verdict r (upload_at b q) b q)
    upload-held r =
        let p = place_at b (upload_at b q) in
        subst (λ (x : BankState). Held x.bank) (sym (upload-acts p.transaction w q d r p))
        (held_place (upload_at b q) _ k)

    module _ (h : download_of b q < place_count) where
      abbrev j : ℕ
      j = download_of b q

      staying-held : (a : DownloadAction) → Held (staying a j w).bank
      staying-held a =
          calls.held-download j (download_after a b.clock (download_at b j)) k
          (after-used a b.clock (download_at b j) ∙ (download-open refl h).0) (found-open h)

      on-download-held : (a : DownloadAction) → Held (on_download a j w q).bank
      on-download-held (down.Opened n) = staying-held (down.Opened n)
      on-download-held (down.Delivered n) = staying-held (down.Delivered n)
      on-download-held (down.SentAgain n) = staying-held (down.SentAgain n)
      on-download-held (down.Point n) = staying-held (down.Point n)
      on-download-held down.Cancelled = held-ended _ k
      on-download-held down.Confirmed = held-file (subscriber q - 1) 0 (held-ended _ k)
      on-download-held down.Declined = held-ended _ k

      download-held : (r : TransactionRequest) → P (download_verdict r j b q)
      download-held r =
          let e = download_at b j in
          let n = mailbox_segments (subscriber q) b in
          subst (λ (x : BankState). Held x.bank) (sym (download-acts e.transaction w q d r e n))
          (on-download-held (judge_download r e n q))

    pub held-judged : (context : Context) → P (judge context b q (length d))
    held-judged context =
        judged-each context b q (length d) P k (λ c. k) (λ _. opening-held context) (λ _. signing-held)
        (λ _ r _. upload-held r)
        (λ _ r h. download-held h r)
