-- An open download stays open, and as it is, while no idle hour passes, no request is to it and its mailbox is not emptied.
use Prim.Native.Nat.{ℕ, ◌+◌, ◌<◌, max}
use mathlib.Core.Bool.{Bool, true, false, not, ◌&&◌}
use mathlib.Core.List.{List}
use mathlib.Core.Path.{◌≡◌, refl, sym, ap, ◌∙◌, subst}
use native.Mathlib.Omega.{arith}
use lib.Dec.{eqb}
use lib.ListN.{length, get_or, set}
use lib.Seq.{get_or-set_other}
use borrow.Author.Tests.{le-ltb, eqb-true}
use Rattle.frame_table.specs.declared.fields.Bits128.{Bits128}
use Rattle.frame_table.specs.declared.fields.Fields.{Fields}
use Rattle.frame_table.specs.Names.{subscriber, transaction, same_bits}
use Rattle.octets.proofs.Tests.{never, and-true-right}
use Rattle.frame_table.proofs.Bits.{bits-same}
use Rattle.bank_state.specs.declared.clock.Ended.{Ended}
use Rattle.bank_state.specs.declared.clock.Ended.TheVariants as ended
use Rattle.bank_state.specs.State.{Bank}
use Rattle.bank_state.specs.declared.state.Download.{Download}
use Rattle.bank_state.specs.Clock.{is_idle, ends, end_downloads, advanced}
use Rattle.bank_state.specs.Limits.{place_count, idle_limit}
use Rattle.bank_state.specs.Search.{is_download, free_download}
use Rattle.bank_state.specs.State.{BankState, no_download, place_at, download_at}
use Rattle.bank_verdicts.specs.declared.verdict.DownloadAction.{DownloadAction}
use Rattle.bank_verdicts.specs.declared.verdict.DownloadAction.TheVariants as down
use Rattle.bank_verdicts.specs.declared.verdict.Action.TheVariants as action
use Rattle.bank_verdicts.specs.declared.verdict.Verdict.{Verdict}
use Rattle.bank_verdicts.specs.declared.verdict.Verdict.TheVariants as verdict
use Rattle.bank_verdicts.specs.Judgement.{upload_at, download_of}
use Rattle.bank_signing.specs.Signings.{sign}
use Rattle.bank_openings.specs.Openings.{counted, counted_upload, open_upload, open_download}
use Rattle.bank_steps.specs.Steps.{download_acts, carry_out}
use Rattle.bank_history.specs.History.{Exchange, is_opening, is_action, did}
use Rattle.bank_history.specs.Invariant.{Invariant}
use Rattle.bank_history.specs.Transactions.{DownloadAt, DownloadUnlessIdle}
use Rattle.bank_state.proofs.Drops.{length-end_downloads, advanced-at-clock}
use Rattle.bank_state.proofs.Rows.{first_passes, keep_only-holds}
use Rattle.bank_steps.proofs.Cases.{Happens, unreadable, refused, opens_upload, opens_download, signs, to_upload, to_download, upload-acts}
use Rattle.bank_history.proofs.GoesOn.{download-goes-on}
use Rattle.bank_history.proofs.Entries.{same_bits_lem}
use Rattle.bank_admitted.proofs.Clock.{advanced-clock}
use Rattle.bank_state.proofs.Found.{download-found}

-- the same record at another place of the row
pub record-moved : {w w' : BankState} {t : Bits128} {s d last : ℕ} → (u : DownloadAt w t s d last) (j : ℕ) → j < place_count →
    download_at w'.bank j ≡ download_at w.bank u.row →
    DownloadAt w' t s d last
record-moved u j inside e = record {
  row = j;
  inside = inside;
  used = ap (λ (r : Download). r.used) e ∙ u.used;
  transaction = ap (λ (r : Download). r.transaction) e ∙ u.transaction;
  subscriber = ap (λ (r : Download). r.subscriber) e ∙ u.subscriber;
  delivered = ap (λ (r : Download). r.delivered) e ∙ u.delivered;
  fitting = ap (λ (r : Download). r.last) e ∙ u.fitting;
}

free-record : (b : Bank) → free_download b < length b.downloads → not (download_at b (free_download b)).used ≡ true
unfolding free_download
free-record b h = first_passes (λ (e : Download). not e.used) b.downloads no_download h

module _ (t : Bits128) (s d last : ℕ) where
  -- a download that does not end is kept
  kept-open : (w : BankState) → length w.bank.downloads ≡ place_count → (u : DownloadAt w t s d last) (which : Ended) (w' : BankState) →
      w'.bank.downloads ≡ end_downloads which w.bank.downloads → ends which (download_at w.bank u.row) ≡ false →
      DownloadAt w' t s d last
  unfolding end_downloads
  kept-open w long u which w' same stays =
      let inside = u.inside in
      let test : (download_at w.bank u.row).used && not (ends which (download_at w.bank u.row)) ≡ true = rw (u.used, stays) in
      let l : List Download = w.bank.downloads in
      let k = keep_only-holds (λ (e : Download). e.used && not (ends which e)) no_download l u.row (omega arith) test in
      let b = k.1.0 in
      let n = length-end_downloads which l in
      record-moved u k.0 (omega arith) (ap (λ (l : List Download). get_or l k.0 no_download) same ∙ k.1.1)

  -- open at the idle limit, gone after it
  pub advanced-open : (time : ℕ) (w : BankState) → length w.bank.downloads ≡ place_count → DownloadUnlessIdle w t s d last →
      DownloadUnlessIdle (advanced time w) t s d last
  unfolding is_idle ends
  advanced-open time w long before h =
      let c = advanced-clock time w in
      let u = before (omega arith) in
      let z = u.fitting in
      kept-open w long u (ended.Idle (max w.bank.clock time)) (advanced time w)
      (advanced-at-clock time w).downloads
      (le-ltb ((download_at w.bank u.row).last + idle_limit) (max w.bank.clock time) (omega arith))

  module _ (w : BankState) (h : List Exchange) (v : Invariant w h) (u : DownloadAt w t s d last) where
    other-id : (q : Bits128) → same_bits t q && true ≡ false → (download_at w.bank u.row).transaction ≡ q → ⊥
    other-id q f e =
        never (sym (and-true-right (same_bits t q) ∙ f)
        ∙ (ap (λ (b : Bits128). same_bits t b) (sym e ∙ u.transaction) ∙ same_bits_lem t))

    step-open : (q : Fields) (a : DownloadAction) → let j = download_of w.bank q in
        is_download (subscriber q) (transaction q) (download_at w.bank j) ≡ true → is_opening (action.Download a) ≡ false →
        did is_action t (verdict.Of (download_at w.bank j).transaction (action.Download a)) ≡ false →
        (a ≡ down.Confirmed → subscriber q ≡ s → ⊥) →
        DownloadAt (download_acts a (download_at w.bank j).transaction w q) t s d last
    unfolding ends
    step-open q a found goes f emptied = at a goes emptied
      where
        j : ℕ
        j = download_of w.bank q

        other : u.row ≡ j → ⊥
        other z = other-id (download_at w.bank j).transaction f (ap (λ (m : ℕ). (download_at w.bank m).transaction) z)

        set_other : (e : Download) → get_or (set w.bank.downloads j e) u.row no_download ≡ download_at w.bank u.row
        set_other e = get_or-set_other w.bank.downloads j u.row e no_download other

        no_found : (b : Bool) → is_download (subscriber q) (transaction q) (download_at w.bank u.row) ≡ b → b ≡ false
        no_found false e = refl
        no_found true e =
            let a = download-found (subscriber q) (transaction q) (download_at w.bank u.row) e in
            let b = download-found (subscriber q) (transaction q) (download_at w.bank j) found in
            absurd (other-id (download_at w.bank j).transaction f
            (bits-same _ (transaction q) a.2 ∙ sym (bits-same _ (transaction q) b.2)))

        no-owner : (subscriber q ≡ s → ⊥) → (b : Bool) → eqb (download_at w.bank u.row).subscriber (subscriber q) ≡ b → b ≡ false
        no-owner n false e = refl
        no-owner n true e = absurd (n (sym (eqb-true _ (subscriber q) e) ∙ u.subscriber))

        at : (a : DownloadAction) → is_opening (action.Download a) ≡ false → (a ≡ down.Confirmed → subscriber q ≡ s → ⊥) →
            DownloadAt (download_acts a (download_at w.bank j).transaction w q) t s d last
        at (down.Opened m) e n = never (sym e)
        at (down.Delivered m) e n = record-moved u u.row u.inside (set_other _)
        at (down.SentAgain m) e n = record-moved u u.row u.inside (set_other _)
        at (down.Point m) e n = record-moved u u.row u.inside (set_other _)
        at down.Cancelled e n =
            kept-open w v.state.sizes.downloads u (ended.Transaction (subscriber q) (transaction q)) _ refl (no_found _ refl)
        at down.Confirmed e n = kept-open w v.state.sizes.downloads u (ended.Mailbox (subscriber q)) _ refl (no-owner (n refl) _ refl)
        at down.Declined e n =
            kept-open w v.state.sizes.downloads u (ended.Transaction (subscriber q) (transaction q)) _ refl (no_found _ refl)

    -- a request to another transaction, and no receipt of this subscriber answered 011000
    pub case_open : (first : ℕ) (q : Fields) (b : List ℕ) {x : Verdict} → Happens first w q b x → did is_action t x ≡ false →
        ((id : Bits128) → x ≡ verdict.Of id (action.Download down.Confirmed) → subscriber q ≡ s → ⊥) →
        DownloadAt (carry_out x w q b) t s d last
    unfolding open_upload counted_upload open_download counted sign
    case_open first q b unreadable f n = u
    case_open first q b (refused c e) f n = u
    case_open first q b (signs c) f n = record-moved u u.row u.inside refl
    case_open first q b (opens_upload asked a g m inside below) f n = record-moved u u.row u.inside refl
    case_open first q b (opens_download asked a g m) f n =
        record-moved u u.row u.inside (get_or-set_other w.bank.downloads (free_download w.bank) u.row _ no_download taken_free)
      where
        taken_free : u.row ≡ free_download w.bank → ⊥
        taken_free z =
            let i = u.inside in
            let l = v.state.sizes.downloads in
            let a = free-record w.bank (omega arith) in
            never (sym (ap not u.used) ∙ (ap (λ (m : ℕ). not (download_at w.bank m).used) z ∙ a))
    case_open first q b (to_upload r a c) f n =
        subst (λ (z : BankState). DownloadAt z t s d last) (sym (upload-acts (place_at w.bank (upload_at w.bank q)).transaction c))
        (record-moved u u.row u.inside refl)
    case_open first q b (to_download r a c) f n =
        let i = (download_at w.bank (download_of w.bank q)).transaction in
        step-open q a c.found (download-goes-on c.sound) f
        (λ z. n i (ap (λ (y : DownloadAction). verdict.Of i (action.Download y)) z))
