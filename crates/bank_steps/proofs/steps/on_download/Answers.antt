-- The step of the download of record j, and what its action ends. Assumes nothing.
use mathlib.Core.Path.{◌≡◌, sym, ap, ◌∙◌}
use Prim.Native.Nat.{ℕ}
use Rattle.bank_state.specs.declared.state.Download.{Download}
use Rattle.bank_state.specs.State.{bank_state, download_at}
use Rattle.bank_verdicts.specs.declared.verdict.Action.TheVariants as action
use Rattle.bank_verdicts.specs.declared.verdict.Verdict.TheVariants as verdict
use Rattle.bank_verdicts.specs.Judgement.{mailbox_segments}
use Rattle.frame_table.specs.Names.{subscriber}
use Rattle.bank_downloads.specs.declared.downloads.DownloadStep.{DownloadStep}
use Rattle.bank_downloads.specs.Downloads.{download_after, download_step}
use Rattle.bank_rows.specs.State.{bank_of}
use Rattle.bank_steps.specs.Steps.{on_download}
use Rattle.bank_steps.specs.Lent.{lent, kept_in}
use Rattle.bank_steps.proofs.Carried.{download-acts-at}
use Rattle.bank_steps.proofs.Held.{download-counted}
use Rattle.bank_steps.proofs.steps.on_download.Goals as goal

pub download_at-e-requires : goal.download_at-e-requires
download_at-e-requires c =
    let a = c.args in
    (c.requires.0, download-counted a.rows.now c.requires.0 a.q c.requires.2 c.requires.1)

pub downloads_after-requires : goal.downloads_after-requires
unfolding download_step
downloads_after-requires c =
    let stepped : let a = c.args in
    let b = bank_of a.rows.now in
    c.download_step-s.result
    ≡ download_step b.clock a.asked (download_at b a.j) (mailbox_segments (subscriber a.q) b) a.q = let a = c.args in
    let b = bank_of a.rows.now in
    let e = c.download_at-e.result in
    let n = c.mailbox_segments-n.result in
    let counted =
    c.mailbox_segments-n.ensures ∙ ap (λ (k : ℕ). mailbox_segments k b) c.subscriber.ensures in
    c.download_step-s.ensures
    ∙ ap (λ (t : ℕ). download_step t a.asked e n a.q) c.clock-time.ensures
    ∙ ap (λ (x : Download). download_step b.clock a.asked x n a.q) c.download_at-e.ensures
    ∙ ap (λ (k : ℕ). download_step b.clock a.asked (download_at b a.j) k a.q) counted in
    let a = c.args in
    let b = bank_of a.rows.now in
    let step = stepped in
    let kept =
    ap (λ (s : DownloadStep). s.entry) step
    ∙ sym (ap (λ (s : DownloadStep). download_after s.action b.clock (download_at b a.j)) step) in
    (c.requires.0, c.requires.1, c.requires.2, kept, c.requires.3, c.requires.4, c.requires.5)

pub returns : goal.returns
unfolding download_step
returns c =
    let stepped : let a = c.args in
    let b = bank_of a.rows.now in
    c.download_step-s.result
    ≡ download_step b.clock a.asked (download_at b a.j) (mailbox_segments (subscriber a.q) b) a.q = let a = c.args in
    let b = bank_of a.rows.now in
    let e = c.download_at-e.result in
    let n = c.mailbox_segments-n.result in
    let counted =
    c.mailbox_segments-n.ensures ∙ ap (λ (k : ℕ). mailbox_segments k b) c.subscriber.ensures in
    c.download_step-s.ensures
    ∙ ap (λ (t : ℕ). download_step t a.asked e n a.q) c.clock-time.ensures
    ∙ ap (λ (x : Download). download_step b.clock a.asked x n a.q) c.download_at-e.ensures
    ∙ ap (λ (k : ℕ). download_step b.clock a.asked (download_at b a.j) k a.q) counted in
    λ o d.
    let a = c.args in
    let s = a.rows.now in
    let m = a.mailboxes.now in
    let w = bank_state (bank_of s) o m in
    let e = download_at (bank_of s) a.j in
    let step = stepped in
    record {
      judged =
          ap (λ (x : Download). verdict.Of x.transaction (action.Download c.download_step-s.result.action))
          c.download_at-e.ensures
          ∙ ap (λ (x : DownloadStep). verdict.Of e.transaction (action.Download x.action)) step;
      done =
          c.downloads_after.ensures o
          ∙ ap (λ (x : DownloadStep). kept_in (lent s o m) (on_download x.action a.j w a.q)) step
          ∙ ap (kept_in (lent s o m)) (download-acts-at a.j w a.asked a.q d c.requires.2);
    }
