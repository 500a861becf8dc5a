-- An opening that acts on a transaction is accepted; the other verdicts change nothing. Assumes nothing.
use mathlib.Core.Path.{◌≡◌, sym, ap, ◌∙◌, subst}
use Rattle.frame_table.specs.declared.fields.Fields.{Fields}
use Rattle.bank_state.specs.State.{Bank}
use Rattle.bank_rows.specs.State.{bank_of}
use Rattle.bank_rows.proofs.State.{held_rows}
use Rattle.bank_verdicts.specs.declared.verdict.Context.{Context}
use Rattle.message.specs.declared.directions.Direction.{Direction}
use Rattle.message.specs.declared.directions.Direction.TheVariants as direction
use Rattle.bank_verdicts.specs.declared.verdict.Verdict.{Verdict}
use Rattle.bank_verdicts.specs.Judgement.{judge_opening}
use Rattle.bank_verdicts.proofs.Signing.{is_signed, opening-signs-not}
use Rattle.bank_openings.proofs.Opened.{accepted-room, accepted-fits}
use Rattle.bank_steps.specs.Lent.{lent, CarriedOut}
use Rattle.bank_steps.proofs.Carried.{unacted}
use Rattle.bank_steps.proofs.Lent.{none-carried, upload-opening-carried, download-opening-carried}
use Rattle.bank_steps.proofs.steps.opening.Goals as goal

-- the verdict, where the direction is known to be e
judged-in : (k : Context) (b : Bank) (q : Fields) {d e : Direction} {v w : Verdict}
    → v ≡ judge_opening d k b q → d ≡ e → v ≡ w → judge_opening e k b q ≡ w
judged-in k b q is way told =
    sym (ap (λ (x : Direction). judge_opening x k b q) way) ∙ sym is ∙ told

pub open_upload-requires : goal.open_upload-requires
open_upload-requires c =
    let a = c.args in
    let b = bank_of a.rows.now in
    let held = held_rows a.rows.now c.requires in
    let told = judged-in a.context b a.q c.judge_opening-verdict.ensures c.in-Of-Upload.is-1 c.in-Of-Upload.is-0 in (
      c.requires,
      accepted-room a.context b a.q held direction.Upload told,
      accepted-fits a.context b a.q held told c.opened_number.ensures,
    )

pub open_download-requires : goal.open_download-requires
open_download-requires c =
    let a = c.args in
    let b = bank_of a.rows.now in
    let told = judged-in a.context b a.q c.judge_opening-verdict.ensures c.in-Of-Download.is-1 c.in-Of-Download.is-0 in
    (c.requires, accepted-room a.context b a.q (held_rows a.rows.now c.requires) direction.Download told)

pub returns-in-Of-Upload : goal.returns-in-Of-Upload
returns-in-Of-Upload c =
    λ o m d.
    let a = c.args in
    let s = a.rows.now in
    let b = bank_of s in
    let told = judged-in a.context b a.q c.judge_opening-verdict.ensures c.in-Of-Upload.is-1 c.in-Of-Upload.is-0 in
    let done = upload-opening-carried s o m a.context a.q d told c.opened_number.ensures c.open_upload.ensures in
    rw (c.in-Of-Upload.is-1, c.in-Of-Upload.is-0) done

pub returns-in-Of-Download : goal.returns-in-Of-Download
returns-in-Of-Download c =
    λ o m d.
    let a = c.args in
    let s = a.rows.now in
    let b = bank_of s in
    let told = judged-in a.context b a.q c.judge_opening-verdict.ensures c.in-Of-Download.is-1 c.in-Of-Download.is-0 in
    let done = download-opening-carried s o m a.context a.q d told c.open_download.ensures in
    subst (λ (x : Direction). CarriedOut (judge_opening x a.context b a.q) (lent s o m) a.q d c.judge_opening-verdict.result (lent c.open_download.new.rows o m))
    (sym c.in-Of-Download.is-1)
    (subst (λ (v : Verdict). CarriedOut (judge_opening direction.Download a.context b a.q) (lent s o m) a.q d v (lent c.open_download.new.rows o m))
    (sym c.in-Of-Download.is-0) done)

pub returns-in_default : goal.returns-in_default
returns-in_default c =
    λ o m d.
    let a = c.args in
    let s = a.rows.now in
    let judged = c.judge_opening-verdict.ensures in
    subst (λ (v : Verdict). CarriedOut v (lent s o m) a.q d c.judge_opening-verdict.result (lent s o m)) judged
    (none-carried c.judge_opening-verdict.result s o m a.q d c.requires
    (unacted c.judge_opening-verdict.result c.in_default.not-Of-0)
    (ap is_signed judged ∙ opening-signs-not a.direction a.context (bank_of s) a.q))
