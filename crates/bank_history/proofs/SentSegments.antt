-- The segments of a download, by the replies of a sound history: those sent are 1 to d, and one that is delivered was not
-- sent before.
use Prim.Native.Nat.{ℕ, ◌≤◌}
use mathlib.Core.Bool.{Bool, true}
use mathlib.Core.List.{List, ◌∷◌}
use mathlib.Core.Logic.{◌⊎◌, inl, inr}
use mathlib.Core.Path.{◌≡◌, refl, sym, ap, ◌∙◌}
use native.Mathlib.Omega.{arith}
use Rattle.frame_table.specs.declared.fields.Bits128.{Bits128}
use Rattle.frame_table.specs.Forms as forms
use Rattle.frame_table.specs.Names.{transaction, segments, segment, return_code, form, same_bits}
use Rattle.octets.proofs.Tests.{never, and-true}
use Rattle.frame_table.proofs.Bits.{bits-same}
use Rattle.message.specs.declared.editions.Edition.{Edition}
use Rattle.message.specs.Codes.{code_field}
use Rattle.message.specs.Editions.{edition_of}
use Rattle.message.specs.Replies.{download_segment}
use Rattle.message.proofs.Verdicts.{by-test}
use Rattle.bank_verdicts.specs.declared.verdict.UploadAction.TheVariants as up
use Rattle.bank_verdicts.specs.declared.verdict.DownloadAction.TheVariants as down
use Rattle.bank_verdicts.specs.declared.verdict.Action.{Action}
use Rattle.bank_verdicts.specs.declared.verdict.Action.TheVariants as action
use Rattle.bank_verdicts.specs.declared.verdict.Verdict.{Verdict}
use Rattle.bank_verdicts.specs.declared.verdict.Verdict.TheVariants as verdict
use Rattle.bank_verdicts.specs.Replies.{reply_to}
use Rattle.bank_history.specs.History.{Exchange, Stands, newest, older, ActionIn, is_delivery, did, times, opens as is_opens}
use Rattle.bank_history.specs.Sound.{AllSound, more}
use Rattle.bank_history.specs.FalseEconomies.{Sent, Fits, opens, takes, delivers}
use Rattle.bank_history.proofs.Counted.{is_fitting}
use Rattle.bank_history.proofs.Entries.{times-own}
use Rattle.bank_history.proofs.Opened.{is-opened}
use Rattle.bank_history.proofs.Positions.{sound-at, action-sound}
use Rattle.bank_history.proofs.Replies.{
  verdict_form,
  verdict_code,
  verdict-form,
  verdict-code,
  action-transaction,
  action_form,
  action_code,
  IsAction,
  ActionOf,
  is-action,
  opened-answers,
}
use Rattle.bank_history.proofs.Theorems.{reply-is, download-opened}

pub action-in : (f : Action → Bool) (t : Bits128) (x : Exchange) (v : Verdict) → x.verdict ≡ v → did f t v ≡ true → ActionIn f t x
action-in f t x verdict.Unreadable e d = never d
action-in f t x (verdict.Refused c) e d = never d
action-in f t x (verdict.Signed n added) e d = never d
action-in f t x (verdict.Of u k) e d =
    let a = and-true (same_bits t u) (f k) d in
    record { action = k; is = e ∙ ap (λ (b : Bits128). verdict.Of b k) (sym (bits-same t u a.0)); kind = a.1 }

-- ---- what a reply shows of its action

module _ {u : Bits128} {k : Action} {f : Exchange} {g h : List Exchange} (sound : AllSound h) (stands : Stands f g h)
    (own : f.verdict ≡ verdict.Of u k) where
  pub reply-form : form f.reply ≡ action_form (edition_of f.request) k
  reply-form =
      ap form (reply-is sound stands)
      ∙ (verdict-form f.verdict f.request ∙ ap (verdict_form (edition_of f.request)) own)

  pub reply-code : return_code f.reply ≡ code_field (action_code k)
  reply-code =
      ap return_code (reply-is sound stands) ∙ (verdict-code f.verdict f.request ∙ ap (λ (v : Verdict). code_field (verdict_code v)) own)

  pub reply-transaction : (action_form (edition_of f.request) k ≡ forms.Refusal → ⊥) → transaction f.reply ≡ u
  reply-transaction n =
      ap transaction (reply-is sound stands ∙ ap (λ (v : Verdict). reply_to v f.request) own) ∙ action-transaction u f.request k n

-- a segment's reply has the number asked for
module _ {u : Bits128} {f : Exchange} {g h : List Exchange} (sound : AllSound h) (stands : Stands f g h) (m : ℕ) where
  pub delivered-number : f.verdict ≡ verdict.Of u (action.Download (down.Delivered m)) → segment f.reply ≡ segment f.request
  unfolding download_segment
  delivered-number own = ap segment (reply-is sound stands ∙ ap (λ (v : Verdict). reply_to v f.request) own)

  pub again-number : f.verdict ≡ verdict.Of u (action.Download (down.SentAgain m)) → segment f.reply ≡ segment f.request
  unfolding download_segment
  again-number own = ap segment (reply-is sound stands ∙ ap (λ (v : Verdict). reply_to v f.request) own)

-- ---- the segments sent are at most d

stands-times : (p : Action → Bool) (t : Bits128) {e : Exchange} {g h : List Exchange} → Stands e g h → times p t (e ∷ g) ≤ times p t h
unfolding times
stands-times p t newest = omega arith
stands-times p t {e} {g} (older {x = x} {h = h} s) =
    let a = stands-times p t s in
    by-test (λ (m : ℕ). times p t (e ∷ g) ≤ m) (did p t x.verdict) (λ _. omega arith) (λ _. omega arith)

pub sound-before : {e : Exchange} {g h : List Exchange} → AllSound h → Stands e g h → AllSound g
sound-before (more s r) newest = r
sound-before (more s r) (older p) = sound-before r p
sound-before {e = e} {g = g} Rattle.bank_history.specs.Sound.none x3 = elim x3 [ ]

pub sent-most : (t : Bits128) {n : ℕ} {h : List Exchange} → AllSound h → Sent t n h → n ≤ times is_delivery t h
sent-most t {n} {h} sound s = by_form s.formed
  where
    f : Exchange
    f = s.exchange

    g : List Exchange
    g = s.before

    grown : times is_delivery t (f ∷ g) ≤ times is_delivery t h
    grown = stands-times is_delivery t s.stands

    x : Edition
    x = edition_of f.request

    not-refusal : (k : Action) → action_form x k ≡ forms.DownloadSegment → action_form x k ≡ forms.Refusal → ⊥
    not-refusal k y z = let x : ◌≡◌ {A = ℕ} 0 1 = cc in omega arith

    -- its transaction is t
    ours : {u : Bits128} {k : Action} → f.verdict ≡ verdict.Of u k → action_form x k ≡ forms.DownloadSegment → f.verdict ≡ verdict.Of t k
    ours {u} {k} own z =
        own ∙ ap (λ (i : Bits128). verdict.Of i k) (sym (reply-transaction sound s.stands own (not-refusal k z)) ∙ s.id)

    opened : form f.reply ≡ forms.DownloadOpened → n ≤ times is_delivery t h
    opened z =
        let u = download-opened sound s.stands z in
        let k = action.Download (down.Opened (segments f.reply)) in
        let own : f.verdict ≡ verdict.Of t k = u.0 ∙ ap (λ (i : Bits128). verdict.Of i k) s.id in
        let c = times-own t k f g own is_delivery in
        let a = grown in
        let b = u.2 in
        let m = s.number in
        omega arith

    by_kind : (d : IsAction f.verdict forms.DownloadSegment) → ActionOf forms.DownloadSegment d.action → n ≤ times is_delivery t h
    by_kind d (inl k) =
        let own = ours (d.is ∙ ap (verdict.Of d.id) k.1) refl in
        let next = (action-sound sound s.stands own).next in
        let c = times-own t (action.Download (down.Delivered k.0)) f g own is_delivery in
        let a = grown in
        let b = delivered-number sound s.stands k.0 own in
        let m = s.number in
        omega arith
    by_kind d (inr k) =
        let own = ours (d.is ∙ ap (verdict.Of d.id) k.1) refl in
        let again = (action-sound sound s.stands own).again in
        let c = times-own t (action.Download (down.SentAgain k.0)) f g own is_delivery in
        let a = grown in
        let b = again-number sound s.stands k.0 own in
        let m = s.number in
        omega arith

    by_form : (form f.reply ≡ forms.DownloadOpened) ⊎ (form f.reply ≡ forms.DownloadSegment) → n ≤ times is_delivery t h
    by_form (inl z) = opened z
    by_form (inr z) =
        let d = is-action x f.verdict forms.DownloadSegment
        (sym (ap form (reply-is sound s.stands) ∙ verdict-form f.verdict f.request) ∙ z) refl in
        by_kind d d.kind

pub delivered-new : {t : Bits128} {f : Exchange} {g h : List Exchange} (m : ℕ) → AllSound h → Stands f g h →
    f.verdict ≡ verdict.Of t (action.Download (down.Delivered m)) → Sent t (segment f.reply) g → ⊥
delivered-new {t} m sound stands own s =
    let a = sent-most t (sound-before sound stands) s in
    let b = (action-sound sound stands own).next in
    let c = delivered-number sound stands m own in
    omega arith

-- ---- a fitting action shows as a fitting request

fits_by : {t : Bits128} {f : Exchange} {g h : List Exchange} (k : Action) → AllSound h → Stands f g h → f.verdict ≡ verdict.Of t k →
    is_fitting k ≡ true → Fits t g f
fits_by {f = f} (action.Upload (up.Opened m)) sound stands own z =
    opens (record {
      accepted = is-opened (sound-at sound stands) ∙ ap is_opens own;
      id = reply-transaction sound stands own (opened-answers (edition_of f.request));
    })
fits_by (action.Upload up.Took) sound stands own z =
    takes (record {
      formed = reply-form sound stands own;
      coded = reply-code sound stands own;
      id = reply-transaction sound stands own (λ y. let x : ◌≡◌ {A = ℕ} 0 1 = cc in omega arith);
    })
fits_by (action.Upload up.TookLast) sound stands own z =
    takes (record {
      formed = reply-form sound stands own;
      coded = reply-code sound stands own;
      id = reply-transaction sound stands own (λ y. let x : ◌≡◌ {A = ℕ} 0 1 = cc in omega arith);
    })
fits_by (action.Upload (up.Point m)) sound stands own z = never z
fits_by (action.Upload (up.Cancelled c)) sound stands own z = never z
fits_by (action.Download (down.Opened m)) sound stands own z =
    opens (record {
      accepted = is-opened (sound-at sound stands) ∙ ap is_opens own;
      id = reply-transaction sound stands own (λ y. let x : ◌≡◌ {A = ℕ} 0 1 = cc in omega arith);
    })
fits_by (action.Download (down.Delivered m)) sound stands own z =
    delivers (reply-form sound stands own) (reply-transaction sound stands own (λ y. let x : ◌≡◌ {A = ℕ} 0 1 = cc in omega arith))
    (delivered-new m sound stands own)
fits_by (action.Download (down.SentAgain m)) sound stands own z = never z
fits_by (action.Download (down.Point m)) sound stands own z = never z
fits_by (action.Download down.Cancelled) sound stands own z = never z
fits_by (action.Download down.Confirmed) sound stands own z = never z
fits_by (action.Download down.Declined) sound stands own z = never z

pub fits-shown : {t : Bits128} {f : Exchange} {g h : List Exchange} → AllSound h → Stands f g h → ActionIn is_fitting t f → Fits t g f
fits-shown sound stands a = fits_by a.action sound stands a.is a.kind
