-- What the replies of a sound history tell of a transaction, and that they are what a client run takes them for. Assumes nothing.
use Prim.Native.Nat.{ℕ, ◌≤◌}
use mathlib.Core.Bool.{Bool, true, false, cond}
use mathlib.Core.List.{List, [], ◌∷◌}
use mathlib.Core.Logic.{◌⊎◌, inl, inr}
use mathlib.Core.Path.{◌≡◌, refl, sym, ap, ◌∙◌}
use native.Mathlib.Omega.{arith}
use lib.ListN.{length}
use borrow.Author.Tests.{eq-eqb}
use Rattle.frame_table.specs.declared.fields.Bits128.{Bits128}
use Rattle.frame_table.specs.declared.fields.Fields.{Fields}
use Rattle.frame_table.specs.declared.table.Form.{Form}
use Rattle.frame_table.specs.Forms as forms
use Rattle.frame_table.specs.Names
use Rattle.frame_table.specs.Names.{transaction, segments, segment, return_code, form, same_bits}
use Rattle.octets.proofs.Tests.{never, and-true, or_left, or_right}
use Rattle.frame_table.proofs.Bits.{bits-same}
use Rattle.message.specs.declared.codes.ReturnCode.{ReturnCode}
use Rattle.message.specs.declared.codes.ReturnCode.TheVariants as code
use Rattle.message.specs.Codes.{code_field}
use Rattle.message.specs.declared.editions.Edition.{Edition}
use Rattle.message.specs.declared.editions.Edition.TheVariants.{V24, V25}
use Rattle.message.specs.Editions.{form_edition, edition_of, opening_form, opened_form}
use Rattle.message.specs.Limits.{file_bytes}
use Rattle.message.specs.Segments.{segments_of, segment_of}
use Rattle.bank_verdicts.specs.declared.verdict.UploadAction.{UploadAction}
use Rattle.bank_verdicts.specs.declared.verdict.UploadAction.TheVariants as up
use Rattle.bank_verdicts.specs.declared.verdict.DownloadAction.{DownloadAction}
use Rattle.bank_verdicts.specs.declared.verdict.DownloadAction.TheVariants as down
use Rattle.bank_verdicts.specs.declared.verdict.Action.{Action}
use Rattle.bank_verdicts.specs.declared.verdict.Action.TheVariants as action
use Rattle.bank_verdicts.specs.declared.verdict.SignedOrder.{SignedOrder}
use Rattle.bank_verdicts.specs.declared.verdict.Verdict.{Verdict}
use Rattle.bank_verdicts.specs.declared.verdict.Verdict.TheVariants as verdict
use Rattle.bank_verdicts.specs.Replies.{reply_to}
use Rattle.bank_history.specs.History.{Exchange, Stands, newest, older, ActionIn, OpensNumber, is_taking, is_opening, is_upload_opening, is_download_opening, did, at_opening, file_at_opening}
use Rattle.bank_history.specs.Opened.{of_reply, is_upload_form, is_upload_opened}
use Rattle.bank_history.specs.Sound.{is_cancelling, SoundConfirmed, AllSound}
use Rattle.bank_history.specs.Sound.{more as sounds}
use Rattle.bank_history.proofs.Entries.{same_bits_lem}
use Rattle.bank_history.proofs.Positions.{stands-behind, action-sound, signing-sound}
use Rattle.bank_history.proofs.Replies.{
  verdict_form,
  verdict_code,
  IsAction,
  ActionOf,
  verdict-form,
  verdict-code,
  is-action,
  action_form,
  action-transaction,
  cancelling-code,
}
use Rattle.bank_history.proofs.Theorems.{one-opening, ever-stands, reply-is, reply-exchange, download-opened, segment-delivered}
use Rattle.client_history.specs.History.{BankReplies}
use Rattle.client_history.proofs.Theorems.{not-opening}
use Rattle.bank_history.proofs.Refusing.{refuses, is_refusing, refusing-code, Refuses}

-- what is asked of every exchange: its refusals' codes, and a file of at most the bytes of a mailbox
pub record Proper (e : Exchange) : Type 0 where
  pub refuses : Refuses e.verdict
  pub short : length e.file ≤ file_bytes

pub data AllProper : List Exchange → Type 0 where
  none : AllProper []
  more : {e : Exchange} {h : List Exchange} → Proper e → AllProper h → AllProper (e ∷ h)

pub proper-at : {e : Exchange} {g h : List Exchange} → AllProper h → Stands e g h → Proper e
proper-at (more s r) newest = s
proper-at (more s r) (older p) = proper-at r p
proper-at {e = e} {g = g} none x3 = elim x3 [ ]

-- ---- the opening of a transaction

-- which actions open
upload-action : (a : UploadAction) → is_opening (action.Upload a) ≡ true → (n : ℕ) × (a ≡ up.Opened n)
upload-action (up.Opened n) e = (n, refl)
upload-action up.Took e = never e
upload-action up.TookLast e = never e
upload-action (up.Point k) e = never e
upload-action (up.Cancelled c) e = never e

download-action : (a : DownloadAction) → is_opening (action.Download a) ≡ true → (n : ℕ) × (a ≡ down.Opened n)
download-action (down.Opened n) e = (n, refl)
download-action (down.Delivered n) e = never e
download-action (down.SentAgain n) e = never e
download-action (down.Point d) e = never e
download-action down.Cancelled e = never e
download-action down.Confirmed e = never e
download-action down.Declined e = never e

pub opening-action : (k : Action) → is_opening k ≡ true →
    ((n : ℕ) × (k ≡ action.Upload (up.Opened n))) ⊎ ((n : ℕ) × (k ≡ action.Download (down.Opened n)))
opening-action (action.Upload a) e = let u = upload-action a e in inl (u.0, ap action.Upload u.1)
opening-action (action.Download a) e = let d = download-action a e in inr (d.0, ap action.Download d.1)

-- which of them open an upload, and a download
pub upload-kind : (k : Action) → is_upload_opening k ≡ true → (n : ℕ) × (k ≡ action.Upload (up.Opened n))
upload-kind k e = at (opening-action k (or_left (is_upload_opening k) (is_download_opening k) e))
  where
    at : ((n : ℕ) × (k ≡ action.Upload (up.Opened n))) ⊎ ((n : ℕ) × (k ≡ action.Download (down.Opened n))) →
        (n : ℕ) × (k ≡ action.Upload (up.Opened n))
    at (inl u) = u
    at (inr d) = never (sym (ap is_upload_opening d.1) ∙ e)

pub download-kind : (k : Action) → is_download_opening k ≡ true → (n : ℕ) × (k ≡ action.Download (down.Opened n))
download-kind k e = at (opening-action k (or_right (is_upload_opening k) (is_download_opening k) e))
  where
    at : ((n : ℕ) × (k ≡ action.Upload (up.Opened n))) ⊎ ((n : ℕ) × (k ≡ action.Download (down.Opened n))) →
        (n : ℕ) × (k ≡ action.Download (down.Opened n))
    at (inl u) = never (sym (ap is_download_opening u.1) ∙ e)
    at (inr d) = d

-- an exchange that opened t
pub record Opening (t : Bits128) (f : Exchange) : Type 0 where
  pub action : Action
  pub is : f.verdict ≡ verdict.Of t action
  pub opening : is_opening action ≡ true

-- the test whether an exchange is such an action of t
pub did-action : (f : Action → Bool) (t : Bits128) (e : Exchange) → did f t e.verdict ≡ true → ActionIn f t e
did-action f t e h = at e.verdict refl h
  where
    at : (v : Verdict) → e.verdict ≡ v → did f t v ≡ true → ActionIn f t e
    at verdict.Unreadable z k = never k
    at (verdict.Refused c) z k = never k
    at (verdict.Signed n added) z k = never k
    at (verdict.Of u a) z k =
        let b = and-true (same_bits t u) (f a) k in
        record { action = a; is = z ∙ ap (λ (i : Bits128). verdict.Of i a) (sym (bits-same t u b.0)); kind = b.1 }

pub did_of : (f : Action → Bool) (t : Bits128) (e : Exchange) → ActionIn f t e → did f t e.verdict ≡ true
did_of f t e d = ap (did f t) d.is ∙ rw (same_bits_lem t) d.kind

opened-so : {t : Bits128} {f : Exchange} → ActionIn is_opening t f → Opening t f
opened-so d = record { action = d.action; is = d.is; opening = d.kind }

opens-number : {t : Bits128} {f : Exchange} → Opening t f → OpensNumber t.low f
opens-number {t} o = record { id = t; action = o.action; is = o.is; opening = o.opening; numbered = refl }

-- each transaction has one opening
pub one-opened : {t : Bits128} {e f : Exchange} {g k h : List Exchange} → AllSound h → Stands e g h → Stands f k h → Opening t e →
    Opening t f → e ≡ f
one-opened {t} sound a b o p = (one-opening t.low sound a b (opens-number o) (opens-number p)).0

-- which stands in one place
pub one-place-opened : {t : Bits128} {e f : Exchange} {g k h : List Exchange} → AllSound h → Stands e g h → Stands f k h →
    Opening t e → Opening t f → g ≡ k
one-place-opened {t} sound a b o p = (one-opening t.low sound a b (opens-number o) (opens-number p)).1

-- and so each number of an opening
pub one-numbered : {t u : Bits128} {e f : Exchange} {g k h : List Exchange} → AllSound h → Stands e g h → Stands f k h → Opening t e →
    Opening u f →
    t.low ≡ u.low → e ≡ f
one-numbered {t} sound a b o p n =
    (one-opening t.low sound a b (opens-number o)
    (record { id = _; action = p.action; is = p.is; opening = p.opening; numbered = sym n })).0

-- what is looked up at the opening is that of the exchange that opened
pub opening-at : {A : Type 0} (look : Exchange → A) (empty : A) {t : Bits128} {f : Exchange} {g h : List Exchange} → AllSound h →
    Stands f g h →
    Opening t f → at_opening look empty t h ≡ look f
unfolding at_opening
opening-at look empty {t} {f} (sounds {h = k} s r) newest o =
    ap (λ (b : Bool). cond b (look f) (at_opening look empty t k))
    (did_of is_opening t f (record { action = o.action; is = o.is; kind = o.opening }))
opening-at look empty {t} {f} {g} (sounds {e = x} {h = h} s r) (older p) o =
    at (did is_opening t x.verdict) refl (opening-at look empty r p o)
  where
    at : (b : Bool) → did is_opening t x.verdict ≡ b → at_opening look empty t h ≡ look f →
        cond b (look x) (at_opening look empty t h) ≡ look f
    at true e k = ap look (one-opened (sounds s r) newest (older p) (opened-so (did-action is_opening t x e)) o)
    at false e k = k
opening-at {A = A} look empty {t = t} {f = f} {g = g} Rattle.bank_history.specs.Sound.none x5 o = elim x5 [ ]

-- the edition of an opening is the one whose form it has
pub opening-edition : (x : Edition) → form_edition (opening_form x) ≡ x
opening-edition V24 = refl
opening-edition V25 = refl

-- a reply in the form of an edition's openings, with 000000, accepts an upload's opening
pub opens-upload : (x : Edition) (e : Exchange) → form e.reply ≡ opened_form x → return_code e.reply ≡ code_field code.Ok →
    is_upload_opened e ≡ true
opens-upload V24 e z c =
    ap (of_reply false (is_upload_form (return_code e.reply))) z ∙ eq-eqb (return_code e.reply) (code_field code.Ok) c
opens-upload V25 e z c = ap (of_reply false (is_upload_form (return_code e.reply))) z

-- ---- what a reply tells

module _ {e : Exchange} {g h : List Exchange} (sound : AllSound h) (stands : Stands e g h) where
  pub formed : form e.reply ≡ verdict_form (edition_of e.request) e.verdict
  formed = ap form (reply-is sound stands) ∙ verdict-form e.verdict e.request

  pub coded : return_code e.reply ≡ code_field (verdict_code e.verdict)
  coded = ap return_code (reply-is sound stands) ∙ verdict-code e.verdict e.request

  carries : {t : Bits128} {k : Action} → e.verdict ≡ verdict.Of t k → (action_form (edition_of e.request) k ≡ forms.Refusal → ⊥) →
      transaction e.reply ≡ t
  carries {t} {k} own n =
      ap transaction (reply-is sound stands) ∙ ap (λ (v : Verdict). transaction (reply_to v e.request)) own
      ∙ action-transaction t e.request k n

  -- a download segment carries the transaction ID asked for
  delivered-id : form e.reply ≡ forms.DownloadSegment → transaction e.reply ≡ transaction e.request
  delivered-id z = at (is-action (edition_of e.request) e.verdict forms.DownloadSegment (sym formed ∙ z) refl)
    where
      by : (d : IsAction e.verdict forms.DownloadSegment) → ActionOf forms.DownloadSegment d.action →
          transaction e.reply ≡ transaction e.request
      by d (inl k) =
          let own : e.verdict ≡ verdict.Of d.id (action.Download (down.Delivered k.0)) = d.is ∙ ap (verdict.Of d.id) k.1 in
          carries own (λ y. let x : ◌≡◌ {A = ℕ} 0 1 = cc in omega arith) ∙ (action-sound sound stands own).carried.download.request.same
      by d (inr k) =
          let own : e.verdict ≡ verdict.Of d.id (action.Download (down.SentAgain k.0)) = d.is ∙ ap (verdict.Of d.id) k.1 in
          carries own (λ y. let x : ◌≡◌ {A = ℕ} 0 1 = cc in omega arith) ∙ (action-sound sound stands own).carried.download.request.same

      at : IsAction e.verdict forms.DownloadSegment → transaction e.reply ≡ transaction e.request
      at d = by d d.kind

  module _ (proper : Proper e) where
    -- the verdict by its code, where that is no refusal's and the request no accepted signing
    pub by_code : (c : ReturnCode) → refuses c ≡ false → return_code e.reply ≡ code_field c →
        ((n : SignedOrder) (added : Bool) → e.verdict ≡ verdict.Signed n added → ⊥) →
        (t : Bits128) × (k : Action) × (e.verdict ≡ verdict.Of t k)
    by_code c n z unsigned = at e.verdict refl proper.refuses
      where
        told : (v : Verdict) → e.verdict ≡ v → is_refusing (code_field (verdict_code v)) ≡ false
        told v own = ap (λ (u : Verdict). is_refusing (code_field (verdict_code u))) (sym own) ∙ ap is_refusing (sym coded ∙ z)
            ∙ refusing-code c ∙ n

        at : (v : Verdict) → e.verdict ≡ v → Refuses v → (t : Bits128) × (k : Action) × (e.verdict ≡ verdict.Of t k)
        at verdict.Unreadable own r = never (sym (told verdict.Unreadable own))
        at (verdict.Refused x) own r = never (sym (told (verdict.Refused x) own) ∙ (refusing-code x ∙ r))
        at (verdict.Of t k) own r = (t, k, own)
        at (verdict.Signed m added) own r = absurd (unsigned m added own)

    other-code : {A : Type 0} (c : ReturnCode) {t : Bits128} {k : Action} → return_code e.reply ≡ code_field c →
        e.verdict ≡ verdict.Of t k →
        (code_field (verdict_code (verdict.Of t k)) ≡ code_field c → ⊥) → A
    other-code c z own n = absurd (n (ap (λ (v : Verdict). code_field (verdict_code v)) (sym own) ∙ sym coded ∙ z))

    -- 000000 to an upload transfer: a segment of the request's transaction is taken
    pub transfer-taken : form e.request ≡ forms.UploadTransfer → return_code e.reply ≡ code_field code.Ok →
        ActionIn is_taking (transaction e.request) e
    transfer-taken asked z = let b = by_code code.Ok refl z unsigned in at b.0 b.1 b.2
      where
        unsigned : (n : SignedOrder) (added : Bool) → e.verdict ≡ verdict.Signed n added → ⊥
        unsigned n added own =
            let f = sym (signing-sound sound stands own).asked ∙ asked in
            let y : ◌≡◌ {A = ℕ} 0 1 = cc in omega arith

        Out : Type 0
        Out = ActionIn is_taking (transaction e.request) e

        other : {x : Form} → form e.request ≡ x → (x ≡ forms.UploadTransfer → ◌≡◌ {A = ℕ} 0 1) → Out
        other f n = absurd (let y = n (sym f ∙ asked) in omega arith)

        at-upload : (t : Bits128) (a : UploadAction) → e.verdict ≡ verdict.Of t (action.Upload a) → Out
        at-upload t (up.Opened n) own =
            other (action-sound sound stands own).opening.asked
            (λ y. not-opening (edition_of e.request) (λ z. cc) (λ z. cc) (sym y))
        at-upload t up.Took own =
            let s = action-sound sound stands own in
            record {
              action = action.Upload up.Took;
              is = own ∙ ap (λ (i : Bits128). verdict.Of i (action.Upload up.Took)) s.taking.upload.request.same;
              kind = refl;
            }
        at-upload t up.TookLast own =
            let s = action-sound sound stands own in
            record {
              action = action.Upload up.TookLast;
              is = own ∙ ap (λ (i : Bits128). verdict.Of i (action.Upload up.TookLast)) s.taking.upload.request.same;
              kind = refl;
            }
        at-upload t (up.Point k) own = other-code code.Ok z own (λ y. omega arith)
        at-upload t (up.Cancelled c) own =
            other-code code.Ok z own (λ y. never (sym (ap is_cancelling y)
            ∙ (cancelling-code c ∙ (action-sound sound stands own).cancelling)))

        at-download : (t : Bits128) (a : DownloadAction) → e.verdict ≡ verdict.Of t (action.Download a) → Out
        at-download t (down.Opened n) own = other (action-sound sound stands own).opening.asked (λ y. cc)
        at-download t (down.Delivered n) own = other (action-sound sound stands own).carried.asked (λ y. cc)
        at-download t (down.SentAgain n) own = other (action-sound sound stands own).carried.asked (λ y. cc)
        at-download t (down.Point d) own = other-code code.Ok z own (λ y. omega arith)
        at-download t down.Cancelled own = other-code code.Ok z own (λ y. omega arith)
        at-download t down.Confirmed own = other-code code.Ok z own (λ y. omega arith)
        at-download t down.Declined own = other-code code.Ok z own (λ y. omega arith)

        at : (t : Bits128) (k : Action) → e.verdict ≡ verdict.Of t k → Out
        at t (action.Upload a) own = at-upload t a own
        at t (action.Download a) own = at-download t a own

    -- 011000: a receipt of the request's transaction is confirmed
    pub done-confirmed : return_code e.reply ≡ code_field code.DownloadPostprocessDone →
        (e.verdict ≡ verdict.Of (transaction e.request) (action.Download down.Confirmed))
        × SoundConfirmed (transaction e.request) e g
    done-confirmed z = let b = by_code code.DownloadPostprocessDone refl z unsigned in at b.0 b.1 b.2
      where
        unsigned : (n : SignedOrder) (added : Bool) → e.verdict ≡ verdict.Signed n added → ⊥
        unsigned n added own =
            let y = ap (λ (v : Verdict). code_field (verdict_code v)) (sym own) ∙ sym coded ∙ z in omega arith

        Out : Type 0
        Out = (e.verdict ≡ verdict.Of (transaction e.request) (action.Download down.Confirmed))
            × SoundConfirmed (transaction e.request) e g

        not : {t : Bits128} {k : Action} → e.verdict ≡ verdict.Of t k →
            (code_field (verdict_code (verdict.Of t k)) ≡ code_field code.DownloadPostprocessDone →
            ⊥) → Out
        not own = other-code code.DownloadPostprocessDone z own

        at-upload : (t : Bits128) (a : UploadAction) → e.verdict ≡ verdict.Of t (action.Upload a) → Out
        at-upload t (up.Opened n) own = not own (λ y. omega arith)
        at-upload t up.Took own = not own (λ y. omega arith)
        at-upload t up.TookLast own = not own (λ y. omega arith)
        at-upload t (up.Point k) own = not own (λ y. omega arith)
        at-upload t (up.Cancelled c) own =
            not own (λ y. never (sym (ap is_cancelling y) ∙ (cancelling-code c ∙ (action-sound sound stands own).cancelling)))

        at-download : (t : Bits128) (a : DownloadAction) → e.verdict ≡ verdict.Of t (action.Download a) → Out
        at-download t down.Confirmed own =
            let now : e.verdict ≡ verdict.Of (transaction e.request) (action.Download down.Confirmed) =
            own ∙ ap (λ (i : Bits128). verdict.Of i (action.Download down.Confirmed))
            (action-sound sound stands own).receipt.download.request.same in
            (now, action-sound sound stands now)
        at-download t (down.Opened n) own = not own (λ y. omega arith)
        at-download t (down.Delivered n) own = not own (λ y. omega arith)
        at-download t (down.SentAgain n) own = not own (λ y. omega arith)
        at-download t (down.Point d) own = not own (λ y. omega arith)
        at-download t down.Cancelled own = not own (λ y. omega arith)
        at-download t down.Declined own = not own (λ y. omega arith)

        at : (t : Bits128) (k : Action) → e.verdict ≡ verdict.Of t k → Out
        at t (action.Upload a) own = at-upload t a own
        at t (action.Download a) own = at-download t a own

    -- 061101: a recovery point of an upload or of a download
    pub point-given : return_code e.reply ≡ code_field code.RecoverySync →
        (t : Bits128) × (n : ℕ) × ((e.verdict ≡ verdict.Of t (action.Upload (up.Point n)))
        ⊎ (e.verdict ≡ verdict.Of t (action.Download (down.Point n))))
    point-given z = let b = by_code code.RecoverySync refl z unsigned in at b.0 b.1 b.2
      where
        unsigned : (n : SignedOrder) (added : Bool) → e.verdict ≡ verdict.Signed n added → ⊥
        unsigned n added own =
            let y = ap (λ (v : Verdict). code_field (verdict_code v)) (sym own) ∙ sym coded ∙ z in omega arith

        Out : Type 0
        Out = (t : Bits128) × (n : ℕ) × ((e.verdict ≡ verdict.Of t (action.Upload (up.Point n)))
            ⊎ (e.verdict ≡ verdict.Of t (action.Download (down.Point n))))

        not : {t : Bits128} {k : Action} → e.verdict ≡ verdict.Of t k →
            (code_field (verdict_code (verdict.Of t k)) ≡ code_field code.RecoverySync → ⊥) → Out
        not own = other-code code.RecoverySync z own

        at-upload : (t : Bits128) (a : UploadAction) → e.verdict ≡ verdict.Of t (action.Upload a) → Out
        at-upload t (up.Opened n) own = not own (λ y. omega arith)
        at-upload t up.Took own = not own (λ y. omega arith)
        at-upload t up.TookLast own = not own (λ y. omega arith)
        at-upload t (up.Point k) own = (t, k, inl own)
        at-upload t (up.Cancelled c) own =
            not own (λ y. never (sym (ap is_cancelling y) ∙ (cancelling-code c ∙ (action-sound sound stands own).cancelling)))

        at-download : (t : Bits128) (a : DownloadAction) → e.verdict ≡ verdict.Of t (action.Download a) → Out
        at-download t (down.Opened n) own = not own (λ y. omega arith)
        at-download t (down.Delivered n) own = not own (λ y. omega arith)
        at-download t (down.SentAgain n) own = not own (λ y. omega arith)
        at-download t (down.Point d) own = (t, d, inr own)
        at-download t down.Cancelled own = not own (λ y. omega arith)
        at-download t down.Confirmed own = not own (λ y. omega arith)
        at-download t down.Declined own = not own (λ y. omega arith)

        at : (t : Bits128) (k : Action) → e.verdict ≡ verdict.Of t k → Out
        at t (action.Upload a) own = at-upload t a own
        at t (action.Download a) own = at-download t a own

-- ---- the replies as a client run takes them

pub sound-before : {e : Exchange} {g h : List Exchange} → AllSound h → Stands e g h → AllSound g
sound-before (sounds s r) newest = r
sound-before (sounds s r) (older p) = sound-before r p
sound-before {e = e} {g = g} Rattle.bank_history.specs.Sound.none x3 = elim x3 [ ]

either-opening : (f : Action → Bool) → ((k : Action) → f k ≡ true → is_opening k ≡ true) → {t : Bits128} {e : Exchange} → ActionIn f t e →
    Opening t e
either-opening f up d = record { action = d.action; is = d.is; opening = up d.action d.kind }

pub upload-opening : {t : Bits128} {e : Exchange} → ActionIn is_upload_opening t e → Opening t e
upload-opening = either-opening is_upload_opening (λ k. or_left (is_upload_opening k) (is_download_opening k))

pub download-opening : {t : Bits128} {e : Exchange} → ActionIn is_download_opening t e → Opening t e
download-opening = either-opening is_download_opening (λ k. or_right (is_upload_opening k) (is_download_opening k))

-- the request with these fields and this data was given the reply with these fields and this data
pub record Gave (h : List Exchange) (q : Fields) (d : List ℕ) (r : Fields) (e : List ℕ) : Type 0 where
  pub exchange : Exchange
  pub before : List Exchange
  pub stands : Stands exchange before h
  pub request : exchange.request ≡ q
  pub request_data : exchange.request_data ≡ d
  pub reply : exchange.reply ≡ r
  pub reply_data : exchange.reply_data ≡ e

abbrev pub file_in : List Exchange → Bits128 → List ℕ
file_in h t = file_at_opening t h

module _ (h : List Exchange) (sound : AllSound h) (proper : AllProper h) where
  opened-file : {q r : Fields} {d e : List ℕ} (a : Gave h q d r e) → form r ≡ forms.DownloadOpened →
      file_in h (transaction r) ≡ a.exchange.file
  opened-file {r = r} a z =
      let o = download-opened sound a.stands (ap form a.reply ∙ z) in
      ap (file_in h) (sym (ap transaction a.reply))
      ∙ opening-at (λ (x : Exchange). x.file) [] sound a.stands (record { action = _; is = o.0; opening = refl })

  pub bank-replies : BankReplies (Gave h) (file_in h)
  bank-replies = record {
    same_exchange = λ a f n.
        ap Names.exchange (sym a.reply)
        ∙ reply-exchange sound a.stands (λ z. n (sym (ap form a.reply) ∙ z)) ∙ ap Names.exchange a.request;
    number = λ a z.
        let o = download-opened sound a.stands (ap form a.reply ∙ z) in
        ap segments (sym a.reply) ∙ o.1.count ∙ ap (λ (f : List ℕ). segments_of (length f)) (sym (opened-file a z));
    some = λ a z.
        let o = download-opened sound a.stands (ap form a.reply ∙ z) in
        let f = ap length (opened-file a z) in
        omega (arith, o.1.full);
    most = λ a z. let f = ap length (opened-file a z) in omega (arith, (proper-at proper a.stands).short);
    first = λ a z.
        let o = download-opened sound a.stands (ap form a.reply ∙ z) in
        sym a.reply_data ∙ o.1.part ∙ ap (λ (f : List ℕ). segment_of f 1) (sym (opened-file a z));
    part = λ a z. part_of a (ap form a.reply ∙ z);
  }
    where
      part_of : {q r : Fields} {d e : List ℕ} (a : Gave h q d r e) → form a.exchange.reply ≡ forms.DownloadSegment →
          e ≡ segment_of (file_in h (transaction r)) (segment r)
      part_of {r = r} {e = e} a z =
          let x = a.exchange in
          let s = segment-delivered sound a.stands z in
          let t = transaction x.request in
          let o = ever-stands is_download_opening t a.before s.1.download.opened in
          let p = download-opening o.3 in
          let same : file_in a.before t ≡ file_in h t =
          opening-at (λ (y : Exchange). y.file) [] (sound-before sound a.stands) o.2 p
          ∙ sym (opening-at (λ (y : Exchange). y.file) [] sound (stands-behind o.2 a.stands) p) in
          let id : t ≡ transaction r = sym (delivered-id sound a.stands z) ∙ ap transaction a.reply in
          let number : segment x.request ≡ segment r = sym s.2 ∙ ap segment a.reply in
          sym a.reply_data ∙ s.1.part ∙ ap (λ (f : List ℕ). segment_of f (segment x.request)) (same ∙ ap (file_in h) id)
          ∙ ap (segment_of (file_in h (transaction r))) number
