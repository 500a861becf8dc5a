-- Requests, replies and clocks tell of a sound history what its verdicts tell: the openings, and how each transaction
-- stands.
use Prim.Native.Nat.{ℕ, suc, ◌≤◌, ◌<◌, max}
use mathlib.Core.Bool.{Bool, true, false, cond, ◌&&◌}
use mathlib.Core.List.{List, [], ◌∷◌, ◌++◌}
use mathlib.Core.Path.{◌≡◌, refl, sym, ap, ◌∙◌, subst}
use native.Mathlib.Omega.{arith}
use lib.Dec.{eqb}
use borrow.Author.Tests.{eq-eqb, ne_eqb, lt-ltb, le-ltb}
use Rattle.frame_table.specs.declared.fields.Bits128.{Bits128}
use Rattle.frame_table.specs.Forms as forms
use Rattle.frame_table.specs.Names.{subscriber, transaction, segments, segment, return_code, form, same_bits}
use Rattle.frame_table.proofs.Bits.{bits-same}
use Rattle.octets.proofs.Tests.{never, or_right, and-true, and-true-right}
use Rattle.message.specs.declared.codes.ReturnCode.TheVariants as code
use Rattle.message.specs.Codes.{code_field}
use Rattle.message.specs.declared.editions.Edition.{Edition}
use Rattle.message.specs.declared.editions.Edition.TheVariants as edition
use Rattle.message.specs.Editions.{edition_of, opened_form}
use Rattle.message.specs.Replies.{download_opened, download_segment}
use Rattle.message.proofs.Verdicts.{by-test}
use Rattle.message.specs.declared.directions.Direction.TheVariants as direction
use Rattle.bank_verdicts.specs.declared.verdict.UploadAction.TheVariants as up
use Rattle.bank_verdicts.specs.declared.verdict.DownloadAction.TheVariants as down
use Rattle.bank_verdicts.specs.declared.verdict.Action.{Action}
use Rattle.bank_verdicts.specs.declared.verdict.Action.TheVariants as action
use Rattle.bank_verdicts.specs.declared.verdict.Verdict.{Verdict}
use Rattle.bank_verdicts.specs.declared.verdict.Verdict.TheVariants as verdict
use Rattle.bank_verdicts.specs.Replies.{reply_to}
use Rattle.bank_history.specs.History.{Exchange, Stands, newest, older, is_opening, is_upload_opening, is_download_opening, is_delivery, did, ever, times, opens, accepts_upload, accepted, numbers_own, number_in, own_numbering, at_opening, segments_at}
use Rattle.bank_history.specs.Sound.{is_cancelling, Sound, SoundVerdict, SoundAction, AllSound}
use Rattle.bank_history.specs.Sound as sounds
use Rattle.bank_history.specs.Status.{Status, Open, Cancelled, drop_idle, status_after, status, opened_in, openings}
use Rattle.bank_history.specs.Opened.{of_reply, is_opened, is_upload_opened}
use Rattle.bank_history.specs.ByReplies.{
  is_sending_form,
  opened_count,
  own_given,
  opened_ids,
  number_given,
  at_opened,
  segment_count_of,
  sent_up_to,
  is_code,
  taken_status,
  sent_status,
  receipt_status,
  other_receipt,
  upload_opened_status,
  reply_status,
  standing,
}
use Rattle.bank_history.proofs.Entries.{and_no}
use Rattle.bank_history.proofs.SentSegments.{sound-before}
use Rattle.bank_history.proofs.Positions.{action-sound, opening-number, never-times, ever-stands, own-opening}
pub use Rattle.bank_history.proofs.Opened.{formed, coded, is-opened, is-upload, is-own}
use Rattle.bank_history.proofs.Opened.{opens-some, number-given}
use Rattle.bank_history.proofs.Replies.{
  verdict_form,
  verdict_code,
  action-transaction,
  opened-answers,
  action_form,
  action_code,
  cancelling-code,
}

cond_same : {A : Type 0} (b : Bool) {x x' y y' : A} → (b ≡ true → x ≡ x') → (b ≡ false → y ≡ y') → cond b x y ≡ cond b x' y'
cond_same true f g = f refl
cond_same false f g = g refl

-- ---- one exchange of a sound history

abbrev sends_by : Edition → Verdict → Bool
sends_by x v = of_reply false is_sending_form (verdict_form x v)

-- an accepted upload's reply sends no segment
opened-sends : (x : Edition) → of_reply false is_sending_form (opened_form x) ≡ false
opened-sends edition.V24 = refl
opened-sends edition.V25 = refl

module _ {e : Exchange} {h : List Exchange} (s : Sound e h) where
  module _ {u : Bits128} {k : Action} (own : e.verdict ≡ verdict.Of u k) where
    pub formed-as : form e.reply ≡ action_form (edition_of e.request) k
    formed-as = formed s ∙ ap (verdict_form (edition_of e.request)) own

    pub coded-as : return_code e.reply ≡ code_field (action_code k)
    coded-as = coded s ∙ ap (λ (v : Verdict). code_field (verdict_code v)) own

    pub is-code : (c : ℕ) → is_code c e ≡ eqb (code_field (action_code k)) c
    is-code c = ap (λ (m : ℕ). eqb m c) coded-as

    pub says : e.reply ≡ reply_to (verdict.Of u k) e.request
    says = s.reply ∙ ap (λ (v : Verdict). reply_to v e.request) own

    pub carries : (action_form (edition_of e.request) k ≡ forms.Refusal → ⊥) → transaction e.reply ≡ u
    carries n = ap transaction says ∙ action-transaction u e.request k n

    pub sound-as : SoundVerdict (verdict.Of u k) e h
    sound-as = subst (λ (v : Verdict). SoundVerdict v e h) own s.verdict

  -- it opens an upload
  pub upload-opened : {u : Bits128} {k : Action} → e.verdict ≡ verdict.Of u k → is_upload_opened e ≡ is_upload_opening k
  upload-opened own = is-upload s ∙ ap accepts_upload own

  -- the reply opens t exactly when the verdict does
  pub opened-own : (t : Bits128) → is_opened e && same_bits t (transaction e.reply) ≡ did is_opening t e.verdict
  opened-own t = at e.verdict refl
    where
      at : (v : Verdict) → e.verdict ≡ v → is_opened e && same_bits t (transaction e.reply) ≡ did is_opening t v
      at verdict.Unreadable own =
          ap (λ (b : Bool). b && same_bits t (transaction e.reply)) (is-opened s ∙ ap opens own)
      at (verdict.Refused c) own =
          ap (λ (b : Bool). b && same_bits t (transaction e.reply)) (is-opened s ∙ ap opens own)
      at (verdict.Signed n added) own =
          ap (λ (b : Bool). b && same_bits t (transaction e.reply)) (is-opened s ∙ ap opens own)
      at (verdict.Of u k) own =
          ap (λ (b : Bool). b && same_bits t (transaction e.reply)) (is-opened s ∙ ap opens own)
          ∙ by (is_opening k) refl
        where
          by : (b : Bool) → is_opening k ≡ b → b && same_bits t (transaction e.reply) ≡ same_bits t u && b
          by true o =
              ap (same_bits t) (carries own (opens-some (edition_of e.request) k o)) ∙ and-true-right (same_bits t u)
          by false o = sym (and_no (same_bits t u))

  opened-id : cond (is_opened e) (transaction e.reply ∷ []) [] ≡ opened_in e.verdict
  opened-id = at e.verdict refl
    where
      at : (v : Verdict) → e.verdict ≡ v → cond (is_opened e) (transaction e.reply ∷ []) [] ≡ opened_in v
      at verdict.Unreadable own =
          ap (λ (b : Bool). cond b (transaction e.reply ∷ []) []) (is-opened s ∙ ap opens own)
      at (verdict.Refused c) own =
          ap (λ (b : Bool). cond b (transaction e.reply ∷ []) []) (is-opened s ∙ ap opens own)
      at (verdict.Signed n added) own =
          ap (λ (b : Bool). cond b (transaction e.reply ∷ []) []) (is-opened s ∙ ap opens own)
      at (verdict.Of u k) own =
          ap (λ (b : Bool). cond b (transaction e.reply ∷ []) []) (is-opened s ∙ ap opens own)
          ∙ cond_same (is_opening k) (λ o. ap (λ (i : Bits128). i ∷ []) (carries own (opens-some (edition_of e.request) k o))) (λ _. refl)

-- ---- the openings

pub opened-count : {h : List Exchange} → AllSound h → opened_count h ≡ accepted h
unfolding opened_count accepted
opened-count sounds.none = refl
opened-count (sounds.more {e = e} {h = h} s r) = rw (is-opened s, opened-count r)

-- the number that the bank's own numbering gave
own-number : {e : Exchange} {h : List Exchange} → Sound e h → numbers_own e ≡ true → number_given e ≡ number_in e.verdict
own-number {e} s o = let p = own-opening e o in number-given s p.1.is ∙ sym (ap number_in p.1.is)

-- how far it has come for a subscriber
pub own-told : (s : ℕ) {h : List Exchange} → AllSound h → own_given s h ≡ own_numbering s h
unfolding own_given own_numbering
own-told s sounds.none = refl
own-told s (sounds.more {e = e} {h = h} x r) =
    ap (λ (b : Bool). cond (b && eqb (subscriber e.request) s) (suc (number_given e)) (own_given s h)) (is-own x)
    ∙ cond_same (numbers_own e && eqb (subscriber e.request) s)
    (λ z. ap suc (own-number x (and-true (numbers_own e) (eqb (subscriber e.request) s) z).0)) (λ _. own-told s r)

pub opened-ids : {h : List Exchange} → AllSound h → opened_ids h ≡ openings h
unfolding opened_ids openings
opened-ids sounds.none = refl
opened-ids (sounds.more {e = e} {h = h} s r) =
    ap (λ (l : List Bits128). l ++ cond (is_opened e) (transaction e.reply ∷ []) []) (opened-ids r)
    ∙ ap (λ (l : List Bits128). openings h ++ l) (opened-id s)

-- something of the exchange that opened t alone
pub at-opened : {A : Type 0} (f : Exchange → A) (none : A) (t : Bits128) {h : List Exchange} → AllSound h →
    at_opened f none t h ≡ at_opening f none t h
unfolding at_opened at_opening
at-opened f none t sounds.none = refl
at-opened f none t (sounds.more {e = e} {h = h} s r) = rw (opened-own s t, at-opened f none t r)

-- ---- the segments sent of a download

pub accepted-grows : (x : Exchange) (g : List Exchange) → accepted g ≤ accepted (x ∷ g)
unfolding accepted
accepted-grows x g = by-test (λ (m : ℕ). accepted g ≤ m) (opens x.verdict) (λ _. omega arith) (λ _. omega arith)

-- an opening is counted
pub opening-below : {e : Exchange} {g h : List Exchange} → Stands e g h → opens e.verdict ≡ true →
    accepted g < accepted h
unfolding accepted
opening-below newest o = rw o (omega arith)
opening-below (older {x = x} {h = h} p) o = let a = opening-below p o in let b = accepted-grows x h in omega arith

pub ever_below : (f : Action → Bool) → ((k : Action) → f k ≡ true → is_opening k ≡ true) → (t : Bits128)
    {h : List Exchange} → AllSound h → ever f t h ≡ true → t.low < accepted h
ever_below f opening t {h} r z =
    let p = ever-stands f t h z in
    let a = p.3 in
    let o = opening a.action a.kind in
    let n = opening-number t p.0 p.1 a.action o (action-sound r p.2 a.is) in
    let l = opening-below p.2 (ap opens a.is ∙ o) in
    omega arith

accepted-before : {e : Exchange} {g h : List Exchange} → Stands e g h → accepted g ≤ accepted h
accepted-before {e} {g} newest = accepted-grows e g
accepted-before (older {x = x} {h = h} p) = let a = accepted-before p in let b = accepted-grows x h in omega arith

-- a download whose segments were sent was opened
delivery-below : (t : Bits128) {h : List Exchange} → AllSound h → ever is_delivery t h ≡ true → t.low < accepted h
delivery-below t {h} r z =
    let p = ever-stands is_delivery t h z in
    let a = p.3 in
    at p.2 a.action a.kind a.is (action-sound r p.2 a.is)
  where
    at : {e : Exchange} {g : List Exchange} → Stands e g h → (k : Action) → is_delivery k ≡ true → e.verdict ≡ verdict.Of t k →
        SoundAction k t e g → t.low < accepted h
    at p (action.Upload (up.Opened n)) d own s = never d
    at p (action.Upload up.Took) d own s = never d
    at p (action.Upload up.TookLast) d own s = never d
    at p (action.Upload (up.Point k)) d own s = never d
    at p (action.Upload (up.Cancelled c)) d own s = never d
    at p (action.Download (down.Opened n)) d own s =
        let l = opening-below p (ap opens own) in let m = s.opening.numbered in omega arith
    at p (action.Download (down.Delivered n)) d own s =
        let l = ever_below is_download_opening (λ k o. or_right (is_upload_opening k) (is_download_opening k) o) t
        (sound-before r p) s.carried.download.opened in
        let m = accepted-before p in
        omega arith
    at p (action.Download (down.SentAgain n)) d own s = never d
    at p (action.Download (down.Point k)) d own s = never d
    at p (action.Download down.Cancelled) d own s = never d
    at p (action.Download down.Confirmed) d own s = never d
    at p (action.Download down.Declined) d own s = never d

no-delivery : (t : Bits128) {h : List Exchange} → AllSound h → t.low ≡ accepted h → times is_delivery t h ≡ 0
no-delivery t {h} r z = at (ever is_delivery t h) refl
  where
    at : (b : Bool) → ever is_delivery t h ≡ b → times is_delivery t h ≡ 0
    at true y = absurd (let l = delivery-below t r y in omega arith)
    at false y = never-times is_delivery t h y

module _ (t : Bits128) {e : Exchange} {h : List Exchange} (s : Sound e h) (r : AllSound h) where
  -- the segments sent, with those of e
  abbrev Sends : Verdict → Type 0
  Sends v =
      cond (of_reply false is_sending_form (form e.reply) && same_bits t (transaction e.reply))
      (max (times is_delivery t h) (segment e.reply)) (times is_delivery t h)
      ≡ cond (did is_delivery t v) (suc (times is_delivery t h)) (times is_delivery t h)

  abbrev counts : Bool → ℕ
  counts b =
      cond (b && same_bits t (transaction e.reply)) (max (times is_delivery t h) (segment e.reply)) (times is_delivery t h)

  sends-not : (v : Verdict) → e.verdict ≡ v → sends_by (edition_of e.request) v ≡ false → did is_delivery t v ≡ false → Sends v
  sends-not v own a b =
      ap counts (ap (of_reply false is_sending_form) (formed s ∙ ap (verdict_form (edition_of e.request)) own) ∙ a)
      ∙ ap (λ (d : Bool). cond d (suc (times is_delivery t h)) (times is_delivery t h)) (sym b)

  sends-by : (u : Bits128) (k : Action) → e.verdict ≡ verdict.Of u k →
      (action_form (edition_of e.request) k ≡ forms.Refusal → ⊥) → sends_by (edition_of e.request) (verdict.Of u k) ≡ true →
      (same_bits t u ≡ true → max (times is_delivery t h) (segment e.reply) ≡
      cond (is_delivery k) (suc (times is_delivery t h)) (times is_delivery t h)) → Sends (verdict.Of u k)
  sends-by u k own n a same =
      ap counts (ap (of_reply false is_sending_form) (formed-as s own) ∙ a)
      ∙ (ap (λ (i : Bits128). cond (same_bits t i) (max (times is_delivery t h) (segment e.reply)) (times is_delivery t h))
      (carries s own n) ∙ at (same_bits t u) refl)
    where
      at : (b : Bool) → same_bits t u ≡ b → cond b (max (times is_delivery t h) (segment e.reply)) (times is_delivery t h)
          ≡ cond (b && is_delivery k) (suc (times is_delivery t h)) (times is_delivery t h)
      at true z = same z
      at false z = refl

  sent-by : (v : Verdict) → e.verdict ≡ v → Sends v
  unfolding download_opened download_segment
  sent-by verdict.Unreadable own = sends-not verdict.Unreadable own refl refl
  sent-by (verdict.Refused c) own = sends-not (verdict.Refused c) own refl refl
  sent-by (verdict.Signed n added) own = sends-not (verdict.Signed n added) own refl refl
  sent-by (verdict.Of u (action.Upload (up.Opened n))) own =
      sends-not _ own (opened-sends (edition_of e.request)) (and_no (same_bits t u))
  sent-by (verdict.Of u (action.Upload up.Took)) own = sends-not _ own refl (and_no (same_bits t u))
  sent-by (verdict.Of u (action.Upload up.TookLast)) own = sends-not _ own refl (and_no (same_bits t u))
  sent-by (verdict.Of u (action.Upload (up.Point k))) own = sends-not _ own refl (and_no (same_bits t u))
  sent-by (verdict.Of u (action.Upload (up.Cancelled c))) own = sends-not _ own refl (and_no (same_bits t u))
  sent-by (verdict.Of u (action.Download (down.Opened n))) own =
      sends-by u _ own (λ y. let x : ◌≡◌ {A = ℕ} 0 1 = cc in omega arith) refl
      (λ z. let m : segment e.reply ≡ 1 = ap segment (says s own) in
      let l = no-delivery t r (ap (λ (i : Bits128). i.low) (bits-same t u z) ∙ (sound-as s own).opening.numbered) in
      omega arith)
  sent-by (verdict.Of u (action.Download (down.Delivered n))) own =
      sends-by u _ own (λ y. let x : ◌≡◌ {A = ℕ} 0 1 = cc in omega arith) refl
      (λ z. let m : segment e.reply ≡ segment e.request = ap segment (says s own) in
      let l = (sound-as s own).next in
      let k = ap (λ (i : Bits128). times is_delivery i h) (bits-same t u z) in
      omega arith)
  sent-by (verdict.Of u (action.Download (down.SentAgain n))) own =
      sends-by u _ own (λ y. let x : ◌≡◌ {A = ℕ} 0 1 = cc in omega arith) refl
      (λ z. let m : segment e.reply ≡ segment e.request = ap segment (says s own) in
      let l = (sound-as s own).again in
      let k = ap (λ (i : Bits128). times is_delivery i h) (bits-same t u z) in
      omega arith)
  sent-by (verdict.Of u (action.Download (down.Point k))) own = sends-not _ own refl (and_no (same_bits t u))
  sent-by (verdict.Of u (action.Download down.Cancelled)) own = sends-not _ own refl (and_no (same_bits t u))
  sent-by (verdict.Of u (action.Download down.Confirmed)) own = sends-not _ own refl (and_no (same_bits t u))
  sent-by (verdict.Of u (action.Download down.Declined)) own = sends-not _ own refl (and_no (same_bits t u))

pub sent-up-to : (t : Bits128) {h : List Exchange} → AllSound h → sent_up_to t h ≡ times is_delivery t h
unfolding sent_up_to times
sent-up-to t sounds.none = refl
sent-up-to t (sounds.more {e = e} {h = h} s r) =
    ap (λ (n : ℕ). cond (of_reply false is_sending_form (form e.reply) && same_bits t (transaction e.reply))
    (max n (segment e.reply)) n) (sent-up-to t r)
    ∙ sent-by t s r e.verdict refl

-- ---- how a transaction stands

module _ (t : Bits128) {e : Exchange} {h : List Exchange} (s : Sound e h) (r : AllSound h) (x : Status) where
  abbrev Says : Verdict → Type 0
  Says v = of_reply x (reply_status t e h x) (form e.reply) ≡ status_after t v e x

  -- a reply of t with its ID in it, and a refusal
  by-id : (u : Bits128) (k : Action) → e.verdict ≡ verdict.Of u k →
      (action_form (edition_of e.request) k ≡ forms.Refusal → ⊥) → (f : Bits128 → Status) →
      of_reply x (reply_status t e h x) (action_form (edition_of e.request) k) ≡ f (transaction e.reply) →
      f u ≡ status_after t (verdict.Of u k) e x → Says (verdict.Of u k)
  by-id u k own n f a b =
      ap (of_reply x (reply_status t e h x)) (formed-as s own) ∙ (a ∙ (ap f (carries s own n) ∙ b))

  by-request : (u : Bits128) (k : Action) → e.verdict ≡ verdict.Of u k →
      action_form (edition_of e.request) k ≡ forms.Refusal →
      transaction e.request ≡ u → is_cancelling (code_field (action_code k)) ≡ true →
      cond (same_bits t u) Cancelled x ≡ status_after t (verdict.Of u k) e x → Says (verdict.Of u k)
  by-request u k own f same c b =
      ap (of_reply x (reply_status t e h x)) (formed-as s own ∙ f)
      ∙ (ap (λ (i : Bits128). cond (same_bits t i) (cond (is_cancelling (return_code e.reply)) Cancelled x) x) same
      ∙ (ap (λ (d : Bool). cond (same_bits t u) (cond d Cancelled x) x) (ap is_cancelling (coded-as s own) ∙ c) ∙ b))

  -- 01 03 0D that cancels nothing: a refusal's, and a signing's reply
  by-none : (v : Verdict) → e.verdict ≡ v → verdict_form (edition_of e.request) v ≡ forms.Refusal →
      is_cancelling (code_field (verdict_code v)) ≡ false →
      of_reply x (reply_status t e h x) (form e.reply) ≡ x
  by-none v own f c =
      ap (of_reply x (reply_status t e h x)) (formed s ∙ (ap (verdict_form (edition_of e.request)) own ∙ f))
      ∙ (ap (λ (d : Bool). cond (same_bits t (transaction e.request)) (cond d Cancelled x) x)
      (ap is_cancelling (coded s ∙ ap (λ (v : Verdict). code_field (verdict_code v)) own) ∙ c)
      ∙ by-test (λ (y : Status). y ≡ x) (same_bits t (transaction e.request)) (λ _. refl) (λ _. refl))

  -- an accepted upload's reply, of either edition
  by-edition : (i : Edition) → is_upload_opened e ≡ true →
      of_reply x (reply_status t e h x) (opened_form i) ≡ upload_opened_status t e x
  by-edition edition.V24 z =
      ap (λ (b : Bool). cond b (upload_opened_status t e x)
      (cond (same_bits t (transaction e.reply)) (receipt_status e) (other_receipt e x))) z
  by-edition edition.V25 z = refl

  -- a receipt's, which accepts no upload
  receipt-reply : is_upload_opened e ≡ false →
      of_reply x (reply_status t e h x) forms.ReceiptAnswered
      ≡ cond (same_bits t (transaction e.reply)) (receipt_status e) (other_receipt e x)
  receipt-reply z =
      ap (λ (b : Bool). cond b (upload_opened_status t e x)
      (cond (same_bits t (transaction e.reply)) (receipt_status e) (other_receipt e x))) z

  -- the N of its opening
  count-is : (u : Bits128) → same_bits t u ≡ true → segment_count_of t h ≡ segments_at u h
  count-is u z =
      at-opened (λ (y : Exchange). segments y.request) 0 t r
      ∙ ap (λ (i : Bits128). segments_at i h) (bits-same t u z)

  sent_is : (u : Bits128) → same_bits t u ≡ true → sent_up_to t h ≡ times is_delivery u h
  sent_is u z = sent-up-to t r ∙ ap (λ (i : Bits128). times is_delivery i h) (bits-same t u z)

  says-by : (v : Verdict) → e.verdict ≡ v → SoundVerdict v e h → Says v
  unfolding download_segment
  says-by verdict.Unreadable own z =
      ap (of_reply x (reply_status t e h x)) (formed s ∙ ap (verdict_form (edition_of e.request)) own)
  says-by (verdict.Refused c) own z = by-none (verdict.Refused c) own refl (cancelling-code c ∙ z.harmless)
  says-by (verdict.Signed n added) own z = by-none (verdict.Signed n added) own refl refl
  says-by (verdict.Of u (action.Upload (up.Opened n))) own z =
      by-id u _ own (opened-answers (edition_of e.request))
      (λ (i : Bits128). cond (same_bits t i) (Open direction.Upload (subscriber e.request) e.clock) x)
      (by-edition (edition_of e.request) (upload-opened s own)) refl
  says-by (verdict.Of u (action.Upload up.Took)) own z =
      by-id u _ own (λ y. let w : ◌≡◌ {A = ℕ} 0 1 = cc in omega arith)
      (λ (i : Bits128). cond (same_bits t i) (taken_status t e h x) x) refl
      (cond_same (same_bits t u)
      (λ y. rw (
        is-code s own (code_field code.Ok),
        ne_eqb (segment e.request) (segment_count_of t h) (let a = z.below in let b = count-is u y in omega arith),
      ))
      (λ _. refl))
  says-by (verdict.Of u (action.Upload up.TookLast)) own z =
      by-id u _ own (λ y. let w : ◌≡◌ {A = ℕ} 0 1 = cc in omega arith)
      (λ (i : Bits128). cond (same_bits t i) (taken_status t e h x) x) refl
      (cond_same (same_bits t u)
      (λ y. rw (
        is-code s own (code_field code.Ok),
        eq-eqb (segment e.request) (segment_count_of t h) (z.last ∙ sym (count-is u y)),
      ))
      (λ _. refl))
  says-by (verdict.Of u (action.Upload (up.Point k))) own z =
      by-id u _ own (λ y. let w : ◌≡◌ {A = ℕ} 0 1 = cc in omega arith)
      (λ (i : Bits128). cond (same_bits t i) (taken_status t e h x) x) refl
      (cond_same (same_bits t u) (λ y. rw (is-code s own (code_field code.Ok))) (λ _. refl))
  says-by (verdict.Of u (action.Upload (up.Cancelled c))) own z =
      by-request u _ own refl (sym z.request.same) (cancelling-code c ∙ z.cancelling) refl
  says-by (verdict.Of u (action.Download (down.Opened n))) own z =
      by-id u _ own (λ y. let w : ◌≡◌ {A = ℕ} 0 1 = cc in omega arith)
      (λ (i : Bits128). cond (same_bits t i) (Open direction.Download (subscriber e.request) e.clock) x) refl refl
  says-by (verdict.Of u (action.Download (down.Delivered n))) own z =
      by-id u _ own (λ y. let w : ◌≡◌ {A = ℕ} 0 1 = cc in omega arith)
      (λ (i : Bits128). cond (same_bits t i) (sent_status t e h x) x) refl
      (cond_same (same_bits t u)
      (λ y. let m : segment e.reply ≡ segment e.request = ap segment (says s own) in
      let a = z.next in
      let b = sent_is u y in
      rw (lt-ltb (sent_up_to t h) (segment e.reply) (omega arith)))
      (λ _. refl))
  says-by (verdict.Of u (action.Download (down.SentAgain n))) own z =
      by-id u _ own (λ y. let w : ◌≡◌ {A = ℕ} 0 1 = cc in omega arith)
      (λ (i : Bits128). cond (same_bits t i) (sent_status t e h x) x) refl
      (cond_same (same_bits t u)
      (λ y. let m : segment e.reply ≡ segment e.request = ap segment (says s own) in
      let a = z.again in
      let b = sent_is u y in
      rw (le-ltb (sent_up_to t h) (segment e.reply) (omega arith)))
      (λ _. refl))
  says-by (verdict.Of u (action.Download (down.Point d))) own z =
      by-id u _ own (λ y. let w : ◌≡◌ {A = ℕ} 0 1 = cc in omega arith)
      (λ (i : Bits128). cond (same_bits t i) (taken_status t e h x) x) refl
      (cond_same (same_bits t u) (λ y. rw (is-code s own (code_field code.Ok))) (λ _. refl))
  says-by (verdict.Of u (action.Download down.Cancelled)) own z =
      by-request u _ own refl (sym z.request.same) refl refl
  says-by (verdict.Of u (action.Download down.Confirmed)) own z =
      by-id u _ own (λ y. let w : ◌≡◌ {A = ℕ} 0 1 = cc in omega arith)
      (λ (i : Bits128). cond (same_bits t i) (receipt_status e) (other_receipt e x)) (receipt-reply (upload-opened s own))
      (cond_same (same_bits t u) (λ y. rw (is-code s own (code_field code.DownloadPostprocessDone)))
      (λ y. rw (is-code s own (code_field code.DownloadPostprocessDone))))
  says-by (verdict.Of u (action.Download down.Declined)) own z =
      by-id u _ own (λ y. let w : ◌≡◌ {A = ℕ} 0 1 = cc in omega arith)
      (λ (i : Bits128). cond (same_bits t i) (receipt_status e) (other_receipt e x)) (receipt-reply (upload-opened s own))
      (cond_same (same_bits t u) (λ y. rw (is-code s own (code_field code.DownloadPostprocessDone)))
      (λ y. rw (is-code s own (code_field code.DownloadPostprocessDone))))

-- requests, replies and clocks tell how each transaction stands
pub standing-is : (t : Bits128) {h : List Exchange} → AllSound h → standing t h ≡ status t h
unfolding standing status
standing-is t sounds.none = refl
standing-is t (sounds.more {e = e} {h = h} s r) =
    ap (λ (y : Status). let x = drop_idle e.clock y in of_reply x (reply_status t e h x) (form e.reply))
    (standing-is t r)
    ∙ says-by t s r (drop_idle e.clock (status t h)) e.verdict refl s.verdict
