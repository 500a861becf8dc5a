-- Exchanges of a sound history: each opening has its own number, the bank's own numbering gives none twice, each segment
-- is taken once, what is ended was not booked.
use Prim.Native.Nat.{ℕ, suc, ◌+◌, ◌-◌, ◌*◌, ◌≤◌, ◌<◌}
use mathlib.Core.Bool.{Bool, true, false, cond, ◌&&◌}
use mathlib.Core.List.{List, [], ◌∷◌, ◌++◌}
use mathlib.Core.Path.{◌≡◌, refl, sym, ap, ◌∙◌, subst}
use native.Mathlib.Omega.{arith}
use lib.Dec.{eqb}
use lib.ListN.{take, drop}
use lib.Seq.{take-add}
use borrow.Author.Tests.{eqb-true, eq-eqb}
use Rattle.frame_table.specs.declared.fields.Bits128.{Bits128}
use Rattle.frame_table.specs.Names.{subscriber, segment, same_bits}
use Rattle.octets.proofs.Tests.{never, and-true}
use Rattle.frame_table.proofs.Bits.{bits-same}
use Rattle.message.specs.declared.editions.Edition.{Edition}
use Rattle.message.specs.declared.editions.Edition.TheVariants as edition
use Rattle.message.specs.Editions.{edition_of}
use Rattle.message.specs.Limits.{segment_bytes}
use Rattle.message.specs.Segments.{segment_of}
use Rattle.bank_verdicts.specs.declared.verdict.UploadAction.{UploadAction}
use Rattle.bank_verdicts.specs.declared.verdict.UploadAction.TheVariants as up
use Rattle.bank_verdicts.specs.declared.verdict.DownloadAction.{DownloadAction}
use Rattle.bank_verdicts.specs.declared.verdict.DownloadAction.TheVariants as down
use Rattle.bank_verdicts.specs.declared.verdict.Action.{Action}
use Rattle.bank_verdicts.specs.declared.verdict.Action.TheVariants as action
use Rattle.bank_verdicts.specs.declared.verdict.SignedOrder.{SignedOrder}
use Rattle.bank_verdicts.specs.declared.verdict.Verdict.{Verdict}
use Rattle.bank_verdicts.specs.declared.verdict.Verdict.TheVariants as verdict
use Rattle.bank_history.specs.History.{upload_kind, download_kind, Exchange, Stands, newest, older, is_opening, is_taking, is_booking, is_ending, did, ever, times, received, segments_at, accepted, own_numbering, numbers_own, is_own, opens, accepts_upload, OpensNumber, OpensInSeries, ActionIn}
use Rattle.bank_history.specs.Sound.{
  SoundUploadAction,
  SoundDownloadAction,
  SoundAction,
  SoundVerdict,
  SoundRequest,
  SoundTaking,
  SoundSigning,
  NumberedAs,
  Sound,
  AllSound,
  none,
  more,
}
use Rattle.message.proofs.Verdicts.{by-test}
use Rattle.bank_history.proofs.Entries.{ever-own, did-same}

pub sound-at : {e : Exchange} {g h : List Exchange} → AllSound h → Stands e g h → Sound e g
sound-at (more s r) newest = s
sound-at (more s r) (older p) = sound-at r p
sound-at {e = e} {g = g} none x3 = elim x3 [ ]

-- what stands before an exchange of a history stands in it
pub stands-behind : {e f : Exchange} {g k h : List Exchange} → Stands f k g → Stands e g h → Stands f k h
stands-behind p newest = older p
stands-behind p (older q) = older (stands-behind p q)

-- nothing stands in the history of a fresh bank
pub stands-none : {e : Exchange} {g h : List Exchange} → Stands e g h → h ≡ [] → ⊥
stands-none newest z = let y : ◌≡◌ {A = ℕ} 0 1 = cc in omega arith
stands-none (older p) z = let y : ◌≡◌ {A = ℕ} 0 1 = cc in omega arith

-- what the verdict of a standing exchange says
pub action-sound : {e : Exchange} {g h : List Exchange} {t : Bits128} {k : Action} → AllSound h → Stands e g h →
    e.verdict ≡ verdict.Of t k →
    SoundAction k t e g
action-sound {e} {g} r p own = subst (λ (v : Verdict). SoundVerdict v e g) own (sound-at r p).verdict

-- so is an accepted signing
pub signing-sound : {e : Exchange} {g h : List Exchange} {n : SignedOrder} {added : Bool} → AllSound h → Stands e g h →
    e.verdict ≡ verdict.Signed n added → SoundSigning n added e g
signing-sound {e} {g} r p own = subst (λ (v : Verdict). SoundVerdict v e g) own (sound-at r p).verdict

-- at most one exchange with one value, where a measure of what came before it has not passed the value, and each such
-- exchange takes the measure past its own
module _ (P : Exchange → Type 0) (value : Exchange → ℕ) (measure : List Exchange → ℕ)
    (known : (e : Exchange) (g : List Exchange) → Sound e g → P e → measure g ≤ value e)
    (raises : (e : Exchange) (g : List Exchange) → Sound e g → P e → value e < measure (e ∷ g))
    (grows : (e : Exchange) (g : List Exchange) → Sound e g → measure g ≤ measure (e ∷ g)) where
  below : {e : Exchange} {g h : List Exchange} → AllSound h → Stands e g h → P e → value e < measure h
  below {e} {g} (more s r) newest p = raises e g s p
  below (more {e = x} {h = h} y r) (older s) p = let a = below r s p in let b = grows x h y in omega arith
  below {e = e} {g = g} none x5 p = elim x5 [ ]

  one-rising : {e f : Exchange} {g k h : List Exchange} → AllSound h → Stands e g h → Stands f k h → P e → P f → value e ≡ value f →
      (e ≡ f) × (g ≡ k)
  one-rising (more s r) newest newest p q z = (refl, refl)
  one-rising {e} {f} {g} {k} (more s r) newest (older b) p q z =
      absurd (let m = known e g s p in let l = below r b q in omega arith)
  one-rising {e} {f} {g} {k} (more s r) (older a) newest p q z =
      absurd (let m = known f k s q in let l = below r a p in omega arith)
  one-rising (more s r) (older a) (older b) p q z = one-rising r a b p q z
  one-rising {e = e} {f = f} {g = g} {k = k} none x11 _ p q z = elim x11 [ ]

-- so where the value is the measure, which each such exchange raises
one_place : (P : Exchange → Type 0) (value : Exchange → ℕ) (measure : List Exchange → ℕ) →
    ((e : Exchange) (g : List Exchange) → Sound e g → P e → value e ≡ measure g) →
    ((e : Exchange) (g : List Exchange) → P e → measure g < measure (e ∷ g)) →
    ((e : Exchange) (g : List Exchange) → measure g ≤ measure (e ∷ g)) →
    {e f : Exchange} {g k h : List Exchange} → AllSound h → Stands e g h → Stands f k h → P e → P f → value e ≡ value f →
    (e ≡ f) × (g ≡ k)
one_place P value measure known raises grows =
    one-rising P value measure (λ e g s p. let z = known e g s p in omega arith)
    (λ e g s p. let z = known e g s p in let y = raises e g p in omega arith) (λ e g s. grows e g)

-- ---- openings

upload-number : (t : Bits128) (e : Exchange) (g : List Exchange) (a : UploadAction) → is_opening (action.Upload a) ≡ true →
    SoundUploadAction a t e g → t.low ≡ accepted g
upload-number t e g (up.Opened n) o s = s.opening.numbered
upload-number t e g up.Took o s = never o
upload-number t e g up.TookLast o s = never o
upload-number t e g (up.Point k) o s = never o
upload-number t e g (up.Cancelled c) o s = never o

download-number : (t : Bits128) (e : Exchange) (g : List Exchange) (a : DownloadAction) → is_opening (action.Download a) ≡ true →
    SoundDownloadAction a t e g → t.low ≡ accepted g
download-number t e g (down.Opened n) o s = s.opening.numbered
download-number t e g (down.Delivered n) o s = never o
download-number t e g (down.SentAgain n) o s = never o
download-number t e g (down.Point d) o s = never o
download-number t e g down.Cancelled o s = never o
download-number t e g down.Confirmed o s = never o
download-number t e g down.Declined o s = never o

pub opening-number : (t : Bits128) (e : Exchange) (g : List Exchange) (k : Action) → is_opening k ≡ true → SoundAction k t e g →
    t.low ≡ accepted g
opening-number t e g (action.Upload a) o s = upload-number t e g a o s
opening-number t e g (action.Download a) o s = download-number t e g a o s

-- "The accepted openings are numbered from 0": each has its own number
pub one-opening : (n : ℕ) {e f : Exchange} {g k h : List Exchange} → AllSound h → Stands e g h → Stands f k h → OpensNumber n e →
    OpensNumber n f → (e ≡ f) × (g ≡ k)
unfolding accepted
one-opening n r a b p q = one_place (OpensNumber n) (λ _. n) accepted known raises grows r a b p q refl
  where
    known : (e : Exchange) (g : List Exchange) → Sound e g → OpensNumber n e → n ≡ accepted g
    known e g s p = sym p.numbered
        ∙ opening-number p.id e g p.action p.opening (subst (λ (v : Verdict). SoundVerdict v e g) p.is s.verdict)

    raises : (e : Exchange) (g : List Exchange) → OpensNumber n e → accepted g < accepted (e ∷ g)
    raises e g p = rw p.is (rw p.opening (omega arith))

    grows : (e : Exchange) (g : List Exchange) → accepted g ≤ accepted (e ∷ g)
    grows e g = by-test (λ (m : ℕ). accepted g ≤ m) (opens e.verdict) (λ _. omega arith) (λ _. omega arith)

-- ---- the bank's own numbering

upload-given : (a : UploadAction) → (upload_kind a).opens_upload ≡ true → (n : ℕ) × (a ≡ up.Opened n)
upload-given (up.Opened n) o = (n, refl)
upload-given up.Took o = never o
upload-given up.TookLast o = never o
upload-given (up.Point k) o = never o
upload-given (up.Cancelled c) o = never o

download-given : (a : DownloadAction) → (download_kind a).opens_upload ≡ false
download-given (down.Opened n) = refl
download-given (down.Delivered n) = refl
download-given (down.SentAgain n) = refl
download-given (down.Point d) = refl
download-given down.Cancelled = refl
download-given down.Confirmed = refl
download-given down.Declined = refl

-- an accepted upload's verdict has its number
pub accepts-upload : (v : Verdict) → accepts_upload v ≡ true →
    (t : Bits128) × (n : ℕ) × (v ≡ verdict.Of t (action.Upload (up.Opened n)))
accepts-upload verdict.Unreadable o = never o
accepts-upload (verdict.Refused c) o = never o
accepts-upload (verdict.Signed n added) o = never o
accepts-upload (verdict.Of t (action.Download a)) o = never (sym (download-given a) ∙ o)
accepts-upload (verdict.Of t (action.Upload a)) o =
    let z = upload-given a o in (t, z.0, ap (λ (b : UploadAction). verdict.Of t (action.Upload b)) z.1)

own-edition : (x : Edition) → is_own x ≡ true → x ≡ edition.V25
own-edition edition.V24 o = never o
own-edition edition.V25 o = refl

-- what the bank's own numbering gave its number
pub own-opening : (e : Exchange) → numbers_own e ≡ true → (n : ℕ) × OpensInSeries (subscriber e.request) n e
own-opening e o =
    let a = and-true (accepts_upload e.verdict) (is_own (edition_of e.request)) o in
    let z = accepts-upload e.verdict a.0 in
    (z.1, record { id = z.0; is = z.2; own = own-edition (edition_of e.request) a.1; owner = refl })

module _ {s n : ℕ} {e : Exchange} (p : OpensInSeries s n e) (g : List Exchange) where
  -- it has not passed the number that it gives
  pub own-from : Sound e g → own_numbering s g ≤ n
  own-from x =
      let z = (subst (λ (v : Verdict). SoundVerdict v e g) p.is x.verdict).number in
      let y : NumberedAs edition.V25 n e g = subst (λ (i : Edition). NumberedAs i n e g) p.own z in
      subst (λ (i : ℕ). own_numbering i g ≤ n) p.owner y

  -- and has come past it then
  pub own-past : own_numbering s (e ∷ g) ≡ suc n
  unfolding own_numbering
  own-past = rw (p.is, p.own, eq-eqb (subscriber e.request) s p.owner)

-- no other exchange moves it
pub own-still : (s : ℕ) (e : Exchange) (g : List Exchange) → numbers_own e && eqb (subscriber e.request) s ≡ false →
    own_numbering s (e ∷ g) ≡ own_numbering s g
unfolding own_numbering
own-still s e g z = rw z

own-grows : (s : ℕ) (e : Exchange) (g : List Exchange) → Sound e g → own_numbering s g ≤ own_numbering s (e ∷ g)
own-grows s e g x = at (numbers_own e && eqb (subscriber e.request) s) refl
  where
    at : (b : Bool) → numbers_own e && eqb (subscriber e.request) s ≡ b → own_numbering s g ≤ own_numbering s (e ∷ g)
    at true z =
        let a = and-true (numbers_own e) (eqb (subscriber e.request) s) z in
        let o = own-opening e a.0 in
        let q = o.1 in
        let p : OpensInSeries s o.0 e =
        record { id = q.id; is = q.is; own = q.own; owner = eqb-true (subscriber e.request) s a.1 } in
        let b = own-from p g x in
        let c = own-past p g in
        omega arith
    at false z = let c = own-still s e g z in omega arith

-- a number that it gave is behind it from then on
pub upload-below : {s n : ℕ} {e : Exchange} {g h : List Exchange} → AllSound h → Stands e g h → OpensInSeries s n e →
    n < own_numbering s h
upload-below {g = g} (more x r) newest p = let z = own-past p g in omega arith
upload-below {s} (more {e = x} {h = h} y r) (older a) p =
    let b = upload-below r a p in let c = own-grows s x h y in omega arith
upload-below {s = s} {n = n} {e = e} {g = g} none x5 p = elim x5 [ ]

-- no number comes twice from it
pub one-upload : (s n : ℕ) {e f : Exchange} {g k h : List Exchange} → AllSound h → Stands e g h → Stands f k h →
    OpensInSeries s n e → OpensInSeries s n f → (e ≡ f) × (g ≡ k)
one-upload s n r a b p q =
    one-rising (OpensInSeries s n) (λ _. n) (own_numbering s) (λ e g x p. own-from p g x)
    (λ e g x p. let z = own-past p g in omega arith) (own-grows s) r a b p q refl

-- ---- one kind of actions of one transaction

module _ (f : Action → Bool) (t : Bits128) where
  times-raises : (e : Exchange) (g : List Exchange) → ActionIn f t e → times f t g < times f t (e ∷ g)
  unfolding times
  times-raises e g p =
      let z : did f t e.verdict ≡ true = ap (did f t) p.is ∙ (did-same f t p.action ∙ p.kind) in
      rw z (omega arith)

  times-grows : (e : Exchange) (g : List Exchange) → times f t g ≤ times f t (e ∷ g)
  unfolding times
  times-grows e g = by-test (λ (m : ℕ). times f t g ≤ m) (did f t e.verdict) (λ _. omega arith) (λ _. omega arith)

  pub never-times : (h : List Exchange) → ever f t h ≡ false → times f t h ≡ 0
  unfolding ever times
  never-times [] e = refl
  never-times (x ∷ h) e = at (did f t x.verdict) (never-times h) e
    where
      at : (b : Bool) → (ever f t h ≡ false → times f t h ≡ 0) → cond b true (ever f t h) ≡ false →
          cond b (suc (times f t h)) (times f t h) ≡ 0
      at true later z = never (sym z)
      at false later z = later z

-- a download takes no segment and books none
download-takes-not : (a : DownloadAction) → (download_kind a).takes ≡ false
download-takes-not (down.Opened n) = refl
download-takes-not (down.Delivered n) = refl
download-takes-not (down.SentAgain n) = refl
download-takes-not (down.Point d) = refl
download-takes-not down.Cancelled = refl
download-takes-not down.Confirmed = refl
download-takes-not down.Declined = refl

download-books-not : (a : DownloadAction) → (download_kind a).books ≡ false
download-books-not (down.Opened n) = refl
download-books-not (down.Delivered n) = refl
download-books-not (down.SentAgain n) = refl
download-books-not (down.Point d) = refl
download-books-not down.Cancelled = refl
download-books-not down.Confirmed = refl
download-books-not down.Declined = refl

upload-next : (a : UploadAction) {t : Bits128} {e : Exchange} {g : List Exchange} → (upload_kind a).takes ≡ true →
    SoundUploadAction a t e g → SoundTaking t e g
upload-next (up.Opened n) o s = never o
upload-next up.Took o s = s.taking
upload-next up.TookLast o s = s.taking
upload-next (up.Point k) o s = never o
upload-next (up.Cancelled c) o s = never o

taking-next : (k : Action) {t : Bits128} {e : Exchange} {g : List Exchange} → is_taking k ≡ true → SoundAction k t e g → SoundTaking t e g
taking-next (action.Upload a) o s = upload-next a o s
taking-next (action.Download a) o s = never (sym (download-takes-not a) ∙ o)

-- the segments of a transaction were taken in the order 1, 2, 3 ..., so each at most once
pub taking-sound : {t : Bits128} {e : Exchange} {g h : List Exchange} → AllSound h → Stands e g h → ActionIn is_taking t e →
    SoundTaking t e g
taking-sound r p d = taking-next d.action d.kind (action-sound r p d.is)

pub one-taking : (t : Bits128) {e f : Exchange} {g k h : List Exchange} → AllSound h → Stands e g h → Stands f k h →
    ActionIn is_taking t e → ActionIn is_taking t f →
    segment e.request ≡ segment f.request → (e ≡ f) × (g ≡ k)
one-taking t = one_place (ActionIn is_taking t) (λ (e : Exchange). segment e.request) (λ (g : List Exchange). suc (times is_taking t g))
    (λ e g s p. (taking-next p.action p.kind (subst (λ (v : Verdict). SoundVerdict v e g) p.is s.verdict)).next)
    (λ e g p. let z = times-raises is_taking t e g p in omega arith) (λ e g. let z = times-grows is_taking t e g in omega arith)

upload-books-last : (a : UploadAction) → (upload_kind a).books ≡ true → a ≡ up.TookLast
upload-books-last (up.Opened n) o = never o
upload-books-last up.Took o = never o
upload-books-last up.TookLast o = refl
upload-books-last (up.Point k) o = never o
upload-books-last (up.Cancelled c) o = never o

pub booking-last : (k : Action) → is_booking k ≡ true → k ≡ action.Upload up.TookLast
booking-last (action.Upload a) o = ap action.Upload (upload-books-last a o)
booking-last (action.Download a) o = never (sym (download-books-not a) ∙ o)

-- "Segment N books the order": the segment taken is the last one of its opening exactly when it books
upload-last-books : (t : Bits128) (e : Exchange) (g : List Exchange) (a : UploadAction) → (upload_kind a).takes ≡ true →
    SoundUploadAction a t e g → segment e.request ≡ segments_at t g → (upload_kind a).books ≡ true
upload-last-books t e g (up.Opened n) o s z = never o
upload-last-books t e g up.Took o s z = absurd (let b = s.below in omega arith)
upload-last-books t e g up.TookLast o s z = refl
upload-last-books t e g (up.Point k) o s z = never o
upload-last-books t e g (up.Cancelled c) o s z = never o

last-books : (t : Bits128) (e : Exchange) (g : List Exchange) (k : Action) → is_taking k ≡ true → SoundAction k t e g →
    segment e.request ≡ segments_at t g → is_booking k ≡ true
last-books t e g (action.Upload a) o s z = upload-last-books t e g a o s z
last-books t e g (action.Download a) o s z = never (sym (download-takes-not a) ∙ o)

pub taken-last-books : (t : Bits128) {e : Exchange} {g h : List Exchange} → AllSound h → Stands e g h → ActionIn is_taking t e →
    segment e.request ≡ segments_at t g → ActionIn is_booking t e
taken-last-books t {e} {g} r p d z =
    record { action = d.action; is = d.is; kind = last-books t e g d.action d.kind (action-sound r p d.is) z }

pub booking-takes-last : (t : Bits128) {e : Exchange} {g h : List Exchange} → AllSound h → Stands e g h → ActionIn is_booking t e →
    segment e.request ≡ segments_at t g
booking-takes-last t r p d = (action-sound r p (d.is ∙ ap (verdict.Of t) (booking-last d.action d.kind))).last

-- a transaction is booked at most once
pub one-booking : (t : Bits128) {e f : Exchange} {g k h : List Exchange} → AllSound h → Stands e g h → Stands f k h →
    ActionIn is_booking t e → ActionIn is_booking t f → (e ≡ f) × (g ≡ k)
one-booking t r a b p q = one_place (ActionIn is_booking t) (λ _. 0) (times is_booking t) known (times-raises is_booking t)
    (times-grows is_booking t) r a b p q refl
  where
    known : (e : Exchange) (g : List Exchange) → Sound e g → ActionIn is_booking t e → 0 ≡ times is_booking t g
    known e g s p =
        let last = subst (λ (v : Verdict). SoundVerdict v e g)
        (p.is ∙ ap (verdict.Of t) (booking-last p.action p.kind)) s.verdict in
        sym (never-times is_booking t g last.taking.upload.request.unbooked)

-- ---- from the truth values to exchanges

action-in : (f : Action → Bool) (t : Bits128) (x : Exchange) (v : Verdict) → x.verdict ≡ v → did f t v ≡ true → ActionIn f t x
action-in f t x verdict.Unreadable e d = never d
action-in f t x (verdict.Refused c) e d = never d
action-in f t x (verdict.Signed n added) e d = never d
action-in f t x (verdict.Of u k) e d =
    let a = and-true (same_bits t u) (f k) d in
    record { action = k; is = e ∙ ap (λ (b : Bits128). verdict.Of b k) (sym (bits-same t u a.0)); kind = a.1 }

pub ever-stands : (f : Action → Bool) (t : Bits128) (h : List Exchange) → ever f t h ≡ true →
    (e : Exchange) × (g : List Exchange) × Stands e g h × ActionIn f t e
unfolding ever
ever-stands f t [] z = never z
ever-stands f t (x ∷ h) z = at (did f t x.verdict) refl (ever-stands f t h) z
  where
    at : (b : Bool) → did f t x.verdict ≡ b → (ever f t h ≡ true → (e : Exchange) × (g : List Exchange)
        × Stands e g h × ActionIn f t e) →
        cond b true (ever f t h) ≡ true →
        (e : Exchange) × (g : List Exchange) × Stands e g (x ∷ h) × ActionIn f t e
    at true d later y = (x, h, newest, action-in f t x x.verdict refl d)
    at false d later y = let r = later y in (r.0, r.1, older r.2, r.3)

pub stands-ever : (f : Action → Bool) (t : Bits128) {e : Exchange} {g h : List Exchange} → Stands e g h → ActionIn f t e → ever f t h ≡ true
unfolding ever
stands-ever f t {e} {g} newest p = ever-own t p.action e g p.is f ∙ ap (λ (b : Bool). cond b true (ever f t g)) p.kind
stands-ever f t (older {x = x} {h = h} s) p = rw (stands-ever f t s p) (any (did f t x.verdict))
  where
    any : (b : Bool) → cond b true true ≡ true
    any true = refl
    any false = refl

-- ---- what is ended was not booked, and what is booked was not ended

-- every action but an opening answers a request to an open transaction of its subscriber
upload-request-of : (a : UploadAction) {t : Bits128} {e : Exchange} {g : List Exchange} → is_opening (action.Upload a) ≡ false →
    SoundUploadAction a t e g → SoundRequest t e g
upload-request-of (up.Opened n) o s = never (sym o)
upload-request-of up.Took o s = s.taking.upload.request
upload-request-of up.TookLast o s = s.taking.upload.request
upload-request-of (up.Point k) o s = s.upload.request
upload-request-of (up.Cancelled c) o s = s.request

download-request-of : (a : DownloadAction) {t : Bits128} {e : Exchange} {g : List Exchange} → is_opening (action.Download a) ≡ false →
    SoundDownloadAction a t e g → SoundRequest t e g
download-request-of (down.Opened n) o s = never (sym o)
download-request-of (down.Delivered n) o s = s.carried.download.request
download-request-of (down.SentAgain n) o s = s.carried.download.request
download-request-of (down.Point d) o s = s.request
download-request-of down.Cancelled o s = s.request
download-request-of down.Confirmed o s = s.receipt.download.request
download-request-of down.Declined o s = s.download.request

pub request-of : (k : Action) {t : Bits128} {e : Exchange} {g : List Exchange} → is_opening k ≡ false → SoundAction k t e g →
    SoundRequest t e g
request-of (action.Upload a) o s = upload-request-of a o s
request-of (action.Download a) o s = download-request-of a o s

upload-ends-opened : (a : UploadAction) → (upload_kind a).ends ≡ true → is_opening (action.Upload a) ≡ false
upload-ends-opened (up.Opened n) o = never o
upload-ends-opened up.Took o = refl
upload-ends-opened up.TookLast o = refl
upload-ends-opened (up.Point k) o = refl
upload-ends-opened (up.Cancelled c) o = refl

download-ends-opened : (a : DownloadAction) → (download_kind a).ends ≡ true → is_opening (action.Download a) ≡ false
download-ends-opened (down.Opened n) o = never o
download-ends-opened (down.Delivered n) o = refl
download-ends-opened (down.SentAgain n) o = refl
download-ends-opened (down.Point d) o = refl
download-ends-opened down.Cancelled o = refl
download-ends-opened down.Confirmed o = refl
download-ends-opened down.Declined o = refl

ending-opens-not : (k : Action) → is_ending k ≡ true → is_opening k ≡ false
ending-opens-not (action.Upload a) o = upload-ends-opened a o
ending-opens-not (action.Download a) o = download-ends-opened a o

pub ended-unbooked : (t : Bits128) {h : List Exchange} → AllSound h → ever is_ending t h ≡ true → ever is_booking t h ≡ true → ⊥
ended-unbooked t {h} r e b = let x = ever-stands is_ending t h e in let y = ever-stands is_booking t h b in at r x.2 x.3 y.2 y.3
  where
    at : {e f : Exchange} {g k h : List Exchange} → AllSound h → Stands e g h → ActionIn is_ending t e → Stands f k h →
        ActionIn is_booking t f → ⊥
    at {e} {f} {g} {k} (more s r) newest p newest q =
        let z : verdict.Of t p.action ≡ verdict.Of t (action.Upload up.TookLast) = sym p.is
        ∙ (q.is ∙ ap (verdict.Of t) (booking-last q.action q.kind)) in
        never (sym (ap ending z) ∙ p.kind)
      where
        ending : Verdict → Bool
        ending verdict.Unreadable = false
        ending (verdict.Refused c) = false
        ending (verdict.Signed n added) = false
        ending (verdict.Of u d) = is_ending d
    at {e} {f} {g} (more s r) newest p (older b) q =
        let z = request-of p.action (ending-opens-not p.action p.kind)
        (subst (λ (v : Verdict). SoundVerdict v e g) p.is s.verdict) in
        never (sym z.unbooked ∙ stands-ever is_booking t b q)
    at {e} {f} {g} {k} (more s r) (older a) p newest q =
        let z = subst (λ (v : Verdict). SoundVerdict v f k) (q.is ∙ ap (verdict.Of t) (booking-last q.action q.kind)) s.verdict in
        never (sym z.taking.upload.request.going ∙ stands-ever is_ending t a p)
    at (more s r) (older a) p (older b) q = at r a p b q
    at {e = e} {f = f} {g = g} {k = k} none x9 p _ q = elim x9 [ ]

-- ---- the payload

segment-behind : (payload : List ℕ) (n : ℕ) → segment_of payload (suc n) ≡ take segment_bytes (drop (n * segment_bytes) payload)
unfolding segment_of
segment-behind payload n = let e : suc n - 1 ≡ n = omega arith in ap (λ (m : ℕ). take segment_bytes (drop (m * segment_bytes) payload)) e

-- where every segment taken of t is the payload's, the data received are the payload's front
pub received-payload : (t : Bits128) (payload : List ℕ) {h : List Exchange} → AllSound h →
    ((e : Exchange) (g : List Exchange) → Stands e g h → ActionIn is_taking t e →
    e.request_data ≡ segment_of payload (segment e.request)) →
    received t h ≡ take (times is_taking t h * segment_bytes) payload
unfolding received times
received-payload t payload none cut = refl
received-payload t payload (more {e = e} {h = h} s r) cut =
    at (did is_taking t e.verdict) refl (received-payload t payload r (λ x g p. cut x g (older p)))
  where
    more-data : ActionIn is_taking t e → received t h ≡ take (times is_taking t h * segment_bytes) payload →
        received t h ++ e.request_data ≡ take (suc (times is_taking t h) * segment_bytes) payload
    more-data d z =
        let n = times is_taking t h in
        let next = (taking-next d.action d.kind (subst (λ (v : Verdict). SoundVerdict v e h) d.is s.verdict)).next in
        let a : suc n * segment_bytes ≡ n * segment_bytes + segment_bytes = omega arith in
        let b = cut e h newest d ∙ (ap (segment_of payload) next ∙ segment-behind payload n) in
        ap (λ (l : List ℕ). l ++ e.request_data) z
        ∙ (ap (λ (l : List ℕ). take (n * segment_bytes) payload ++ l) b
        ∙ (sym (take-add (n * segment_bytes) segment_bytes payload) ∙ ap (λ (m : ℕ). take m payload) (sym a)))

    at : (b : Bool) → did is_taking t e.verdict ≡ b → received t h ≡ take (times is_taking t h * segment_bytes) payload →
        cond b (received t h ++ e.request_data) (received t h) ≡ take
        (cond b (suc (times is_taking t h)) (times is_taking t h) * segment_bytes) payload
    at true d z = more-data (action-in is_taking t e e.verdict refl d) z
    at false d z = z
