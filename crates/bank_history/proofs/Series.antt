-- Order numbers over every list of calls: which number an accepted upload has, that the bank's own numbering gives the first
-- one that is not held, and when a number that a client chose is refused. Assumes nothing.
use Prim.Native.Nat.{ℕ, suc, ◌≤◌, ◌<◌}
use mathlib.Core.Bool.{Bool, true, false, cond, not, ◌&&◌, ◌||◌}
use mathlib.Core.List.{List, [], ◌∷◌}
use mathlib.Core.Logic.{◌⊎◌, inl, inr}
use mathlib.Core.Path.{◌≡◌, refl, sym, ap, ◌∙◌, subst}
use native.Mathlib.Omega.{arith}
use lib.Dec.{ltb, eqb}
use lib.ListN.{length}
use borrow.Author.Tests.{eqb-true, eq-eqb, ne_eqb, le-ltb}
use Rattle.frame_table.specs.declared.fields.Bits128.{Bits128}
use Rattle.frame_table.specs.declared.fields.Fields.{Fields}
use Rattle.frame_table.specs.declared.table.Form.{Form}
use Rattle.frame_table.specs.declared.table.Form.TheVariants.{NoForm, Request, Reply}
use Rattle.frame_table.specs.declared.table.RequestForm.{RequestForm}
use Rattle.frame_table.specs.declared.table.RequestForm.TheVariants as requests
use Rattle.frame_table.specs.Forms as forms
use Rattle.frame_table.specs.Names.{subscriber, order_type, segments, transaction, return_code, order_number, form}
use Rattle.frame_table.specs.Table.{is_request_form}
use Rattle.octets.specs.Bytes.{number}
use Rattle.octets.proofs.Tests.{never, and-true}
use Rattle.message.specs.declared.codes.ReturnCode.TheVariants as code
use Rattle.message.specs.declared.editions.Edition.TheVariants as edition
use Rattle.message.specs.Codes.{code_field}
use Rattle.message.specs.Editions.{edition_of, order_opened}
use Rattle.message.specs.Limits.{ful, fdl, subscribers, max_segments}
use Rattle.message.specs.OrderNumbers.{order_number_of, is_order_number, order_in}
use Rattle.message.proofs.Verdicts.{by-test}
use Rattle.bank_state.specs.Limits.{place_count, series_limit}
use Rattle.bank_state.specs.Numbers.{next_number}
use Rattle.bank_state.specs.Search.{is_number_held}
use Rattle.bank_state.specs.State.{Bank, series_of}
use Rattle.bank_state.proofs.Numbers.{next-from, next-passed}
use Rattle.bank_verdicts.specs.declared.verdict.Context.{Context}
use Rattle.message.specs.declared.directions.Direction.{Direction}
use Rattle.message.specs.declared.directions.Direction.TheVariants as direction
use Rattle.bank_verdicts.specs.declared.verdict.TransactionRequest.{TransactionRequest}
use Rattle.bank_verdicts.specs.declared.verdict.TransactionRequest.TheVariants as asks
use Rattle.bank_verdicts.specs.declared.verdict.UploadAction.{UploadAction}
use Rattle.bank_verdicts.specs.declared.verdict.UploadAction.TheVariants as up
use Rattle.bank_verdicts.specs.declared.verdict.DownloadAction.TheVariants as down
use Rattle.bank_verdicts.specs.declared.verdict.Action.TheVariants as action
use Rattle.bank_verdicts.specs.declared.verdict.Verdict.{Verdict}
use Rattle.bank_verdicts.specs.declared.verdict.Verdict.TheVariants as verdict
use Rattle.bank_verdicts.specs.Refusals.{
  Row,
  request_rows,
  unknown_type,
  other_direction,
  many_segments,
  is_replay,
  is_held,
  opening_rows,
  signing_rows,
  transaction_rows,
}
use Rattle.bank_verdicts.specs.Judgement.{
  judged,
  opening_number,
  accepted,
  upload_at,
  signed,
  judge_opening,
  judge_signing,
  judge_open,
  judge_transaction,
  judge_request,
  judge_form,
  judge,
}
use Rattle.bank_verdicts.proofs.Lines.{no_row, each-such, judged-by, not-given, held}
use Rattle.bank_verdicts.proofs.Series.{number-unheld, number-own}
use Rattle.bank_verdicts.proofs.Sound.{Numbered}
use Rattle.bank_steps.proofs.Cases.{
  Happens,
  unreadable,
  refused,
  opens_upload,
  opens_download,
  signs,
  to_upload,
  to_download,
}
use Rattle.bank.specs.Call.{context_of}
use Rattle.bank_history.specs.History.{
  Exchange,
  BankCall,
  Stands,
  newest,
  is_opening,
  OpensInSeries,
  past_of,
}
use Rattle.bank_history.specs.FalseEconomies.{Next, WellMadeOpening, RefusedWith}
use Rattle.bank_history.specs.Sound.{is_cancelling, SoundUploadOpening, AllSound}
use Rattle.bank_history.specs.Opened.{is_own_opened, is_upload_opened}
use Rattle.bank_history.specs.ByReplies.{own_given, number_given}
use Rattle.bank_history.specs.Series.{InSeries, OwnInSeries, EntersOwn, counter_of, Held, Series}
use Rattle.bank_history.specs.Timely.{Timely}
use Rattle.bank_history.proofs.ByReplies.{own-told}
use Rattle.bank_history.proofs.Closed.{by-exchange}
use Rattle.bank_history.proofs.FreshNonces.{no-replay}
use Rattle.bank_history.proofs.GoesOn.{upload-goes-on}
use Rattle.bank_history.proofs.HeldNumbers.{single-held, next-found, next-held}
use Rattle.bank_history.proofs.NextCall.{
  judged_bank,
  asked,
  sent,
  all_sound,
  request-is,
  verdict-is,
  judged-holds,
  case-is,
  refused-with,
  well-made,
}
use Rattle.bank_history.proofs.Opened.{own-is-upload, is-own, number-given}
use Rattle.bank_history.proofs.Positions.{sound-at, action-sound, own-opening, one-upload}
use Rattle.bank_history.proofs.Replies.{verdict_code, verdict-code, cancelling-code}
use Rattle.bank_history.proofs.Theorems.{invariant, history-sound, reply-is, upload-opened}
use Rattle.bank_history.proofs.UploadRequests.{verdict-by-form}
use Rattle.bank_history.proofs.UploadTypes.{series-typed}

-- ---- one accepted upload

module _ {e : Exchange} {g h : List Exchange} (sound : AllSound h) (stands : Stands e g h) where
  abbrev Told : Type 0
  Told = (n : ℕ) × (e.verdict ≡ verdict.Of (transaction e.reply) (action.Upload (up.Opened n)))
      × SoundUploadOpening n (transaction e.reply) e g × (order_opened e.request e.reply ≡ order_number_of n)

  given : (t : Told) → number_given e ≡ t.0
  given t = number-given (sound-at sound stands) t.1

  -- one of the bank's own numbering is of edition 2.5
  by-own : is_own_opened e ≡ true → Told × (edition_of e.request ≡ edition.V25)
  by-own z = (
    upload-opened sound stands (own-is-upload e z),
    (own-opening e (sym (is-own (sound-at sound stands)) ∙ z)).1.own,
  )

module _ (calls : List BankCall) {s : ℕ} {e : Exchange} {g : List Exchange} (i : InSeries s e g (past_of calls).history) where
  told : Told (history-sound calls) i.stands
  told = upload-opened (history-sound calls) i.stands i.opened

  series-numbered : (number_given e < series_limit) × (order_opened e.request e.reply ≡ order_number_of (number_given e))
  series-numbered =
      let m = given (history-sound calls) i.stands told in
      let l = told.2.limited in
      (omega arith, told.3 ∙ ap order_number_of (sym m))

-- ---- the bank's own numbering

module _ (calls : List BankCall) {s : ℕ} {e : Exchange} {g : List Exchange} (i : OwnInSeries s e g (past_of calls).history) where
  in-series : OpensInSeries s (number_given e) e
  in-series =
      let t = by-own (history-sound calls) i.stands i.opened in
      record {
        id = transaction e.reply;
        is = t.0.1 ∙ ap (λ (m : ℕ). verdict.Of (transaction e.reply) (action.Upload (up.Opened m)))
            (sym (given (history-sound calls) i.stands t.0));
        own = t.1;
        owner = i.owner;
      }

own-apart : (calls : List BankCall) {s : ℕ} {e f : Exchange} {g k : List Exchange} →
    OwnInSeries s e g (past_of calls).history → OwnInSeries s f k (past_of calls).history →
    number_given e ≡ number_given f → (e ≡ f) × (g ≡ k)
own-apart calls {s} {e} {f} i j z =
    one-upload s (number_given f) (history-sound calls) i.stands j.stands
    (subst (λ (m : ℕ). OpensInSeries s m e) z (in-series calls i)) (in-series calls j)

series-counters : (calls : List BankCall) (s : ℕ) → 1 ≤ s → s ≤ subscribers →
    counter_of s calls ≡ own_given s (past_of calls).history
series-counters calls s known most = (invariant calls).series s known most ∙ sym (own-told s (history-sound calls))

module _ (c : BankCall) (calls : List BankCall) (s : ℕ) (known : 1 ≤ s) (most : s ≤ subscribers) where
  abbrev h : List Exchange
  h = (past_of calls).history

  abbrev is_of : Exchange → Bool
  is_of e = is_own_opened e && eqb (subscriber e.request) s

  series-moved : (i : EntersOwn s c calls) → counter_of s (c ∷ calls) ≡ suc (number_given i.exchange)
  unfolding own_given
  series-moved i =
      let x = i.exchange in
      let one : own_given s (x ∷ h) ≡ suc (number_given x) = rw (i.opened, eq-eqb (subscriber x.request) s i.owner) in
      series-counters (c ∷ calls) s known most ∙ (ap (own_given s) i.entered ∙ one)

  -- an opening of edition 2.4, a download, a refused opening, a request to a transaction, a file, a call given a number
  series-still : (EntersOwn s c calls → ⊥) → counter_of s (c ∷ calls) ≡ counter_of s calls
  unfolding own_given
  series-still none =
      series-counters (c ∷ calls) s known most
      ∙ (by-exchange (λ (g : List Exchange). (past_of (c ∷ calls)).history ≡ g → own_given s g ≡ own_given s h) calls c
      (λ _. refl) (λ e _ z. at e z (is_of e) refl) refl
      ∙ sym (series-counters calls s known most))
    where
      at : (e : Exchange) → (past_of (c ∷ calls)).history ≡ e ∷ h → (b : Bool) → is_of e ≡ b →
          cond b (suc (number_given e)) (own_given s h) ≡ own_given s h
      at e z true y =
          let o = and-true (is_own_opened e) (eqb (subscriber e.request) s) y in
          absurd (none (record { exchange = e; entered = z; opened = o.0; owner = eqb-true (subscriber e.request) s o.1 }))
      at e z false y = refl

-- ---- 091115

module _ (context : Context) (b : Bank) (q : Fields) where
  already-exists : unknown_type q ≡ false → other_direction direction.Upload q ≡ false → many_segments q ≡ false → is_replay b q ≡ false →
      is_held b q ≡ true → judge_opening direction.Upload context b q ≡ verdict.Refused code.OrderIdAlreadyExists
  unfolding judge_opening opening_rows
  already-exists type other many replay taken = rw (type, other, many, replay, taken)

-- ---- the next call

module _ {calls : List BankCall} {e : Exchange} (n : Next calls e) where
  abbrev past : List Exchange
  past = (past_of calls).history

  abbrev b : Bank
  b = (judged_bank n).bank

  abbrev q : Fields
  q = asked n

  -- its number is that of the opening, and not held
  opened-as : {u : Verdict} → Happens (number n.input.ids) (judged_bank n) q (sent n) u → (t : Bits128) (m : ℕ) →
      u ≡ verdict.Of t (action.Upload (up.Opened m)) → (m ≡ opening_number b q) × Numbered b q
  opened-as unreadable t m z = absurd (let y : ◌≡◌ {A = ℕ} 0 1 = cc in omega arith)
  opened-as (refused c y) t m z = absurd (let y : ◌≡◌ {A = ℕ} 0 1 = cc in omega arith)
  opened-as (opens_upload f a g some inside own) t m z = (cc, own)
  opened-as (opens_download f a g some) t m z = absurd (let y : ◌≡◌ {A = ℕ} 0 1 = cc in omega arith)
  opened-as (to_upload r a s) t m z =
      let y : a ≡ up.Opened m = cc in
      never (sym (upload-goes-on s.sound) ∙ ap (λ (k : UploadAction). is_opening (action.Upload k)) y)
  opened-as (to_download r a s) t m z = absurd (let y : ◌≡◌ {A = ℕ} 0 1 = cc in omega arith)
  opened-as (signs s) t m z = absurd (let y : ◌≡◌ {A = ℕ} 0 1 = cc in omega arith)

  next-number : (t : Told (all_sound n) newest) → (number_given e ≡ opening_number b q) × Numbered b q
  next-number t =
      let o = opened-as (case-is n) (transaction e.reply) t.0 t.1 in
      (given (all_sound n) newest t ∙ o.0, o.1)

  same-subscriber : subscriber e.request ≡ subscriber q
  same-subscriber = ap subscriber (request-is n)

  module _ (z : is_own_opened e ≡ true) where
    own : Told (all_sound n) newest × (edition_of e.request ≡ edition.V25)
    own = by-own (all_sound n) newest z

    -- the first number from the counter on that is not held
    own-number : number_given e ≡ next_number (subscriber q) b
    own-number = (next-number own.0).0 ∙ number-own (context_of n.input) b q (ap edition_of (sym (request-is n)) ∙ own.1)

    counter : series_of (subscriber q) b.series ≡ own_given (subscriber e.request) past
    counter =
        let x = own.0.2.opening in
        ap (λ (s : ℕ). series_of s b.series) (sym same-subscriber)
        ∙ ((judged-holds n).series (subscriber e.request) x.known x.most
        ∙ sym (own-told (subscriber e.request) (history-sound calls)))

    next-own : own_given (subscriber e.request) past ≤ number_given e
    next-own = let a = next-from (subscriber q) b in let c = counter in let d = own-number in omega arith

    next-skips : (m : ℕ) → own_given (subscriber e.request) past ≤ m → m < number_given e →
        Held (subscriber e.request) m e.clock past
    next-skips m least most =
        let c = counter in
        let d = own-number in
        next-held n (ap (λ (s : ℕ). is_number_held s m b) same-subscriber
        ∙ next-passed (subscriber q) b m (omega arith) (omega arith))

  next-unheld : is_upload_opened e ≡ true → Held (subscriber e.request) (number_given e) e.clock past → ⊥
  next-unheld z k =
      let o = next-number (upload-opened (all_sound n) newest z) in
      never (sym (number-unheld (context_of n.input) b q (judged-holds n).state.sizes.places o.1.unheld)
      ∙ (ap (λ (m : ℕ). is_number_held (subscriber q) m b) (sym o.0)
      ∙ (ap (λ (s : ℕ). is_number_held s (number_given e) b) (sym same-subscriber) ∙ next-found n k)))

  -- ---- a number that its client chose, and that is held

  next-refused : WellMadeOpening e → form e.request ≡ forms.ChosenOpening → Timely e past →
      Held (subscriber e.request) (order_in (order_number e.request)) e.clock past → RefusedWith code.OrderIdAlreadyExists e
  unfolding unknown_type many_segments
  next-refused m f t k =
      refused-with n code.OrderIdAlreadyExists
      (verdict-is n ∙ (verdict-by-form (context_of n.input) (judged_bank n) q (sent n) forms.ChosenOpening chosen
      (well-made n m.made (ap is_request_form chosen))
      ∙ already-exists (context_of n.input) b q
      (ap (λ (y : ℕ). not (eqb y ful || eqb y fdl)) (ap order_type same ∙ kind.0))
      (rw (
        chosen,
        ap order_type same ∙ kind.0,
        ne_eqb (segments q) 0 (λ z. let l = kind.1 in let w = ap segments same in omega arith),
        ap (λ (r : Fields). is_order_number (order_number r)) same ∙ kind.2,
      ))
      (le-ltb max_segments (segments q) (let l = m.few in let w = ap segments same in omega arith))
      (no-replay n t)
      (rw chosen (ap (λ (r : Fields). is_number_held (subscriber r) (order_in (order_number r)) b) same ∙ next-found n k))))
    where
      same : q ≡ e.request
      same = sym (request-is n)

      chosen : form q ≡ forms.ChosenOpening
      chosen = ap form same ∙ f

      Chosen : Type 0
      Chosen = (order_type e.request ≡ ful) × (1 ≤ segments e.request) × (is_order_number (order_number e.request) ≡ true)

      by_kind : ((form e.request ≡ forms.UploadOpening) × (order_type e.request ≡ ful) × (1 ≤ segments e.request))
          ⊎ (((form e.request ≡ forms.ChosenOpening) × (order_type e.request ≡ ful) × (1 ≤ segments e.request)
          × (is_order_number (order_number e.request) ≡ true))
          ⊎ ((form e.request ≡ forms.DownloadOpening) × (order_type e.request ≡ fdl))) → Chosen
      by_kind (inl x) =
          let y : forms.UploadOpening ≡ forms.ChosenOpening = sym x.0 ∙ f in
          absurd (let z : ◌≡◌ {A = ℕ} 0 1 = cc in omega arith)
      by_kind (inr (inl x)) = (x.1, x.2, x.3)
      by_kind (inr (inr x)) =
          let y : forms.DownloadOpening ≡ forms.ChosenOpening = sym x.0 ∙ f in
          absurd (let z : ◌≡◌ {A = ℕ} 0 1 = cc in omega arith)

      kind : Chosen
      kind = by_kind m.kind

-- ---- nothing else gets 091115

-- a refusal with 091115
abbrev is_existing : Verdict → Bool
is_existing verdict.Unreadable = false
is_existing (verdict.Refused c) = eqb (code_field c) (code_field code.OrderIdAlreadyExists)
is_existing (verdict.Of t k) = false
is_existing (verdict.Signed n added) = false

-- what a list judges that gives none is judged behind it
behind : (rows : List (Row Verdict)) (other : Verdict) → no_row is_existing rows ≡ true → is_existing (judged rows other) ≡ true →
    is_existing other ≡ true
behind rows other none =
    judged-by P rows other
    (each-such P (λ (v : Verdict). not (is_existing v)) (λ v k z. never (sym (not_so (is_existing v) k) ∙ z)) [] rows none) (λ _ z. z)
  where
    P : Verdict → Type 0
    P v = is_existing v ≡ true → is_existing other ≡ true

    not_so : (b : Bool) → not b ≡ true → b ≡ false
    not_so true z = never z
    not_so false z = refl

-- it is of an opening of edition 2.4 whose number is held
module _ (context : Context) (b : Bank) (q : Fields) where
  abbrev Chose : Type 0
  Chose = (form q ≡ forms.ChosenOpening) × (is_number_held (subscriber q) (order_in (order_number q)) b ≡ true)

  by-opening : (d : Direction) → is_existing (judge_opening d context b q) ≡ true → is_held b q ≡ true
  unfolding judge_opening opening_rows
  by-opening direction.Upload z =
      (held is_existing code.OrderIdAlreadyExists (opening_rows direction.Upload context.others b q)
      (accepted direction.Upload context.prefix b q) refl refl z).0
  by-opening direction.Download z =
      (held is_existing code.OrderIdAlreadyExists (opening_rows direction.Download context.others b q)
      (accepted direction.Download context.prefix b q) refl refl z).0

  by-transaction : (r : TransactionRequest) → is_existing (judge_transaction r b q) ≡ true → ⊥
  unfolding judge_transaction transaction_rows judge_open
  by-transaction r z =
      never (sym (by-test (λ (v : Verdict). is_existing v ≡ false) (ltb (upload_at b q) place_count) (λ _. refl) (λ _. refl))
      ∙ behind (transaction_rows b q) (judge_open r b q) refl z)

  by-signing : is_existing (judge_signing b q) ≡ true → ⊥
  unfolding judge_signing signing_rows
  by-signing z = never (sym (not-given is_existing (signing_rows b q) (signed b q) refl refl) ∙ z)

  by-request : (x : RequestForm) → form q ≡ Request x → is_existing (judge_request x context b q) ≡ true → Chose
  by-request requests.UploadOpening f z = never (sym (rw f refl) ∙ by-opening direction.Upload z)
  by-request requests.DownloadOpening f z = never (sym (rw f refl) ∙ by-opening direction.Download z)
  by-request requests.UploadTransfer f z = absurd (by-transaction asks.UploadTransfer z)
  by-request requests.DownloadTransfer f z = absurd (by-transaction asks.DownloadTransfer z)
  by-request requests.Receipt f z = absurd (by-transaction asks.Receipt z)
  by-request requests.Signing f z = absurd (by-signing z)
  by-request requests.ChosenOpening f z = (f, rw f at (by-opening direction.Upload z))

  by_form : (x : Form) → form q ≡ x → is_existing (judge_form x context b q) ≡ true → Chose
  by_form NoForm f z = never z
  by_form (Request x) f z = by-request x f z
  by_form (Reply x) f z = never z

  by-judge : (d : ℕ) → is_existing (judge context b q d) ≡ true → Chose
  unfolding judge request_rows
  by-judge d z = by_form (form q) refl (behind (request_rows q d) (judge_form (form q) context b q) refl z)

module _ {calls : List BankCall} {e : Exchange} (n : Next calls e) (r : RefusedWith code.OrderIdAlreadyExists e) where
  coded : code_field (verdict_code e.verdict) ≡ code_field code.OrderIdAlreadyExists
  coded = sym (ap return_code (reply-is (all_sound n) newest) ∙ verdict-code e.verdict e.request) ∙ r.coded

  -- only a refusal has that code
  refuses : (v : Verdict) → e.verdict ≡ v → code_field (verdict_code v) ≡ code_field code.OrderIdAlreadyExists → is_existing v ≡ true
  refuses verdict.Unreadable own z = absurd (omega arith)
  refuses (verdict.Refused c) own z = eq-eqb (code_field c) (code_field code.OrderIdAlreadyExists) z
  refuses (verdict.Signed o added) own z = absurd (omega arith)
  refuses (verdict.Of t (action.Upload (up.Opened m))) own z = absurd (omega arith)
  refuses (verdict.Of t (action.Upload up.Took)) own z = absurd (omega arith)
  refuses (verdict.Of t (action.Upload up.TookLast)) own z = absurd (omega arith)
  refuses (verdict.Of t (action.Upload (up.Point k))) own z = absurd (omega arith)
  refuses (verdict.Of t (action.Upload (up.Cancelled c))) own z =
      never (sym (ap is_cancelling z) ∙ (cancelling-code c ∙ (action-sound (all_sound n) newest own).cancelling))
  refuses (verdict.Of t (action.Download (down.Opened m))) own z = absurd (omega arith)
  refuses (verdict.Of t (action.Download (down.Delivered m))) own z = absurd (omega arith)
  refuses (verdict.Of t (action.Download (down.SentAgain m))) own z = absurd (omega arith)
  refuses (verdict.Of t (action.Download (down.Point m))) own z = absurd (omega arith)
  refuses (verdict.Of t (action.Download down.Cancelled)) own z = absurd (omega arith)
  refuses (verdict.Of t (action.Download down.Confirmed)) own z = absurd (omega arith)
  refuses (verdict.Of t (action.Download down.Declined)) own z = absurd (omega arith)

  next-only-held : (form e.request ≡ forms.ChosenOpening)
      × Held (subscriber e.request) (order_in (order_number e.request)) e.clock (past_of calls).history
  next-only-held =
      let c = by-judge (context_of n.input) (judged_bank n).bank (asked n) (length (sent n))
      (ap is_existing (sym (verdict-is n)) ∙ refuses e.verdict refl coded) in (
        ap form (request-is n) ∙ c.0,
        next-held n (ap (λ (x : Fields). is_number_held (subscriber x) (order_in (order_number x)) (judged_bank n).bank) (request-is n) ∙ c.1),
      )

-- ---- together

pub series : Series
series = record {
  numbered = series-numbered;
  typed = series-typed;
  from = next-own;
  passed = next-skips;
  unheld = next-unheld;
  counters = series-counters;
  moved = series-moved;
  still = series-still;
  apart = own-apart;
  single = single-held;
  refused = next-refused;
  only_held = next-only-held;
}
