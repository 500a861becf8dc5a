-- A frame call that is answered after a list of calls: the bank as its request is judged, its exchange, its case, and
-- what it leaves.
use Prim.Native.Nat.{ℕ}
use mathlib.Core.Bool.{Bool, true, false}
use mathlib.Core.List.{List, [], ◌∷◌}
use mathlib.Core.Logic.{◌⊎◌, inl, inr}
use mathlib.Core.Path.{◌≡◌, refl, sym, ap, ◌∙◌, subst}
use native.Mathlib.Omega.{arith}
use lib.Dec.{ltb}
use lib.ListN.{length}
use Rattle.frame_table.specs.declared.fields.Bits128.{Bits128}
use Rattle.frame_table.specs.declared.fields.Fields.{Fields}
use Rattle.frame_table.specs.declared.table.Form.{Form}
use Rattle.frame_table.specs.declared.table.Form.TheVariants as form-kinds
use Rattle.frame_table.specs.declared.table.RequestForm.{RequestForm}
use Rattle.frame_table.specs.declared.table.RequestForm.TheVariants as requests
use Rattle.frame_table.specs.Forms as forms
use Rattle.frame_table.specs.Names.{form, return_code}
use Rattle.frame_table.specs.Table.{is_request_form}
use Rattle.octets.specs.Bytes.{number}
use Rattle.octets.proofs.Tests.{never}
use Rattle.frame_reader.specs.Reader.{read_request}
use Rattle.frame_row.specs.Row.{data_of}
use Rattle.message.specs.declared.codes.ReturnCode.{ReturnCode}
use Rattle.message.specs.declared.codes.ReturnCode.TheVariants as code
use Rattle.message.specs.Codes.{code_field}
use Rattle.message.specs.declared.editions.Edition.{Edition}
use Rattle.message.specs.declared.editions.Edition.TheVariants as edition
use Rattle.message.specs.Editions.{edition_of, opening_form}
use Rattle.message.proofs.Verdicts.{by-test}
use Rattle.bank_state.specs.Clock.{advanced}
use Rattle.bank_state.specs.Limits.{place_count}
use Rattle.bank_state.specs.State.{BankState}
use Rattle.bank_verdicts.specs.declared.verdict.Context.{Context}
use Rattle.bank_verdicts.specs.declared.verdict.TransactionRequest.{TransactionRequest}
use Rattle.bank_verdicts.specs.declared.verdict.TransactionRequest.TheVariants as asks
use Rattle.bank_verdicts.specs.declared.verdict.UploadAction.{UploadAction}
use Rattle.bank_verdicts.specs.declared.verdict.UploadAction.TheVariants as up
use Rattle.bank_verdicts.specs.declared.verdict.DownloadAction.{DownloadAction}
use Rattle.bank_verdicts.specs.declared.verdict.DownloadAction.TheVariants as down
use Rattle.bank_verdicts.specs.declared.verdict.Action.{Action}
use Rattle.bank_verdicts.specs.declared.verdict.Action.TheVariants as action
use Rattle.bank_verdicts.specs.declared.verdict.Verdict.{Verdict}
use Rattle.bank_verdicts.specs.declared.verdict.Verdict.TheVariants as verdict
use Rattle.bank_verdicts.specs.Refusals.{not_open, transaction_rows}
use Rattle.bank_verdicts.specs.Judgement.{upload_at, judge_open, judge_transaction, judge}
use Rattle.bank_verdicts.proofs.Sound.{Readable, judged-transaction}
use Rattle.bank_steps.specs.Steps.{carry_out}
use Rattle.bank.specs.Call.{context_of, respond}
use Rattle.bank_history.specs.History.{Exchange, BankCall, Frame, Past, exchange_of, past_of, after, newest, is_opening}
use Rattle.bank_history.specs.Sound.{SoundRequest, SoundAction, SoundUploadAction, SoundDownloadAction, AllSound}
use Rattle.bank_history.specs.Invariant.{Invariant}
use Rattle.bank_history.specs.Transactions.{answered}
use Rattle.bank_history.specs.FalseEconomies.{Next, WellMade, Asks, RefusedWith}
use Rattle.bank_steps.proofs.Cases.{Happens, happens}
use Rattle.bank_history.proofs.Changes.{after_frame_lem}
use Rattle.bank_history.proofs.Clock.{advanced-keeps}
use Rattle.bank_history.proofs.Keeps.{past-holds}
use Rattle.bank_history.proofs.Positions.{action-sound, request-of}
use Rattle.bank_history.proofs.Replies.{verdict_form, verdict_code, verdict-form, verdict-code}
use Rattle.bank_history.proofs.Theorems.{reply-is}
use Rattle.bank_history.proofs.UploadRequests.{verdict-by-form}

-- ---- the forms of openings

abbrev is_opening_request : RequestForm → Bool
is_opening_request requests.UploadOpening = true
is_opening_request requests.DownloadOpening = true
is_opening_request requests.UploadTransfer = false
is_opening_request requests.DownloadTransfer = false
is_opening_request requests.Receipt = false
is_opening_request requests.Signing = false
is_opening_request requests.ChosenOpening = true

abbrev is_opening_form : Form → Bool
is_opening_form form-kinds.NoForm = false
is_opening_form (form-kinds.Request x) = is_opening_request x
is_opening_form (form-kinds.Reply x) = false

opening-form : (x : Edition) → is_opening_form (opening_form x) ≡ true
opening-form edition.V24 = refl
opening-form edition.V25 = refl

-- ---- the verdict on a request to a transaction: 091101, or an action

abbrev Acted : Verdict → Type 0
Acted v = (t : Bits128) × (k : Action) × (v ≡ verdict.Of t k)

abbrev Answer : Verdict → Type 0
Answer v = (v ≡ verdict.Refused code.UnknownTransaction) ⊎ Acted v

module _ (context : Context) (w : BankState) (q : Fields) (d : List ℕ) where
  by-transaction : (r : TransactionRequest) → Answer (judge_transaction r w.bank q)
  unfolding judge_transaction judge_open
  by-transaction r =
      judged-transaction Answer w.bank q _ (inl refl)
      (λ _. by-test Answer (ltb (upload_at w.bank q) place_count) (λ _. inr (_, _, refl)) (λ _. inr (_, _, refl)))

  -- an action, where it is open
  by-open : not_open w.bank q ≡ false → (r : TransactionRequest) → Acted (judge_transaction r w.bank q)
  unfolding judge_transaction transaction_rows judge_open
  by-open some r =
      rw some (by-test Acted (ltb (upload_at w.bank q) place_count) (λ _. (_, _, refl)) (λ _. (_, _, refl)))

  by-request : (P : Verdict → Type 0) → ((r : TransactionRequest) → P (judge_transaction r w.bank q)) →
      (is_request_form (form q) ≡ true → Readable q (length d)) →
      (form q ≡ forms.UploadTransfer) ⊎ ((form q ≡ forms.DownloadTransfer) ⊎ (form q ≡ forms.Receipt)) →
      P (judge context w.bank q (length d))
  by-request P by readable (inl f) =
      subst P (sym (verdict-by-form context w q d forms.UploadTransfer f (readable (ap is_request_form f))))
      (by asks.UploadTransfer)
  by-request P by readable (inr (inl f)) =
      subst P (sym (verdict-by-form context w q d forms.DownloadTransfer f (readable (ap is_request_form f))))
      (by asks.DownloadTransfer)
  by-request P by readable (inr (inr f)) =
      subst P (sym (verdict-by-form context w q d forms.Receipt f (readable (ap is_request_form f)))) (by asks.Receipt)

-- ---- the call

head-or : Exchange → List Exchange → Exchange
head-or e [] = e
head-or e (x ∷ h) = x

module _ {calls : List BankCall} {e : Exchange} (n : Next calls e) where
  abbrev past : Past
  past = past_of calls

  -- the bank as the request is judged, the request, its data
  abbrev pub judged_bank : BankState
  judged_bank = advanced n.input.time (past_of calls).bank_state

  abbrev pub asked : Fields
  asked = read_request n.input.frame

  abbrev pub sent : List ℕ
  sent = data_of n.input.frame

  pub left : past_of (Frame n.input ∷ calls) ≡ answered n.input
      (past_of calls)
  unfolding past_of
  left = at (after_frame_lem n.input past)
    where
      c : BankCall
      c = Frame n.input

      at : (after c past ≡ past) ⊎ (after c past ≡ answered n.input past) →
          after c past ≡ answered n.input past
      at (inl z) =
          let l : length past.history ≡ length (e ∷ past.history) =
          ap length (sym (ap (λ (r : Past). r.history) z) ∙ n.entered) in
          absurd (omega arith)
      at (inr z) = z

  pub exchange-is : e ≡ exchange_of (context_of n.input) judged_bank asked sent
  unfolding head-or exchange_of
  exchange-is = ap (head-or e) (sym n.entered ∙ ap (λ (r : Past). r.history) left)

  pub judged-holds : Invariant judged_bank (past_of calls).history
  judged-holds = advanced-keeps n.input.time past.bank_state past.history (past-holds calls).invariant

  pub all_sound : AllSound (e ∷ (past_of calls).history)
  all_sound =
      subst AllSound n.entered
      (past-holds (Frame n.input ∷ calls)).invariant.sound

  pub verdict-is : e.verdict ≡ judge (context_of n.input) judged_bank.bank asked (length sent)
  unfolding exchange_of respond
  verdict-is = ap (λ (x : Exchange). x.verdict) exchange-is

  pub request-is : e.request ≡ asked
  unfolding exchange_of
  request-is = ap (λ (x : Exchange). x.request) exchange-is

  pub data_is : e.request_data ≡ sent
  unfolding exchange_of
  data_is = ap (λ (x : Exchange). x.request_data) exchange-is

  pub clock-is : e.clock ≡ judged_bank.bank.clock
  unfolding exchange_of
  clock-is = ap (λ (x : Exchange). x.clock) exchange-is

  pub case-is : Happens (number n.input.ids) judged_bank asked sent e.verdict
  case-is =
      subst (Happens (number n.input.ids) judged_bank asked sent) (sym verdict-is)
      (happens (context_of n.input) judged_bank asked sent judged-holds.state.sizes.places
      judged-holds.state.sizes.downloads)

  -- the bank after the call
  pub bank-after : (past_of (Frame n.input ∷ calls)).bank_state ≡ carry_out
      e.verdict judged_bank asked sent
  unfolding respond
  bank-after =
      ap (λ (r : Past). r.bank_state) left ∙ ap (λ (v : Verdict). carry_out v judged_bank asked sent) (sym verdict-is)

  pub refused-with : (c : ReturnCode) → e.verdict ≡ verdict.Refused c → RefusedWith c e
  refused-with c own =
      let r = reply-is all_sound newest in
      record {
        formed = ap form r ∙ (verdict-form e.verdict e.request ∙ ap (verdict_form (edition_of e.request)) own);
        coded = ap return_code r
            ∙ (verdict-code e.verdict e.request ∙ ap (λ (v : Verdict). code_field (verdict_code v)) own);
      }

  pub well-made : WellMade e → is_request_form (form asked) ≡ true → Readable asked (length sent)
  well-made m f =
      record {
        request = f;
        known = rw (sym request-is) m.known;
        most = rw (sym request-is) m.most;
        short = rw (sym data_is) m.short;
      }

  -- ---- a request to the transaction t

  module _ {t : Bits128} (a : Asks t e) where
    by-asked : (P : Verdict → Type 0) →
        ((r : TransactionRequest) → P (judge_transaction r judged_bank.bank asked)) →
        P e.verdict
    by-asked P by =
        subst P (sym verdict-is)
        (by-request (context_of n.input) judged_bank asked sent P by (well-made a.made)
        (rw (sym request-is) a.kind))

    pub answer : Answer e.verdict
    answer = by-asked Answer (by-transaction (context_of n.input) judged_bank asked sent)

    -- an action, where the transaction is open
    pub acted : not_open judged_bank.bank asked ≡ false → (u : Bits128) × (k : Action) × (e.verdict ≡ verdict.Of u k)
    acted some = by-asked Acted (by-open (context_of n.input) judged_bank asked sent some)

    not-form : {f : Form} → form e.request ≡ f → is_opening_form f ≡ true → ⊥
    not-form {f} z o = at a.kind
      where
        by : {k : Form} → form e.request ≡ k → is_opening_form k ≡ false → ⊥
        by x y = never (sym y ∙ (ap is_opening_form (sym x ∙ z) ∙ o))

        at : (form e.request ≡ forms.UploadTransfer) ⊎
            ((form e.request ≡ forms.DownloadTransfer) ⊎ (form e.request ≡ forms.Receipt)) → ⊥
        at (inl x) = by x refl
        at (inr (inl x)) = by x refl
        at (inr (inr x)) = by x refl

    upload-no-opening : (u : Bits128) (k : UploadAction) → SoundUploadAction k u e (past_of calls).history →
        is_opening (action.Upload k) ≡ false
    upload-no-opening u (up.Opened m) s = absurd (not-form s.opening.asked (opening-form (edition_of e.request)))
    upload-no-opening u up.Took s = refl
    upload-no-opening u up.TookLast s = refl
    upload-no-opening u (up.Point m) s = refl
    upload-no-opening u (up.Cancelled c) s = refl

    download-no-opening : (u : Bits128) (k : DownloadAction) → SoundDownloadAction k u e (past_of calls).history →
        is_opening (action.Download k) ≡ false
    download-no-opening u (down.Opened m) s = absurd (not-form s.opening.asked refl)
    download-no-opening u (down.Delivered m) s = refl
    download-no-opening u (down.SentAgain m) s = refl
    download-no-opening u (down.Point m) s = refl
    download-no-opening u down.Cancelled s = refl
    download-no-opening u down.Confirmed s = refl
    download-no-opening u down.Declined s = refl

    -- it opens nothing
    pub no-opening : (u : Bits128) (k : Action) → SoundAction k u e (past_of calls).history → is_opening k ≡ false
    no-opening u (action.Upload k) s = upload-no-opening u k s
    no-opening u (action.Download k) s = download-no-opening u k s

    -- an action on it is one on t, open for this subscriber
    pub asked-open : {u : Bits128} {k : Action} → e.verdict ≡ verdict.Of u k →
        (u ≡ t) × SoundRequest u e (past_of calls).history
    asked-open {u} {k} own =
        let s = action-sound all_sound newest own in
        let r = request-of k (no-opening u k s) s in
        (r.same ∙ a.to, r)

    -- 091101, unless it is open
    pub unknown-unless : ((u : Bits128) (k : Action) → e.verdict ≡ verdict.Of u k → ⊥) →
        e.verdict ≡ verdict.Refused code.UnknownTransaction
    unknown-unless never-of = at answer
      where
        at : Answer e.verdict → e.verdict ≡ verdict.Refused code.UnknownTransaction
        at (inl z) = z
        at (inr (u, k, z)) = absurd (never-of u k z)
