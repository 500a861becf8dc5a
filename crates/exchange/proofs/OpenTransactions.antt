-- A run's open transaction stays as it is while frames and files of others come. Assumes nothing.
use Prim.Native.Nat.{ℕ, ◌≤◌}
use mathlib.Core.Bool.{Bool, true, false}
use mathlib.Core.List.{List, ◌∷◌}
use mathlib.Core.Path.{◌≡◌, refl, sym, ap, ◌∙◌, subst}
use native.Mathlib.Omega.{arith}
use Rattle.frame_table.specs.declared.fields.Bits128.{Bits128}
use Rattle.frame_table.specs.declared.table.Form.{Form}
use Rattle.frame_table.specs.Names.{subscriber}
use Rattle.frame_reader.specs.Reader.{read_request}
use Rattle.frame_row.specs.Row.{data_of}
use Rattle.octets.proofs.Tests.{never}
use Rattle.bank_state.specs.Search.{open_count_of}
use Rattle.bank_state.specs.State.{BankState}
use Rattle.bank_verdicts.specs.declared.verdict.DownloadAction.TheVariants as down
use Rattle.bank_verdicts.specs.declared.verdict.Action.TheVariants as action
use Rattle.bank_verdicts.specs.declared.verdict.Verdict.TheVariants as verdict
use Rattle.bank.specs.Call.{context_of, respond, FrameInput}
use Rattle.bank_history.specs.History.{Past, BankCall, Frame, is_action, did, exchange_of, call_exchange}
use Rattle.bank_history.specs.History as bank
use Rattle.bank_history.specs.Transactions.{DownloadAt, UploadUnlessIdle, DownloadUnlessIdle}
use Rattle.bank_history.proofs.Entries.{did-same}
use Rattle.bank_history.proofs.Liveness.{upload-stays, download-stays, clock-grows}
use Rattle.message.specs.declared.directions.Direction.{Direction}
use Rattle.message.specs.declared.directions.Direction.TheVariants.{Upload, Download}
use Rattle.exchange.specs.Course.{Course}
use Rattle.exchange.specs.Terms.{IssuedBy}
use Rattle.exchange.specs.Demand3.{is_subscribers, OneExchangeNumber}
use Rattle.exchange.proofs.Told.{did-action}
use Rattle.exchange.proofs.Bank.{Entered}
use Rattle.exchange.proofs.Clients.{issues_of, OpenedBy, Parts}
use Rattle.exchange.proofs.Courses.{Copied}
use Rattle.exchange.proofs.Foreign.{acts-own, confirms-own}

-- the transaction t of subscriber s is open unless an idle hour has passed: k of n segments taken, or k delivered
abbrev pub OpenUnlessIdle : Direction → BankState → Bits128 → ℕ → ℕ → ℕ → ℕ → Type 0
OpenUnlessIdle Upload w t s k n last = UploadUnlessIdle w t s k n last
OpenUnlessIdle Download w t s k n last = DownloadUnlessIdle w t s k last

-- only one exchange is entered by a call
entered-one : {x e : bank.Exchange} {l : List bank.Exchange} → x ∷ l ≡ e ∷ l → x ≡ e
entered-one z = cc

module _ (s : Course) (v : Parts s) (copies : Copied s) (numbers : OneExchangeNumber s) where
  -- over an answered frame that is no copy of the run's request
  module _ (a : FrameInput) (given : is_subscribers a.frame ≡ true → (j : ℕ) × IssuedBy j a.frame s)
      (after : Course)
      (en : Entered s v.bank a after) {i : ℕ} {t : Bits128} {y : Form}
      (o : OpenedBy y v.bank.past.history t (issues_of i s.issued)) (foreign : IssuedBy i a.frame s → ⊥) where
    abbrev p : Past
    p = v.bank.past

    abbrev c : BankCall
    c = Frame a

    abbrev x : bank.Exchange
    x = call_exchange v.bank.past.bank_state a

    is-entered : (e : bank.Exchange) → (bank.after (Frame a) v.bank.past).history ≡ e ∷ v.bank.past.history →
        call_exchange v.bank.past.bank_state a ≡ e
    is-entered e z = entered-one (sym (ap (λ (r : Past). r.history) en.next) ∙ z)

    untouched : did is_action t (call_exchange v.bank.past.bank_state a).verdict ≡ false
    untouched = at (did is_action t x.verdict) refl
      where
        at : (b : Bool) → did is_action t x.verdict ≡ b → b ≡ false
        at false e = refl
        at true e = absurd (foreign (acts-own s v copies numbers a given en.sound o (did-action is_action t x e)))

    no-action : (e : bank.Exchange) → (bank.after (Frame a) v.bank.past).history ≡ e ∷ v.bank.past.history →
        did is_action t e.verdict ≡ false
    no-action e z = ap (λ (f : bank.Exchange). did is_action t f.verdict) (sym (is-entered e z)) ∙ untouched

    now : (bank.after (Frame a) v.bank.past).bank_state ≡ after.bank
    now = ap (λ (r : Past). r.bank_state) en.next ∙ sym en.bank

    pub upload-standing : {u k n last : ℕ} → UploadUnlessIdle s.bank t u k n last → UploadUnlessIdle after.bank t u k n last
    upload-standing {u} {k} {n} {last} stood =
        subst (λ (w : BankState). UploadUnlessIdle w t u k n last) now
        (upload-stays t u k n last c p v.bank.holds (subst (λ (w : BankState). UploadUnlessIdle w t u k n last)
        (sym v.bank.bank_state) stood) no-action)

    -- where the subscriber has nothing else open
    pub download-standing : {u d last : ℕ} → open_count_of u s.bank.bank ≤ 1 → DownloadUnlessIdle s.bank t u d last →
        DownloadUnlessIdle after.bank t u d last
    unfolding exchange_of respond
    download-standing {u} {d} {last} few stood =
        subst (λ (w : BankState). DownloadUnlessIdle w t u d last) now (λ bound.
        let there = before (let g = clock-grows c p v.bank.holds in omega arith) in
        download-stays t u d last c p v.bank.holds before no-action
        (λ e id z own from. confirmed-not there (ap (λ (f : bank.Exchange). f.verdict) (is-entered e z) ∙ own)
        (ap (λ (f : bank.Exchange). subscriber f.request) (is-entered e z) ∙ from)) bound)
      where
        before : DownloadUnlessIdle v.bank.past.bank_state t u d last
        before = subst (λ (w : BankState). DownloadUnlessIdle w t u d last) (sym v.bank.bank_state) stood

        confirmed-not : {id : Bits128} → DownloadAt v.bank.past.bank_state t u d last →
            x.verdict ≡ verdict.Of id (action.Download down.Confirmed) →
            subscriber x.request ≡ u → ⊥
        confirmed-not {id} there own from =
            let same : id ≡ t =
            confirms-own (context_of a) a.time p.bank_state (read_request a.frame) (data_of a.frame)
            p.history
            v.bank.holds.invariant
            there (subst (λ (w : BankState). open_count_of u w.bank ≤ 1) (sym v.bank.bank_state) few) own from in
            never (sym untouched ∙ (ap (did is_action t) (own ∙ ap (λ (b : Bits128). verdict.Of b (action.Download down.Confirmed)) same)
            ∙ did-same is_action t (action.Download down.Confirmed)))
