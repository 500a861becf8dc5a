-- A transaction's opening is one exchange, as its running number is that of one opening of the bank's history. Assumes
-- nothing.
use Prim.Native.Nat.{ℕ, ◌<◌}
use mathlib.Core.Bool.{Bool, true, false}
use mathlib.Core.List.{List, ◌∷◌}
use mathlib.Core.Logic.{inl, inr}
use mathlib.Core.Path.{◌≡◌, refl, sym, ap, ◌∙◌}
use native.Mathlib.Omega.{arith}
use lib.ListN.{length}
use Rattle.frame_table.specs.declared.fields.Bits128.{Bits128}
use Rattle.frame_table.specs.Names.{exchange, transaction, segments, return_code, form}
use Rattle.frame_reader.specs.Reader.{read_request}
use Rattle.octets.proofs.Tests.{never}
use Rattle.message.specs.Editions.{edition_of}
use Rattle.bank_verdicts.specs.declared.verdict.UploadAction.TheVariants as up
use Rattle.bank_verdicts.specs.declared.verdict.DownloadAction.TheVariants as down
use Rattle.bank_verdicts.specs.declared.verdict.Action.TheVariants as action
use Rattle.bank_verdicts.specs.declared.verdict.Verdict.TheVariants as verdict
use Rattle.bank_history.specs.History.{Stands, newest, older, is_opening, did}
use Rattle.bank_history.specs.History as bank
use Rattle.bank_history.specs.Sound.{AllSound}
use Rattle.bank_history.proofs.Theorems.{upload-opened, download-opened}
use Rattle.exchange.specs.Course.{Issue, Exchange, Course, start, after}
use Rattle.exchange.specs.Lists.{AtMostOne}
use Rattle.exchange.specs.Terms.{IssuedBy}
use Rattle.exchange.specs.Demand3.{OneExchangeNumber}
use Rattle.exchange.specs.Opening.{OpenedAs, OneOpening, Openings}
use Rattle.exchange.proofs.Told.{Opening, one-place-opened, did-action, did_of, opens-upload}
use Rattle.exchange.proofs.Bank.{Entry, Entries, found}
use Rattle.exchange.proofs.Clients.{Parts}
use Rattle.exchange.proofs.Issues.{one-issue}
use Rattle.exchange.proofs.Courses.{parts, parts-start}

-- ---- at most one

-- of what is said by less, at most one is too
weaker : {A : Type 0} {P Q : A → Type 0} → ((x : A) → Q x → P x) → {l : List A} → AtMostOne P l → AtMostOne Q l
weaker f AtMostOne.none = AtMostOne.none
weaker f (AtMostOne.skip {x = x} n r) = AtMostOne.skip (λ q. n (f x q)) (weaker f r)
weaker f (AtMostOne.only n) = AtMostOne.only (λ y m q. n y m (f y q))

shorter : {e : bank.Exchange} {g h : List bank.Exchange} → Stands e g h → length g < length h
shorter newest = omega arith
shorter (older p) = let n = shorter p in omega arith

module _ (s : Course) (v : Parts s) where
  abbrev h : List bank.Exchange
  h = v.bank.past.history

  sound : AllSound v.bank.past.history
  sound = v.bank.holds.invariant.sound

  module _ (i : ℕ) where
    abbrev t : Bits128
    t = (s.runs i).transaction

    -- the bank's exchange opened the run's transaction
    opens : {e : Exchange} {f : bank.Exchange} {g : List bank.Exchange} → Stands f g h → Entry e f → OpenedAs s i e → Opening t f
    opens {e = e} {f = f} stands same (inl o) =
        let u = upload-opened sound stands
        (opens-upload (edition_of (read_request e.request)) f (ap form (sym same.reply) ∙ o.answered)
        (ap return_code (sym same.reply) ∙ o.ok)) in
        record {
          action = action.Upload (up.Opened u.0);
          is = u.1
              ∙ ap (λ (x : Bits128). verdict.Of x (action.Upload (up.Opened u.0))) (ap transaction (sym same.reply) ∙ o.own);
          opening = refl;
        }
    opens {f = f} stands same (inr o) =
        let a = action.Download (down.Opened (segments f.reply)) in
        record {
          action = a;
          is = (download-opened sound stands (ap form (sym same.reply) ∙ o.answered)).0
              ∙ ap (λ (x : Bits128). verdict.Of x a) (ap transaction (sym same.reply) ∙ o.own);
          opening = refl;
        }

    pub opened-once : AtMostOne (OpenedAs s i) s.exchanged
    opened-once = at v.bank.entries (λ f k p. p)
      where
        at : {l : List Exchange} {g : List bank.Exchange} → Entries l g →
            ((f : bank.Exchange) (k : List bank.Exchange) → Stands f k g → Stands f k h) → AtMostOne (OpenedAs s i) l
        at Entries.none up = AtMostOne.none
        at (Entries.more {e = e} {f = f} {l = l} {h = g} same r) up =
            by (did is_opening t f.verdict) refl (at r (λ x k p. up x k (older p)))
          where
            by : (b : Bool) → did is_opening t f.verdict ≡ b → AtMostOne (OpenedAs s i) l → AtMostOne (OpenedAs s i) (e ∷ l)
            by true z rest = AtMostOne.only (λ y m k.
                let x = found r m in
                let d = did-action is_opening t f z in
                let o : Opening t f = record { action = d.action; is = d.is; opening = d.kind } in
                let p = up _ _ (older x.stands) in
                let n = ap length (one-place-opened sound (up _ _ newest) p o (opens p x.same k)) in
                let m = shorter x.stands in
                omega arith)
            by false z rest = AtMostOne.skip (λ k.
                let o = opens (up _ _ newest) same k in
                never (sym z ∙ did_of is_opening t f (record { action = o.action; is = o.is; kind = o.opening }))) rest

  asker : {i : ℕ} {e : Exchange} → OpenedAs s i e → IssuedBy i e.request s
  asker (inl o) = o.received.1
  asker (inr o) = o.received.1

  pub one-opening : OneExchangeNumber s → OneOpening s
  one-opening numbers = record {
    once = opened-once;
    upload = λ i. weaker (λ e o. inl o) (opened-once i);
    download = λ i. weaker (λ e o. inr o) (opened-once i);
    apart = λ i j e a b.
        let (x, m, r, f) = asker a in
        let (y, n, q, g) = asker b in
        sym r ∙ ap (λ (u : Issue). u.run) (one-issue s numbers m n (ap (λ (l : List ℕ). exchange (read_request l)) (f ∙ sym g))) ∙ q;
  }

pub openings : Openings
unfolding Openings
openings ks a n = one-opening (after ks start) (parts ks start parts-start a n) n
